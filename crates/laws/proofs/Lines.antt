-- Lists of refusal lines, of any version: the laws of `version_laws`, passed on.
pub use Rattle.version_laws.proofs.Lines.{passed, passes_right, passes_left, settle_skip, settle_holds, settle_append, settle_open, settle_both, not_granted, granted_passed, settle_refused, settle_first, Numbered, refused_numbered, line_numbers, NoTen, ten_given, InOrder, above_ten, below_ten, above_ten_lem, below_ten_lem, fault_numbered}
unfoldable pub use Rattle.version_laws.proofs.Lines.{rank_in, rising}
