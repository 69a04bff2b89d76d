-- The names of a path, and dates: the laws of `version_laws`, passed on.
pub use Rattle.version_laws.proofs.Names.{LegalText, text_facts, padded_legal, padded_length, Legal, AllLegal, last_legal, date_length}
