-- What version 1 owes the laws of calls (`version_laws`), paid: its lines, counts, owners and lengths, its judge, its numbers, and what each call does.
use mathlib.Core.Path.{◌≡◌, refl, sym, ◌∙◌}
use mathlib.Core.Logic.{inl, inr}
use Prim.Native.Nat.{ℕ, ◌*◌, ◌≤◌, ◌<◌}
use native.Mathlib.Omega.{arith}
use mathlib.Core.Bool.{not}
use mathlib.Core.List.{[], ◌∷◌}
use lib.ListN.{length}
use lib.Dec.{T}
use Rattle.volume.specs.Bytes.{Bytes}
use Rattle.volume.proofs.Tests.{not_not}
use Rattle.volume.proofs.Marks.{bit_cases}
use Rattle.model.specs.Layout.{version1, page_count, valid_length, valid_header}
use Rattle.model.specs.Sound.{sound, owners_in}
use Rattle.model.specs.Image.{tree_of, tree_in}
use Rattle.model.specs.Call.{refusal}
use Rattle.model.specs.Version.{v1}
use Rattle.model.specs.Refusal.{Passes}
use Rattle.model.specs.Demands.{Owned, is_free, is_owned}
use Rattle.view_laws.proofs.Owners.{owners_free, owners_one}
use Rattle.version_laws.proofs.Owed as Any
use Rattle.version_laws.proofs.Lengths.{kept}
use Rattle.laws.proofs.Facts.{Facts, viewed, sound_facts_lem, valid_sized}
use Rattle.laws.proofs.Counting.{free_sum, free_number_lem}
use Rattle.laws.proofs.Format.{fresh, formatted_length}
use Rattle.laws.proofs.Judged.{judge_sound}
use Rattle.laws.proofs.Grants.{granted_law}
use Rattle.laws.proofs.Lines.{passed}
use Rattle.laws.proofs.Numbers.{own_numbers_lem}

-- ---- the owners of a page

pub page_owned : {b : Bytes} → Facts b → (p : ℕ) → 1 ≤ p → p < page_count b → Owned b p
unfolding owners_in
page_owned {b} f p l u = elim (bit_cases version1 b p) [
  | inl z ↦ is_free z (owners_free (viewed f) p l u z)
  | inr o ↦ let r = owners_one (viewed f) p l u o in is_owned r.0 o r.1
]

-- ---- the lines of the length and the header

pub header_passed : (b : Bytes) → Passes ((not (valid_length (length b)), refusal 1) ∷ (not (valid_header b), refusal 2) ∷ []) → T (valid_length (length b)) × T (valid_header b)
header_passed b e =
    let p = passed _ _ e in
    (not_not (valid_length (length b)) p.0, not_not (valid_header b) (passed _ _ p.1).0)

-- ---- all

tree_pages : (b : Bytes) → (tree_of b).pages ≡ page_count b
unfolding tree_in
tree_pages b = refl

whole : (b : Bytes) → T (sound b) → (tree_of b).pages * 256 ≡ length b
unfolding tree_in
whole b h = omega (arith, (valid_sized b (sound_facts_lem h).fits).whole)

counted : (b : Bytes) → T (sound b) → Any.Counted v1 b
counted b h =
    let f = sound_facts_lem h in
    record { sum = free_sum f ∙ sym (tree_pages b); zeros = sym f.counted; free = free_number_lem f; owned = page_owned f }

pub owed : Any.Owed v1
owed = record {
  long = whole;
  judged = λ b e. let p = header_passed b e in judge_sound b p.0 p.1;
  counts = counted;
  numbered = own_numbers_lem;
  grants = granted_law;
  fresh = λ new b e. fresh b (not_not (valid_length (length b)) (passed _ _ e).0);
  kept = kept v1 whole granted_law (λ new b e. formatted_length b (not_not (valid_length (length b)) (passed _ _ e).0));
}
