-- The row of owners, page by page: 0 where nobody owns the page, else the position of the one entry that does; and what the code reads there.
use mathlib.Core.Path.{◌≡◌, refl, sym, ap, ◌∙◌, subst}
use mathlib.Core.Logic.{◌≢◌}
use Prim.Native.Nat.{ℕ, zero, suc, ◌+◌, ◌≤◌, ◌<◌}
use native.Mathlib.Omega.{arith}
use mathlib.Core.Bool.{Bool, true, not}
use mathlib.Core.List.{List, [], ◌∷◌, map}
use lib.ListN.{length, get_or, length-map}
use lib.Dec.{T}
use Rattle.volume.specs.Bytes.{Bytes}
use Rattle.std.specs.Prelude.{if◌then◌else◌}
use Rattle.volume.proofs.Tests.{member_occ}
use Rattle.model.specs.Layout.{page_count, valid_length}
use Rattle.model.specs.Entry.{Entry, vacant, entry_at}
use Rattle.model.specs.Sound.{reached_entries}
use Rattle.laws.proofs.Facts.{Sized, valid_sized, sound_facts_lem}
use Rattle.fields.specs.declared.Entry.{Entry as Read}
use Rattle.fields.specs.Read.{entry_of}
use Rattle.audit.specs.Owner.{Owner, nobody, header, entry, owner_number, owner_row, owner_numbers}
use Rattle.audit.specs.Demand.{Named, is_free, is_owned}
use Rattle.audit.proofs.Promise.{audit_demand}
use Rattle.moves.specs.Tidy.{first_entry, owner_entry}
use Rattle.moves.specs.Propose.{is_file_entry, starts_on, file_from, is_other}
use Rattle.moves.proofs.Reached.{reached_inside}
use Rattle.proposals.specs.Steps.{Judged, link_leads, leads_on}

-- what number `at` says of page p
data Owns (b : Bytes) (p at : ℕ) : Type 0 where
  none : at ≡ 0 → owner_entry b p ≡ vacant → Owns b p at
  one : 64 ≤ at → at + 32 ≤ length b → owner_entry b p ≡ entry_at b at → Owns b p at

number_at : (row : List Owner) (p : ℕ) → get_or (map owner_number row) p 0 ≡ owner_number (get_or row p nobody)
number_at [] p = refl
number_at (o ∷ row) zero = refl
number_at (o ∷ row) (suc p) = number_at row p

module _ {b : Bytes} {owners : List ℕ} (j : Judged b owners) where
  pub owners_long : length owners ≡ 256
  unfolding owner_numbers
  owners_long = ap length j.named ∙ length-map (owner_row b) owner_number ∙ audit_demand.long b

  pub fits : T (valid_length (length b))
  fits = (sound_facts_lem j.is_sound).fits

  pub sized : Sized b
  sized = valid_sized b fits

  pub owner_there : {p : ℕ} → p < page_count b → p < length owners
  owner_there l = omega (arith, owners_long, sized.high)

  module _ {p : ℕ} (low : 1 ≤ p) (high : p < page_count b) where
    owns : Owns b p (get_or owners p 0)
    unfolding owner_numbers owner_entry
    owns =
        subst (Owns b p) (sym (ap (λ (r : List ℕ). get_or r p 0) j.named ∙ number_at (owner_row b) p))
        (go (get_or (owner_row b) p nobody) (audit_demand.pages b j.is_sound p low high))
      where
        go : (o : Owner) → Named b p o → Owns b p (owner_number o)
        go nobody (is_free z e) = none refl (ap (first_entry b) e)
        go header m = elim m [ ]
        go (entry x) (is_owned at z e m k) =
            one (audit_demand.apart b at m) (reached_inside b (sound_facts_lem j.is_sound) at (member_occ at (reached_entries b) m)) (ap (first_entry b) e)

    pub owner_none : get_or owners p 0 ≡ 0 → vacant ≡ owner_entry b p
    owner_none e = go owns
      where
        go : Owns b p (get_or owners p 0) → vacant ≡ owner_entry b p
        go (none z v) = sym v
        go (one l h v) = absurd (omega arith)

    pub owner_inside : get_or owners p 0 ≢ 0 → get_or owners p 0 + 32 ≤ length b
    owner_inside n = go owns
      where
        go : Owns b p (get_or owners p 0) → get_or owners p 0 + 32 ≤ length b
        go (none z v) = absurd (n z)
        go (one l h v) = h

    pub owner_read : get_or owners p 0 ≢ 0 → entry_at b (get_or owners p 0) ≡ owner_entry b p
    owner_read n = go owns
      where
        go : Owns b p (get_or owners p 0) → entry_at b (get_or owners p 0) ≡ owner_entry b p
        go (none z v) = absurd (n z)
        go (one l h v) = sym v

-- the owner's entry, by the case that was read
pub kind : {r s : Read} (l : Bool) (n d : Bytes) {e : Entry} → entry_of r l n d ≡ e → r ≡ s → e ≡ entry_of s l n d
kind l n d h q = sym h ∙ ap (λ (x : Read). entry_of x l n d) q

pub other_of : (b : Bytes) (p : ℕ) {e : Entry} → owner_entry b p ≡ e → not (is_file_entry e) ≡ is_other b p
unfolding is_other
other_of b p q = ap (λ (x : Entry). not (is_file_entry x)) (sym q)

pub leads_of : (b : Bytes) (places : List ℕ) (p : ℕ) {e : Entry} → owner_entry b p ≡ e → (if is_file_entry e then link_leads b places p else true) ≡ leads_on b places p
unfolding leads_on
leads_of b places p q = ap (λ (x : Entry). if is_file_entry x then link_leads b places p else true) (sym q)

pub file_of : (b : Bytes) (p : ℕ) {e : Entry} → owner_entry b p ≡ e → starts_on b p e ≡ file_from b p
unfolding file_from
file_of b p q = ap (starts_on b p) (sym q)
