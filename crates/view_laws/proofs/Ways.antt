-- The way to a directory stays where the pages of the directories on it stay: in each of them the same entry has the name.
use mathlib.Core.Path.{◌≡◌, ap, ◌∙◌}
use Prim.Native.Nat.{ℕ, zero, suc, ◌+◌, ◌≤◌}
use native.Mathlib.Omega.{arith}
use mathlib.Core.Option.{Option, some, map}
use mathlib.Core.List.{List, [], ◌∷◌}
use lib.ListN.{length, length-append}
use Rattle.volume.specs.Bytes.{Bytes}
use Rattle.volume.specs.Lists.{first}
use Rattle.volume.proofs.Occ.{occ, Mem, occ_append}
use Rattle.volume.proofs.Tests.{first_cong}
use Rattle.model.specs.Entry.{Entry}
use Rattle.model.specs.View.{View}
use Rattle.model.specs.Sound.{is_named, owned}
use Rattle.model.specs.Path.{Name}
use Rattle.model.specs.Walk.{Walked, arrived, entry_named, enter_on, walk_on}
use Rattle.view_laws.proofs.Owns.{subtree, own_length}
use Rattle.view_laws.proofs.Frame.{ReadsAlike, Follows, Headed, mem_long}
use Rattle.view_laws.proofs.Focus.{Leads, named_found, directory_le, own_directory, leads_sub}

module _ {v v' : View} {Same : ℕ → Type 0} (w : Follows v v' Same) where
  named_kept : (p : ℕ) (n : Bytes) → ReadsAlike v v' p → entry_named v' p n ≡ entry_named v p n
  unfolding entry_named
  named_kept p n a =
      ap (first (λ x. is_named n (v'.entry_at x))) a.positions
      ∙ first_cong (λ x. is_named n (v'.entry_at x)) (λ x. is_named n (v.entry_at x)) (v.entries p) (λ x m. ap (is_named n) (a.fields x m))

  pub leads_kept : (names : List Name) (d p e t : ℕ) → ((q : ℕ) → occ q (subtree d v p) ≤ 1) → Leads v d p names e t
      → ((q : ℕ) → Mem q (subtree d v p) → occ q (subtree e v t) ≡ 0 → Same q) → Leads v' d p names e t
  leads_kept [] d p e t once l frame = l
  leads_kept (n ∷ ns) zero p e t once l frame = absurd l
  leads_kept (n ∷ ns) (suc d) p e t once l frame =
      let at : ℕ = l.0 in
      let s : ℕ = l.1 in
      let found = named_found v p n.bytes at l.2 in
      let le : (q : ℕ) → occ q (subtree d v s) ≤ occ q (owned (suc d) v p) = λ q. directory_le d v p at s q found.0 l.3 in
      let sub : (q : ℕ) → occ q (subtree e v t) ≤ occ q (subtree d v s) = λ q. leads_sub v ns d s e t q l.4 in
      let split : (q : ℕ) → occ q (subtree (suc d) v p) ≡ occ q (v.directory_pages p) + occ q (owned (suc d) v p) =
      λ q. occ_append q (v.directory_pages p) (owned (suc d) v p) in
      let here : ReadsAlike v v' p = w.directory p (λ q m. frame q (omega (arith, m, split q)) (omega (arith, m, split q, once q, le q, sub q))) in (
        at,
        s,
        named_kept p n.bytes here ∙ l.2,
        record { name = l.3.name; date = l.3.date; size = l.3.size; is = here.fields at found.0 ∙ l.3.is },
        leads_kept ns d s e t (λ q. omega (arith, le q, once q, split q)) l.4 (λ q k z. frame q (omega (arith, le q, k, split q)) z),
      )

pub leads_walk : (v : View) (names : List Name) (d p e t : ℕ) → Leads v d p names e t → walk_on v names p ≡ arrived t
unfolding walk_on enter_on
leads_walk v [] d p e t l = ap {B = Walked ℕ} (λ x. arrived x) l.1
leads_walk v (n ∷ ns) zero p e t l = absurd l
leads_walk v (n ∷ ns) (suc d) p e t l =
    ap (λ (o : Option ℕ). enter_on n (map v.entry_at o) (walk_on v ns)) l.2
    ∙ ap (λ (x : Entry). enter_on n (some x) (walk_on v ns)) l.3.is
    ∙ leads_walk v ns d l.1 e t l.4

-- every directory on the way owns a page
pub leads_many : (v : View) → Headed v → (names : List Name) (d p e t : ℕ) → Leads v d p names e t → length names ≤ length (owned d v p)
leads_many v headed [] d p e t l = omega arith
leads_many v headed (n ∷ ns) zero p e t l = absurd l
leads_many v headed (n ∷ ns) (suc d) p e t l =
    let m = (named_found v p n.bytes l.0 l.2).0 in
    omega (
      arith,
      leads_many v headed ns d l.1 e t l.4,
      own_length d v p l.0 m,
      ap length (own_directory d v l.0 l.1 l.3),
      length-append (v.directory_pages l.1) (owned d v l.1),
      mem_long l.1 (v.directory_pages l.1) (headed l.1),
    )
