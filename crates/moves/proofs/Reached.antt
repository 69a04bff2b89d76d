-- What holds of the entries of one directory, and goes on to the directories among them, holds of every entry that is reached.
use mathlib.Core.Path.{◌≡◌, refl, sym, subst}
use mathlib.Core.Logic.{inl, inr}
use Prim.Native.Nat.{ℕ, zero, suc, ◌+◌, ◌≤◌, ◌<◌}
use native.Mathlib.Omega.{arith}
use mathlib.Core.List.{[]}
use lib.ListN.{length}
use Rattle.volume.specs.Bytes.{Bytes}
use Rattle.volume.proofs.Occ.{Mem, mem_head, mem_tail, mem_cons}
use Rattle.volume.proofs.Flat.{mem_flat_map, occ_flat_map_le}
use Rattle.model.specs.Layout.{page_count}
use Rattle.model.specs.Entry.{entries, Entry, vacant, a_file, a_directory, entry_at}
use Rattle.model.specs.Version1.{view}
use Rattle.model.specs.Sound.{pages_of, in_directory, reached_by, reached, reached_entries}
use Rattle.laws.proofs.Facts.{Facts, valid_sized}
use Rattle.laws.proofs.Entries.{entry_within}
use Rattle.audit.proofs.Owners.{owner_is}

module _ (b : Bytes) (R Q P : ℕ → Type 0) (here : (q at : ℕ) → Q q → Mem at (entries q) → P at)
    (below : (at : ℕ) → R at → in_directory (Unit {0}) Q (entry_at b at)) where
  deeper : (d at x : ℕ) (e : Entry) → P at → in_directory (Unit {0}) Q e → Mem x (reached_by at (reached d (view b)) e)
      → ((y : ℕ) → Mem y (reached_by at (reached d (view b)) e) → R y)
      → ((q : ℕ) → Q q → ((y : ℕ) → Mem y (reached d (view b) q) → R y) → Mem x (reached d (view b) q) → P x) → P x
  unfolding reached_by
  deeper d at x vacant p q m h next = absurd (omega arith)
  deeper d at x (a_file locked name date start size) p q m h next = elim (mem_cons x at [] m) [ inl e ↦ subst P (sym e) p | inr k ↦ absurd (omega arith) ]
  deeper d at x (a_directory name date start size) p q m h next = elim (mem_cons x at (reached d (view b) start) m) [
    | inl e ↦ subst P (sym e) p
    | inr k ↦ next start q (λ y n. h y (mem_tail y at (reached d (view b) start) n)) k
  ]

  -- a directory among the entries is reached itself
  itself : (d at : ℕ) (e : Entry) → ((y : ℕ) → Mem y (reached_by at (reached d (view b)) e) → R y) → (R at → in_directory (Unit {0}) Q e) → in_directory (Unit {0}) Q e
  unfolding reached_by
  itself d at vacant h f = tt
  itself d at (a_file locked name date start size) h f = tt
  itself d at (a_directory name date start size) h f = f (h at (mem_head at (reached d (view b) start)))

  pub reached_each : (d p x : ℕ) → Q p → ((y : ℕ) → Mem y (reached d (view b) p) → R y) → Mem x (reached d (view b) p) → P x
  unfolding reached
  reached_each zero p x q h m = absurd (omega arith)
  reached_each (suc d) p x q h m =
      let r = mem_flat_map (λ at. reached_by at (reached d (view b)) (entry_at b at)) (entries p) x m in
      let at : ℕ = r.0 in
      let hs : (y : ℕ) → Mem y (reached_by at (reached d (view b)) (entry_at b at)) → R y =
      λ y n. h y (omega (arith, n, occ_flat_map_le (λ z. reached_by z (reached d (view b)) (entry_at b z)) (entries p) at y r.1)) in
      deeper d at x (entry_at b at) (here p at q r.1) (itself d at (entry_at b at) hs (below at)) r.2 hs (λ s w g. reached_each d s x w g)

-- ---- an entry that is reached lies in the image

module _ (b : Bytes) (f : Facts b) where
  directory_inside : (at : ℕ) → Mem at (reached_entries b) → in_directory (Unit {0}) (λ q. q < page_count b) (entry_at b at)
  unfolding pages_of
  directory_inside at m = go (entry_at b at) refl
    where
      go : (e : Entry) → entry_at b at ≡ e → in_directory (Unit {0}) (λ q. q < page_count b) e
      go vacant e = tt
      go (a_file locked name date start size) e = tt
      go (a_directory name date start size) e = (owner_is b f at start m (subst (λ (x : Entry). Mem start (pages_of (view b) x)) (sym e) (mem_head start []))).1

  pub reached_inside : (at : ℕ) → Mem at (reached_entries b) → at + 32 ≤ length b
  reached_inside at m = reached_each b (λ x. Mem x (reached_entries b)) (λ q. q < page_count b) (λ x. x + 32 ≤ length b)
      (λ q x l k. let w = entry_within q x k in omega (arith, w.high, (valid_sized b f.fits).whole))
      directory_inside (page_count b) 0 at (omega (arith, (valid_sized b f.fits).low)) (λ y n. n) m
