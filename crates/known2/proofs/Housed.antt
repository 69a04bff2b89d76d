-- The root is housed, and so is every directory among the entries of a housed one, since an entry's pages are among its directory's: so the pages of all
-- directories that a walk comes to are the image's own.
use mathlib.Core.Path.{◌≡◌, subst}
use Prim.Native.Nat.{ℕ, zero, suc, ◌-◌, ◌≤◌}
use native.Mathlib.Omega.{arith}
use mathlib.Core.Bool.{true}
use mathlib.Core.Option.{some}
use mathlib.Core.List.{List}
use lib.Dec.{T}
use Rattle.volume.specs.Bytes.{Bytes}
use Rattle.volume.proofs.Occ.{occ, Mem, occ_append}
use Rattle.model.specs.Entry.{Entry, a_directory}
use Rattle.model.specs.View.{View, page_bit}
use Rattle.model.specs.Sound.{in_directory, good_directory, owned}
use Rattle.model.specs.Path.{Name}
use Rattle.model.specs.Image.{row_at}
use Rattle.model.specs.Walk.{Walked, arrived, walk, entry_named, walk_on}
use Rattle.view_laws.proofs.Owns.{subtree}
use Rattle.view_laws.proofs.Frame.{good_below}
use Rattle.view_laws.proofs.Facts.{Facts, Rooted}
use Rattle.view_laws.proofs.Focus.{DirectoryAt, named_found, directory_le, leads_sub}
use Rattle.view_laws.proofs.Slots.{Real, known_page}
use Rattle.view_laws.proofs.Walks.{Formed, Mirrors, walk_mirrors}
use Rattle.known2.specs.Housed.{Housed}

-- ---- which directories are

-- a good directory is read to some depth
deep : {v : View} {p : ℕ} (e : ℕ) → T (good_directory e v p) → ((q : ℕ) → occ q (subtree e v p) ≤ occ q (subtree v.pages v 0)) → Housed v p
unfolding good_directory
deep zero g h = absurd g
deep (suc e) g h = record { depth = e; good = g; within = h }

pub housed_root : {v : View} → Formed v → Housed v 0
housed_root {v} f = deep v.pages f (λ q. omega arith)

-- one that some names lead to
pub housed_walked : {v : View} → Formed v → (ns : List Name) (t : ℕ) → walk_on v ns 0 ≡ arrived t → Housed v t
housed_walked {v} f ns t come =
    let m : Mirrors v v.pages 0 ns (arrived t) (walk ns (row_at v.pages v 0)) =
    subst (λ (w : Walked ℕ). Mirrors v v.pages 0 ns w (walk ns (row_at v.pages v 0))) come (walk_mirrors v ns v.pages 0 f) in
    deep m.0 m.3 (λ q. leads_sub v ns v.pages 0 m.0 t q m.1)

module _ {v : View} {p : ℕ} (h : Housed v p) {at : ℕ} where
  -- a directory among the entries of one
  pub housed_entry : Mem at (v.entries p) → {name date : Bytes} {s size : ℕ} → v.entry_at at ≡ a_directory name date s size → Housed v s
  housed_entry m {name} {date} {s} {size} is =
      let d : DirectoryAt v at s = record { name = name; date = date; size = size; is = is } in
      deep h.depth
      (subst (λ (x : Entry). T (in_directory true (good_directory h.depth v) x)) is (good_below h.depth v p at h.good m))
      (λ q. omega (
        arith,
        directory_le h.depth v p at s q m d,
        occ_append q (v.directory_pages p) (owned (suc h.depth) v p),
        h.within q,
      ))

  pub housed_named : (n : Bytes) → entry_named v p n ≡ some at → {name date : Bytes} {s size : ℕ} → v.entry_at at ≡ a_directory name date s size → Housed v s
  housed_named n e is = housed_entry (named_found v p n at e).0 is

-- ---- their pages

pub housed_page : {v : View} → Facts v → 1 ≤ v.geometry.aside → v.geometry.aside ≤ v.pages → Rooted v → {p : ℕ} → Housed v p
    → (q : ℕ) → Mem q (v.directory_pages p) → Real v q × (page_bit v q ≡ 1)
housed_page {v} f low high rooted {p} h q m =
    known_page f low high rooted q (omega (arith, m, occ_append q (v.directory_pages p) (owned (suc h.depth) v p), h.within q))
