-- What a version owes the laws of the calls: where its directories and entries lie, over a lawful geometry. The images of a version that have one
-- size are a shelf, and the theorem behind the calls that change an entry is proved once, on any shelf.
use mathlib.Core.Path.{◌≡◌, refl, sym, ap, ◌∙◌}
use Prim.Native.Nat.{ℕ, suc, ◌+◌, ◌≤◌, ◌<◌}
use native.Mathlib.Omega.{arith}
use native.Mathlib.Decide.{dec_lt}
use mathlib.Core.Bool.{Bool}
use mathlib.Core.List.{List}
use lib.ListN.{length}
use lib.Dec.{T}
use Rattle.volume.specs.Bytes.{Bytes, byte_at}
use Rattle.volume.specs.Geometry.{Geometry}
use Rattle.volume.proofs.Occ.{occ, Mem, mem_apart}
use Rattle.volume.proofs.Lawful.{Sized, Kept, Lawful}
use Rattle.model.specs.Entry.{Entry, vacant}
use Rattle.model.specs.Numbers.{Numbers}
use Rattle.model.specs.View.{View, page_bit}
use Rattle.model.specs.Sound.{good_directory, all_owned}
use Rattle.model.specs.Tree.{Row}
use Rattle.model.specs.Path.{Name}
use Rattle.model.specs.Image.{row_at}
use Rattle.model.specs.Walk.{change_at}
use Rattle.view_laws.proofs.Owns.{own, subtree}
use Rattle.view_laws.proofs.Frame.{Follows}
use Rattle.view_laws.proofs.Facts.{Facts, Rooted}
use Rattle.view_laws.proofs.Focus.{Regular, Leads}
use Rattle.view_laws.proofs.Change.{Balance, Works, SameBut, directory_untouched, changed}
use Rattle.view_laws.proofs.Slots.{Real, known_page, directory_page}

-- geometry and N are fixed; where directories and entries are hangs on the bytes. `home` is the page that a byte belongs to.
pub record Shelf : Type 0 where
  pub geometry : Geometry
  pub home : ℕ → ℕ
  pub pages : ℕ
  pub numbers : Numbers
  pub directory_pages : Bytes → ℕ → List ℕ
  pub directory_ends : Bytes → ℕ → Bool
  pub entries : Bytes → ℕ → List ℕ
  pub entry_at : Bytes → ℕ → Entry
  pub place_of : Bytes → ℕ → ℕ → ℕ × ℕ

-- an image of the shelf as a view
abbrev pub seen : Shelf → Bytes → View
seen s b = record {
  bytes = b;
  geometry = s.geometry;
  pages = s.pages;
  numbers = s.numbers;
  directory_pages = s.directory_pages b;
  directory_ends = s.directory_ends b;
  entries = s.entries b;
  entry_at = s.entry_at b;
  place_of = s.place_of b;
}

-- page q, with its link, has the same bytes in both
pub record SameBytes (s : Shelf) (b b' : Bytes) (q : ℕ) : Type 0 where
  pub real : Real (seen s b) q
  pub bytes : (i : ℕ) → s.home i ≡ q → Kept s.geometry s.pages i → byte_at b' i ≡ byte_at b i

-- an entry lies on a page of its directory, behind the header's fields
pub record Spot (s : Shelf) (b : Bytes) (t at : ℕ) : Type 0 where
  pub page : ℕ
  pub of : Mem page (s.directory_pages b t)
  pub inside : Real (seen s b) page → Sized s.geometry s.pages b → at + 32 ≤ length b
  pub bytes : Real (seen s b) page → (i : ℕ) → at ≤ i → i < at + 32 → (s.home i ≡ page) × Kept s.geometry s.pages i

pub record Shelved (s : Shelf) : Type 0 where
  pub law : Lawful s.geometry s.home s.pages
  pub high : s.geometry.aside ≤ s.pages
  pub rooted : (b : Bytes) → Rooted (seen s b)
  pub regular : (b : Bytes) → Regular (seen s b)
  -- pages that are the same in two images are read alike
  pub follows : (b b' : Bytes) → length b' ≡ length b → Follows (seen s b) (seen s b') (SameBytes s b b')
  pub spot : (b : Bytes) (t at : ℕ) → Mem at (s.entries b t) → Spot s b t at
  -- and one changed entry leaves the others
  pub but : (b b' : Bytes) (t at : ℕ) → length b' ≡ length b → Mem at (s.entries b t) → ((q : ℕ) → Mem q (s.directory_pages b t) → Real (seen s b) q)
      → ((q i : ℕ) → Mem q (s.directory_pages b t) → s.home i ≡ q → Kept s.geometry s.pages i → (at ≤ i → at + 32 ≤ i) → byte_at b' i ≡ byte_at b i)
      → SameBut (seen s b) (seen s b') t at
  pub empty : (b : Bytes) (x : ℕ) → byte_at b x ≡ 0 → s.entry_at b x ≡ vacant

-- ---- an entry of the directory that some names lead to

module _ {s : Shelf} (w : Shelved s) {b : Bytes} (f : Facts (seen s b)) (names : List Name) (e t : ℕ) (leads : Leads (seen s b) s.pages 0 names (suc e) t) where
  page_of : (q : ℕ) → Mem q (s.directory_pages b t) → Real (seen s b) q × (page_bit (seen s b) q ≡ 1)
  page_of q m = directory_page f w.law.header w.high (w.rooted b) names (suc e) t q leads m

  pub record Lies (at : ℕ) : Type 0 where
    pub page : ℕ
    pub of : Mem page (s.directory_pages b t)
    pub real : page < s.pages
    pub marked : page_bit (seen s b) page ≡ 1
    pub inside : Sized s.geometry s.pages b → at + 32 ≤ length b
    pub bytes : (i : ℕ) → at ≤ i → i < at + 32 → (s.home i ≡ page) × Kept s.geometry s.pages i

  pub lies : (at : ℕ) → Mem at (s.entries b t) → Lies at
  lies at m =
      let o = w.spot b t at m in
      let r = page_of o.page o.of in
      record { page = o.page; of = o.of; real = r.0.1; marked = r.1; inside = o.inside r.0; bytes = o.bytes r.0 }

  -- b' is b but for count and bitmap, the entry at `at`, and the touched pages, which nobody else owns
  module _ (b' : Bytes) (at : ℕ) (touched : List ℕ) (entry : Mem at (s.entries b t))
      (mine : (q : ℕ) → Mem q touched → (1 ≤ q) × (Mem q (all_owned s.pages (seen s b)) → Mem q (own e (seen s b) (s.entry_at b at))))
      (len : length b' ≡ length b)
      (rest : (i : ℕ) → Kept s.geometry s.pages i → (at ≤ i → at + 32 ≤ i) → occ (s.home i) touched ≡ 0 → byte_at b' i ≡ byte_at b i) where
    untouched : (q : ℕ) → Mem q (s.directory_pages b t) → occ q touched ≡ 0
    untouched = directory_untouched w.law.header (w.rooted b) f names e t at touched leads entry mine

    here : SameBut (seen s b) (seen s b') t at
    here = w.but b b' t at len entry (λ q m. (page_of q m).0) (λ q i m h k z. rest i k z (ap (λ (p : ℕ). occ p touched) h ∙ untouched q m))

    outside : (q : ℕ) → Mem q (subtree s.pages (seen s b) 0) → occ q (s.directory_pages b t) ≡ 0 → occ q touched ≡ 0 → SameBytes s b b' q
    outside q m z u =
        let o = lies at entry in
        record {
          real = (known_page f w.law.header w.high (w.rooted b) q m).0;
          bytes = λ i h k. rest i k
              (λ y. elim (dec_lt i (at + 32)) [
                | yes l ↦ absurd (mem_apart o.page q (s.directory_pages b t) o.of z (sym (o.bytes i y l).0 ∙ h))
                | no l ↦ omega (arith, l)
              ])
              (ap (λ (p : ℕ). occ p touched) h ∙ u);
        }

    pub entry_changed : (op : Row → Row) (test : Entry → Bool) → T (good_directory (suc e) (seen s b) t) → T (s.directory_ends b t) → Works (seen s b) (seen s b') e t at op test
        → Balance (seen s b) (seen s b') (own e (seen s b) (s.entry_at b at)) (own e (seen s b') (s.entry_at b' at))
        → Facts (seen s b') × (row_at s.pages (seen s b') 0 ≡ change_at names op (row_at s.pages (seen s b) 0))
    entry_changed =
        changed w.law.header (w.rooted b) f names e t at touched leads entry mine (w.follows b b' len) (w.regular b)
        (record { pages = refl; geometry = refl; low = w.law.header; high = w.high; rooted = w.rooted b; rooted' = w.rooted b' })
        here outside
