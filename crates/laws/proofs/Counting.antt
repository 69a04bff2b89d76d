-- The free counts agree in version 1: the laws of `view_laws` at `view b`, where the header alone is set aside and a directory needs one page.
use mathlib.Core.Path.{◌≡◌, refl, sym, ap, ◌∙◌}
use Prim.Native.Nat.{ℕ, ◌+◌, ◌*◌, ◌≤◌}
use native.Mathlib.Omega.{arith}
use mathlib.Core.List.{List}
use lib.ListN.{length}
use lib.Dec.{T}
use Rattle.volume.specs.Bytes.{Bytes}
use Rattle.volume.specs.Chain.{chain}
use Rattle.volume.proofs.Occ.{Mem}
use Rattle.model.specs.Layout.{page_count, pages_for, free_count, zero_bits, link}
use Rattle.model.specs.Version1.{view}
use Rattle.model.specs.Sound.{owned_pages, sound_to, sound}
use Rattle.model.specs.Tree.{needs, free_number, free_number_of}
use Rattle.model.specs.Image.{content_of, row_at, tree_of, tree_in}
use Rattle.view_laws.proofs.Counting as Any
use Rattle.laws.proofs.Facts.{Facts, viewed, of_view, once, sound_to_facts, facts_sound, valid_sized}
use Rattle.laws.proofs.Frame.{headed}

-- ---- marked pages

pub count_owned : {b : Bytes} → Facts b → zero_bits b (page_count b) + 1 + length (owned_pages b) ≡ page_count b
count_owned {b} f = Any.count_owned (omega (arith, (valid_sized b f.fits).low)) (viewed f)

-- An image that is sound with its directories read to any depth is sound: N is deep enough.
pub depth_enough : (d : ℕ) (b : Bytes) → T (sound_to d b) → T (sound b)
depth_enough d b h =
    let f = sound_to_facts h in
    let enough = Any.depth_enough (headed b) (omega arith) (omega (arith, (valid_sized b f.fits).low)) (viewed f) in
    facts_sound (of_view f.fits f.headed enough)

-- ---- the pages that a row needs

pub fill_up : (s : ℕ) → s ≤ 255 * pages_for s
unfolding pages_for
fill_up s = omega arith

-- the pages lie in the image
abbrev pub InImage : Bytes → List ℕ → Type 0
InImage b ps = (q : ℕ) → Mem q ps → 256 * q + 256 ≤ length b

-- the content of a file is as long as its size
pub content_length : (b : Bytes) (start size : ℕ) → InImage b (chain (link b) (pages_for size) start) → length (content_of (view b) size (chain (link b) (pages_for size) start)) ≡ size
content_length b start size h = Any.content_length (view b) start size (fill_up size) (λ q m. omega (arith, h q m))

pub owned_in : {b : Bytes} → Facts b → InImage b (owned_pages b)
owned_in f q m = let r = f.inside q m in omega (arith, r.1)

owned_needs : {b : Bytes} → Facts b → length (owned_pages b) ≡ needs (row_at (page_count b) (view b) 0)
owned_needs {b} f =
    Any.owned_needs (view b) (λ q. 256 * q + 256 ≤ length b) fill_up (λ q h. omega (arith, h)) (λ p u h. refl) (page_count b) 0 f.formed (once f, owned_in f)

-- ---- the free number

pub free_sum : {b : Bytes} → Facts b → free_count b + 1 + needs (tree_of b).root ≡ page_count b
unfolding tree_in
free_sum {b} f = omega (arith, count_owned f, owned_needs f, f.counted)

pub free_number_lem : {b : Bytes} → Facts b → free_number (tree_of b) ≡ free_count b
unfolding free_number_of tree_in
free_number_lem {b} f = omega (arith, count_owned f, owned_needs f, f.counted)
