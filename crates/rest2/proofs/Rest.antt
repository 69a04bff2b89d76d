-- What is asked after the walk is asked at the shape, and the shape is the image's: so each answer is that of the image's view.
use mathlib.Core.Path.{◌≡◌, refl, sym, ap, ap₂, ◌∙◌, subst}
use mathlib.Core.Logic.{◌≢◌}
use Prim.Native.Nat.{ℕ, ◌+◌, ◌≤◌}
use native.Mathlib.Numerals.{add-one}
use native.Mathlib.Omega.{arith}
use mathlib.Core.Bool.{Bool, true, false, not, ◌&&◌}
use mathlib.Core.List.{List}
use lib.ListN.{length}
use lib.Dec.{eqb}
use borrow.Author.Tests.{eq-eqb, ne_eqb}
use Rattle.volume.specs.Bytes.{Bytes}
use Rattle.std.specs.Prelude.{if◌then◌else◌}
use Rattle.volume.specs.Geometry as On
use Rattle.volume.specs.Geometry.{Geometry}
use Rattle.volume.proofs.Follow.{Lies}
use Rattle.volume.proofs.Growing.{WordsLie}
use Rattle.model.specs.View.{zero_bits, free_count}
use Rattle.model.specs.Sound.{marked_below}
use Rattle.model.specs.Judge as Model
use Rattle.model.specs.Judge.{Judged, bad_count, fault, clean, lost_or, judge_rest}
use Rattle.model2.specs.Layout.{set_aside, is_wide, code_in, geometry2}
use Rattle.model2.specs.Version2.{view2}
use Rattle.laws2.proofs.Bounds.{bounds}
use Rattle.laws2.proofs.Version2.{lies2}
use Rattle.shape.specs.declared.Shape.{Shape}
use Rattle.shape.specs.Geometry.{geometry_of}
use Rattle.fields.proofs.Plain.{told, untold}
use Rattle.lost.specs.Searched.{Searched}
use Rattle.lost.proofs.Lost.{lost_from}
use Rattle.lost.proofs.Decides.{lost_decides, none_lost_decides}
use Rattle.owning2.specs.Ready.{Ready}
use Rattle.owning2.proofs.Pages.{aside_is}

aside_few : (n : ℕ) → set_aside n ≤ 3
aside_few n = go (is_wide n)
  where
    go : (c : Bool) → (if c then 3 else 2) ≤ 3
    go true = omega arith
    go false = omega arith

module _ {b : Bytes} {s : Shape} {m : List ℕ} (r : Ready b s m) where
  -- ---- what is asked lies in the image

  map_is : s.map ≡ 7
  map_is = ap (λ (g : Geometry). g.map) r.made

  long_image : 2048 ≤ length b
  long_image = let n = bounds r.allowed in let l = (lies2 r.allowed b refl 7 (omega (arith, n.some))).0 in omega (arith, n.large, l)

  pub searched : Searched b s m
  searched = let n = bounds r.allowed in record {
    low = omega (arith, aside_is r, aside_few (length b));
    some = omega (arith, aside_is r, aside_few (length b), r.each, n.some);
    few = omega (arith, r.each, n.few);
    lies = omega (arith, map_is, r.each, n.few, long_image);
  }

  pub count_lies : Lies (geometry_of s).count b
  count_lies = subst (λ (g : Geometry). Lies g.count b) (sym r.made) (omega (arith, long_image))

  pub few_pages : length m ≤ 1024
  few_pages = omega (arith, r.each, (bounds r.allowed).few)

  pub words_lie : (n : ℕ) → n ≤ 1024 → WordsLie (geometry_of s) n b
  words_lie n h = record { few = omega (arith, h); bytes = omega (arith, h, map_is, long_image) }

  pub few_aside : s.aside ≤ 8
  few_aside = searched.low

  pub bits_lie : (n : ℕ) → n ≤ 8 → s.map + n ≤ length b
  bits_lie n h = omega (arith, map_is, h, long_image)

  -- ---- the rest, behind what the search answers

  sought : {j : Judged} → j ≡ lost_or (clean m) (lost_from (geometry_of s) b m (length m) s.aside)
      → j ≡ lost_or (clean m) (lost_from (view2 b).geometry b m (view2 b).pages (view2 b).geometry.aside)
  sought lost = lost ∙ ap₂ (λ (g : Geometry) (n : ℕ). lost_or (clean m) (lost_from g b m n g.aside)) r.made r.each

  pub rest_faulty : {x : Model.Fault} → fault x ≡ lost_or (clean m) (lost_from (geometry_of s) b m (length m) s.aside) → fault x ≡ judge_rest (view2 b) m
  rest_faulty lost = lost_decides (view2 b) m (sought lost)

  module _ (lost : clean m ≡ lost_or (clean m) (lost_from (geometry_of s) b m (length m) s.aside)) where
    module _ (marked : Bool) (asked : marked ≡ marked_below (view2 b) s.aside) where
      marks_asked : marked ≡ marked_below (view2 b) (view2 b).geometry.aside
      marks_asked = asked ∙ ap (λ (a : ℕ). marked_below (view2 b) a) (aside_is r)

      pub rest_unmarked : not marked ≡ true → fault bad_count ≡ judge_rest (view2 b) m
      rest_unmarked h = none_lost_decides (view2 b) m (sought lost) {marked = false} (untold marks_asked h) refl

      module _ (h : not marked ≡ false) (free : ℕ) (stands : free ≡ On.free_count (geometry_of s) b) (zeros : ℕ)
          (bits : zeros ≡ On.zero_bits (geometry_of s) b (length m)) where
        free_is : free ≡ free_count (view2 b)
        free_is = stands ∙ ap (λ (g : Geometry). On.free_count g b) r.made

        zeros_are : zeros ≡ zero_bits (view2 b) (view2 b).pages
        zeros_are = bits ∙ ap₂ (λ (g : Geometry) (n : ℕ). On.zero_bits g b n) r.made r.each

        pub rest_miscounted : free ≢ zeros → fault bad_count ≡ judge_rest (view2 b) m
        rest_miscounted ne =
            none_lost_decides (view2 b) m (sought lost) {marked = true} {counted = false} (told marks_asked h) (ne_eqb _ _ (λ z. ne (free_is ∙ z ∙ sym zeros_are)))

        pub rest_clean : free ≡ zeros → clean m ≡ judge_rest (view2 b) m
        rest_clean z =
            none_lost_decides (view2 b) m (sought lost) {marked = true} {counted = true} (told marks_asked h) (eq-eqb _ _ (sym free_is ∙ z ∙ zeros_are))

-- ---- the bits of the first pages

pub marked_on : (b : Bytes) (s : Shape) (p : ℕ) (marked : Bool) (one : ℕ) → geometry_of s ≡ geometry2 (code_in b) (length b) → marked ≡ marked_below (view2 b) p
    → one ≡ On.page_bit (geometry_of s) b p → (marked && eqb one 1) ≡ marked_below (view2 b) (p + 1)
marked_on b s p marked one made so_far asked =
    ap₂ (λ (x : Bool) (y : ℕ). x && eqb y 1) so_far (asked ∙ ap (λ (g : Geometry). On.page_bit g b p) made)
    ∙ ap (λ (k : ℕ). marked_below (view2 b) k) (sym (add-one p))

pub marked_all : (b : Bytes) (n p : ℕ) (marked : Bool) → p ≤ n → n ≤ p → marked ≡ marked_below (view2 b) p → marked ≡ marked_below (view2 b) n
marked_all b n p marked h k e = let z : p ≡ n = omega arith in e ∙ ap (λ (i : ℕ). marked_below (view2 b) i) z
