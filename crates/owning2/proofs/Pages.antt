-- One page: the tests of the code are those of the definition, in its order.
use mathlib.Core.Path.{◌≡◌, refl, sym, ap, ◌∙◌, subst}
use mathlib.Core.Logic.{◌≢◌}
use Prim.Native.Nat.{ℕ, ◌≤◌, ◌<◌}
use native.Mathlib.Omega.{arith}
use mathlib.Core.List.{List}
use lib.ListN.{length, get_or, set}
use borrow.Author.Tests.{lt-ltb, le-ltb, le-leb, lt-leb, eq-eqb, ne_eqb}
use Rattle.volume.specs.Bytes.{Bytes}
use Rattle.volume.specs.Geometry as On
use Rattle.volume.specs.Geometry.{Geometry}
use Rattle.volume.proofs.Follow.{Lies}
use Rattle.model.specs.View.{View, page_bit}
use Rattle.model.specs.Judge.{Fault, Judged, fault, clean, then_judge, judge_page, owned_twice, marked_free}
use Rattle.model2.specs.Layout.{set_aside}
use Rattle.model2.specs.Version2.{view2}
use Rattle.view_laws.proofs.Comes.{page_made}
use Rattle.laws2.proofs.Bounds.{bounds}
use Rattle.laws2.proofs.Version2.{tabled, lies2}
use Rattle.shape.specs.declared.Shape.{Shape}
use Rattle.shape.specs.Geometry.{geometry_of}
use Rattle.owning2.specs.Ready.{Ready, follows}

-- ---- an answer, and what follows it

pub then_fault : {j : Judged} {x : Fault} (on : List ℕ → Judged) → fault x ≡ j → then_judge j on ≡ fault x
unfolding then_judge
then_fault on e = ap (λ (k : Judged). then_judge k on) (sym e)

pub then_clean : {j : Judged} {m : List ℕ} (on : List ℕ → Judged) → clean m ≡ j → then_judge j on ≡ on m
unfolding then_judge
then_clean on e = ap (λ (k : Judged). then_judge k on) (sym e)

-- ---- a page of any view

module _ (v : View) (range : Fault) (p : ℕ) (m : List ℕ) where
  below_range : p < v.geometry.aside → fault range ≡ judge_page v range p m
  unfolding judge_page
  below_range h = rw (lt-leb _ _ h)

  module _ (low : v.geometry.aside ≤ p) where
    above_range : v.pages ≤ p → fault range ≡ judge_page v range p m
    unfolding judge_page
    above_range h = rw (le-leb _ _ low, le-ltb _ _ h)

    module _ (high : p < v.pages) where
      has_owner : get_or m p 0 ≢ 0 → fault (owned_twice p) ≡ judge_page v range p m
      unfolding judge_page
      has_owner h = rw (le-leb _ _ low, lt-ltb _ _ high, ne_eqb _ _ h)

      has_no_bit : get_or m p 0 ≡ 0 → page_bit v p ≢ 1 → fault (marked_free p) ≡ judge_page v range p m
      unfolding judge_page
      has_no_bit h k = rw (le-leb _ _ low, lt-ltb _ _ high, eq-eqb _ _ h, ne_eqb _ _ k)

      gets_owner : get_or m p 0 ≡ 0 → page_bit v p ≡ 1 → clean (set m p 1) ≡ judge_page v range p m
      unfolding judge_page
      gets_owner h k = rw (le-leb _ _ low, lt-ltb _ _ high, eq-eqb _ _ h, eq-eqb _ _ k)

-- ---- a page of an image

module _ {b : Bytes} {s : Shape} {m : List ℕ} (k : Ready b s m) where
  pub still : {l : List ℕ} → length l ≡ length m → Ready b s l
  still e = record { allowed = k.allowed; made = k.made; each = e ∙ k.each }

  pub aside_is : s.aside ≡ set_aside (length b)
  aside_is = ap (λ (g : Geometry). g.aside) k.made

  bit_is : (p : ℕ) → On.page_bit (geometry_of s) b p ≡ page_bit (view2 b) p
  bit_is p = ap (λ (g : Geometry). On.page_bit g b p) k.made

  pub next_is : (p : ℕ) → On.next (geometry_of s) b p ≡ follows b p
  next_is p = ap (λ (g : Geometry). On.next g b p) k.made

  pub bit_lies : {p : ℕ} → p < length m → On.bitmap_byte (geometry_of s) p < length b
  bit_lies {p} h =
      let n = bounds k.allowed in
      let e = ap (λ (g : Geometry). g.map) k.made in
      let l = (lies2 k.allowed b refl 0 (omega (arith, n.some))).0 in
      omega (arith, h, k.each, n.few, n.large, e, l)

  pub link_lies : {p : ℕ} → p < length m → Lies ((geometry_of s).link p) b
  link_lies {p} h = subst (λ (g : Geometry). Lies (g.link p) b) (sym k.made) (lies2 k.allowed b refl p (omega (arith, h, k.each))).1

  pub some_page : 0 < length m
  some_page = omega (arith, k.each, (bounds k.allowed).some)

  -- a page that got its owner lies in the image
  pub page_here : (range : Fault) (p : ℕ) (l : List ℕ) → clean l ≡ judge_page (view2 b) range p m → p < length m
  page_here range p l e = (page_made (view2 b) (tabled k.allowed).one range p m l k.each e).here

  module _ (range : Fault) (p : ℕ) where
    pub page_low : p < s.aside → fault range ≡ judge_page (view2 b) range p m
    page_low h = below_range (view2 b) range p m (omega (arith, h, aside_is))

    module _ (low : s.aside ≤ p) where
      pub page_high : length m ≤ p → fault range ≡ judge_page (view2 b) range p m
      page_high h = above_range (view2 b) range p m (omega (arith, low, aside_is)) (omega (arith, h, k.each))

      module _ (high : p < length m) where
        pub page_twice : get_or m p 0 ≢ 0 → fault (owned_twice p) ≡ judge_page (view2 b) range p m
        page_twice h = has_owner (view2 b) range p m (omega (arith, low, aside_is)) (omega (arith, high, k.each)) h

        module _ (free : get_or m p 0 ≡ 0) (one : ℕ) (asked : one ≡ On.page_bit (geometry_of s) b p) where
          pub page_free : one ≢ 1 → fault (marked_free p) ≡ judge_page (view2 b) range p m
          page_free h = has_no_bit (view2 b) range p m (omega (arith, low, aside_is)) (omega (arith, high, k.each)) free (λ z. h (asked ∙ bit_is p ∙ z))

          pub page_owned : one ≡ 1 → clean (set m p 1) ≡ judge_page (view2 b) range p m
          page_owned h = gets_owner (view2 b) range p m (omega (arith, low, aside_is)) (omega (arith, high, k.each)) free (sym (bit_is p) ∙ sym asked ∙ h)
