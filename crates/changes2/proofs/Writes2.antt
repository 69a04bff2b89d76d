-- A write as the code goes: the chain grows at the link of its last page, so that with the size set it has its old pages and then the gained ones, and the
-- bytes are spread over these. That is the model's effect, since the entry says where the chain starts and how long it was.
use mathlib.Core.Path.{◌≡◌, refl, sym, ap, ap₂, ◌∙◌, subst, subst₂}
use mathlib.Core.Logic.{inl, inr}
use Prim.Native.Nat.{ℕ, suc, ◌+◌, ◌-◌, ◌*◌, ◌/◌, ◌≤◌, ◌<◌, max}
use native.Mathlib.Nat.{suc-mul, mul_comm, le-div_iff_mul-le, div-mul-le_self}
use native.Mathlib.Omega.{arith}
use native.Mathlib.Decide.{dec_lt}
use mathlib.Core.Bool.{Bool, true, false}
use mathlib.Core.List.{List, ◌∷◌, ◌++◌}
use lib.ListN.{length, take}
use Rattle.volume.specs.Bytes.{Bytes, put}
use Rattle.std.specs.Prelude.{if◌then◌else◌}
use Rattle.volume.specs.Chain.{chain, beyond, spread}
use Rattle.volume.specs.Field.{Field, load}
use Rattle.volume.specs.Geometry as On
use Rattle.volume.specs.Geometry.{Geometry}
use Rattle.volume.proofs.Occ.{Mem, mem_or_not, occ_append}
use Rattle.volume.proofs.Chains.{chain_length}
use Rattle.volume.proofs.Follow.{Inside}
use Rattle.volume.proofs.Grow.{Room, gained_is}
use Rattle.volume.proofs.Growing.{Growing}
use Rattle.volume.proofs.Lawful.{Lawful}
use Rattle.volume.proofs.Small.{FitsIn, LinksFit}
use Rattle.volume.proofs.Longer.{chain_at, joint_at, joint_page, chain_room}
use Rattle.volume.proofs.Writes.{written_pages}
use Rattle.volume.proofs.Writing.{Writable}
use Rattle.volume.proofs.Unzeroed.{ButFor}
use Rattle.volume.proofs.Claiming.{LinkThenContent}
use Rattle.volume.proofs.Covering.{covering_pages, covering_length, covering_spread}
use Rattle.model.specs.Entry.{vacant, a_file, a_directory}
use Rattle.model.specs.Sound.{pages_of, pages_at}
use Rattle.model.specs.EffectOf as EffectOf
use Rattle.model2.specs.Layout.{pages_for}
use Rattle.model2.specs.Entry.{occupied, is_directory, is_locked, name_at, start_field, start_at, size_at, date_at, entry_at, size_bytes}
use Rattle.model2.specs.Version2.{view2, layout2}
use Rattle.laws2.proofs.Counts2.{fill_up2}
use Rattle.shape.specs.Geometry.{geometry_of}
use Rattle.shape.specs.declared.Shape.{Shape}
use Rattle.rows2.specs.Roomy.{Roomy}
use Rattle.cursor2.proofs.Views.{roomy}
use Rattle.changes2.specs.Asked.{home_in, Writing}
use Rattle.changes2.proofs.Growths.{joint_is}
use Rattle.changes2.proofs.Chains2.{writable_of}
use Rattle.changes2.proofs.Formed2.{shape_lawful, shape_words, shape_links}

pub pages_rise : (size s₀ s : ℕ) → 1 ≤ size → s₀ ≤ s → pages_for size s₀ + (pages_for size s - pages_for size s₀) ≡ pages_for size s
unfolding pages_for
pages_rise size s₀ s h l =
    let u : (s₀ + (size - 1)) / size ≤ (s + (size - 1)) / size = (le-div_iff_mul-le h).1 (omega (arith, div-mul-le_self (s₀ + (size - 1)) size, l)) in
    omega (arith, u)

-- bytes that want so many pages fill all but the last
pages_full : (size s m : ℕ) → 1 ≤ size → 1 ≤ m → pages_for size s ≡ m + 1 → size * m ≤ s
unfolding pages_for
pages_full size s m h l e =
    let q : ℕ = (s + (size - 1)) / size in
    let u : q ≡ suc m = omega arith in
    omega (arith, div-mul-le_self (s + (size - 1)) size, ap (λ (x : ℕ). x * size) u, suc-mul m size, mul_comm m size)

-- an empty file has a page too
pub pages_some : (size s : ℕ) → 1 ≤ pages_for size s
unfolding pages_for
pages_some size s = omega arith

-- the fields of a file's entry
pub record Fields (b : Bytes) (at : ℕ) (locked : Bool) (name date : Bytes) (start size : ℕ) : Type 0 where
  pub locks : is_locked b at ≡ locked
  pub names : name_at b at ≡ name
  pub dates : date_at b at ≡ date
  pub starts : start_at b at ≡ start
  pub sizes : size_at b at ≡ size

pub file_fields : (b : Bytes) (at : ℕ) {locked : Bool} {name date : Bytes} {start size : ℕ} → entry_at b at ≡ a_file locked name date start size
    → Fields b at locked name date start size
unfolding entry_at
file_fields b at {locked} {name} {date} {start} {size} e = go (occupied b at) (is_directory b at) e
  where
    go : (o d : Bool) → (if o then (if d then a_directory (name_at b at) (date_at b at) (start_at b at) (size_at b at)
        else a_file (is_locked b at) (name_at b at) (date_at b at) (start_at b at) (size_at b at)) else vacant) ≡ a_file locked name date start size
        → Fields b at locked name date start size
    go true true k = record { locks = cc k; names = cc k; dates = cc k; starts = cc k; sizes = cc k }
    go true false k = record { locks = cc k; names = cc k; dates = cc k; starts = cc k; sizes = cc k }
    go false d k = record { locks = cc k; names = cc k; dates = cc k; starts = cc k; sizes = cc k }

-- two chains with a page each that are the same list begin alike
first_page : (f g : ℕ → ℕ) (i j p q : ℕ) (xs : List ℕ) → 1 ≤ i → 1 ≤ j → chain f i p ≡ chain g j q ++ xs → p ≡ q
unfolding chain
first_page f g i j p q xs hi hj e =
    let ei : i ≡ suc (i - 1) = omega arith in
    let ej : j ≡ suc (j - 1) = omega arith in
    let both : p ∷ chain f (i - 1) (f p) ≡ q ∷ (chain g (j - 1) (g q) ++ xs) =
    sym (ap (λ (m : ℕ). chain f m p) ei) ∙ e ∙ ap (λ (m : ℕ). chain g m q ++ xs) ej in
    cc both

module _ {s : Shape} {n at start size from : ℕ} {v b : Bytes} (w : Writing s n at start size from v b) where
  -- ---- the new size, the pages held and gained, and the field of the start page

  abbrev g : Geometry
  g = geometry_of s

  abbrev z : ℕ
  z = max size (from + length v)

  abbrev j : ℕ
  j = pages_for s.size size

  abbrev k : ℕ
  k = pages_for s.size z - pages_for s.size size

  abbrev entry : Field
  entry = start_field at

  law : Lawful g (home_in b) n
  law = shape_lawful w.formed

  links : LinksFit g n
  links = shape_links w.formed

  numbers : Roomy s.size n
  numbers = roomy w.formed.allowed s n w.formed.made w.formed.count

  fields : Fields b at (is_locked b at) (name_at b at) (date_at b at) start size
  fields = file_fields b at w.is

  many : j + k ≡ pages_for s.size z
  many = pages_rise s.size size z (omega (arith, numbers.large)) (omega arith)

  -- the image with the chain grown, and then with the size set
  abbrev b₁ : Bytes
  b₁ = On.grown g n k (joint_at g b entry j) b

  abbrev b₂ : Bytes
  b₂ = put (at + 19) (size_bytes z) b₁

  abbrev ps : List ℕ
  ps = chain_at g b entry j ++ On.gained g n k b

  pages₀ : chain (On.next g b₂) (pages_for s.size z) (load entry b₂) ≡ ps
  pages₀ =
      ap (λ (m : ℕ). chain (On.next g b₂) m (load entry b₂)) (sym many)
      ∙ written_pages law b entry w.own j k (at + 19) (size_bytes z) w.chained w.beside w.space

  -- the start page stays
  stays : load entry b₂ ≡ start
  stays =
      first_page (On.next g b₂) (On.next g b) (pages_for s.size z) j (load entry b₂) (load entry b) (On.gained g n k b)
      (pages_some s.size z) (pages_some s.size size) pages₀
      ∙ fields.starts

  pages : chain (On.next g b₂) (pages_for s.size z) start ≡ ps
  pages = ap (chain (On.next g b₂) (pages_for s.size z)) (sym stays) ∙ pages₀

  of_all : (q : ℕ) → Mem q ps → (g.aside ≤ q) × (q < n)
  of_all q m = elim (mem_or_not q (chain_at g b entry j)) [
    | inl h ↦ let t = w.chained.pages q h in (t.0, t.1)
    | inr h ↦
        let t = (gained_is law k b w.chained.size w.chained.aside w.space).new q
        (omega (arith, m, h, occ_append q (chain_at g b entry j) (On.gained g n k b))) in (t.0, t.1)
  ]

  -- a page is all content
  whole : s.room ≡ s.size
  whole = omega (arith, ap (λ (h : Geometry). h.room) w.formed.made, ap (λ (h : Geometry). h.size) w.formed.made)

  pub no_link : LinkThenContent g
  no_link p i l u = absurd (omega (arith, whole, l, u))

  -- the bytes begin on a page held or where it ends, and cover all pages gained but the last
  begin_held : from ≤ s.room * j
  begin_held = subst (λ (m : ℕ). from ≤ m * j) (sym whole) (omega (arith, w.begins, fill_up2 s.size size (omega (arith, numbers.large))))

  cover_gained : 1 ≤ k → s.room * (j + (k - 1)) ≤ from + length v
  cover_gained h = elim (dec_lt size (from + length v)) [
    | yes l ↦
        let e : z ≡ from + length v = omega arith in
        subst₂ (λ (m y : ℕ). m * (j + (k - 1)) ≤ y) (sym whole) e
        (pages_full s.size z (j + (k - 1)) (omega (arith, numbers.large)) (omega (arith, pages_some s.size size)) (omega (arith, many)))
    | no l ↦ let e : z ≡ size = omega arith in absurd (omega (arith, h, ap (λ (y : ℕ). pages_for s.size y - pages_for s.size size) e))
  ]

  -- the model's effect
  effect : spread (On.content g) s.room ps from v b₂ ≡ EffectOf.rewritten layout2 view2 at from v b
  unfolding EffectOf.rewritten On.written pages_of
  effect =
      let image : Geometry → ℕ → List ℕ → ℕ → ℕ → Bytes = λ h N qs m y.
      On.written h N entry qs (pages_for h.size y - m) (at + 19) (size_bytes y) from v b in
      let held : pages_at (view2 b) at ≡ chain_at g b entry j =
      ap (pages_of (view2 b)) w.is ∙ ap (λ (h : Geometry). chain (On.next h b) (pages_for h.size size) start) (sym w.formed.made)
      ∙ ap (chain (On.next g b) j) (sym fields.starts) in
      ap (λ (m : ℕ). image g n (chain_at g b entry j) m z) (sym (chain_length (On.next g b) j (load entry b)))
      ∙ ap (λ (qs : List ℕ). image g n qs (length qs) z) (sym held)
      ∙ ap (λ (y : ℕ). image g n (pages_at (view2 b) at) (length (pages_at (view2 b) at)) (max y (from + length v))) (sym fields.sizes)
      ∙ ap₂ (λ (h : Geometry) (N : ℕ). image h N (pages_at (view2 b) at) (length (pages_at (view2 b) at)) (max (size_at b at) (from + length v)))
      w.formed.made w.formed.count

  -- ---- as the code goes: what each call has answered

  pub sizes_fit : (1 ≤ s.size) × (s.size ≤ 1024) × (0 < s.room) × (s.room ≤ 1024)
  sizes_fit =
      let same = w.formed.made in
      let room = ap (λ (h : Geometry). h.room) same in
      let size = ap (λ (h : Geometry). h.size) same in
      (omega (arith, numbers.large), numbers.bound, omega (arith, numbers.large, room, size), omega (arith, numbers.bound, room, size))

  module _ {h : ℕ} (eh : h ≡ pages_for s.size size) where
    pub held_inside : (1 ≤ h) × Inside g b h start
    held_inside = (
      omega (arith, eh, pages_some s.size size),
      subst (λ (m : ℕ). Inside g b m start) (sym eh) (subst (Inside g b j) fields.starts
          (writable_of law b w.chained.size j (load entry b) (λ q m. let t = w.chained.pages q m in (t.0, t.1))).inside),
    )

    module _ {x y : ℕ} (ey : y ≡ max size (from + length v)) (ex : x ≡ pages_for s.size y) where
      wanted : x ≡ pages_for s.size z
      wanted = ex ∙ ap (pages_for s.size) ey

      more : x - h ≡ k
      more = ap₂ (λ (a m : ℕ). a - m) wanted eh

      pub no_fewer : h ≤ x
      no_fewer = omega (arith, wanted, eh, many)

      module _ {f : Field} (ef : f ≡ g.link (beyond (On.next g b) (h - 1) start)) where
        joint : f ≡ joint_at g b entry j
        joint =
            ef ∙ ap₂ (λ (m p : ℕ). g.link (beyond (On.next g b) (m - 1) p)) eh (sym fields.starts)
            ∙ sym (joint_is g b entry j (load entry b) (pages_some s.size size))

        pub write_growing : Growing g n (x - h) f b
        write_growing = subst (λ (m : ℕ). Growing g n m f b) (sym more) (record {
          home = home_in b;
          lawful = law;
          words = shape_words w.formed b refl;
          fits = λ p l. subst (λ (e : Field). FitsIn e p) (sym ef) (links (beyond (On.next g b) (h - 1) start) p l);
          links = links;
          counted = omega (arith, w.counted, w.space);
          own = joint_page g b entry w.own j;
          room = subst (λ (e : Field). Room g (home_in b) n k e (joint_page g b entry w.own j) b) (sym joint)
              (chain_room law b entry w.own j k w.chained w.space);
        })

        module _ {c₁ u c₂ : Bytes} (e₁ : ButFor g (take (x - h - 1) (On.gained g n (x - h) b)) (On.grown g n (x - h) f b) c₁) (eu : u ≡ size_bytes y)
            (e₂ : c₂ ≡ put (at + 19) u c₁) where
          abbrev d₂ : Bytes
          d₂ = put (at + 19) (size_bytes z) c₁

          bare : ButFor g (take (k - 1) (On.gained g n k b)) b₁ c₁
          bare =
              subst (λ (e : Field). ButFor g (take (k - 1) (On.gained g n k b)) (On.grown g n k e b) c₁) joint
              (subst (λ (m : ℕ). ButFor g (take (m - 1) (On.gained g n m b)) (On.grown g n m f b) c₁) more e₁)

          same₂ : c₂ ≡ d₂
          same₂ = e₂ ∙ ap (λ (d : Bytes). put (at + 19) d c₁) (eu ∙ ap (λ (i : ℕ). size_bytes i) ey)

          found : chain (On.next g d₂) (pages_for s.size z) start ≡ ps
          found = covering_pages law k (size_bytes z) w.chained w.beside w.space bare (pages_for s.size z) start pages

          writable : Writable g d₂ (pages_for s.size z) start
          writable = writable_of law d₂ (covering_length law k (size_bytes z) w.chained w.beside w.space bare ∙ w.chained.size) (pages_for s.size z) start
              (λ q m. of_all q (subst (Mem q) found m))

          pub write_able : Writable g c₂ x start
          write_able = subst (λ (c : Bytes). Writable g c x start) (sym same₂) (subst (λ (m : ℕ). Writable g d₂ m start) (sym wanted) writable)

          pub write_done : {c₃ : Bytes} → c₃ ≡ spread (On.content g) s.room (chain (On.next g c₂) x start) from v c₂
              → c₃ ≡ EffectOf.rewritten layout2 view2 at from v b
          write_done e₃ =
              e₃ ∙ ap (λ (c : Bytes). spread (On.content g) s.room (chain (On.next g c) x start) from v c) same₂
              ∙ ap (λ (m : ℕ). spread (On.content g) s.room (chain (On.next g d₂) m start) from v d₂) wanted
              ∙ ap (λ (qs : List ℕ). spread (On.content g) s.room qs from v d₂) found
              ∙ covering_spread law k (size_bytes z) w.chained w.beside w.space bare from v begin_held cover_gained ∙ effect
