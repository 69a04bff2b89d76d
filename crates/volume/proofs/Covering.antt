-- A write over a chain whose gained pages are zeroed only where it leaves content of theirs: with the stretch set, it finds the pages that it would find, and makes
-- what it would make, had they all been zeroed. The bytes cover every page gained but the last.
use mathlib.Core.Path.{◌≡◌, refl, sym, ap, ap₂, ◌∙◌, subst}
use mathlib.Core.Logic.{inl, inr}
use Prim.Native.Nat.{ℕ, zero, suc, ◌+◌, ◌-◌, ◌*◌, ◌≤◌, ◌<◌}
use native.Mathlib.Nat.{mul-add}
use native.Mathlib.Omega.{arith}
use mathlib.Core.List.{List, [], ◌++◌}
use lib.ListN.{length, take, drop, length-take, take-append-drop}
use lib.Seq.{take_all}
use Rattle.volume.specs.Bytes.{Bytes, put}
use Rattle.volume.specs.Chain.{chain, spread}
use Rattle.volume.specs.Field.{Field, load}
use Rattle.volume.specs.Geometry.{Geometry, content, next, page_bit, zero_bits, grown, gained}
use Rattle.volume.proofs.Occ.{occ, Mem, mem_or_not, occ_append}
use Rattle.volume.proofs.Puts.{put_length}
use Rattle.volume.proofs.Chains.{chain_length}
use Rattle.volume.proofs.Fields.{load_same}
use Rattle.volume.proofs.Lawful.{Lawful}
use Rattle.volume.proofs.Pages.{page_in}
use Rattle.volume.proofs.Grow.{Gained, gained_is}
use Rattle.volume.proofs.Longer.{chain_at, joint_at, Chained, chain_grown}
use Rattle.volume.proofs.Writes.{Beside, content_end}
use Rattle.volume.proofs.Unzeroed.{ButFor, but_none, but_put, spread_covers}
use Rattle.volume.proofs.Claiming.{Within, off_others, but_chain}

module _ {g : Geometry} {home : ℕ → ℕ} {N : ℕ} (law : Lawful g home N) {b : Bytes} {entry : Field} {own j at : ℕ} (k : ℕ) (w : Bytes) (c : Chained g home N b entry own j)
    (d : Beside g home N entry own at (length w) b) (hk : k ≤ zero_bits g b N) {b₁ : Bytes}
    (r : ButFor g (take (k - 1) (gained g N k b)) (grown g N k (joint_at g b entry j) b) b₁) where
  -- the pages held and gained, those of them that are not zeroed, and the image with all zeroed
  abbrev ps : List ℕ
  ps = chain_at g b entry j

  abbrev qs : List ℕ
  qs = gained g N k b

  abbrev bare : List ℕ
  bare = take (k - 1) (gained g N k b)

  abbrev whole : Bytes
  whole = grown g N k (joint_at g b entry j) b

  new : Gained g N k b
  new = gained_is law k b c.size c.aside hk

  size : length whole ≡ length b
  size = (chain_grown law b entry own j k c hk).size

  fits : at + length w ≤ length whole
  fits = omega (arith, d.inside, size)

  set : ButFor g bare (put at w whole) (put at w b₁)
  set = but_put r at w fits

  set_size : length (put at w whole) ≡ length b
  set_size = put_length at w whole fits ∙ size

  of_gained : (q : ℕ) → Mem q bare → Mem q qs
  of_gained q m = omega (arith, ap (occ q) (take-append-drop (k - 1) qs), occ_append q bare (drop (k - 1) qs))

  within : Within g N bare
  within = record { page = λ q m. let t = new.new q (of_gained q m) in (t.0, t.1) }

  among : (q : ℕ) → Mem q (ps ++ qs) → (g.aside ≤ q) × (q < N)
  among q m = elim (mem_or_not q ps) [
    | inl h ↦ ((c.pages q h).0, (c.pages q h).1)
    | inr h ↦ let t = new.new q (omega (arith, occ_append q ps qs)) in (t.0, t.1)
  ]

  -- the field is in a marked page
  pub covering_first : load entry (put at w b₁) ≡ load entry (put at w whole)
  covering_first = load_same entry (put at w whole) (put at w b₁) (λ i l u. set.bytes i (off_others law within i (λ q m e.
      omega (arith, (new.new q (of_gained q m)).2, ap (page_bit g b) (sym e ∙ (c.held.bytes i l u).0), c.held.marked))))

  pub covering_pages : (m p : ℕ) → chain (next g (put at w whole)) m p ≡ ps ++ qs → chain (next g (put at w b₁)) m p ≡ ps ++ qs
  covering_pages m p e = but_chain law within set m p (λ q h. among q (subst (Mem q) e h)) ∙ e

  pub covering_length : length (put at w b₁) ≡ length b
  covering_length = set.size ∙ set_size

  pub covering_spread : (from : ℕ) (v : Bytes) → from ≤ g.room * j → (1 ≤ k → g.room * (j + (k - 1)) ≤ from + length v)
      → spread (content g) g.room (ps ++ qs) from v (put at w b₁) ≡ spread (content g) g.room (ps ++ qs) from v (put at w whole)
  covering_spread from v hf hv = go k refl
    where
      lie : (q : ℕ) → Mem q (ps ++ qs) → content g q + g.room ≤ length (put at w whole)
      lie q m = omega (arith, content_end law q, page_in g home N law q (among q m).1, c.size, set_size)

      go : (i : ℕ) → k ≡ i → spread (content g) g.room (ps ++ qs) from v (put at w b₁) ≡ spread (content g) g.room (ps ++ qs) from v (put at w whole)
      go zero e =
          let few : length bare ≡ 0 = omega (arith, length-take (k - 1) qs, new.many) in
          ap (spread (content g) g.room (ps ++ qs) from v) (but_none (subst (λ (xs : List ℕ). ButFor g xs (put at w whole) (put at w b₁)) (none bare few) set))
        where
          none : (xs : List ℕ) → length xs ≡ 0 → xs ≡ []
          none xs h = sym (take_all 0 xs (omega arith))
      go (suc i) e =
          let lp : length ps ≡ j = chain_length (next g b) j (load entry b) in
          let lq : length bare ≡ k - 1 = omega (arith, length-take (k - 1) qs, new.many) in
          let both : g.room * length ps + g.room * length bare ≡ g.room * (j + (k - 1)) =
          ap₂ (λ (x y : ℕ). g.room * x + g.room * y) lp lq ∙ sym (mul-add g.room j (k - 1)) in
          let cut : ps ++ qs ≡ ps ++ (bare ++ drop (k - 1) qs) = ap (λ (xs : List ℕ). ps ++ xs) (sym (take-append-drop (k - 1) qs)) in
          ap (λ (xs : List ℕ). spread (content g) g.room xs from v (put at w b₁)) cut
          ∙ spread_covers g ps bare (drop (k - 1) qs) from v (put at w whole) (put at w b₁) set
          (λ q m. lie q (omega (arith, occ_append q ps qs))) (λ q m. lie q (omega (arith, occ_append q ps qs, of_gained q m)))
          (subst (λ (x : ℕ). from ≤ g.room * x) (sym lp) hf) (omega (arith, both, hv (omega arith)))
          ∙ sym (ap (λ (xs : List ℕ). spread (content g) g.room xs from v (put at w whole)) cut)
