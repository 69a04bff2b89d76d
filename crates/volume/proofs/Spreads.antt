-- Bytes spread along the pages of a chain: the content is the old with them put at their place, and all else stays,
-- since each page takes its piece, and a put over the seam of two lists is a put on each.
use mathlib.Core.Path.{◌≡◌, refl, sym, ap, ap₂, ◌∙◌, subst}
use mathlib.Core.Logic.{◌≢◌}
use Prim.Native.Nat.{ℕ, ◌+◌, ◌-◌, ◌*◌, ◌≤◌, ◌<◌, min}
use native.Mathlib.Omega.{arith}
use native.Mathlib.Nat.{mul-suc}
use native.Mathlib.Decide.{dec_le}
use mathlib.Core.Bool.{Bool, true, false, not}
use mathlib.Core.List.{List, [], ◌∷◌, ◌++◌, flat_map, append-nil}
use lib.ListN.{length, take, drop, length-take, length-drop, take-append-drop, length-append, drop_of_length-le}
use lib.Seq.{length-take-le, take_at, drop_at}
use lib.Dec.{T, ltb, lt→ltb}
use mir.Facts.{ltb_yes, ltb_no}
use Rattle.volume.specs.Bytes.{Bytes, byte_at, part, put}
use Rattle.std.specs.Prelude.{if◌then◌else◌}
use Rattle.volume.specs.Chain.{spread, along}
use Rattle.volume.proofs.Occ.{occ, Nodup, mem_head, mem_tail, mem_apart, nodup_head, nodup_tail}
use Rattle.volume.proofs.Tests.{if_yes}
use Rattle.volume.proofs.Flat.{flat_map_same}
use Rattle.volume.proofs.Splice.{splice_nil, splice_left, splice_right, splice_splice, splice_length_in}
use Rattle.volume.proofs.Puts.{not_inside, put_length, put_out, part_bytes, part_length, put_part_out}

-- a put inside a stretch
pub put_part_in : (i : ℕ) (v b : Bytes) (s n : ℕ) → s + n ≤ length b → i + length v ≤ n → part s n (put (s + i) v b) ≡ put i v (part s n b)
put_part_in i v b s n h k =
    ap (take n) (cut ∙ two) ∙ take_at (put i v (take n y)) (drop n y) n (splice_length_in (take n y) i v (omega (arith, ly)) ∙ ly)
  where
    x : Bytes
    x = take s b

    y : Bytes
    y = drop s b

    lx : length (take s b) ≡ s
    lx = length-take-le s b (omega arith)

    ly : length (take n (drop s b)) ≡ n
    ly = part_length s n b h

    -- the put is behind the first s bytes
    cut : drop s (put (s + i) v b) ≡ put i v (drop s b)
    cut =
        ap (λ (r : Bytes). drop s (put (s + i) v r)) (sym (take-append-drop s b))
        ∙ ap (λ (m : ℕ). drop s (put (m + i) v (x ++ y))) (sym lx)
        ∙ ap (drop s) (splice_right x y i v)
        ∙ drop_at x (put i v y) s lx

    two : put i v (drop s b) ≡ put i v (take n (drop s b)) ++ drop n (drop s b)
    two = ap (λ (r : Bytes). put i v r) (sym (take-append-drop n y)) ∙ splice_left (take n y) (drop n y) i v (omega (arith, ly))

-- a put over the seam of two lists, in two pieces
put_halves : (x y : Bytes) (i : ℕ) (v : Bytes) → i < length x
    → put i (take (length x - i) v) x ++ put 0 (drop (length x - i) v) y ≡ put i v (x ++ y)
put_halves x y i v h = elim (dec_le (length v) (length x - i)) [
  | yes k ↦
      let none : v₂ ≡ [] = drop_of_length-le v k in
      ap (λ (r : Bytes). put i v₁ x ++ put 0 r y) none ∙ ap (λ (r : Bytes). put i v₁ x ++ r) (splice_nil y 0)
      ∙ sym (splice_left x y i v₁ fits)
      ∙ ap (λ (r : Bytes). put i r (x ++ y)) (sym (append-nil v₁) ∙ ap (λ (r : Bytes). v₁ ++ r) (sym none) ∙ take-append-drop (length x - i) v)
  | no k ↦
      let full : length (put i v₁ x) ≡ i + length v₁ = splice_length_in x i v₁ fits ∙ omega (arith, l₁) in
      let seam : length (put i v₁ x) + 0 ≡ i + length v₁ = omega (arith, full) in
      sym (splice_right (put i v₁ x) y 0 v₂)
      ∙ ap₂ {C = Bytes} (λ (n : ℕ) (r : Bytes). put n v₂ r) seam (sym (splice_left x y i v₁ fits))
      ∙ splice_splice (x ++ y) i v₁ (omega (arith, length-append x y)) v₂
      ∙ ap (λ (r : Bytes). put i r (x ++ y)) (take-append-drop (length x - i) v)
]
  where
    v₁ : Bytes
    v₁ = take (length x - i) v

    v₂ : Bytes
    v₂ = drop (length x - i) v

    l₁ : length (take (length x - i) v) ≡ min (length x - i) (length v)
    l₁ = length-take (length x - i) v

    fits : i + length (take (length x - i) v) ≤ length x
    fits = omega (arith, l₁)

put_seam : (x y : Bytes) (n : ℕ) → length x ≡ n → (i : ℕ) (v : Bytes) → i < n → put i (take (n - i) v) x ++ put 0 (drop (n - i) v) y ≡ put i v (x ++ y)
put_seam x y n e i v h =
    subst (λ (m : ℕ). put i (take (m - i) v) x ++ put 0 (drop (m - i) v) y ≡ put i v (x ++ y)) e (put_halves x y i v (omega arith))

module _ (first : ℕ → ℕ) (room : ℕ) where
  -- the pages' stretches lie in b
  abbrev pub Fits : List ℕ → Bytes → Type 0
  Fits ps b = (p : ℕ) → 1 ≤ occ p ps → first p + room ≤ length b

  -- what of v goes on the page at hand
  piece : (p at : ℕ) (v b : Bytes) → at < room → first p + room ≤ length b → first p + at + length (take (room - at) v) ≤ length b
  piece p at v b h k = omega (arith, length-take (room - at) v)

  pub spread_length : (ps : List ℕ) (at : ℕ) (v b : Bytes) → Fits ps b → length (spread first room ps at v b) ≡ length b
  unfolding spread
  spread_length [] at v b h = refl
  spread_length (p ∷ ps) at v b h = go (ltb at room) (λ u. ltb_yes {a = at} {b = room} u) (λ at v b h. spread_length ps at v b h)
    where
      later : Fits ps b
      later q m = h q (mem_tail q p ps m)

      go : (c : Bool) → (T c → at < room)
          → ((at : ℕ) (v b : Bytes) → Fits ps b → length (spread first room ps at v b) ≡ length b)
          → length (if c then spread first room ps 0 (drop (room - at) v) (put (first p + at) (take (room - at) v) b) else spread first room ps (at - room) v b) ≡ length b
      go true l next =
          let f = piece p at v b (l tt) (h p (mem_head p ps)) in
          let e : length (put (first p + at) (take (room - at) v) b) ≡ length b = put_length (first p + at) (take (room - at) v) b f in
          next 0 (drop (room - at) v) (put (first p + at) (take (room - at) v) b) (λ q m. omega (arith, e, later q m)) ∙ e
      go false l next = next (at - room) v b later

  -- bytes outside the stretches stay
  pub spread_out : (ps : List ℕ) (at : ℕ) (v b : Bytes) → Fits ps b
      → (i : ℕ) → ((p : ℕ) → 1 ≤ occ p ps → first p ≤ i → first p + room ≤ i) → byte_at (spread first room ps at v b) i ≡ byte_at b i
  unfolding spread
  spread_out [] at v b h i o = refl
  spread_out (p ∷ ps) at v b h i o = go (ltb at room) (λ u. ltb_yes {a = at} {b = room} u) (λ at v b h. spread_out ps at v b h i (λ q m. o q (mem_tail q p ps m)))
    where
      later : Fits ps b
      later q m = h q (mem_tail q p ps m)

      go : (c : Bool) → (T c → at < room)
          → ((at : ℕ) (v b : Bytes) → Fits ps b → byte_at (spread first room ps at v b) i ≡ byte_at b i)
          → byte_at (if c then spread first room ps 0 (drop (room - at) v) (put (first p + at) (take (room - at) v) b) else spread first room ps (at - room) v b) i ≡ byte_at b i
      go true l next =
          let lt : at < room = l tt in
          let f = piece p at v b lt (h p (mem_head p ps)) in
          let e : length (put (first p + at) (take (room - at) v) b) ≡ length b = put_length (first p + at) (take (room - at) v) b f in
          next 0 (drop (room - at) v) (put (first p + at) (take (room - at) v) b) (λ q m. omega (arith, e, later q m))
          ∙ put_out (first p + at) (take (room - at) v) b f i (λ u. omega (arith, length-take (room - at) v, o p (mem_head p ps) (omega arith)))
      go false l next = next (at - room) v b later

  along_here : (p : ℕ) (ps : List ℕ) (k : ℕ) → k < room → along first room (p ∷ ps) k ≡ first p + k
  unfolding along
  along_here p ps k h = if_yes (ltb k room) (first p + k) (along first room ps (k - room)) (lt→ltb k room h)

  along_next : (p : ℕ) (ps : List ℕ) (k : ℕ) → along first room (p ∷ ps) (k + room) ≡ along first room ps k
  unfolding along
  along_next p ps k = go (ltb (k + room) room) (λ u. ltb_yes {a = k + room} {b = room} u)
    where
      go : (c : Bool) → (T c → k + room < room) → (if c then first p + (k + room) else along first room ps (k + room - room)) ≡ along first room ps k
      go true l = absurd (omega (arith, l tt))
      go false l = let e : k + room - room ≡ k = omega arith in ap (along first room ps) e

  -- bytes at which none of v goes stay
  pub spread_elsewhere : (ps : List ℕ) (at : ℕ) (v b : Bytes) → Fits ps b
      → (i : ℕ) → ((k : ℕ) → at ≤ k → k < at + length v → i ≢ along first room ps k) → byte_at (spread first room ps at v b) i ≡ byte_at b i
  unfolding spread
  spread_elsewhere [] at v b h i o = refl
  spread_elsewhere (p ∷ ps) at v b h i o = go (ltb at room) (λ u. ltb_yes {a = at} {b = room} u) (λ u. ltb_no {a = at} {b = room} u) (λ at v b h. spread_elsewhere ps at v b h i)
    where
      later : Fits ps b
      later q m = h q (mem_tail q p ps m)

      go : (c : Bool) → (T c → at < room) → (T (not c) → room ≤ at)
          → ((at : ℕ) (v b : Bytes) → Fits ps b → ((k : ℕ) → at ≤ k → k < at + length v → i ≢ along first room ps k) → byte_at (spread first room ps at v b) i ≡ byte_at b i)
          → byte_at (if c then spread first room ps 0 (drop (room - at) v) (put (first p + at) (take (room - at) v) b) else spread first room ps (at - room) v b) i ≡ byte_at b i
      go true l g next =
          let lt : at < room = l tt in
          let v₁ : Bytes = take (room - at) v in
          let l₁ : length v₁ ≡ min (room - at) (length v) = length-take (room - at) v in
          let f = piece p at v b lt (h p (mem_head p ps)) in
          let e : length (put (first p + at) v₁ b) ≡ length b = put_length (first p + at) v₁ b f in
          next 0 (drop (room - at) v) (put (first p + at) v₁ b) (λ q m. omega (arith, e, later q m))
          (λ k u w z. o (k + room) (omega arith) (omega (arith, length-drop (room - at) v)) (z ∙ sym (along_next p ps k)))
          ∙ put_out (first p + at) v₁ b f i (not_inside (first p + at) (length v₁) i (λ u w.
          let k : i - first p < room = omega (arith, l₁) in
          let z : i ≡ first p + (i - first p) = omega arith in
          o (i - first p) (omega arith) (omega (arith, l₁)) (z ∙ sym (along_here p ps (i - first p) k))))
      go false l g next =
          let le : room ≤ at = g tt in
          next (at - room) v b later (λ k u w z. o (k + room) (omega arith) (omega arith) (z ∙ sym (along_next p ps k)))

  module _ (apart : (p q : ℕ) → p ≢ q → first p ≤ first q → first p + room ≤ first q) where
    -- a page's stretch is outside those of other pages
    outside : (p q i : ℕ) → p ≢ q → first p ≤ i → i < first p + room → first q ≤ i → first q + room ≤ i
    outside p q i ne l m k = elim (dec_le (first p) (first q)) [
      | yes u ↦ omega (arith, apart p q ne u)
      | no u ↦ omega (arith, apart q p (λ e. ne (sym e)) (omega arith))
    ]

    pub spread_part : (ps : List ℕ) (at : ℕ) (v b : Bytes) → Fits ps b
        → (p : ℕ) → occ p ps ≡ 0 → part (first p) room (spread first room ps at v b) ≡ part (first p) room b
    spread_part ps at v b h p out =
        part_bytes (first p) room b (spread first room ps at v b) (spread_length ps at v b h)
        (λ i l m. spread_out ps at v b h i (λ q k. outside p q i (λ e. mem_apart q p ps k out (sym e)) l m))

    -- the content of other pages under a put into page p's stretch
    others : (ps : List ℕ) (p i : ℕ) (v b : Bytes) → first p + room ≤ length b → i + length v ≤ room → occ p ps ≡ 0
        → flat_map (λ q. part (first q) room (put (first p + i) v b)) ps ≡ flat_map (λ q. part (first q) room b) ps
    others ps p i v b h k out =
        flat_map_same (λ q. part (first q) room (put (first p + i) v b)) (λ q. part (first q) room b) ps (λ q m.
        let ne : q ≢ p = mem_apart q p ps m out in
        put_part_out (first p + i) v b (first q) room (omega arith) (λ l. elim (dec_le (first p) (first q)) [
          | yes u ↦ omega (arith, apart p q (λ e. ne (sym e)) u)
          | no u ↦ omega (arith, apart q p ne (omega arith))
        ]))

    -- the content of the pages is the old content with v put at its place
    pub spread_content : (ps : List ℕ) (at : ℕ) (v b : Bytes) → Nodup ps → Fits ps b
        → at + length v ≤ room * length ps
        → flat_map (λ p. part (first p) room (spread first room ps at v b)) ps ≡ put at v (flat_map (λ p. part (first p) room b) ps)
    unfolding flat_map spread
    spread_content [] at [] b d h k = sym (splice_nil {A = ℕ} [] at)
    spread_content [] at (w ∷ v) b d h k = absurd (omega arith)
    spread_content (p ∷ ps) at v b d h k = go (ltb at room) (λ u. ltb_yes {a = at} {b = room} u) (λ u. ltb_no {a = at} {b = room} u)
        (λ at v b h k. spread_content ps at v b (nodup_tail p ps d) h k)
      where
        out : occ p ps ≡ 0
        out = nodup_head p ps d

        later : Fits ps b
        later q m = h q (mem_tail q p ps m)

        x : Bytes
        x = part (first p) room b

        y : Bytes
        y = flat_map (λ q. part (first q) room b) ps

        lx : length (part (first p) room b) ≡ room
        lx = part_length (first p) room b (h p (mem_head p ps))

        go : (c : Bool) → (T c → at < room) → (T (not c) → room ≤ at)
            → ((at : ℕ) (v b : Bytes) → Fits ps b → at + length v ≤ room * length ps
            → flat_map (λ q. part (first q) room (spread first room ps at v b)) ps ≡ put at v (flat_map (λ q. part (first q) room b) ps))
            → let b' = (if c then spread first room ps 0 (drop (room - at) v) (put (first p + at) (take (room - at) v) b) else spread first room ps (at - room) v b) in
            part (first p) room b' ++ flat_map (λ q. part (first q) room b') ps ≡ put at v (x ++ y)
        go true l g next =
            let lt : at < room = l tt in
            let v₁ : Bytes = take (room - at) v in
            let v₂ : Bytes = drop (room - at) v in
            let b₁ : Bytes = put (first p + at) v₁ b in
            let l₁ : length v₁ ≡ min (room - at) (length v) = length-take (room - at) v in
            let e : length b₁ ≡ length b = put_length (first p + at) v₁ b (piece p at v b lt (h p (mem_head p ps))) in
            let h₁ : Fits ps b₁ = λ q m. omega (arith, e, later q m) in
            ap₂ {C = Bytes} (λ (r s : Bytes). r ++ s)
            (spread_part ps 0 v₂ b₁ h₁ p out ∙ put_part_in at v₁ b (first p) room (h p (mem_head p ps)) (omega arith))
            (next 0 v₂ b₁ h₁ (omega (arith, length-drop (room - at) v, mul-suc room (length ps)))
            ∙ ap (λ (r : Bytes). put 0 v₂ r) (others ps p at v₁ b (h p (mem_head p ps)) (omega arith) out))
            ∙ put_seam x y room lx at v lt
        go false l g next =
            let le : room ≤ at = g tt in
            let e : at ≡ length x + (at - room) = omega (arith, lx) in
            ap₂ {C = Bytes} (λ (r s : Bytes). r ++ s) (spread_part ps (at - room) v b later p out)
            (next (at - room) v b later (omega (arith, mul-suc room (length ps))))
            ∙ sym (ap (λ (n : ℕ). put n v (x ++ y)) e ∙ splice_right x y (at - room) v)
