-- Writing along a chain: what is left of the bytes spread along the pages left is always the same image, and no link changes.
use mathlib.Core.Path.{◌≡◌, refl, sym, ap, ap₂, ◌∙◌}
use Prim.Native.Nat.{ℕ, ◌+◌, ◌-◌, ◌≤◌, ◌<◌, min}
use native.Mathlib.Nat.{sub-zero}
use native.Mathlib.Omega.{arith}
use native.Mathlib.Decide.{dec_lt}
use mathlib.Core.Bool.{Bool, true, false, not}
use mathlib.Core.List.{List, [], ◌∷◌}
use lib.ListN.{length, take, drop, length-take, length-drop, drop_of_length-le}
use lib.Seq.{take-nil, drop-nil}
use lib.Dec.{T, ltb}
use mir.Facts.{ltb_yes, ltb_no}
use Rattle.volume.specs.Bytes.{Bytes, byte_at, put}
use Rattle.std.specs.Prelude.{if◌then◌else◌}
use Rattle.volume.specs.Chain.{chain, spread}
use Rattle.volume.specs.Geometry as On
use Rattle.volume.specs.Geometry.{Geometry}
use Rattle.volume.proofs.Occ.{Mem}
use Rattle.volume.proofs.Splice.{splice_nil}
use Rattle.volume.proofs.Puts.{not_inside, put_length, put_out}
use Rattle.volume.proofs.Fields.{Off, load_same}
use Rattle.volume.proofs.Follow.{Each, Lies, PageLies, Inside, chain_turn, each_next, each_here, each_first}
use Rattle.volume.proofs.Stretches.{take_min, drop_min}

-- ---- one page

-- a place past the content of a page
pub none_put : (s r at : ℕ) (v b : Bytes) → r ≤ at → b ≡ put s (take (r - at) v) b
none_put s r at v b h = let z : r - at ≡ 0 = omega arith in sym (ap (λ (n : ℕ). put s (take n v) b) z ∙ splice_nil b s)

-- the bytes from `done` to e are what the page takes
pub some_put : (g : Geometry) (p at done e : ℕ) (v b : Bytes) → e ≡ done + min (g.room - at) (length v - done)
    → put (On.start g p + (g.size - g.room + at)) (take (e - done) (drop done v)) b ≡ put (On.content g p + at) (take (g.room - at) (drop done v)) b
some_put g p at done e v b h =
    let there : On.start g p + (g.size - g.room + at) ≡ On.content g p + at = omega arith in
    ap (λ (i : ℕ). put i (take (e - done) (drop done v)) b) there
    ∙ ap (λ (w : Bytes). put (On.content g p + at) w b) (take_min (g.room - at) (e - done) (drop done v) (omega (arith, length-drop done v)))

module _ (first : ℕ → ℕ) (r : ℕ) where
  -- a page takes its piece, if the place is on it, and the rest goes on from the next page
  pub spread_turn : (p : ℕ) (ps : List ℕ) (at : ℕ) (v b : Bytes)
      → spread first r (p ∷ ps) at v b ≡ spread first r ps (at - r) (drop (r - at) v) (put (first p + at) (take (r - at) v) b)
  unfolding spread
  spread_turn p ps at v b = go (ltb at r) (λ t. ltb_yes {a = at} {b = r} t) (λ t. ltb_no {a = at} {b = r} t)
    where
      go : (c : Bool) → (T c → at < r) → (T (not c) → r ≤ at)
          → (if c then spread first r ps 0 (drop (r - at) v) (put (first p + at) (take (r - at) v) b) else spread first r ps (at - r) v b)
          ≡ spread first r ps (at - r) (drop (r - at) v) (put (first p + at) (take (r - at) v) b)
      go true l g =
          let lt : at < r = l tt in
          let z : 0 ≡ at - r = omega arith in
          ap (λ (n : ℕ). spread first r ps n (drop (r - at) v) (put (first p + at) (take (r - at) v) b)) z
      go false l g =
          let le : r ≤ at = g tt in
          let z : 0 ≡ r - at = omega arith in
          ap (spread first r ps (at - r) v) (none_put (first p + at) r at v b le)
          ∙ ap (λ (n : ℕ). spread first r ps (at - r) (drop n v) (put (first p + at) (take (r - at) v) b)) z

  -- nothing to put
  pub spread_none : (ps : List ℕ) (at : ℕ) (b : Bytes) → spread first r ps at [] b ≡ b
  unfolding spread
  spread_none [] at b = refl
  spread_none (p ∷ ps) at b =
      spread_turn p ps at [] b
      ∙ ap₂ (spread first r ps (at - r)) (drop-nil (r - at)) (ap (λ (w : Bytes). put (first p + at) w b) (take-nil (r - at)) ∙ splice_nil b (first p + at))
      ∙ spread_none ps (at - r) b

  -- a piece put on a page
  pub piece_length : (p at : ℕ) (v b : Bytes) → first p + r ≤ length b → length (put (first p + at) (take (r - at) v) b) ≡ length b
  piece_length p at v b h = elim (dec_lt at r) [
    | yes l ↦ put_length (first p + at) (take (r - at) v) b (omega (arith, length-take (r - at) v))
    | no l ↦ sym (ap length (none_put (first p + at) r at v b (omega arith)))
  ]

  pub piece_out : (p at : ℕ) (v b : Bytes) (i : ℕ) → first p + r ≤ length b → (first p ≤ i → first p + r ≤ i)
      → byte_at (put (first p + at) (take (r - at) v) b) i ≡ byte_at b i
  piece_out p at v b i h o = elim (dec_lt at r) [
    | yes l ↦ put_out (first p + at) (take (r - at) v) b (omega (arith, length-take (r - at) v)) i (λ u. omega (arith, length-take (r - at) v, o (omega arith)))
    | no l ↦ sym (ap (λ (d : Bytes). byte_at d i) (none_put (first p + at) r at v b (omega arith)))
  ]

-- ---- the chain

-- the content of the k pages from p on can be put: they lie in the image, and what is content of one of them is no link of one of them
pub record Writable (g : Geometry) (b : Bytes) (k p : ℕ) : Type 0 where
  pub room : g.room ≤ g.size
  pub inside : Inside g b k p
  pub apart : (q r i : ℕ) → Mem q (chain (On.next g b) k p) → Mem r (chain (On.next g b) k p) → On.content g q ≤ i → i < On.content g q + g.room → Off (g.link r) i

abbrev spreads : (g : Geometry) (next : ℕ → ℕ) (k p at : ℕ) (v b : Bytes) → Bytes
spreads g next k p at v b = spread (On.content g) g.room (chain next k p) at v b

pub record Writing (g : Geometry) (b₀ v : Bytes) (k p₀ from i p at done : ℕ) (b : Bytes) : Type 0 where
  pub able : Writable g b₀ k p₀
  pub low : i ≤ k
  pub fits : done ≤ length v
  pub size : length b ≡ length b₀
  pub links : (q : ℕ) → Mem q (chain (On.next g b₀) k p₀) → On.next g b q ≡ On.next g b₀ q
  pub pages : Each (λ q. Mem q (chain (On.next g b₀) k p₀)) (chain (On.next g b₀) (k - i) p)
  pub same : spreads g (On.next g b₀) (k - i) p at (drop done v) b ≡ spreads g (On.next g b₀) k p₀ from v b₀

module _ {g : Geometry} {b₀ v : Bytes} {k p₀ from : ℕ} where
  pub writing_first : Writable g b₀ k p₀ → Writing g b₀ v k p₀ from 0 p₀ from 0 b₀
  writing_first c = record {
    able = c;
    low = omega arith;
    fits = omega arith;
    size = refl;
    links = λ q m. refl;
    pages = each_first (On.next g b₀) k p₀ (λ q m. m);
    same = ap (λ (n : ℕ). spreads g (On.next g b₀) n p₀ from v b₀) (sub-zero k);
  }

  module _ {i p at done : ℕ} {b : Bytes} (r : Writing g b₀ v k p₀ from i p at done b) where
    here : i < k → Mem p (chain (On.next g b₀) k p₀)
    here h = each_here (On.next g b₀) k i p h r.pages

    pub writing_here : i < k → PageLies g p b × Lies (g.link p) b
    writing_here h = let t = r.able.inside p (here h) in (omega (arith, t.0, r.size), omega (arith, t.1, r.size))

    pub writing_turn : i < k → {b' : Bytes} {at' done' p' : ℕ}
        → b' ≡ put (On.content g p + at) (take (g.room - at) (drop done v)) b
        → done' ≡ done + min (g.room - at) (length v - done) → at' ≡ at - g.room → p' ≡ On.next g b' p
        → Writing g b₀ v k p₀ from (i + 1) p' at' done' b'
    writing_turn h {b'} {at'} {done'} {p'} eb edone eat ep = record {
      able = r.able;
      low = omega arith;
      fits = omega (arith, r.fits);
      size = ap length eb ∙ piece_length (On.content g) g.room p at (drop done v) b inside ∙ r.size;
      links = links;
      pages = each_next (On.next g b₀) k i p p' h there r.pages;
      same = step ∙ r.same;
    }
      where
        inside : On.content g p + g.room ≤ length b
        inside = omega (arith, (writing_here h).0, r.able.room)

        links : (q : ℕ) → Mem q (chain (On.next g b₀) k p₀) → On.next g b' q ≡ On.next g b₀ q
        links q m =
            ap (λ (d : Bytes). On.next g d q) eb
            ∙ load_same (g.link q) b (put (On.content g p + at) (take (g.room - at) (drop done v)) b)
            (λ j l u. piece_out (On.content g) g.room p at (drop done v) b j inside
            (not_inside (On.content g p) g.room j (λ c d. omega (arith, r.able.apart p q j (here h) m c d l))))
            ∙ r.links q m

        there : p' ≡ On.next g b₀ p
        there = ep ∙ links p (here h)

        left : drop done' v ≡ drop (g.room - at) (drop done v)
        left = ap (λ (n : ℕ). drop n v) edone ∙ drop_min (g.room - at) (min (g.room - at) (length v - done)) done v refl r.fits

        step : spreads g (On.next g b₀) (k - (i + 1)) p' at' (drop done' v) b' ≡ spreads g (On.next g b₀) (k - i) p at (drop done v) b
        step =
            let ps : List ℕ = chain (On.next g b₀) (k - (i + 1)) p' in
            let w : Bytes = drop (g.room - at) (drop done v) in
            ap (λ (d : Bytes). spread (On.content g) g.room ps at' d b') left
            ∙ ap (λ (n : ℕ). spread (On.content g) g.room ps n w b') eat
            ∙ ap (spread (On.content g) g.room ps (at - g.room) w) eb
            ∙ sym (spread_turn (On.content g) g.room p ps at (drop done v) b)
            ∙ ap (λ (qs : List ℕ). spread (On.content g) g.room qs at (drop done v) b) (sym (chain_turn (On.next g b₀) k i p p' h there))

    pub writing_last : k ≤ i → b ≡ spreads g (On.next g b₀) k p₀ from v b₀
    unfolding chain spread
    writing_last h = let z : 0 ≡ k - i = omega arith in ap (λ (n : ℕ). spreads g (On.next g b₀) n p at (drop done v) b) z ∙ r.same

    -- all bytes are put
    pub writing_done : done ≡ length v → b ≡ spreads g (On.next g b₀) k p₀ from v b₀
    writing_done e =
        sym (ap (λ (w : Bytes). spreads g (On.next g b₀) (k - i) p at w b) (drop_of_length-le v {i = done} (omega arith))
        ∙ spread_none (On.content g) g.room (chain (On.next g b₀) (k - i) p) at b)
        ∙ r.same
