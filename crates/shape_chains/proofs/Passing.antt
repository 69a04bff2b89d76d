-- Where reading and writing begin and end: the pages before that of the position are passed over by their links, and on the last page all is done.
use mathlib.Core.Path.{◌≡◌, refl, sym, ap, ◌∙◌, subst}
use Prim.Native.Nat.{ℕ, zero, suc, ◌+◌, ◌-◌, ◌*◌, ◌/◌, ◌%◌, ◌≤◌, ◌<◌, min}
use native.Mathlib.Nat.{mul-zero, mul-suc, mul-le-mul_left, div-add-mod}
use native.Mathlib.Numerals.{add-one}
use native.Mathlib.Omega.{arith}
use mathlib.Core.List.{◌++◌, flat_map}
use lib.ListN.{length, take, drop}
use Rattle.volume.specs.Bytes.{Bytes, put}
use Rattle.volume.specs.Chain.{chain, beyond, spread}
use Rattle.volume.specs.Geometry as On
use Rattle.volume.specs.Geometry.{Geometry}
use Rattle.volume.proofs.Occ.{occ, occ_append}
use Rattle.volume.proofs.Chains.{chain_append, beyond_suc}
use Rattle.volume.proofs.Follow.{Inside, each_here}
use Rattle.volume.proofs.Reading.{Reading, none_read, reading_first, reading_turn, reading_last, reading_done}
use Rattle.volume.proofs.Writing.{Writable, Writing, none_put, writing_first, writing_turn, writing_last, writing_done}

-- the first j of k pages lie in the image too
pub inside_front : (g : Geometry) (b : Bytes) (j k p : ℕ) → j < k → Inside g b k p → Inside g b j p
inside_front g b j k p h c q m =
    let long : k ≡ j + (k - j) = omega arith in
    let cut : chain (On.next g b) k p ≡ chain (On.next g b) j p ++ chain (On.next g b) (k - j) (beyond (On.next g b) j p) = ap (λ (n : ℕ). chain (On.next g b) n p) long ∙ chain_append (On.next g b) j (k - j) p in
    c q (omega (arith, m, ap (occ q) cut, occ_append q (chain (On.next g b) j p) (chain (On.next g b) (k - j) (beyond (On.next g b) j p))))

-- k pages lie before the place
behind : (room k from : ℕ) → k ≤ from / room → from ≡ room * k + (from - room * k)
behind room k from h = omega (arith, mul-le-mul_left room h, div-add-mod from room)

-- ---- reading

module _ (g : Geometry) (b : Bytes) (k p₀ from count : ℕ) (d₀ : Bytes) (whole : g.room ≤ g.size) (fits : count ≤ length d₀) where
  over_one : {i p at : ℕ} → i < k → Reading g b k p₀ from count d₀ i p (g.room + at) 0 d₀ → Reading g b k p₀ from count d₀ (i + 1) (On.next g b p) at 0 d₀
  over_one {i} {p} {at} h r = reading_turn r h whole fits refl (none_read g b d₀ p (g.room + at) 0 count (omega arith)) (omega arith) (omega arith) refl

  over : (m at : ℕ) → m ≤ k → from ≡ g.room * m + at → Inside g b k p₀ → Reading g b k p₀ from count d₀ m (beyond (On.next g b) m p₀) at 0 d₀
  unfolding beyond
  over zero at h e c = let here : from ≡ at = omega (arith, mul-zero g.room) in subst (λ (a : ℕ). Reading g b k p₀ from count d₀ 0 p₀ a 0 d₀) here (reading_first c)
  over (suc m) at h e c =
      subst (λ (q : ℕ). Reading g b k p₀ from count d₀ (suc m) q at 0 d₀) (sym (beyond_suc (On.next g b) m p₀))
      (subst (λ (n : ℕ). Reading g b k p₀ from count d₀ n (On.next g b (beyond (On.next g b) m p₀)) at 0 d₀) (add-one m)
      (over_one (omega arith) (over m (g.room + at) (omega arith) (omega (arith, mul-suc g.room m)) c)))

  -- no page reaches to the position
  pub reading_none : Inside g b k p₀ → k ≤ from / g.room → d₀ ≡ put 0 (take count (drop from (flat_map (On.content_on g b) (chain (On.next g b) k p₀)))) d₀
  reading_none c h = reading_last (over k (from - g.room * k) (omega arith) (behind g.room k from h) c) (omega arith)

  -- the page of the position
  pub reading_page : Inside g b k p₀ → from / g.room < k → {p : ℕ} → p ≡ beyond (On.next g b) (from / g.room) p₀
      → Reading g b k p₀ from count d₀ (from / g.room) p (from % g.room) 0 d₀
  reading_page c h e =
      subst (λ (q : ℕ). Reading g b k p₀ from count d₀ (from / g.room) q (from % g.room) 0 d₀) (sym e)
      (over (from / g.room) (from % g.room) (omega arith) (sym (div-add-mod from g.room)) c)

-- the last page that is wanted
module _ {g : Geometry} {b : Bytes} {k p₀ from count : ℕ} {d₀ : Bytes} where
  pub reading_end : g.room ≤ g.size → count ≤ length d₀ → {i p done : ℕ} {d d' : Bytes} → Reading g b k p₀ from count d₀ i p 0 done d → i < k → count - done < g.room → length d' ≡ length d
      → d' ≡ put done (take (count - done) (drop 0 (On.content_on g b p))) d
      → d' ≡ put 0 (take count (drop from (flat_map (On.content_on g b) (chain (On.next g b) k p₀)))) d₀
  reading_end whole fits r h less size ed = reading_done (reading_turn r h whole fits size ed refl refl refl) (omega (arith, r.fits))

-- ---- writing

module _ (g : Geometry) (b₀ v : Bytes) (k p₀ from : ℕ) where
  along_one : {i p at : ℕ} → i < k → Writing g b₀ v k p₀ from i p (g.room + at) 0 b₀ → Writing g b₀ v k p₀ from (i + 1) (On.next g b₀ p) at 0 b₀
  along_one {i} {p} {at} h r = writing_turn r h (none_put (On.content g p + (g.room + at)) g.room (g.room + at) (drop 0 v) b₀ (omega arith)) (omega arith) (omega arith) refl

  along : (m at : ℕ) → m ≤ k → from ≡ g.room * m + at → Writable g b₀ k p₀ → Writing g b₀ v k p₀ from m (beyond (On.next g b₀) m p₀) at 0 b₀
  unfolding beyond
  along zero at h e c = let here : from ≡ at = omega (arith, mul-zero g.room) in subst (λ (a : ℕ). Writing g b₀ v k p₀ from 0 p₀ a 0 b₀) here (writing_first c)
  along (suc m) at h e c =
      subst (λ (q : ℕ). Writing g b₀ v k p₀ from (suc m) q at 0 b₀) (sym (beyond_suc (On.next g b₀) m p₀))
      (subst (λ (n : ℕ). Writing g b₀ v k p₀ from n (On.next g b₀ (beyond (On.next g b₀) m p₀)) at 0 b₀) (add-one m)
      (along_one (omega arith) (along m (g.room + at) (omega arith) (omega (arith, mul-suc g.room m)) c)))

  pub writing_none : Writable g b₀ k p₀ → k ≤ from / g.room → b₀ ≡ spread (On.content g) g.room (chain (On.next g b₀) k p₀) from v b₀
  writing_none c h = writing_last (along k (from - g.room * k) (omega arith) (behind g.room k from h) c) (omega arith)

  pub writing_page : Writable g b₀ k p₀ → from / g.room < k → {p : ℕ} → p ≡ beyond (On.next g b₀) (from / g.room) p₀
      → Writing g b₀ v k p₀ from (from / g.room) p (from % g.room) 0 b₀
  writing_page c h e =
      subst (λ (q : ℕ). Writing g b₀ v k p₀ from (from / g.room) q (from % g.room) 0 b₀) (sym e)
      (along (from / g.room) (from % g.room) (omega arith) (sym (div-add-mod from g.room)) c)

-- the last page that takes some
module _ {g : Geometry} {b₀ v : Bytes} {k p₀ from : ℕ} where
  pub writing_end : {i p done : ℕ} {b b' : Bytes} → Writing g b₀ v k p₀ from i p 0 done b → i < k → length v - done < g.room
      → b' ≡ put (On.content g p + 0) (take (g.room - 0) (drop done v)) b
      → b' ≡ spread (On.content g) g.room (chain (On.next g b₀) k p₀) from v b₀
  writing_end r h less eb = writing_done (writing_turn r h eb refl refl refl) (omega (arith, r.fits))

  -- the link of a page may be followed before it is written: no link is content
  pub writing_ahead : {i p at done : ℕ} {b : Bytes} → Writing g b₀ v k p₀ from i p at done b → i < k → {b' : Bytes} {at' done' p' : ℕ}
      → b' ≡ put (On.content g p + at) (take (g.room - at) (drop done v)) b
      → done' ≡ done + min (g.room - at) (length v - done) → at' ≡ at - g.room → p' ≡ On.next g b p
      → Writing g b₀ v k p₀ from (i + 1) p' at' done' b'
  writing_ahead {i} {p} r h {b'} {at'} {done'} eb edone eat ep =
      let w = writing_turn r h eb edone eat refl in
      let m = each_here (On.next g b₀) k i p h r.pages in
      subst (λ (q : ℕ). Writing g b₀ v k p₀ from (i + 1) q at' done' b') (w.links p m ∙ sym (r.links p m) ∙ sym ep) w
