-- The path of an entry: a slash and the name up to its first zero, written behind the path of the directory.
use mathlib.Core.Path.{◌≡◌, refl, sym, ap, ◌∙◌}
use Prim.Native.Nat.{ℕ, suc, ◌+◌, ◌-◌, ◌≤◌, ◌<◌}
use native.Mathlib.Numerals.{add-one}
use native.Mathlib.Omega.{arith}
use mathlib.Core.Bool.{false}
use mathlib.Core.List.{[], ◌∷◌, ◌++◌, append_assoc, append-nil}
use lib.ListN.{length, get_or, take, drop, set, length-drop, length-set, drop_of_length-le}
use lib.Seq.{length-take-le, take-take, take-suc, take-suc-set, take_at, drop-cons}
use Rattle.std.proofs.lemmas.List.{get_or-take, get_or-drop}
use borrow.Author.Tests.{ne_eqb}
use lib.Dec.{eqb}
use Rattle.volume.specs.Bytes.{Bytes, put}
use Rattle.volume.proofs.Splice.{take_splice_head}
use Rattle.model.specs.Entry.{name_at}
use Rattle.model.specs.Name.{unpadded}
use Rattle.model.specs.Text.{text}
use Rattle.listing_rows.specs.Lines.{entry_path, NameEnds, Extended}

-- ---- the end of a name, byte by byte

-- so far no zero was met: the bytes before `to`, and the name in those from there on, are the name
pub record Searched (b : Bytes) (at to : ℕ) : Type 0 where
  pub low : at + 1 ≤ to
  pub high : to ≤ at + 17
  pub so_far : take (to - (at + 1)) (drop (at + 1) b) ++ unpadded (drop (to - (at + 1)) (name_at b at)) ≡ unpadded (name_at b at)

pub searched_first : (b : Bytes) (at : ℕ) → Searched b at (at + 1)
searched_first b at = let z : at + 1 - (at + 1) ≡ 0 = omega arith in record { low = omega arith; high = omega arith; so_far = rw z refl }

module _ (b : Bytes) (at to : ℕ) (h : at + 32 ≤ length b) (s : Searched b at to) where
  -- all 16 bytes are the name
  pub searched_all : at + 17 ≤ to → NameEnds b at to
  unfolding unpadded
  searched_all l =
      let k : to - (at + 1) ≡ 16 = omega arith in
      let w : 16 ≤ length (drop (at + 1) b) = omega (arith, length-drop (at + 1) b) in
      let n : drop (to - (at + 1)) (name_at b at) ≡ [] = drop_of_length-le (name_at b at) (omega (arith, length-take-le 16 (drop (at + 1) b) w)) in
      record { low = s.low; high = s.high; name = sym (append-nil _) ∙ ap (λ (r : Bytes). take (to - (at + 1)) (drop (at + 1) b) ++ unpadded r) (sym n) ∙ s.so_far }

  module _ (l : to < at + 17) where
    here : drop (to - (at + 1)) (name_at b at) ≡ get_or b to 0 ∷ drop (suc (to - (at + 1))) (name_at b at)
    here =
        let w : 16 ≤ length (drop (at + 1) b) = omega (arith, length-drop (at + 1) b) in
        let k : to - (at + 1) < length (name_at b at) = omega (arith, length-take-le 16 (drop (at + 1) b) w) in
        let small : to - (at + 1) < 16 = omega arith in
        let i : at + 1 + (to - (at + 1)) ≡ to = omega arith in
        let e : get_or (name_at b at) (to - (at + 1)) 0 ≡ get_or b to 0 = get_or-take 16 (drop (at + 1) b) (to - (at + 1)) 0 small ∙ get_or-drop (at + 1) b (to - (at + 1)) 0 ∙ ap (λ (j : ℕ). get_or b j 0) i in
        drop-cons (name_at b at) (to - (at + 1)) 0 k ∙ ap (λ (x : ℕ). x ∷ drop (suc (to - (at + 1))) (name_at b at)) e

    pub searched_zero : get_or b to 0 ≡ 0 → NameEnds b at to
    unfolding unpadded
    searched_zero z =
        let n : unpadded (drop (to - (at + 1)) (name_at b at)) ≡ [] = ap unpadded here ∙ rw z refl in
        record { low = s.low; high = s.high; name = sym (append-nil _) ∙ ap (λ (r : Bytes). take (to - (at + 1)) (drop (at + 1) b) ++ r) (sym n) ∙ s.so_far }

    pub searched_next : (get_or b to 0 ≡ 0 → ⊥) → Searched b at (to + 1)
    unfolding unpadded
    searched_next z =
        let k : to + 1 - (at + 1) ≡ suc (to - (at + 1)) = omega arith in
        let c : eqb (get_or b to 0) 0 ≡ false = ne_eqb (get_or b to 0) 0 z in
        let w : to - (at + 1) < length (drop (at + 1) b) = omega (arith, length-drop (at + 1) b) in
        let i : at + 1 + (to - (at + 1)) ≡ to = omega arith in
        let x : get_or (drop (at + 1) b) (to - (at + 1)) 0 ≡ get_or b to 0 = get_or-drop (at + 1) b (to - (at + 1)) 0 ∙ ap (λ (j : ℕ). get_or b j 0) i in
        let front : take (suc (to - (at + 1))) (drop (at + 1) b) ≡ take (to - (at + 1)) (drop (at + 1) b) ++ (get_or b to 0 ∷ []) =
        take-suc (drop (at + 1) b) (to - (at + 1)) 0 w ∙ ap (λ (y : ℕ). take (to - (at + 1)) (drop (at + 1) b) ++ (y ∷ [])) x in
        let back : unpadded (drop (to - (at + 1)) (name_at b at)) ≡ get_or b to 0 ∷ unpadded (drop (suc (to - (at + 1))) (name_at b at)) = ap unpadded here ∙ rw c refl in
        record {
          low = omega (arith, s.low);
          high = omega arith;
          so_far = rw k (rw front (append_assoc (take (to - (at + 1)) (drop (at + 1) b)) (get_or b to 0 ∷ []) (unpadded (drop (suc (to - (at + 1))) (name_at b at))) ∙ ap (λ (r : Bytes). take (to - (at + 1)) (drop (at + 1) b) ++ r) (sym back) ∙ s.so_far));
        }

module _ (b : Bytes) (at to : ℕ) (path path' : Bytes) (len : ℕ) (h : at + 32 ≤ length b) (room : len + 17 ≤ length path)
    (e : NameEnds b at to)
    (put' : path' ≡ put (len + 1) (take (to - (at + 1)) (drop (at + 1) b)) (set path len 47)) where
  name : Bytes
  name = take (to - (at + 1)) (drop (at + 1) b)

  long : length name ≡ to - (at + 1)
  unfolding name
  long = length-take-le (to - (at + 1)) (drop (at + 1) b) (omega (arith, length-drop (at + 1) b))

  whole : take (len + 1 + (to - (at + 1))) path' ≡ entry_path b at (take len path)
  unfolding name text
  whole =
      ap (λ (n : ℕ). take (len + 1 + n) path') (sym long)
      ∙ ap (take (len + 1 + length name)) put'
      ∙ take_splice_head (set path len 47) (len + 1) name (omega (arith, length-set path len 47))
      ∙ ap (λ (n : ℕ). take n (set path len 47) ++ name) (add-one len)
      ∙ ap (λ (r : Bytes). r ++ name) (take-suc-set path len 47 (omega arith))
      ∙ ap (λ (r : Bytes). take len path ++ (47 ∷ []) ++ r) e.name

  pub extended : Extended b at path path' len (len + 1 + (to - (at + 1)))
  unfolding text
  extended = record {
    whole = whole;
    front =
        sym (take-take len (len + 1 + (to - (at + 1))) path' (omega arith))
        ∙ ap (take len) (whole ∙ append_assoc (take len path) (47 ∷ []) (unpadded (name_at b at)))
        ∙ take_at (take len path) ((47 ∷ []) ++ unpadded (name_at b at)) len (length-take-le len path (omega arith));
    low = omega arith;
    high = omega arith;
  }
