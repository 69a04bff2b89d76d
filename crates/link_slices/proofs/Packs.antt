-- The rows of a list that may be written, packed one after another, are its file, or there was no room for it.
use mathlib.Core.Path.{◌≡◌, refl, sym, ap, subst, ◌∙◌}
use mathlib.Core.Logic.{◌⊎◌, inl, inr}
use Prim.Native.Nat.{ℕ, ◌+◌, ◌≤◌, ◌<◌}
use native.Mathlib.Omega.{arith}
use mathlib.Core.Bool.{Bool, true, false, not, ◌&&◌}
use mathlib.Core.Option.{Option, none, some}
use mathlib.Core.List.{List, [], ◌∷◌, ◌++◌}
use lib.ListN.{length, take, length-append}
use lib.Seq.{length-take-le}
use lib.Dec.{T, ltb, ltb→lt, nltb→le}
use borrow.Author.Tests.{le-leb, lt-leb}
use Rattle.volume.specs.Bytes.{Bytes, put}
use Rattle.std.specs.Prelude.{if◌then◌else◌}
use Rattle.link_list.specs.declared.Row.{Row}
use Rattle.link_list.specs.Coding.{in_range, row_bytes, file_of}
use Rattle.link_list.specs.Judging.{bad_from, bad_row}
use Rattle.link_list.proofs.Rows.{holds}
use Rattle.link_list.proofs.Files.{head_good}
use Rattle.link_numbers.proofs.Puts.{put_nil, put_length, put_after}
use Rattle.link_rows.proofs.Packs.{row_short}
use Rattle.link_writes.specs.Writing.{StandsFor}
use Rattle.link_files.proofs.Loading.{path_read}
use Rattle.link_slices.specs.Writing.{packed_at, packed_bytes, packed_from}

fits? : (m n : ℕ) → (m ≤ n) ⊎ (n < m)
fits? m n = go (ltb n m) refl
  where
    go : (z : Bool) → ltb n m ≡ z → (m ≤ n) ⊎ (n < m)
    go true x = inr (ltb→lt n m (subst (λ (c : Bool). T c) (sym x) tt))
    go false x = inl (nltb→le n m (subst (λ (c : Bool). T (not c)) (sym x) tt))

-- ---- a row

module _ (at : ℕ) (r : Row) (b : Bytes) where
  -- it may not be written
  pub row_not : in_range r ≡ false → (length b ≡ packed_at (length b) at r) × (b ≡ packed_bytes at r b)
  unfolding packed_at packed_bytes
  row_not e = rw e (refl, refl)

  -- there may be no room for it
  pub room_not : length b < at + 24 → (length b ≡ packed_at (length b) at r) × (b ≡ packed_bytes at r b)
  unfolding packed_at packed_bytes
  room_not l = rw (lt-leb (at + 24) (length b) l) (go (in_range r))
    where
      go : (z : Bool) → (length b ≡ (if z && false then at + length (row_bytes r) else length b)) × (b ≡ (if z && false then put at (row_bytes r) b else b))
      go true = (refl, refl)
      go false = (refl, refl)

  pub row_put : in_range r ≡ true → at + 24 ≤ length b → (at + length (row_bytes r) ≡ packed_at (length b) at r) × (put at (row_bytes r) b ≡ packed_bytes at r b)
  unfolding packed_at packed_bytes
  row_put e l = rw (e, le-leb (at + 24) (length b) l) (refl, refl)

  pub row_packed : in_range r ≡ true → at + 24 ≤ length b → (n : ℕ) → n ≡ at + length (row_bytes r) → (b' : Bytes) → b' ≡ put at (row_bytes r) b
      → (n ≡ packed_at (length b) at r) × (b' ≡ packed_bytes at r b)
  row_packed e l n p b' q = let h = row_put e l in (p ∙ h.0, q ∙ h.1)

-- ---- a list

-- the byte behind the rows, and the bytes: the file's put, or all taken
abbrev Outcome : (at : ℕ) → (b v : Bytes) → ℕ × Bytes → Type 0
Outcome at b v p = ((p.0 ≡ at + length v) × (p.1 ≡ put at v b)) ⊎ ((p.0 ≡ length b) × (length p.1 ≡ length b) × (length b < at + length v + 24))

-- once all bytes are taken nothing more is put
full : (b : Bytes) (rs : List Row) → packed_from (length b) b rs ≡ (length b, b)
unfolding packed_from
full b [] = refl
full b (r ∷ rs) =
    let h = room_not (length b) r b (omega arith) in
    ap (λ (n : ℕ). packed_from n (packed_bytes (length b) r b) rs) (sym h.0) ∙ ap (λ (c : Bytes). packed_from (length b) c rs) (sym h.1) ∙ full b rs

-- one row more before them
behind : (at : ℕ) (b v w : Bytes) (p : ℕ × Bytes) → at + length v ≤ length b → Outcome (at + length v) (put at v b) w p → Outcome at b (v ++ w) p
behind at b v w p l (inl u) = let e = length-append v w in inl (omega (arith, u.0, e), u.1 ∙ put_after at v w b l)
behind at b v w p l (inr u) =
    let e = length-append v w in
    let same = put_length at v b l in
    inr (u.0 ∙ same, u.1 ∙ same, omega (arith, u.2, same, e))

packed : (i : ℕ) (before : Option Row) (rs : List Row) → bad_from i before rs ≡ none → (at : ℕ) (b : Bytes) → Outcome at b (file_of rs) (packed_from at b rs)
unfolding packed_from file_of
packed i before [] e at b = inl (omega arith, sym (put_nil at b))
packed i before (r ∷ rs) e at b = let h = head_good i before r rs e in go (holds (in_range r) h.ranged) (fits? (at + 24) (length b)) (packed (i + 1) (some r) rs h.rest)
  where
    go : in_range r ≡ true → (at + 24 ≤ length b) ⊎ (length b < at + 24) → ((at' : ℕ) (b' : Bytes) → Outcome at' b' (file_of rs) (packed_from at' b' rs))
        → Outcome at b (row_bytes r ++ file_of rs) (packed_from (packed_at (length b) at r) (packed_bytes at r b) rs)
    go h (inl l) rest =
        let p = row_put at r b h l in
        let short = row_short r in
        subst (λ (q : ℕ × Bytes). Outcome at b (row_bytes r ++ file_of rs) (packed_from q.0 q.1 rs)) (λ j. (p.0 j, p.1 j))
        (behind at b (row_bytes r) (file_of rs) _ (omega arith) (rest (at + length (row_bytes r)) (put at (row_bytes r) b)))
    go h (inr l) rest =
        let p = room_not at r b l in
        subst (λ (q : ℕ × Bytes). Outcome at b (row_bytes r ++ file_of rs) (packed_from q.0 q.1 rs)) (λ j. (p.0 j, p.1 j))
        (subst (Outcome at b (row_bytes r ++ file_of rs)) (sym (full b rs)) (inr (refl, refl, omega arith)))

inside : (rs : List Row) (at : ℕ) (b : Bytes) → at ≤ length b → (packed_from at b rs).0 ≤ length b
unfolding packed_from
inside [] at b l = l
inside (r ∷ rs) at b l = go (in_range r) refl (fits? (at + 24) (length b)) (inside rs)
  where
    Rest : Type 0
    Rest = (n : ℕ) (c : Bytes) → n ≤ length c → (packed_from n c rs).0 ≤ length c

    by_rest : Rest → (n : ℕ) (c : Bytes) → (n ≡ packed_at (length b) at r) × (c ≡ packed_bytes at r b) → n ≤ length c → length c ≡ length b → (packed_from (packed_at (length b) at r) (packed_bytes at r b) rs).0 ≤ length b
    by_rest rest n c p k e =
        subst (λ (q : ℕ × Bytes). (packed_from q.0 q.1 rs).0 ≤ length b) (λ j. (p.0 j, p.1 j)) (let m = rest n c k in omega (arith, m, e))

    go : (z : Bool) → in_range r ≡ z → (at + 24 ≤ length b) ⊎ (length b < at + 24) → Rest → (packed_from (packed_at (length b) at r) (packed_bytes at r b) rs).0 ≤ length b
    go false x k rest = by_rest rest (length b) b (row_not at r b x) (omega arith) refl
    go true x (inr k) rest = by_rest rest (length b) b (room_not at r b k) (omega arith) refl
    go true x (inl k) rest =
        let short = row_short r in
        let same = put_length at (row_bytes r) b (omega arith) in
        by_rest rest (at + length (row_bytes r)) (put at (row_bytes r) b) (row_put at r b x k) (omega (arith, same)) same

-- ---- what a packing is for a writing

module _ (rs : List Row) (b : Bytes) (n : ℕ) (b' : Bytes) (e : (n, b') ≡ packed_from 0 b rs) where
  pub packed_inside : n ≤ length b
  packed_inside = let m = inside rs 0 b (omega arith) in let z : n ≡ (packed_from 0 b rs).0 = ap (λ (p : ℕ × Bytes). p.0) e in omega (arith, m, z)

  pub packed_stands : bad_row rs ≡ none → 65536 ≤ length b → StandsFor (take n b') (file_of rs)
  unfolding bad_row
  packed_stands good enough = go (subst (Outcome 0 b (file_of rs)) (sym e) (packed 0 none rs good 0 b))
    where
      go : Outcome 0 b (file_of rs) (n, b') → StandsFor (take n b') (file_of rs)
      go (inl u) = inl (path_read n b' b (file_of rs) (omega (arith, u.0)) u.1)
      go (inr u) =
          let l : length (take n b') ≡ n = length-take-le n b' (omega (arith, u.0, u.1)) in
          inr (omega (arith, l, u.0), omega (arith, u.2))
