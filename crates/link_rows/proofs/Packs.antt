-- A row is put a number at a time, and a list a row at a time.
use mathlib.Core.Path.{◌≡◌, refl, sym, ap, subst, ◌∙◌}
use mathlib.Core.Bool.{true}
use mathlib.Core.Option.{Option, none, some}
use Prim.Native.Nat.{ℕ, ◌+◌, ◌-◌, ◌/◌, ◌≤◌, ◌<◌}
use native.Mathlib.Omega.{arith}
use mathlib.Core.List.{List, [], ◌∷◌, ◌++◌}
use lib.ListN.{length, length-append}
use lib.Dec.{T}
use Rattle.volume.specs.Bytes.{Bytes, put}
use Rattle.volume.specs.Lists.{all}
use Rattle.volume.proofs.Tests.{and_both, both_and}
use Rattle.link_list.specs.declared.Row.{Row}
use Rattle.link_list.specs.Coding.{groups, in_range, row_bytes, file_of}
use Rattle.link_list.specs.Judging.{bad_from, bad_row}
use Rattle.link_list.proofs.Rows.{holds}
use Rattle.link_list.proofs.Files.{head_good}
use Rattle.link_numbers.proofs.Puts.{put_nil, put_length, put_after, groups_short}
use Rattle.link_judge.specs.Judged.{row_numbered, rows_from, rows_of}
use Rattle.link_judge.proofs.Lists.{next_row, last_row, first_row_lem}

-- ---- a row, a number at a time

pub row_put : (r : Row) (at x y z : ℕ) (b b₁ b₂ b₃ : Bytes) → at + 24 ≤ length b
    → x ≡ at + length (groups 8 r.count) → b₁ ≡ put at (groups 8 r.count) b
    → y ≡ x + length (groups 8 r.value) → b₂ ≡ put x (groups 8 r.value) b₁
    → z ≡ y + length (groups 8 r.figure) → b₃ ≡ put y (groups 8 r.figure) b₂
    → (z ≡ at + length (row_bytes r)) × (b₃ ≡ put at (row_bytes r) b)
unfolding row_bytes
row_put r at x y z b b₁ b₂ b₃ h ex e₁ ey e₂ ez e₃ =
    let c : Bytes = groups 8 r.count in
    let v : Bytes = groups 8 r.value in
    let f : Bytes = groups 8 r.figure in
    let lc = groups_short 8 r.count in
    let lv = groups_short 8 r.value in
    let both : length (c ++ v) ≡ length c + length v = length-append c v in
    let two : b₂ ≡ put at (c ++ v) b = e₂ ∙ ap (put x v) e₁ ∙ ap (λ (k : ℕ). put k v (put at c b)) ex ∙ put_after at c v b (omega arith) in
    let place : y ≡ at + length (c ++ v) = omega (arith, both, ex, ey) in
    (omega (arith, place, ez, length-append (c ++ v) f), e₃ ∙ ap (put y f) two ∙ ap (λ (k : ℕ). put k f (put at (c ++ v) b)) place ∙ put_after at (c ++ v) f b (omega (arith, both)))

-- ---- a list, a row at a time

ranged : (i : ℕ) (before : Option Row) (rs : List Row) → bad_from i before rs ≡ none → T (all in_range rs)
unfolding all
ranged i before [] e = tt
ranged i before (r ∷ rs) e = let h = head_good i before r rs e in both_and (in_range r) (all in_range rs) h.ranged (ranged (i + 1) (some r) rs h.rest)

pub row_short : (r : Row) → length (row_bytes r) ≤ 24
unfolding row_bytes
row_short r =
    let a = groups_short 8 r.count in
    let b = groups_short 8 r.value in
    let c = groups_short 8 r.figure in
    omega (arith, length-append (groups 8 r.count ++ groups 8 r.value) (groups 8 r.figure), length-append (groups 8 r.count) (groups 8 r.value))

-- i rows are packed into the bytes before `at`
pub record Packing (ns : List ℕ) (rows i at : ℕ) (b₀ b : Bytes) : Type 0 where
  pub inside : at ≤ length b₀
  pub long : length b ≡ length b₀
  pub fits : T (all in_range (rows_from ns (rows - i) i))
  pub ends : at + length (file_of (rows_from ns (rows - i) i)) ≡ length (file_of (rows_of ns))
  pub same : put at (file_of (rows_from ns (rows - i) i)) b ≡ put 0 (file_of (rows_of ns)) b₀

pub packing_first : (ns : List ℕ) (b : Bytes) → bad_row (rows_of ns) ≡ none → Packing ns (length ns / 3) 0 0 b b
unfolding bad_row
packing_first ns b e =
    let f = first_row_lem ns in
    record {
      inside = omega arith;
      long = refl;
      fits = subst (λ (rs : List Row). T (all in_range rs)) (sym f) (ranged 0 none (rows_of ns) e);
      ends = let q : length (file_of (rows_from ns (length ns / 3 - 0) 0)) ≡ length (file_of (rows_of ns)) = ap (λ (rs : List Row). length (file_of rs)) f in omega (arith, q);
      same = ap (λ (rs : List Row). put 0 (file_of rs) b) f;
    }

module _ (ns : List ℕ) (rows i at : ℕ) (b₀ b : Bytes) (p : Packing ns rows i at b₀ b) where
  pub packing_fits : i < rows → (r : Row) → r ≡ row_numbered ns i → in_range r ≡ true
  unfolding all
  packing_fits h r e =
      let two = and_both (in_range (row_numbered ns i)) (all in_range (rows_from ns (rows - (i + 1)) (i + 1))) (subst (λ (rs : List Row). T (all in_range rs)) (next_row ns rows i h) p.fits) in
      ap in_range e ∙ holds (in_range (row_numbered ns i)) two.0

  pub packing_next : i < rows → at + 24 ≤ length b₀ → (r : Row) → r ≡ row_numbered ns i → (next : ℕ) → next ≡ at + length (row_bytes r)
      → (b' : Bytes) → b' ≡ put at (row_bytes r) b → Packing ns rows (i + 1) next b₀ b'
  unfolding all file_of
  packing_next h l r e next n b' q =
      let rest : List Row = rows_from ns (rows - (i + 1)) (i + 1) in
      let split : rows_from ns (rows - i) i ≡ r ∷ rest = next_row ns rows i h ∙ ap (λ (x : Row). x ∷ rest) (sym e) in
      let short = row_short r in
      let room : at + length (row_bytes r) ≤ length b = omega (arith, p.long) in
      let long' : length b' ≡ length b = ap length q ∙ put_length at (row_bytes r) b room in
      let both : length (file_of (rows_from ns (rows - i) i)) ≡ length (row_bytes r) + length (file_of rest) = ap (λ (rs : List Row). length (file_of rs)) split ∙ length-append (row_bytes r) (file_of rest) in
      record {
        inside = omega (arith, n, p.long);
        long = long' ∙ p.long;
        fits = (and_both (in_range r) (all in_range rest) (subst (λ (rs : List Row). T (all in_range rs)) split p.fits)).1;
        ends = omega (arith, both, n, p.ends);
        same = ap (λ (c : Bytes). put next (file_of rest) c) q ∙ ap (λ (k : ℕ). put k (file_of rest) (put at (row_bytes r) b)) n
            ∙ put_after at (row_bytes r) (file_of rest) b room ∙ ap (λ (rs : List Row). put at (file_of rs) b) (sym split) ∙ p.same;
      }

pub packed_long : (ns : List ℕ) (rows i at : ℕ) (b₀ b : Bytes) → Packing ns rows i at b₀ b → length b - at < 24 → length b₀ < length (file_of (rows_of ns)) + 24
packed_long ns rows i at b₀ b p h = omega (arith, p.long, p.ends, p.inside)

pub packed_all : (ns : List ℕ) (rows i at : ℕ) (b₀ b : Bytes) → Packing ns rows i at b₀ b → rows ≤ i → (at ≡ length (file_of (rows_of ns))) × (b ≡ put 0 (file_of (rows_of ns)) b₀)
unfolding file_of
packed_all ns rows i at b₀ b p h =
    let none_left : file_of (rows_from ns (rows - i) i) ≡ [] = ap file_of (last_row ns rows i h) in
    let short : length (file_of (rows_from ns (rows - i) i)) ≡ 0 = ap length none_left in
    (omega (arith, short, p.ends), sym (put_nil at b) ∙ ap (λ (v : Bytes). put at v b) (sym none_left) ∙ p.same)
