-- A row and its bytes go together, and so do a list that rises and a file.
use mathlib.Core.Path.{◌≡◌, refl, sym, ap, subst, ◌∙◌}
use mathlib.Core.Bool.{Bool, true, false, ◌&&◌}
use mathlib.Core.Option.{Option, none, some, some-injective, none-ne-some, some-ne-none}
use Prim.Native.Nat.{ℕ, zero, suc, ◌+◌, ◌-◌, ◌*◌, ◌^◌, ◌≤◌, ◌<◌}
use native.Mathlib.Nat.{pow-le-pow_right}
use native.Mathlib.Omega.{arith}
use native.Mathlib.Nat.{le_trans, lt_of_lt_of_le, lt_of_le_of_lt}
use mathlib.Core.List.{List, [], ◌∷◌, ◌++◌}
use lib.ListN.{length}
use mathlib.Core.List.{append_assoc}
use lib.Seq.{get_or-append-add}
use lib.Dec.{eqb, leb, ltb, T, leb→le, ltb→lt}
use borrow.Author.Tests.{lt-ltb, leb-true, ltb-true, eq-eqb, ne_eqb}
use Rattle.volume.specs.Bytes.{Bytes}
use Rattle.std.specs.Prelude.{if◌then◌else◌}
use Rattle.volume.specs.Lists.{all}
use Rattle.volume.proofs.Small.{Small}
use Rattle.volume.proofs.Tests.{conditions_cons}
use Rattle.link_list.specs.declared.Row.{Row}
use Rattle.link_list.specs.Coding.{groups, Taken, take_number, in_range, row_bytes, and_then, kept, take_row, file_of, above}
use Rattle.link_list.proofs.Numbers.{take_groups, Spelled, spelled}

pub holds : (t : Bool) → T t → t ≡ true
holds true h = refl
holds false h = absurd h

pub held : (t : Bool) → t ≡ true → T t
held t e = subst T (sym e) tt

-- what the range says
pub record Ranges (r : Row) : Type 0 where
  pub digits : (1 ≤ r.count) × (r.count ≤ 16)
  pub value : r.value < 10 ^ r.count
  pub figure : r.figure < 2 ^ 32

pub in_range_lem : (r : Row) → T (in_range r) → Ranges r
unfolding in_range
in_range_lem r h =
    let a = conditions_cons _ _ h in
    let b = conditions_cons _ _ a.1 in
    let c = conditions_cons _ _ b.1 in
    let d = conditions_cons _ _ c.1 in
    record {
      digits = (leb→le 1 r.count a.0, leb→le r.count 16 b.0);
      value = ltb→lt r.value (10 ^ r.count) c.0;
      figure = ltb→lt r.figure (2 ^ 32) d.0;
    }

-- each number has at most 8 bytes
pub record Fits (r : Row) : Type 0 where
  pub count : r.count < 128 ^ 8
  pub value : r.value < 128 ^ 8
  pub figure : r.figure < 128 ^ 8

pub range_fits : (r : Row) → T (in_range r) → Fits r
range_fits r h =
    let g = in_range_lem r h in
    let most : 10 ^ r.count ≤ 10 ^ 16 = pow-le-pow_right (omega arith) g.digits.1 in
    record { count = omega (arith, g.digits.1); value = omega (arith, g.value, most); figure = omega (arith, g.figure) }

-- the row's bytes before others, number by number
pub apart : (r : Row) (v : Bytes) → row_bytes r ++ v ≡ groups 8 r.count ++ (groups 8 r.value ++ (groups 8 r.figure ++ v))
unfolding row_bytes
apart r v = simp append_assoc

pub take_row_lem : (r : Row) (v : Bytes) → T (in_range r) → take_row (row_bytes r ++ v) ≡ some (r, v)
unfolding take_row and_then kept
take_row_lem r v h =
    let f = range_fits r h in
    rw (
      apart r v,
      take_groups 7 r.count (groups 8 r.value ++ (groups 8 r.figure ++ v)) f.count,
      take_groups 7 r.value (groups 8 r.figure ++ v) f.value,
      take_groups 7 r.figure v f.figure,
      holds (in_range r) h,
    )

-- ---- read, then written

and_then_lem : {A B : Type 0} (t : Taken A) (f : A → Bytes → Taken B) (x : B × Bytes) → and_then t f ≡ some x
    → (y : A) × (w : Bytes) × (t ≡ some (y, w)) × (f y w ≡ some x)
unfolding and_then
and_then_lem none f x e = absurd (none-ne-some x e)
and_then_lem (some t) f x e = (t.0, t.1, refl, e)

pub small_behind : (x y : Bytes) → Small (x ++ y) → Small y
small_behind x y h i = omega (arith, get_or-append-add x y i 0, h (length x + i))

kept_is : (r : Row) (v : Bytes) (x : Row × Bytes) → kept r v ≡ some x → (x ≡ (r, v)) × T (in_range r)
unfolding kept
kept_is r v x e = go (in_range r) refl
  where
    go : (t : Bool) → in_range r ≡ t → (x ≡ (r, v)) × T (in_range r)
    go true k = (sym (some-injective (r, v) x (rw k at e)), held (in_range r) k)
    go false k = absurd (none-ne-some x (rw k at e))

three : (q r : Row) (v v₁ v₂ v₃ w : Bytes) → r ≡ q → w ≡ v₃
    → v ≡ groups 8 q.count ++ v₁ → v₁ ≡ groups 8 q.value ++ v₂ → v₂ ≡ groups 8 q.figure ++ v₃ → T (in_range q)
    → (v ≡ row_bytes r ++ w) × T (in_range r)
three q r v v₁ v₂ v₃ w e f a b c h =
    let bytes : v ≡ row_bytes q ++ v₃ =
    a ∙ ap (λ (u : Bytes). groups 8 q.count ++ u) (b ∙ ap (λ (u : Bytes). groups 8 q.value ++ u) c) ∙ sym (apart q v₃) in
    rw (e, f) (bytes, h)

pub row_spelled : (v : Bytes) (r : Row) (w : Bytes) → Small v → take_row v ≡ some (r, w) → (v ≡ row_bytes r ++ w) × T (in_range r)
unfolding take_row
row_spelled v r w h e =
    let a = and_then_lem (take_number 8 v) _ (r, w) e in
    let sa = spelled 8 v a.0 a.1 h a.2 in
    let ha = small_behind (groups 8 a.0) a.1 (subst Small sa.0 h) in
    let b = and_then_lem (take_number 8 a.1) _ (r, w) a.3 in
    let sb = spelled 8 a.1 b.0 b.1 ha b.2 in
    let hb = small_behind (groups 8 b.0) b.1 (subst Small sb.0 ha) in
    let c = and_then_lem (take_number 8 b.1) _ (r, w) b.3 in
    let sc = spelled 8 b.1 c.0 c.1 hb c.2 in
    let k = kept_is (record { count = a.0; value = b.0; figure = c.0 }) c.1 (r, w) c.3 in
    three (record { count = a.0; value = b.0; figure = c.0 }) r v a.1 b.1 c.1 w (ap (λ (x : Row × Bytes). x.0) k.0) (ap (λ (x : Row × Bytes). x.1) k.0)
    sa.0 sb.0 sc.0 k.1
