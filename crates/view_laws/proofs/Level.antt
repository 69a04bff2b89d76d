-- One directory of which one entry changes and the others are the same: its row, pages and goodness follow entry by entry.
use mathlib.Core.Path.{◌≡◌, refl, sym, ap, ◌∙◌, subst}
use mathlib.Core.Logic.{◌≢◌, inl, inr}
use Prim.Native.Nat.{ℕ, suc, ◌+◌}
use native.Mathlib.Omega.{arith}
use native.Mathlib.Decide.{ℕ_discrete}
use mathlib.Core.Bool.{Bool, true, false, not}
use mathlib.Core.Option.{some, none-ne-some, some-injective}
use mathlib.Core.List.{List, [], ◌∷◌, flat_map}
use lib.Dec.{T, T_not}
use Rattle.std.specs.Prelude.{if◌then◌else◌}
use Rattle.volume.specs.Lists.{all, first}
use Rattle.volume.proofs.Occ.{occ, Mem, Nodup, mem_head, mem_tail, mem_cons, nodup_head, nodup_tail}
use Rattle.volume.proofs.Tests.{and_both, both_and, no_conditions, conditions_cons, cons_conditions, all_occ, occ_all, first_found, same_sym}
use Rattle.volume.proofs.Flat.{occ_flat_map_change}
use Rattle.model.specs.Entry.{Entry, vacant, a_file, a_directory}
use Rattle.model.specs.View.{View}
use Rattle.model.specs.Sound.{good_entry, is_named, same_name, names_apart, in_directory, good_directory, owned}
use Rattle.model.specs.Tree.{Row}
use Rattle.model.specs.Image.{entry_row, row_of, row_at}
use Rattle.view_laws.proofs.Owns.{own, owned_entries}
use Rattle.view_laws.proofs.Frame.{SameEntry, rows_same, same_row, same_own, same_good, same_below}

-- ---- names apart, pair by pair

same_name_sym : (e f : Entry) → same_name e f ≡ same_name f e
unfolding same_name is_named
same_name_sym vacant vacant = refl
same_name_sym vacant (a_file l n d s z) = refl
same_name_sym vacant (a_directory n d s z) = refl
same_name_sym (a_file l n d s z) vacant = refl
same_name_sym (a_file l n d s z) (a_file k m c t y) = same_sym m n
same_name_sym (a_file l n d s z) (a_directory m c t y) = same_sym m n
same_name_sym (a_directory n d s z) vacant = refl
same_name_sym (a_directory n d s z) (a_file k m c t y) = same_sym m n
same_name_sym (a_directory n d s z) (a_directory m c t y) = same_sym m n

abbrev pub Apart : View → List ℕ → Type 0
Apart v ats = (x y : ℕ) → Mem x ats → Mem y ats → x ≢ y → T (not (same_name (v.entry_at x) (v.entry_at y)))

pub apart_split : (v : View) (ats : List ℕ) → T (names_apart v ats) → Apart v ats
unfolding names_apart
apart_split v [] h x y m k ne = absurd (omega arith)
apart_split v (z ∷ zs) h x y m k ne =
    let r = and_both (all (λ w. not (same_name (v.entry_at z) (v.entry_at w))) zs) (names_apart v zs) h in
    let head : (w : ℕ) → Mem w zs → T (not (same_name (v.entry_at z) (v.entry_at w))) = all_occ (λ w. not (same_name (v.entry_at z) (v.entry_at w))) zs r.0 in
    elim (mem_cons x z zs m) [
      | inl e ↦ elim (mem_cons y z zs k) [
        | inl f ↦ absurd (ne (e ∙ sym f))
        | inr l ↦ subst (λ (w : ℕ). T (not (same_name (v.entry_at w) (v.entry_at y)))) (sym e) (head y l)
      ]
      | inr j ↦ elim (mem_cons y z zs k) [
        | inl f ↦ subst (λ (w : ℕ). T (not (same_name (v.entry_at x) (v.entry_at w)))) (sym f)
            (subst (λ (c : Bool). T (not c)) (same_name_sym (v.entry_at z) (v.entry_at x)) (head x j))
        | inr l ↦ apart_split v zs r.1 x y j l ne
      ]
    ]

pub apart_join : (v : View) (ats : List ℕ) → Nodup ats → Apart v ats → T (names_apart v ats)
unfolding names_apart
apart_join v [] u h = tt
apart_join v (z ∷ zs) u h =
    both_and (all (λ w. not (same_name (v.entry_at z) (v.entry_at w))) zs) (names_apart v zs)
    (occ_all (λ w. not (same_name (v.entry_at z) (v.entry_at w))) zs (λ w m. h z w (mem_head z zs) (mem_tail w z zs m)
    (λ e. let o = ap (λ (w : ℕ). occ w zs) e in omega (arith, nodup_head z zs u))))
    (apart_join v zs (nodup_tail z zs u) (λ x y m k ne. h x y (mem_tail x z zs m) (mem_tail y z zs k) ne))

-- ---- a good directory by its entries

pub record Good (d : ℕ) (v : View) (p : ℕ) : Type 0 where
  pub each : (x : ℕ) → Mem x (v.entries p) → T (good_entry v (v.entry_at x))
  pub apart : Apart v (v.entries p)
  pub below : (x : ℕ) → Mem x (v.entries p) → T (in_directory true (good_directory d v) (v.entry_at x))

pub good_split : (d : ℕ) (v : View) (p : ℕ) → T (good_directory (suc d) v p) → Good d v p
unfolding good_directory
good_split d v p h =
    let r = conditions_cons (all (λ at. good_entry v (v.entry_at at)) (v.entries p)) _ h in
    let s = conditions_cons (names_apart v (v.entries p)) _ r.1 in
    let t = conditions_cons (all (λ at. in_directory true (good_directory d v) (v.entry_at at)) (v.entries p)) [] s.1 in
    record {
      each = all_occ (λ at. good_entry v (v.entry_at at)) (v.entries p) r.0;
      apart = apart_split v (v.entries p) s.0;
      below = all_occ (λ at. in_directory true (good_directory d v) (v.entry_at at)) (v.entries p) t.0;
    }

pub good_join : (d : ℕ) (v : View) (p : ℕ) → Nodup (v.entries p) → Good d v p → T (good_directory (suc d) v p)
unfolding good_directory
good_join d v p u g =
    cons_conditions (all (λ at. good_entry v (v.entry_at at)) (v.entries p)) _ (occ_all (λ at. good_entry v (v.entry_at at)) (v.entries p) g.each)
    (cons_conditions (names_apart v (v.entries p)) _ (apart_join v (v.entries p) u g.apart)
    (cons_conditions (all (λ at. in_directory true (good_directory d v) (v.entry_at at)) (v.entries p)) []
    (occ_all (λ at. in_directory true (good_directory d v) (v.entry_at at)) (v.entries p) g.below) no_conditions))

-- ---- one entry changes

-- An operation that passes every entry before the first that the test finds, and does its work there, commutes with reading the row.
change_row : (v v' : View) (g g' : ℕ → Row) (at : ℕ) (op : Row → Row) (test : Entry → Bool)
    → ((e : Entry) → T (not (test e)) → (rest : Row) → op (entry_row v g e rest) ≡ entry_row v g e (op rest))
    → ((rest : Row) → op (entry_row v g (v.entry_at at) rest) ≡ entry_row v' g' (v'.entry_at at) rest)
    → (ats : List ℕ) → first (λ x. test (v.entry_at x)) ats ≡ some at → Nodup ats
    → ((x : ℕ) → Mem x ats → x ≢ at → (rest : Row) → entry_row v' g' (v'.entry_at x) rest ≡ entry_row v g (v.entry_at x) rest)
    → op (row_of v g ats) ≡ row_of v' g' ats
unfolding row_of first
change_row v v' g g' at op test skip work [] e u h = absurd (none-ne-some at e)
change_row v v' g g' at op test skip work (x ∷ xs) e u h =
    go (test (v.entry_at x)) refl e
    (λ k. change_row v v' g g' at op test skip work xs k (nodup_tail x xs u) (λ y m ne. h y (mem_tail y x xs m) ne))
  where
    go : (c : Bool) → test (v.entry_at x) ≡ c → (if c then some x else first (λ y. test (v.entry_at y)) xs) ≡ some at
        → (first (λ y. test (v.entry_at y)) xs ≡ some at → op (row_of v g xs) ≡ row_of v' g' xs)
        → op (entry_row v g (v.entry_at x) (row_of v g xs)) ≡ entry_row v' g' (v'.entry_at x) (row_of v' g' xs)
    go true q k next =
        let s : at ≡ x = sym (some-injective x at k) in
        subst (λ (y : ℕ). op (entry_row v g (v.entry_at y) (row_of v g xs)) ≡ entry_row v' g' (v'.entry_at y) (row_of v' g' xs)) s
        (work (row_of v g xs)
        ∙ ap (entry_row v' g' (v'.entry_at at))
        (sym (rows_same v v' g g' xs (λ y m. h y (mem_tail y x xs m)
        (λ w. let o = ap (λ (z : ℕ). occ z xs) (w ∙ s) in omega (arith, nodup_head x xs u))))))
    go false q k next =
        let no_test : T (not (test (v.entry_at x))) = subst (λ (c : Bool). T (not c)) (sym q) tt in
        let ne : x ≢ at = λ w. T_not (test (v.entry_at x)) no_test (subst (λ (z : ℕ). T (test (v.entry_at z))) (sym w) (first_found (λ y. test (v.entry_at y)) xs at k).1) in
        skip (v.entry_at x) no_test (row_of v g xs)
        ∙ sym (h x (mem_head x xs) ne (op (row_of v g xs)))
        ∙ ap (entry_row v' g' (v'.entry_at x)) (next k)

module _ (d : ℕ) (v v' : View) (p at : ℕ) (positions : v'.entries p ≡ v.entries p) (once : Nodup (v.entries p))
    (others : (x : ℕ) → Mem x (v.entries p) → x ≢ at → SameEntry v v' d d x) where
  pub level_row : (op : Row → Row) (test : Entry → Bool)
      → ((e : Entry) → T (not (test e)) → (rest : Row) → op (entry_row v (row_at d v) e rest) ≡ entry_row v (row_at d v) e (op rest))
      → ((rest : Row) → op (entry_row v (row_at d v) (v.entry_at at) rest) ≡ entry_row v' (row_at d v') (v'.entry_at at) rest)
      → first (λ x. test (v.entry_at x)) (v.entries p) ≡ some at
      → op (row_at (suc d) v p) ≡ row_at (suc d) v' p
  unfolding row_at
  level_row op test skip work found =
      change_row v v' (row_at d v) (row_at d v') at op test skip work (v.entries p) found once (λ x m ne. same_row v v' d d (others x m ne))
      ∙ sym (ap (row_of v' (row_at d v')) positions)

  pub level_owned : Mem at (v.entries p) → (q : ℕ)
      → occ q (owned (suc d) v' p) + occ q (own d v (v.entry_at at)) ≡ occ q (owned (suc d) v p) + occ q (own d v' (v'.entry_at at))
  level_owned m q =
      let x : occ q (owned (suc d) v p) ≡ occ q (flat_map (λ y. own d v (v.entry_at y)) (v.entries p)) = ap (occ q) (owned_entries d v p) in
      let x' : occ q (owned (suc d) v' p) ≡ occ q (flat_map (λ y. own d v' (v'.entry_at y)) (v.entries p)) =
      ap (occ q) (owned_entries d v' p ∙ ap (flat_map (λ y. own d v' (v'.entry_at y))) positions) in
      let c = occ_flat_map_change (λ y. own d v (v.entry_at y)) (λ y. own d v' (v'.entry_at y)) (v.entries p) at q once m
      (λ y k ne. sym (same_own v v' d d (others y k ne))) in
      omega (arith, x, x', c)

  pub level_good : T (good_directory (suc d) v p)
      → T (good_entry v' (v'.entry_at at)) → T (in_directory true (good_directory d v') (v'.entry_at at))
      → ((x : ℕ) → Mem x (v.entries p) → x ≢ at → T (not (same_name (v'.entry_at at) (v.entry_at x))))
      → T (good_directory (suc d) v' p)
  level_good h good below name =
      let g = good_split d v p h in
      let new : (x : ℕ) → Mem x (v.entries p) → x ≢ at → T (not (same_name (v'.entry_at at) (v'.entry_at x))) = λ x m ne.
      subst (λ (e : Entry). T (not (same_name (v'.entry_at at) e))) (sym (others x m ne).fields) (name x m ne) in
      let mem : (x : ℕ) → Mem x (v'.entries p) → Mem x (v.entries p) = λ x. subst (λ (l : List ℕ). Mem x l) positions in
      good_join d v' p (subst (λ (l : List ℕ). Nodup l) (sym positions) once) (record {
        each = λ x m'. let m = mem x m' in elim (ℕ_discrete x at) [
          | yes e ↦ subst (λ (y : ℕ). T (good_entry v' (v'.entry_at y))) (sym e) good
          | no ne ↦ subst (λ (c : Bool). T c) (sym (same_good v v' d d (others x m ne))) (g.each x m)
        ];
        apart = λ x y m' k' ne. let m = mem x m' in let k = mem y k' in elim (ℕ_discrete x at) [
          | yes e ↦ subst (λ (z : ℕ). T (not (same_name (v'.entry_at z) (v'.entry_at y)))) (sym e) (new y k (λ f. ne (e ∙ sym f)))
          | no xat ↦ elim (ℕ_discrete y at) [
            | yes e ↦ subst (λ (z : ℕ). T (not (same_name (v'.entry_at x) (v'.entry_at z)))) (sym e)
                (subst (λ (c : Bool). T (not c)) (same_name_sym (v'.entry_at at) (v'.entry_at x)) (new x m xat))
            | no yat ↦
                subst (λ (e : Entry). T (not (same_name e (v'.entry_at y)))) (sym (others x m xat).fields)
                (subst (λ (e : Entry). T (not (same_name (v.entry_at x) e))) (sym (others y k yat).fields) (g.apart x y m k ne))
          ]
        ];
        below = λ x m'. let m = mem x m' in elim (ℕ_discrete x at) [
          | yes e ↦ subst (λ (y : ℕ). T (in_directory true (good_directory d v') (v'.entry_at y))) (sym e) below
          | no ne ↦ subst (λ (c : Bool). T c) (sym (same_below v v' d d (others x m ne))) (g.below x m)
        ];
      })
