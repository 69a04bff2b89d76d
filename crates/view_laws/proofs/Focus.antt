-- A change inside the subtree of the directory that some names lead to: above it every directory changes only in the entry on the way, since
-- each page has one owner, so the root's row, pages and goodness follow.
use mathlib.Core.Path.{◌≡◌, refl, sym, ap, ap₂, ◌∙◌, subst}
use mathlib.Core.Logic.{◌≢◌}
use Prim.Native.Nat.{ℕ, zero, suc, ◌+◌, ◌≤◌}
use native.Mathlib.Omega.{arith}
use mathlib.Core.Bool.{Bool, true, not, ◌&&◌}
use mathlib.Core.Option.{some}
use mathlib.Core.List.{List, [], ◌∷◌}
use lib.ListN.{length}
use lib.Dec.{T, eqb}
use Rattle.volume.specs.Bytes.{Bytes, same}
use Rattle.volume.proofs.Occ.{occ, Mem, Nodup, occ_append}
use Rattle.volume.proofs.Tests.{if_yes, if_no, first_found, and_both, both_and}
use Rattle.model.specs.Name.{legal_name}
use Rattle.model.specs.Entry.{Entry, vacant, a_file, a_directory}
use Rattle.model.specs.View.{View}
use Rattle.model.specs.Sound.{good_entry, is_named, same_name, in_directory, good_directory, owned}
use Rattle.model.specs.Tree.{Row, dir, inside}
use Rattle.model.specs.Path.{Name}
use Rattle.model.specs.Image.{entry_row, row_at}
use Rattle.model.specs.Walk.{change_at, entry_named}
use Rattle.view_laws.proofs.Owns.{own, subtree, own_le, own_two}
use Rattle.view_laws.proofs.Frame.{ReadsAlike, Follows, Headed, SameEntry, entry_frame}
use Rattle.view_laws.proofs.Level.{Good, good_split, level_row, level_owned, level_good}

-- what a version owes of each view: a directory has its first page, and its entries are apart if its pages are
pub record Regular (v : View) : Type 0 where
  pub headed : Headed v
  pub apart : (p : ℕ) → Nodup (v.directory_pages p) → Nodup (v.entries p)

-- the entry at position `at` is a directory on page s
pub record DirectoryAt (v : View) (at s : ℕ) : Type 0 where
  pub name : Bytes
  pub date : Bytes
  pub size : ℕ
  pub is : v.entry_at at ≡ a_directory name date s size

-- from the directory on page p, read to depth d, the names lead to the one on page t, with depth e left
abbrev pub Leads : View → ℕ → ℕ → List Name → ℕ → ℕ → Type 0
Leads v d p [] e t = (d ≡ e) × (p ≡ t)
Leads v zero p (n ∷ ns) e t = ⊥
Leads v (suc d) p (n ∷ ns) e t = (at : ℕ) × (s : ℕ) × (entry_named v p n.bytes ≡ some at) × DirectoryAt v at s × Leads v d s ns e t

pub named_found : (v : View) (p : ℕ) (n : Bytes) (at : ℕ) → entry_named v p n ≡ some at → Mem at (v.entries p) × T (is_named n (v.entry_at at))
unfolding entry_named
named_found v p n at e = first_found (λ x. is_named n (v.entry_at x)) (v.entries p) at e

pub own_directory : (d : ℕ) (v : View) (at s : ℕ) → DirectoryAt v at s → own d v (v.entry_at at) ≡ subtree d v s
unfolding own
own_directory d v at s h = ap (own d v) h.is

-- a directory's pages are among those of the directory that holds it
pub directory_le : (d : ℕ) (v : View) (p at s q : ℕ) → Mem at (v.entries p) → DirectoryAt v at s → occ q (subtree d v s) ≤ occ q (owned (suc d) v p)
directory_le d v p at s q m h = subst (λ (l : List ℕ). occ q l ≤ occ q (owned (suc d) v p)) (own_directory d v at s h) (own_le d v p at q m)

pub leads_sub : (v : View) (names : List Name) (d p e t q : ℕ) → Leads v d p names e t → occ q (subtree e v t) ≤ occ q (subtree d v p)
leads_sub v [] d p e t q l =
    let x : occ q (subtree d v p) ≡ occ q (subtree e v t) = ap₂ (λ (k r : ℕ). occ q (subtree k v r)) l.0 l.1 in
    omega (arith, x)
leads_sub v (n ∷ ns) zero p e t q l = absurd l
leads_sub v (n ∷ ns) (suc d) p e t q l =
    let r = leads_sub v ns d l.1 e t q l.4 in
    let s = directory_le d v p l.0 l.1 q (named_found v p n.bytes l.0 l.2).0 l.3 in
    omega (arith, r, s, occ_append q (v.directory_pages p) (owned (suc d) v p), occ_append q (v.directory_pages l.1) (owned d v l.1))

pub leads_owned : (v : View) (names : List Name) (d p e t q : ℕ) → Leads v d p names e t → occ q (owned e v t) ≤ occ q (owned d v p)
leads_owned v [] d p e t q l =
    let x : occ q (owned d v p) ≡ occ q (owned e v t) = ap₂ (λ (k r : ℕ). occ q (owned k v r)) l.0 l.1 in
    omega (arith, x)
leads_owned v (n ∷ ns) zero p e t q l = absurd l
leads_owned v (n ∷ ns) (suc d) p e t q l =
    let r = leads_owned v ns d l.1 e t q l.4 in
    let s = directory_le d v p l.0 l.1 q (named_found v p n.bytes l.0 l.2).0 l.3 in
    omega (arith, r, s, occ_append q (v.directory_pages p) (owned (suc d) v p), occ_append q (v.directory_pages l.1) (owned d v l.1))

-- a directory that some name leads to has its pages among those below
pub leads_below : (v : View) (n : Name) (ns : List Name) (d p e t q : ℕ) → Leads v d p (n ∷ ns) e t → occ q (subtree e v t) ≤ occ q (owned d v p)
leads_below v n ns zero p e t q l = absurd l
leads_below v n ns (suc d) p e t q l =
    let r = leads_sub v ns d l.1 e t q l.4 in
    let s = directory_le d v p l.0 l.1 q (named_found v p n.bytes l.0 l.2).0 l.3 in
    omega (arith, r, s)

-- every name goes one deeper
pub leads_depth : (v : View) (names : List Name) (d p e t : ℕ) → Leads v d p names e t → d ≡ e + length names
leads_depth v [] d p e t l = omega (arith, l.0)
leads_depth v (n ∷ ns) zero p e t l = absurd l
leads_depth v (n ∷ ns) (suc d) p e t l = omega (arith, leads_depth v ns d l.1 e t l.4)

-- ---- one name

inside_skip : (v : View) (g : ℕ → Row) (n : Bytes) (f : Row → Row) (x : Entry) → T (not (is_named n x)) → (rest : Row)
    → inside n f (entry_row v g x rest) ≡ entry_row v g x (inside n f rest)
unfolding inside entry_row is_named
inside_skip v g n f vacant h rest = refl
inside_skip v g n f (a_file locked name date start size) h rest = refl
inside_skip v g n f (a_directory name date start size) h rest =
    if_no (same name n) (dir name date (f (g start)) rest) (dir name date (g start) (inside n f rest)) h

inside_work : (v v' : View) (g g' : ℕ → Row) (n : Bytes) (f : Row → Row) (x : Entry) (name date : Bytes) (s size : ℕ) → x ≡ a_directory name date s size
    → T (is_named n x) → f (g s) ≡ g' s → (rest : Row) → inside n f (entry_row v g x rest) ≡ entry_row v' g' x rest
unfolding inside entry_row is_named
inside_work v v' g g' n f x name date s size is h e rest =
    subst (λ (y : Entry). T (is_named n y) → inside n f (entry_row v g y rest) ≡ entry_row v' g' y rest) (sym is)
    (λ k. if_yes (same name n) (dir name date (f (g s)) rest) (dir name date (g s) (inside n f rest)) k ∙ ap (λ (r : Row). dir name date r rest) e) h

-- a directory's entry is good by its fields and the end of its pages
good_directory_lem : (v v' : View) (x : Entry) (name date : Bytes) (s size : ℕ) → x ≡ a_directory name date s size
    → v'.geometry.size ≡ v.geometry.size → T (v'.directory_ends s) → T (good_entry v x) → T (good_entry v' x)
unfolding good_entry
good_directory_lem v v' x name date s size is z ends h =
    let g : T (v.directory_ends s && (legal_name name && eqb size v.geometry.size)) = subst (λ (y : Entry). T (good_entry v y)) is h in
    subst (λ (y : Entry). T (good_entry v' y)) (sym is)
    (both_and (v'.directory_ends s) _ ends (subst (λ (n : ℕ). T (legal_name name && eqb size n)) (sym z) (and_both (v.directory_ends s) _ g).1))

-- a good directory's pages end
directory_ends_lem : (v : View) (x : Entry) (name date : Bytes) (s size : ℕ) → x ≡ a_directory name date s size → T (good_entry v x) → T (v.directory_ends s)
unfolding good_entry
directory_ends_lem v x name date s size is h = (and_both (v.directory_ends s) _ (subst (λ (y : Entry). T (good_entry v y)) is h)).0

-- and so do those of the directory that some names lead to
pub leads_ends : (v : View) (names : List Name) (d p e t : ℕ) → T (good_directory d v p) → T (v.directory_ends p) → Leads v d p names e t → T (v.directory_ends t)
leads_ends v [] d p e t h ends l = subst (λ (q : ℕ). T (v.directory_ends q)) l.1 ends
leads_ends v (n ∷ ns) zero p e t h ends l = absurd l
leads_ends v (n ∷ ns) (suc d) p e t h ends l =
    let m = (named_found v p n.bytes l.0 l.2).0 in
    let i = l.3 in
    let g = good_split d v p h in
    leads_ends v ns d l.1 e t
    (subst (λ (x : Entry). T (in_directory true (good_directory d v) x)) i.is (g.below l.0 m))
    (directory_ends_lem v (v.entry_at l.0) i.name i.date l.1 i.size i.is (g.each l.0 m)) l.4

-- ---- the focus law

-- the directory that starts on page t, read to depth e, is changed by op and is good
module _ {v v' : View} {Same : ℕ → Type 0} (w : Follows v v' Same) (regular : Regular v) (op : Row → Row) (e t : ℕ)
    (row : op (row_at e v t) ≡ row_at e v' t) (good : T (good_directory e v' t)) (ends : T (v'.directory_ends t)) where
  pub record Focused (names : List Name) (d p : ℕ) : Type 0 where
    pub means : change_at names op (row_at d v p) ≡ row_at d v' p
    pub is_good : T (good_directory d v' p)
    pub is_ended : T (v'.directory_ends p)
    pub owns : (q : ℕ) → occ q (subtree d v' p) + occ q (subtree e v t) ≡ occ q (subtree d v p) + occ q (subtree e v' t)

  pub focus : (names : List Name) (d p : ℕ) → T (good_directory d v p) → T (v.directory_ends p)
      → ((q : ℕ) → occ q (subtree d v p) ≤ 1) → ((q : ℕ) → Mem q (owned d v p) → 1 ≤ q)
      → Leads v d p names e t
      → ((q : ℕ) → Mem q (subtree d v p) → occ q (subtree e v t) ≡ 0 → Same q)
      → Focused names d p
  unfolding change_at
  focus [] d p h ended once pos l frame = record {
    means = ap₂ (λ (k r : ℕ). op (row_at k v r)) l.0 l.1 ∙ row ∙ ap₂ (λ (k r : ℕ). row_at k v' r) (sym l.0) (sym l.1);
    is_good = subst (λ (k : ℕ). T (good_directory k v' p)) (sym l.0) (subst (λ (r : ℕ). T (good_directory e v' r)) (sym l.1) good);
    is_ended = subst (λ (r : ℕ). T (v'.directory_ends r)) (sym l.1) ends;
    owns = λ q.
        let x : occ q (subtree d v p) ≡ occ q (subtree e v t) = ap₂ (λ (k r : ℕ). occ q (subtree k v r)) l.0 l.1 in
        let y : occ q (subtree d v' p) ≡ occ q (subtree e v' t) = ap₂ (λ (k r : ℕ). occ q (subtree k v' r)) l.0 l.1 in
        omega (arith, x, y);
  }
  focus (n ∷ ns) zero p h ended once pos l frame = absurd l
  focus (n ∷ ns) (suc d) p h ended once pos l frame =
      let at : ℕ = l.0 in
      let s : ℕ = l.1 in
      let dirAt : DirectoryAt v at s = l.3 in
      let found = named_found v p n.bytes at l.2 in
      let g : Good d v p = good_split d v p h in
      let mine : own d v (v.entry_at at) ≡ subtree d v s = own_directory d v at s dirAt in
      let split : (q : ℕ) → occ q (subtree (suc d) v p) ≡ occ q (v.directory_pages p) + occ q (owned (suc d) v p) = λ q. occ_append q (v.directory_pages p) (owned (suc d) v p) in
      let le : (q : ℕ) → occ q (subtree d v s) ≤ occ q (owned (suc d) v p) = λ q. directory_le d v p at s q found.0 dirAt in
      let target : (q : ℕ) → occ q (subtree e v t) ≤ occ q (subtree d v s) = λ q. leads_sub v ns d s e t q l.4 in
      let here : ReadsAlike v v' p = w.directory p (λ q m. frame q (omega (arith, m, split q)) (omega (arith, m, split q, once q, le q, target q))) in
      let fields : (x : ℕ) → Mem x (v.entries p) → v'.entry_at x ≡ v.entry_at x = here.fields in
      let apart : Nodup (v.entries p) = regular.apart p (λ q. omega (arith, split q, once q)) in
      let others : (x : ℕ) → Mem x (v.entries p) → x ≢ at → SameEntry v v' d d x = λ x m ne.
      entry_frame w d x (fields x m) (λ q k.
      let two = own_two d v p x at q ne m found.0 in
      let ea : occ q (own d v (v.entry_at at)) ≡ occ q (subtree d v s) = ap (occ q) mine in
      let one = once q in
      let tg = target q in
      (pos q (omega (arith, two, k)), frame q (omega (arith, two, k, split q)) (omega (arith, two, ea, k, one, tg, split q)))) in
      let isD : in_directory true (good_directory d v) (v.entry_at at) ≡ good_directory d v s = ap (in_directory true (good_directory d v)) dirAt.is in
      let isD' : in_directory true (good_directory d v') (v'.entry_at at) ≡ good_directory d v' s = ap (in_directory true (good_directory d v')) (fields at found.0 ∙ dirAt.is) in
      let down = focus ns d s (subst (λ (c : Bool). T c) isD (g.below at found.0))
      (directory_ends_lem v (v.entry_at at) dirAt.name dirAt.date s dirAt.size dirAt.is (g.each at found.0))
      (λ q. omega (arith, le q, once q, split q))
      (λ q k. pos q (omega (arith, le q, k, occ_append q (v.directory_pages s) (owned d v s))))
      l.4
      (λ q k z. frame q (omega (arith, le q, k, split q)) z) in
      let mine' : own d v' (v'.entry_at at) ≡ subtree d v' s =
      own_directory d v' at s (record { name = dirAt.name; date = dirAt.date; size = dirAt.size; is = fields at found.0 ∙ dirAt.is }) in
      record {
        means = level_row d v v' p at here.positions apart others (inside n.bytes (change_at ns op)) (is_named n.bytes)
            (inside_skip v (row_at d v) n.bytes (change_at ns op))
            (λ rest. inside_work v v' (row_at d v) (row_at d v') n.bytes (change_at ns op) (v.entry_at at) dirAt.name dirAt.date s dirAt.size dirAt.is found.1 down.means rest
            ∙ ap (λ (x : Entry). entry_row v' (row_at d v') x rest) (sym (fields at found.0)))
            (unfold entry_named in l.2);
        is_good = level_good d v v' p at here.positions apart others h
            (subst (λ (x : Entry). T (good_entry v' x)) (sym (fields at found.0))
            (good_directory_lem v v' (v.entry_at at) dirAt.name dirAt.date s dirAt.size dirAt.is w.size down.is_ended (g.each at found.0)))
            (subst (λ (c : Bool). T c) (sym isD') down.is_good)
            (λ x m ne. subst (λ (y : Entry). T (not (same_name y (v.entry_at x)))) (sym (fields at found.0)) (g.apart at x found.0 m (λ q. ne (sym q))));
        is_ended = subst (λ (c : Bool). T c) (sym here.ends) ended;
        owns = λ q.
            let lo = level_owned d v v' p at here.positions apart others found.0 q in
            let d2 = down.owns q in
            let m1 : occ q (own d v (v.entry_at at)) ≡ occ q (subtree d v s) = ap (occ q) mine in
            let m2 : occ q (own d v' (v'.entry_at at)) ≡ occ q (subtree d v' s) = ap (occ q) mine' in
            let dr : occ q (v'.directory_pages p) ≡ occ q (v.directory_pages p) = ap (occ q) here.pages in
            omega (arith, lo, d2, m1, m2, dr, split q, occ_append q (v'.directory_pages p) (owned (suc d) v' p));
      }
