-- Where a part of the visit says yes its own parts do, and the row is what they set.
use mathlib.Core.Path.{◌≡◌, refl, sym, ap, ◌∙◌, subst}
use Prim.Native.Nat.{ℕ, ◌+◌, ◌-◌, ◌*◌, ◌≤◌, ◌<◌}
use native.Mathlib.Omega.{arith}
use mathlib.Core.Bool.{Bool, true, false, ◌&&◌}
use mathlib.Core.List.{List, [], ◌∷◌}
use lib.ListN.{length, get_or, set}
use lib.Dec.{eqb, ltb}
use Rattle.volume.specs.Bytes.{Bytes}
use Rattle.std.specs.Prelude.{if◌then◌else◌}
use Rattle.model.specs.Layout.{page_size, page_count, pages_for, link}
use Rattle.model.specs.Name.{legal_name}
use Rattle.model.specs.Entry as Model
use Rattle.model.specs.Entry.{entry_count, entries, is_locked, name_at, date_at, entry_at}
use Rattle.model.specs.Version1.{view}
use Rattle.model.specs.Sound.{names_apart}
use Rattle.fields.specs.declared.Entry.{Entry}
use Rattle.fields.specs.declared.Entry.TheVariants.{File, Directory}
use Rattle.fields.specs.declared.Page.{Page}
use Rattle.fields.specs.Read.{entry_of}
use Rattle.claims.specs.Claim.{Visited, stops, goes, then_visit, claim, claim_chain, claim_entry, claim_entries, directories_at}
use Rattle.audit.specs.Visit.{visit}
use Rattle.claims.specs.Lent.{position, rest, Row}
use Rattle.claims.proofs.Claims.{never, page_claimed, chain_next, chain_end, chain_goes, read_as, entries_next, entries_go}
use Rattle.audit.proofs.Stands.{Stands, entries_asked, stands_unnamed, stands_unclaimed, push_fits, stands_next}
use Rattle.owner_rows.specs.Says.{SaysYes, Pushed}

-- ---- answers

refuted : {A : Type 0} {v : Visited} → SaysYes v → stops ≡ v → A
refuted s e = never (s.is ∙ sym e)

-- of two parts one after the other
first_says : (v : Visited) (on : List ℕ → Visited) → SaysYes (then_visit v on) → SaysYes v
unfolding then_visit
first_says stops on s = never s.is
first_says (goes row) on s = record { row = row; is = refl }

-- a test before a part
test_says : (c : Bool) (v : Visited) → SaysYes (if c then v else stops) → (if c then v else stops) ≡ v
test_says true v s = refl
test_says false v s = never s.is

-- ---- pages

module _ (at p : ℕ) (row : List ℕ) (yes : SaysYes (claim at p row)) where
  pub page_low : p < length row
  page_low = (page_claimed at p row yes.row yes.is).here

  pub page_given : goes (set row p at) ≡ claim at p row
  unfolding claim
  page_given = go (ltb p (length row)) (eqb (get_or row p 0) 0) yes.is
    where
      go : (c k : Bool) → goes yes.row ≡ (if c && k then goes (set row p at) else stops) → goes (set row p at) ≡ (if c && k then goes (set row p at) else stops)
      go true true e = refl
      go true false e = never e
      go false k e = never e

-- as the code goes: v is what the whole chain gives
module _ (b : Bytes) (at left p : ℕ) (row : List ℕ) {v : Visited} (yes : SaysYes v) (is : v ≡ claim_chain b at left p row) where
  pub chain_asks : 0 < left → SaysYes (claim at p row)
  chain_asks l = first_says (claim at p row) (claim_chain b at (left - 1) (link b p)) (subst SaysYes (is ∙ chain_next b at left p row l) yes)

  pub chain_turn : 0 < left → {m : List ℕ} → goes m ≡ claim at p row → {q n : ℕ} → q ≡ link b p → n ≡ left - 1 → v ≡ claim_chain b at n q m
  chain_turn l {m} e k same = chain_goes b at left p row is l true m e refl k same

  pub chain_inside : 0 < left → {row₀ : List ℕ} → Row b row₀ → length row ≡ length row₀ → page_size * p < length b
  chain_inside l k e = omega (arith, page_low at p row (chain_asks l), e, k.each)

  pub chain_given : left ≤ 0 → goes row ≡ v
  chain_given l = let e = is ∙ chain_end b at left p row l in sym (e ∙ test_says (eqb p 0) (goes row) (subst SaysYes e yes))

-- ---- an entry, by what was read at its position

module _ (b : Bytes) (at : ℕ) (row : List ℕ) {r : Entry} (read : entry_of r (is_locked b at) (name_at b at) (date_at b at) ≡ entry_at b at)
    (yes : SaysYes (claim_entry b at (entry_at b at) row)) where
  as_read : {s : Entry} → r ≡ s → SaysYes (claim_entry b at (entry_of s (is_locked b at) (name_at b at) (date_at b at)) row)
  as_read e = subst (λ (x : Model.Entry). SaysYes (claim_entry b at x row)) (sym (read_as b at read e)) yes

  module _ {start : Page} {size : ℕ} where
    file_is : r ≡ File start size → {k : ℕ} → k ≡ pages_for size → claim_entry b at (entry_at b at) row ≡ claim_chain b at k start.0 row
    unfolding claim_entry
    file_is e k =
        ap (λ (x : Model.Entry). claim_entry b at x row) (sym (read_as b at read e))
        ∙ test_says (legal_name (name_at b at)) (claim_chain b at (pages_for size) start.0 row) (as_read e)
        ∙ ap (λ (n : ℕ). claim_chain b at n start.0 row) (sym k)

    directory_is : r ≡ Directory start size → claim_entry b at (entry_at b at) row ≡ claim at start.0 row
    unfolding claim_entry
    directory_is e =
        ap (λ (x : Model.Entry). claim_entry b at x row) (sym (read_as b at read e))
        ∙ test_says (legal_name (name_at b at) && eqb size 0x0100) (claim at start.0 row) (as_read e)

    pub file_asks : r ≡ File start size → {k : ℕ} → k ≡ pages_for size → SaysYes (claim_chain b at k start.0 row)
    file_asks e k = subst SaysYes (file_is e k) yes

    pub file_given : r ≡ File start size → {k : ℕ} → k ≡ pages_for size → {v : Visited} → v ≡ claim_chain b at k start.0 row → v ≡ claim_entry b at (entry_at b at) row
    file_given e k c = c ∙ sym (file_is e k)

    pub directory_asks : r ≡ Directory start size → SaysYes (claim at start.0 row)
    directory_asks e = subst SaysYes (directory_is e) yes

    pub directory_given : r ≡ Directory start size → {v : Visited} → v ≡ claim at start.0 row → v ≡ claim_entry b at (entry_at b at) row
    directory_given e c = c ∙ sym (directory_is e)

-- ---- the entries of a directory; v is what the whole directory gives

module _ (b : Bytes) (p i : ℕ) (row : List ℕ) {v : Visited} (yes : SaysYes v) (is : v ≡ claim_entries b (rest p i) row) {n : ℕ} (count : n ≡ entry_count p) (l : i < n)
    {at : ℕ} (here : at ≡ position p i) where
  pub entry_asks : SaysYes (claim_entry b at (entry_at b at) row)
  entry_asks =
      let s = first_says (claim_entry b (position p i) (entry_at b (position p i)) row) (claim_entries b (rest p (i + 1))) (subst SaysYes (is ∙ entries_next b p i row count l) yes) in
      subst (λ (x : ℕ). SaysYes (claim_entry b x (entry_at b x) row)) (sym here) s

  pub entries_turn : {m : List ℕ} → goes m ≡ claim_entry b at (entry_at b at) row → v ≡ claim_entries b (rest p (i + 1)) m
  entries_turn {m} e = entries_go b p i row is count l here true m e refl

-- ---- the next directory of a visit that says yes

module _ (b : Bytes) (row₀ list row : List ℕ) (found done : ℕ) (at : Stands b row₀ list row found done) (yes : SaysYes (visit (page_count b) b (0 ∷ []) row₀)) (l : done < found) where
  pub names_differ : names_apart (view b) (entries (get_or list done 0)) ≡ true
  names_differ = go (names_apart (view b) (entries (get_or list done 0))) refl
    where
      go : (c : Bool) → names_apart (view b) (entries (get_or list done 0)) ≡ c → names_apart (view b) (entries (get_or list done 0)) ≡ true
      go true e = e
      go false e = refuted yes (stands_unnamed b row₀ list row found done at l e)

  pub directory_says : SaysYes (claim_entries b (entries (get_or list done 0)) row)
  directory_says = go (claim_entries b (entries (get_or list done 0)) row) refl
    where
      go : (v : Visited) → claim_entries b (entries (get_or list done 0)) row ≡ v → SaysYes v
      go stops e = refuted yes (stands_unclaimed b row₀ list row found done at l names_differ (sym e))
      go (goes m) e = record { row = m; is = refl }

  -- p is the page on the list that is visited next
  module _ {p : ℕ} (next : p ≡ get_or list done 0) where
    pub directory_asked : Row b row × (p < length row) × SaysYes (claim_entries b (entries p) row) × (found + length (directories_at b (entries p)) ≤ length list)
    directory_asked =
        let a = entries_asked b row₀ list row found done at l in
        subst (λ (q : ℕ). Row b row × (q < length row) × SaysYes (claim_entries b (entries q) row) × (found + length (directories_at b (entries q)) ≤ length list)) (sym next)
        (a.0, a.1, directory_says, push_fits b row₀ list row found done at l names_differ directory_says.row directory_says.is)

    pub stands_turn : {row' : List ℕ} → goes row' ≡ claim_entries b (entries p) row → {list' : List ℕ} → 256 ≤ length list' → {found' : ℕ}
        → Pushed (directories_at b (entries p)) list found list' found' → Stands b row₀ list' row' found' (done + 1)
    stands_turn {row'} c {list'} g {found'} s =
        let pushed = subst (λ (q : ℕ). Pushed (directories_at b (entries q)) list found list' found') next s in
        stands_next b row₀ list row found done at l names_differ row' (c ∙ ap (λ (q : ℕ). claim_entries b (entries q) row) next) list' found' g pushed.counted pushed.held
