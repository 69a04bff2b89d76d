-- Names of two entries: occupied ones are compared byte by byte, and a vacant one has none.
use mathlib.Core.Path.{◌≡◌, refl, sym, ap, ◌∙◌}
use Prim.Native.Nat.{ℕ, suc, ◌+◌, ◌≤◌, ◌<◌}
use native.Mathlib.Omega.{arith}
use mathlib.Core.Bool.{Bool, true, false, not, ◌&&◌}
use mathlib.Core.List.{List, [], ◌∷◌, ◌++◌, flat_map, append-nil}
use lib.ListN.{length, set, take, length-set}
use lib.Seq.{take-suc-set, append_snoc}
use Rattle.volume.specs.Bytes.{Bytes}
use Rattle.std.specs.Prelude.{if◌then◌else◌}
use Rattle.volume.specs.Lists.{all}
use Rattle.model.specs.Entry as Model
use Rattle.model.specs.Entry.{entry_count, entries, is_locked, name_at, date_at, entry_at}
use Rattle.model.specs.Version1.{view}
use Rattle.model.specs.Sound.{is_named, same_name, names_apart, in_directory}
use Rattle.claims.specs.Claim.{Visited, stops, goes, then_visit, claim_entry, claim_entries, directories_at}
use Rattle.fields.specs.declared.Entry.{Entry}
use Rattle.fields.specs.declared.Entry.TheVariants.{Vacant, File, Directory}
use Rattle.fields.specs.Read.{entry_of}
use Rattle.claims.specs.Lent.{outcome, position, rest, apart, entered}
use Rattle.fields.specs.declared.Page.{Page}
use Rattle.claims.proofs.Claims.{told, untold, goes_of, stops_of, rest_all, rest_next, rest_end, entries_next, entries_end, seen}

-- what an occupied entry is named is what stands in its bytes
pub named_same : (b : Bytes) (at : ℕ) (r : Entry) → entry_of r (is_locked b at) (name_at b at) (date_at b at) ≡ entry_at b at → (r ≡ Vacant → ⊥)
    → (e : Model.Entry) → is_named (name_at b at) e ≡ same_name (entry_at b at) e
unfolding same_name
named_same b at r read o e = one r o ∙ ap (λ (x : Model.Entry). same_name x e) read
  where
    one : (r : Entry) → (r ≡ Vacant → ⊥) → is_named (name_at b at) e ≡ same_name (entry_of r (is_locked b at) (name_at b at) (date_at b at)) e
    one Vacant k = absurd (k refl)
    one (File start size) k = refl
    one (Directory start size) k = refl

-- ---- entry by entry

module _ (b : Bytes) (p : ℕ) {n : ℕ} (count : n ≡ entry_count p) where
  apart_next : (e : Model.Entry) (j : ℕ) → j < n → apart b e (rest p j) ≡ (not (same_name e (entry_at b (position p j))) && apart b e (rest p (j + 1)))
  unfolding apart all
  apart_next e j l = ap (all (λ later. not (same_name e (entry_at b later)))) (rest_next p j (omega arith))

  apart_end : (e : Model.Entry) (j : ℕ) → n ≤ j → apart b e (rest p j) ≡ true
  unfolding apart all
  apart_end e j l = ap (all (λ later. not (same_name e (entry_at b later)))) (rest_end p j (omega arith))

  names_next : (i : ℕ) → i < n → names_apart (view b) (rest p i) ≡ (apart b (entry_at b (position p i)) (rest p (i + 1)) && names_apart (view b) (rest p (i + 1)))
  unfolding apart names_apart
  names_next i l = ap (names_apart (view b)) (rest_next p i (omega arith))

  names_end : (i : ℕ) → n ≤ i → names_apart (view b) (rest p i) ≡ true
  unfolding names_apart
  names_end i l = ap (names_apart (view b)) (rest_end p i (omega arith))

  entered_next : (i : ℕ) (row : List ℕ) → i < n → entered b (rest p i) row
      ≡ (if apart b (entry_at b (position p i)) (rest p (i + 1)) && names_apart (view b) (rest p (i + 1))
      then then_visit (claim_entry b (position p i) (entry_at b (position p i)) row) (claim_entries b (rest p (i + 1))) else stops)
  unfolding entered
  entered_next i row l = rw (names_next i l, entries_next b p i row count l)

  entered_end : (i : ℕ) (row : List ℕ) → n ≤ i → entered b (rest p i) row ≡ goes row
  unfolding entered
  entered_end i row l = rw (names_end i l, entries_end b p i row count l)

stops_either : (c : Bool) → (if c then stops else stops) ≡ stops
stops_either true = refl
stops_either false = refl

-- as the code goes: v is what the whole directory gives, a the answer for the name of one entry, and r, m that for its pages
module _ (b : Bytes) (p i : ℕ) (row : List ℕ) {v : Visited} (is : v ≡ entered b (rest p i) row) {n : ℕ} (count : n ≡ entry_count p) where
  module _ (l : i < n) {a : Bool} (e : a ≡ apart b (entry_at b (position p i)) (rest p (i + 1))) where
    pub entered_unnamed : not a ≡ true → stops ≡ v
    entered_unnamed h = sym (is ∙ entered_next b p count i row l ∙ rw (untold e h))

    module _ (h : not a ≡ false) {at : ℕ} (here : at ≡ position p i) (r : Bool) (m : List ℕ) (c : outcome r m ≡ claim_entry b at (entry_at b at) row) where
      pub entered_unclaimed : not r ≡ true → stops ≡ v
      unfolding then_visit
      entered_unclaimed k = sym (is ∙ entered_next b p count i row l ∙ rw (told e h, ← here, ← stops_of r m c k) (stops_either (names_apart (view b) (rest p (i + 1)))))

      pub entered_on : not r ≡ false → v ≡ entered b (rest p (i + 1)) m
      unfolding then_visit entered
      entered_on k = is ∙ entered_next b p count i row l ∙ rw (told e h, ← here, ← goes_of r c k)

  pub entered_done : n ≤ i → goes row ≡ v
  entered_done l = sym (is ∙ entered_end b p count i row l)

-- the same of the entries behind entry i, which is compared with each
module _ (b : Bytes) (p i j : ℕ) {v : Bool} (is : v ≡ apart b (entry_at b (position p i)) (rest p j)) {n : ℕ} (count : n ≡ entry_count p) where
  module _ (l : j < n) {at other : ℕ} (here : at ≡ position p i) (there : other ≡ position p j) {r : Bool} (e : r ≡ same_name (entry_at b at) (entry_at b other)) where
    pub apart_stop : r ≡ true → false ≡ v
    apart_stop h = sym (is ∙ apart_next b p count (entry_at b (position p i)) j l ∙ rw (← here, ← there, ← e, h))

    pub apart_go : r ≡ false → v ≡ apart b (entry_at b (position p i)) (rest p (j + 1))
    apart_go h = is ∙ apart_next b p count (entry_at b (position p i)) j l ∙ rw (← here, ← there, ← e, h)

  pub apart_done : n ≤ j → true ≡ v
  apart_done l = sym (is ∙ apart_end b p count (entry_at b (position p i)) j l)

-- ---- the directories among the entries

pub dirs_next : (b : Bytes) (p i : ℕ) → i < entry_count p → directories_at b (rest p i) ≡ in_directory [] (λ s. s ∷ []) (entry_at b (position p i)) ++ directories_at b (rest p (i + 1))
unfolding directories_at flat_map
dirs_next b p i l = ap (directories_at b) (rest_next p i l)

pub dirs_end : (b : Bytes) (p i : ℕ) → entry_count p ≤ i → directories_at b (rest p i) ≡ []
unfolding directories_at flat_map
dirs_end b p i l = ap (directories_at b) (rest_end p i l)

-- what is pushed so far, and what is to come
pub record Pushes (b : Bytes) (p found : ℕ) (list₀ : List ℕ) (end i : ℕ) (list : List ℕ) : Type 0 where
  pub counted : end + length (directories_at b (rest p i)) ≡ found + length (directories_at b (entries p))
  pub kept : length list ≡ length list₀
  pub held : take end list ++ directories_at b (rest p i) ≡ take found list₀ ++ directories_at b (entries p)

module _ (b : Bytes) (p found : ℕ) (list₀ : List ℕ) where
  pub pushes_first : Pushes b p found list₀ found 0 list₀
  pushes_first = record { counted = ap (λ (l : List ℕ). found + length (directories_at b l)) (sym (rest_all p)); kept = refl; held = ap (λ (l : List ℕ). take found list₀ ++ directories_at b l) (sym (rest_all p)) }

  pushes_here : {end i n start size : ℕ} {name date : Bytes} {list : List ℕ} → n ≡ entry_count p → i < n → Model.a_directory name date start size ≡ entry_at b (position p i)
      → end < length list → Pushes b p found list₀ end i list → Pushes b p found list₀ (end + 1) (i + 1) (set list end start)
  pushes_here {end} {i} {n} {start} {size} {name} {date} {list} c l e u w =
      let d : directories_at b (rest p i) ≡ start ∷ directories_at b (rest p (i + 1)) =
      dirs_next b p i (omega arith) ∙ ap (λ (x : Model.Entry). in_directory [] (λ s. s ∷ []) x ++ directories_at b (rest p (i + 1))) (sym e) in
      let one : end + 1 ≡ suc end = omega arith in
      record {
        counted = omega (arith, w.counted, ap length d);
        kept = length-set list end start ∙ w.kept;
        held = ap (λ (k : ℕ). take k (set list end start) ++ directories_at b (rest p (i + 1))) one
            ∙ ap (λ (l : List ℕ). l ++ directories_at b (rest p (i + 1))) (take-suc-set list end start u)
            ∙ append_snoc (take end list) start (directories_at b (rest p (i + 1))) ∙ ap (λ (l : List ℕ). take end list ++ l) (sym d) ∙ w.held;
      }

  pushes_room : {end i n start size : ℕ} {name date : Bytes} {list : List ℕ} → n ≡ entry_count p → i < n → Model.a_directory name date start size ≡ entry_at b (position p i)
      → found + length (directories_at b (entries p)) ≤ length list₀ → Pushes b p found list₀ end i list → end < length list
  pushes_room {end} {i} {n} {start} {size} {name} {date} {list} c l e u w =
      let d : directories_at b (rest p i) ≡ start ∷ directories_at b (rest p (i + 1)) =
      dirs_next b p i (omega arith) ∙ ap (λ (x : Model.Entry). in_directory [] (λ s. s ∷ []) x ++ directories_at b (rest p (i + 1))) (sym e) in
      omega (arith, w.counted, w.kept, ap length d)

  pushes_not : {end i n : ℕ} {list : List ℕ} → n ≡ entry_count p → i < n → in_directory {A = List ℕ} [] (λ s. s ∷ []) (entry_at b (position p i)) ≡ []
      → Pushes b p found list₀ end i list → Pushes b p found list₀ end (i + 1) list
  pushes_not {end} {i} {n} {list} c l e w =
      let d : directories_at b (rest p i) ≡ directories_at b (rest p (i + 1)) =
      dirs_next b p i (omega arith) ∙ ap (λ (x : List ℕ). x ++ directories_at b (rest p (i + 1))) e in
      record { counted = omega (arith, w.counted, ap length d); kept = w.kept; held = ap (λ (l : List ℕ). take end list ++ l) (sym d) ∙ w.held }

  pub pushes_last : {end i n : ℕ} {list : List ℕ} → n ≡ entry_count p → n ≤ i → Pushes b p found list₀ end i list
      → (end ≡ found + length (directories_at b (entries p))) × (take end list ≡ take found list₀ ++ directories_at b (entries p))
  pushes_last {end} {i} {n} {list} c l w =
      let d = dirs_end b p i (omega arith) in
      (omega (arith, w.counted, ap length d), sym (append-nil (take end list)) ∙ ap (λ (l : List ℕ). take end list ++ l) (sym d) ∙ w.held)

-- an entry that is no directory
not_directory : (l : Bool) (n d : Bytes) (r : Entry) → ((start : Page) (size : ℕ) → r ≡ Directory start size → ⊥) → in_directory {A = List ℕ} [] (λ s. s ∷ []) (entry_of r l n d) ≡ []
not_directory l n d Vacant k = refl
not_directory l n d (File start size) k = refl
not_directory l n d (Directory start size) k = absurd (k start size refl)

not_there : (b : Bytes) (d i : ℕ) (r : Entry) {at : ℕ} → at ≡ position d i → entry_of r (is_locked b at) (name_at b at) (date_at b at) ≡ entry_at b at
    → ((start : Page) (size : ℕ) → r ≡ Directory start size → ⊥) → in_directory {A = List ℕ} [] (λ s. s ∷ []) (entry_at b (position d i)) ≡ []
not_there b d i r {at} here read k = rw (← here, ← read) (not_directory (is_locked b at) (name_at b at) (date_at b at) r k)

-- as the code goes: r was read of entry i
module _ (b : Bytes) (p found : ℕ) (list₀ : List ℕ) {end i n : ℕ} {list : List ℕ} (w : Pushes b p found list₀ end i list) (c : n ≡ entry_count p) (l : i < n)
    {at : ℕ} (here : at ≡ position p i) (r : Entry) (read : entry_of r (is_locked b at) (name_at b at) (date_at b at) ≡ entry_at b at) where
  module _ {start : Page} {size : ℕ} (e : r ≡ Directory start size) (u : found + length (directories_at b (entries p)) ≤ length list₀) where
    pub finds_room : end < length list
    finds_room = pushes_room b p found list₀ c l (seen b p i here read e) u w

    pub pushes_one : Pushes b p found list₀ (end + 1) (i + 1) (set list end start.0)
    pushes_one = pushes_here b p found list₀ c l (seen b p i here read e) finds_room w

  pub pushes_none : ((start : Page) (size : ℕ) → r ≡ Directory start size → ⊥) → Pushes b p found list₀ end (i + 1) list
  pushes_none k = pushes_not b p found list₀ c l (not_there b p i r here read k) w
