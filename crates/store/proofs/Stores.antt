-- The call: with a buffer that is a page, behind the lines that find the vacant entry stand those of the free pages and of the store's number; past them the
-- page is one of the content's, the header's or the parent's, by the number.
use mathlib.Core.Path.{◌≡◌, refl, sym, ap, ap₂, ◌∙◌, subst}
use mathlib.Core.Logic.{◌≢◌}
use Prim.Native.Nat.{ℕ, ◌+◌, ◌-◌, ◌*◌, ◌/◌, ◌≤◌, ◌<◌}
use native.Mathlib.Omega.{arith}
use native.Mathlib.Decide.{dec_lt}
use mathlib.Core.Bool.{Bool, true, false, not}
use mathlib.Core.Option.{none, some}
use mathlib.Core.List.{List, [], ◌∷◌, ◌++◌}
use lib.ListN.{length, take, drop, length-set, length-take}
use lib.Dec.{T, eqb, leb, ltb}
use borrow.Author.Tests.{lt-ltb, le-ltb, le-leb, lt-leb, eq-eqb, ne_eqb, ltb-true, ltb-false}
use Rattle.volume.specs.Bytes.{Bytes, part, put}
use Rattle.std.specs.Prelude.{if◌then◌else◌}
use Rattle.volume.specs.Geometry as On
use Rattle.model.specs.Layout.{version1, page_count, pages_for, free_count}
use Rattle.model.specs.Entry.{new_entry}
use Rattle.model.specs.Name.{padded}
use Rattle.model.specs.Sound.{sound}
use Rattle.model.specs.Tree.{free_number}
use Rattle.model.specs.Path.{Path, path_of, last_name, below}
use Rattle.model.specs.Image.{tree_of}
use Rattle.model.specs.Walk.{parent_page}
use Rattle.model.specs.Effect.{lowest_vacant}
use Rattle.model.specs.Store.{Store, store_at, store_count}
use Rattle.model.specs.Call.{store, Refusal, refusal, Answer, refused, granted}
use Rattle.model.specs.Refusal.{Line, make_lines, settle, Passes}
use Rattle.model.specs.Meaning.{image_lines, is_format, lines, answer, buffer_after}
use Rattle.model.specs.MeaningOf
use Rattle.model.specs.RefusalOf
use Rattle.laws.proofs.Facts.{Facts, sound_facts_lem}
use Rattle.laws.proofs.Counting.{free_number_lem, free_sum, fill_up}
use Rattle.laws.proofs.Slots.{size}
use Rattle.laws.proofs.Entries.{Within}
use Rattle.laws.proofs.NewEntry.{new_length}
use Rattle.laws.proofs.Lines.{settle_holds, settle_append}
use Rattle.laws.proofs.Passed.{image_passed, Makes, make_passed}
use Rattle.arrivals.proofs.Settled.{opened, settle_opened, settle_granted}
use Rattle.openings.specs.Openings.{Place, found, opening}
use Rattle.store_laws.specs.Claim.{claimed, page_after, link_after, content_page, started_entry}
use Rattle.store_laws.proofs.Numbers.{content_store, header_below, header_root, parent_store}
use Rattle.store_laws.proofs.Calls.{spot_within, spot_page, count_by_place}
use Rattle.store.specs.Asked.{Storing}

-- a test that the code made
pub is_less : {x y : ℕ} {r : Bool} → r ≡ ltb x y → r ≡ true → x < y
is_less {x} {y} e t = ltb-true x y (sym e ∙ t)

pub not_less : {x y : ℕ} {r : Bool} → r ≡ ltb x y → r ≡ false → y ≤ x
not_less {x} {y} e t = ltb-false x y (sym e ∙ t)

entry_length : (name date : Bytes) (size start : ℕ) → length name ≡ 16 → length date ≡ 8 → length (started_entry name date size start) ≡ 32
unfolding started_entry
entry_length name date z start n d = length-set (new_entry 0x80 name 0 z date) 17 start ∙ new_length 0x80 name z date n d

-- the opening's name fits an entry
pub name_fits : (path : Bytes) (begins : ℕ) → length path - begins ≤ 16 → length (take (length path - begins) (drop begins path)) ≤ 16
name_fits path begins fits = simp length-take (omega arith)

-- ---- where a new file may be made

module _ (b path date : Bytes) {at : ℕ} {name : Bytes} (e : granted (at, name) ≡ opening b path date) where
  abbrev above : List Line
  above = image_lines b ++ make_lines path date (tree_of b)

  granted_lines : Passes above × (◌≡◌ {A = Answer Place} (granted (at, name)) (granted (found b path)))
  unfolding opening
  granted_lines = settle_granted above (granted (found b path)) (at, name) e

  is_found : ◌≡◌ {A = Place} (at, name) (found b path)
  is_found = cc granted_lines.1

  behind : T (sound b) × Passes (make_lines path date (tree_of b))
  behind = image_passed b (make_lines path date (tree_of b)) granted_lines.0

  facts : Facts b
  facts = sound_facts_lem behind.0

  pub long : 4 ≤ length b
  long = omega (arith, (size facts).low, (size facts).whole)

  pub free_few : free_count b ≤ 255
  free_few = omega (arith, free_sum facts, (size facts).high)

  -- and pages enough for it
  module _ (v : Bytes) (l : pages_for (length v) ≤ free_count b) where
    free : ltb (free_number (tree_of b)) (pages_for (length v)) ≡ false
    free = rw (free_number_lem facts) (le-ltb (free_count b) (pages_for (length v)) l)

    makes : Makes b path date (pages_for (length v))
    unfolding settle
    makes = make_passed facts (refusal 10)
        (settle_append some (make_lines path date (tree_of b)) ((ltb (free_number (tree_of b)) (pages_for (length v)), refusal 10) ∷ []) none ∙ rw free behind.1)

    storing : Storing b (length v)
    storing = record {
      low = omega (arith, (size facts).low);
      high = (size facts).high;
      whole = (size facts).whole;
      free = omega (arith, facts.counted, l);
      counted = l;
      fits = omega (arith, fill_up (length v), l, free_few);
    }

    dated : length date ≡ 8
    dated = makes.clear.dated

    named : length name ≡ 16
    named = ap (λ (p : Place). length p.1) is_found ∙ ap (λ (p : Path). length (last_name p)) makes.is ∙ makes.clear.long

    -- the entry's place
    at_is : at ≡ lowest_vacant b (parent_page b (path_of path))
    at_is = ap (λ (p : Place). p.0) is_found

    within : Within (parent_page b (path_of path)) at
    within = subst (λ (p : Path). Within (parent_page b p) at) (sym makes.is)
        (subst (Within (parent_page b (below makes.ns makes.n))) (sym (at_is ∙ ap (λ (p : Path). lowest_vacant b (parent_page b p)) makes.is))
        (spot_within b facts makes.ns makes.n date v makes.clear))

    page_in : parent_page b (path_of path) < page_count b
    page_in = subst (λ (p : Path). parent_page b p < page_count b) (sym makes.is) (spot_page b facts makes.ns makes.n date v makes.clear)

    -- it stands on the parent's page
    parent_is : at / 256 ≡ parent_page b (path_of path)
    parent_is = omega (arith, within.low, within.high)

    on_page : at + 32 ≤ 256 * (at / 256) + 256
    on_page = omega (arith, within.high, within.low)

    in_image : 256 * (at / 256) + 256 ≤ length b
    in_image = omega (arith, parent_is, page_in, (size facts).whole)

    count_is : pages_for (length v) + (if ltb at 256 then 1 else 2) ≡ store_count (path_of path) v
    count_is =
        ap (λ (i : ℕ). pages_for (length v) + (if ltb i 256 then 1 else 2)) at_is
        ∙ subst (λ (p : Path). pages_for (length v) + (if ltb (lowest_vacant b (parent_page b p)) 256 then 1 else 2) ≡ store_count p v) (sym makes.is)
        (count_by_place b facts makes.ns makes.n date v makes.clear)

-- ---- the call

module _ (b path date v : Bytes) (j : ℕ) (buffer : Bytes) where
  -- a refusal leaves the buffer as it is
  abbrev Refuses : Refusal → Type 0
  Refuses m = (refused m ≡ answer (store path date v j buffer) b) × (buffer ≡ buffer_after (store path date v j buffer) b)

  pub not_a_page : length buffer ≢ 256 → Refuses (refusal 29)
  unfolding MeaningOf.answer MeaningOf.buffer_after MeaningOf.lines
  not_a_page ne =
      let h : T (not (eqb (length buffer) 256)) = rw (ne_eqb (length buffer) 256 ne) tt in
      (sym (settle_holds refused (not (eqb (length buffer) 256)) (refusal 29) _ _ h), sym (settle_holds (λ m. buffer) (not (eqb (length buffer) 256)) (refusal 29) _ _ h))

  module _ (paged : length buffer ≡ 256) where
    abbrev space : Line
    space = (ltb (free_number (tree_of b)) (pages_for (length v)), refusal 10)

    abbrev past : Line
    past = (leb (store_count (path_of path) v) j, refusal 12)

    abbrev granted_here : Answer ℕ
    granted_here = granted (store_at j (path_of path) date v b).page

    abbrev bytes_here : Bytes
    bytes_here = (store_at j (path_of path) date v b).bytes

    abbrev first : List Line
    first = image_lines b ++ make_lines path date (tree_of b)

    -- 29 does not hold
    below_buffer : {A : Type 0} (f : Refusal → A) (x : A) → settle (lines (store path date v j buffer) b) f x ≡ settle (first ++ (space ∷ past ∷ [])) f x
    unfolding MeaningOf.lines is_format RefusalOf.refusals RefusalOf.earlier RefusalOf.later RefusalOf.wanted settle
    below_buffer f x = rw (eq-eqb (length buffer) 256 paged)

    store_placed : {A : Type 0} (f : Refusal → A) (x : A)
        → settle (lines (store path date v j buffer) b) f x ≡ opened f (λ (p : Place). settle (space ∷ past ∷ []) f x) (opening b path date)
    unfolding opening
    store_placed f x =
        below_buffer f x ∙ settle_append f first (space ∷ past ∷ []) x
        ∙ sym (settle_opened f (λ (p : Place). settle (space ∷ past ∷ []) f x) first (granted (found b path)))

    at_place : {A : Type 0} (f : Refusal → A) (x : A) {a : Answer Place} → a ≡ opening b path date
        → opened f (λ (p : Place). settle (space ∷ past ∷ []) f x) a ≡ settle (lines (store path date v j buffer) b) f x
    at_place f x e = ap (opened f (λ (p : Place). settle (space ∷ past ∷ []) f x)) e ∙ sym (store_placed f x)

    pub store_refused : {m : Refusal} → refused m ≡ opening b path date → Refuses m
    unfolding MeaningOf.answer MeaningOf.buffer_after
    store_refused e = (at_place refused _ e, at_place (λ m. buffer) _ e)

    module _ {at : ℕ} {name : Bytes} (e : granted (at, name) ≡ opening b path date) where
      pub store_lacking : free_count b < pages_for (length v) → Refuses (refusal 10)
      unfolding settle MeaningOf.answer MeaningOf.buffer_after
      store_lacking l =
          let t : ltb (free_number (tree_of b)) (pages_for (length v)) ≡ true = rw (free_number_lem (facts b path date e)) (lt-ltb (free_count b) (pages_for (length v)) l) in
          (rw t at (at_place refused granted_here e), rw t at (at_place (λ m. buffer) bytes_here e))

      module _ (l : pages_for (length v) ≤ free_count b) where
        abbrev f : Facts b
        f = facts b path date e

        abbrev made : Makes b path date (pages_for (length v))
        made = makes b path date e v l

        abbrev roomy : ltb (free_number (tree_of b)) (pages_for (length v)) ≡ false
        roomy = free b path date e v l

        module _ (count k : ℕ) (ek : k ≡ pages_for (length v)) (counted : count ≡ k + (if ltb at 256 then 1 else 2)) where
          many : count ≡ pages_for (length v) + (if ltb at 256 then 1 else 2)
          many = counted ∙ ap (λ (m : ℕ). m + (if ltb at 256 then 1 else 2)) ek

          pub store_past : count ≤ j → Refuses (refusal 12)
          unfolding settle MeaningOf.answer MeaningOf.buffer_after
          store_past h =
              let t : leb (store_count (path_of path) v) j ≡ true = le-leb (store_count (path_of path) v) j (omega (arith, h, many, (count_is b path date e v l))) in
              (rw (roomy, t) at (at_place refused granted_here e), rw (roomy, t) at (at_place (λ m. buffer) bytes_here e))

          module _ (h : j < count) where
            open_line : leb (store_count (path_of path) v) j ≡ false
            open_line = lt-leb (store_count (path_of path) v) j (omega (arith, h, many, (count_is b path date e v l)))

            -- past all lines: store j is s
            done : (s : Store) → store_at j (path_of path) date v b ≡ s
                → (granted s.page ≡ answer (store path date v j buffer) b) × (s.bytes ≡ buffer_after (store path date v j buffer) b)
            unfolding settle MeaningOf.answer MeaningOf.buffer_after
            done s is = (
              ap {B = Answer ℕ} (λ (x : Store). granted x.page) (sym is) ∙ (rw (roomy, open_line) at (at_place refused granted_here e)),
              ap (λ (x : Store). x.bytes) (sym is) ∙ (rw (roomy, open_line) at (at_place (λ m. buffer) bytes_here e)),
            )

            -- by the parents and the last name of the path
            done_below : (p : ℕ) (z : Bytes) (s : Store) → store_at j (below made.ns made.n) date v b ≡ s → p ≡ s.page → z ≡ s.bytes
                → (granted p ≡ answer (store path date v j buffer) b) × (z ≡ buffer_after (store path date v j buffer) b)
            done_below p z s is ep ez =
                let d = done s (subst (λ (q : Path). store_at j q date v b ≡ s) (sym made.is) is) in
                (ap {B = Answer ℕ} (λ (x : ℕ). granted x) ep ∙ d.0, ez ∙ d.1)

            content_done : j < k → (p : ℕ) (z : Bytes) → p ≡ page_after (page_count b) j (part 0 256 b)
                → z ≡ content_page (link_after (page_count b) (pages_for (length v)) j (part 0 256 b)) v j
                → (granted p ≡ answer (store path date v j buffer) b) × (z ≡ buffer_after (store path date v j buffer) b)
            content_done u p z ep ez = done_below p z _ (content_store b f made.ns made.n date v made.clear j (omega (arith, u, ek))) ep ez

            -- the new entry as the code has it
            module _ (text w : Bytes) (same : text ≡ name) (is : w ≡ started_entry text date (length v) (On.lowest_free version1 (page_count b) b)) where
              abbrev q : Path
              q = below made.ns made.n

              entry_is : w ≡ started_entry made.n.bytes date (length v) (On.lowest_free version1 (page_count b) b)
              entry_is = is ∙ ap (λ (x : Bytes). started_entry x date (length v) (On.lowest_free version1 (page_count b) b))
                  (same ∙ ap (λ (p : Place). p.1) (is_found b path date e) ∙ ap last_name made.is)

              place_is : at ≡ lowest_vacant b (parent_page b (below made.ns made.n))
              place_is = (at_is b path date e v l) ∙ ap (λ (p : Path). lowest_vacant b (parent_page b p)) made.is

              page_is : at / 256 ≡ parent_page b (below made.ns made.n)
              page_is = (parent_is b path date e v l) ∙ ap (parent_page b) made.is

              header_done : j ≡ k → (z : Bytes) → z ≡ (if ltb at 256 then put at w (claimed (page_count b) k (part 0 256 b)) else claimed (page_count b) k (part 0 256 b))
                  → (granted 0 ≡ answer (store path date v j buffer) b) × (z ≡ buffer_after (store path date v j buffer) b)
              header_done ej z by_code = elim (dec_lt at 256) [
                | yes u ↦ done_below 0 z _
                    (ap (λ (i : ℕ). store_at i q date v b) (ej ∙ ek) ∙ header_root b f made.ns made.n date v made.clear (omega (arith, page_is, u))) refl
                    (ez ∙ rw (lt-ltb at 256 u) (ap₂ {C = Bytes} (λ (i : ℕ) (x : Bytes). put i x (claimed (page_count b) (pages_for (length v)) (part 0 256 b))) place_is entry_is))
                | no u ↦ done_below 0 z _
                    (ap (λ (i : ℕ). store_at i q date v b) (ej ∙ ek) ∙ header_below b f made.ns made.n date v made.clear (λ y. omega (arith, page_is, u, y))) refl
                    (ez ∙ rw (le-ltb at 256 (omega arith)) refl)
              ]
                where
                  ez : z ≡ (if ltb at 256 then put at w (claimed (page_count b) (pages_for (length v)) (part 0 256 b)) else claimed (page_count b) (pages_for (length v)) (part 0 256 b))
                  ez = by_code ∙ ap (λ (m : ℕ). if ltb at 256 then put at w (claimed (page_count b) m (part 0 256 b)) else claimed (page_count b) m (part 0 256 b)) ek

              parent_done : k ≤ j → j ≢ k → (p : ℕ) (z : Bytes) → p ≡ at / 256 → z ≡ put (at - 256 * (at / 256)) w (part (256 * (at / 256)) 256 b)
                  → (granted p ≡ answer (store path date v j buffer) b) × (z ≡ buffer_after (store path date v j buffer) b)
              parent_done low ne p z ep ez =
                  let far = beyond_root in
                  done_below p z _
                  (ap (λ (i : ℕ). store_at i q date v b) far.1 ∙ parent_store b f made.ns made.n date v made.clear (λ y. omega (arith, page_is, far.0, y)))
                  (ep ∙ page_is)
                  (ez ∙ (λ i. put (place_is i - 256 * page_is i) (entry_is i) (part (256 * page_is i) 256 b)))
                where
                  -- there are two stores behind the content
                  beyond_root : (256 ≤ at) × (j ≡ pages_for (length v) + 1)
                  beyond_root = elim (dec_lt at 256) [
                    | yes u ↦ absurd (omega (arith, h, many ∙ ap (λ (y : Bool). pages_for (length v) + (if y then 1 else 2)) (lt-ltb at 256 u), low, ne, ek))
                    | no u ↦ (omega arith, omega (arith, h, many ∙ ap (λ (y : Bool). pages_for (length v) + (if y then 1 else 2)) (le-ltb at 256 (omega arith)), low, ne, ek))
                  ]

-- ---- past all lines

-- no line stopped the store, and the entry is to be at that byte
pub record Passed (b path date v : Bytes) (j : ℕ) (buffer : Bytes) (at begins k : ℕ) : Type 0 where
  pub paged : length buffer ≡ 256
  pub placed : granted (at, padded (take (length path - begins) (drop begins path))) ≡ opening b path date
  pub enough : pages_for (length v) ≤ free_count b
  pub pages : k ≡ pages_for (length v)
  pub number : j < k + (if ltb at 256 then 1 else 2)

module _ {b path date v : Bytes} {j : ℕ} {buffer : Bytes} {at begins k : ℕ} (p : Passed b path date v j buffer at begins k) where
  pub can_store : Storing b (length v)
  can_store = storing b path date p.placed v p.enough

  pub header_fits : (256 ≤ length b) × (page_count b ≤ 256) × (k ≤ free_count b)
  header_fits = (omega (arith, can_store.whole, can_store.low), can_store.high, omega (arith, p.pages, p.enough))

  pub date_long : length date ≡ 8
  date_long = dated b path date p.placed v p.enough

  pub in_root : at < 256 → at + 32 ≤ 256
  in_root u = omega (arith, u, on_page b path date p.placed v p.enough)

  pub on_parent : (256 * (at / 256) + 256 ≤ length b) × (at + 32 ≤ 256 * (at / 256) + 256)
  on_parent = (in_image b path date p.placed v p.enough, on_page b path date p.placed v p.enough)

  abbrev Done : ℕ → Bytes → Type 0
  Done page z = (granted page ≡ answer (store path date v j buffer) b) × (z ≡ buffer_after (store path date v j buffer) b)

  pub content_stored : j < k → {page : ℕ} {z : Bytes} → page ≡ page_after (page_count b) j (part 0 256 b)
      → z ≡ content_page (link_after (page_count b) (pages_for (length v)) j (part 0 256 b)) v j → Done page z
  content_stored u {page} {z} = content_done b path date v j buffer p.paged p.placed p.enough _ k p.pages refl p.number u page z

  module _ {text : Bytes} (same : text ≡ padded (take (length path - begins) (drop begins path))) where
    pub name_long : length text ≡ 16
    name_long = ap length same ∙ named b path date p.placed v p.enough

    module _ {w : Bytes} (is : w ≡ started_entry text date (length v) (On.lowest_free version1 (page_count b) b)) where
      pub entry_long : length w ≡ 32
      entry_long = ap length is ∙ entry_length text date (length v) _ name_long date_long

      pub header_stored : j ≡ k → {z : Bytes} → z ≡ (if ltb at 256 then put at w (claimed (page_count b) k (part 0 256 b)) else claimed (page_count b) k (part 0 256 b)) → Done 0 z
      header_stored u {z} = header_done b path date v j buffer p.paged p.placed p.enough _ k p.pages refl p.number text w same is u z

      pub parent_stored : k ≤ j → j ≢ k → {page : ℕ} {z : Bytes} → page ≡ at / 256 → z ≡ put (at - 256 * (at / 256)) w (part (256 * (at / 256)) 256 b) → Done page z
      parent_stored low ne {page} {z} = parent_done b path date v j buffer p.paged p.placed p.enough _ k p.pages refl p.number text w same is low ne page z
