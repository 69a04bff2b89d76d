-- The makes: behind the lines that find the vacant entry stands that of the free pages, and past it the entry can be put and its chain grown.
use mathlib.Core.Path.{◌≡◌, refl, sym, ap, ◌∙◌, subst}
use Prim.Native.Nat.{ℕ, ◌+◌, ◌-◌, ◌≤◌, ◌<◌}
use native.Mathlib.Omega.{arith}
use mathlib.Core.Bool.{true, false}
use mathlib.Core.Option.{Option, none, some, get_or}
use mathlib.Core.List.{List, [], ◌∷◌, ◌++◌}
use lib.ListN.{length, take, drop, length-take}
use lib.Dec.{T, ltb}
use borrow.Author.Tests.{lt-ltb, le-ltb}
use Rattle.volume.specs.Bytes.{Bytes, put}
use Rattle.volume.specs.Field.{byte}
use Rattle.volume.specs.Geometry as On
use Rattle.model.specs.Layout.{version1, page_count, pages_for, free_count}
use Rattle.model.specs.Entry.{new_entry}
use Rattle.model.specs.Sound.{sound}
use Rattle.model.specs.Tree.{free_number}
use Rattle.model.specs.Path.{Path, path_of, last_name}
use Rattle.model.specs.Image.{tree_of}
use Rattle.model.specs.Walk.{Walked, arrived_or, parent_page}
use Rattle.model.specs.Effect.{lowest_vacant, made}
use Rattle.model.specs.Call.{make_file, make_directory, Refusal, refusal, Answer, refused, granted}
use Rattle.model.specs.Refusal.{Line, make_lines, settle, Passes}
use Rattle.model.specs.Meaning.{image_lines, is_format, answer, after}
use Rattle.model.specs.EffectOf
use Rattle.model.specs.MeaningOf
use Rattle.model.specs.RefusalOf
use Rattle.laws.proofs.Facts.{Facts, sound_facts_lem}
use Rattle.laws.proofs.Counting.{free_number_lem}
use Rattle.laws.proofs.Slots.{size}
use Rattle.laws.proofs.Lines.{settle_append}
use Rattle.laws.proofs.Passed.{image_passed, Makes, make_passed}
use Rattle.laws.proofs.Make.{place_of}
use Rattle.arrivals.proofs.Settled.{opened, settle_opened, settle_granted}
use Rattle.changes.specs.Asked.{Making}
use Rattle.changes.proofs.Makes.{place_making}
use Rattle.openings.specs.Openings.{Place, found, opening}
use Rattle.makes.specs.Makes.{make_settled, make_answer, make_after}

-- ---- the calls

module _ (b path date : Bytes) where
  pub file_answer : make_answer b path date (pages_for 0) ≡ answer (make_file path date) b
  unfolding make_settled MeaningOf.answer MeaningOf.lines is_format RefusalOf.refusals RefusalOf.earlier RefusalOf.later RefusalOf.wanted MeaningOf.told RefusalOf.make_lines
  file_answer = refl

  pub file_after : make_after 0x80 0 (pages_for 0) b path date ≡ after (make_file path date) b
  unfolding make_settled MeaningOf.after MeaningOf.lines is_format RefusalOf.refusals RefusalOf.earlier RefusalOf.later RefusalOf.wanted MeaningOf.effect RefusalOf.make_lines
  file_after = refl

  pub directory_answer : make_answer b path date 1 ≡ answer (make_directory path date) b
  unfolding make_settled MeaningOf.answer MeaningOf.lines is_format RefusalOf.refusals RefusalOf.earlier RefusalOf.later RefusalOf.wanted MeaningOf.told RefusalOf.make_lines
  directory_answer = refl

  pub directory_after : make_after 0x81 0x0100 1 b path date ≡ after (make_directory path date) b
  unfolding make_settled MeaningOf.after MeaningOf.lines is_format RefusalOf.refusals RefusalOf.earlier RefusalOf.later RefusalOf.wanted MeaningOf.effect RefusalOf.make_lines
  directory_after = refl

-- ---- a make

-- the name that ends with the path fits an entry
pub name_fits : (path : Bytes) (begins : ℕ) → length path - begins ≤ 16 → length (take (length path - begins) (drop begins path)) ≤ 16
name_fits path begins short = simp length-take (omega (arith, short))

module _ (b path date : Bytes) (k : ℕ) where
  abbrev space : Line
  space = (ltb (free_number (tree_of b)) k, refusal 10)

  abbrev first : List Line
  first = image_lines b ++ make_lines path date (tree_of b)

  make_placed : {A : Type 0} (f : Refusal → A) (x : A) → make_settled b path date k f x ≡ opened f (λ (p : Place). settle (space ∷ []) f x) (opening b path date)
  unfolding make_settled opening
  make_placed f x = settle_append f first (space ∷ []) x ∙ sym (settle_opened f (λ (p : Place). settle (space ∷ []) f x) first (granted (found b path)))

  -- a refusal leaves the image as it is
  abbrev Refuses : (flags z : ℕ) → Refusal → Type 0
  Refuses flags z m = (refused m ≡ make_answer b path date k) × (b ≡ make_after flags z k b path date)

  at_place : {A : Type 0} (f : Refusal → A) (x : A) {a : Answer Place} → a ≡ opening b path date → opened f (λ (p : Place). settle (space ∷ []) f x) a ≡ make_settled b path date k f x
  at_place f x e = ap (opened f (λ (p : Place). settle (space ∷ []) f x)) e ∙ sym (make_placed f x)

  pub make_refused : (flags z : ℕ) {m : Refusal} → refused m ≡ opening b path date → Refuses flags z m
  make_refused flags z e = (at_place refused (granted (tt {0})) e, at_place (λ m. b) (made flags z k (path_of path) date b) e)

  module _ {at : ℕ} {name : Bytes} (e : granted (at, name) ≡ opening b path date) where
    granted_lines : Passes first × (◌≡◌ {A = Answer Place} (granted (at, name)) (granted (found b path)))
    unfolding opening
    granted_lines = settle_granted first (granted (found b path)) (at, name) e

    is_found : ◌≡◌ {A = Place} (at, name) (found b path)
    is_found = cc granted_lines.1

    behind : T (sound b) × Passes (make_lines path date (tree_of b))
    behind = image_passed b (make_lines path date (tree_of b)) granted_lines.0

    facts : Facts b
    facts = sound_facts_lem behind.0

    pub long : 4 ≤ length b
    long = omega (arith, (size facts).low, (size facts).whole)

    pub make_lacking : (flags z : ℕ) → free_count b < k → Refuses flags z (refusal 10)
    unfolding settle
    make_lacking flags z l =
        let t : ltb (free_number (tree_of b)) k ≡ true = rw (free_number_lem facts) (lt-ltb (free_count b) k l) in
        (rw t at (at_place refused (granted (tt {0})) e), rw t at (at_place (λ m. b) (made flags z k (path_of path) date b) e))

    module _ (l : k ≤ free_count b) where
      free : ltb (free_number (tree_of b)) k ≡ false
      free = rw (free_number_lem facts) (le-ltb (free_count b) k l)

      makes : Makes b path date k
      unfolding settle
      makes = make_passed facts (refusal 10) (settle_append some (make_lines path date (tree_of b)) (space ∷ []) none ∙ rw free behind.1)

      -- the name as the code has it
      pub can_make : (flags z : ℕ) → z < 65536 → {text : Bytes} → text ≡ name → Making at flags z k text date b
      unfolding EffectOf.lowest_vacant arrived_or
      can_make flags z s {text} same =
          let m = makes in
          let w = place_of facts m.clear in
          let here : at ≡ w.at = ap (λ (p : Place). p.0) is_found ∙ ap (λ (p : Path). lowest_vacant b (parent_page b p)) m.is ∙ ap (λ (v : Walked ℕ). lowest_vacant b (arrived_or 0 v)) w.above.page
          ∙ ap (λ (o : Option ℕ). get_or o 0) w.found in
          let named = same ∙ ap (λ (p : Place). p.1) is_found ∙ ap last_name m.is in
          subst (λ (i : ℕ). Making i flags z k text date b) (sym here) (subst (λ (v : Bytes). Making w.at flags z k v date b) (sym named) (place_making b facts m.ns m.n.bytes date k w flags z s))

      pub make_done : (flags z : ℕ) {text : Bytes} → text ≡ name → {b' : Bytes} → b' ≡ On.grown version1 (page_count b) k (byte (at + 17)) (put at (new_entry flags text 0 z date) b)
          → (granted (tt {0}) ≡ make_answer b path date k) × (b' ≡ make_after flags z k b path date)
      unfolding settle EffectOf.made
      make_done flags z {text} same is = (
        rw free at (at_place refused (granted (tt {0})) e),
        is ∙ ap (λ (v : Bytes). On.grown version1 (page_count b) k (byte (at + 17)) (put at (new_entry flags v 0 z date) b)) same
            ∙ ap (λ (p : Place). On.grown version1 (page_count b) k (byte (p.0 + 17)) (put p.0 (new_entry flags p.1 0 z date) b)) is_found
            ∙ (rw free at (at_place (λ m. b) (made flags z k (path_of path) date b) e)),
      )
