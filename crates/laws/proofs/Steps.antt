-- One call of version 1: the laws of `version_laws`, which say of any version that on a sound image a call answers and changes as the plain tree does, and
-- that on any image a refusal has a number of that call and changes nothing; and what is said of version 1 alone.
use mathlib.Core.Path.{◌≡◌, refl, sym, subst}
use mathlib.Core.Logic.{◌↔◌, ◌≢◌}
use Prim.Native.Nat.{ℕ, ◌<◌}
use mathlib.Core.Bool.{Bool, true, false, not}
use mathlib.Core.Option.{some, none, some-ne-none}
use mathlib.Core.List.{List, [], ◌∷◌, ◌++◌}
use lib.ListN.{length}
use lib.Dec.{T, eqb}
use Rattle.volume.specs.Bytes.{Bytes, same}
use Rattle.std.specs.Prelude.{if◌then◌else◌}
use Rattle.volume.proofs.Tests.{not_not_of, same_true}
use Rattle.model.specs.Layout.{page_size, page_count, valid_length, valid_header}
use Rattle.model.specs.Sound.{sound}
use Rattle.model.specs.Tree.{Tree, free_number}
use Rattle.model.specs.Image.{tree_of}
use Rattle.model.specs.Call.{Call, format, store, Refusal, refusal, Answer, refused, granted}
use Rattle.model.specs.Version.{v1}
use Rattle.model.specs.Refusal.{Line, wanted, earlier, refusals, settle, Passes, buffer_lines, table_of}
use Rattle.model.specs.Meaning.{fresh_tree, tree_answer, image_lines, is_format, lines, effect, answer, after, numbers}
use Rattle.model.specs.Demands.{Untouched, Unsound, by_length, by_header, by_fault, AsTree}
use Rattle.model.specs.MeaningOf
use Rattle.model.specs.DemandsOf as Of
use Rattle.version_laws.proofs.Steps as Any
use Rattle.laws.proofs.Format.{fresh}
use Rattle.laws.proofs.Lines.{settle_skip, settle_holds, InOrder}
use Rattle.laws.proofs.Numbers.{own_numbers_lem}
use Rattle.laws.proofs.Owed.{header_passed, owed}
pub use Rattle.laws.proofs.Numbers.{OwnNumbers}

module _ {A : Type 0} (b : Bytes) (h : T (sound b)) (f : Refusal → A) (x : A) where
  -- on a sound image only the plain tree's lines count
  pub image_skip : (ls : List Line) → settle (image_lines b ++ ls) f x ≡ settle ls f x
  image_skip ls = Any.image_skip owed b h f x ls

  pub settled : (c : Call) → settle (lines c b) f x ≡ settle (refusals c (tree_of b)) f x
  settled c = Any.settled owed b h f x c

pub as_tree_lem : (c : Call) (b : Bytes) → T (sound b) → AsTree c b
as_tree_lem c b h = Any.as_tree_lem owed c b h

-- each call's numbers stand in the order of its table
pub in_order : (c : Call) → InOrder (table_of c) (numbers c)
in_order c = (own_numbers_lem c).ordered

pub untouched : (c : Call) (b : Bytes) (f : Refusal) → answer c b ≡ refused f → Untouched c b f
untouched = Any.untouched owed

pub want_of_pages_lem : (c : Call) (t : Tree) → (tree_answer c t ≡ refused (refusal 10)) ↔ (Passes (earlier c t) × (free_number t < wanted c t))
want_of_pages_lem c t = Any.want_of_pages_lem owed c t

-- an image that is not sound gets 1, 2 or its first fault from every call but format, if a store's buffer is a page
pub unsound : (c : Call) (b : Bytes) → T (not (is_format c)) → Passes (buffer_lines c) → T (not (sound b)) → Unsound c b
unfolding settle
unsound c b n lent u = go (Any.unsound owed c b n lent u)
  where
    by : (l d : Bool) → valid_length (length b) ≡ l → valid_header b ≡ d → (f : Refusal) → settle ((not l, refusal 1) ∷ (not d, refusal 2) ∷ []) some none ≡ some f
        → answer c b ≡ refused f → Unsound c b
    by false d v k f e a = by_length (rw v tt) (subst (λ (r : Refusal). answer c b ≡ refused r) (sym (cc e)) a)
    by true false v k f e a = by_header (subst T (sym v) tt) (rw k tt) (subst (λ (r : Refusal). answer c b ≡ refused r) (sym (cc e)) a)
    by true true v k f e a = absurd (some-ne-none f (sym e))

    go : Of.Refuses v1 c b → Unsound c b
    go (Of.by_header f e a) = by (valid_length (length b)) (valid_header b) refl refl f e a
    go (Of.by_fault p f j a) = let r = header_passed b p in by_fault r.0 r.1 f j a

-- a store whose buffer isn't a page
pub buffer_refused : (path date v : Bytes) (k : ℕ) (buffer b : Bytes) → T (not (eqb (length buffer) page_size)) → answer (store path date v k buffer) b ≡ refused (refusal 29)
unfolding MeaningOf.answer MeaningOf.lines
buffer_refused path date v k buffer b h = settle_holds refused (not (eqb (length buffer) page_size)) (refusal 29) _ _ h

-- ---- format, and names

pub format_answers : (b : Bytes) → answer format b ≡ (if valid_length (length b) then granted tt else refused (refusal 1))
unfolding MeaningOf.answer MeaningOf.lines is_format settle MeaningOf.told
format_answers b = go (valid_length (length b))
  where
    go : (c : Bool) → ◌≡◌ {A = Answer (Unit {0})} (if not c then refused (refusal 1) else granted tt) (if c then granted tt else refused (refusal 1))
    go true = refl
    go false = refl

-- the call format on an image of an allowed length
pub after_format : (b : Bytes) → T (valid_length (length b)) → T (sound (after format b)) × (tree_of (after format b) ≡ fresh_tree (page_count b))
unfolding MeaningOf.after MeaningOf.lines is_format settle MeaningOf.effect
after_format b v =
    subst (λ (b' : Bytes). T (sound b') × (tree_of b' ≡ fresh_tree (page_count b)))
    (sym (settle_skip (λ f. b) (not (valid_length (length b))) (refusal 1) [] (effect format b) (not_not_of (valid_length (length b)) v))) (fresh b v)

pub names_apart : (n m : Bytes) → n ≢ m → same n m ≡ false
names_apart n m h = go (same n m) (same_true n m)
  where
    go : (c : Bool) → (T c → n ≡ m) → c ≡ false
    go true e = absurd (h (e tt))
    go false e = refl
