-- The tests of a sound image of version 2 as facts, and back: lines 1, 2 and 26 are passed, and the facts of its view hold. An image that keeps its length
-- and the header's fields passes these lines again, so only the facts of its view are asked after a change.
use mathlib.Core.Path.{◌≡◌, sym, ap, ap₂, ◌∙◌, subst}
use Prim.Native.Nat.{ℕ, ◌≤◌, ◌<◌}
use native.Mathlib.Omega.{arith}
use lib.ListN.{length}
use lib.Dec.{T}
use Rattle.volume.specs.Bytes.{Bytes, byte_at}
use Rattle.volume.proofs.Tests.{conditions_cons, cons_conditions}
use Rattle.volume.proofs.Lawful.{Kept}
use Rattle.model.specs.View.{View}
use Rattle.model.specs.Sound.{sound_by}
use Rattle.model.specs.Tree.{Row, Tree}
use Rattle.model.specs.Image.{row_at, tree_in}
use Rattle.model.specs.MeaningOf.{sound, tree_of}
use Rattle.view_laws.proofs.Facts.{Facts, to_facts, from_facts}
use Rattle.view_laws.proofs.Shelf.{seen}
use Rattle.model2.specs.Layout.{page_count, geometry2, code_in, valid_length, fit_code, is_version2, fit_header}
use Rattle.model2.specs.Version2.{view_by, view2}
use Rattle.model2.specs.Calls.{v2}
use Rattle.laws2.proofs.Bounds.{Allowed}
use Rattle.laws2.proofs.Version2.{shelf2, head_kept}

-- what line 26 asks of the page code
pub header_fits : (b : Bytes) → T (fit_header b) → T (fit_code (code_in b) (length b))
unfolding fit_header
header_fits b h = (conditions_cons (fit_code (code_in b) (length b)) _ h).0

pub record Sound2 (b : Bytes) : Type 0 where
  pub allowed : Allowed (code_in b) (length b)
  pub version : T (is_version2 b)
  pub headed : T (fit_header b)
  pub facts : Facts (view2 b)

pub sound_facts_lem : {b : Bytes} → T (sound v2 b) → Sound2 b
unfolding sound_by
sound_facts_lem {b} h =
    let t1 = conditions_cons (valid_length (length b)) _ h in
    let t2 = conditions_cons (is_version2 b) _ t1.1 in
    let t3 = conditions_cons (fit_header b) _ t2.1 in
    record { allowed = record { length = t1.0; fit = header_fits b t3.0 }; version = t2.0; headed = t3.0; facts = to_facts t3.1 }

pub facts_sound : {b : Bytes} → Sound2 b → T (sound v2 b)
unfolding sound_by
facts_sound s = cons_conditions _ _ s.allowed.length (cons_conditions _ _ s.version (cons_conditions _ _ s.headed (from_facts s.facts)))

-- an image known to have a length and a page code is sound, and means a tree, by its view with these
pub sound_on : {code n : ℕ} (b : Bytes) → code_in b ≡ code → length b ≡ n → Allowed code n → T (is_version2 b) → T (fit_header b) → {r : Row}
    → Facts (view_by code n b) × (row_at (page_count code n) (view_by code n b) 0 ≡ r)
    → T (sound v2 b) × (tree_of v2 b ≡ record { pages = page_count code n; code = code; root = r })
unfolding tree_in
sound_on {code} {n} b c len a version headed {r} h =
    let e : view2 b ≡ view_by code n b = ap₂ (λ (k m : ℕ). view_by k m b) c len in (
      facts_sound (record {
        allowed = subst (λ (k : ℕ). Allowed k (length b)) (sym c) (subst (λ (m : ℕ). Allowed code m) (sym len) a);
        version = version;
        headed = headed;
        facts = subst Facts (sym e) h.0;
      }),
      ap₂ {C = Tree} (λ (k : ℕ) (v : View). tree_in k v) c e ∙ ap (λ (x : Row). record { pages = page_count code n; code = code; root = x }) h.1,
    )

-- ---- an image changed

module _ (b b' : Bytes) (len : length b' ≡ length b) (allowed : Allowed (code_in b) (length b))
    (head : (i : ℕ) → i < 7 → Kept (geometry2 (code_in b) (length b)) (page_count (code_in b) (length b)) i → byte_at b' i ≡ byte_at b i) where
  byte_same : (i : ℕ) → i < 7 → (4 ≤ i → 6 ≤ i) → byte_at b' i ≡ byte_at b i
  byte_same i l h = head i l (head_kept allowed i l h)

  pub code_same : code_in b' ≡ code_in b
  code_same = byte_same 6 (omega arith) (λ l. omega arith)

  version_same : T (is_version2 b) → T (is_version2 b')
  unfolding is_version2
  version_same h = rw (byte_same 0 (omega arith) (λ l. omega arith), byte_same 1 (omega arith) (λ l. omega arith)) h

  header_same : T (fit_header b) → T (fit_header b')
  unfolding fit_header
  header_same h = rw (code_same, len, byte_same 2 (omega arith) (λ l. omega arith), byte_same 3 (omega arith) (λ l. omega arith)) h

-- what is true afterwards of the image on the shelf is true of it as version 2's
pub afterwards2 : {b b' : Bytes} → Sound2 b → length b' ≡ length b
    → ((i : ℕ) → i < 7 → Kept (geometry2 (code_in b) (length b)) (page_count (code_in b) (length b)) i → byte_at b' i ≡ byte_at b i) → {r : Row}
    → Facts (seen (shelf2 (code_in b) (length b)) b') × (row_at (page_count (code_in b) (length b)) (seen (shelf2 (code_in b) (length b)) b') 0 ≡ r)
    → T (sound v2 b') × (tree_of v2 b' ≡ record { pages = page_count (code_in b) (length b); code = code_in b; root = r })
afterwards2 {b} {b'} s len head h =
    let a = s.allowed in
    sound_on b' (code_same b b' len a head) len a (version_same b b' len a head s.version) (header_same b b' len a head s.headed) h
