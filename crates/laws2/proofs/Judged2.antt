-- The judge decides soundness in version 2: a directory whose pages can have their owners ends, so what the judge asks of a view is all that is asked after
-- lines 1, 2 and 26.
use mathlib.Core.Path.{◌≡◌, refl, sym, ◌∙◌}
use Prim.Native.Nat.{ℕ}
use mathlib.Core.Bool.{Bool, true, false}
use mathlib.Core.List.{List, ◌∷◌}
use lib.ListN.{length}
use lib.Dec.{T}
use Rattle.volume.specs.Bytes.{Bytes}
use Rattle.volume.specs.Lists.{all, conditions}
use Rattle.volume.proofs.Tests.{not_not}
use Rattle.model.specs.Sound.{sound_by}
use Rattle.model.specs.Judge.{is_clean, judge_view}
use Rattle.model.specs.RefusalOf.{Passes}
use Rattle.model.specs.MeaningOf.{sound, length_line, header_lines}
use Rattle.view_laws.proofs.Judged.{Judging, judge_sound}
use Rattle.version_laws.proofs.Lines.{passed}
use Rattle.model2.specs.Layout.{code_in, valid_length, is_version2, fit_header}
use Rattle.model2.specs.Version2.{view_by, view2}
use Rattle.model2.specs.Calls.{v2}
use Rattle.laws2.proofs.Bounds.{Allowed}
use Rattle.laws2.proofs.Version2.{tabled, shelved2, directories_end}
use Rattle.laws2.proofs.Facts2.{header_fits}

-- what the judge's laws ask of a view
pub judging2 : {code n : ℕ} → Allowed code n → (b : Bytes) → Judging (view_by code n b)
judging2 a b = record { regular = (shelved2 a).regular b; ending = directories_end a b; rooted = (shelved2 a).rooted b; low = (tabled a).one }

-- lines 1, 2 and 26 passed
pub record Headed2 (b : Bytes) : Type 0 where
  pub allowed : Allowed (code_in b) (length b)
  pub version : T (is_version2 b)
  pub headed : T (fit_header b)

pub header_passed : (b : Bytes) → Passes (length_line v2 b ∷ header_lines v2 b) → Headed2 b
header_passed b e =
    let p = passed _ _ e in
    let q = passed _ _ p.1 in
    let h = not_not (fit_header b) (passed _ _ q.1).0 in
    record { allowed = record { length = not_not (valid_length (length b)) p.0; fit = header_fits b h }; version = not_not (is_version2 b) q.0; headed = h }

-- a test that is passed need not be asked
skip : (c : Bool) (cs : List Bool) → T c → conditions (c ∷ cs) ≡ conditions cs
unfolding all
skip true cs h = refl
skip false cs h = absurd h

pub judged2 : (b : Bytes) → Passes (length_line v2 b ∷ header_lines v2 b) → is_clean (judge_view (view2 b)) ≡ sound v2 b
unfolding sound_by
judged2 b e =
    let p = header_passed b e in
    judge_sound (judging2 p.allowed b)
    ∙ sym (skip (valid_length (length b)) _ p.allowed.length ∙ skip (is_version2 b) _ p.version ∙ skip (fit_header b) _ p.headed)
