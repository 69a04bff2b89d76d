-- Format has two lines, 1 and 26, which ask the length and the page code that it is handed and no byte of the image; past them they are allowed.
use mathlib.Core.Path.{◌≡◌, sym, subst, ◌∙◌}
use mathlib.Core.Bool.{true, false}
use Prim.Native.Nat.{ℕ}
use lib.ListN.{length}
use lib.Dec.{T}
use Rattle.volume.specs.Bytes.{Bytes}
use Rattle.model.specs.Call.{format_as, refusal, refused, granted}
use Rattle.model.specs.RefusalOf.{settle}
use Rattle.model.specs.MeaningOf.{told, is_format, lines, effect, answer, after}
use Rattle.model2.specs.Layout.{valid_length, fit_code}
use Rattle.model2.specs.Format.{formatted}
use Rattle.model2.specs.Calls.{v2}
use Rattle.laws2.proofs.Bounds.{Allowed}

module _ (b : Bytes) (code : ℕ) where
  pub format_long : valid_length (length b) ≡ false → (refused (refusal 1) ≡ answer v2 (format_as code) b) × (b ≡ after v2 (format_as code) b)
  unfolding answer after lines is_format settle
  format_long h = (rw h, rw h)

  module _ (l : valid_length (length b) ≡ true) where
    pub format_unfit : fit_code code (length b) ≡ false → (refused (refusal 26) ≡ answer v2 (format_as code) b) × (b ≡ after v2 (format_as code) b)
    unfolding answer after lines is_format settle
    format_unfit h = (rw (l, h), rw (l, h))

    module _ (h : fit_code code (length b) ≡ true) where
      pub format_allowed : Allowed code (length b)
      format_allowed = record { length = subst T (sym l) tt; fit = subst T (sym h) tt }

      pub format_done : {done : Bytes} → done ≡ formatted code b → (granted tt ≡ answer v2 (format_as code) b) × (done ≡ after v2 (format_as code) b)
      unfolding answer after lines is_format settle told effect
      format_done d = (rw (l, h), d ∙ rw (l, h))
