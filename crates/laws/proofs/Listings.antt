-- The listing of input that is no image: one line with the number, since the verdict gives nothing else.
use mathlib.Core.Path.{◌≡◌, ap}
use Prim.Native.Nat.{◌<◌}
use native.Mathlib.Omega.{arith}
use mathlib.Core.Bool.{not}
use lib.ListN.{length}
use lib.Dec.{T, not_T}
use Rattle.volume.specs.Bytes.{Bytes}
use Rattle.model.specs.Layout.{valid_length}
use Rattle.model.specs.Image.{tree_of}
use Rattle.model.specs.Text.{text}
use Rattle.model.specs.Call.{verdict, Verdict, refusal, Answer, refused}
use Rattle.model.specs.Meaning.{answer}
use Rattle.model.specs.Listing.{digits, listing_of, listing}
use Rattle.model.specs.MeaningOf
use Rattle.laws.proofs.Facts.{valid_sized}
use Rattle.laws.proofs.Lines.{settle_holds}

length_refused : (b : Bytes) → T (not (valid_length (length b))) → answer verdict b ≡ refused (refusal 1)
unfolding MeaningOf.answer MeaningOf.lines
length_refused b h = settle_holds refused (not (valid_length (length b))) (refusal 1) _ _ h

pub no_image_listed : (b : Bytes) → T (not (valid_length (length b))) → listing b ≡ text "refused 1\n"
unfolding listing listing_of digits text
no_image_listed b h = ap (λ (a : Answer Verdict). listing_of a (tree_of b)) (length_refused b h)

-- Input over 65,536 bytes counts as 1, whatever it holds.
pub long_listed : (b : Bytes) → 65536 < length b → listing b ≡ text "refused 1\n"
long_listed b h = no_image_listed b (not_T (valid_length (length b)) (λ v. let s = valid_sized b v in omega (arith, s.high, s.whole)))
