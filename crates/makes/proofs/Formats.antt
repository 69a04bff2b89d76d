-- Format: page 0 zeroed and then its first five bytes put is the header page, and the call's one line is the length's.
use mathlib.Core.Path.{◌≡◌, refl, sym, ap, subst, ◌∙◌}
use mathlib.Core.Bool.{true, false}
use mathlib.Core.List.{[], ◌∷◌}
use Prim.Native.Nat.{ℕ, ◌-◌, ◌/◌, ◌%◌}
use native.Mathlib.Omega.{arith}
use lib.ListN.{length, replicate}
use lib.Dec.{T}
use Rattle.volume.specs.Bytes.{Bytes, put, zeros}
use Rattle.model.specs.Layout.{page_count, valid_length}
use Rattle.model.specs.Call.{format, refusal, refused, granted}
use Rattle.model.specs.Refusal.{settle}
use Rattle.model.specs.Effect.{formatted}
use Rattle.model.specs.Meaning.{is_format, answer, after}
use Rattle.model.specs.MeaningOf
use Rattle.laws.proofs.Facts.{Sized, valid_sized}

pub allowed : (b : Bytes) → valid_length (length b) ≡ true → Sized b
allowed b e = valid_sized b (subst T (sym e) tt)

pub format_refused : (b : Bytes) → valid_length (length b) ≡ false → (refused (refusal 1) ≡ answer format b) × (b ≡ after format b)
unfolding MeaningOf.answer MeaningOf.after MeaningOf.lines is_format settle
format_refused b h = (rw h, rw h)

header_page : (b : Bytes) (u v : ℕ) → put 0 (0x5A ∷ 1 ∷ u ∷ v ∷ 1 ∷ []) (put 0 (zeros 256) b) ≡ put 0 (0x5A ∷ 1 ∷ u ∷ v ∷ 1 ∷ replicate 251 0) b
unfolding zeros
header_page b u v = refl

pub format_done : (b zeroed done : Bytes) (n : ℕ) → valid_length (length b) ≡ true → n ≡ page_count b → zeroed ≡ put 0 (zeros 256) b
    → done ≡ put 0 (0x5A ∷ 1 ∷ n / 8 % 256 ∷ (n - 1) % 256 ∷ 1 ∷ []) zeroed → (granted tt ≡ answer format b) × (done ≡ after format b)
unfolding MeaningOf.answer MeaningOf.after MeaningOf.lines is_format settle MeaningOf.told MeaningOf.effect formatted
format_done b zeroed done n h e z d =
    let s = allowed b h in
    let x : n / 8 % 256 ≡ page_count b / 8 = omega (arith, s.high) in
    let y : (n - 1) % 256 ≡ page_count b - 1 = omega (arith, s.high) in
    (rw h, d ∙ ap {B = Bytes} (put 0 (0x5A ∷ 1 ∷ n / 8 % 256 ∷ (n - 1) % 256 ∷ 1 ∷ [])) z ∙ header_page b (n / 8 % 256) ((n - 1) % 256) ∙ rw (h, x, y))
