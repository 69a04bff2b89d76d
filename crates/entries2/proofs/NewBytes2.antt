-- The bytes of a new entry of version 2 are put one behind the other into 32 zeros, so what lies between them and behind them is 0.
use mathlib.Core.Path.{◌≡◌, refl, sym, ap, ◌∙◌}
use Prim.Native.Nat.{ℕ}
use native.Mathlib.Omega.{arith}
use mathlib.Core.List.{[], ◌∷◌, ◌++◌, append_assoc}
use lib.ListN.{length, set, drop, replicate, length-append}
use Rattle.volume.specs.Bytes.{Bytes, put, zeros, le16}
use Rattle.model2.specs.Entry.{size_bytes, new_entry}
use Rattle.entry_bytes.proofs.Puts.{put_behind}

module _ (fl : ℕ) (name : Bytes) (size : ℕ) (date : Bytes) (ln : length name ≡ 16) (ld : length date ≡ 8) where
  named : put 1 name (set (replicate 32 0) 0 fl) ≡ (fl ∷ (name ++ le16 0)) ++ replicate 13 0
  named =
      put_behind 1 (fl ∷ []) name (replicate 31 0) refl ∙ ap (λ (n : ℕ). fl ∷ (name ++ drop n (replicate 31 0))) ln
      ∙ ap {B = Bytes} (λ l. fl ∷ l) (sym (append_assoc name (le16 0) (replicate 13 0)))

  sized : put 19 (size_bytes size) ((fl ∷ (name ++ le16 0)) ++ replicate 13 0) ≡ ((fl ∷ (name ++ le16 0)) ++ size_bytes size) ++ replicate 9 0
  sized =
      put_behind 19 (fl ∷ (name ++ le16 0)) (size_bytes size) (replicate 13 0) (omega (arith, length-append name (le16 0)))
      ∙ sym (append_assoc (fl ∷ (name ++ le16 0)) (size_bytes size) (replicate 9 0))

  dated : put 23 date (((fl ∷ (name ++ le16 0)) ++ size_bytes size) ++ replicate 9 0) ≡ new_entry fl name size date
  unfolding new_entry
  dated =
      put_behind 23 ((fl ∷ (name ++ le16 0)) ++ size_bytes size) date (replicate 9 0)
      (omega (arith, length-append name (le16 0), length-append (fl ∷ (name ++ le16 0)) (size_bytes size)))
      ∙ ap (λ (n : ℕ). ((fl ∷ (name ++ le16 0)) ++ size_bytes size) ++ (date ++ drop n (replicate 9 0))) ld
      ∙ simp append_assoc

  -- into a part of 32 bytes that was zeroed: p it was, and p₀ it came back as
  pub filled_bytes : (p : Bytes) {p₀ a w b r : Bytes} → length p ≡ 32 → p₀ ≡ zeros (length p) → a ≡ put 1 name (set p₀ 0 fl) → w ≡ size_bytes size
      → b ≡ put 19 w a → r ≡ put 23 date b
      → r ≡ new_entry fl name size date
  unfolding zeros
  filled_bytes p {p₀} {a} {w} {b} long e₀ ea ew eb er =
      let first : a ≡ (fl ∷ (name ++ le16 0)) ++ replicate 13 0 =
      ea ∙ ap (λ (x : Bytes). put 1 name (set x 0 fl)) (e₀ ∙ ap (λ (n : ℕ). replicate n 0) long) ∙ named in
      er ∙ ap (λ (x : Bytes). put 23 date x) (eb ∙ ap (λ (x : Bytes). put 19 x a) ew ∙ ap (λ (x : Bytes). put 19 (size_bytes size) x) first ∙ sized) ∙ dated
