-- The bytes of a new entry are put one behind the other into 32 zeros, so what lies between them and behind them is 0.
use mathlib.Core.Path.{◌≡◌, refl, sym, ap, ◌∙◌}
use Prim.Native.Nat.{ℕ}
use native.Mathlib.Omega.{arith}
use mathlib.Core.List.{[], ◌∷◌, ◌++◌, append_assoc}
use lib.ListN.{length, set, drop, replicate, length-append}
use Rattle.volume.specs.Bytes.{Bytes, put, le16, zeros}
use Rattle.model.specs.Entry.{new_entry}
use Rattle.entry_bytes.proofs.Puts.{put_behind}

module _ (fl : ℕ) (name : Bytes) (size : ℕ) (date : Bytes) (ln : length name ≡ 16) (ld : length date ≡ 8) where
  named : put 1 name (set (replicate 32 0) 0 fl) ≡ (fl ∷ (name ++ (0 ∷ []))) ++ replicate 14 0
  named =
      put_behind 1 (fl ∷ []) name (replicate 31 0) refl ∙ ap (λ (n : ℕ). fl ∷ (name ++ drop n (replicate 31 0))) ln
      ∙ ap {B = Bytes} (λ l. fl ∷ l) (sym (append_assoc name (0 ∷ []) (replicate 14 0)))

  sized : put 18 (le16 size) ((fl ∷ (name ++ (0 ∷ []))) ++ replicate 14 0) ≡ ((fl ∷ (name ++ (0 ∷ []))) ++ le16 size) ++ replicate 12 0
  sized =
      put_behind 18 (fl ∷ (name ++ (0 ∷ []))) (le16 size) (replicate 14 0) (omega (arith, length-append name (0 ∷ [])))
      ∙ sym (append_assoc (fl ∷ (name ++ (0 ∷ []))) (le16 size) (replicate 12 0))

  dated : put 20 date (((fl ∷ (name ++ (0 ∷ []))) ++ le16 size) ++ replicate 12 0) ≡ new_entry fl name 0 size date
  unfolding new_entry
  dated =
      put_behind 20 ((fl ∷ (name ++ (0 ∷ []))) ++ le16 size) date (replicate 12 0)
      (omega (arith, length-append name (0 ∷ []), length-append (fl ∷ (name ++ (0 ∷ []))) (le16 size)))
      ∙ ap (λ (n : ℕ). ((fl ∷ (name ++ (0 ∷ []))) ++ le16 size) ++ (date ++ drop n (replicate 12 0))) ld
      ∙ simp append_assoc

  pub new_bytes : {a w b r : Bytes} → a ≡ put 1 name (set (replicate 32 0) 0 fl) → w ≡ le16 size → b ≡ put 18 w a → r ≡ put 20 date b → r ≡ new_entry fl name 0 size date
  new_bytes {a} ea ew eb er =
      er ∙ ap (λ (x : Bytes). put 20 date x) (eb ∙ ap (λ (x : Bytes). put 18 x a) ew ∙ ap (λ (x : Bytes). put 18 (le16 size) x) (ea ∙ named) ∙ sized) ∙ dated

  -- the same into a part of 32 bytes that was zeroed: p it was, and p₀ it came back as
  pub filled_bytes : (p : Bytes) {p₀ a w b r : Bytes} → length p ≡ 32 → p₀ ≡ zeros (length p) → a ≡ put 1 name (set p₀ 0 fl) → w ≡ le16 size → b ≡ put 18 w a → r ≡ put 20 date b
      → r ≡ new_entry fl name 0 size date
  unfolding zeros
  filled_bytes p long e₀ ea ew eb er = new_bytes (ea ∙ ap (λ (x : Bytes). put 1 name (set x 0 fl)) (e₀ ∙ ap (λ (n : ℕ). replicate n 0) long)) ew eb er
