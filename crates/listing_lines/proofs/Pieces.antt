-- The pieces of a line are poured in order, each behind the text of those before.
use mathlib.Core.Path.{◌≡◌}
use Prim.Native.Nat.{ℕ}
use mathlib.Core.List.{[], ◌∷◌, ◌++◌}
use Rattle.volume.specs.Bytes.{Bytes}
use Rattle.model.specs.Text.{text}
use Rattle.model.specs.Listing.{decimal, newline, line}
use Rattle.listing_lines.specs.Window.{Window, poured}
use Rattle.listing_lines.proofs.Windows.{poured_next}

module _ (w : Window) {w₁ w₂ w₃ w₄ w₅ : Window} where
  pub counts_poured : (pages free : ℕ) → w₁ ≡ poured (text "pages ") w → w₂ ≡ poured (decimal pages) w₁ → w₃ ≡ poured (text " free ") w₂
      → w₄ ≡ poured (decimal free) w₃ → w₅ ≡ poured newline w₄ → w₅ ≡ poured (text "pages " ++ decimal pages ++ text " free " ++ decimal free ++ newline) w
  counts_poured pages free a b c d e =
      poured_next (text "pages " ++ decimal pages ++ text " free " ++ decimal free) newline w
      (poured_next (text "pages " ++ decimal pages ++ text " free ") (decimal free) w
      (poured_next (text "pages " ++ decimal pages) (text " free ") w (poured_next (text "pages ") (decimal pages) w a b) c) d) e

  pub line_poured : (kind size : ℕ) (path : Bytes) → w₁ ≡ poured (kind ∷ []) w → w₂ ≡ poured (text " ") w₁ → w₃ ≡ poured (decimal size) w₂
      → w₄ ≡ poured (text " ") w₃ → w₅ ≡ poured path w₄ → {w₆ : Window} → w₆ ≡ poured newline w₅ → w₆ ≡ poured (line (kind ∷ []) size path) w
  unfolding line
  line_poured kind size path a b c d e f =
      let k : Bytes = kind ∷ [] in
      let s : Bytes = decimal size in
      poured_next (k ++ text " " ++ s ++ text " " ++ path) newline w
      (poured_next (k ++ text " " ++ s ++ text " ") path w
      (poured_next (k ++ text " " ++ s) (text " ") w (poured_next (k ++ text " ") s w (poured_next k (text " ") w a b) c) d) e) f
