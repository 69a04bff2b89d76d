-- The listing by the verdict: a granted one says that the image is sound, with its pages and its free number, and that its directories are readable.
use mathlib.Core.Path.{◌≡◌, refl, sym, ap, subst, ◌∙◌}
use Prim.Native.Nat.{ℕ, ◌+◌, ◌*◌, ◌≤◌, ◌<◌}
use native.Mathlib.Omega.{arith}
use mathlib.Core.Bool.{Bool, true, false, not}
use mathlib.Core.List.{[], ◌++◌}
use lib.Dec.{T}
use Rattle.volume.specs.Bytes.{Bytes}
use Rattle.model.specs.Layout.{page_count}
use Rattle.model.specs.Version1.{view}
use Rattle.model.specs.Sound.{owned, sound}
use Rattle.model.specs.Tree.{free_number}
use Rattle.model.specs.Image.{tree_of, tree_in}
use Rattle.model.specs.Text.{text}
use Rattle.model.specs.Call.{verdict, Verdict, Refusal, Answer, refused, granted}
use Rattle.model.specs.Meaning.{is_format, answer}
use Rattle.model.specs.Listing.{decimal, newline, tree_lines, listing_of, listing}
use Rattle.laws.proofs.Facts.{sound_facts_lem, valid_sized}
use Rattle.laws.proofs.Counting.{owned_in}
use Rattle.laws.proofs.Lines.{not_granted}
use Rattle.model.specs.Refusal.{settle}
use Rattle.model.specs.Demands.{Unsound, by_length, by_header, by_fault}
use Rattle.laws.proofs.Lists.{account}
use Rattle.laws.proofs.Steps.{unsound}
use Rattle.listing_lines.specs.Window.{Window, poured}
use Rattle.listing_lines.proofs.Windows.{poured_next}
use Rattle.listing_rows.specs.Lines.{directory_lines, Readable}

abbrev said : Answer Verdict → Verdict
said (refused f) = record { pages = 0; free = 0 }
said (granted v) = v

module _ (b : Bytes) (v : Verdict) (given : granted v ≡ answer verdict b) where
  pub granted_sound : T (sound b)
  unfolding is_format settle
  granted_sound = go (sound b) refl
    where
      faulty : Unsound verdict b → ⊥
      faulty (by_length l e) = not_granted (given ∙ e)
      faulty (by_header l h e) = not_granted (given ∙ e)
      faulty (by_fault l h f j e) = not_granted (given ∙ e)

      go : (s : Bool) → sound b ≡ s → T (sound b)
      go true e = subst T (sym e) tt
      go false e = absurd (faulty (unsound verdict b tt refl (subst (λ (s : Bool). T (not s)) (sym e) tt)))

  pub granted_pages : v.pages ≡ page_count b
  unfolding tree_in
  granted_pages = ap (λ (a : Answer Verdict). (said a).pages) (given ∙ (account b granted_sound).told)

  pub granted_free : v.free ≡ free_number (tree_of b)
  granted_free = ap (λ (a : Answer Verdict). (said a).free) (given ∙ (account b granted_sound).told) ∙ sym (account b granted_sound).number

  pub granted_listing : tree_lines (tree_of b) ≡ listing b
  unfolding listing listing_of
  granted_listing = ap (λ (a : Answer Verdict). listing_of a (tree_of b)) given

pub refused_listing : (b : Bytes) (f : Refusal) → refused f ≡ answer verdict b → text "refused " ++ decimal f.number ++ newline ≡ listing b
unfolding listing listing_of
refused_listing b f e = ap (λ (a : Answer Verdict). listing_of a (tree_of b)) e

-- its line: the word, the number and the end, in order
module _ (w : Window) {w₁ w₂ w₃ : Window} where
  pub refused_poured : {n wide number : ℕ} → wide ≡ n → n ≡ number → w₁ ≡ poured (text "refused ") w → w₂ ≡ poured (decimal wide) w₁ → w₃ ≡ poured newline w₂
      → w₃ ≡ poured (text "refused " ++ decimal number ++ newline) w
  refused_poured {n} {wide} {number} e f a b c =
      poured_next (text "refused " ++ decimal number) newline w
      (poured_next (text "refused ") (decimal number) w a (b ∙ ap (λ (k : ℕ). poured (decimal k) w₁) (e ∙ f))) c

-- ---- a sound image

module _ (b : Bytes) (pages free : ℕ) (good : T (sound b)) (same : pages ≡ page_count b) where
  pub root_readable : (0 < page_count b) × Readable b (owned pages (view b) 0) × (0 + 17 * pages ≤ 4352)
  root_readable =
      let f = sound_facts_lem good in
      let s = valid_sized b f.fits in
      (omega (arith, s.low), rw same (record { inside = owned_in f }), omega (arith, s.high))

  pub lines_whole : free ≡ free_number (tree_of b)
      → text "pages " ++ decimal pages ++ text " free " ++ decimal free ++ newline ++ directory_lines pages b 0 [] ≡ tree_lines (tree_of b)
  unfolding tree_lines tree_in directory_lines
  lines_whole e = rw (same, e)
