-- The judge decides soundness: version 1's instances of the laws over a view, whose length and header are its own.
use mathlib.Core.Path.{◌≡◌, refl, sym, ◌∙◌}
use Prim.Native.Nat.{ℕ, ◌<◌}
use native.Mathlib.Omega.{arith}
use mathlib.Core.Bool.{Bool, true, false, ◌&&◌}
use mathlib.Core.List.{List, []}
use lib.ListN.{length, get_or}
use lib.Dec.{T}
use Rattle.volume.specs.Bytes.{Bytes}
use Rattle.volume.specs.Lists.{all, conditions}
use Rattle.volume.proofs.Occ.{occ, mem_head}
use Rattle.model.specs.Layout.{page_count, valid_length, valid_header}
use Rattle.model.specs.Version1.{view}
use Rattle.model.specs.Sound.{owned_pages, sound_facts, sound, sound_by}
use Rattle.model.specs.Judge.{clean, is_clean, judge_walk, judge, judge_view}
use Rattle.view_laws.proofs.Judged as Any
use Rattle.view_laws.proofs.Judged.{Judging}
use Rattle.laws.proofs.Entries.{nodup_entries}
use Rattle.laws.proofs.Facts.{rooted}

judging : (b : Bytes) → Judging (view b)
judging b = record {
  regular = record { headed = λ p. mem_head p []; apart = λ p u. nodup_entries p };
  ending = λ p u h. tt;
  rooted = rooted b;
  low = omega arith;
}

-- what a clean walk says, and what makes it clean
abbrev pub Walkable : Bytes → Type 0
Walkable b = Any.Walkable (view b)

module _ (b : Bytes) where
  -- a walk that ends clean has given its owner mark to each owned page, and to no other
  pub walk_clean : {marks : List ℕ} → judge_walk b ≡ clean marks → Walkable b × ((q : ℕ) → q < page_count b → get_or marks q 0 ≡ occ q (owned_pages b))
  walk_clean e = Any.walk_clean (judging b) e

  pub walkable_clean : Walkable b → T (is_clean (judge_walk b))
  walkable_clean w = Any.walkable_clean (judging b) w

two_pass : (c d e : Bool) → T c → T d → (c && (d && e)) ≡ e
two_pass true true e h k = refl
two_pass true false e h k = absurd k
two_pass false d e h k = absurd h

pub judge_sound : (b : Bytes) → T (valid_length (length b)) → T (valid_header b) → is_clean (judge b) ≡ sound b
unfolding judge_view sound_by all
judge_sound b v w = Any.judge_sound (judging b) ∙ sym (two_pass (valid_length (length b)) (valid_header b) (conditions (sound_facts (page_count b) (view b))) v w)

-- the pages marked are the owned ones
pub judge_marks : (b : Bytes) (marks : List ℕ) → judge b ≡ clean marks → (q : ℕ) → q < page_count b → get_or marks q 0 ≡ occ q (owned_pages b)
unfolding judge_view
judge_marks b marks e = Any.judge_marks (judging b) marks e
