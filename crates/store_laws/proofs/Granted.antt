-- The write after a make is granted where the pages suffice for the whole content, and else refused for want of them: the file is there, empty and not locked.
use mathlib.Core.Path.{◌≡◌, sym, ap, ◌∙◌, subst}
use Prim.Native.Nat.{ℕ, ◌+◌, ◌-◌, ◌≤◌, ◌<◌, max}
use native.Mathlib.Omega.{arith}
use mathlib.Core.Bool.{false}
use mathlib.Core.List.{List, [], ◌∷◌, ◌++◌}
use lib.ListN.{length}
use lib.Dec.{ltb}
use borrow.Author.Tests.{le-ltb, lt-ltb}
use Rattle.volume.specs.Bytes.{Bytes}
use Rattle.volume.proofs.Entries.{Made}
use Rattle.model.specs.Layout.{page_count, pages_for, zero_bits}
use Rattle.model.specs.Entry.{start_at, Entry, a_file, entry_at}
use Rattle.model.specs.Version1.{view}
use Rattle.model.specs.Tree.{end, free_number, Node, file_node, directory_node}
use Rattle.model.specs.Path.{Name, Path, below, path_of, is_no_path}
use Rattle.model.specs.Image.{content_of, row_at, tree_of, tree_in}
use Rattle.model.specs.Walk.{Walked, arrived, walk_to, arrived_or}
use Rattle.model.specs.Effect.{file_made}
use Rattle.model.specs.Call.{write, refusal, Answer, refused, granted}
use Rattle.model.specs.Refusal.{Line, is_missing, is_blocked, is_directory_node, is_locked_node, content_in, walk_lines, refusals, settle, Passes}
use Rattle.model.specs.RefusalOf
use Rattle.laws.proofs.Facts.{Facts}
use Rattle.laws.proofs.Walks.{node_of, Parent, Target}
use Rattle.laws.proofs.Counting.{free_number_lem}
use Rattle.laws.proofs.Make.{Place, Clear}
use Rattle.store_laws.proofs.Made as Made

module _ (b : Bytes) (f : Facts b) (ns : List Name) (n : Name) (date v : Bytes) (c : Clear b ns n date (pages_for (length v))) where
  abbrev w : Place b ns n.bytes date (pages_for 0)
  w = Made.w b f ns n date v c

  abbrev e : ℕ
  e = Made.e b f ns n date v c

  abbrev t : ℕ
  t = Made.t b f ns n date v c

  abbrev at : ℕ
  at = Made.at b f ns n date v c

  abbrev b₁ : Bytes
  b₁ = Made.b₁ b f ns n date v c

  abbrev made_is : file_made (below ns n) date b ≡ b₁
  made_is = Made.made_is b f ns n date v c

  abbrev f₁ : Facts b₁
  f₁ = Made.f₁ b f ns n date v c

  abbrev is₁ : entry_at b₁ at ≡ a_file false n.bytes date (start_at b₁ at) 0
  is₁ = Made.is₁ b f ns n date v c

  abbrev above₁ : (p : Parent b₁ ns) × (p.t ≡ t)
  above₁ = Made.above₁ b f ns n date v c

  abbrev tg : Target b₁ ns n
  tg = Made.tg b f ns n date v c

  abbrev zeros₁ : zero_bits b₁ (page_count b₁) + pages_for 0 ≡ zero_bits b (page_count b)
  zeros₁ = Made.zeros₁ b f ns n date v c

  -- the lines of a write at 0 for a path p that leads to w, where so many pages are free
  abbrev write_lines : Path → Walked Node → ℕ → List Line
  write_lines p x free =
      (is_no_path p, refusal 4) ∷ walk_lines x ++ (
      ((is_directory_node (arrived_or (directory_node [] end) x), refusal 7) ∷ (is_locked_node (arrived_or (directory_node [] end) x), refusal 25) ∷ (ltb (length (content_in (arrived_or (directory_node [] end) x))) 0, refusal 12) ∷ [])
      ++ ((ltb free (pages_for (max (length (content_in (arrived_or (directory_node [] end) x))) (0 + length v)) - pages_for (length (content_in (arrived_or (directory_node [] end) x)))), refusal 10) ∷ []))

  lines_pass : (free : ℕ) → pages_for (length v) ≤ free + pages_for 0 → Passes (write_lines (below ns n) (arrived (file_node false date [])) free)
  unfolding settle is_no_path is_missing is_blocked arrived_or is_directory_node is_locked_node content_in
  lines_pass free h = rw (le-ltb free (pages_for (max 0 (0 + length v)) - pages_for 0) few)
    where
      few : pages_for (max 0 (0 + length v)) - pages_for 0 ≤ free
      few = let x : max 0 (0 + length v) ≡ length v = omega arith in omega (arith, ap pages_for x, h)

  empty_node : walk_to (below ns n) (tree_of b₁).root ≡ arrived (file_node false date [])
  unfolding tree_in node_of content_of
  empty_node = tg.node ∙ ap (λ (x : Entry). arrived (node_of (view b₁) (row_at above₁.0.e (view b₁)) x)) is₁

  enough : pages_for (length v) ≤ free_number (tree_of b₁) + pages_for 0
  enough = omega (arith, free_number_lem f₁, f₁.counted, zeros₁, c.space)

  pub write_open : (path : Bytes) → path_of path ≡ below ns n → Passes (refusals (write path 0 v) (tree_of (file_made (below ns n) date b)))
  unfolding RefusalOf.refusals RefusalOf.earlier RefusalOf.later RefusalOf.wanted
  write_open path is =
      subst (λ (x : Bytes). Passes (write_lines (path_of path) (walk_to (path_of path) (tree_of x).root) (free_number (tree_of x)))) (sym made_is)
      (subst (λ (p : Path). Passes (write_lines p (walk_to p (tree_of b₁).root) (free_number (tree_of b₁)))) (sym is)
      (subst (λ (x : Walked Node). Passes (write_lines (below ns n) x (free_number (tree_of b₁)))) (sym empty_node) (lines_pass (free_number (tree_of b₁)) enough)))

  -- where pages are wanting for other bytes, their write is refused for that
  abbrev lines_of : Bytes → Path → Walked Node → ℕ → List Line
  lines_of u p x free =
      (is_no_path p, refusal 4) ∷ walk_lines x ++ (
      ((is_directory_node (arrived_or (directory_node [] end) x), refusal 7) ∷ (is_locked_node (arrived_or (directory_node [] end) x), refusal 25) ∷ (ltb (length (content_in (arrived_or (directory_node [] end) x))) 0, refusal 12) ∷ [])
      ++ ((ltb free (pages_for (max (length (content_in (arrived_or (directory_node [] end) x))) (0 + length u)) - pages_for (length (content_in (arrived_or (directory_node [] end) x)))), refusal 10) ∷ []))

  lines_full : (u : Bytes) (free : ℕ) → free + pages_for 0 < pages_for (length u)
      → ◌≡◌ {A = Answer (Unit {0})} (settle (lines_of u (below ns n) (arrived (file_node false date [])) free) refused (granted tt)) (refused (refusal 10))
  unfolding settle is_no_path is_missing is_blocked arrived_or is_directory_node is_locked_node content_in
  lines_full u free h = rw (lt-ltb free (pages_for (max 0 (0 + length u)) - pages_for 0) many)
    where
      many : free < pages_for (max 0 (0 + length u)) - pages_for 0
      many = let x : max 0 (0 + length u) ≡ length u = omega arith in omega (arith, ap pages_for x, h)

  wanting : (u : Bytes) → free_number (tree_of b) < pages_for (length u) → free_number (tree_of b₁) + pages_for 0 < pages_for (length u)
  wanting u h = omega (arith, free_number_lem f₁, f₁.counted, zeros₁, free_number_lem f, f.counted, h)

  pub write_full : (path u : Bytes) → path_of path ≡ below ns n → free_number (tree_of b) < pages_for (length u)
      → ◌≡◌ {A = Answer (Unit {0})} (settle (refusals (write path 0 u) (tree_of (file_made (below ns n) date b))) refused (granted tt)) (refused (refusal 10))
  unfolding RefusalOf.refusals RefusalOf.earlier RefusalOf.later RefusalOf.wanted
  write_full path u is h =
      subst (λ (x : Bytes). Says (lines_of u (path_of path) (walk_to (path_of path) (tree_of x).root) (free_number (tree_of x)))) (sym made_is)
      (subst (λ (p : Path). Says (lines_of u p (walk_to p (tree_of b₁).root) (free_number (tree_of b₁)))) (sym is)
      (subst (λ (x : Walked Node). Says (lines_of u (below ns n) x (free_number (tree_of b₁)))) (sym empty_node) (lines_full u (free_number (tree_of b₁)) (wanting u h))))
    where
      Says : List Line → Type 0
      Says ls = ◌≡◌ {A = Answer (Unit {0})} (settle ls refused (granted tt)) (refused (refusal 10))
