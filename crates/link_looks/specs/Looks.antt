-- The numbers after a reading (paper 02 §4).
use Rattle.std.specs.Prelude.{ℕ, List, ◌++◌}
use Rattle.volume.specs.Bytes.{Bytes, put}
use Rattle.model.specs.Image.{tree_of}
use Rattle.model.specs.Refusal.{settle}
use Rattle.model.specs.Meaning.{image_lines}
use Rattle.link_list.specs.Links.{read_links, reading, rows_in, link_lines}
use Rattle.link_rows.specs.Told.{numbers_of}
use Rattle.link_judge.specs.Judged.{rows_of}

-- those of the rows at the front, or as they were
unfoldable pub numbers_after : (d b : Bytes) → List ℕ → List ℕ
numbers_after d b ns =
    settle (image_lines b ++ link_lines (read_links d (rows_of ns)) (tree_of b)) (λ f. ns) (put 0 (numbers_of (rows_in (reading d (tree_of b)))) ns)
