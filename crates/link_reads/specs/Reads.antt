-- What a reading and a finding make of a file's bytes (paper 02 §4).
use Rattle.std.specs.Prelude.{ℕ, List, [], ◌∷◌, ◌++◌, length}
use Rattle.std.proofs.Math.Option.{Option}
use Rattle.volume.specs.Bytes.{Bytes, put}
use Rattle.model.specs.Call.{Answer, refused, granted}
use Rattle.model.specs.Refusal.{settle}
use Rattle.link_list.specs.Judging.{read_list}
use Rattle.link_list.specs.Links.{rows_in, bad_line, short_line, figure_of}
use Rattle.link_rows.specs.Told.{numbers_of}
use Rattle.link_judge.specs.Judged.{rows_of}

unfoldable pub read_in : Bytes → List ℕ → Answer ℕ
read_in v ns = settle (bad_line (read_list v) ++ (short_line (rows_of ns) (rows_in (read_list v)) ∷ [])) refused (granted (length (rows_in (read_list v))))

unfoldable pub numbers_in : Bytes → List ℕ → List ℕ
numbers_in v ns = settle (bad_line (read_list v) ++ (short_line (rows_of ns) (rows_in (read_list v)) ∷ [])) (λ f. ns) (put 0 (numbers_of (rows_in (read_list v))) ns)

unfoldable pub find_in : Bytes → (count value : ℕ) → Answer (Option ℕ)
find_in v count value = settle (bad_line (read_list v)) refused (granted (figure_of count value (rows_in (read_list v))))
