-- A directory of one page: what `make` ensures of these is the model's answer.
use Rattle.makes.proofs.Makes.{directory_answer, directory_after}
use mathlib.Core.Path.{◌∙◌}
use Rattle.makes.proofs.make_directory.Goals as goal

pub returns : goal.returns
returns c =
    let start = c in
    record { result_value = c.make.ensures.result_value ∙ directory_answer start.args.image.now start.args.path.now start.args.date.now; image_after = c.make.ensures.image_after ∙ directory_after start.args.image.now start.args.path.now start.args.date.now }
