-- A file of no page and no byte: what `make` ensures of these is the model's answer.
use Rattle.makes.proofs.Makes.{file_answer, file_after}
use mathlib.Core.Path.{◌∙◌}
use Rattle.makes.proofs.make_file.Goals as goal

pub returns : goal.returns
returns c =
    let make = c in
    let start = make in
    record {
      result_value = (rw make.pages_for.ensures at make.make.ensures.result_value) ∙ file_answer start.args.image.now start.args.path.now
          start.args.date.now;
      image_after = (rw make.pages_for.ensures at make.make.ensures.image_after) ∙ file_after start.args.image.now
          start.args.path.now start.args.date.now;
    }
