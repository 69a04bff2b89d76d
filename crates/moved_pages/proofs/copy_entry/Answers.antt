-- `copy_entry` puts what `held_entry` has, which is the source.
use Rattle.fields.proofs.Plain.{ap, ◌∙◌}
use Rattle.volume.specs.Bytes.{Bytes, put}
use Rattle.moved_pages.proofs.copy_entry.Goals as goal

pub returns : goal.returns
returns c = c.put_entry.ensures ∙ ap (λ (w : Bytes). put c.args.offset w c.args.stretch.now) c.held_entry-entry.ensures
