-- The code's openings in the words of `arrivals`, and what is known of an image on which there is one.
use Rattle.std.specs.Prelude.{◌-◌, ◌≤◌, length, Result, Ok, Err}
use Rattle.volume.specs.Bytes.{Bytes}
use Rattle.model.specs.Call.{Answer}
use Rattle.arrivals.specs.Openings as model
use Rattle.outcomes.specs.Answers.{answered}
use Rattle.cursor2.specs.Row.{found_of}
use Rattle.known2.specs.Known.{Known}
use Rattle.paths.specs.Steps.{name_in}
use Rattle.refusals2.specs.Told.{told}
use Rattle.refusals2.specs.declared.Refusal.{Refusal}
use Rattle.openings2.specs.declared.Opening.{Opening}

abbrev pub opened : Bytes → Opening → model.Opening
opened path o = record { directory = o.directory.0; vacancy = found_of o.vacancy; name = (name_in path o.begins (length path)).bytes }

abbrev pub opening_of : Bytes → Result Opening Refusal → Answer model.Opening
opening_of path = answered told (opened path)

-- the image is sound and its shape known, and the name lies in the path and fits an entry
abbrev pub Ready : (b path : Bytes) → Result Opening Refusal → Type 0
Ready b path (Ok o) = Known b o.cartridge.shape o.cartridge.pages × (o.begins ≤ length path) × (length path - o.begins ≤ 16)
Ready b path (Err r) = Unit {0}
