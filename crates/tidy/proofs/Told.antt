-- Where the verdict says that the image is sound its owners can be named, in a row of zeros.
use mathlib.Core.Path.{◌≡◌, refl, sym}
use lib.ListN.{replicate}
use Rattle.volume.specs.Bytes.{Bytes}
use Rattle.model.specs.Call.{Verdict, verdict, granted}
use Rattle.model.specs.Meaning.{answer}
use Rattle.moves.proofs.Answers.{verdict_sound}
use Rattle.owner_rows.specs.Says.{no_owners}
use Rattle.owner_rows.specs.Unnamed.{Unnamed}

pub unnamed : (b : Bytes) {v : Verdict} → granted v ≡ answer verdict b → Unnamed b (replicate 256 0)
unfolding no_owners
unnamed b e = record { is_sound = verdict_sound b (sym e); zeros = refl }
