-- Lists of version 1's calls: the laws of `version_laws` at version 1.
use mathlib.Core.Path.{◌≡◌}
use Prim.Native.Nat.{ℕ}
use mathlib.Core.List.{List}
use lib.ListN.{length}
use lib.Dec.{T}
use Rattle.volume.specs.Bytes.{Bytes}
use Rattle.model.specs.Sound.{sound}
use Rattle.model.specs.Tree.{Tree}
use Rattle.model.specs.Image.{tree_of}
use Rattle.model.specs.Call.{Call}
use Rattle.model.specs.Version.{v1}
use Rattle.model.specs.Meaning.{after}
use Rattle.model.specs.Demands.{Results, Runs, Account, Demanded}
use Rattle.version_laws.proofs.Lists as Any
use Rattle.laws.proofs.Owed.{owed}
pub use Rattle.laws.proofs.Owed.{page_owned}

pub account : (b : Bytes) → T (sound b) → Account b (tree_of b)
account = Any.account owed

pub length_kept : (c : Call) (b : Bytes) → length (after c b) ≡ length b
length_kept = Any.length_kept owed

pub demanded : (cs : List Call) (b : Bytes) (t : Tree) → T (sound b) → tree_of b ≡ t → (rs : Results cs) (b' : Bytes) → Runs b cs rs b' → Demanded b t cs rs b'
demanded = Any.demanded owed

-- every list of calls has a run: what the contracts promise is there
pub runs : (cs : List Call) (b : Bytes) → (rs : Results cs) × (b' : Bytes) × Runs b cs rs b'
runs = Any.runs v1
