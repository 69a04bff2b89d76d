-- What growth made at a cell was made at the joint that the cell was found to be.
use mathlib.Core.Path.{◌≡◌, subst}
use Prim.Native.Nat.{ℕ, ◌-◌}
use lib.ListN.{take}
use Rattle.volume.specs.Bytes.{Bytes}
use Rattle.volume.specs.Field.{Field}
use Rattle.volume.specs.Geometry as On
use Rattle.volume.proofs.Unzeroed.{ButFor}
use Rattle.model.specs.Layout.{version1}

pub grown_at : (n k : ℕ) (b : Bytes) {f joint : Field} {c : Bytes} → f ≡ joint
    → ButFor version1 (take (k - 1) (On.gained version1 n k b)) (On.grown version1 n k f b) c
    → ButFor version1 (take (k - 1) (On.gained version1 n k b)) (On.grown version1 n k joint b) c
grown_at n k b {c = c} e r = subst (λ (x : Field). ButFor version1 (take (k - 1) (On.gained version1 n k b)) (On.grown version1 n k x b) c) e r
