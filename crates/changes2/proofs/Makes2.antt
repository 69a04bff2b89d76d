-- A make as the code goes: with the new entry's bytes put, the chain grows from its start page.
use mathlib.Core.Path.{◌≡◌, sym, ap, ◌∙◌, subst}
use Prim.Native.Nat.{ℕ}
use Rattle.volume.specs.Bytes.{Bytes, put}
use Rattle.volume.specs.Geometry as On
use Rattle.volume.proofs.Growing.{Growing}
use Rattle.model2.specs.Entry.{start_field, new_entry}
use Rattle.shape.specs.declared.Shape.{Shape}
use Rattle.shape.specs.Geometry.{geometry_of}
use Rattle.changes2.specs.Asked.{Making}

-- b₁ is the image with the new entry's bytes
module _ {s : Shape} {n at fl z k : ℕ} {name date b : Bytes} (m : Making s n at fl z k name date b)
    {b₁ : Bytes} (as_put : b₁ ≡ put at (new_entry fl name z date) b) where
  pub put_growing : Growing (geometry_of s) n k (start_field at) b₁
  put_growing = subst (Growing (geometry_of s) n k (start_field at)) (sym as_put) m.growing

  pub put_grown : {b₂ : Bytes} → b₂ ≡ On.grown (geometry_of s) n k (start_field at) b₁
      → b₂ ≡ On.grown (geometry_of s) n k (start_field at) (put at (new_entry fl name z date) b)
  put_grown e = e ∙ ap (λ (x : Bytes). On.grown (geometry_of s) n k (start_field at) x) as_put
