-- The name of one entry: an occupied one has it, and a vacant one has none.
use mathlib.Core.Path.{◌≡◌, refl, sym, ap, ◌∙◌}
use Prim.Native.Nat.{ℕ}
use mathlib.Core.Bool.{Bool, false}
use Rattle.volume.specs.Bytes.{Bytes, same}
use Rattle.model.specs.Entry.{is_locked, name_at, date_at, entry_at}
use Rattle.model.specs.Sound.{is_named}
use Rattle.fields.specs.declared.Entry.{Entry}
use Rattle.fields.specs.declared.Entry.TheVariants.{Vacant, File, Directory}
use Rattle.fields.specs.Read.{entry_of}

module _ (b n : Bytes) (at : ℕ) (r : Entry) (read : entry_of r (is_locked b at) (name_at b at) (date_at b at) ≡ entry_at b at) where
  pub vacant_unnamed : r ≡ Vacant → false ≡ is_named n (entry_at b at)
  unfolding is_named
  vacant_unnamed v = ap (is_named n) (ap (λ (s : Entry). entry_of s (is_locked b at) (name_at b at) (date_at b at)) (sym v) ∙ read)

  -- q is the answer for its name
  pub occupied_named : (r ≡ Vacant → ⊥) → (q : Bool) → q ≡ same (name_at b at) n → q ≡ is_named n (entry_at b at)
  unfolding is_named
  occupied_named o q e = e ∙ named r o ∙ ap (is_named n) read
    where
      named : (s : Entry) → (s ≡ Vacant → ⊥)
          → same (name_at b at) n ≡ is_named n (entry_of s (is_locked b at) (name_at b at) (date_at b at))
      named Vacant k = absurd (k refl)
      named (File start size) k = refl
      named (Directory start size) k = refl
