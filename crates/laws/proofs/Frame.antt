-- What a directory of version 1 means, reaches and owns, and whether it is good, hangs on the bytes of its entries and of its owned pages alone,
-- and not on the depth to which it is read, if that is enough: the laws of `view_laws` at `view b`.
use mathlib.Core.Path.{◌≡◌, refl, sym, subst}
use mathlib.Core.Logic.{inl, inr}
use Prim.Native.Nat.{ℕ, suc, ◌+◌, ◌*◌, ◌/◌, ◌≤◌}
use native.Mathlib.Omega.{arith}
use mathlib.Core.Bool.{true}
use mathlib.Core.List.{List, []}
use lib.ListN.{length}
use lib.Dec.{T}
use Rattle.volume.specs.Bytes.{Bytes, byte_at}
use Rattle.volume.proofs.Occ.{Mem, mem_head, mem_cons}
use Rattle.volume.proofs.Puts.{part_bytes}
use Rattle.model.specs.Entry.{entries, entry_at}
use Rattle.model.specs.Version1.{view}
use Rattle.model.specs.Sound.{in_directory, good_directory, owned}
use Rattle.view_laws.proofs.Frame as Any
use Rattle.view_laws.proofs.Frame.{Follows, Headed}
use Rattle.laws.proofs.Entries.{entry_within, within_page, entry_same}

-- page q has the same bytes in both, but for the header's fields
abbrev pub SamePage : Bytes → Bytes → ℕ → Type 0
SamePage b b' q = (i : ℕ) → i / 256 ≡ q → 36 ≤ i → byte_at b' i ≡ byte_at b i

-- the directory on page p, read in b to depth d and in b' to depth e
abbrev pub SameDirectory : Bytes → Bytes → ℕ → ℕ → ℕ → Type 0
SameDirectory b b' d e p = Any.SameDirectory (view b) (view b') d e p

-- the pages are none of the header's and have the same bytes in both
abbrev pub Unchanged : Bytes → Bytes → List ℕ → Type 0
Unchanged b b' ps = Any.Unchanged (SamePage b b') ps

-- ---- what version 1 owes

pub headed : (b : Bytes) → Headed (view b)
headed b p = mem_head p []

module _ (b b' : Bytes) (len : length b' ≡ length b) where
  pub follows : Follows (view b) (view b') (SamePage b b')
  follows = record {
    size = refl;
    counts = λ s. refl;
    linked = λ q l h. h (256 * q) (omega arith) (omega arith);
    content = λ q l h. part_bytes (256 * q + 1) 255 b b' len (λ i u v. h i (omega arith) (omega arith));
    directory = λ p h. record {
      pages = refl;
      ends = refl;
      positions = refl;
      fields = λ x m.
          let w = entry_within p x m in
          entry_same b b' x len (λ i u v. h p (mem_head p []) i (within_page p x w i u v) (omega (arith, w.far)));
    };
  }

  pub directory_frame : {d : ℕ} (p : ℕ) → SamePage b b' p → Unchanged b b' (owned d (view b) p) → SameDirectory b b' d d p
  directory_frame p h = Any.directory_frame follows p (λ q m. elim (mem_cons q p [] m) [
    | inl e ↦ subst (SamePage b b') (sym e) h
    | inr k ↦ absurd (omega (arith, k))
  ])

-- ---- two depths

pub good_below : (d : ℕ) (b : Bytes) (p x : ℕ) → T (good_directory (suc d) (view b) p) → Mem x (entries p) → T (in_directory true (good_directory d (view b)) (entry_at b x))
good_below d b = Any.good_below d (view b)

-- more depth than enough changes nothing
pub depth : {d e : ℕ} {b : Bytes} {p : ℕ} → T (good_directory d (view b) p) → d ≤ e → SameDirectory b b d e p
depth {b} = Any.depth (headed b)
