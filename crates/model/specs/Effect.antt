-- Document 01, "The plain tree": what a granted call does to the bytes of a sound image of version 1, where no directory grows. `EffectOf` says it of
-- any version.
use Rattle.std.specs.Prelude.{ℕ, ◌-◌, ◌/◌, Bool, ◌∷◌, replicate}
use Rattle.volume.specs.Bytes.{Bytes, put}
use Rattle.model.specs.Layout.{page_count}
use Rattle.model.specs.Version1.{view, layout1}
use Rattle.model.specs.Path.{Path}
use Rattle.model.specs.EffectOf as Of
unfoldable pub use Rattle.model.specs.EffectOf.{is_vacant, with_lock}

-- Format writes page 0: 5A, 01, N/8, N−1, 01, then zeros.
unfoldable pub formatted : Bytes → Bytes
formatted b = put 0 (0x5A ∷ 1 ∷ page_count b / 8 ∷ (page_count b - 1) ∷ 1 ∷ replicate 251 0) b

-- the lowest empty entry of the directory on page p
abbrev pub lowest_vacant : Bytes → (page : ℕ) → ℕ
lowest_vacant b p = Of.lowest_vacant (view b) p

-- Make: a new entry in the lowest empty one of the parent directory, and so many pages in a chain that starts there.
abbrev pub made : (flags size pages : ℕ) → Path → (date : Bytes) → Bytes → Bytes
made flags size pages path date b = Of.made layout1 view flags size pages path date b

abbrev pub file_made : Path → (date : Bytes) → Bytes → Bytes
file_made path date b = Of.file_made layout1 view path date b

abbrev pub directory_made : Path → (date : Bytes) → Bytes → Bytes
directory_made path date b = Of.directory_made layout1 view path date b

-- Write: to the file at a position, and to the one that a path leads to.
abbrev pub rewritten : (at from : ℕ) (v : Bytes) → Bytes → Bytes
rewritten at from v b = Of.rewritten layout1 view at from v b

abbrev pub written : Path → (from : ℕ) (v : Bytes) → Bytes → Bytes
written path from v b = Of.written layout1 view path from v b

-- Lock and unlock (paper 02 §10), and remove.
abbrev pub relocked : Path → Bool → Bytes → Bytes
relocked path locked b = Of.relocked view path locked b

abbrev pub removed : Path → Bytes → Bytes
removed path b = Of.removed view path b
