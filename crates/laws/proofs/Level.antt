-- One directory of version 1, entry by entry: the laws of `view_laws` at `view b`.
use Prim.Native.Nat.{ℕ, suc}
use mathlib.Core.List.{List}
use lib.Dec.{T}
use Rattle.volume.specs.Bytes.{Bytes}
use Rattle.volume.proofs.Occ.{Nodup}
use Rattle.model.specs.Version1.{view}
use Rattle.model.specs.Sound.{names_apart, good_directory}
use Rattle.view_laws.proofs.Level as Any
use Rattle.laws.proofs.Entries.{nodup_entries}

-- names apart, pair by pair
abbrev pub Apart : Bytes → List ℕ → Type 0
Apart b ats = Any.Apart (view b) ats

pub apart_split : (b : Bytes) (ats : List ℕ) → T (names_apart (view b) ats) → Apart b ats
apart_split b = Any.apart_split (view b)

pub apart_join : (b : Bytes) (ats : List ℕ) → Nodup ats → Apart b ats → T (names_apart (view b) ats)
apart_join b = Any.apart_join (view b)

-- a good directory: its entries are good, also below, and their names apart
abbrev pub Good : ℕ → Bytes → ℕ → Type 0
Good d b p = Any.Good d (view b) p

pub good_split : (d : ℕ) (b : Bytes) (p : ℕ) → T (good_directory (suc d) (view b) p) → Good d b p
good_split d b = Any.good_split d (view b)

pub good_join : (d : ℕ) (b : Bytes) (p : ℕ) → Good d b p → T (good_directory (suc d) (view b) p)
good_join d b p = Any.good_join d (view b) p (nodup_entries p)
