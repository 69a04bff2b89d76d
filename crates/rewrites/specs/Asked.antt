-- What a write asks of the image and of its arguments. Every sound image gives it for the entry that the call works on.
use Rattle.std.specs.Prelude.{◌≡◌, ℕ, ◌+◌, ◌-◌, ◌≤◌, ◌<◌, max, length}
use Rattle.volume.specs.Bytes.{Bytes}
use Rattle.volume.specs.Chain.{chain}
use Rattle.volume.specs.Field.{byte}
use Rattle.volume.specs.Geometry as On
use Rattle.volume.proofs.Longer.{Chained}
use Rattle.volume.proofs.Writes.{Beside}
use Rattle.model.specs.Layout.{version1, link, page_count, pages_for, free_count, zero_bits}
use Rattle.model.specs.Entry.{is_locked, name_at, date_at, a_file, entry_at}
use Rattle.model.proofs.Version1.{home}
use Rattle.chains.specs.Asked.{Inside, Growing}

-- To a chain of h pages k can be added, whatever cell is found to be its joint.
pub record Adding (n at start h k : ℕ) (b : Bytes) : Type 0 where
  pub entry : at + 32 ≤ length b
  pub pages : Inside b h start
  pub growing : (joint : ℕ) → byte joint ≡ On.joint_of version1 (byte (at + 17)) (chain (link b) h start) → Growing n k joint b

-- The file at a position can have v put at a place of its content or at its end: the page of its entry is none of the chain that starts there, whose pages are
-- its own, the pages wanted are free and counted, and the new size fits its two bytes.
pub record Writing (at start size from : ℕ) (v b : Bytes) : Type 0 where
  pub inside : at + 32 ≤ length b
  pub is : entry_at b at ≡ a_file (is_locked b at) (name_at b at) (date_at b at) start size
  pub begins : from ≤ size
  pub own : ℕ
  pub chained : Chained version1 home (page_count b) b (byte (at + 17)) own (pages_for size)
  pub beside : Beside version1 home (page_count b) (byte (at + 17)) own (at + 18) 2 b
  pub few : page_count b ≤ 256
  pub counted : free_count b ≡ zero_bits b (page_count b)
  pub space : pages_for (max size (from + length v)) - pages_for size ≤ zero_bits b (page_count b)
  pub fits : max size (from + length v) < 65536
