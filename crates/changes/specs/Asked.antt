-- What a make asks of the image and of its arguments. Every sound image gives it for the entry that the call works on.
use Rattle.std.specs.Prelude.{◌≡◌, ℕ, ◌+◌, ◌≤◌, ◌<◌, length}
use Rattle.volume.specs.Bytes.{Bytes, put}
use Rattle.model.specs.Layout.{page_count}
use Rattle.model.specs.Entry.{new_entry}
use Rattle.chains.specs.Asked.{Growing}

-- A new entry can be put at a position and k pages added to it: it lies in the image, its fields have their lengths, and its start page can be the joint.
pub record Making (at flags size k : ℕ) (name date b : Bytes) : Type 0 where
  pub inside : at + 32 ≤ length b
  pub long : length name ≡ 16
  pub dated : length date ≡ 8
  pub sized : size < 65536
  pub growing : Growing (page_count b) k (at + 17) (put at (new_entry flags name 0 size date) b)
