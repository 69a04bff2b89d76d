-- What the functions that work a page out ask of the image.
use Rattle.std.specs.Prelude.{◌≡◌, ℕ, ◌*◌, ◌≤◌, length}
use Rattle.volume.specs.Bytes.{Bytes}
use Rattle.model.specs.Layout.{page_size, page_count, pages_for, free_count, zero_bits}

-- a header page, and free pages for so many bytes; they hold on every sound image on which a store of these is granted
pub record Storing (b : Bytes) (size : ℕ) : Type 0 where
  pub low : 1 ≤ page_count b
  pub high : page_count b ≤ 256
  pub whole : length b ≡ page_size * page_count b
  pub free : pages_for size ≤ zero_bits b (page_count b)
  pub counted : pages_for size ≤ free_count b
  pub fits : size ≤ 65025
