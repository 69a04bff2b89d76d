-- A window of a text that is made piece by piece: what a piece leaves of the bytes to be skipped, and of the buffer behind the window.
use Rattle.std.specs.Prelude.{ℕ, ◌+◌, ◌-◌, length, take, drop}
use Rattle.volume.specs.Bytes.{Bytes, put}
use Rattle.listing_lines.specs.declared.Sink.{Sink}

-- so many bytes of text are still skipped, and so many of the buffer are filled
pub record Window : Type 0 where
  pub skip : ℕ
  pub done : ℕ
  pub buffer : Bytes

abbrev pub window : Sink → Bytes → Window
window sink buffer = record { skip = sink.skip; done = sink.done; buffer = buffer }

-- the bytes of a piece that fall into the window
unfoldable pub shown : Bytes → Window → Bytes
shown v w = take (length w.buffer - w.done) (drop w.skip v)

-- The window after a piece. Law `poured_append`: piece after piece is the text whole.
unfoldable pub poured : Bytes → Window → Window
poured v w = record {
  skip = w.skip - length v;
  done = w.done + length (shown v w);
  buffer = put w.done (shown v w) w.buffer;
}
