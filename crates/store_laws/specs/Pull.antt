-- Paper 02 §11: "Stores are whole or absent, with no others between." A cartridge pulled amid the stores of a new file.
use Rattle.std.specs.Prelude.{ℕ, ◌*◌, take}
use mathlib.Core.List.{List, foldl}
use Rattle.volume.specs.Bytes.{Bytes, put}
use Rattle.model.specs.Layout.{page_size}
use Rattle.model.specs.Path.{Path}
use Rattle.model.specs.Store.{Store, stores}

-- a store is whole
abbrev pub put_page : Bytes → Store → Bytes
put_page b s = put (page_size * s.page) s.bytes b

-- the image after these stores
abbrev pub after_stores : List Store → Bytes → Bytes
after_stores ss b = foldl put_page b ss

-- a cartridge pulled after k of the stores; all of them are worked out from the image before the first
unfoldable pub pulled : ℕ → Path → (date content : Bytes) → Bytes → Bytes
pulled k path date v b = after_stores (take k (stores path date v b)) b
