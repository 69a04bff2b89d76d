-- The pages to be stored, by the lent buffer and the arguments: what the code of a store works out, with no copy of the image. The laws of proofs/Numbers.antt
-- say that these are the stores of paper 02 §11.
use Rattle.std.specs.Prelude.{ℕ, zero, suc, ◌-◌, ◌*◌, Bool, set, ltb, if◌then◌else◌}
use Rattle.volume.specs.Bytes.{Bytes, byte_at, part, put, zeros}
use Rattle.volume.specs.Geometry as On
use Rattle.model.specs.Layout.{version1, room, page_size}
use Rattle.model.specs.Entry.{new_entry}

-- ---- the header's fields as pages are taken, on any bytes that begin with them: an image, or a copy of its header page alone

-- page p marked and counted
unfoldable pub claim : ℕ → Bytes → Bytes
claim p h = set (On.mark version1 p h) 3 (byte_at h 3 - 1)

-- the k lowest free pages of N, each the lowest at that moment
unfoldable pub claimed : (N k : ℕ) → Bytes → Bytes
claimed N zero h = h
claimed N (suc k) h = claimed N k (claim (On.lowest_free version1 N h) h)

-- ---- the pages

-- the page that is claimed after j others
abbrev pub page_after : (N j : ℕ) → Bytes → ℕ
page_after N j h = On.lowest_free version1 N (claimed N j h)

-- the link of page j of k: the page that is claimed after it, or 0
unfoldable pub link_after : (N k j : ℕ) → Bytes → ℕ
link_after N k j h = if ltb (suc j) k then page_after N (suc j) h else 0

-- page j of the content: its link, what the content has for it, and zeros behind
unfoldable pub content_page : (link : ℕ) (content : Bytes) (j : ℕ) → Bytes
content_page link v j = put 1 (part (room * j) room v) (set (zeros page_size) 0 link)

-- the new entry, with its start page
unfoldable pub started_entry : (name date : Bytes) (size start : ℕ) → Bytes
started_entry name date size start = set (new_entry 0x80 name 0 size date) 17 start
