-- Chains of pages, over the link of a page and the room on it. Nothing here knows where an image keeps them.
use Rattle.std.specs.Prelude.{ℕ, zero, suc, ◌+◌, ◌-◌, List, [], ◌∷◌, take, drop, eqb, ltb, if◌then◌else◌}
use Rattle.volume.specs.Bytes.{Bytes, put}

-- the k pages from p on by their links
unfoldable pub chain : (ℕ → ℕ) → ℕ → ℕ → List ℕ
chain next zero p = []
chain next (suc k) p = p ∷ chain next k (next p)

-- where k steps from p lead: to p itself for none, else to the link of the k-th page
unfoldable pub beyond : (ℕ → ℕ) → ℕ → ℕ → ℕ
beyond next zero p = p
beyond next (suc k) p = beyond next k (next p)

-- how many pages there are from p on to the first with link 0, at most so many
unfoldable pub linked : (next : ℕ → ℕ) → (most : ℕ) → ℕ → ℕ
linked next zero p = 0
linked next (suc most) p = let rest = linked next most (next p) in if eqb (next p) 0 then 1 else suc rest

-- v written from place `at` of the content along the pages: each has `room` bytes of it, the first at position `first p`
unfoldable pub spread : (first : ℕ → ℕ) (room : ℕ) → List ℕ → ℕ → Bytes → Bytes → Bytes
spread first room [] at v b = b
spread first room (p ∷ ps) at v b =
    let here = spread first room ps 0 (drop (room - at) v) (put (first p + at) (take (room - at) v) b) in
    let further = spread first room ps (at - room) v b in
    if ltb at room then here else further

-- the position at which byte `at` of the content along the pages stands
unfoldable pub along : (first : ℕ → ℕ) (room : ℕ) → List ℕ → ℕ → ℕ
along first room [] at = 0
along first room (p ∷ ps) at = if ltb at room then first p + at else along first room ps (at - room)
