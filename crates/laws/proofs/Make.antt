-- A granted make: the lowest vacant entry of the parent becomes the new one, with the pages gained, so the tree gains it and nothing else changes.
use mathlib.Core.Path.{◌≡◌, refl, sym, ap, ◌∙◌, subst}
use mathlib.Core.Logic.{◌≢◌}
use Prim.Native.Nat.{ℕ, zero, suc, ◌+◌, ◌*◌, ◌/◌, ◌≤◌, ◌<◌}
use native.Mathlib.Omega.{arith}
use native.Mathlib.Decide.{ℕ_discrete}
use mathlib.Core.Bool.{false, true, not}
use mathlib.Core.Option.{some}
use mathlib.Core.List.{List, [], ◌∷◌}
use lib.ListN.{length}
use lib.Dec.{T, eqb}
use Rattle.volume.specs.Bytes.{Bytes, byte_at, put}
use Rattle.volume.specs.Lists.{first}
use Rattle.volume.specs.Chain.{chain, beyond}
use Rattle.volume.specs.Field.{byte}
use Rattle.volume.specs.Geometry as On
use Rattle.volume.proofs.Occ.{occ, Mem, hit_refl, not_mem}
use Rattle.volume.proofs.Tests.{both_and, first_found, eq-eqb}
use Rattle.volume.proofs.Puts.{put_in}
use Rattle.volume.proofs.Grow.{Gained, gained_is, Held}
use Rattle.volume.proofs.Entries.{Made}
use Rattle.volume.proofs.Stays as Stays
use Rattle.volume.proofs.Stays.{Elsewhere}
use Rattle.model.specs.Layout.{version1, page_count, pages_for, zero_bits, link}
use Rattle.model.specs.Name.{legal_name}
use Rattle.model.specs.Entry.{entries, start_at, Entry, vacant, a_file, a_directory, entry_at, new_entry}
use Rattle.model.specs.View.{View}
use Rattle.model.specs.Version1.{view}
use Rattle.model.specs.Sound.{pages_of, good_entry, is_named, same_name, in_directory, good_directory, owned, sound}
use Rattle.model.specs.Tree.{Row, file, dir, empty_row, width, held as heldIn, lookup, fill}
use Rattle.model.specs.Path.{Name, below}
use Rattle.model.specs.Image.{content_of, entry_row, row_at, tree_of}
use Rattle.model.specs.Walk.{Walked, arrived, walk, arrived_or, change_at}
use Rattle.model.specs.Effect.{is_vacant, lowest_vacant, made, file_made, directory_made}
use Rattle.model.specs.Refusal.{is_missing, is_blocked, is_there}
use Rattle.model.specs.EffectOf
use Rattle.model.proofs.Version1.{home}
use Rattle.model.proofs.Bounds.{eight_entries}
use Rattle.view_laws.proofs.Owns as Owns
use Rattle.view_laws.proofs.Shelf.{seen}
use Rattle.view_laws.proofs.Vacant.{vacant_row, vacant_owns, vacant_good}
use Rattle.view_laws.proofs.Ways.{leads_many}
use Rattle.view_laws.proofs.Making as Any
use Rattle.laws.proofs.Facts.{Facts, viewed}
use Rattle.laws.proofs.Entries.{entry_within, nodup_entries}
use Rattle.laws.proofs.Frame.{headed}
use Rattle.laws.proofs.Focus.{leads_depth}
use Rattle.laws.proofs.Counting.{count_owned}
use Rattle.laws.proofs.Walks.{Parent, parent}
use Rattle.laws.proofs.Slots.{size, lawful, head_kept, header_marked, Slot, slot, held}
use Rattle.laws.proofs.Vacant.{zero_vacant}
use Rattle.laws.proofs.Shelf.{shelf, shelved, afterwards}
use Rattle.laws.proofs.NewEntry.{new_length, new_start, is_file_lem, is_directory_lem}

-- ---- a new entry with k new pages

-- where a make works: the parent, its lowest vacant entry, and a name and a date of the right length
pub record Place (b : Bytes) (ns : List Name) (name date : Bytes) (k : ℕ) : Type 0 where
  pub above : Parent b ns
  pub at : ℕ
  pub found : first (λ x. is_vacant (entry_at b x)) (entries above.t) ≡ some at
  pub legal : T (legal_name name)
  pub apart : (x : ℕ) → Mem x (entries above.t) → T (not (is_named name (entry_at b x)))
  pub long : length name ≡ 16
  pub dated : length date ≡ 8
  pub space : k ≤ zero_bits b (page_count b)

abbrev pub made_at : (flags size k : ℕ) (name date : Bytes) (at : ℕ) → Bytes → Bytes
made_at flags size k name date at b = On.grown version1 (page_count b) k (byte (at + 17)) (put at (new_entry flags name 0 size date) b)

module _ {b : Bytes} (f : Facts b) (ns : List Name) (name date : Bytes) (fl z k : ℕ) (w : Place b ns name date k) where
  e : ℕ
  e = w.above.e

  spot : Mem w.at (entries w.above.t) × T (is_vacant (entry_at b w.at))
  spot = first_found (λ x. is_vacant (entry_at b x)) (entries w.above.t) w.at w.found

  pub place_slot : Slot b w.above.t w.at
  place_slot = slot f ns (suc w.above.e) w.above.t w.at w.above.leads spot.0

  pub place_held : Held version1 home (page_count b) w.at (length (new_entry fl name 0 z date)) w.above.t b
  place_held =
      let l = new_length fl name z date w.long w.dated in
      let h = held f place_slot 0 32 (omega arith) in
      record { inside = omega (arith, place_slot.inside); bytes = λ i u v. h.bytes i (omega arith) (omega arith); page = h.page; marked = h.marked }

  -- the new entry's start page is 0 before it is given one
  no_start : byte_at (put w.at (new_entry fl name 0 z date) b) (w.at + 17) ≡ 0
  no_start =
      let l = new_length fl name z date w.long w.dated in
      put_in w.at (new_entry fl name 0 z date) b place_held.inside 17 (omega arith) ∙ new_start fl name z date w.long w.dated

  pub made_bytes : Made version1 home (page_count b) b (made_at fl z k name date w.at b) w.at (new_entry fl name 0 z date) (byte (w.at + 17)) k (On.gained version1 (page_count b) k b)
  made_bytes = Any.made_bytes (shelved f) (size f).whole (viewed f) ns w.above.e w.above.t w.at k (new_entry fl name 0 z date) (byte (w.at + 17))
      w.above.leads w.above.good tt w.found w.space (new_length fl name z date w.long w.dated) (omega arith) (omega arith) no_start

  -- every byte but the entry's, and those that hold or count the pages gained
  pub made_stays : (i : ℕ) → (w.at ≤ i → w.at + 32 ≤ i) → ((p : ℕ) → Mem p (On.gained version1 (page_count b) k b) → Elsewhere version1 p i)
      → byte_at (made_at fl z k name date w.at b) i ≡ byte_at b i
  made_stays i o e =
      let l = new_length fl name z date w.long w.dated in
      Stays.made_stays (lawful f) b w.at w.above.t (new_entry fl name 0 z date) (byte (w.at + 17)) k (size f).whole (header_marked f)
      (omega (arith, (size f).low)) place_held (omega arith) (omega arith)
      no_start w.space i (λ u. omega (arith, l, o u)) e

  pub made_gained : Gained version1 (page_count b) k b
  made_gained = gained_is (lawful f) k b (size f).whole (header_marked f) w.space

  -- the entry's bytes but its start page
  pub made_there : (i : ℕ) → i < 32 → i ≢ 17 → byte_at (made_at fl z k name date w.at b) (w.at + i) ≡ byte_at (new_entry fl name 0 z date) i
  made_there i l ne = made_bytes.there i (omega (arith, new_length fl name z date w.long w.dated)) (λ u. omega arith)

  pub made_inside : w.at + 32 ≤ length (made_at fl z k name date w.at b)
  made_inside = omega (arith, made_bytes.size, place_slot.inside)

  -- what the new entry must be like; the rest follows
  made_sound : let b' = made_at fl z k name date w.at b in let v' = seen (shelf (page_count b)) b' in (h : Row → Row) (x : Entry) → entry_at b' w.at ≡ x
      → Owns.own w.above.e v' x ≡ On.gained version1 (page_count b) k b → T (good_entry v' x) → T (in_directory true (good_directory w.above.e v') x)
      → ((y : Entry) → T (not (is_named name y)) → T (not (same_name x y)))
      → ((rest : Row) → h rest ≡ entry_row v' (row_at w.above.e v') x rest)
      → T (sound b') × (tree_of b' ≡ record { pages = page_count b; code = 0; root = change_at ns (fill h) (row_at (page_count b) (view b) 0) })
  made_sound h x is mine good sub apart means =
      let m = made_bytes in
      let qs : List ℕ = On.gained version1 (page_count b) k b in
      afterwards f m.size
      (λ i u. let y : i / 256 ≡ 0 = omega arith in
      m.rest i (head_kept f i u) (λ v. omega (arith, place_slot.within.far)) (subst (λ (q : ℕ). occ q qs ≡ 0) (sym y) (not_mem 0 qs (λ c. omega (arith, (made_gained.new 0 c).0)))))
      (Any.made_sound (shelved f) (size f).whole (viewed f) ns w.above.e w.above.t w.at k (new_entry fl name 0 z date) (byte (w.at + 17))
      w.above.leads w.above.good tt w.found w.space (new_length fl name z date w.long w.dated) (omega arith) (omega arith) no_start
      h x name is mine good sub w.apart apart means)

-- ---- a file: its pages are those that size 0 wants, whatever their number

module _ {b : Bytes} (f : Facts b) {ns : List Name} {name date : Bytes} (w : Place b ns name date (pages_for 0)) where
  file_sound : let b' = made_at 0x80 0 (pages_for 0) name date w.at b in
      T (sound b') × (tree_of b' ≡ record { pages = page_count b; code = 0; root = change_at ns (fill (file false name date [])) (row_at (page_count b) (view b) 0) })
  unfolding Owns.own pages_of good_entry same_name entry_row content_of
  file_sound =
      let b' : Bytes = made_at 0x80 0 (pages_for 0) name date w.at b in
      let m = made_bytes f ns name date 0x80 0 (pages_for 0) w in
      let is = is_file_lem 0x80 name 0 date w.long w.dated b' w.at (made_inside f ns name date 0x80 0 (pages_for 0) w) (made_there f ns name date 0x80 0 (pages_for 0) w) refl in
      made_sound f ns name date 0x80 0 (pages_for 0) w (file false name date []) (a_file false name date (start_at b' w.at) 0) is
      m.pages
      (both_and (legal_name name) (eqb (beyond (link b') (pages_for 0) (start_at b' w.at)) 0) w.legal (eq-eqb m.ends))
      tt (λ y h. h) (λ rest. refl)

-- ---- a directory: its page is all zero, so it is one of 8 vacant entries

module _ {b : Bytes} (f : Facts b) {ns : List Name} {name date : Bytes} (w : Place b ns name date 1) where
  directory_sound : let b' = made_at 0x81 0x0100 1 name date w.at b in
      T (sound b') × (tree_of b' ≡ record { pages = page_count b; code = 0; root = change_at ns (fill (dir name date (empty_row 8))) (row_at (page_count b) (view b) 0) })
  unfolding Owns.own good_entry same_name entry_row chain beyond
  directory_sound = go w.above.e refl
    where
      b' : Bytes
      b' = made_at 0x81 0x0100 1 name date w.at b

      v' : View
      v' = seen (shelf (page_count b)) (made_at 0x81 0x0100 1 name date w.at b)

      m : Made version1 home (page_count b) b (made_at 0x81 0x0100 1 name date w.at b) w.at (new_entry 0x81 name 0 0x0100 date) (byte (w.at + 17)) 1 (On.gained version1 (page_count b) 1 b)
      m = made_bytes f ns name date 0x81 0x0100 1 w

      s : ℕ
      s = start_at (made_at 0x81 0x0100 1 name date w.at b) w.at

      mem : Mem s (On.gained version1 (page_count b) 1 b)
      mem = subst (λ (ps : List ℕ). Mem s ps) m.pages (omega (arith, hit_refl s))

      low : 1 ≤ s
      low = ((made_gained f ns name date 0x81 0x0100 1 w).new s mem).0

      zeros : (i : ℕ) → i / 256 ≡ s → byte_at b' i ≡ 0
      zeros i h = elim (ℕ_discrete i (256 * s)) [
        | yes u ↦ ap (byte_at b') u ∙ m.ends
        | no u ↦ m.zeroed s i mem (omega arith) (omega arith) (λ v. omega (arith, u))
      ]

      vacants : (x : ℕ) → Mem x (entries s) → entry_at b' x ≡ vacant
      vacants x c = let r = entry_within s x c in zero_vacant b' x (zeros x (omega (arith, r.low, r.high)))

      deep : 1 ≤ w.above.e
      deep = omega (
        arith,
        leads_depth b ns (page_count b) 0 (suc w.above.e) w.above.t w.above.leads,
        leads_many (view b) (headed b) ns (page_count b) 0 (suc w.above.e) w.above.t w.above.leads,
        count_owned f,
        w.space,
      )

      go : (e : ℕ) → w.above.e ≡ e → T (sound b') × (tree_of b' ≡ record { pages = page_count b; code = 0; root = change_at ns (fill (dir name date (empty_row 8))) (row_at (page_count b) (view b) 0) })
      go zero q = absurd (omega (arith, q, deep))
      go (suc e) q =
          let is = is_directory_lem 0x81 name 0x0100 date w.long w.dated b' w.at (made_inside f ns name date 0x81 0x0100 1 w) (made_there f ns name date 0x81 0x0100 1 w) refl in
          made_sound f ns name date 0x81 0x0100 1 w (dir name date (empty_row 8)) (a_directory name date s 0x0100) is
          (ap (λ (d : ℕ). s ∷ owned d v' s) q ∙ ap (λ (l : List ℕ). s ∷ l) (vacant_owns v' e s vacants) ∙ m.pages)
          (both_and (legal_name name) true w.legal tt)
          (subst (λ (d : ℕ). T (good_directory d v' s)) (sym q) (vacant_good v' e s vacants (nodup_entries s)))
          (λ y h. h)
          (λ rest. ap (λ (r : Row). dir name date r rest)
          (sym (ap (λ (d : ℕ). row_at d v' s) q ∙ vacant_row v' e s vacants ∙ ap empty_row (eight_entries s low))))

-- ---- the calls

-- what the lines of a granted make say
pub record Clear (b : Bytes) (ns : List Name) (n : Name) (date : Bytes) (k : ℕ) : Type 0 where
  pub reached : T (not (is_missing (walk ns (row_at (page_count b) (view b) 0))))
  pub entered : T (not (is_blocked (walk ns (row_at (page_count b) (view b) 0))))
  pub new : (r : Row) → walk ns (row_at (page_count b) (view b) 0) ≡ arrived r → T (not (is_there (lookup n.bytes r))) × T (not (eqb (heldIn r) (width r)))
  pub legal : T (legal_name n.bytes)
  pub long : length n.bytes ≡ 16
  pub dated : length date ≡ 8
  pub space : k ≤ zero_bits b (page_count b)

pub place_of : {b : Bytes} → Facts b → {ns : List Name} {n : Name} {date : Bytes} {k : ℕ} → Clear b ns n date k → Place b ns n.bytes date k
unfolding EffectOf.lowest_vacant
place_of {b} f {ns} {n} c =
    let p = parent f c.reached c.entered in
    let r = c.new (row_at (suc p.e) (view b) p.t) p.row in
    record {
      above = p;
      at = lowest_vacant b p.t;
      found = Any.some_vacant (view b) p.e p.t r.1;
      legal = c.legal;
      apart = Any.not_named (view b) p.e p.t n.bytes r.0;
      long = c.long;
      dated = c.dated;
      space = c.space;
    }

pub made_position : {b : Bytes} {ns : List Name} (n : Name) (date : Bytes) (fl z k : ℕ) (p : Parent b ns)
    → made fl z k (below ns n) date b ≡ made_at fl z k n.bytes date (lowest_vacant b p.t) b
unfolding EffectOf.made arrived_or
made_position {b} n date fl z k p = ap (λ (v : Walked ℕ). made_at fl z k n.bytes date (lowest_vacant b (arrived_or 0 v)) b) p.page

pub file_tree : {b : Bytes} → Facts b → {ns : List Name} {n : Name} {date : Bytes} → Clear b ns n date (pages_for 0)
    → T (sound (file_made (below ns n) date b))
    × (tree_of (file_made (below ns n) date b) ≡ record { pages = page_count b; code = 0; root = change_at ns (fill (file false n.bytes date [])) (row_at (page_count b) (view b) 0) })
unfolding place_of
file_tree {b} f {ns} {n} {date} c =
    subst (λ (b' : Bytes). T (sound b') × (tree_of b' ≡ record { pages = page_count b; code = 0; root = change_at ns (fill (file false n.bytes date [])) (row_at (page_count b) (view b) 0) }))
    (sym (made_position n date 0x80 0 (pages_for 0) (parent f c.reached c.entered)))
    (file_sound f (place_of f c))

pub directory_tree : {b : Bytes} → Facts b → {ns : List Name} {n : Name} {date : Bytes} → Clear b ns n date 1
    → T (sound (directory_made (below ns n) date b))
    × (tree_of (directory_made (below ns n) date b) ≡ record { pages = page_count b; code = 0; root = change_at ns (fill (dir n.bytes date (empty_row 8))) (row_at (page_count b) (view b) 0) })
unfolding place_of
directory_tree {b} f {ns} {n} {date} c =
    subst (λ (b' : Bytes). T (sound b') × (tree_of b' ≡ record { pages = page_count b; code = 0; root = change_at ns (fill (dir n.bytes date (empty_row 8))) (row_at (page_count b) (view b) 0) }))
    (sym (made_position n date 0x81 0x0100 1 (parent f c.reached c.entered)))
    (directory_sound f (place_of f c))
