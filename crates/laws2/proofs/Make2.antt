-- A granted make of version 2: the parent has room, being lengthened first if it is full, and its lowest empty entry becomes the new one, with the pages gained;
-- so the tree gains it and nothing else changes.
use mathlib.Core.Path.{◌≡◌, refl, sym, ap, ◌∙◌, subst}
use mathlib.Core.Logic.{◌≢◌, inr}
use Prim.Native.Nat.{ℕ, zero, suc, ◌+◌, ◌/◌, ◌≤◌, ◌<◌}
use native.Mathlib.Omega.{arith}
use mathlib.Core.Bool.{true, false, not, ◌&&◌}
use mathlib.Core.Option.{Option, some, get_or}
use mathlib.Core.List.{List, [], ◌∷◌, ◌++◌, flat_map, append-nil, tail}
use lib.ListN.{length, length-append}
use lib.Dec.{T, eqb, eqb_refl}
use Rattle.volume.specs.Bytes.{Bytes, byte_at, put}
use Rattle.std.specs.Prelude.{if◌then◌else◌}
use Rattle.volume.specs.Lists.{first}
use Rattle.volume.specs.Chain.{chain, beyond, linked}
use Rattle.volume.specs.Field.{load}
use Rattle.volume.specs.Geometry as On
use Rattle.volume.proofs.Occ.{occ, Mem, Nodup, hit_refl, not_mem}
use Rattle.volume.proofs.Tests.{both_and, first_found, eq-eqb}
use Rattle.volume.proofs.Puts.{put_in}
use Rattle.volume.proofs.Lawful.{Kept}
use Rattle.volume.proofs.Grow.{Gained}
use Rattle.volume.proofs.Entries.{Made}
use Rattle.model.specs.Name.{legal_name}
use Rattle.model.specs.Entry.{Entry, vacant, a_file, a_directory}
use Rattle.model.specs.View.{View}
use Rattle.model.specs.Sound.{pages_of, good_entry, is_named, same_name, in_directory, good_directory, owned}
use Rattle.model.specs.Tree.{Row, file, dir, empty_row, is_full, Node, fill, placed}
use Rattle.model.specs.Path.{Name, below}
use Rattle.model.specs.Image.{content_of, entry_row, row_at, tree_in}
use Rattle.model.specs.Walk.{Walked, arrived_or, change_at}
use Rattle.model.specs.EffectOf.{is_vacant, lowest_vacant, roomy, made_in, made, file_made, directory_made}
use Rattle.model.specs.RefusalOf.{is_there, numbers_for}
use Rattle.model.specs.MeaningOf.{sound, in_parent, tree_of}
use Rattle.view_laws.proofs.Owns.{own}
use Rattle.view_laws.proofs.Facts.{Facts}
use Rattle.view_laws.proofs.Focus.{leads_depth}
use Rattle.view_laws.proofs.Counting.{count_owned}
use Rattle.view_laws.proofs.Walks.{Parent, parent}
use Rattle.view_laws.proofs.Ways.{leads_many}
use Rattle.view_laws.proofs.Rows.{change_twice}
use Rattle.view_laws.proofs.Vacant.{vacant_row, vacant_owns, vacant_good}
use Rattle.view_laws.proofs.Chained.{linked_is}
use Rattle.view_laws.proofs.Making as Any
use Rattle.version_laws.proofs.Passed.{Clear}
use Rattle.version_laws.proofs.Grants.{Says}
use Rattle.model2.specs.Layout.{page_size, page_count, geometry2, pages_for, code_in}
use Rattle.model2.specs.Entry.{start_field, start_at, entry_at, new_entry}
use Rattle.model2.specs.Version2.{entries_on, next_by, view_by, view2, layout2}
use Rattle.model2.specs.Calls.{v2}
use Rattle.laws2.proofs.Bounds.{Allowed, bounds}
use Rattle.laws2.proofs.Version2.{shelf2, view_stays, page_entries_lem, tabled, slots, shelved2, sized2, code_kept, head_home}
use Rattle.laws2.proofs.Facts2.{Sound2, sound_facts_lem, afterwards2}
use Rattle.laws2.proofs.Counts2.{counted2}
use Rattle.laws2.proofs.Targets2.{parent_ends, entry_lies, behind_header}
use Rattle.laws2.proofs.Growth2.{widened, Roomy, roomy_is}
use Rattle.laws2.proofs.NewEntry2.{new_length, new_start, is_file_lem, is_directory_lem}

-- ---- a new entry with k new pages

-- where a make works: the parent, its lowest vacant entry, and a name and a date of the right length
pub record Place (code n : ℕ) (b : Bytes) (ns : List Name) (name date : Bytes) (k : ℕ) : Type 0 where
  pub size : length b ≡ n
  pub facts : Facts (view_by code n b)
  pub above : Parent (view_by code n b) ns
  pub at : ℕ
  pub found : first (λ x. is_vacant (entry_at b x)) ((view_by code n b).entries above.t) ≡ some at
  pub legal : T (legal_name name)
  pub apart : (x : ℕ) → Mem x ((view_by code n b).entries above.t) → T (not (is_named name (entry_at b x)))
  pub long : length name ≡ 16
  pub dated : length date ≡ 8
  pub space : k ≤ On.zero_bits (geometry2 code n) b (page_count code n)

abbrev pub made_at2 : (code n flags size k : ℕ) (name date : Bytes) (at : ℕ) → Bytes → Bytes
made_at2 code n flags size k name date at b = On.grown (geometry2 code n) (page_count code n) k (start_field at) (put at (new_entry flags name size date) b)

module _ {code n : ℕ} (a : Allowed code n) {b : Bytes} {ns : List Name} {name date : Bytes} (fl z k : ℕ) (w : Place code n b ns name date k) where
  abbrev new : Bytes
  new = new_entry fl name z date

  new_long : length new ≡ 32
  new_long = new_length fl name z date w.long w.dated

  ends : T ((view_by code n b).directory_ends w.above.t)
  ends = parent_ends a w.facts w.above

  entry : Mem w.at ((view_by code n b).entries w.above.t)
  entry = (first_found (λ x. is_vacant (entry_at b x)) ((view_by code n b).entries w.above.t) w.at w.found).0

  inside : w.at + 32 ≤ length b
  inside = (entry_lies a w.facts w.above w.at entry).inside (sized2 a b w.size)

  -- the new entry's start page is 0 before it is given one
  no_start : load (start_field w.at) (put w.at new b) ≡ 0
  no_start =
      let l = new_long in
      let fits : w.at + length new ≤ length b = omega (arith, l, inside) in
      let x : byte_at (put w.at new b) (w.at + 17) ≡ byte_at new 17 = put_in w.at new b fits 17 (omega (arith, l)) in
      let e : w.at + 17 + 1 ≡ w.at + 18 = omega arith in
      let y : byte_at (put w.at new b) (w.at + 17 + 1) ≡ byte_at new 18 = ap (byte_at (put w.at new b)) e ∙ put_in w.at new b fits 18 (omega (arith, l)) in
      omega (arith, x, y, new_start fl name z date w.long w.dated)

  abbrev qs : List ℕ
  qs = On.gained (geometry2 code n) (page_count code n) k b

  pub made_bytes2 : Made (geometry2 code n) (shelf2 code n).home (page_count code n) b (made_at2 code n fl z k name date w.at b) w.at new (start_field w.at) k qs
  made_bytes2 = Any.made_bytes (shelved2 a) (sized2 a b w.size) w.facts ns w.above.e w.above.t w.at k new (start_field w.at)
      w.above.leads w.above.good ends w.found w.space new_long (omega arith) (omega arith) no_start

  pub made_gained2 : Gained (geometry2 code n) (page_count code n) k b
  made_gained2 = Any.made_gained (shelved2 a) (sized2 a b w.size) w.facts ns w.above.e w.above.t w.at k new (start_field w.at)
      w.above.leads w.above.good ends w.found w.space new_long (omega arith) (omega arith) no_start

  -- the header's fields stay
  pub made_head : (i : ℕ) → i < 7 → Kept (geometry2 code n) (page_count code n) i → byte_at (made_at2 code n fl z k name date w.at b) i ≡ byte_at b i
  made_head i l h =
      made_bytes2.rest i h (λ u. absurd (omega (arith, u, l, behind_header a w.facts w.above w.at entry)))
      (ap (λ (q : ℕ). occ q qs) (head_home a i l) ∙ not_mem 0 qs (λ m. omega (arith, (made_gained2.new 0 m).0, (tabled a).one)))

  -- the entry's bytes but its start page
  there : (i : ℕ) → i < 32 → i ≢ 17 → i ≢ 18 → byte_at (made_at2 code n fl z k name date w.at b) (w.at + i) ≡ byte_at new i
  there i l ne other = made_bytes2.there i (omega (arith, l, new_long)) (λ u. omega (arith, u, ne, other))

  inside' : w.at + 32 ≤ length (made_at2 code n fl z k name date w.at b)
  inside' = omega (arith, made_bytes2.size, inside)

  -- what the new entry must be like; the rest follows
  made_sound2 : let v' = view_by code n (made_at2 code n fl z k name date w.at b) in (h : Row → Row) (x : Entry) → v'.entry_at w.at ≡ x
      → own w.above.e v' x ≡ qs → T (good_entry v' x) → T (in_directory true (good_directory w.above.e v') x)
      → ((y : Entry) → T (not (is_named name y)) → T (not (same_name x y)))
      → ((rest : Row) → h rest ≡ entry_row v' (row_at w.above.e v') x rest)
      → Facts v' × (row_at (page_count code n) v' 0 ≡ change_at ns (fill h) (row_at (page_count code n) (view_by code n b) 0))
  made_sound2 h x is mine good sub apart means =
      Any.made_sound (shelved2 a) (sized2 a b w.size) w.facts ns w.above.e w.above.t w.at k new (start_field w.at)
      w.above.leads w.above.good ends w.found w.space new_long (omega arith) (omega arith) no_start
      h x name is mine good sub w.apart apart means

-- ---- a file: its pages are those that size 0 wants

module _ {code n : ℕ} (a : Allowed code n) {b : Bytes} {ns : List Name} {name date : Bytes} (w : Place code n b ns name date (pages_for (page_size code) 0)) where
  pub file_made_lem : let v' = view_by code n (made_at2 code n 0x80 0 (pages_for (page_size code) 0) name date w.at b) in
      Facts v' × (row_at (page_count code n) v' 0 ≡ change_at ns (fill (file false name date [])) (row_at (page_count code n) (view_by code n b) 0))
  unfolding own pages_of good_entry same_name entry_row content_of
  file_made_lem =
      let k : ℕ = pages_for (page_size code) 0 in
      let b' : Bytes = made_at2 code n 0x80 0 k name date w.at b in
      let m = made_bytes2 a 0x80 0 k w in
      made_sound2 a 0x80 0 k w (file false name date []) (a_file false name date (start_at b' w.at) 0)
      (is_file_lem 0x80 name 0 date w.long w.dated b' w.at (inside' a 0x80 0 k w) (there a 0x80 0 k w) refl)
      m.pages
      (both_and (legal_name name) (eqb (beyond (next_by code n b') k (start_at b' w.at)) 0) w.legal (eq-eqb m.ends))
      tt (λ y h. h) (λ rest. refl)

-- ---- a directory: its page is all zero, so all its entries are vacant

module _ {code n : ℕ} (a : Allowed code n) {b : Bytes} {ns : List Name} {name date : Bytes} (w : Place code n b ns name date 1) where
  abbrev b' : Bytes
  b' = made_at2 code n 0x81 (page_size code) 1 name date w.at b

  abbrev v' : View
  v' = view_by code n b'

  m : Made (geometry2 code n) (shelf2 code n).home (page_count code n) b b' w.at (new_entry 0x81 name (page_size code) date) (start_field w.at) 1
      (On.gained (geometry2 code n) (page_count code n) 1 b)
  m = made_bytes2 a 0x81 (page_size code) 1 w

  abbrev s : ℕ
  s = start_at b' w.at

  page : s ∷ [] ≡ On.gained (geometry2 code n) (page_count code n) 1 b
  unfolding chain
  page = m.pages

  mem : Mem s (On.gained (geometry2 code n) (page_count code n) 1 b)
  mem = subst (λ (ps : List ℕ). Mem s ps) page (omega (arith, hit_refl s))

  -- it is a page of its own, which ends it
  alone : linked (next_by code n b') (page_count code n) s ≡ 1
  unfolding chain
  alone = linked_is (next_by code n b') 0 (page_count code n) s (omega (arith, (bounds a).some)) (λ q k. absurd (omega (arith, k))) m.ends

  pages : v'.directory_pages s ≡ s ∷ []
  unfolding chain
  pages = ap (λ (k : ℕ). chain (next_by code n b') k s) alone

  ended : T (v'.directory_ends s)
  ended = subst (λ (k : ℕ). T (eqb (beyond (next_by code n b') k s) 0)) (sym alone) (eq-eqb m.ends)

  positions : v'.entries s ≡ entries_on (page_size code) (page_count code n) s
  unfolding flat_map
  positions = ap (flat_map (entries_on (page_size code) (page_count code n))) pages ∙ append-nil (entries_on (page_size code) (page_count code n) s)

  vacants : (x : ℕ) → Mem x (v'.entries s) → v'.entry_at x ≡ vacant
  vacants x c =
      let on : Mem x (entries_on (page_size code) (page_count code n) s) = subst (Mem x) positions c in
      let new = (made_gained2 a 0x81 (page_size code) 1 w).new s mem in
      let r = (slots a).inside s x new.0 on in
      (slots a).empty b' x (m.zeroed s x mem r.0 (omega (arith, r.1)) ((slots a).clear s x x (inr new.0, new.1) on (omega arith) (omega arith)))

  -- the tree is deeper than the parent, since a page is free
  deep : 1 ≤ w.above.e
  deep =
      let v = view_by code n b in
      omega (
        arith,
        leads_depth v ns (page_count code n) 0 (suc w.above.e) w.above.t w.above.leads,
        leads_many v ((shelved2 a).regular b).headed ns (page_count code n) 0 (suc w.above.e) w.above.t w.above.leads,
        count_owned (tabled a).some w.facts,
        length-append (tail (v.directory_pages 0)) (owned (page_count code n) v 0),
        (tabled a).one,
        w.space,
      )

  pub directory_made_lem : Facts v'
      × (row_at (page_count code n) v' 0 ≡ change_at ns (fill (dir name date (empty_row (page_size code / 32)))) (row_at (page_count code n) (view_by code n b) 0))
  unfolding own good_entry same_name entry_row
  directory_made_lem = go w.above.e refl
    where
      go : (e : ℕ) → w.above.e ≡ e → Facts v'
          × (row_at (page_count code n) v' 0 ≡ change_at ns (fill (dir name date (empty_row (page_size code / 32)))) (row_at (page_count code n) (view_by code n b) 0))
      go zero q = absurd (omega (arith, q, deep))
      go (suc e) q =
          let low : 1 ≤ s = omega (arith, ((made_gained2 a 0x81 (page_size code) 1 w).new s mem).0, (tabled a).one) in
          made_sound2 a 0x81 (page_size code) 1 w (dir name date (empty_row (page_size code / 32))) (a_directory name date s (page_size code))
          (is_directory_lem 0x81 name (page_size code) date w.long w.dated b' w.at
          (inside' a 0x81 (page_size code) 1 w) (there a 0x81 (page_size code) 1 w) refl)
          (ap (λ (d : ℕ). v'.directory_pages s ++ owned d v' s) q
          ∙ ap (λ (l : List ℕ). v'.directory_pages s ++ l) (vacant_owns v' e s vacants)
          ∙ append-nil (v'.directory_pages s) ∙ pages ∙ page)
          (both_and (v'.directory_ends s) (legal_name name && eqb (page_size code) (page_size code)) ended
          (both_and (legal_name name) (eqb (page_size code) (page_size code)) w.legal (eqb_refl (page_size code))))
          (subst (λ (d : ℕ). T (good_directory d v' s)) (sym q)
          (vacant_good v' e s vacants (((shelved2 a).regular b').apart s
          (subst (λ (ps : List ℕ). Nodup ps) (sym (pages ∙ page)) (made_gained2 a 0x81 (page_size code) 1 w).once))))
          (λ y h. h)
          (λ rest. ap (λ (r : Row). dir name date r rest)
          (sym (ap (λ (d : ℕ). row_at d v' s) q ∙ vacant_row v' e s vacants
          ∙ ap empty_row (ap length positions ∙ page_entries_lem (page_size code) (page_count code n) s low))))

-- ---- the calls

module _ {b : Bytes} (s : Sound2 b) {ns : List Name} {n : Name} {date : Bytes} {k : ℕ} (c : Clear v2 (tree_of v2 b) ns n date k) where
  abbrev N : ℕ
  N = page_count (code_in b) (length b)

  -- an image of the same length and page code, seen
  abbrev sees : Bytes → View
  sees = view_by (code_in b) (length b)

  pub make_above2 : Parent (view2 b) ns
  unfolding tree_in
  make_above2 = parent s.facts.formed c.reached c.entered

  abbrev row : Row
  row = row_at (suc make_above2.e) (view2 b) make_above2.t

  -- the image with room for the entry
  abbrev pub make_roomy2 : Bytes
  make_roomy2 = roomy layout2 (view2 b) make_above2.t

  pub make_room2 : Roomy (code_in b) (length b) b ns row make_above2.t k make_roomy2
  unfolding tree_in
  make_room2 =
      let counts = counted2 s in
      roomy_is s.allowed b refl s.facts ns make_above2 k
      (subst (λ (m : ℕ). (if is_full row then suc k else k) ≤ m) (counts.free ∙ sym counts.zeros)
      (c.space row make_above2.row))

  pub make_place2 : Place (code_in b) (length b) make_roomy2 ns n.bytes date k
  unfolding tree_in
  make_place2 =
      let v₁ = sees make_roomy2 in
      let p = make_room2.above in
      record {
        size = make_room2.size;
        facts = make_room2.facts;
        above = p;
        at = get_or (first (λ x. is_vacant (entry_at make_roomy2 x)) (v₁.entries p.t)) 0;
        found = Any.some_vacant v₁ p.e p.t make_room2.room;
        legal = c.legal;
        apart = Any.not_named v₁ p.e p.t n.bytes
            (subst (λ (o : Option Node). T (not (is_there o))) (sym (make_room2.names n.bytes)) (c.new row make_above2.row));
        long = c.long;
        dated = c.dated;
        space = make_room2.space;
      }

  -- what the definition says is the new entry in the image with room
  pub made_position2 : (fl z : ℕ)
      → made layout2 view2 fl z k (below ns n) date b ≡ made_at2 (code_in b) (length b) fl z k n.bytes date make_place2.at make_roomy2
  unfolding made arrived_or lowest_vacant make_place2
  made_position2 fl z =
      ap (λ (u : Walked ℕ). made_in layout2 fl z k n.bytes date (arrived_or 0 u) (view2 (roomy layout2 (view2 b) (arrived_or 0 u)))) make_above2.page
      ∙ ap (λ (v : View). made_in layout2 fl z k n.bytes date make_above2.t v)
      (view_stays b make_roomy2 make_room2.size (make_room2.head 6 (omega arith) (code_kept s.allowed)))
      ∙ ap (λ (t : ℕ). made_at2 (code_in b) (length b) fl z k n.bytes date (lowest_vacant (sees make_roomy2) t) make_roomy2) (sym make_room2.there)

  says : (fl z : ℕ) (h : Row → Row) → let b' = made_at2 (code_in b) (length b) fl z k n.bytes date make_place2.at make_roomy2 in
      Facts (sees b') × (row_at N (sees b') 0 ≡ change_at ns (fill h) (row_at N (sees make_roomy2) 0))
      → Says v2 b (below ns n) (placed (numbers_for v2 (tree_of v2 b)) h) (made layout2 view2 fl z k (below ns n) date b)
  unfolding in_parent tree_in
  says fl z h r =
      let a = s.allowed in
      subst (λ (x : Bytes). Says v2 b (below ns n) (placed (numbers_for v2 (tree_of v2 b)) h) x) (sym (made_position2 fl z))
      (afterwards2 s ((made_bytes2 a fl z k make_place2).size ∙ make_room2.size) (λ i l q. made_head a fl z k make_place2 i l q ∙ make_room2.head i l q)
      (r.0, r.1 ∙ ap (change_at ns (fill h)) make_room2.means ∙ change_twice ns (widened (page_size (code_in b) / 32)) (fill h) (row_at N (view2 b) 0)))

-- as the laws of calls ask it (`Changes v2`)
pub file_tree : (b : Bytes) → T (sound v2 b) → (ns : List Name) (n : Name) (date : Bytes)
    → Clear v2 (tree_of v2 b) ns n date ((numbers_for v2 (tree_of v2 b)).pages_for 0)
    → Says v2 b (below ns n) (placed (numbers_for v2 (tree_of v2 b)) (file false n.bytes date [])) (file_made layout2 view2 (below ns n) date b)
unfolding tree_in
file_tree b h ns n date c =
    let s = sound_facts_lem h in
    says s c 0x80 0 (file false n.bytes date []) (file_made_lem s.allowed (make_place2 s c))

pub directory_tree : (b : Bytes) → T (sound v2 b) → (ns : List Name) (n : Name) (date : Bytes) → Clear v2 (tree_of v2 b) ns n date 1
    → Says v2 b (below ns n) (placed (numbers_for v2 (tree_of v2 b)) (dir n.bytes date (empty_row (numbers_for v2 (tree_of v2 b)).page_entries)))
    (directory_made layout2 view2 (below ns n) date b)
unfolding tree_in
directory_tree b h ns n date c =
    let s = sound_facts_lem h in
    says s c 0x81 (page_size (code_in b)) (dir n.bytes date (empty_row (page_size (code_in b) / 32))) (directory_made_lem s.allowed (make_place2 s c))
