-- A sound image gives what the changes ask, for a directory that some names lead to and for its entries: the pages of both are marked, owned once and apart,
-- and an entry lies on a page of its directory behind the header's fields.
use mathlib.Core.Path.{◌≡◌, refl, sym, ap, ap₂, ◌∙◌, subst}
use Prim.Native.Nat.{ℕ, suc, ◌+◌, ◌-◌, ◌*◌, ◌/◌, ◌≤◌, ◌<◌, max}
use native.Mathlib.Nat.{mul-le-mul_left, mul_comm, div-add-mod', mod-lt}
use native.Mathlib.Omega.{arith}
use mathlib.Core.Bool.{Bool}
use mathlib.Core.Option.{some, get_or}
use mathlib.Core.List.{List, ◌++◌, foldl}
use lib.ListN.{length, set}
use lib.Dec.{T, eqb, eqb→eq}
use Rattle.volume.specs.Bytes.{Bytes, byte_at, put}
use Rattle.volume.specs.Lists.{all, first}
use Rattle.volume.specs.Chain.{chain, beyond, linked}
use Rattle.volume.specs.Field.{load}
use Rattle.volume.specs.Geometry as On
use Rattle.volume.specs.Geometry.{Geometry}
use Rattle.volume.proofs.Occ.{occ, Mem, Nodup, occ_append, sum_one, sum_occ, under_of_mem}
use Rattle.volume.proofs.Tests.{and_both, first_found}
use Rattle.volume.proofs.Chains.{chain_length, last_in, beyond_suc}
use Rattle.volume.proofs.Puts.{put_in}
use Rattle.volume.proofs.Lawful.{Sized}
use Rattle.volume.proofs.Grow.{Held, Room}
use Rattle.volume.proofs.Growing.{Growing}
use Rattle.volume.proofs.Entries.{edited_is, made_room}
use Rattle.volume.proofs.Longer.{Chained}
use Rattle.volume.proofs.Writes.{Beside}
use Rattle.volume.proofs.Releasing.{Returned}
use Rattle.model.specs.Name.{legal_name}
use Rattle.model.specs.Entry.{Entry, a_file, a_directory}
use Rattle.model.specs.Sound.{pages_of, pages_at, good_entry, good_directory, owned}
use Rattle.model.specs.View.{View}
use Rattle.model.specs.Path.{Name}
use Rattle.model.specs.EffectOf.{is_vacant, lowest_vacant, made_in}
use Rattle.view_laws.proofs.Owns.{own}
use Rattle.view_laws.proofs.Level.{good_split}
use Rattle.view_laws.proofs.Focus.{Leads}
use Rattle.view_laws.proofs.Counting.{count_owned}
use Rattle.view_laws.proofs.Slots.{Real, Owned, directory_page, entry_apart, entry_owned}
use Rattle.view_laws.proofs.Shelf.{Lies, lies}
use Rattle.model2.specs.Layout.{page_size, page_count, geometry2, pages_for, code_in}
use Rattle.model2.specs.Entry.{is_locked, name_at, start_field, start_at, date_at, entry_at, new_entry}
use Rattle.model2.specs.Version2.{linked_pages, next_by, view2, layout2}
use Rattle.laws2.proofs.Bounds.{bounds}
use Rattle.laws2.proofs.Lawful2.{lawful2, links2}
use Rattle.laws2.proofs.NewEntry2.{new_length, new_start}
use Rattle.laws2.proofs.Version2.{tabled, shelved2, sized2}
use Rattle.shape.specs.declared.Shape.{Shape}
use Rattle.shape.specs.Geometry.{geometry_of}
use Rattle.cursor2.specs.Row.{row}
use Rattle.cursor2.proofs.Views.{roomy, row_view, all_lie}
use Rattle.known2.specs.Known.{Known}
use Rattle.changes2.specs.Asked.{home_in, Walkable, Lengthening, Making, Writing}
use Rattle.changes2.proofs.Directories.{linked_some}
use Rattle.changes2.proofs.Chains2.{returned_of}
use Rattle.changes2.proofs.Formed2.{at_shape, page_small, grow_able, links_fit2, words_lie2}
use Rattle.changes2.proofs.Writes2.{file_fields}

-- pages that differ and lie in the image are no more than it has
few_pages : (N : ℕ) (ps : List ℕ) → Nodup ps → ((q : ℕ) → Mem q ps → q < N) → length ps ≤ N
few_pages N ps once h = omega (arith, sum_occ ps N (under_of_mem N ps h), sum_one (λ q. occ q ps) N (λ q l. once q))

-- so many bytes as the pages have, at most
size_few : (size s P : ℕ) → 1 ≤ size → pages_for size s ≤ P → s ≤ size * P
unfolding pages_for
size_few size s P h l =
    let q : ℕ = (s + (size - 1)) / size in
    omega (arith, div-add-mod' (s + (size - 1)) size, mod-lt (s + (size - 1)) h, mul_comm q size, mul-le-mul_left {m = q} {n = P} size (omega (arith, l)))

module _ {b : Bytes} {s : Shape} {n : ℕ} (k : Known b s n) where
  abbrev v : View
  v = view2 b

  abbrev G : Geometry
  G = geometry2 (code_in b) (length b)

  abbrev N : ℕ
  N = page_count (code_in b) (length b)

  abbrev H : ℕ → ℕ
  H = home_in b

  sized : Sized G N b
  sized = sized2 k.formed.allowed b refl

  -- the free pages and those of an entry are few
  zeros_few : On.zero_bits G b N ≤ 1024
  zeros_few = omega (arith, count_owned (tabled k.formed.allowed).some k.facts, (bounds k.formed.allowed).few)

  module _ {ps : List ℕ} (o : Owned v ps) where
    owned_few : length ps ≤ 1024
    owned_few = omega (arith, few_pages N ps o.once (λ q m. (o.inside q m).1), (bounds k.formed.allowed).few)

  -- a chain that an entry owns can be given back
  owned_returned : (j p : ℕ) → Owned v (chain (next_by (code_in b) (length b) b) j p) → Returned G b j p
  owned_returned j p o =
      returned_of (lawful2 (tabled k.formed.allowed)) b sized j p (λ q m. let r = o.inside q m in (r.0, r.1))
      (omega (arith, owned_few o, chain_length (next_by (code_in b) (length b) b) j p, zeros_few, k.facts.counted))

  -- the pages of a directory, as the shape has them
  same_pages : (p : ℕ) → linked_pages (On.next (geometry_of s) b) n p ≡ v.directory_pages p
  same_pages p = ap₂ (λ (g : Geometry) (m : ℕ). linked_pages (On.next g b) m p) k.formed.made k.formed.count

  walkable : (p : ℕ) → ((q : ℕ) → Mem q (v.directory_pages p) → q < N) → Walkable s n p b
  walkable p h = record {
    roomy = roomy k.formed.allowed s n k.formed.made k.formed.count;
    some = omega (arith, k.formed.count, (bounds k.formed.allowed).some);
    lie = all_lie k.formed.allowed s n k.formed.made k.formed.count b refl (linked_pages (On.next (geometry_of s) b) n p)
        (λ q m. omega (arith, k.formed.count, h q (subst (Mem q) (same_pages p) m)));
  }

  -- ---- a directory that some names lead to

  module _ (ns : List Name) (e t : ℕ) (leads : Leads v v.pages 0 ns (suc e) t) where
    page_of : (q : ℕ) → Mem q (v.directory_pages t) → Real v q × (On.page_bit G b q ≡ 1)
    page_of q m =
        let w = shelved2 k.formed.allowed in
        directory_page k.facts w.law.header w.high (w.rooted b) ns (suc e) t q leads m

    pub directory_walkable : Walkable s n t b
    directory_walkable = walkable t (λ q m. (page_of q m).0.1)

    -- it can get a page more, if one is free
    pub directory_lengthening : T (v.directory_ends t) → 1 ≤ On.zero_bits G b N → Lengthening s n t b
    directory_lengthening ends enough = record {
      formed = k.formed;
      walk = directory_walkable;
      growing = at_shape k.formed (λ g m. Growing g m 1 (g.link (beyond (On.next g b) (linked (On.next g b) m t - 1) t)) b) grows;
    }
      where
        next : ℕ → ℕ
        next = next_by (code_in b) (length b) b

        j : ℕ
        j = linked next N t - 1

        whole : linked next N t ≡ suc j
        whole = omega (arith, linked_some next N t (omega (arith, (bounds k.formed.allowed).some)))

        last : ℕ
        last = beyond next j t

        real : Real v last × (On.page_bit G b last ≡ 1)
        real = page_of last (subst (λ (i : ℕ). Mem last (chain next i t)) (sym whole) (last_in next j t))

        room : Room G H N 1 (G.link last) last b
        room = record {
          size = sized;
          aside = k.facts.aside;
          enough = enough;
          held = record {
            inside = omega (arith, sized, (lawful2 (tabled k.formed.allowed)).links_in last real.0.1);
            bytes = λ i l u. ((lawful2 (tabled k.formed.allowed)).of_link last i real.0.1 l u, links2 (tabled k.formed.allowed) last i real.0.1 l u);
            page = real.0.1;
            marked = real.1;
          };
          empty = sym (beyond_suc next j t) ∙ ap (λ (i : ℕ). beyond next i t) (sym whole)
              ∙ eqb→eq (beyond next (linked next N t) t) 0 ends;
        }

        grows : Growing G N 1 (G.link last) b
        grows = record {
          home = H;
          lawful = lawful2 (tabled k.formed.allowed);
          words = words_lie2 k.formed.allowed b refl;
          fits = λ p h. links_fit2 k.formed.allowed last p h;
          links = links_fit2 k.formed.allowed;
          counted = omega (arith, enough, k.facts.counted);
          own = last;
          room = room;
        }

    -- ---- an entry of it

    module _ (at : ℕ) (m : Mem at (v.entries t)) where
      here : Lies (shelved2 k.formed.allowed) k.facts ns e t leads at
      here = lies (shelved2 k.formed.allowed) k.facts ns e t leads at m

      pub entry_inside : at + 32 ≤ length b
      entry_inside = here.inside sized

      -- so many bytes of the entry
      held : (i j : ℕ) → i + j ≤ 32 → Held G H N (at + i) j here.page b
      held i j h = record {
        inside = omega (arith, entry_inside, h);
        bytes = λ x l u. here.bytes x (omega (arith, l)) (omega (arith, u, h));
        page = here.real;
        marked = here.marked;
      }

      owns : Owned v (own e v (entry_at b at))
      owns = entry_owned k.facts ns e t at leads m

      -- ---- a file

      module _ {locked : Bool} {name date : Bytes} {start size : ℕ} (is : entry_at b at ≡ a_file locked name date start size) where
        abbrev j : ℕ
        j = pages_for (page_size (code_in b)) size

        abbrev ps : List ℕ
        ps = chain (next_by (code_in b) (length b) b) j start

        file_owned : Owned v ps
        unfolding own pages_of
        file_owned = subst (λ (x : Entry). Owned v (own e v x)) is owns

        file_apart : occ here.page ps ≡ 0
        unfolding own pages_of
        file_apart =
            let w = shelved2 k.formed.allowed in
            sym (ap (λ (x : Entry). occ here.page (own e v x)) is)
            ∙ entry_apart k.facts w.law.header w.high (w.rooted b) ns e t at here.page leads m here.of

        file_ends : T (good_directory (suc e) v t) → beyond (next_by (code_in b) (length b) b) j start ≡ 0
        unfolding good_entry
        file_ends good =
            let g = subst (λ (x : Entry). T (good_entry v x)) is ((good_split e v t good).each at m) in
            eqb→eq (beyond (next_by (code_in b) (length b) b) j start) 0 (and_both (legal_name name) (eqb (beyond (next_by (code_in b) (length b) b) j start) 0) g).1

        pub file_returned : Returned (geometry_of s) b (pages_for s.size size) start
        file_returned = subst (λ (g : Geometry). Returned g b (pages_for g.size size) start) (sym k.formed.made) (owned_returned j start file_owned)

        -- what a remove then makes of the bytes
        pub file_removed : set (foldl (On.released (geometry_of s)) b (chain (On.next (geometry_of s) b) (pages_for s.size size) start)) at 0
            ≡ set (foldl (On.released v.geometry) b (pages_at v at)) at 0
        unfolding pages_of
        file_removed =
            ap (λ (g : Geometry). set (foldl (On.released g) b (chain (On.next g b) (pages_for g.size size) start)) at 0) k.formed.made
            ∙ ap (λ (x : Entry). set (foldl (On.released G) b (pages_of v x)) at 0) (sym is)

        chained : T (good_directory (suc e) v t) → Chained G H N b (start_field at) here.page j
        chained good =
            let same : start ≡ start_at b at = sym (file_fields b at is).starts in
            record {
              size = sized;
              aside = k.facts.aside;
              held = held 17 2 (omega arith);
              apart = subst (λ (p : ℕ). occ here.page (chain (next_by (code_in b) (length b) b) j p) ≡ 0) same file_apart;
              pages = (subst (λ (p : ℕ). Owned v (chain (next_by (code_in b) (length b) b) j p)) same file_owned).inside;
              once = (subst (λ (p : ℕ). Owned v (chain (next_by (code_in b) (length b) b) j p)) same file_owned).once;
              ends = subst (λ (p : ℕ). beyond (next_by (code_in b) (length b) b) j p ≡ 0) same (file_ends good);
            }

        beside : Beside G H N (start_field at) here.page (at + 19) 4 b
        beside =
            let h = held 19 4 (omega arith) in
            record { inside = h.inside; bytes = λ i l u. ((h.bytes i l u).0, (h.bytes i l u).1, λ y. omega (arith, l)) }

        is_read : entry_at b at ≡ a_file (is_locked b at) (name_at b at) (date_at b at) start size
        is_read =
            let o = file_fields b at is in
            is ∙ ap (λ (x : Bool). a_file x name date start size) (sym o.locks)
            ∙ ap₂ (λ (x y : Bytes). a_file (is_locked b at) x y start size) (sym o.names) (sym o.dates)

        -- the new size fits four bytes: its pages are those held and free ones
        module _ (good : T (good_directory (suc e) v t)) (from : ℕ) (w : Bytes) (begins : from ≤ size)
            (space : pages_for (page_size (code_in b)) (max size (from + length w)) - j ≤ On.zero_bits G b N) where
          fits : max size (from + length w) < 4294967296
          fits =
              let z : ℕ = max size (from + length w) in
              let c = bounds k.formed.allowed in
              let mine : j ≤ 1024 = omega (arith, owned_few file_owned, chain_length (next_by (code_in b) (length b) b) j start) in
              omega (arith, size_few (page_size (code_in b)) z 2048 (omega (arith, c.large)) (omega (arith, space, mine, zeros_few)), c.bound)

          pub file_writing : Writing s n at start size from w b
          file_writing = record {
            formed = k.formed;
            inside = entry_inside;
            is = is_read;
            begins = begins;
            own = here.page;
            chained = at_shape k.formed (λ g i. Chained g H i b (start_field at) here.page (pages_for g.size size)) (chained good);
            beside = at_shape k.formed (λ g i. Beside g H i (start_field at) here.page (at + 19) 4 b) beside;
            counted = at_shape k.formed (λ g i. On.free_count g b ≡ On.zero_bits g b i) k.facts.counted;
            space = at_shape k.formed (λ g i. pages_for g.size (max size (from + length w)) - pages_for g.size size ≤ On.zero_bits g b i) space;
            fits = fits;
          }

      -- ---- a directory

      module _ {name date : Bytes} {start size : ℕ} (is : entry_at b at ≡ a_directory name date start size) where
        inner_owned : Owned v (v.directory_pages start)
        unfolding own
        inner_owned =
            let o : Owned v (v.directory_pages start ++ owned e v start) = subst (λ (x : Entry). Owned v (own e v x)) is owns in
            let two : (q : ℕ) → occ q (v.directory_pages start ++ owned e v start) ≡ occ q (v.directory_pages start) + occ q (owned e v start) =
            λ q. occ_append q (v.directory_pages start) (owned e v start) in
            record { inside = λ q c. o.inside q (omega (arith, c, two q)); once = λ q. omega (arith, o.once q, two q) }

        -- it can be gone through, and its pages given back
        pub inner_walkable : Walkable s n start b
        inner_walkable = walkable start (λ q c. (inner_owned.inside q c).1)

        pub inner_returned : Returned (geometry_of s) b (linked (On.next (geometry_of s) b) n start) start
        inner_returned = at_shape k.formed (λ g i. Returned g b (linked (On.next g b) i start) start)
            (owned_returned (linked (next_by (code_in b) (length b) b) N start) start inner_owned)

        pub inner_removed : set (foldl (On.released (geometry_of s)) b (chain (On.next (geometry_of s) b) (linked (On.next (geometry_of s) b) n start) start)) at 0
            ≡ set (foldl (On.released v.geometry) b (pages_at v at)) at 0
        unfolding pages_of
        inner_removed =
            ap₂ (λ (g : Geometry) (i : ℕ). set (foldl (On.released g) b (linked_pages (On.next g b) i start)) at 0) k.formed.made k.formed.count
            ∙ ap (λ (x : Entry). set (foldl (On.released G) b (pages_of v x)) at 0) (sym is)

    -- ---- a new entry, in the lowest vacant one

    module _ {at : ℕ} (found : first (λ x. is_vacant (entry_at b x)) (v.entries t) ≡ some at) (fl z i : ℕ) (name date : Bytes) where
      pub entry_making : length name ≡ 16 → length date ≡ 8 → z < 4294967296 → i ≤ On.zero_bits G b N → Making s n at fl z i name date b
      entry_making ln ld hz hi =
          let m = (first_found (λ x. is_vacant (entry_at b x)) (v.entries t) at found).0 in
          let w : Bytes = new_entry fl name z date in
          let l : length w ≡ 32 = new_length fl name z date ln ld in
          let u = held at m 0 32 (omega arith) in
          let h : Held G H N at (length w) (here at m).page b = record {
            inside = omega (arith, u.inside, l);
            bytes = λ x y d. u.bytes x (omega (arith, y)) (omega (arith, d, l));
            page = u.page;
            marked = u.marked;
          } in
          let edited = edited_is G H N at (here at m).page w b h in
          let room : Room G H N i (start_field at) (here at m).page (put at w b) =
          made_room (lawful2 (tabled k.formed.allowed)) b at (here at m).page w (start_field at) i sized k.facts.aside (tabled k.formed.allowed).some h
          (omega arith) (omega (arith, l)) (no_start h.inside l ln ld) hi in
          record {
            inside = entry_inside at m;
            long = ln;
            dated = ld;
            sized = hz;
            growing = grow_able k.formed edited.size (page_small k.formed)
                (at_shape k.formed (λ g j. i ≤ On.free_count g (put at w b)) (omega (arith, hi, edited.count, k.facts.counted)))
                (at_shape k.formed (λ g j. Room g H j i (start_field at) (here at m).page (put at w b)) room);
          }
        where
          no_start : at + length (new_entry fl name z date) ≤ length b → length (new_entry fl name z date) ≡ 32 → length name ≡ 16 → length date ≡ 8
              → load (start_field at) (put at (new_entry fl name z date) b) ≡ 0
          no_start fits l ln ld =
              let w : Bytes = new_entry fl name z date in
              let x : byte_at (put at w b) (at + 17) ≡ byte_at w 17 = put_in at w b fits 17 (omega (arith, l)) in
              let there : at + 17 + 1 ≡ at + 18 = omega arith in
              let y : byte_at (put at w b) (at + 17 + 1) ≡ byte_at w 18 = ap (byte_at (put at w b)) there ∙ put_in at w b fits 18 (omega (arith, l)) in
              omega (arith, x, y, new_start fl name z date ln ld)

      -- what a make then makes of the bytes
      pub entry_made : On.grown (geometry_of s) n i (start_field at) (put at (new_entry fl name z date) b) ≡ made_in layout2 fl z i name date t v
      unfolding lowest_vacant
      entry_made =
          ap₂ (λ (g : Geometry) (j : ℕ). On.grown g j i (start_field at) (put at (new_entry fl name z date) b)) k.formed.made k.formed.count
          ∙ ap (λ (x : ℕ). On.grown G N i (start_field x) (put x (new_entry fl name z date) b)) (sym (ap (λ o. get_or o 0) found))

  -- ---- the entries of a directory, as the shape has them

  pub vacant_view : (p : ℕ) → all (λ at. is_vacant (entry_at b at)) (row s n b p) ≡ all (λ at. is_vacant (v.entry_at at)) (v.entries p)
  vacant_view p = ap (all (λ at. is_vacant (entry_at b at))) (row_view k.formed.allowed s n k.formed.made k.formed.count b p)
