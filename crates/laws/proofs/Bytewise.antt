-- Bytes stay bytes: a granted call stores bytes handed in, a legal name, a good date, numbers of pages below N ≤ 256, a count of free pages below N,
-- or a size whose pages are so many different pages of the image; and a refused call stores nothing.
use mathlib.Core.Path.{◌≡◌, sym, ap, ◌∙◌, subst}
use Prim.Native.Nat.{ℕ, zero, suc, ◌+◌, ◌-◌, ◌*◌, ◌/◌, ◌%◌, ◌≤◌, ◌<◌, max}
use native.Mathlib.Omega.{arith}
use mathlib.Core.Bool.{Bool, true, false, ◌&&◌}
use mathlib.Core.List.{List, [], ◌∷◌, ◌++◌, foldl}
use lib.ListN.{length, set, replicate}
use lib.Dec.{T, eqb, leb, eqb→eq, leb→le}
use Rattle.volume.specs.Bytes.{Bytes, byte_at, put, le16}
use Rattle.std.specs.Prelude.{if◌then◌else◌}
use Rattle.volume.specs.Lists.{all}
use Rattle.volume.specs.Field.{byte}
use Rattle.volume.specs.Geometry as On
use Rattle.volume.proofs.Occ.{occ, Mem, sum_mono, sum_occ, under_of_mem}
use Rattle.volume.proofs.Tests.{not_not, and_both, conditions_cons}
use Rattle.volume.proofs.Puts.{put_in}
use Rattle.volume.proofs.Chains.{chain_length}
use Rattle.volume.proofs.Entries.{made_room}
use Rattle.volume.proofs.Small.{Small, FitsIn, small_append, small_zeros, small_put, small_set, small_freed, small_grown, small_written}
use Rattle.model.specs.Layout.{version1, page_count, pages_for, valid_length, free_count, zero_bits, link}
use Rattle.model.specs.Name.{legal_byte, legal_rest, legal_name}
use Rattle.model.specs.Date.{is_bcd, good_date}
use Rattle.model.specs.Entry.{entries, start_at, size_at, entry_at, new_entry}
use Rattle.model.specs.Version1.{view}
use Rattle.model.specs.Sound.{pages_at, owned_pages, sound}
use Rattle.model.specs.Path.{Name, Path, path_of}
use Rattle.model.specs.Image.{tree_of}
use Rattle.model.specs.Walk.{entry_position}
use Rattle.model.specs.Effect.{formatted, made, rewritten, written, removed, with_lock}
use Rattle.model.specs.Call.{Call, format, format_as, verdict, find, list, read, make_file, make_directory, write, remove_file, remove_directory, set_lock, store_as, refusal}
use Rattle.model.specs.Refusal.{refusals, size, Passes}
use Rattle.model.specs.Meaning.{is_format, lines, effect, after}
use Rattle.model.specs.EffectOf
use Rattle.model.specs.MeaningOf
use Rattle.model.specs.RefusalOf
use Rattle.model.proofs.Version1.{home}
use Rattle.laws.proofs.Facts.{Facts, sound_facts_lem, valid_sized}
use Rattle.laws.proofs.Owns.{own_le, pages_own}
use Rattle.laws.proofs.Counting.{count_owned, fill_up}
use Rattle.laws.proofs.Focus.{named_found, leads_owned}
use Rattle.laws.proofs.Walks.{Target, target}
use Rattle.laws.proofs.Lock.{lock_small}
use Rattle.laws.proofs.Slots.{lawful, header_marked, size as sized}
use Rattle.laws.proofs.NewEntry.{new_length, new_start}
use Rattle.laws.proofs.Make.{Place, place_held, made_at}
use Rattle.laws.proofs.Write.{is_file_entry, file_pages, file_chained, rewritten_is}
use Rattle.laws.proofs.Lines.{passed, settle_both}
use Rattle.laws.proofs.Passed.{Makes, Writes, Removes, sound_passed, make_passed, write_passed, remove_file_passed, remove_directory_passed, make_place, make_image, write_target, write_position, write_file, write_size, write_begins, write_space}

-- ---- bytes of a list

small_nil : Small []
small_nil i = omega arith

small_cons : (x : ℕ) (v : Bytes) → x < 256 → Small v → Small (x ∷ v)
small_cons x v h k zero = h
small_cons x v h k (suc i) = k i

small_all : (test : ℕ → Bool) → ((x : ℕ) → T (test x) → x < 256) → (v : Bytes) → T (all test v) → Small v
unfolding all
small_all test h [] k = small_nil
small_all test h (x ∷ v) k = let r = and_both (test x) (all test v) k in small_cons x v (h x r.0) (small_all test h v r.1)

small_size : (s : ℕ) → s < 65536 → Small (le16 s)
small_size s h = small_cons (s % 256) (s / 256 ∷ []) (omega arith) (small_cons (s / 256) [] (omega arith) small_nil)

legal_small : (c : ℕ) → T (legal_byte c) → c < 256
unfolding legal_byte
legal_small c h = omega (arith, leb→le c 0x7E (conditions_cons (leb c 0x7E) _ (conditions_cons (leb 0x20 c) _ h).1).0)

rest_small : (v : Bytes) → T (legal_rest v) → Small v
unfolding legal_rest
rest_small [] h = small_nil
rest_small (c ∷ v) h = go (eqb c 0) (eqb→eq c 0) h (rest_small v)
  where
    go : (z : Bool) → (T z → c ≡ 0) → T (if z then all (eqb 0) v else (legal_byte c && legal_rest v)) → (T (legal_rest v) → Small v) → Small (c ∷ v)
    go true e k next = small_cons c v (omega (arith, e tt)) (small_all (eqb 0) (λ x u. omega (arith, eqb→eq 0 x u)) v k)
    go false e k next = let r = and_both (legal_byte c) (legal_rest v) k in small_cons c v (legal_small c r.0) (next r.1)

small_name : (v : Bytes) → T (legal_name v) → Small v
unfolding legal_name
small_name [] h = absurd h
small_name (c ∷ v) h = let r = and_both (legal_byte c) (legal_rest v) h in small_cons c v (legal_small c r.0) (rest_small v r.1)

small_date : (d : Bytes) → T (good_date d) → Small d
unfolding good_date is_bcd
small_date d h = small_all is_bcd
    (λ x u. let r = and_both (leb (x / 16) 9) (leb (x % 16) 9) u in omega (arith, leb→le (x / 16) 9 r.0))
    d (conditions_cons (all is_bcd d) _ (conditions_cons (eqb (length d) 8) _ h).1).0

-- ---- format

small_formatted : (b : Bytes) → T (valid_length (length b)) → Small b → Small (formatted b)
unfolding formatted
small_formatted b v s =
    let z = valid_sized b v in
    let zeros : Bytes = replicate 251 0 in
    let count : Bytes = (page_count b - 1) ∷ 1 ∷ zeros in
    small_put 0 (0x5A ∷ 1 ∷ page_count b / 8 ∷ count) b
    (small_cons 0x5A (1 ∷ page_count b / 8 ∷ count) (omega arith) (small_cons 1 (page_count b / 8 ∷ count) (omega arith) (small_cons (page_count b / 8) count (omega (arith, z.high))
    (small_cons (page_count b - 1) (1 ∷ zeros) (omega (arith, z.high, z.low)) (small_cons 1 zeros (omega arith) (small_zeros 251))))))
    s

-- ---- the pages of an entry are owned, and so there are not many

-- a list whose counts are at most those of another is no longer
shorter : (n : ℕ) (xs ys : List ℕ) → ((q : ℕ) → Mem q ys → q < n) → ((q : ℕ) → occ q xs ≤ occ q ys) → length xs ≤ length ys
shorter n xs ys h le =
    omega (arith, sum_occ xs n (under_of_mem n xs (λ q m. h q (omega (arith, le q)))), sum_occ ys n (under_of_mem n ys h), sum_mono (λ q. occ q xs) (λ q. occ q ys) n (λ q l. le q))

module _ {b : Bytes} (f : Facts b) {ns : List Name} {n : Name} (tg : Target b ns n) where
  pages_owned : (q : ℕ) → occ q (pages_at (view b) tg.at) ≤ occ q (owned_pages b)
  pages_owned q =
      let e : ℕ = tg.above.e in
      let t : ℕ = tg.above.t in
      let m : Mem tg.at (entries t) = (named_found b t n.bytes tg.at tg.found).0 in
      omega (arith, pages_own e b (entry_at b tg.at) q, own_le e b t tg.at q m, leads_owned b ns (page_count b) 0 (suc e) t q tg.above.leads)

  -- with the free pages they are fewer than N
  pages_count : free_count b + length (pages_at (view b) tg.at) < page_count b
  pages_count = omega (arith, shorter (page_count b) (pages_at (view b) tg.at) (owned_pages b) (λ q m. (f.inside q m).1) pages_owned, count_owned f, f.counted)

numbers_fit : {b : Bytes} → Facts b → (i p : ℕ) → p < page_count b → FitsIn (byte i) p
numbers_fit {b} f i p l = omega (arith, (sized f).high)

-- ---- remove

small_removed : {b : Bytes} → Facts b → {path : Bytes} → Removes b path → Small b → Small (removed (path_of path) b)
unfolding EffectOf.removed
small_removed {b} f r s =
    let tg = target f r.reached r.entered in
    let freed : ℕ → Bytes = λ at. set (foldl (On.released version1) b (pages_at (view b) at)) at 0 in
    subst (λ (p : Path). Small (freed (entry_position b p))) (sym r.is) (subst (λ (at : ℕ). Small (freed at)) (sym tg.position)
    (small_set (foldl (On.released version1) b (pages_at (view b) tg.at)) tg.at 0 (omega arith)
    (small_freed (lawful f) (pages_at (view b) tg.at) b (sized f).whole
    (λ q m. (f.inside q (omega (arith, pages_owned f tg q))).1) (omega (arith, pages_count f tg, (sized f).high)) s)))

-- ---- write

module _ (b : Bytes) (f : Facts b) (path : Bytes) (from : ℕ) (v : Bytes) (w : Writes b path from v) where
  abbrev tg : Target b w.ns w.n
  tg = write_target b f path from v w

  abbrev is_file : T (is_file_entry (entry_at b tg.at))
  is_file = write_file b f path from v w

  same_size : size path (tree_of b) ≡ size_at b tg.at
  same_size = write_size b f path from v w

  -- the file's pages, those gained and the header are different pages of the image
  pages_fit : pages_for (max (size path (tree_of b)) (from + length v)) < page_count b
  pages_fit =
      let many : pages_for (size path (tree_of b)) ≡ length (pages_at (view b) tg.at) =
      ap pages_for same_size ∙ sym (ap length (file_pages b f w.ns w.n tg is_file) ∙ chain_length (link b) (pages_for (size_at b tg.at)) (start_at b tg.at)) in
      omega (arith, w.space, many, pages_count f tg, f.counted)

  size_fits : max (size path (tree_of b)) (from + length v) ≤ 65025
  size_fits = omega (arith, fill_up (max (size path (tree_of b)) (from + length v)), pages_fit, (sized f).high)

  small_rewritten : Small v → Small b → Small (rewritten tg.at from v b)
  small_rewritten hv hb =
      let s₀ : ℕ = size_at b tg.at in
      let hf : from ≤ s₀ = write_begins b f path from v w in
      let space : pages_for (max s₀ (from + length v)) - pages_for s₀ ≤ zero_bits b (page_count b) = write_space b f path from v w in
      subst Small (sym (rewritten_is b f w.ns w.n tg is_file from v hf space))
      (small_written (lawful f) b (byte (tg.at + 17)) tg.above.t (pages_for s₀) (pages_for (max s₀ (from + length v)) - pages_for s₀)
      (tg.at + 18) (le16 (max s₀ (from + length v))) from v (file_chained b f w.ns w.n tg is_file) space (numbers_fit f (tg.at + 17)) (λ q. numbers_fit f (256 * q))
      (small_size (max s₀ (from + length v)) (omega (arith, size_fits, same_size))) hv hb)

  small_write : Small v → Small b → Small (written (path_of path) from v b)
  unfolding EffectOf.written
  small_write hv hb = go (eqb (length v) 0)
    where
      go : (c : Bool) → Small (if c then b else rewritten (entry_position b (path_of path)) from v b)
      go true = hb
      go false = subst (λ (at : ℕ). Small (rewritten at from v b)) (sym (write_position b f path from v w)) (small_rewritten hv hb)

pub write_fits : (path : Bytes) (from : ℕ) (v b : Bytes) → T (sound b) → Passes (refusals (write path from v) (tree_of b))
    → (pages_for (max (size path (tree_of b)) (from + length v)) < page_count b) × (max (size path (tree_of b)) (from + length v) ≤ 65025)
write_fits path from v b h e =
    let f = sound_facts_lem h in
    let w = write_passed f v e in
    (pages_fit b f path from v w, size_fits b f path from v w)

-- ---- make

module _ (b : Bytes) (f : Facts b) (path date : Bytes) (fl z k : ℕ) (m : Makes b path date k) where
  abbrev place : Place b m.ns m.n.bytes date k
  place = make_place f path m

  small_entry : fl < 256 → z < 65536 → Small (new_entry fl m.n.bytes 0 z date)
  unfolding new_entry
  small_entry hf hz =
      let end : Bytes = date ++ replicate 4 0 in
      small_cons fl (m.n.bytes ++ (0 ∷ (le16 z ++ end))) hf
      (small_append m.n.bytes (0 ∷ (le16 z ++ end)) (small_name m.n.bytes m.clear.legal)
      (small_cons 0 (le16 z ++ end) (omega arith) (small_append (le16 z) end (small_size z hz) (small_append date (replicate 4 0) (small_date date m.good) (small_zeros 4)))))

  small_at : fl < 256 → z < 65536 → Small b → Small (made_at fl z k m.n.bytes date place.at b)
  small_at hf hz hb =
      let at : ℕ = place.at in
      let w : Bytes = new_entry fl m.n.bytes 0 z date in
      let l : length w ≡ 32 = new_length fl m.n.bytes z date m.clear.long m.clear.dated in
      let held = place_held f m.ns m.n.bytes date fl z k place in
      small_grown (lawful f) k (byte (at + 17)) place.above.t (put at w b)
      (made_room (lawful f) b at place.above.t w (byte (at + 17)) k (sized f).whole (header_marked f) (omega (arith, (sized f).low))
      held (omega arith) (omega arith)
      (put_in at w b held.inside 17 (omega arith) ∙ new_start fl m.n.bytes z date m.clear.long m.clear.dated) m.clear.space)
      (numbers_fit f (at + 17)) (λ q. numbers_fit f (256 * q)) (small_put at w b (small_entry hf hz) hb)

  small_made : fl < 256 → z < 65536 → Small b → Small (made fl z k (path_of path) date b)
  small_made hf hz hb = subst Small (sym (make_image f path m fl z)) (small_at hf hz hb)

-- ---- every call

-- The bytes to be written are bytes. Of other arguments only a legal name and a good date are stored, and those are bytes.
abbrev pub SmallCall : Call → Type 0
SmallCall (format_as new) = Unit {0}
SmallCall verdict = Unit {0}
SmallCall (find path) = Unit {0}
SmallCall (list path i) = Unit {0}
SmallCall (read path at room) = Unit {0}
SmallCall (make_file path date) = Unit {0}
SmallCall (make_directory path date) = Unit {0}
SmallCall (write path at v) = Small v
SmallCall (remove_file path) = Unit {0}
SmallCall (remove_directory path) = Unit {0}
SmallCall (set_lock locked path) = Unit {0}
SmallCall (store_as has path date v k buffer) = Unit {0}

small_effect : (c : Call) (b : Bytes) → Small b → SmallCall c → Passes (lines c b) → Small (effect c b)
unfolding MeaningOf.effect MeaningOf.lines is_format RefusalOf.refusals RefusalOf.earlier RefusalOf.later RefusalOf.wanted EffectOf.relocked
small_effect (format_as new) b s h e = small_formatted b (not_not (valid_length (length b)) (passed _ _ e).0) s
small_effect verdict b s h e = s
small_effect (find path) b s h e = s
small_effect (list path i) b s h e = s
small_effect (read path at room) b s h e = s
small_effect (make_file path date) b s h e =
    let g = sound_passed (make_file path date) b tt e in
    let f = sound_facts_lem g.0 in
    small_made b f path date 0x80 0 (pages_for 0) (make_passed f (refusal 10) g.1) (omega arith) (omega arith) s
small_effect (make_directory path date) b s h e =
    let g = sound_passed (make_directory path date) b tt e in
    let f = sound_facts_lem g.0 in
    small_made b f path date 0x81 0x0100 1 (make_passed f (refusal 10) g.1) (omega arith) (omega arith) s
small_effect (write path from v) b s h e =
    let g = sound_passed (write path from v) b tt e in
    let f = sound_facts_lem g.0 in
    small_write b f path from v (write_passed f v g.1) h s
small_effect (remove_file path) b s h e =
    let g = sound_passed (remove_file path) b tt e in
    let f = sound_facts_lem g.0 in
    small_removed f (remove_file_passed f g.1) s
small_effect (remove_directory path) b s h e =
    let g = sound_passed (remove_directory path) b tt e in
    let f = sound_facts_lem g.0 in
    small_removed f (remove_directory_passed f g.1) s
small_effect (set_lock locked path) b s h e =
    let at = entry_position b (path_of path) in small_set b at (with_lock locked (byte_at b at)) (lock_small locked (byte_at b at) (s at)) s
small_effect (store_as has path date v k buffer) b s h e = s

pub small_after : (c : Call) (b : Bytes) → Small b → SmallCall c → Small (after c b)
unfolding MeaningOf.after
small_after c b s h = settle_both (λ (x y : Bytes). Small x) (lines c b) (λ r. b) (effect c b) (λ r. b) (effect c b) (λ r. s) (small_effect c b s h)
