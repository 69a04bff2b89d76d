-- A call changes only the bytes that it may: format writes page 0, and what make, write and remove do to pages, links, count and bitmap is what
-- `volume` says of pages taken, written over and given back.
use mathlib.Core.Path.{◌≡◌, refl, sym, ap, ◌∙◌, subst}
use mathlib.Core.Logic.{◌≢◌, ◌⊎◌, inl, inr}
use Prim.Native.Nat.{ℕ, ◌+◌, ◌-◌, ◌*◌, ◌/◌, ◌%◌, ◌≤◌, ◌<◌, max}
use native.Mathlib.Omega.{arith}
use mathlib.Core.Bool.{Bool, true, false, not}
use mathlib.Core.List.{List, [], ◌∷◌, ◌++◌, map, foldl}
use lib.ListN.{length, set}
use lib.Dec.{T, eqb, T_not}
use lib.Seq.{get_or-set_other}
use Rattle.volume.specs.Bytes.{Bytes, byte_at, bit}
use Rattle.std.specs.Prelude.{if◌then◌else◌}
use Rattle.volume.specs.Lists.{member, count_from, last_or}
use Rattle.volume.specs.Chain.{chain, along}
use Rattle.volume.specs.Field.{Field, byte}
use Rattle.volume.specs.Geometry as On
use Rattle.volume.proofs.Occ.{occ, Mem, hit, hit_refl, occ_append, mem_head, mem_tail, mem_cons, not_mem}
use Rattle.volume.proofs.Tests.{not_not, occ_member, occ_count_from}
use Rattle.volume.proofs.Flat.{occ_flat_map_le}
use Rattle.volume.proofs.Puts.{not_inside}
use Rattle.volume.proofs.Fields.{Off}
use Rattle.volume.proofs.Lawful.{Kept}
use Rattle.volume.proofs.Chains.{chain_length}
use Rattle.volume.proofs.Stays.{Unmarked, Elsewhere, released_stays}
use Rattle.model.specs.Layout.{version1, page_count, pages_for, valid_length, page_bit, zero_bits, link}
use Rattle.model.specs.Entry.{start_at, size_at, entry_at}
use Rattle.model.specs.Version1.{view}
use Rattle.model.specs.Sound.{pages_at}
use Rattle.model.specs.Path.{path_of}
use Rattle.model.specs.Image.{tree_of}
use Rattle.model.specs.Walk.{parent_page, entry_position}
use Rattle.model.specs.Effect.{lowest_vacant, made, rewritten, written, removed, with_lock, relocked}
use Rattle.model.specs.Call.{Call, format, format_as, verdict, find, list, read, make_file, make_directory, write, remove_file, remove_directory, set_lock, store_as, refusal}
use Rattle.model.specs.Refusal.{node, size, wanted, Passes}
use Rattle.model.specs.Meaning.{is_format, lines, effect, after}
use Rattle.model.specs.Touched.{moved, account, bytes_on, last_link, by_make, by_write, by_removal, touched}
use Rattle.model.specs.Demands.{OnlyTouched}
use Rattle.model.specs.EffectOf
use Rattle.model.specs.MeaningOf
use Rattle.model.specs.RefusalOf
use Rattle.laws.proofs.Facts.{Facts, sound_facts_lem}
use Rattle.laws.proofs.Focus.{named_found}
use Rattle.laws.proofs.Entries.{entry_within}
use Rattle.laws.proofs.Walks.{Target, target}
use Rattle.laws.proofs.Slots.{size as sized}
use Rattle.laws.proofs.Format.{formatted_rest}
use Rattle.laws.proofs.Make.{Place, made_at, made_bytes, made_gained, made_stays, place_slot}
use Rattle.laws.proofs.Write.{is_file_entry, file_pages, file_slot, rewritten_is, write_bytes, write_gained, write_inside, write_stays}
use Rattle.laws.proofs.Remove.{removed_bytes}
use Rattle.laws.proofs.Lines.{passed, settle_both}
use Rattle.laws.proofs.Lists.{length_kept}
use Rattle.laws.proofs.Passed.{Makes, Writes, Removes, Locks, sound_passed, make_passed, write_passed, remove_file_passed, remove_directory_passed, lock_passed, make_place, make_position, make_image, write_target, write_position, write_file, write_size, write_begins, write_space}

-- what a call that is no format leaves of an image, when it may change these positions and moves these pages
record Stayed (b b' : Bytes) (positions pages : List ℕ) : Type 0 where
  bytes : (i : ℕ) → occ i positions ≡ 0 → byte_at b' i ≡ byte_at b i
  bits : (p : ℕ) → p < page_count b → occ p pages ≡ 0 → page_bit b' p ≡ page_bit b p
  header : (i : ℕ) → i < 64 → i ≢ 3 → (4 ≤ i → 4 + page_count b / 8 ≤ i) → byte_at b' i ≡ byte_at b i

unchanged : {b : Bytes} {positions pages : List ℕ} → Stayed b b positions pages
unchanged = record { bytes = λ i z. refl; bits = λ p l z. refl; header = λ i l n o. refl }

-- ---- positions that stand in no list

not_member : (i : ℕ) (xs : List ℕ) → T (not (member i xs)) → occ i xs ≡ 0
not_member i xs h = not_mem i xs (λ m. T_not (member i xs) h (occ_member i xs m))

off_count : (i s n : ℕ) → occ i (count_from s n) ≡ 0 → s ≤ i → s + n ≤ i
off_count i s n z = not_inside s n i (λ l u. omega (arith, occ_count_from s n i l u))

off_map : (f : ℕ → ℕ) (xs : List ℕ) (i : ℕ) → occ i (map f xs) ≡ 0 → (x : ℕ) → Mem x xs → i ≢ f x
off_map f xs i z x m e = omega (arith, go xs m, ap (λ (y : ℕ). occ y (map f xs)) e)
  where
    go : (ys : List ℕ) → Mem x ys → Mem (f x) (map f ys)
    go [] k = k
    go (y ∷ ys) k = elim (mem_cons x y ys k) [
      | inl u ↦ subst (λ (w : ℕ). Mem (f x) (f w ∷ map f ys)) u (mem_head (f x) (map f ys))
      | inr u ↦ mem_tail (f x) (f y) (map f ys) (go ys u)
    ]

unmarked : (ps : List ℕ) (i : ℕ) → occ i (account ps) ≡ 0 → (p : ℕ) → Mem p ps → Unmarked version1 p i
unfolding account
unmarked ps i z p m =
    let q : ℕ = On.bitmap_byte version1 p in
    let le = occ_flat_map_le (λ p. 3 ∷ On.bitmap_byte version1 p ∷ []) ps p i m in
    let count : i ≢ 3 = λ e. omega (arith, le, z, ap (λ (x : ℕ). hit x 3) e, hit_refl 3) in
    record { count = λ l. omega (arith, count, l); map = λ e. omega (arith, le, z, ap (λ (x : ℕ). hit x q) e, hit_refl q) }

elsewhere : (ps : List ℕ) (i : ℕ) → occ i (account ps) ≡ 0 → occ i (bytes_on ps) ≡ 0 → (p : ℕ) → Mem p ps → Elsewhere version1 p i
unfolding bytes_on
elsewhere ps i z w p m =
    let page : 256 * p ≤ i → 256 * p + 256 ≤ i =
    off_count i (256 * p) 256 (omega (arith, w, occ_flat_map_le (λ p. count_from (256 * p) 256) ps p i m)) in
    record { marks = unmarked ps i z p m; link = λ l. omega (arith, page l); page = page }

-- byte i of the header is neither the count nor in the first N/8 of the bitmap
kept : {b : Bytes} → Facts b → (i : ℕ) → i ≢ 3 → (4 ≤ i → 4 + page_count b / 8 ≤ i) → Kept version1 (page_count b) i
kept {b} f i n o = record { count = λ l. omega (arith, n); map = λ q k u. omega (arith, o (omega (arith, u)), u, k, (sized f).eights) }

-- ---- make

made_stayed : {b : Bytes} → Facts b → {path date : Bytes} (fl z : ℕ) {k : ℕ} → Makes b path date k
    → Stayed b (made fl z k (path_of path) date b) (by_make (lowest_vacant b (parent_page b (path_of path))) (On.gained version1 (page_count b) k b)) (On.gained version1 (page_count b) k b)
unfolding by_make
made_stayed {b} f {path} {date} fl z {k} m =
    subst (λ (b' : Bytes). Stayed b b' (by_make (lowest_vacant b (parent_page b (path_of path))) qs) qs) (sym (make_image f path m fl z))
    (subst (λ (x : ℕ). Stayed b (made_at fl z k m.n.bytes date w.at b) (by_make x qs) qs) (sym (make_position f path m)) stayed)
  where
    qs : List ℕ
    qs = On.gained version1 (page_count b) k b

    w : Place b m.ns m.n.bytes date k
    w = make_place f path m

    zero_out : (i : ℕ) → i < 64 → occ (i / 256) qs ≡ 0
    zero_out i l = not_mem (i / 256) qs (λ c. omega (arith, l, ((made_gained f m.ns m.n.bytes date fl z k w).new (i / 256) c).0))

    stayed : Stayed b (made_at fl z k m.n.bytes date w.at b) (by_make w.at qs) qs
    stayed =
        let r = made_bytes f m.ns m.n.bytes date fl z k w in
        let far = (place_slot f m.ns m.n.bytes date fl z k w).within.far in
        record {
          bytes = λ i o.
              let x = occ_append i (count_from w.at 32 ++ account qs) (bytes_on qs) in
              let y = occ_append i (count_from w.at 32) (account qs) in
              made_stays f m.ns m.n.bytes date fl z k w i (off_count i w.at 32 (omega (arith, o, x, y))) (elsewhere qs i (omega (arith, o, x, y)) (omega (arith, o, x, y)));
          bits = λ p l o. omega (arith, r.bits p l, o);
          header = λ i l n o. r.rest i (kept f i n o) (λ u. omega (arith, far, l, u)) (zero_out i l);
        }

-- ---- write

-- the joint of a chain that has a page and gains some
joint_off : (entry : Field) (ps qs : List ℕ) (i : ℕ) → 1 ≤ length ps → 1 ≤ length qs → occ i (last_link ps qs) ≡ 0 → Off (On.joint_of version1 entry ps) i
unfolding On.joint_of last_link last_or
joint_off entry [] qs i hp hq z = absurd (omega arith)
joint_off entry (p ∷ ps) [] i hp hq z = absurd (omega arith)
joint_off entry (p ∷ ps) (q ∷ qs) i hp hq z =
    let x : ℕ = 256 * last_or p ps in
    let ne : i ≢ x = λ e. omega (arith, z, ap (λ (y : ℕ). hit y x) e, hit_refl x) in
    λ l. omega (arith, ne, l)

some_page : (s : ℕ) → 1 ≤ pages_for s
unfolding pages_for
some_page s = omega arith

module _ (b : Bytes) (f : Facts b) (path : Bytes) (from : ℕ) (v : Bytes) (w : Writes b path from v) where
  abbrev tg : Target b w.ns w.n
  tg = write_target b f path from v w

  abbrev is_file : T (is_file_entry (entry_at b tg.at))
  is_file = write_file b f path from v w

  abbrev s₀ : ℕ
  s₀ = size_at b tg.at

  abbrev ps : List ℕ
  ps = chain (link b) (pages_for s₀) (start_at b tg.at)

  abbrev qs : List ℕ
  qs = On.gained version1 (page_count b) (pages_for (max s₀ (from + length v)) - pages_for s₀) b

  abbrev begins : from ≤ s₀
  begins = write_begins b f path from v w

  abbrev space : pages_for (max s₀ (from + length v)) - pages_for s₀ ≤ zero_bits b (page_count b)
  space = write_space b f path from v w

  rewritten_stayed : Stayed b (rewritten tg.at from v b) (by_write tg.at from (length v) ps qs) qs
  unfolding by_write
  rewritten_stayed =
      let r = write_bytes b f w.ns w.n tg is_file from v begins space in
      let gained = write_gained b f w.ns w.n tg is_file from v begins space in
      let far = (file_slot b f w.ns w.n tg is_file).within.far in
      subst (λ (b' : Bytes). Stayed b b' (by_write tg.at from (length v) ps qs) qs) (sym (rewritten_is b f w.ns w.n tg is_file from v begins space))
      (record {
        bytes = λ i o.
            let place : ℕ → ℕ = along (On.content version1) 255 (ps ++ qs) in
            let a : List ℕ = count_from (tg.at + 18) 2 in
            let x = occ_append i (a ++ account qs ++ bytes_on qs ++ last_link ps qs) (map place (count_from from (length v))) in
            let y = occ_append i (a ++ account qs ++ bytes_on qs) (last_link ps qs) in
            let z = occ_append i (a ++ account qs) (bytes_on qs) in
            let u = occ_append i a (account qs) in
            write_stays b f w.ns w.n tg is_file from v begins space i
            (λ l. joint_off (byte (tg.at + 17)) ps qs i (omega (arith, chain_length (link b) (pages_for s₀) (start_at b tg.at), some_page s₀)) (omega (arith, l, gained.many)) (omega (arith, o, x, y)))
            (off_count i (tg.at + 18) 2 (omega (arith, o, x, y, z, u)))
            (elsewhere qs i (omega (arith, o, x, y, z, u)) (omega (arith, o, x, y, z)))
            (λ n l h. off_map place (count_from from (length v)) i (omega (arith, o, x)) n (occ_count_from from (length v) n l h));
        bits = λ p l o. omega (arith, r.bits p l, o);
        header = λ i l n o. r.rest i (kept f i n o) (λ u. omega (arith, far, l, u)) (λ u. omega (arith, far, l, u)) (zero_out i l);
      })
    where
      zero_out : (i : ℕ) → i < 64 → occ (i / 256) (ps ++ qs) ≡ 0
      zero_out i l = not_mem (i / 256) (ps ++ qs) (λ c. omega (arith, l, (write_inside b f w.ns w.n tg is_file from v begins space (i / 256) c).0))

  written_stayed : Stayed b (written (path_of path) from v b)
      (by_write (entry_position b (path_of path)) from (length v) (pages_at (view b) (entry_position b (path_of path))) (On.gained version1 (page_count b) (wanted (write path from v) (tree_of b)) b))
      (On.gained version1 (page_count b) (wanted (write path from v) (tree_of b)) b)
  unfolding EffectOf.written RefusalOf.wanted
  written_stayed = go (eqb (length v) 0)
    where
      go : (c : Bool) → Stayed b (if c then b else rewritten (entry_position b (path_of path)) from v b)
          (by_write (entry_position b (path_of path)) from (length v) (pages_at (view b) (entry_position b (path_of path)))
          (On.gained version1 (page_count b) (pages_for (max (size path (tree_of b)) (from + length v)) - pages_for (size path (tree_of b))) b))
          (On.gained version1 (page_count b) (pages_for (max (size path (tree_of b)) (from + length v)) - pages_for (size path (tree_of b))) b)
      go true = unchanged
      go false =
          let taken : ℕ → List ℕ = λ m. On.gained version1 (page_count b) (pages_for (max m (from + length v)) - pages_for m) b in
          subst (λ (m : ℕ). Stayed b (rewritten (entry_position b (path_of path)) from v b)
          (by_write (entry_position b (path_of path)) from (length v) (pages_at (view b) (entry_position b (path_of path))) (taken m)) (taken m)) (sym (write_size b f path from v w))
          (subst (λ (x : ℕ). Stayed b (rewritten x from v b) (by_write x from (length v) (pages_at (view b) x) qs) qs) (sym (write_position b f path from v w))
          (subst (λ (l : List ℕ). Stayed b (rewritten tg.at from v b) (by_write tg.at from (length v) l qs) qs) (sym (file_pages b f w.ns w.n tg is_file)) rewritten_stayed))

-- ---- remove

removed_stayed : {b : Bytes} → Facts b → {path : Bytes} → Removes b path
    → Stayed b (removed (path_of path) b) (by_removal (entry_position b (path_of path)) (pages_at (view b) (entry_position b (path_of path)))) (pages_at (view b) (entry_position b (path_of path)))
unfolding EffectOf.removed by_removal
removed_stayed {b} f {path} r =
    let tg : Target b r.ns r.n = target f r.reached r.entered in
    let position : entry_position b (path_of path) ≡ tg.at = ap (entry_position b) r.is ∙ tg.position in
    let at : ℕ = tg.at in
    let ps : List ℕ = pages_at (view b) at in
    let b₁ : Bytes = foldl (On.released version1) b ps in
    let x = removed_bytes f tg (r.empty _ tg.node) in
    let far = (entry_within tg.above.t at (named_found b tg.above.t r.n.bytes at tg.found).0).far in
    subst (λ (y : ℕ). Stayed b (set (foldl (On.released version1) b (pages_at (view b) y)) y 0) (count_from y 1 ++ account (pages_at (view b) y)) (pages_at (view b) y)) (sym position)
    (record {
      bytes = λ i o.
          let both = occ_append i (count_from at 1) (account ps) in
          let off = off_count i at 1 (omega (arith, o, both)) in
          get_or-set_other b₁ at i 0 0 (λ e. omega (arith, e, off (omega (arith, e)))) ∙ released_stays version1 ps b i (unmarked ps i (omega (arith, o, both)));
      bits = λ p l o. omega (arith, x.bits p l, o);
      header = λ i l n o. x.rest i (kept f i n o) (λ e. omega (arith, e, far, l));
    })

-- ---- lock

locked_stayed : {b : Bytes} → Facts b → {path : Bytes} (locked : Bool) → Locks b path → Stayed b (relocked (path_of path) locked b) (count_from (entry_position b (path_of path)) 1) []
unfolding EffectOf.relocked On.page_bit
locked_stayed {b} f {path} locked r =
    let tg : Target b r.ns r.n = target f r.reached r.entered in
    let position : entry_position b (path_of path) ≡ tg.at = ap (entry_position b) r.is ∙ tg.position in
    let at : ℕ = entry_position b (path_of path) in
    let far : 64 ≤ at = omega (arith, position, (entry_within tg.above.t tg.at (named_found b tg.above.t r.n.bytes tg.at tg.found).0).far) in
    let other : (i : ℕ) → i ≢ at → byte_at (set b at (with_lock locked (byte_at b at))) i ≡ byte_at b i = λ i ne. get_or-set_other b at i (with_lock locked (byte_at b at)) 0 ne in
    record {
      bytes = λ i o. let off = off_count i at 1 o in other i (λ e. omega (arith, e, off (omega (arith, e))));
      bits = λ p l o. ap (bit (p % 8)) (other (4 + p / 8) (λ e. omega (arith, e, far, l, (sized f).high)));
      header = λ i l n o. other i (λ e. omega (arith, e, far, l));
    }

-- ---- every call, on any image

effect_stayed : (c : Call) {b : Bytes} → T (not (is_format c)) → Passes (lines c b) → Stayed b (effect c b) (touched c b) (moved c b)
unfolding MeaningOf.effect is_format RefusalOf.refusals RefusalOf.earlier RefusalOf.later RefusalOf.wanted touched moved EffectOf.written
effect_stayed (format_as new) n e = absurd n
effect_stayed verdict {b} n e = unchanged
effect_stayed (find path) {b} n e = unchanged
effect_stayed (list path entry) {b} n e = unchanged
effect_stayed (read path position room) {b} n e = unchanged
effect_stayed (make_file path date) {b} n e =
    let g = sound_passed (make_file path date) b tt e in
    let f = sound_facts_lem g.0 in
    made_stayed f 0x80 0 (make_passed f (refusal 10) g.1)
effect_stayed (make_directory path date) {b} n e =
    let g = sound_passed (make_directory path date) b tt e in
    let f = sound_facts_lem g.0 in
    made_stayed f 0x81 0x0100 (make_passed f (refusal 10) g.1)
effect_stayed (write path from []) {b} n e = unchanged
effect_stayed (write path from (x ∷ v)) {b} n e =
    let g = sound_passed (write path from (x ∷ v)) b tt e in
    let f = sound_facts_lem g.0 in
    written_stayed b f path from (x ∷ v) (write_passed f (x ∷ v) g.1)
effect_stayed (remove_file path) {b} n e =
    let g = sound_passed (remove_file path) b tt e in
    let f = sound_facts_lem g.0 in
    removed_stayed f (remove_file_passed f g.1)
effect_stayed (remove_directory path) {b} n e =
    let g = sound_passed (remove_directory path) b tt e in
    let f = sound_facts_lem g.0 in
    removed_stayed f (remove_directory_passed f g.1)
effect_stayed (set_lock locked path) {b} n e =
    let g = sound_passed (set_lock locked path) b tt e in
    let f = sound_facts_lem g.0 in
    locked_stayed f locked (lock_passed f locked g.1)
effect_stayed (store_as has path date v k buffer) {b} n e = unchanged

stayed : (c : Call) (b : Bytes) → T (not (is_format c)) → Stayed b (after c b) (touched c b) (moved c b)
unfolding MeaningOf.after
stayed c b n = settle_both (λ (x y : Bytes). Stayed b x (touched c b) (moved c b)) (lines c b) (λ r. b) (effect c b) (λ r. b) b (λ r. unchanged) (effect_stayed c n)

-- format writes page 0
format_bytes : (b : Bytes) (i : ℕ) → occ i (touched format b) ≡ 0 → byte_at (after format b) i ≡ byte_at b i
unfolding MeaningOf.after MeaningOf.lines is_format MeaningOf.effect touched bytes_on
format_bytes b i z =
    let far : 256 ≤ i = omega (arith, off_count i 0 256 (omega (arith, z, occ_flat_map_le (λ p. count_from (256 * p) 256) (0 ∷ []) 0 i (mem_head 0 []))) (omega arith)) in
    settle_both (λ (x y : Bytes). byte_at x i ≡ byte_at b i) (lines format b) (λ r. b) (effect format b) (λ r. b) b (λ r. refl)
    (λ e. formatted_rest b (not_not (valid_length (length b)) (passed _ _ e).0) i far)

format_bits : (b : Bytes) (p : ℕ) → p < page_count b → occ p (moved format b) ≡ 0 → ⊥
unfolding moved
format_bits b p l z = omega (arith, z, occ_count_from 0 (page_count b) p (omega arith) (omega (arith, l)))

-- a call is format or is not
format_or : (c : Call) → (c ≡ format) ⊎ T (not (is_format c))
unfolding is_format
format_or (format_as new) = inl refl
format_or verdict = inr tt
format_or (find path) = inr tt
format_or (list path entry) = inr tt
format_or (read path position room) = inr tt
format_or (make_file path date) = inr tt
format_or (make_directory path date) = inr tt
format_or (write path from v) = inr tt
format_or (remove_file path) = inr tt
format_or (remove_directory path) = inr tt
format_or (set_lock locked path) = inr tt
format_or (store_as has path date v k buffer) = inr tt

pub only_touched_lem : (c : Call) (b : Bytes) → OnlyTouched c b
only_touched_lem c b = elim (format_or c) [
  | inl e ↦ subst (λ (d : Call). OnlyTouched d b) (sym e) (record {
    long = length_kept format b;
    bytes = λ i h. format_bytes b i (not_member i (touched format b) h);
    bits = λ p l h. absurd (format_bits b p l (not_member p (moved format b) h));
    header = λ n. absurd (unfold is_format in n);
  })
  | inr n ↦ record {
    long = length_kept c b;
    bytes = λ i h. (stayed c b n).bytes i (not_member i (touched c b) h);
    bits = λ p l h. (stayed c b n).bits p l (not_member p (moved c b) h);
    header = λ m. (stayed c b n).header;
  }
]

-- a write of no bytes changes nothing
pub nothing_written : (path b : Bytes) (from : ℕ) → after (write path from []) b ≡ b
unfolding MeaningOf.after MeaningOf.effect EffectOf.written
nothing_written path b from = settle_both (λ (x y : Bytes). x ≡ b) (lines (write path from []) b) (λ r. b) b (λ r. b) b (λ r. refl) (λ e. refl)
