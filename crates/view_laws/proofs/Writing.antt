-- A file's entry that is rewritten, with other content or another lock: its name and date stay, so the row changes there alone.
use mathlib.Core.Path.{◌≡◌, refl, sym, ap, ap₂, ◌∙◌, subst}
use mathlib.Core.Logic.{inl, inr}
use Prim.Native.Nat.{ℕ, suc, ◌+◌, ◌-◌, ◌*◌, ◌≤◌, ◌<◌, max}
use native.Mathlib.Omega.{arith}
use native.Mathlib.Decide.{dec_lt}
use mathlib.Core.Bool.{Bool, true, false, not}
use mathlib.Core.Option.{some}
use mathlib.Core.List.{List, [], ◌∷◌, ◌++◌, flat_map}
use lib.ListN.{length, take, length-append}
use lib.Dec.{T, eqb, eqb→eq}
use Rattle.volume.specs.Bytes.{Bytes, byte_at, put, same}
use Rattle.std.specs.Prelude.{if◌then◌else◌}
use Rattle.volume.specs.Field.{Field, load}
use Rattle.volume.specs.Chain.{chain, beyond}
use Rattle.volume.specs.Geometry as On
use Rattle.volume.proofs.Occ.{occ, Mem, mem_or_not, not_mem, occ_append}
use Rattle.volume.proofs.Tests.{if_yes, if_no, and_both, both_and, eq-eqb}
use Rattle.volume.proofs.Splice.{splice_nil}
use Rattle.volume.proofs.Fields.{place, wide, Off}
use Rattle.volume.proofs.Chains.{chain_length}
use Rattle.volume.proofs.Lawful.{Sized, Kept}
use Rattle.volume.proofs.Grow.{Gained, gained_is}
use Rattle.volume.proofs.Writes.{Written, written_is}
use Rattle.model.specs.Name.{legal_name}
use Rattle.model.specs.Entry.{Entry, vacant, a_file, a_directory}
use Rattle.model.specs.View.{View, next}
use Rattle.model.specs.Sound.{pages_of, pages_at, good_entry, is_named, same_name, in_directory, good_directory}
use Rattle.model.specs.Tree.{Row, file, rewrite, relock}
use Rattle.model.specs.Path.{Name}
use Rattle.model.specs.Image.{content_on, content_of, entry_row, row_at}
use Rattle.model.specs.Walk.{entry_named, change_at}
use Rattle.model.specs.Refusal.{content_in}
use Rattle.view_laws.proofs.Owns.{own}
use Rattle.view_laws.proofs.Frame.{SamePages, unchanged_pages}
use Rattle.view_laws.proofs.Facts.{Facts}
use Rattle.view_laws.proofs.Level.{good_split}
use Rattle.view_laws.proofs.Focus.{Leads, named_found}
use Rattle.view_laws.proofs.Change.{Works}
use Rattle.view_laws.proofs.Walks.{node_of}
use Rattle.view_laws.proofs.Slots.{Owned, entry_owned, entry_apart}
use Rattle.view_laws.proofs.Shelf.{Shelf, seen, Shelved, lies, entry_changed}

-- ---- rewrite

rewrite_skip : (v : View) (g : ℕ → Row) (n w : Bytes) (x : Entry) → T (not (is_named n x)) → (rest : Row) → rewrite n w (entry_row v g x rest) ≡ entry_row v g x (rewrite n w rest)
unfolding rewrite entry_row is_named
rewrite_skip v g n w vacant h rest = refl
rewrite_skip v g n w (a_file locked name date start size) h rest =
    if_no (same name n) (file locked name date w rest) (entry_row v g (a_file locked name date start size) (rewrite n w rest)) h
rewrite_skip v g n w (a_directory name date start size) h rest = refl

rewrite_work : (v : View) (g : ℕ → Row) (n w : Bytes) (locked : Bool) (name date : Bytes) (start size : ℕ) → T (is_named n (a_file locked name date start size)) → (rest : Row)
    → rewrite n w (entry_row v g (a_file locked name date start size) rest) ≡ file locked name date w rest
unfolding rewrite entry_row is_named
rewrite_work v g n w locked name date start size h rest =
    if_yes (same name n) (file locked name date w rest) (entry_row v g (a_file locked name date start size) (rewrite n w rest)) h

-- ---- relock

relock_skip : (v : View) (g : ℕ → Row) (n : Bytes) (k : Bool) (x : Entry) → T (not (is_named n x)) → (rest : Row) → relock n k (entry_row v g x rest) ≡ entry_row v g x (relock n k rest)
unfolding relock entry_row is_named pages_of
relock_skip v g n k vacant h rest = refl
relock_skip v g n k (a_file locked name date start size) h rest =
    if_no (same name n) (entry_row v g (a_file k name date start size) rest) (entry_row v g (a_file locked name date start size) (relock n k rest)) h
relock_skip v g n k (a_directory name date start size) h rest = refl

relock_work : (v : View) (g : ℕ → Row) (n : Bytes) (k locked : Bool) (name date : Bytes) (start size : ℕ) → T (is_named n (a_file locked name date start size)) → (rest : Row)
    → relock n k (entry_row v g (a_file locked name date start size) rest) ≡ entry_row v g (a_file k name date start size) rest
unfolding relock entry_row is_named pages_of
relock_work v g n k locked name date start size h rest =
    if_yes (same name n) (entry_row v g (a_file k name date start size) rest) (entry_row v g (a_file locked name date start size) (relock n k rest)) h

-- ---- the entry afterwards

-- the file named n of the directory t, and what it is afterwards
module _ (v v' : View) (e t at : ℕ) (good : T (good_directory (suc e) v t)) (n : Bytes) (found : entry_named v t n ≡ some at)
    (locked locked' : Bool) (name date : Bytes) (start start' size size' : ℕ) (is : v.entry_at at ≡ a_file locked name date start size)
    (is' : v'.entry_at at ≡ a_file locked' name date start' size') where
  file_works : (op : Row → Row) → T (good_entry v' (a_file locked' name date start' size'))
      → ((x : Entry) → T (not (is_named n x)) → (rest : Row) → op (entry_row v (row_at e v) x rest) ≡ entry_row v (row_at e v) x (op rest))
      → (T (is_named n (a_file locked name date start size)) → (rest : Row)
      → op (entry_row v (row_at e v) (a_file locked name date start size) rest) ≡ entry_row v' (row_at e v') (a_file locked' name date start' size') rest)
      → Works v v' e t at op (is_named n)
  unfolding entry_named same_name
  file_works op good' skip work =
      let here = named_found v t n at found in
      record {
        skip = skip;
        work = λ rest.
            ap (λ (x : Entry). op (entry_row v (row_at e v) x rest)) is
            ∙ work (subst (λ (x : Entry). T (is_named n x)) is here.1) rest
            ∙ ap (λ (x : Entry). entry_row v' (row_at e v') x rest) (sym is');
        found = found;
        good = subst (λ (x : Entry). T (good_entry v' x)) (sym is') good';
        below = subst (λ (x : Entry). T (in_directory true (good_directory e v') x)) (sym is') tt;
        name = λ x m ne. subst (λ (y : Entry). T (not (same_name y (v.entry_at x)))) (sym is')
            (subst (λ (y : Entry). T (not (same_name y (v.entry_at x)))) is ((good_split e v t good).apart at x here.0 m (λ q. ne (sym q))));
      }

module _ (v v' : View) (e t at : ℕ) (good : T (good_directory (suc e) v t)) (n : Bytes) (found : entry_named v t n ≡ some at)
    {locked : Bool} {name date : Bytes} {start size : ℕ} (is : v.entry_at at ≡ a_file locked name date start size) where
  -- a good file's name is legal and its last page has link 0
  pub file_good : T (legal_name name) × (beyond (next v) (v.numbers.pages_for size) start ≡ 0)
  unfolding good_entry
  file_good =
      let r = and_both (legal_name name) (eqb (beyond (next v) (v.numbers.pages_for size) start) 0)
      (subst (λ (x : Entry). T (good_entry v x)) is ((good_split e v t good).each at (named_found v t n at found).0)) in
      (r.0, eqb→eq (beyond (next v) (v.numbers.pages_for size) start) 0 r.1)

  -- other content: the pages afterwards hold the bytes w
  pub rewrite_works : {start' size' : ℕ} → v'.entry_at at ≡ a_file locked name date start' size' → beyond (next v') (v'.numbers.pages_for size') start' ≡ 0
      → {w : Bytes} → content_of v' size' (chain (next v') (v'.numbers.pages_for size') start') ≡ w → Works v v' e t at (rewrite n w) (is_named n)
  unfolding good_entry entry_row pages_of
  rewrite_works {start'} {size'} is' ends {w} c =
      file_works v v' e t at good n found locked locked name date start start' size size' is is' (rewrite n w)
      (both_and (legal_name name) (eqb (beyond (next v') (v'.numbers.pages_for size') start') 0) file_good.0 (eq-eqb ends))
      (rewrite_skip v (row_at e v) n w)
      (λ h rest. rewrite_work v (row_at e v) n w locked name date start size h rest ∙ ap {B = Row} (λ x. file locked name date x rest) (sym c))

  -- another lock: the pages hold what they held
  relock_works : {k : Bool} → v'.entry_at at ≡ a_file k name date start size → SamePages v v' (a_file k name date start size) → Works v v' e t at (relock n k) (is_named n)
  unfolding good_entry entry_row pages_of content_of
  relock_works {k} is' kept =
      file_works v v' e t at good n found locked k name date start start size size is is' (relock n k)
      (subst T (sym kept.good) (subst (λ (x : Entry). T (good_entry v x)) is ((good_split e v t good).each at (named_found v t n at found).0)))
      (relock_skip v (row_at e v) n k)
      (λ h rest.
      relock_work v (row_at e v) n k locked name date start size h rest
      ∙ ap (λ (x : Bytes). file k name date (take size x) rest) (sym kept.content)
      ∙ ap (λ (ps : List ℕ). file k name date (content_of v' size ps) rest) (sym kept.pages))

-- ---- a file's pages and content

module _ (v : View) {at : ℕ} {locked : Bool} {name date : Bytes} {start size : ℕ} (is : v.entry_at at ≡ a_file locked name date start size) where
  pub file_pages : pages_at v at ≡ chain (next v) (v.numbers.pages_for size) start
  unfolding pages_of
  file_pages = ap (pages_of v) is

  pub file_content : (g : ℕ → Row) → content_in (node_of v g (v.entry_at at)) ≡ content_of v size (chain (next v) (v.numbers.pages_for size) start)
  unfolding content_in node_of pages_of
  file_content g = ap (λ (x : Entry). content_in (node_of v g x)) is

-- ---- a write of no bytes leaves the image, which then has the content already

put_none : (from : ℕ) (v c : Bytes) → length v ≡ 0 → put from v c ≡ c
put_none from [] c e = splice_nil c from
put_none from (x ∷ v) c e = absurd (omega arith)

pub written_or_none : (Says : (image content : Bytes) → Type 0) (b b' : Bytes) (from : ℕ) (v c : Bytes) → Says b c → Says b' (put from v c)
    → Says (if eqb (length v) 0 then b else b') (put from v c)
written_or_none Says b b' from v c unchanged written = go (eqb (length v) 0) (eqb→eq (length v) 0)
  where
    go : (none : Bool) → (T none → length v ≡ 0) → Says (if none then b else b') (put from v c)
    go true z = subst (Says b) (sym (put_none from v c (z tt))) unchanged
    go false z = written

-- ---- on any shelf

-- the file at `at` that the names and n lead to, whose start page stands at `field`
module _ {s : Shelf} (w : Shelved s) {b : Bytes} (sized : Sized s.geometry s.pages b) (f : Facts (seen s b)) (names : List Name) (e t at : ℕ) (n : Bytes)
    (leads : Leads (seen s b) s.pages 0 names (suc e) t) (good : T (good_directory (suc e) (seen s b) t)) (ends : T (s.directory_ends b t))
    (found : entry_named (seen s b) t n ≡ some at) (locked : Bool) (name date : Bytes) (size : ℕ) (field : Field)
    (is : s.entry_at b at ≡ a_file locked name date (load field b) size) where
  -- its pages
  abbrev pub ps : List ℕ
  ps = chain (On.next s.geometry b) (s.numbers.pages_for size) (load field b)

  pub entry : Mem at (s.entries b t)
  entry = (named_found (seen s b) t n at found).0

  mine : own e (seen s b) (s.entry_at b at) ≡ ps
  unfolding own pages_of
  mine = ap (own e (seen s b)) is

  pub file_owned : Owned (seen s b) ps
  file_owned = subst (Owned (seen s b)) mine (entry_owned f names e t at leads entry)

  file_ends : beyond (On.next s.geometry b) (s.numbers.pages_for size) (load field b) ≡ 0
  file_ends = (file_good (seen s b) (seen s b) e t at good n found is).1

  -- the directory's pages are none of the file's
  beside : (q : ℕ) → Mem q (s.directory_pages b t) → occ q ps ≡ 0
  beside q m = ap (occ q) (sym mine) ∙ entry_apart f w.law.header w.high (w.rooted b) names e t at q leads entry m

  -- its bytes
  abbrev pub content : Bytes
  content = content_of (seen s b) size ps

  -- A write of no bytes: the row has the file's content already.
  pub unwritten_sound : Facts (seen s b) × (row_at s.pages (seen s b) 0 ≡ change_at names (rewrite n content) (row_at s.pages (seen s b) 0))
  unfolding own
  unwritten_sound =
      entry_changed w f names e t leads b at [] entry (λ q k. absurd (omega arith)) refl (λ i k z u. refl) (rewrite n content) (is_named n) good ends
      (rewrite_works (seen s b) (seen s b) e t at good n found is is file_ends refl)
      (record { bits = λ q l. refl; count = refl; fresh_in = λ q k. let r = file_owned.inside q (subst (Mem q) mine k) in (r.0, r.1) })

  -- Another lock: one byte of the entry changes, no field that holds a page or the count.
  module _ (b' : Bytes) (k : Bool) (len : length b' ≡ length b) (rest : (i : ℕ) → (at ≤ i → at + 32 ≤ i) → byte_at b' i ≡ byte_at b i)
      (is' : s.entry_at b' at ≡ a_file k name date (load field b) size) where
    kept : SamePages (seen s b) (seen s b') (a_file k name date (load field b) size)
    unfolding pages_of
    kept =
        let o = lies w f names e t leads at entry in
        unchanged_pages (w.follows b b' len) (a_file k name date (load field b) size) (λ q m.
        let r = file_owned.inside q m in (
          omega (arith, r.0, w.law.header),
          record {
            real = (inr r.0, r.1);
            bytes = λ i h c. rest i (λ y. elim (dec_lt i (at + 32)) [
              | yes l ↦ absurd (omega (arith, m, beside o.page o.of, ap (λ (x : ℕ). occ x ps) (sym (o.bytes i y l).0 ∙ h)))
              | no l ↦ omega (arith, l)
            ]);
          },
        ))

    pub relocked_sound : ((q : ℕ) → q < s.pages → On.page_bit s.geometry b' q ≡ On.page_bit s.geometry b q) → On.free_count s.geometry b' ≡ On.free_count s.geometry b
        → Facts (seen s b') × (row_at s.pages (seen s b') 0 ≡ change_at names (relock n k) (row_at s.pages (seen s b) 0))
    unfolding own pages_of
    relocked_sound bits count =
        let mine' : own e (seen s b') (s.entry_at b' at) ≡ ps = ap (own e (seen s b')) is' ∙ kept.pages in
        entry_changed w f names e t leads b' at [] entry (λ q c. absurd (omega arith)) len (λ i c z u. rest i z)
        (relock n k) (is_named n) good ends (relock_works (seen s b) (seen s b') e t at good n found is is' kept)
        (record {
          bits = λ q l. omega (arith, bits q l, ap (occ q) mine, ap (occ q) mine');
          count = omega (arith, count, ap length mine, ap length mine');
          fresh_in = λ q m. let r = file_owned.inside q (subst (Mem q) mine' m) in (r.0, r.1);
        })

  -- Other content: u goes to place `from` of it, and the size is put at `sp` as the bytes x.
  module _ (low : at ≤ place field) (high : place field + wide field ≤ at + 32)
      (sp : ℕ) (x : Bytes) (sp_low : at ≤ sp) (sp_high : sp + length x ≤ at + 32) (sp_off : (i : ℕ) → sp ≤ i → i < sp + length x → Off field i)
      (fill_up : (m : ℕ) → m ≤ s.geometry.room * s.numbers.pages_for m) (rise : (m m' : ℕ) → m ≤ m' → s.numbers.pages_for m + (s.numbers.pages_for m' - s.numbers.pages_for m) ≡ s.numbers.pages_for m')
      (from : ℕ) (u : Bytes) (hf : from ≤ size) (space : s.numbers.pages_for (max size (from + length u)) - s.numbers.pages_for size ≤ On.zero_bits s.geometry b s.pages) where
    abbrev size' : ℕ
    size' = max size (from + length u)

    abbrev k : ℕ
    k = s.numbers.pages_for size' - s.numbers.pages_for size

    abbrev qs : List ℕ
    qs = On.gained s.geometry s.pages k b

    abbrev b' : Bytes
    b' = On.written s.geometry s.pages field ps k sp x from u b

    write_gained : Gained s.geometry s.pages k b
    write_gained = gained_is w.law k b sized f.aside space

    total : s.numbers.pages_for size + k ≡ s.numbers.pages_for size'
    total = rise size size' (omega arith)

    pub write_bytes : Written s.geometry s.home s.pages b b' field (lies w f names e t leads at entry).page sp x from u size size' ps qs
    write_bytes =
        let o = lies w f names e t leads at entry in
        written_is w.law b field o.page (s.numbers.pages_for size) k sp x from u size size'
        (record {
          size = sized;
          aside = f.aside;
          held = record {
            inside = omega (arith, high, o.inside sized);
            bytes = λ i l h. o.bytes i (omega (arith, l, low)) (omega (arith, h, high));
            page = o.real;
            marked = o.marked;
          };
          apart = beside o.page o.of;
          pages = file_owned.inside;
          once = file_owned.once;
          ends = file_ends;
        })
        (record {
          inside = omega (arith, sp_high, o.inside sized);
          bytes = λ i l h. let r = o.bytes i (omega (arith, l, sp_low)) (omega (arith, h, sp_high)) in (r.0, r.1, sp_off i l h);
        })
        hf (fill_up size) refl (subst (λ (m : ℕ). size' ≤ s.geometry.room * m) (sym total) (fill_up size')) space

    many : length (ps ++ qs) ≡ s.numbers.pages_for size'
    many = length-append ps qs ∙ ap₂ (λ (y z : ℕ). y + z) (chain_length (On.next s.geometry b) (s.numbers.pages_for size) (load field b)) write_gained.many ∙ total

    inside' : (q : ℕ) → Mem q (ps ++ qs) → (s.geometry.aside ≤ q) × (q < s.pages)
    inside' q m = elim (mem_or_not q ps) [
      | inl h ↦ let r = file_owned.inside q h in (r.0, r.1)
      | inr h ↦ let r = write_gained.new q (omega (arith, m, h, occ_append q ps qs)) in (r.0, r.1)
    ]

    pages' : chain (On.next s.geometry b') (s.numbers.pages_for size') (load field b') ≡ ps ++ qs
    pages' = ap (λ (m : ℕ). chain (On.next s.geometry b') m (load field b')) (sym many) ∙ write_bytes.pages

    -- that the entry reads as the larger file is the version's to show, from `write_bytes`
    pub written_sound : s.entry_at b' at ≡ a_file locked name date (load field b') size'
        → Facts (seen s b') × (row_at s.pages (seen s b') 0 ≡ change_at names (rewrite n (put from u content)) (row_at s.pages (seen s b) 0))
    unfolding content_of own pages_of
    written_sound is' =
        let r = write_bytes in
        let mine' : own e (seen s b') (s.entry_at b' at) ≡ ps ++ qs = ap (own e (seen s b')) is' ∙ pages' in
        let two : (q : ℕ) → occ q (ps ++ qs) ≡ occ q ps + occ q qs = λ q. occ_append q ps qs in
        entry_changed w f names e t leads b' at (ps ++ qs) entry
        (λ q m. (
          omega (arith, (inside' q m).0, w.law.header),
          λ a. elim (mem_or_not q ps) [
            | inl h ↦ subst (Mem q) (sym mine) h
            | inr h ↦ let y = write_gained.new q (omega (arith, m, h, two q)) in absurd (omega (arith, y.2, f.exact q y.0 y.1, a))
          ],
        ))
        r.size (λ i c z a. r.rest i c (λ y. omega (arith, high, z (omega (arith, y, low)))) (λ y. omega (arith, sp_high, z (omega (arith, y, sp_low)))) a)
        (rewrite n (put from u content)) (is_named n) good ends
        (rewrite_works (seen s b) (seen s b') e t at good n found is is'
        (ap (λ (m : ℕ). beyond (On.next s.geometry b') m (load field b')) (sym many) ∙ r.ends)
        (ap (λ (l : List ℕ). take size' (flat_map (content_on (seen s b')) l)) pages' ∙ r.content))
        (record {
          bits = λ q l. omega (arith, ap (occ q) mine, ap (occ q) mine', two q, r.bits q l);
          count = omega (arith, ap length mine, ap length mine', length-append ps qs, r.count, write_gained.many, f.counted, space);
          fresh_in = λ q m. inside' q (subst (Mem q) mine' m);
        })

    -- the image afterwards: the size and the other fields of the entry, and what stands before it on page 0; and what it means once the entry is read
    pub record Rewritten : Type 0 where
      pub long : length b' ≡ length b
      pub new_size : (i : ℕ) → i < length x → byte_at b' (sp + i) ≡ byte_at x i
      pub fields : (i : ℕ) → at ≤ i → i < at + 32 → Off field i → (sp ≤ i → sp + length x ≤ i) → byte_at b' i ≡ byte_at b i
      pub header : (i : ℕ) → i < at → s.home i ≡ 0 → Kept s.geometry s.pages i → byte_at b' i ≡ byte_at b i
      pub means : s.entry_at b' at ≡ a_file locked name date (load field b') size'
          → Facts (seen s b') × (row_at s.pages (seen s b') 0 ≡ change_at names (rewrite n (put from u content)) (row_at s.pages (seen s b) 0))

    pub rewritten : Rewritten
    rewritten =
        let r = write_bytes in
        let o = lies w f names e t leads at entry in
        let none : occ 0 (ps ++ qs) ≡ 0 = not_mem 0 (ps ++ qs) (λ m. omega (arith, (inside' 0 m).0, w.law.header)) in
        record {
          long = r.size;
          new_size = r.beside;
          fields = λ i l h off z. r.rest i (o.bytes i l h).1 off z (ap (λ (p : ℕ). occ p (ps ++ qs)) (o.bytes i l h).0 ∙ r.apart);
          header = λ i l h c. r.rest i c (λ y. omega (arith, y, l, low)) (λ y. omega (arith, y, l, sp_low)) (ap (λ (p : ℕ). occ p (ps ++ qs)) h ∙ none);
          means = written_sound;
        }
