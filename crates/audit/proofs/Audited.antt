-- The second judge says yes exactly if the image is sound, and then its row has the owner of each page.
use mathlib.Core.Path.{◌≡◌, refl, sym, ap, ◌∙◌, subst}
use mathlib.Core.Logic.{◌≢◌, inl, inr}
use Prim.Native.Nat.{ℕ, zero, suc, ◌+◌, ◌-◌, ◌≤◌, ◌<◌}
use native.Mathlib.Omega.{arith}
use native.Mathlib.Decide.{dec_lt}
use mathlib.Core.Bool.{Bool, true, false, not, ◌&&◌, beq}
use mathlib.Core.List.{List, [], ◌∷◌, ◌++◌, map, flat_map, append-nil}
use lib.ListN.{length, get_or, replicate, length-append, length-replicate, get_or-replicate, get_or-append}
use lib.Seq.{get_or-append-add, ext_get_or}
use lib.Dec.{T, eqb, eqb→eq, eqb-suc-zero}
use Rattle.volume.specs.Bytes.{Bytes}
use Rattle.std.specs.Prelude.{if◌then◌else◌}
use Rattle.volume.specs.Lists.{all, member, count_from, up_to}
use Rattle.volume.specs.Geometry as On
use Rattle.volume.proofs.Occ.{occ, Mem, mem_head, mem_cons, mem_or_not, not_mem}
use Rattle.volume.proofs.Tests.{and_both, both_and, all_occ, occ_all, occ_count_from, count_from_occ, eq-eqb, member_occ}
use Rattle.volume.proofs.Flat.{occ_flat_map_le}
use Rattle.volume.proofs.Marks.{bit_low}
use Rattle.model.specs.Layout.{version1, page_count, valid_length, valid_header, free_count, page_bit, zero_bits}
use Rattle.model.specs.Version1.{view}
use Rattle.model.specs.Sound.{pages_at, good_directory, reached, owned, sound, reached_entries, owned_pages, owners, owners_in}
use Rattle.model.specs.Demands.{Owned, is_free, is_owned}
use Rattle.laws.proofs.Facts.{valid_sized, Facts, sound_facts_lem, facts_sound}
use Rattle.laws.proofs.Counting.{count_owned}
use Rattle.laws.proofs.Lists.{page_owned}
use Rattle.audit.specs.Owner.{nobody, header, first_owner, owner_of, owner_row, owner_number, owner_numbers}
use Rattle.claims.specs.Claim.{Visited, stops, goes}
use Rattle.audit.specs.Visit.{visit, concluded, first_row, audit}
use Rattle.agreement.specs.Marked.{nobodies, is_marked}
use Rattle.audit.proofs.Owners.{owner_is, keep_mem, get_d_count_from, length_count_from}
use Rattle.audit.proofs.Visits.{used, Ownable, used_after}
use Rattle.audit.proofs.Visiting.{AtYes, IsYes, Yes, visit_yes, visit_done}

bool_ext : (c d : Bool) → (T c → T d) → (T d → T c) → c ≡ d
bool_ext true true f g = refl
bool_ext true false f g = absurd (f tt)
bool_ext false true f g = absurd (g tt)
bool_ext false false f g = refl

-- marked exactly if somebody owns it
abbrev agrees : Bytes → List ℕ → ℕ → Bool
agrees b row p = beq (eqb (page_bit b p) 1) (not (eqb (get_or row p 0) 0))

agrees_used : (b : Bytes) (row : List ℕ) (p : ℕ) → T (agrees b row p) → page_bit b p ≡ used row p
agrees_used b row p h = go (eqb (page_bit b p) 1) (eqb (get_or row p 0) 0) (eqb→eq (page_bit b p) 1) (λ e. eq-eqb e) (eqb→eq (get_or row p 0) 0) (λ e. eq-eqb e) h
  where
    go : (c k : Bool) → (T c → page_bit b p ≡ 1) → (page_bit b p ≡ 1 → T c) → (T k → get_or row p 0 ≡ 0) → (get_or row p 0 ≡ 0 → T k) → T (beq c (not k)) → page_bit b p ≡ used row p
    go true false a x d y h = let n : get_or row p 0 ≢ 0 = y in omega (arith, a tt, n)
    go true true a x d y h = absurd h
    go false true a x d y h = let n : page_bit b p ≢ 1 = x in omega (arith, d tt, n, bit_low version1 b p)
    go false false a x d y h = absurd h

used_agrees : (b : Bytes) (row : List ℕ) (p : ℕ) → page_bit b p ≡ used row p → T (agrees b row p)
used_agrees b row p e = go (eqb (page_bit b p) 1) (eqb (get_or row p 0) 0) (eqb→eq (page_bit b p) 1) (λ e. eq-eqb e) (eqb→eq (get_or row p 0) 0) (λ e. eq-eqb e)
  where
    go : (c k : Bool) → (T c → page_bit b p ≡ 1) → (page_bit b p ≡ 1 → T c) → (T k → get_or row p 0 ≡ 0) → (get_or row p 0 ≡ 0 → T k) → T (beq c (not k))
    go true false a x d y = tt
    go true true a x d y = absurd (omega (arith, a tt, d tt, e))
    go false true a x d y = tt
    go false false a x d y =
        let n : get_or row p 0 ≢ 0 = y in
        let one : page_bit b p ≡ 1 = omega (arith, n, e) in
        absurd (x one)

zeros_nobodies : (b : Bytes) (row : List ℕ) (n : ℕ) → ((q : ℕ) → q < n → page_bit b q ≡ used row q) → zero_bits b n ≡ nobodies row n
unfolding On.zero_bits nobodies
zeros_nobodies b row zero h = refl
zeros_nobodies b row (suc n) h = omega (arith, zeros_nobodies b row n (λ q l. h q (omega arith)), h n (omega arith))

first_used : (n q : ℕ) → 1 ≤ q → get_or (first_row n) q 0 ≡ 0
first_used n zero l = absurd (omega arith)
first_used n (suc q) l = zeros (n - 1) q
  where
    zeros : (m q : ℕ) → get_or {A = ℕ} (replicate m 0) q 0 ≡ 0
    zeros zero q = refl
    zeros (suc m) zero = refl
    zeros (suc m) (suc q) = zeros m q

pub owner_suc : (b : Bytes) (q : ℕ) → owner_of b (suc q) ≡ first_owner (owners b (suc q))
unfolding owner_of
owner_suc b q = ap (λ (c : Bool). if c then header else first_owner (owners b (suc q))) (eqb-suc-zero q)

module _ (b : Bytes) where
  abbrev N : ℕ
  N = page_count b

  abbrev start : List ℕ
  start = first_row (page_count b)

  owned_root : (q : ℕ) → occ q (flat_map (owned (page_count b) (view b)) (0 ∷ [])) ≡ occ q (owned_pages b)
  unfolding flat_map
  owned_root q = ap (occ q) (append-nil (owned_pages b))

  reached_root : (x : ℕ) → occ x (flat_map (reached (page_count b) (view b)) (0 ∷ [])) ≡ occ x (reached_entries b)
  unfolding flat_map
  reached_root x = ap (occ x) (append-nil (reached_entries b))

  owned_length : length (flat_map (owned (page_count b) (view b)) (0 ∷ [])) ≡ length (owned_pages b)
  unfolding flat_map
  owned_length = ap length (append-nil (owned_pages b))

  long_start : 1 ≤ page_count b → length start ≡ page_count b
  long_start l = omega (arith, length-replicate {A = ℕ} (page_count b - 1) 0)

  -- what a row is after a visit that says yes
  module _ (l : 1 ≤ page_count b) (row : List ℕ) (y : Yes b (page_count b) (0 ∷ []) start row) where
    header_free : occ 0 (owned_pages b) ≡ 0
    header_free = not_mem 0 (owned_pages b) (λ m. let r = y.ownable 0 (omega (arith, owned_root 0)) in omega (arith, r.1, owned_root 0))

    row_header : get_or row 0 0 ≡ 1
    row_header = y.sets.kept 0 (owned_root 0 ∙ header_free)

    row_used : (q : ℕ) → 1 ≤ q → used row q ≡ occ q (owned_pages b)
    row_used q k = omega (arith, used_after y.ownable y.sets q, owned_root q, first_used (page_count b) q k)

    row_inside : (q : ℕ) → Mem q (owned_pages b) → (1 ≤ q) × (q < page_count b)
    row_inside zero m = absurd (omega (arith, header_free))
    row_inside (suc q) m = let r = y.ownable (suc q) (omega (arith, owned_root (suc q))) in (omega arith, omega (arith, r.0, long_start l))

    row_long : length row ≡ page_count b
    row_long = y.sets.long ∙ long_start l

    -- a marked row makes the image sound
    marked_facts : T (valid_length (length b)) → T (valid_header b) → T (is_marked b row) → Facts b
    unfolding is_marked
    marked_facts v w h =
        let r = and_both (all (agrees b row) (up_to (page_count b))) (eqb (free_count b) (nobodies row (page_count b))) h in
        let bits : (q : ℕ) → q < page_count b → page_bit b q ≡ used row q = λ q u.
        agrees_used b row q (all_occ (agrees b row) (up_to (page_count b)) r.0 q (occ_count_from 0 (page_count b) q (omega arith) (omega arith))) in
        record {
          fits = v;
          headed = w;
          bit_zero = bits 0 (omega arith) ∙ omega (arith, row_header);
          counted = eqb→eq (free_count b) (nobodies row (page_count b)) r.1 ∙ sym (zeros_nobodies b row (page_count b) bits);
          formed = y.good 0 (mem_head 0 []);
          inside = row_inside;
          exact = λ q k u. sym (row_used q k) ∙ sym (bits q u);
        }

    facts_marked : Facts b → T (is_marked b row)
    unfolding is_marked
    facts_marked f =
        let bits : (q : ℕ) → q < page_count b → page_bit b q ≡ used row q = λ q u. bit_of q u in
        both_and (all (agrees b row) (up_to (page_count b))) (eqb (free_count b) (nobodies row (page_count b)))
        (occ_all (agrees b row) (up_to (page_count b)) (λ q m. let r = count_from_occ 0 (page_count b) q m in used_agrees b row q (bits q (omega (arith, r.1)))))
        (eq-eqb (f.counted ∙ zeros_nobodies b row (page_count b) bits))
      where
        bit_of : (q : ℕ) → q < page_count b → page_bit b q ≡ used row q
        bit_of zero u = f.bit_zero ∙ omega (arith, row_header)
        bit_of (suc q) u = sym (f.exact (suc q) (omega arith) u) ∙ sym (row_used (suc q) (omega arith))

    -- the row has the owner of each page
    row_owner : Facts b → (q : ℕ) → q < page_count b → get_or row q 0 ≡ owner_number (owner_of b q)
    unfolding owner_of
    row_owner f zero u = row_header
    row_owner f (suc q) u = elim (mem_or_not (suc q) (owned_pages b)) [
      | inl m ↦
          let a = y.sets.named (suc q) (omega (arith, owned_root (suc q))) in
          let o = owner_is b f (get_or row (suc q) 0) (suc q) (omega (arith, a.0, reached_root (get_or row (suc q) 0))) a.1 in
          ap (λ (l : List ℕ). owner_number (first_owner l)) (sym o.2) ∙ ap owner_number (sym (owner_suc b q))
      | inr z ↦
          y.sets.kept (suc q) (owned_root (suc q) ∙ z) ∙ first_used (page_count b) (suc q) (omega arith)
          ∙ free z (page_owned f (suc q) (omega arith) u) ∙ ap owner_number (sym (owner_suc b q))
    ]
      where
        free : occ (suc q) (owned_pages b) ≡ 0 → Owned b (suc q) → 0 ≡ owner_number (first_owner (owners b (suc q)))
        free n (is_free z e) = ap (λ (l : List ℕ). owner_number (first_owner l)) (sym e)
        free n (is_owned x o e) = absurd (omega (arith, o, n, f.exact (suc q) (omega arith) u))

  -- ---- the whole

  pub record Told (row : List ℕ) : Type 0 where
    pub is_sound : T (sound b)
    pub long : length row ≡ page_count b
    pub each : (q : ℕ) → q < page_count b → get_or row q 0 ≡ owner_number (owner_of b q)

  low : T (valid_length (length b)) → 1 ≤ page_count b
  low v = let s = valid_sized b v in omega (arith, s.low)

  concluded_told : T (valid_length (length b)) → T (valid_header b) → (v : Visited) → AtYes b (Yes b (page_count b) (0 ∷ []) start) v → AtYes b Told (concluded b v)
  unfolding concluded
  concluded_told h w stops y = tt
  concluded_told h w (goes row) y = go (is_marked b row) (λ t. t)
    where
      go : (c : Bool) → (T c → T (is_marked b row)) → AtYes b Told (if c then goes row else stops)
      go true t =
          let f = marked_facts (low h) row y h w (t tt) in
          record { is_sound = facts_sound f; long = row_long (low h) row y; each = row_owner (low h) row y f }
      go false t = tt

  concluded_done : Facts b → (v : Visited) → AtYes b (Yes b (page_count b) (0 ∷ []) start) v → IsYes b v → IsYes b (concluded b v)
  unfolding concluded
  concluded_done f stops y d = d
  concluded_done f (goes row) y d = go (is_marked b row) (facts_marked (low f.fits) row y f)
    where
      go : (c : Bool) → T c → IsYes b (if c then goes row else stops)
      go true t = tt
      go false t = t

  pub audit_told : AtYes b Told (audit b)
  unfolding audit
  audit_told = go (valid_length (length b)) (valid_header b) (λ t. t) (λ t. t)
    where
      go : (c k : Bool) → (T c → T (valid_length (length b))) → (T k → T (valid_header b))
          → AtYes b Told (if c && k then concluded b (visit (page_count b) b (0 ∷ []) start) else stops)
      go true true h w = concluded_told (h tt) (w tt) (visit (page_count b) b (0 ∷ []) start) (visit_yes b (page_count b) (0 ∷ []) start)
      go true false h w = tt
      go false k h w = tt

  pub audit_done : T (sound b) → IsYes b (audit b)
  unfolding audit
  audit_done h = go (valid_length (length b)) (valid_header b) f.fits f.headed
    where
      f : Facts b
      f = sound_facts_lem h

      ownable : Ownable (flat_map (owned (page_count b) (view b)) (0 ∷ [])) start
      ownable q m =
          let k : Mem q (owned_pages b) = omega (arith, owned_root q) in
          let i = f.inside q k in
          (omega (arith, i.1, long_start (low f.fits)), omega (arith, owned_root q, f.exact q i.0 i.1, bit_low version1 b q, first_used (page_count b) q i.0))

      go : (c k : Bool) → T c → T k → IsYes b (if c && k then concluded b (visit (page_count b) b (0 ∷ []) start) else stops)
      go true true v w = concluded_done f (visit (page_count b) b (0 ∷ []) start) (visit_yes b (page_count b) (0 ∷ []) start)
          (visit_done b (page_count b) (page_count b) (0 ∷ []) start (λ d m. good d m) ownable (omega (arith, owned_length, count_owned f)))
        where
          good : (d : ℕ) → Mem d (0 ∷ []) → T (good_directory (page_count b) (view b) d)
          good d m = elim (mem_cons d 0 [] m) [ inl e ↦ subst (λ (x : ℕ). T (good_directory (page_count b) (view b) x)) (sym e) f.formed | inr k ↦ absurd (omega arith) ]
      go true false v w = w
      go false k v w = v

-- ---- the answer

abbrev pub says_yes : Visited → Bool
says_yes stops = false
says_yes (goes row) = true

-- 256 owners; where it says no, nobody
abbrev pub full_row : Visited → List ℕ
full_row stops = replicate 256 0
full_row (goes row) = row ++ replicate (256 - length row) 0

pub audit_sound : (b : Bytes) → says_yes (audit b) ≡ sound b
audit_sound b = go (audit b) (audit_told b) (audit_done b)
  where
    go : (v : Visited) → AtYes b (Told b) v → (T (sound b) → IsYes b v) → says_yes v ≡ sound b
    go stops y d = bool_ext false (sound b) (λ t. absurd t) d
    go (goes row) y d = bool_ext true (sound b) (λ t. y.is_sound) (λ t. tt)

-- nobody owns a page past N
pub past_nobody : (b : Bytes) → Facts b → (q : ℕ) → page_count b ≤ q → 1 ≤ q → owner_of b q ≡ nobody
unfolding owners_in
past_nobody b f zero l k = absurd (omega arith)
past_nobody b f (suc q) l k = owner_suc b q ∙ go (owners b (suc q)) refl
  where
    go : (xs : List ℕ) → owners b (suc q) ≡ xs → first_owner xs ≡ nobody
    go [] e = refl
    go (x ∷ xs) e =
        let r = keep_mem (λ at. member (suc q) (pages_at (view b) at)) (reached_entries b) x (subst (Mem x) (sym e) (mem_head x xs)) in
        let m = member_occ (suc q) (pages_at (view b) x) r.1 in
        let i = f.inside (suc q) (omega (arith, m, occ_flat_map_le (pages_at (view b)) (reached_entries b) x (suc q) r.0)) in
        absurd (omega (arith, i.1))

pub audit_owners : (b : Bytes) → full_row (audit b) ≡ owner_numbers b
unfolding owner_numbers owner_row
audit_owners b = go (audit b) (audit_told b) (audit_done b) (sound b) (λ t. t) (λ t. t)
  where
    numbers : List ℕ
    numbers = map owner_number (map (owner_of b) (up_to 256))

    zeros_map : (n : ℕ) → map owner_number (replicate n nobody) ≡ replicate n 0
    zeros_map zero = refl
    zeros_map (suc n) = ap (λ (l : List ℕ). 0 ∷ l) (zeros_map n)

    get_d_numbers : (s n i : ℕ) → i < n → get_or (map owner_number (map (owner_of b) (count_from s n))) i 0 ≡ owner_number (owner_of b (s + i))
    get_d_numbers s n i l = at (count_from s n) i (omega (arith, length_count_from s n)) ∙ ap (λ (x : ℕ). owner_number (owner_of b x)) (get_d_count_from s n i l)
      where
        at : (xs : List ℕ) (i : ℕ) → i < length xs → get_or (map owner_number (map (owner_of b) xs)) i 0 ≡ owner_number (owner_of b (get_or xs i 0))
        at [] i l = absurd (omega arith)
        at (x ∷ xs) zero l = refl
        at (x ∷ xs) (suc i) l = at xs i (omega arith)

    length_numbers : (xs : List ℕ) → length (map owner_number (map (owner_of b) xs)) ≡ length xs
    length_numbers [] = refl
    length_numbers (x ∷ xs) = ap suc (length_numbers xs)

    go : (v : Visited) → AtYes b (Told b) v → (T (sound b) → IsYes b v) → (c : Bool) → (T c → T (sound b)) → (T (sound b) → T c)
        → full_row v ≡ map owner_number (if c then map (owner_of b) (up_to 256) else replicate 256 nobody)
    go stops y d true t u = absurd (d (t tt))
    go stops y d false t u = sym (zeros_map 256)
    go (goes row) y d false t u = absurd (u y.is_sound)
    go (goes row) y d true t u =
        let f = sound_facts_lem y.is_sound in
        let s = valid_sized b f.fits in
        let n : length (row ++ replicate (256 - length row) 0) ≡ 256 = omega (arith, length-append row (replicate (256 - length row) 0), length-replicate {A = ℕ} (256 - length row) 0, y.long, s.high) in
        ext_get_or 0 (row ++ replicate (256 - length row) 0) (map owner_number (map (owner_of b) (up_to 256)))
        (n ∙ sym (length_numbers (up_to 256) ∙ length_count_from 0 256))
        (λ i l. elim (dec_lt i (page_count b)) [
          | yes k ↦ get_or-append row (replicate (256 - length row) 0) 0 i (omega (arith, y.long)) ∙ y.each i k ∙ sym (number i (omega arith))
          | no k ↦
              let e : i ≡ length row + (i - length row) = omega (arith, y.long) in
              ap (λ (x : ℕ). get_or (row ++ replicate (256 - length row) 0) x 0) e ∙ get_or-append-add row (replicate (256 - length row) 0) (i - length row) 0
              ∙ get_or-replicate {A = ℕ} (256 - length row) (i - length row) 0 0 (omega (arith, y.long)) ∙ ap owner_number (sym (past_nobody b f i (omega arith) (omega (arith, s.low)))) ∙ sym (number i (omega arith))
        ])
      where
        number : (i : ℕ) → i < 256 → get_or (map owner_number (map (owner_of b) (up_to 256))) i 0 ≡ owner_number (owner_of b i)
        number i l = let z : 0 + i ≡ i = omega arith in get_d_numbers 0 256 i l ∙ ap (λ (x : ℕ). owner_number (owner_of b x)) z
