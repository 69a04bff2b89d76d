-- The helper's numbers: each loop numbers what is left of its part of the order, so `numbered` of the rest is what it was at the start.
use mathlib.Core.Path.{◌≡◌, refl, sym, ap, ap₂, ◌∙◌, subst}
use mathlib.Core.Logic.{◌≢◌}
use Prim.Native.Nat.{ℕ, zero, suc, ◌+◌, ◌-◌, ◌≤◌, ◌<◌}
use native.Mathlib.Omega.{arith}
use native.Mathlib.Numerals.{add-one}
use mathlib.Core.Bool.{Bool, true, false, ◌&&◌}
use mathlib.Core.List.{List, [], ◌∷◌, ◌++◌, flat_map}
use lib.ListN.{length, get_or, drop, set, length-set, length-append, drop_of_length-le}
use lib.Seq.{drop-cons}
use lib.Dec.{T, eqb, eqb→eq}
use Rattle.volume.specs.Bytes.{Bytes}
use Rattle.std.specs.Prelude.{if◌then◌else◌}
use Rattle.volume.specs.Lists.{all, keep, count_from}
use Rattle.volume.specs.Chain.{chain}
use Rattle.volume.proofs.Occ.{occ_append, occ, Under, under_head, under_tail, under_mem, sum_occ}
use Rattle.volume.proofs.Tests.{occ_count_from, eq-eqb}
use Rattle.volume.proofs.Flat.{occ_flat_map_le}
use Rattle.volume.proofs.Chains.{chain_length}
use Rattle.model.specs.Layout.{page_count, pages_for, link}
use Rattle.model.specs.Entry.{Entry, vacant, a_file, a_directory}
use Rattle.model.specs.Version1.{view}
use Rattle.model.specs.Sound.{pages_of, sound}
use Rattle.laws.proofs.Facts.{valid_sized, sound_facts_lem}
use Rattle.moves.specs.Tidy.{owner_entry}
use Rattle.moves.specs.Propose.{is_file_entry, starts_on, file_from, is_other, order, numbered}
use Rattle.moves.proofs.Places.{mem_get_d, sum_ones}
use Rattle.moves.proofs.Helper.{order_once, order_under}
use Rattle.proposals.specs.Steps.{other_at}
use Rattle.proposals.proofs.Owned.{file_of}
use Rattle.proposals.proofs.Check.{true_of, false_of}

-- ---- the places turned about

pub record Turned (places row₀ : List ℕ) (p : ℕ) (row : List ℕ) : Type 0 where
  pub long : length row ≡ length row₀
  pub rest : numbered p (drop p places) row ≡ numbered 0 places row₀

pub turned_first : (places row : List ℕ) → Turned places row 0 row
turned_first places row = record { long = refl; rest = refl }

pub turned_turn : (places row₀ : List ℕ) (p x : ℕ) (row : List ℕ) → p < length places → x ≡ get_or places p 0 → Turned places row₀ p row → Turned places row₀ (p + 1) (set row x p)
unfolding numbered
turned_turn places row₀ p x row l e inv = record {
  long = length-set row x p ∙ inv.long;
  rest = ap₂ (λ (i y : ℕ). numbered i (drop i places) (set row y p)) (add-one p) e ∙ ap (λ (qs : List ℕ). numbered p qs row) (sym (drop-cons places p 0 l)) ∙ inv.rest;
}

pub turned_last : (places row₀ : List ℕ) (p : ℕ) (row : List ℕ) → length places ≤ p → Turned places row₀ p row → row ≡ numbered 0 places row₀
unfolding numbered
turned_last places row₀ p row l inv = sym (ap (λ (qs : List ℕ). numbered p qs row) (drop_of_length-le places l)) ∙ inv.rest

pub place_under : (places : List ℕ) (n p : ℕ) → Under n places → p < length places → get_or places p 0 < n
place_under places n p u l = under_mem n places u (get_or places p 0) (mem_get_d places p l)

-- ---- parts of the order

pub numbered_append : (i : ℕ) (xs ys row : List ℕ) → numbered i (xs ++ ys) row ≡ numbered (i + length xs) ys (numbered i xs row)
unfolding numbered
numbered_append i [] ys row = let e : i + length {A = ℕ} [] ≡ i = omega arith in ap (λ (k : ℕ). numbered k ys row) (sym e)
numbered_append i (x ∷ xs) ys row =
    let e : suc i + length xs ≡ i + length (x ∷ xs) = omega arith in
    numbered_append (suc i) xs ys (set row x i) ∙ ap (λ (k : ℕ). numbered k ys (numbered (suc i) xs (set row x i))) e

-- a chain, of which `left` pages from p on have no number yet
pub record ChainLeft (next : ℕ → ℕ) (first start k : ℕ) (row₀ : List ℕ) (number p left : ℕ) (row : List ℕ) : Type 0 where
  pub count : number + left ≡ first + k
  pub long : length row ≡ length row₀
  pub under : Under (length row₀) (chain next left p)
  pub rest : numbered number (chain next left p) row ≡ numbered first (chain next k start) row₀

module _ (next : ℕ → ℕ) (first start k : ℕ) (row₀ : List ℕ) where
  pub chain_first : {left : ℕ} → left ≡ k → Under (length row₀) (chain next k start) → ChainLeft next first start k row₀ first start left row₀
  chain_first e u = subst (λ (n : ℕ). ChainLeft next first start k row₀ first start n row₀) (sym e) (record { count = refl; long = refl; under = u; rest = refl })

  abbrev more : (p left : ℕ) → 0 < left → chain next left p ≡ p ∷ chain next (left - 1) (next p)
  unfolding chain
  more p zero l = absurd (omega arith)
  more p (suc n) l = let e : suc n - 1 ≡ n = omega arith in ap (λ (i : ℕ). p ∷ chain next i (next p)) (sym e)

  pub chain_low : (number p left : ℕ) (row : List ℕ) → 0 < left → ChainLeft next first start k row₀ number p left row → p < length row
  chain_low number p left row l inv = let u = under_head (length row₀) p (chain next (left - 1) (next p)) (subst (Under (length row₀)) (more p left l) inv.under) in omega (arith, inv.long)

  pub chain_turn : (number p left q : ℕ) {after : ℕ} (row : List ℕ) → 0 < left → after ≡ left - 1 → q ≡ next p → ChainLeft next first start k row₀ number p left row
      → ChainLeft next first start k row₀ (number + 1) q after (set row p number)
  unfolding numbered
  chain_turn number p left q row l one e inv = subst (λ (n : ℕ). ChainLeft next first start k row₀ (number + 1) q n (set row p number)) (sym one) (record {
    count = omega (arith, inv.count);
    long = length-set row p number ∙ inv.long;
    under = subst (λ (x : ℕ). Under (length row₀) (chain next (left - 1) x)) (sym e) (under_tail (length row₀) p (chain next (left - 1) (next p)) (subst (Under (length row₀)) (more p left l) inv.under));
    rest = ap₂ (λ (i x : ℕ). numbered i (chain next (left - 1) x) (set row p number)) (add-one number) e ∙ ap (λ (l : List ℕ). numbered number l row) (sym (more p left l)) ∙ inv.rest;
  })

  pub chain_last : (number p left : ℕ) (row : List ℕ) → left ≤ 0 → ChainLeft next first start k row₀ number p left row → (number ≡ first + k) × (row ≡ numbered first (chain next k start) row₀)
  unfolding numbered chain
  chain_last number p left row l inv =
      let z : left ≡ 0 = omega arith in
      (omega (arith, inv.count), sym (ap (λ (i : ℕ). numbered number (chain next i p) row) z) ∙ inv.rest)

-- ---- the files, and the others: what the list f makes of the pages from p on is left

pub record Left (f : List ℕ → List ℕ) (first n : ℕ) (row₀ : List ℕ) (number p : ℕ) (row : List ℕ) : Type 0 where
  pub count : number + length (f (count_from p (n - p))) ≡ first + length (f (count_from 1 (n - 1)))
  pub long : length row ≡ length row₀
  pub rest : numbered number (f (count_from p (n - p))) row ≡ numbered first (f (count_from 1 (n - 1))) row₀

module _ (f : List ℕ → List ℕ) (first n : ℕ) (row₀ : List ℕ) where
  pub left_first : Left f first n row₀ first 1 row₀
  left_first = record { count = refl; long = refl; rest = refl }

  pub left_turn : (number number' p : ℕ) (g row row' : List ℕ) → (f (count_from p (n - p)) ≡ g ++ f (count_from (p + 1) (n - (p + 1)))) → number' ≡ number + length g
      → length row' ≡ length row → row' ≡ numbered number g row → Left f first n row₀ number p row → Left f first n row₀ number' (p + 1) row'
  left_turn number number' p g row row' s e l w inv =
      let m : length (f (count_from p (n - p))) ≡ length g + length (f (count_from (p + 1) (n - (p + 1)))) = ap length s ∙ length-append g (f (count_from (p + 1) (n - (p + 1)))) in
      record {
        count = omega (arith, inv.count);
        long = l ∙ inv.long;
        rest = ap₂ (λ (i : ℕ) (r : List ℕ). numbered i (f (count_from (p + 1) (n - (p + 1)))) r) e w
            ∙ sym (numbered_append number g (f (count_from (p + 1) (n - (p + 1)))) row) ∙ ap (λ (l : List ℕ). numbered number l row) (sym s) ∙ inv.rest;
      }

  pub left_last : (number p : ℕ) (row : List ℕ) → f [] ≡ [] → n ≤ p → Left f first n row₀ number p row
      → (number ≡ first + length (f (count_from 1 (n - 1)))) × (row ≡ numbered first (f (count_from 1 (n - 1))) row₀)
  unfolding numbered count_from
  left_last number p row z l inv =
      let e : n - p ≡ 0 = omega arith in
      let s : f (count_from p (n - p)) ≡ [] = ap (λ (i : ℕ). f (count_from p i)) e ∙ z in
      (omega (arith, inv.count, ap length s), sym (ap (λ (l : List ℕ). numbered number l row) s) ∙ inv.rest)

-- the next page of the list
next_page : (p n : ℕ) → p < n → count_from p (n - p) ≡ p ∷ count_from (p + 1) (n - (p + 1))
unfolding count_from
next_page p n l =
    let e : n - p ≡ suc (n - (p + 1)) = omega arith in
    ap (count_from p) e ∙ ap (λ (i : ℕ). p ∷ count_from i (n - (p + 1))) (sym (add-one p))

pub all_goes : (f : ℕ → Bool) (p n : ℕ) → p < n → f p ≡ true → all f (count_from p (n - p)) ≡ all f (count_from (p + 1) (n - (p + 1)))
unfolding all
all_goes f p n l e = ap (all f) (next_page p n l) ∙ ap (λ (c : Bool). c && all f (count_from (p + 1) (n - (p + 1)))) e

pub all_stops : (f : ℕ → Bool) (p n : ℕ) → p < n → f p ≡ false → all f (count_from p (n - p)) ≡ false
unfolding all
all_stops f p n l e = ap (all f) (next_page p n l) ∙ ap (λ (c : Bool). c && all f (count_from (p + 1) (n - (p + 1)))) e

pub all_pages : (f : ℕ → Bool) (p n : ℕ) → n ≤ p → all f (count_from p (n - p)) ≡ true
unfolding all count_from
all_pages f p n l = let e : n - p ≡ 0 = omega arith in ap (λ (i : ℕ). all f (count_from p i)) e

pub files_next : (f : ℕ → List ℕ) (p n : ℕ) → p < n → flat_map f (count_from p (n - p)) ≡ f p ++ flat_map f (count_from (p + 1) (n - (p + 1)))
unfolding flat_map
files_next f p n l = ap (flat_map f) (next_page p n l)

pub files_none : (f : ℕ → List ℕ) → flat_map f [] ≡ []
unfolding flat_map
files_none f = refl

pub others_next : (b : Bytes) (p n : ℕ) → p < n → keep (is_other b) (count_from p (n - p)) ≡ other_at b p ++ keep (is_other b) (count_from (p + 1) (n - (p + 1)))
unfolding keep other_at
others_next b p n l = ap (keep (is_other b)) (next_page p n l) ∙ go (is_other b p)
  where
    go : (c : Bool) → (if c then p ∷ keep (is_other b) (count_from (p + 1) (n - (p + 1))) else keep (is_other b) (count_from (p + 1) (n - (p + 1))))
        ≡ (if c then p ∷ [] else []) ++ keep (is_other b) (count_from (p + 1) (n - (p + 1)))
    go true = refl
    go false = refl

pub others_none : (f : ℕ → Bool) → keep f [] ≡ []
unfolding keep
others_none f = refl

-- ---- one page

module _ (b : Bytes) (p next : ℕ) (row : List ℕ) where
  -- what one page has to number, and the next number
  abbrev pub Numbered : List ℕ → ℕ → List ℕ → Type 0
  Numbered l r row' = (r ≡ next + length l) × (row' ≡ numbered next l row)

  numbered_none : {l : List ℕ} → l ≡ [] → Numbered l next row
  unfolding numbered
  numbered_none e = (omega (arith, ap length e), sym (ap (λ (l : List ℕ). numbered next l row) e))

  pub file_none : {e : Entry} → owner_entry b p ≡ e → is_file_entry e ≡ false → Numbered (file_from b p) next row
  file_none {e} q z = numbered_none (sym (file_of b p q) ∙ go e z)
    where
      go : (e : Entry) → is_file_entry e ≡ false → starts_on b p e ≡ []
      go vacant z = refl
      go (a_file l n d s k) z = absurd (subst (λ (c : Bool). T c) z tt)
      go (a_directory n d s k) z = refl

  module _ {l : Bool} {n d : Bytes} {start size : ℕ} (q : owner_entry b p ≡ a_file l n d start size) where
    pub file_elsewhere : start ≢ p → Numbered (file_from b p) next row
    file_elsewhere ne =
        numbered_none (sym (file_of b p q) ∙ ap (λ (c : Bool). if c then pages_of (view b) (a_file l n d start size) else []) (false_of {c = eqb start p} (λ t. ne (eqb→eq start p t))))

    pub file_here : start ≡ p → (k : ℕ) → k ≡ pages_for size → chain (link b) k start ≡ file_from b p
    unfolding pages_of
    file_here e k w =
        ap (λ (i : ℕ). chain (link b) i start) w
        ∙ sym (ap (λ (c : Bool). if c then pages_of (view b) (a_file l n d start size) else []) (true_of {c = eqb start p} (eq-eqb e))) ∙ file_of b p q

    pub file_done : start ≡ p → (k r : ℕ) (row' : List ℕ) → k ≡ pages_for size → r ≡ next + k → row' ≡ numbered next (chain (link b) k start) row → Numbered (file_from b p) r row'
    file_done e k r row' w x y =
        let c = file_here e k w in
        (omega (arith, x, ap length c, chain_length (link b) k start), y ∙ ap (λ (l : List ℕ). numbered next l row) c)

  pub other_none : is_other b p ≡ false → Numbered (other_at b p) next row
  unfolding other_at
  other_none e = numbered_none (ap (λ (c : Bool). if c then p ∷ [] else []) e)

  pub other_here : is_other b p ≡ true → Numbered (other_at b p) (next + 1) (set row p next)
  unfolding other_at numbered
  other_here e =
      let c : other_at b p ≡ p ∷ [] = ap (λ (c : Bool). if c then p ∷ [] else []) e in
      (omega (arith, ap length c), sym (ap (λ (l : List ℕ). numbered next l row) c))

pub other_one : (b : Bytes) (p : ℕ) → is_other b p ≡ true → length (other_at b p) ≡ 1
unfolding other_at
other_one b p e = ap (λ (c : Bool). length (if c then p ∷ [] else [])) e

-- ---- the whole order has N pages

pub order_long : (b : Bytes) → T (sound b) → 1 + length (flat_map (file_from b) (count_from 1 (page_count b - 1))) + length (keep (is_other b) (count_from 1 (page_count b - 1))) ≡ page_count b
unfolding order
order_long b h =
    let f = sound_facts_lem h in
    omega (
      arith,
      sum_occ (order b) (page_count b) (order_under b f),
      sum_ones (λ p. occ p (order b)) (page_count b) (order_once b f),
      length-append (flat_map (file_from b) (count_from 1 (page_count b - 1))) (keep (is_other b) (count_from 1 (page_count b - 1))),
    )

pub order_numbered : (b row r s : List ℕ) (next : ℕ) → next ≡ 1 + length (flat_map (file_from b) (count_from 1 (page_count b - 1)))
    → r ≡ numbered 1 (flat_map (file_from b) (count_from 1 (page_count b - 1))) (set row 0 0) → s ≡ numbered next (keep (is_other b) (count_from 1 (page_count b - 1))) r → s ≡ numbered 0 (order b) row
unfolding order numbered
order_numbered b row r s next e p q =
    q ∙ ap₂ (λ (i : ℕ) (v : List ℕ). numbered i (keep (is_other b) (count_from 1 (page_count b - 1))) v) e p
    ∙ sym (numbered_append 1 (flat_map (file_from b) (count_from 1 (page_count b - 1))) (keep (is_other b) (count_from 1 (page_count b - 1))) (set row 0 0))

-- a page of a file lies in the image
pub file_under : (b : Bytes) (p n : ℕ) → T (sound b) → 1 ≤ p → p < page_count b → n ≡ page_count b → Under n (file_from b p)
unfolding order
file_under b p n h l u e q k =
    let pages : List ℕ = count_from 1 (page_count b - 1) in
    omega (
      arith,
      order_under b (sound_facts_lem h) q (omega arith),
      occ_append q (flat_map (file_from b) pages) (keep (is_other b) pages),
      occ_flat_map_le (file_from b) pages p q (occ_count_from 1 (page_count b - 1) p l (omega arith)),
    )

-- every number that is given fits in a byte
pub files_bound : (b row₀ row : List ℕ) (number p : ℕ) → T (sound b) → p < page_count b → Left (flat_map (file_from b)) 1 (page_count b) row₀ number p row → number + length (file_from b p) ≤ 256
files_bound b row₀ row number p h l inv =
    omega (
      arith,
      inv.count,
      ap length (files_next (file_from b) p (page_count b) l),
      length-append (file_from b p) (flat_map (file_from b) (count_from (p + 1) (page_count b - (p + 1)))),
      order_long b h,
      (valid_sized b (sound_facts_lem h).fits).high,
    )

pub others_bound : (b row₀ row : List ℕ) (first number p : ℕ) → first + length (keep (is_other b) (count_from 1 (page_count b - 1))) ≤ 256 → p < page_count b
    → Left (keep (is_other b)) first (page_count b) row₀ number p row → number + length (other_at b p) ≤ 256
others_bound b row₀ row first number p h l inv =
    omega (arith, inv.count, ap length (others_next b p (page_count b) l), length-append (other_at b p) (keep (is_other b) (count_from (p + 1) (page_count b - (p + 1)))), h)
