-- Directories that are chains of pages to the first link 0, over any lawful geometry, are a shelf: version 2's. `on q` are the positions of the
-- entries on page q, `read` reads one, and `placed` is the page that an entry of a directory stands on and its number there.
use mathlib.Core.Path.{◌≡◌, refl, sym, ap, ◌∙◌, subst}
use mathlib.Core.Logic.{◌≢◌, ◌⊎◌, inl, inr}
use Prim.Native.Nat.{ℕ, zero, suc, ◌+◌, ◌-◌, ◌≤◌, ◌<◌}
use native.Mathlib.Omega.{arith}
use native.Mathlib.Decide.{dec_lt}
use mathlib.Core.Bool.{Bool, true, false}
use mathlib.Core.List.{List, [], ◌∷◌, flat_map}
use lib.ListN.{length}
use lib.Dec.{eqb, eqb-suc-zero}
use Rattle.volume.specs.Bytes.{Bytes, byte_at}
use Rattle.std.specs.Prelude.{if◌then◌else◌}
use Rattle.volume.specs.Chain.{chain, beyond, linked}
use Rattle.volume.specs.Geometry.{Geometry, start, content, next}
use Rattle.volume.proofs.Occ.{occ, Mem, Nodup, mem_head, mem_tail, nodup_head, nodup_tail, occ_append, not_mem, mem_or_not}
use Rattle.volume.proofs.Puts.{part_bytes}
use Rattle.volume.proofs.Chains.{chain_frame}
use Rattle.volume.proofs.Fields.{place, wide, Off, load_same}
use Rattle.volume.proofs.Lawful.{Sized, Kept, Lawful}
use Rattle.model.specs.Entry.{Entry, vacant}
use Rattle.model.specs.Numbers.{Numbers}
use Rattle.view_laws.proofs.Facts.{Rooted}
use Rattle.view_laws.proofs.Shelf.{Shelf, seen, SameBytes, Shelved}

linked_frame : (f f' : ℕ → ℕ) (n p : ℕ) → ((q : ℕ) → Mem q (chain f (linked f n p) p) → f' q ≡ f q) → linked f' n p ≡ linked f n p
unfolding linked chain
linked_frame f f' zero p h = refl
linked_frame f f' (suc n) p h = go (eqb (f p) 0) refl h (λ k. linked_frame f f' n (f p) k)
  where
    go : (c : Bool) → eqb (f p) 0 ≡ c → ((q : ℕ) → Mem q (chain f (if c then 1 else suc (linked f n (f p))) p) → f' q ≡ f q)
        → (((q : ℕ) → Mem q (chain f (linked f n (f p)) (f p)) → f' q ≡ f q) → linked f' n (f p) ≡ linked f n (f p))
        → (if eqb (f' p) 0 then 1 else suc (linked f' n (f' p))) ≡ (if c then 1 else suc (linked f n (f p)))
    go true e k next =
        let w : f' p ≡ f p = k p (mem_head p []) in
        ap (λ (x : ℕ). if eqb x 0 then 1 else suc (linked f' n x)) w ∙ ap (λ (c : Bool). if c then 1 else suc (linked f' n (f p))) e
    go false e k next =
        let w : f' p ≡ f p = k p (mem_head p (chain f (linked f n (f p)) (f p))) in
        ap (λ (x : ℕ). if eqb x 0 then 1 else suc (linked f' n x)) w ∙ ap (λ (c : Bool). if c then 1 else suc (linked f' n (f p))) e
        ∙ ap suc (next (λ q m. k q (mem_tail q p (chain f (linked f n (f p)) (f p)) m)))

linked_long : (f : ℕ → ℕ) (n p : ℕ) → Mem p (chain f (linked f (suc n) p) p)
unfolding linked chain
linked_long f n p = go (eqb (f p) 0)
  where
    go : (c : Bool) → Mem p (chain f (if c then 1 else suc (linked f n (f p))) p)
    go true = mem_head p []
    go false = mem_head p (chain f (linked f n (f p)) (f p))

-- there is one at least
pub linked_first : (f : ℕ → ℕ) (n p : ℕ) → 1 ≤ n → (j : ℕ) × (linked f n p ≡ suc j)
unfolding linked
linked_first f zero p h = absurd (omega arith)
linked_first f (suc n) p h = go (eqb (f p) 0)
  where
    go : (c : Bool) → (j : ℕ) × ((if c then 1 else suc (linked f n (f p))) ≡ suc j)
    go true = (0, refl)
    go false = (linked f n (f p), refl)

not_zero : (x : ℕ) → 1 ≤ x → eqb x 0 ≡ false
not_zero zero h = absurd (omega arith)
not_zero (suc x) h = eqb-suc-zero x

-- the number of pages, known by their end: none before the last leads to 0
pub linked_is : (f : ℕ → ℕ) (j n p : ℕ) → j < n → ((q : ℕ) → Mem q (chain f j (f p)) → 1 ≤ q) → beyond f (suc j) p ≡ 0 → linked f n p ≡ suc j
unfolding linked chain beyond
linked_is f j zero p l h z = absurd (omega arith)
linked_is f zero (suc n) p l h z = rw z
linked_is f (suc j) (suc n) p l h z =
    let ne : eqb (f p) 0 ≡ false = not_zero (f p) (h (f p) (mem_head (f p) (chain f j (f (f p))))) in
    ap (λ (c : Bool). if c then 1 else suc (linked f n (f p))) ne
    ∙ ap suc (linked_is f j n (f p) (omega arith) (λ q m. h q (mem_tail q (f p) (chain f j (f (f p))) m)) z)

-- lists of apart positions, put together from pages that differ
pub mem_flat : (f : ℕ → List ℕ) (qs : List ℕ) (x : ℕ) → Mem x (flat_map f qs) → (q : ℕ) × Mem q qs × Mem x (f q)
unfolding flat_map
mem_flat f [] x m = absurd (omega arith)
mem_flat f (q ∷ qs) x m = elim (mem_or_not x (f q)) [
  | inl k ↦ (q, mem_head q qs, k)
  | inr z ↦ let r = mem_flat f qs x (omega (arith, m, z, occ_append x (f q) (flat_map f qs))) in (r.0, mem_tail r.0 q qs r.1, r.2)
]

nodup_flat : (f : ℕ → List ℕ) → ((q : ℕ) → Nodup (f q)) → ((q r x : ℕ) → Mem x (f q) → Mem x (f r) → q ≡ r) → (qs : List ℕ) → Nodup qs → Nodup (flat_map f qs)
unfolding flat_map
nodup_flat f each own [] u = λ x. omega arith
nodup_flat f each own (q ∷ qs) u = λ x. elim (mem_or_not x (f q)) [
  | inl k ↦
      let z : occ x (flat_map f qs) ≡ 0 = not_mem x (flat_map f qs) (λ m.
      let r = mem_flat f qs x m in
      let e : q ≡ r.0 = own q r.0 x k r.2 in
      omega (arith, r.1, nodup_head q qs u, ap (λ (y : ℕ). occ y qs) e)) in
      omega (arith, z, each q x, occ_append x (f q) (flat_map f qs))
  | inr z ↦ omega (arith, z, nodup_flat f each own qs (nodup_tail q qs u) x, occ_append x (f q) (flat_map f qs))
]

-- ---- the shelf

module _ (g : Geometry) (home : ℕ → ℕ) (N : ℕ) (numbers : Numbers) (on : ℕ → List ℕ) (read : Bytes → ℕ → Entry) (placed : Bytes → (directory entry : ℕ) → ℕ × ℕ) where
  abbrev pub linked_pages : Bytes → ℕ → List ℕ
  linked_pages b p = chain (next g b) (linked (next g b) N p) p

  abbrev pub chained : Shelf
  chained = record {
    geometry = g;
    home = home;
    pages = N;
    numbers = numbers;
    directory_pages = linked_pages;
    directory_ends = λ b p. eqb (beyond (next g b) (linked (next g b) N p) p) 0;
    entries = λ b p. flat_map on (linked_pages b p);
    entry_at = read;
    place_of = placed;
  }

  -- a page that a directory or a file may have
  abbrev pub RealPage : ℕ → Type 0
  RealPage q = ((q ≡ 0) ⊎ (g.aside ≤ q)) × (q < N)

  -- What is asked: no link or content is count or bitmap; entries are apart, in their page, behind the header's fields, no link lies in one, and an
  -- entry is known by its 32 bytes.
  pub record Slotted : Type 0 where
    pub law : Lawful g home N
    pub high : g.aside ≤ N
    pub links : (q i : ℕ) → q < N → place (g.link q) ≤ i → i < place (g.link q) + wide (g.link q) → Kept g N i
    pub contents : (q i : ℕ) → g.aside ≤ q → q < N → content g q ≤ i → i < content g q + g.room → (home i ≡ q) × Kept g N i
    pub each : (q : ℕ) → Nodup (on q)
    pub apart : (q r x : ℕ) → Mem x (on q) → Mem x (on r) → q ≡ r
    pub within : (q x i : ℕ) → RealPage q → Mem x (on q) → x ≤ i → i < x + 32 → (home i ≡ q) × Kept g N i
    pub disjoint : (q x y i : ℕ) → Mem x (on q) → Mem y (on q) → x ≢ y → x ≤ i → i < x + 32 → y ≤ i → y + 32 ≤ i
    pub fits : (b : Bytes) (q x : ℕ) → RealPage q → Sized g N b → Mem x (on q) → x + 32 ≤ length b
    pub clear : (q x i : ℕ) → RealPage q → Mem x (on q) → x ≤ i → i < x + 32 → Off (g.link q) i
    -- an entry on a page that was taken lies in that page
    pub inside : (q x : ℕ) → g.aside ≤ q → Mem x (on q) → (start g q ≤ x) × (x + 32 ≤ start g q + g.size)
    pub empty : (b : Bytes) (x : ℕ) → byte_at b x ≡ 0 → read b x ≡ vacant
    pub known : (b b' : Bytes) (x : ℕ) → length b' ≡ length b → ((i : ℕ) → x ≤ i → i < x + 32 → byte_at b' i ≡ byte_at b i) → read b' x ≡ read b x

  -- a directory whose links stay has the pages and entries that it had
  pages_same : (b b' : Bytes) (p : ℕ) → ((q : ℕ) → Mem q (linked_pages b p) → next g b' q ≡ next g b q)
      → (linked_pages b' p ≡ linked_pages b p) × (chained.directory_ends b' p ≡ chained.directory_ends b p)
  pages_same b b' p h =
      let k = linked_frame (next g b) (next g b') N p h in
      let r = chain_frame (next g b) (next g b') (linked (next g b) N p) p (λ q m. sym (h q m)) in (
        ap (λ (n : ℕ). chain (next g b') n p) k ∙ sym r.0,
        ap (λ (n : ℕ). eqb (beyond (next g b') n p) 0) k ∙ ap (λ (n : ℕ). eqb n 0) (sym r.1),
      )

  module _ (w : Slotted) where
    many : 1 ≤ N
    many = omega (arith, w.law.header, w.high)

    rooted : (b : Bytes) → Rooted (seen chained b)
    unfolding chain
    rooted b = let r = linked_first (next g b) N 0 many in (chain (next g b) r.0 (next g b 0), ap (λ (k : ℕ). chain (next g b) k 0) r.1)

    link_same : (b b' : Bytes) (q : ℕ) → SameBytes chained b b' q → next g b' q ≡ next g b q
    link_same b b' q s = load_same (g.link q) b b' (λ i u v. s.bytes i (w.law.of_link q i s.real.1 u v) (w.links q i s.real.1 u v))

    pub chained_shelved : Shelved chained
    chained_shelved = record {
      law = w.law;
      high = w.high;
      rooted = rooted;
      regular = λ b. record {
        headed = λ p. let e : N ≡ suc (N - 1) = omega (arith, many) in
            subst (λ (n : ℕ). Mem p (chain (next g b) (linked (next g b) n p) p)) (sym e) (linked_long (next g b) (N - 1) p);
        apart = λ p u. nodup_flat on w.each w.apart (linked_pages b p) u;
      };
      follows = λ b b' len. record {
        size = refl;
        counts = λ s. refl;
        linked = λ q l s. link_same b b' q s;
        content = λ q l s. part_bytes (content g q) g.room b b' len (λ i u v.
            let far : g.aside ≤ q = elim s.real.0 [ inl e ↦ absurd (omega (arith, e, l)) | inr h ↦ h ] in
            let r = w.contents q i far s.real.1 u v in s.bytes i r.0 r.1);
        directory = λ p h.
            let r = pages_same b b' p (λ q m. link_same b b' q (h q m)) in
            record {
              pages = r.0;
              ends = r.1;
              positions = ap (flat_map on) r.0;
              fields = λ x m.
                  let o = mem_flat on (linked_pages b p) x m in
                  let s = h o.0 o.1 in
                  w.known b b' x len (λ i u v. let c = w.within o.0 x i s.real o.2 u v in s.bytes i c.0 c.1);
            };
      };
      spot = λ b t at m.
          let o = mem_flat on (linked_pages b t) at m in
          record {
            page = o.0;
            of = o.1;
            inside = λ r z. w.fits b o.0 at r z o.2;
            bytes = λ r i l u. w.within o.0 at i r o.2 l u;
          };
      but = λ b b' t at len m real h.
          let o = mem_flat on (linked_pages b t) at m in
          let away : (q i : ℕ) → home i ≡ q → (o.0 ≡ q → i < at + 32 → at ≤ i → at + 32 ≤ i) → at ≤ i → at + 32 ≤ i = λ q i e k y. elim (dec_lt i (at + 32)) [
            | yes l ↦ k (sym (w.within o.0 at i (real o.0 o.1) o.2 y l).0 ∙ e) l y
            | no l ↦ omega (arith, l)
          ] in
          let r = pages_same b b' t (λ q k. load_same (g.link q) b b' (λ i l u.
          let e = w.law.of_link q i (real q k).1 l u in
          h q i k e (w.links q i (real q k).1 l u) (away q i e (λ same d y.
          let c = w.clear o.0 at i (real o.0 o.1) o.2 y d in
          absurd (omega (arith, subst (λ (p : ℕ). Off (g.link p) i) same c l, u)))))) in
          record {
            pages = r.0;
            ends = r.1;
            positions = ap (flat_map on) r.0;
            fields = λ x c ne.
                let p = mem_flat on (linked_pages b t) x c in
                w.known b b' x len (λ i u z.
                let v = w.within p.0 x i (real p.0 p.1) p.2 u z in
                h p.0 i p.1 v.0 v.1 (away p.0 i v.0 (λ same d y.
                w.disjoint p.0 x at i p.2 (subst (λ (q : ℕ). Mem at (on q)) same o.2) ne u z y)));
          };
      empty = w.empty;
    }
