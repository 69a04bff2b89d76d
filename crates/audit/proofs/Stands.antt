-- Where the visit stands: the directories that were found and not yet visited are what the list holds from `done` to `found`, and the visit of
-- them is what is left of the whole. Each directory that was found has claimed a page, so there is room for it.
use mathlib.Core.Path.{◌≡◌, refl, sym, ap, ◌∙◌, subst}
use mathlib.Core.Logic.{inl, inr}
use Prim.Native.Nat.{ℕ, zero, suc, ◌+◌, ◌-◌, ◌≤◌, ◌<◌}
use native.Mathlib.Omega.{arith}
use mathlib.Core.Bool.{Bool, true, false}
use mathlib.Core.List.{List, [], ◌∷◌, ◌++◌, flat_map}
use lib.ListN.{length, get_or, set, take, drop, length-set}
use lib.Seq.{length-take-le, get_or-take, drop-cons, drop-append-le, take-suc-set, drop-length}
use Rattle.volume.specs.Bytes.{Bytes}
use Rattle.std.specs.Prelude.{if◌then◌else◌}
use Rattle.volume.proofs.Occ.{Mem, occ_append, mem_head, mem_tail, mem_cons, mem_or_not}
use Rattle.model.specs.Layout.{page_count}
use Rattle.model.specs.Entry.{entries}
use Rattle.model.specs.Version1.{view}
use Rattle.model.specs.Sound.{pages_at, names_apart}
use Rattle.laws.proofs.Entries.{entry_within}
use Rattle.claims.specs.Claim.{Visited, stops, goes, then_visit, claim_entries, directories_at}
use Rattle.audit.specs.Visit.{visit, free}
use Rattle.audit.proofs.Visiting.{few, children_low}
use Rattle.claims.specs.Lent.{Row, entered}
use Rattle.claims.proofs.Claims.{never}
use Rattle.audit.proofs.Spends.{Spends, entries_spend}

pub record Stands (b : Bytes) (row₀ list row : List ℕ) (found done : ℕ) : Type 0 where
  pub big : 256 ≤ length list
  pub small : length row ≤ 256
  pub order : done ≤ found
  pub room : found + free row ≤ length row
  pub long : length row ≡ page_count b
  pub within : (x : ℕ) → Mem x (drop done (take found list)) → x < page_count b
  pub comes : visit (page_count b) b (0 ∷ []) row₀ ≡ visit (page_count b - done) b (drop done (take found list)) row

-- entries that went on have names apart, and have claimed their pages
pub entered_both : (b : Bytes) (ats row : List ℕ) {row' : List ℕ} → goes row' ≡ entered b ats row → (names_apart (view b) ats ≡ true) × (goes row' ≡ claim_entries b ats row)
unfolding entered
entered_both b ats row {row'} c = go (names_apart (view b) ats) c
  where
    go : (a : Bool) → goes row' ≡ (if a then claim_entries b ats row else stops) → (a ≡ true) × (goes row' ≡ claim_entries b ats row)
    go true q = (refl, q)
    go false q = never q

nothing : (b : Bytes) (n : ℕ) (row : List ℕ) → visit n b [] row ≡ goes row
unfolding visit
nothing b zero row = refl
nothing b (suc n) row = refl

-- setting a number keeps the length
pub as_long : (l list : List ℕ) (i x : ℕ) → length l ≡ length (set list i x) → length l ≡ length list
as_long l list i x e = e ∙ length-set list i x

module _ (b : Bytes) (row₀ : List ℕ) where
  pub stands_first : (list : List ℕ) → 1 + free row₀ ≤ length row₀ → length row₀ ≡ page_count b → length row₀ ≤ 256 → 256 ≤ length list → Stands b row₀ (set list 0 0) row₀ 1 0
  stands_first list r l u k =
      let e : take 1 (set list 0 0) ≡ 0 ∷ [] = take-suc-set list 0 0 (omega arith) in
      record {
        big = omega (arith, length-set list 0 0);
        small = u;
        order = omega arith;
        room = r;
        long = l;
        within = λ x m. elim (mem_cons x 0 [] (subst (Mem x) e m)) [ inl q ↦ omega (arith, q) | inr n ↦ absurd (omega arith) ];
        comes = let z : page_count b ≡ page_count b - 0 = omega arith in
            ap (λ (n : ℕ). visit n b (0 ∷ []) row₀) z ∙ ap (λ (ds : List ℕ). visit (page_count b - 0) b ds row₀) (sym e);
      }

  module _ (list row : List ℕ) (found done : ℕ) (at : Stands b row₀ list row found done) where
    fits : found ≤ length list
    fits = omega (arith, at.room, at.big, at.small)

    -- the next directory
    head : done < found → drop done (take found list) ≡ get_or list done 0 ∷ drop (suc done) (take found list)
    head l =
        let n : length (take found list) ≡ found = length-take-le found list fits in
        drop-cons (take found list) done 0 (omega arith) ∙ ap (λ (d : ℕ). d ∷ drop (suc done) (take found list)) (get_or-take found list done 0 l)

    pub next_low : done < found → get_or list done 0 < page_count b
    next_low l = at.within (get_or list done 0) (subst (Mem (get_or list done 0)) (sym (head l)) (mem_head (get_or list done 0) (drop (suc done) (take found list))))

    -- its entries are asked for in a row that is the image's
    pub entries_asked : done < found → Row b row × (get_or list done 0 < length row)
    entries_asked l = (record { each = at.long; high = at.small }, omega (arith, next_low l, at.long))

    turn : (l : done < found) → visit (page_count b) b (0 ∷ []) row₀
        ≡ (if names_apart (view b) (entries (get_or list done 0))
        then then_visit (claim_entries b (entries (get_or list done 0)) row) (visit (page_count b - (done + 1)) b (drop (suc done) (take found list) ++ directories_at b (entries (get_or list done 0)))) else stops)
    unfolding visit
    turn l =
        let e : page_count b - done ≡ suc (page_count b - (done + 1)) = omega (arith, at.room, at.long) in
        at.comes ∙ ap (λ (n : ℕ). visit n b (drop done (take found list)) row) e ∙ ap (λ (ds : List ℕ). visit (suc (page_count b - (done + 1))) b ds row) (head l)

    pub stands_unnamed : done < found → names_apart (view b) (entries (get_or list done 0)) ≡ false → stops ≡ visit (page_count b) b (0 ∷ []) row₀
    stands_unnamed l e = sym (turn l ∙ ap (λ (c : Bool). if c then then_visit (claim_entries b (entries (get_or list done 0)) row) (visit (page_count b - (done + 1)) b (drop (suc done) (take found list) ++ directories_at b (entries (get_or list done 0)))) else stops) e)

    named : done < found → names_apart (view b) (entries (get_or list done 0)) ≡ true → visit (page_count b) b (0 ∷ []) row₀
        ≡ then_visit (claim_entries b (entries (get_or list done 0)) row) (visit (page_count b - (done + 1)) b (drop (suc done) (take found list) ++ directories_at b (entries (get_or list done 0))))
    named l e = turn l ∙ ap (λ (c : Bool). if c then then_visit (claim_entries b (entries (get_or list done 0)) row) (visit (page_count b - (done + 1)) b (drop (suc done) (take found list) ++ directories_at b (entries (get_or list done 0)))) else stops) e

    pub stands_unclaimed : done < found → names_apart (view b) (entries (get_or list done 0)) ≡ true → stops ≡ claim_entries b (entries (get_or list done 0)) row → stops ≡ visit (page_count b) b (0 ∷ []) row₀
    unfolding then_visit
    stands_unclaimed l e c = sym (named l e ∙ ap (λ (v : Visited). then_visit v (visit (page_count b - (done + 1)) b (drop (suc done) (take found list) ++ directories_at b (entries (get_or list done 0))))) (sym c))

    -- the two at once
    pub stands_unentered : done < found → stops ≡ entered b (entries (get_or list done 0)) row → stops ≡ visit (page_count b) b (0 ∷ []) row₀
    unfolding entered
    stands_unentered l c = go (names_apart (view b) (entries (get_or list done 0))) refl c
      where
        go : (a : Bool) → names_apart (view b) (entries (get_or list done 0)) ≡ a → stops ≡ (if a then claim_entries b (entries (get_or list done 0)) row else stops) → stops ≡ visit (page_count b) b (0 ∷ []) row₀
        go true e q = stands_unclaimed l e q
        go false e q = stands_unnamed l e

    module _ (l : done < found) (e : names_apart (view b) (entries (get_or list done 0)) ≡ true) (row' : List ℕ) (c : goes row' ≡ claim_entries b (entries (get_or list done 0)) row) where
      spent : (length row' ≡ length row) × (free row' + length (flat_map (pages_at (view b)) (entries (get_or list done 0))) ≡ free row)
      spent = subst (Spends (flat_map (pages_at (view b)) (entries (get_or list done 0))) row) (sym c)
          (entries_spend b (entries (get_or list done 0)) row (λ x m. let w = entry_within (get_or list done 0) x m in omega (arith, w.far)))

      pub push_fits : found + length (directories_at b (entries (get_or list done 0))) ≤ length list
      push_fits = omega (arith, at.room, at.big, at.small, spent.1, few b (entries (get_or list done 0)))

      pub stands_next : (list' : List ℕ) (found' : ℕ) → 256 ≤ length list' → found' ≡ found + length (directories_at b (entries (get_or list done 0)))
          → take found' list' ≡ take found list ++ directories_at b (entries (get_or list done 0)) → Stands b row₀ list' row' found' (done + 1)
      unfolding then_visit
      stands_next list' found' g n t =
          let cs = directories_at b (entries (get_or list done 0)) in
          let k : length (take found list) ≡ found = length-take-le found list fits in
          let one : suc done ≡ done + 1 = omega arith in
          let ds : drop (done + 1) (take found' list') ≡ drop (suc done) (take found list) ++ cs =
          ap (λ (x : ℕ). drop x (take found' list')) (sym one) ∙ ap (drop (suc done)) t ∙ drop-append-le (suc done) (take found list) cs (omega arith) in
          record {
            big = g;
            small = omega (arith, spent.0, at.small);
            order = omega arith;
            room = omega (arith, at.room, spent.0, spent.1, few b (entries (get_or list done 0)));
            long = spent.0 ∙ at.long;
            within = λ x m.
                let m' : Mem x (drop (suc done) (take found list) ++ cs) = subst (Mem x) ds m in
                elim (mem_or_not x cs) [
                  | inl u ↦ omega (arith, children_low b (get_or list done 0) row row' c x u, at.long)
                  | inr z ↦
                      let u : Mem x (drop (suc done) (take found list)) = omega (arith, m', occ_append x (drop (suc done) (take found list)) cs) in
                      at.within x (subst (Mem x) (sym (head l)) (mem_tail x (get_or list done 0) (drop (suc done) (take found list)) u))
                ];
            comes = named l e ∙ ap (λ (v : Visited). then_visit v (visit (page_count b - (done + 1)) b (drop (suc done) (take found list) ++ cs))) (sym c)
                ∙ ap (λ (qs : List ℕ). visit (page_count b - (done + 1)) b qs row') (sym ds);
          }

    pub stands_last : found ≤ done → goes row ≡ visit (page_count b) b (0 ∷ []) row₀
    stands_last l =
        let q : done ≡ length (take found list) = omega (arith, at.order, length-take-le found list fits) in
        let e : drop done (take found list) ≡ [] = ap (λ (n : ℕ). drop n (take found list)) q ∙ drop-length (take found list) in
        sym (at.comes ∙ ap (λ (ds : List ℕ). visit (page_count b - done) b ds row) e ∙ nothing b (page_count b - done) row)
