-- What the owners' row says, page by page: it is a list of `owner_of`, and in a sound image a page has the one owner that `page_owned` names, or none.
use mathlib.Core.Path.{◌≡◌, refl, sym, ap, ◌∙◌, subst}
use mathlib.Core.Logic.{inl, inr}
use Prim.Native.Nat.{ℕ, zero, suc, ◌≤◌, ◌<◌}
use native.Mathlib.Omega.{arith}
use native.Mathlib.Decide.{dec_lt}
use mathlib.Core.Bool.{Bool, true, false, not}
use mathlib.Core.List.{List, [], ◌∷◌, map}
use lib.ListN.{length, get_or, replicate, length-map, length-replicate, get_or-eq_default}
use lib.Dec.{T}
use Rattle.volume.specs.Bytes.{Bytes}
use Rattle.std.specs.Prelude.{if◌then◌else◌}
use Rattle.volume.specs.Lists.{member, up_to}
use Rattle.volume.proofs.Occ.{Mem, mem_head, mem_cons}
use Rattle.volume.proofs.Tests.{if_yes, if_no, member_occ, occ_member}
use Rattle.volume.proofs.Flat.{mem_flat_map}
use Rattle.model.specs.Layout.{page_count}
use Rattle.model.specs.Entry.{entries, Entry, vacant, a_file, a_directory, entry_at}
use Rattle.model.specs.Version1.{view}
use Rattle.model.specs.Sound.{sound, pages_at, reached_by, reached, reached_entries, owners, owners_in}
use Rattle.model.specs.Image.{tree_of}
use Rattle.model.specs.Call.{verdict}
use Rattle.model.specs.Refusal.{settle}
use Rattle.model.specs.Meaning.{is_format, answer}
use Rattle.model.specs.Demands as Model
use Rattle.laws.proofs.Facts.{Facts, valid_sized, sound_facts_lem}
use Rattle.laws.proofs.Entries.{entry_within}
use Rattle.laws.proofs.Lists.{page_owned}
use Rattle.laws.proofs.Headline.{demand_2, demand_3}
use Rattle.audit.specs.Owner.{Owner, nobody, first_owner, owner_of, owner_row}
use Rattle.audit.specs.Demand.{is_granted, Named, is_free, is_owned, AuditDemand}
use Rattle.audit.proofs.Owners.{get_d_count_from, length_count_from, keep_mem}
use Rattle.audit.proofs.Audited.{owner_suc, past_nobody}

-- ---- the row

row_sound : (b : Bytes) → T (sound b) → owner_row b ≡ map (owner_of b) (up_to 256)
unfolding owner_row
row_sound b h = if_yes (sound b) _ _ h

row_unsound : (b : Bytes) → T (not (sound b)) → owner_row b ≡ replicate 256 nobody
unfolding owner_row
row_unsound b h = if_no (sound b) _ _ h

row_long : (b : Bytes) → length (owner_row b) ≡ 256
unfolding owner_row
row_long b = go (sound b)
  where
    go : (c : Bool) → length (if c then map (owner_of b) (up_to 256) else replicate 256 nobody) ≡ 256
    go true = length-map (up_to 256) (owner_of b) ∙ length_count_from 0 256
    go false = length-replicate {A = Owner} 256 nobody

row_at : (b : Bytes) → T (sound b) → (p : ℕ) → p < 256 → get_or (owner_row b) p nobody ≡ owner_of b p
row_at b h p l =
    ap (λ (r : List Owner). get_or r p nobody) (row_sound b h)
    ∙ at (up_to 256) p (omega (arith, length_count_from 0 256))
    ∙ ap (owner_of b) (let e : get_or (up_to 256) p 0 ≡ p = omega (arith, get_d_count_from 0 256 p l) in e)
  where
    at : (xs : List ℕ) (i : ℕ) → i < length xs → get_or (map (owner_of b) xs) i nobody ≡ owner_of b (get_or xs i 0)
    at [] i l = absurd (omega arith)
    at (x ∷ xs) zero l = refl
    at (x ∷ xs) (suc i) l = at xs i (omega arith)

-- ---- the pages

named : (b : Bytes) → Facts b → (p : ℕ) → 1 ≤ p → p < page_count b → Named b p (owner_of b p)
unfolding owners_in
named b f zero low high = absurd (omega arith)
named b f (suc q) low high = subst (Named b (suc q)) (sym (owner_suc b q)) (go (page_owned f (suc q) low high))
  where
    go : Model.Owned b (suc q) → Named b (suc q) (first_owner (owners b (suc q)))
    go (Model.is_free z e) = subst (λ (l : List ℕ). Named b (suc q) (first_owner l)) (sym e) (is_free z e)
    go (Model.is_owned at o e) =
        let r = keep_mem (λ x. member (suc q) (pages_at (view b) x)) (reached_entries b) at (subst (Mem at) (sym e) (mem_head at [])) in
        subst (λ (l : List ℕ). Named b (suc q) (first_owner l)) (sym e) (is_owned at o e (occ_member at (reached_entries b) r.0) r.1)

past : (b : Bytes) → T (sound b) → (p : ℕ) → page_count b ≤ p → get_or (owner_row b) p nobody ≡ nobody
past b h p l = elim (dec_lt p 256) [
  | yes k ↦ let f = sound_facts_lem h in row_at b h p k ∙ past_nobody b f p l (omega (arith, (valid_sized b f.fits).low))
  | no k ↦ get_or-eq_default (owner_row b) nobody (omega (arith, row_long b, k))
]

-- an entry that is reached lies behind the header's fields
reached_far : (d : ℕ) (b : Bytes) (p at : ℕ) → Mem at (reached d (view b) p) → 64 ≤ at
unfolding reached reached_by
reached_far zero b p at m = absurd (omega arith)
reached_far (suc d) b p at m =
    let r = mem_flat_map (λ x. reached_by x (reached d (view b)) (entry_at b x)) (entries p) at m in
    go r.0 (entry_within p r.0 r.1).far (entry_at b r.0) r.2 (λ q. reached_far d b q at)
  where
    go : (x : ℕ) → 64 ≤ x → (e : Entry) → Mem at (reached_by x (reached d (view b)) e) → ((q : ℕ) → Mem at (reached d (view b) q) → 64 ≤ at) → 64 ≤ at
    go x l vacant n next = absurd (omega arith)
    go x l (a_file locked name date start size) n next = elim (mem_cons at x [] n) [ inl e ↦ omega (arith, e) | inr o ↦ absurd (omega arith) ]
    go x l (a_directory name date start size) n next = elim (mem_cons at x (reached d (view b) start) n) [ inl e ↦ omega (arith, e) | inr o ↦ next start o ]

-- ---- the verdict

alike : (b : Bytes) → sound b ≡ is_granted (answer verdict b)
unfolding is_format settle
alike b = go (sound b) refl
  where
    sounds : T (sound b) → is_granted (answer verdict b) ≡ true
    sounds h = ap is_granted (demand_3 b (tree_of b) (Model.soundly h refl) [] tt b refl).account.told

    stops : Model.Unsound verdict b → is_granted (answer verdict b) ≡ false
    stops (Model.by_length u e) = ap is_granted e
    stops (Model.by_header u v e) = ap is_granted e
    stops (Model.by_fault u v f j e) = ap is_granted e

    go : (c : Bool) → sound b ≡ c → sound b ≡ is_granted (answer verdict b)
    go true e = e ∙ sym (sounds (subst (λ (x : Bool). T x) (sym e) tt))
    go false e = e ∙ sym (stops (demand_2.unsound verdict b tt refl (subst (λ (x : Bool). T (not x)) (sym e) tt)))

pub audit_demand : AuditDemand
unfolding owner_of
audit_demand = record {
  alike = alike;
  long = row_long;
  apart = λ b at m. reached_far (page_count b) b 0 at (member_occ at (reached_entries b) m);
  first = λ b h. row_at b h 0 (omega arith);
  pages = λ b h p low high.
      let f = sound_facts_lem h in
      subst (Named b p) (sym (row_at b h p (omega (arith, (valid_sized b f.fits).high)))) (named b f p low high);
  past = past;
  unsound = row_unsound;
}
