-- To lock or unlock twice is to do it once: the mark changes no name and no directory, so the path leads to the same entry again, whose bit 6 is
-- then as it is asked for.
use mathlib.Core.Path.{◌≡◌, refl, sym, ap, ◌∙◌, subst}
use mathlib.Core.Logic.{◌⊎◌, inl, inr}
use Prim.Native.Nat.{ℕ, ◌+◌, ◌-◌, ◌*◌}
use native.Mathlib.Omega.{arith}
use mathlib.Core.Bool.{Bool, true, false}
use mathlib.Core.Option.{Option, none, some, get_or, map}
use mathlib.Core.List.{List, [], ◌∷◌}
use lib.ListN.{set}
use lib.Dec.{T}
use lib.Seq.{set-set}
use Rattle.volume.specs.Bytes.{Bytes, byte_at, bit}
use Rattle.std.specs.Prelude.{if◌then◌else◌}
use Rattle.volume.specs.Lists.{first}
use Rattle.volume.proofs.Occ.{Mem, mem_head, mem_tail, hit_cases}
use Rattle.model.specs.Entry.{entries, is_locked, name_at, start_at, size_at, date_at, Entry, vacant, a_file, a_directory, entry_at}
use Rattle.model.specs.Version1.{view}
use Rattle.model.specs.Sound.{is_named}
use Rattle.model.specs.Path.{Name, Path, below}
use Rattle.model.specs.Walk.{Walked, entry_named, enter_on, walk_on, arrived_or, entry_position}
use Rattle.model.specs.Effect.{with_lock, relocked}
use Rattle.model.specs.Call.{set_lock}
use Rattle.model.specs.Refusal.{Line, settle, Passes}
use Rattle.model.specs.Meaning.{lines, is_format, effect, after}
use Rattle.model.specs.Demands.{LockTwice}
use Rattle.model.specs.EffectOf
use Rattle.model.specs.MeaningOf
use Rattle.laws.proofs.Facts.{Facts, sound_facts_lem}
use Rattle.laws.proofs.Entries.{entry_within, entry_same}
use Rattle.laws.proofs.Focus.{named_found}
use Rattle.laws.proofs.Walks.{Target, target}
use Rattle.laws.proofs.Write as W
use Rattle.laws.proofs.Lock as L
use Rattle.laws.proofs.Lines.{settle_both}
use Rattle.laws.proofs.Passed.{sound_passed, lock_passed}

first_same : (f g : ℕ → Bool) (xs : List ℕ) → ((x : ℕ) → Mem x xs → f x ≡ g x) → first f xs ≡ first g xs
unfolding first
first_same f g [] h = refl
first_same f g (x ∷ xs) h =
    ap (λ (c : Bool). if c then some x else first f xs) (h x (mem_head x xs))
    ∙ ap (λ (o : Option ℕ). if g x then some x else o) (first_same f g xs (λ y m. h y (mem_tail y x xs m)))

lock_again : (k : Bool) (x : ℕ) → with_lock k (with_lock k x) ≡ with_lock k x
unfolding with_lock
lock_again true x =
    let y : ℕ = x - 64 * bit 6 x + 64 in
    let e : y - 64 * bit 6 y + 64 ≡ y - 64 * 1 + 64 = ap (λ (i : ℕ). y - 64 * i + 64) (L.lock_bits true x).2 in
    e ∙ omega arith
lock_again false x =
    let y : ℕ = x - 64 * bit 6 x + 0 in
    let e : y - 64 * bit 6 y + 0 ≡ y - 64 * 0 + 0 = ap (λ (i : ℕ). y - 64 * i + 0) (L.lock_bits false x).2 in
    e ∙ omega arith

-- ---- a file that some names lead to

module _ (b : Bytes) (f : Facts b) (ns : List Name) (n : Name) (tg : Target b ns n) (is_file : T (W.is_file_entry (entry_at b tg.at))) (k : Bool) where
  abbrev at : ℕ
  at = tg.at

  abbrev b' : Bytes
  b' = set b at (with_lock k (byte_at b at))

  -- what does not ask for the mark says the same of every entry
  entry_alike : {A : Type 0} (P : Entry → A) → ((l m : Bool) (name date : Bytes) (start size : ℕ) → P (a_file l name date start size) ≡ P (a_file m name date start size))
      → (p x : ℕ) → Mem x (entries p) → P (entry_at b' x) ≡ P (entry_at b x)
  entry_alike P h p x m = elim (hit_cases x at) [
    | inl e ↦ subst (λ (y : ℕ). P (entry_at b' y) ≡ P (entry_at b y)) (sym e.0)
        (ap P (L.is' b f ns n tg is_file k) ∙ h k (is_locked b at) (name_at b at) (date_at b at) (start_at b at) (size_at b at) ∙ sym (ap P (W.is b f ns n tg is_file)))
    | inr ne ↦
        let here = (entry_within p x m).aligned in
        let there = (W.file_slot b f ns n tg is_file).within.aligned in
        ap P (entry_same b b' x (L.long b f ns n tg is_file k) (λ i l u. L.lock_rest b f ns n tg is_file k i (λ q. ne.0 (omega (arith, here, there, q)))))
  ]

  named_same : (p : ℕ) (w : Bytes) → entry_named (view b') p w ≡ entry_named (view b) p w
  unfolding entry_named is_named
  named_same p w =
      first_same (λ x. is_named w (entry_at b' x)) (λ x. is_named w (entry_at b x)) (entries p) (λ x m. entry_alike (is_named w) (λ l m n d s z. refl) p x m)

  walk_same : (ms : List Name) (p : ℕ) → walk_on (view b') ms p ≡ walk_on (view b) ms p
  unfolding walk_on enter_on
  walk_same [] p = refl
  walk_same (m ∷ ms) p =
      ap (λ (o : Option ℕ). enter_on m (map (entry_at b') o) (walk_on (view b') ms)) (named_same p m.bytes) ∙ go (entry_named (view b) p m.bytes) refl (walk_same ms)
    where
      step : (y : Entry) → ((s : ℕ) → walk_on (view b') ms s ≡ walk_on (view b) ms s) → enter_on m (some y) (walk_on (view b') ms) ≡ enter_on m (some y) (walk_on (view b) ms)
      step vacant next = refl
      step (a_file locked name date start size) next = refl
      step (a_directory name date start size) next = next start

      go : (o : Option ℕ) → entry_named (view b) p m.bytes ≡ o → ((s : ℕ) → walk_on (view b') ms s ≡ walk_on (view b) ms s)
          → enter_on m (map (entry_at b') o) (walk_on (view b') ms) ≡ enter_on m (map (entry_at b) o) (walk_on (view b) ms)
      go none e next = refl
      go (some x) e next =
          entry_alike (λ (y : Entry). enter_on m (some y) (walk_on (view b') ms)) (λ l m n d s z. refl) p x (named_found b p m.bytes x e).0 ∙ step (entry_at b x) next

  pub locked_twice : relocked (below ns n) k b' ≡ b'
  unfolding EffectOf.relocked
  locked_twice =
      let x : ℕ = with_lock k (byte_at b at) in
      let there : entry_position b' (below ns n) ≡ at =
      ap (λ (w : Walked ℕ). get_or (entry_named (view b') (arrived_or 0 w) n.bytes) 0) (walk_same ns 0)
      ∙ ap (λ (o : Option ℕ). get_or o 0) (named_same (arrived_or 0 (walk_on (view b) ns 0)) n.bytes)
      ∙ tg.position in
      ap (λ (i : ℕ). set b' i (with_lock k (byte_at b' i))) there
      ∙ ap (λ (y : ℕ). set b' at (with_lock k y)) (L.lock_flags b f ns n tg is_file k)
      ∙ ap (λ (y : ℕ). set b' at y) (lock_again k (byte_at b at))
      ∙ set-set b at x x

-- ---- the call

effect_twice : (k : Bool) (path b : Bytes) → Passes (lines (set_lock k path) b) → effect (set_lock k path) (effect (set_lock k path) b) ≡ effect (set_lock k path) b
unfolding MeaningOf.effect is_format EffectOf.relocked
effect_twice k path b e =
    let g = sound_passed (set_lock k path) b tt e in
    let f = sound_facts_lem g.0 in
    let r = lock_passed f k g.1 in
    let tg = target f r.reached r.entered in
    let is = L.target_file tg r.is_file in
    subst (λ (p : Path). relocked p k (relocked p k b) ≡ relocked p k b) (sym r.is)
    (subst (λ (at : ℕ). relocked (below r.ns r.n) k (set b at (with_lock k (byte_at b at))) ≡ set b at (with_lock k (byte_at b at)))
    (sym tg.position) (locked_twice b f r.ns r.n tg is k))

-- the lines leave x as it is, or pass and make y of it
stays_or_goes : {A : Type 0} (ls : List Line) (x y : A) → (settle ls (λ r. x) y ≡ x) ⊎ (Passes ls × (settle ls (λ r. x) y ≡ y))
unfolding settle
stays_or_goes [] x y = inr (refl, refl)
stays_or_goes {A} (l ∷ ls) x y = go l.0 (stays_or_goes ls x y)
  where
    go : (c : Bool) → (settle ls (λ r. x) y ≡ x) ⊎ (Passes ls × (settle ls (λ r. x) y ≡ y))
        → ((if c then x else settle ls (λ r. x) y) ≡ x) ⊎ (((if c then some l.1 else settle ls some none) ≡ none) × ((if c then x else settle ls (λ r. x) y) ≡ y))
    go true next = inl refl
    go false next = next

pub lock_twice : LockTwice
unfolding MeaningOf.after
lock_twice k path b = elim (stays_or_goes (lines (set_lock k path) b) b (effect (set_lock k path) b)) [
  | inl e ↦ ap (after (set_lock k path)) e
  | inr e ↦
      let b' : Bytes = effect (set_lock k path) b in
      subst (λ (a : Bytes). after (set_lock k path) a ≡ a) (sym e.1)
      (settle_both (λ (a c : Bytes). a ≡ b') (lines (set_lock k path) b') (λ r. b') (effect (set_lock k path) b') (λ r. b') b' (λ r. refl) (λ p. effect_twice k path b e.0))
]
