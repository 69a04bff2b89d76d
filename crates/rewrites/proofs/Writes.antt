-- A write as the code goes: the chain grows at its joint, so that with the size set it has its old pages and then the gained ones, and the bytes are
-- spread over these. That is the model's effect, since the entry says where the chain starts and how long it was.
use mathlib.Core.Path.{◌≡◌, sym, ap, ap₂, ◌∙◌, subst, subst₂}
use Prim.Native.Nat.{ℕ, ◌+◌, ◌-◌, ◌*◌, ◌≤◌, max}
use native.Mathlib.Omega.{arith}
use mathlib.Core.List.{List, ◌++◌}
use lib.ListN.{length, take}
use Rattle.volume.specs.Bytes.{Bytes, byte_at, put, le16}
use Rattle.volume.specs.Chain.{chain, spread}
use Rattle.volume.specs.Field.{Field, byte}
use Rattle.volume.specs.Geometry as On
use Rattle.volume.proofs.Occ.{Under, under_of_mem, under_append}
use Rattle.volume.proofs.Chains.{chain_length}
use Rattle.volume.proofs.Lawful.{Lawful}
use Rattle.volume.proofs.Grow.{gained_is, gained_under, Room}
use Rattle.volume.proofs.Longer.{chain_at, joint_at, joint_page, chain_room}
use Rattle.volume.proofs.Writes.{written_pages}
use Rattle.volume.proofs.Unzeroed.{ButFor}
use Rattle.volume.proofs.Covering.{covering_first, covering_pages, covering_length, covering_spread}
use Rattle.model.specs.Layout.{version1, room, page_count, pages_for, link}
use Rattle.model.specs.Entry.{start_at, size_at}
use Rattle.model.specs.Version1.{view}
use Rattle.model.specs.Sound.{pages_of, pages_at}
use Rattle.model.specs.Effect.{rewritten}
use Rattle.model.specs.EffectOf
use Rattle.model.proofs.Version1.{home, version1_lawful}
use Rattle.laws.proofs.Counting.{fill_up}
use Rattle.chains.specs.Asked.{Inside, Growing}
use Rattle.rewrites.specs.Asked.{Adding, Writing}
use Rattle.changes.proofs.Entries.{file_fields}

pub pages_rise : (s₀ s : ℕ) → s₀ ≤ s → pages_for s₀ + (pages_for s - pages_for s₀) ≡ pages_for s
unfolding pages_for
pages_rise s₀ s h = omega arith

module _ {at start size from : ℕ} {v b : Bytes} (w : Writing at start size from v b) where
  -- ---- the page count, the new size, the pages held and gained, and the field of the start page

  abbrev N : ℕ
  N = page_count b

  abbrev s : ℕ
  s = max size (from + length v)

  abbrev j : ℕ
  j = pages_for size

  abbrev k : ℕ
  k = pages_for s - pages_for size

  abbrev entry : Field
  entry = byte (at + 17)

  fields : (start_at b at ≡ start) × (size_at b at ≡ size)
  fields = file_fields b at w.is

  law : Lawful version1 home N
  law = version1_lawful N (omega (arith, w.chained.held.page)) w.few

  many : j + k ≡ pages_for s
  many = pages_rise size s (omega arith)

  -- the image with the chain grown, and then with the size set
  abbrev b₁ : Bytes
  b₁ = On.grown version1 N k (joint_at version1 b entry j) b

  abbrev b₂ : Bytes
  b₂ = put (at + 18) (le16 s) b₁

  old_under : Under N (chain_at version1 b entry j)
  old_under = under_of_mem N (chain_at version1 b entry j) (λ q m. (w.chained.pages q m).1)

  pages : chain (link b₂) (pages_for s) (byte_at b₂ (at + 17)) ≡ chain_at version1 b entry j ++ On.gained version1 N k b
  pages =
      ap (λ (m : ℕ). chain (link b₂) m (byte_at b₂ (at + 17))) (sym many)
      ∙ written_pages law b entry w.own j k (at + 18) (le16 s) w.chained w.beside w.space

  under : Under N (chain_at version1 b entry j ++ On.gained version1 N k b)
  under =
      under_append N (chain_at version1 b entry j) (On.gained version1 N k b) old_under
      (gained_under version1 N (gained_is law k b w.chained.size w.chained.aside w.space))

  -- the bytes begin on a page held or where it ends, and cover all pages gained but the last
  begin_held : from ≤ room * j
  begin_held = omega (arith, w.begins, fill_up size)

  cover_gained : 1 ≤ k → room * (j + (k - 1)) ≤ from + length v
  unfolding pages_for
  cover_gained h = omega arith

  -- the model's effect
  effect : spread (On.content version1) room (chain_at version1 b entry j ++ On.gained version1 N k b) from v b₂ ≡ rewritten at from v b
  unfolding EffectOf.rewritten On.written pages_of
  effect =
      let image : List ℕ → ℕ → ℕ → Bytes = λ ps m z. On.written version1 N entry ps (pages_for z - m) (at + 18) (le16 z) from v b in
      let held : pages_at (view b) at ≡ chain_at version1 b entry j = ap (pages_of (view b)) w.is ∙ ap (chain (link b) j) (sym fields.0) in
      sym (ap (λ (z : ℕ). image (pages_at (view b) at) (length (pages_at (view b) at)) (max z (from + length v))) fields.1
      ∙ ap (λ (ps : List ℕ). image ps (length ps) s) held
      ∙ ap (λ (m : ℕ). image (chain_at version1 b entry j) m s) (chain_length (link b) j (start_at b at)))

  -- ---- as the code goes: what each call has answered

  held_inside : {h : ℕ} → h ≡ pages_for size → Inside b h start
  held_inside e = subst (λ (m : ℕ). Inside b m start) (sym e) (subst (Inside b j) fields.0 old_under)

  module _ {n z h x : ℕ} (en : n ≡ page_count b) (ez : z ≡ max size (from + length v)) (eh : h ≡ pages_for size) (ex : x ≡ pages_for z) where
    wanted : x ≡ pages_for s
    wanted = ex ∙ ap pages_for ez

    more : x - h ≡ k
    more = ap₂ (λ (y m : ℕ). y - m) wanted eh

    pub no_fewer : h ≤ x
    no_fewer = omega (arith, wanted, eh, many)

    joint_is : On.joint_of version1 (byte (at + 17)) (chain (link b) h start) ≡ joint_at version1 b entry j
    joint_is = ap₂ (λ (m p : ℕ). On.joint_of version1 entry (chain (link b) m p)) eh (sym fields.0)

    write_growing : (r : ℕ) → byte r ≡ On.joint_of version1 (byte (at + 17)) (chain (link b) h start) → Growing n (x - h) r b
    write_growing r er =
        let g : Growing N k r b = record {
          few = w.few;
          counted = omega (arith, w.counted, w.space);
          own = joint_page version1 b entry w.own j;
          room = subst (λ (f : Field). Room version1 home N k f (joint_page version1 b entry w.own j) b) (sym (er ∙ joint_is)) (chain_room law b entry w.own j k w.chained w.space);
        } in
        subst (λ (i : ℕ). Growing i (x - h) r b) (sym en) (subst (λ (m : ℕ). Growing N m r b) (sym more) g)

    pub write_adding : Adding n at start h (x - h) b
    write_adding = record { entry = w.inside; pages = held_inside eh; growing = write_growing }

    module _ {c₁ y c₂ : Bytes} {p : ℕ} (e₁ : ButFor version1 (take (x - h - 1) (On.gained version1 n (x - h) b)) (On.grown version1 n (x - h) (On.joint_of version1 (byte (at + 17)) (chain (link b) h start)) b) c₁)
        (ey : y ≡ le16 z) (e₂ : c₂ ≡ put (at + 18) y c₁) (ep : p ≡ byte_at c₂ (at + 17)) where
      abbrev d₂ : Bytes
      d₂ = put (at + 18) (le16 s) c₁

      bare : ButFor version1 (take (k - 1) (On.gained version1 N k b)) b₁ c₁
      bare =
          subst (λ (f : Field). ButFor version1 (take (k - 1) (On.gained version1 N k b)) (On.grown version1 N k f b) c₁) joint_is
          (subst₂ (λ (i m : ℕ). ButFor version1 (take (m - 1) (On.gained version1 i m b)) (On.grown version1 i m (On.joint_of version1 (byte (at + 17)) (chain (link b) h start)) b) c₁) en more e₁)

      same₂ : c₂ ≡ d₂
      same₂ = e₂ ∙ ap (λ (u : Bytes). put (at + 18) u c₁) (ey ∙ ap (λ (i : ℕ). le16 i) ez)

      first : p ≡ byte_at b₂ (at + 17)
      first = ep ∙ ap (λ (c : Bytes). byte_at c (at + 17)) same₂ ∙ covering_first law k (le16 s) w.chained w.beside w.space bare

      found : chain (link d₂) x p ≡ chain_at version1 b entry j ++ On.gained version1 N k b
      found =
          ap₂ (chain (link d₂)) wanted first
          ∙ covering_pages law k (le16 s) w.chained w.beside w.space bare (pages_for s) (byte_at b₂ (at + 17)) pages

      write_inside : Inside c₂ x p
      write_inside = subst (λ (c : Bytes). Inside c x p) (sym same₂)
          (λ q l. subst (Under N) (sym found) under q (omega (arith, covering_length law k (le16 s) w.chained w.beside w.space bare, l)))

      write_effect : {c₃ : Bytes} → c₃ ≡ spread (On.content version1) room (chain (link c₂) x p) from v c₂ → c₃ ≡ rewritten at from v b
      write_effect e₃ =
          e₃ ∙ ap (λ (c : Bytes). spread (On.content version1) room (chain (link c) x p) from v c) same₂
          ∙ ap (λ (ps : List ℕ). spread (On.content version1) room ps from v d₂) found
          ∙ covering_spread law k (le16 s) w.chained w.beside w.space bare from v begin_held cover_gained ∙ effect

-- the image y with the chain grown and the size set, its pages x and its start p, as the code comes to them
pub record Resized (at start size from : ℕ) (v b y : Bytes) (x p : ℕ) : Type 0 where
  pub inside : Inside y x p
  pub comes : {z : Bytes} → z ≡ spread (On.content version1) room (chain (link y) x p) from v y → z ≡ rewritten at from v b

pub resize : {at start size from : ℕ} {v b : Bytes} → Writing at start size from v b → {n z h x : ℕ} → n ≡ page_count b → z ≡ max size (from + length v) → h ≡ pages_for size → x ≡ pages_for z
    → {c₁ y c₂ : Bytes} {p : ℕ} → ButFor version1 (take (x - h - 1) (On.gained version1 n (x - h) b)) (On.grown version1 n (x - h) (On.joint_of version1 (byte (at + 17)) (chain (link b) h start)) b) c₁ → y ≡ le16 z → c₂ ≡ put (at + 18) y c₁ → p ≡ byte_at c₂ (at + 17) → Resized at start size from v b c₂ x p
resize w en ez eh ex e₁ ey e₂ ep = record { inside = write_inside w en ez eh ex e₁ ey e₂ ep; comes = write_effect w en ez eh ex e₁ ey e₂ ep }
