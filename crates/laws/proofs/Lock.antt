-- A granted lock or unlock: bit 6 of the file's flags is what is asked for, and every other bit and byte stays, so the tree's file has this mark and
-- nothing else changes.
use mathlib.Core.Path.{◌≡◌, sym, ap, ap₂, ◌∙◌, subst}
use Prim.Native.Nat.{ℕ, ◌+◌, ◌*◌, ◌/◌, ◌%◌, ◌<◌}
use native.Mathlib.Omega.{arith}
use mathlib.Core.Bool.{Bool, not}
use mathlib.Core.List.{List}
use lib.ListN.{length, set, length-set}
use lib.Dec.{T, eqb}
use lib.Seq.{get_or-set_same, get_or-set_other}
use mathlib.Core.Logic.{◌≢◌}
use Rattle.volume.specs.Bytes.{Bytes, byte_at, bit}
use Rattle.volume.specs.Field.{byte}
use Rattle.volume.specs.Geometry as On
use Rattle.volume.proofs.Puts.{part_bytes}
use Rattle.model.specs.Layout.{page_count, page_bit}
use Rattle.model.specs.Entry.{occupied, is_directory, is_locked, name_at, start_at, size_at, date_at, a_file, entry_at}
use Rattle.model.specs.Version1.{view}
use Rattle.model.specs.Sound.{sound}
use Rattle.model.specs.Tree.{relock, Node}
use Rattle.model.specs.Path.{Name, below}
use Rattle.model.specs.Image.{row_at, tree_of}
use Rattle.model.specs.Walk.{arrived, walk_to, change_at}
use Rattle.model.specs.Effect.{with_lock, relocked}
use Rattle.model.specs.Refusal.{is_missing, is_blocked, is_directory_node}
use Rattle.model.specs.EffectOf
pub use Rattle.view_laws.proofs.FileEntry.{lock_bits, lock_small}
use Rattle.view_laws.proofs.FileEntry.{still_file, lock_mark}
use Rattle.view_laws.proofs.Walks as Any
use Rattle.view_laws.proofs.Writing.{relocked_sound}
use Rattle.laws.proofs.Facts.{Facts, viewed}
use Rattle.laws.proofs.Walks.{Target, target}
use Rattle.laws.proofs.Slots.{size, Slot}
use Rattle.laws.proofs.Shelf.{shelved, afterwards}
use Rattle.laws.proofs.Write as W

-- a file's entry whose bits 7 and 0 and other fields stay
entry_relocked : (b b' : Bytes) (at : ℕ) (k : Bool) → T (W.is_file_entry (entry_at b at)) → occupied b' at ≡ occupied b at → is_directory b' at ≡ is_directory b at → is_locked b' at ≡ k
    → name_at b' at ≡ name_at b at → date_at b' at ≡ date_at b at → start_at b' at ≡ start_at b at → size_at b' at ≡ size_at b at
    → entry_at b' at ≡ a_file k (name_at b at) (date_at b at) (start_at b at) (size_at b at)
unfolding entry_at
entry_relocked b b' at k h o d l n a s z = rw (o, d, l, n, a, s, z)
    (still_file (occupied b at) (is_directory b at) (is_locked b at) k (name_at b at) (date_at b at) (start_at b at) (start_at b at) (size_at b at) (size_at b at) h)

-- ---- a file that some names lead to

module _ (b : Bytes) (f : Facts b) (ns : List Name) (n : Name) (tg : Target b ns n) (is_file : T (W.is_file_entry (entry_at b tg.at))) (k : Bool) where
  abbrev at : ℕ
  at = tg.at

  abbrev t : ℕ
  t = tg.above.t

  abbrev e : ℕ
  e = tg.above.e

  abbrev b' : Bytes
  b' = set b at (with_lock k (byte_at b at))

  abbrev s₀ : ℕ
  s₀ = size_at b at

  slot : Slot b t at
  slot = W.file_slot b f ns n tg is_file

  pub long : length b' ≡ length b
  long = length-set b at (with_lock k (byte_at b at))

  pub lock_rest : (i : ℕ) → i ≢ at → byte_at b' i ≡ byte_at b i
  lock_rest i ne = get_or-set_other b at i (with_lock k (byte_at b at)) 0 ne

  pub lock_flags : byte_at b' at ≡ with_lock k (byte_at b at)
  lock_flags = get_or-set_same b at (with_lock k (byte_at b at)) 0 (omega (arith, slot.inside))

  -- the entry afterwards
  is : entry_at b at ≡ a_file (is_locked b at) (name_at b at) (date_at b at) (start_at b at) s₀
  is = W.is b f ns n tg is_file

  pub is' : entry_at b' at ≡ a_file k (name_at b at) (date_at b at) (start_at b at) s₀
  is' =
      let r = lock_bits k (byte_at b at) in
      let other : (i : ℕ) → at < i → byte_at b' i ≡ byte_at b i = λ i l. lock_rest i (λ q. omega (arith, q, l)) in
      entry_relocked b b' at k is_file
      (ap (λ (x : ℕ). eqb (bit 7 x) 1) lock_flags ∙ ap (λ (x : ℕ). eqb x 1) r.0)
      (ap (λ (x : ℕ). eqb (bit 0 x) 1) lock_flags ∙ ap (λ (x : ℕ). eqb x 1) r.1)
      (ap (λ (x : ℕ). eqb (bit 6 x) 1) lock_flags ∙ ap (λ (x : ℕ). eqb x 1) r.2 ∙ lock_mark k)
      (part_bytes (at + 1) 16 b b' long (λ i l u. other i (omega arith)))
      (part_bytes (at + 20) 8 b b' long (λ i l u. other i (omega arith)))
      (other (at + 17) (omega arith))
      (ap₂ (λ (x y : ℕ). x + 256 * y) (other (at + 18) (omega arith)) (other (at + 19) (omega arith)))

  locked_sound : T (sound b') × (tree_of b' ≡ record { pages = page_count b; code = 0; root = change_at ns (relock n.bytes k) (row_at (page_count b) (view b) 0) })
  unfolding On.page_bit
  locked_sound =
      let far = slot.within.far in
      let low : (i : ℕ) → i < 36 → byte_at b' i ≡ byte_at b i = λ i l. lock_rest i (λ q. omega (arith, q, far, l)) in
      afterwards f long (λ i l. low i (omega arith))
      (relocked_sound (shelved f) (size f).whole (viewed f) ns e t at n.bytes tg.above.leads tg.above.good tt tg.found
      (is_locked b at) (name_at b at) (date_at b at) s₀ (byte (at + 17)) is b' k long (λ i u. lock_rest i (λ q. omega (arith, q, u (omega (arith, q))))) is'
      (λ q l. ap (λ (x : ℕ). bit (q % 8) x) (low (4 + q / 8) (omega (arith, l, (size f).high)))) (low 3 (omega arith)))

-- ---- the call

-- the entry of a path that leads to no directory is a file's
pub target_file : {b : Bytes} {ns : List Name} {n : Name} (tg : Target b ns n)
    → ((x : Node) → walk_to (below ns n) (row_at (page_count b) (view b) 0) ≡ arrived x → T (not (is_directory_node x))) → T (W.is_file_entry (entry_at b tg.at))
target_file tg is_file = Any.target_file tg is_file

pub locked_tree : {b : Bytes} → Facts b → (ns : List Name) (n : Name) (k : Bool)
    → T (not (is_missing (walk_to (below ns n) (row_at (page_count b) (view b) 0)))) → T (not (is_blocked (walk_to (below ns n) (row_at (page_count b) (view b) 0))))
    → ((x : Node) → walk_to (below ns n) (row_at (page_count b) (view b) 0) ≡ arrived x → T (not (is_directory_node x)))
    → T (sound (relocked (below ns n) k b)) × (tree_of (relocked (below ns n) k b) ≡ record { pages = page_count b; code = 0; root = change_at ns (relock n.bytes k) (row_at (page_count b) (view b) 0) })
unfolding EffectOf.relocked
locked_tree {b} f ns n k u v is_file =
    let tg = target f u v in
    let is = target_file tg is_file in
    subst (λ (at : ℕ). let b' = set b at (with_lock k (byte_at b at)) in
    T (sound b') × (tree_of b' ≡ record { pages = page_count b; code = 0; root = change_at ns (relock n.bytes k) (row_at (page_count b) (view b) 0) }))
    (sym tg.position) (locked_sound b f ns n tg is k)
