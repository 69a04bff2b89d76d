-- A granted lock or unlock of version 2: bit 6 of the file's flags is what is asked for, and every other bit and byte stays, so the tree's file has this mark
-- and nothing else changes.
use mathlib.Core.Path.{◌≡◌, refl, sym, ap, ap₂, subst}
use mathlib.Core.Logic.{◌≢◌}
use Prim.Native.Nat.{ℕ, ◌+◌, ◌*◌, ◌/◌, ◌%◌, ◌≤◌, ◌<◌}
use native.Mathlib.Omega.{arith}
use mathlib.Core.Bool.{Bool, not}
use mathlib.Core.List.{List}
use lib.ListN.{length, set, length-set}
use lib.Dec.{T}
use lib.Seq.{get_or-set_same, get_or-set_other}
use Rattle.volume.specs.Bytes.{Bytes, byte_at, bit}
use Rattle.volume.specs.Geometry as On
use Rattle.volume.proofs.Lawful.{Kept}
use Rattle.model.specs.Tree.{relock, Node}
use Rattle.model.specs.Path.{Name, below}
use Rattle.model.specs.Image.{tree_in}
use Rattle.model.specs.Walk.{arrived, walk_to}
use Rattle.model.specs.EffectOf as Of
use Rattle.model.specs.EffectOf.{with_lock}
use Rattle.model.specs.RefusalOf.{is_directory_node}
use Rattle.model.specs.MeaningOf.{sound, tree_of, in_parent}
use Rattle.view_laws.proofs.FileEntry.{is_file_entry}
use Rattle.view_laws.proofs.Writing as Any
use Rattle.view_laws.proofs.Walks.{Target, target, target_file}
use Rattle.version_laws.proofs.Grants.{Says, Found}
use Rattle.model2.specs.Layout.{page_count, geometry2, code_in}
use Rattle.model2.specs.Entry.{is_locked, name_at, start_field, size_at, date_at, entry_at}
use Rattle.model2.specs.Version2.{view2}
use Rattle.model2.specs.Calls.{v2}
use Rattle.laws2.proofs.Version2.{shelved2, sized2}
use Rattle.laws2.proofs.NewEntry2.{file_is, relocked}
use Rattle.laws2.proofs.Facts2.{Sound2, sound_facts_lem, afterwards2}
use Rattle.laws2.proofs.Targets2.{parent_ends, target_behind, target_lies}

-- the file that a path leads to
module _ {b : Bytes} (s : Sound2 b) {ns : List Name} {n : Name} (tg : Target (view2 b) ns n) (is_file : T (is_file_entry (entry_at b tg.at))) (k : Bool) where
  abbrev at : ℕ
  at = tg.at

  abbrev b' : Bytes
  b' = set b at (with_lock k (byte_at b at))

  long : length b' ≡ length b
  long = length-set b at (with_lock k (byte_at b at))

  pub lock_rest : (i : ℕ) → i ≢ at → byte_at b' i ≡ byte_at b i
  lock_rest i ne = get_or-set_other b at i (with_lock k (byte_at b at)) 0 ne

  behind : 8 ≤ at
  behind = target_behind s.allowed s.facts tg

  locked_sound : Says v2 b (below ns n) (relock n.bytes k) b'
  unfolding tree_in in_parent On.page_bit
  locked_sound =
      let o = target_lies s.allowed s.facts tg in
      let z = sized2 s.allowed b refl in
      let flags : byte_at b' at ≡ with_lock k (byte_at b at) = get_or-set_same b at (with_lock k (byte_at b at)) 0 (omega (arith, o.inside z)) in
      let low : (i : ℕ) → i < 8 → byte_at b' i ≡ byte_at b i = λ i l. lock_rest i (λ e. omega (arith, e, l, behind)) in
      let kept : Kept (geometry2 (code_in b) (length b)) (page_count (code_in b) (length b)) at = (o.bytes at (omega arith) (omega arith)).1 in
      afterwards2 s long (λ i l c. low i (omega (arith, l)))
      (Any.relocked_sound (shelved2 s.allowed) z s.facts ns tg.above.e tg.above.t at n.bytes
      tg.above.leads tg.above.good (parent_ends s.allowed s.facts tg.above) tg.found
      (is_locked b at) (name_at b at) (date_at b at) (size_at b at) (start_field at) (file_is b at is_file) b' k long
      (λ i u. lock_rest i (λ e. omega (arith, e, u (omega (arith, e)))))
      (relocked b b' at k long is_file flags (λ i l. lock_rest i (λ e. omega (arith, e, l))))
      (λ q l. ap (λ (x : ℕ). bit (q % 8) x) (lock_rest (7 + q / 8) (λ e. kept.map q l (sym e))))
      (ap₂ (λ (x y : ℕ). x + 256 * y) (low 4 (omega arith)) (low 5 (omega arith))))

pub locked_tree : (b : Bytes) → T (sound v2 b) → (ns : List Name) (n : Name) (k : Bool) → Found v2 b ns n
    → ((x : Node) → walk_to (below ns n) (tree_of v2 b).root ≡ arrived x → T (not (is_directory_node x)))
    → Says v2 b (below ns n) (relock n.bytes k) (Of.relocked view2 (below ns n) k b)
unfolding Of.relocked tree_in
locked_tree b h ns n k found is_file =
    let s = sound_facts_lem h in
    let tg = target s.facts.formed found.0 found.1 in
    subst (λ (at : ℕ). Says v2 b (below ns n) (relock n.bytes k) (set b at (with_lock k (byte_at b at))))
    (sym tg.position) (locked_sound s tg (target_file tg is_file) k)
