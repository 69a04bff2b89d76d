-- A file that a path leads to on a sound image can be written: its chain is its own and ends in 0, and since its pages and the free ones are fewer than 256, at
-- 255 bytes each, the new size fits two bytes.
use mathlib.Core.Path.{◌≡◌, sym, ap, ◌∙◌, subst}
use Prim.Native.Nat.{ℕ, ◌+◌, ◌-◌, ◌≤◌, ◌<◌, max}
use native.Mathlib.Omega.{arith}
use mathlib.Core.List.{List}
use lib.ListN.{length}
use lib.Dec.{T, eqb, eqb→eq}
use Rattle.volume.specs.Bytes.{Bytes}
use Rattle.volume.specs.Chain.{chain, beyond}
use Rattle.volume.specs.Field.{byte}
use Rattle.volume.proofs.Occ.{occ}
use Rattle.volume.proofs.Tests.{and_both}
use Rattle.volume.proofs.Chains.{chain_length}
use Rattle.volume.proofs.Longer.{Chained}
use Rattle.volume.proofs.Writes.{Beside}
use Rattle.model.specs.Layout.{version1, page_count, pages_for, zero_bits, link}
use Rattle.model.specs.Name.{legal_name}
use Rattle.model.specs.Entry.{is_locked, name_at, start_at, date_at, Entry, a_file, entry_at}
use Rattle.model.specs.Version1.{view}
use Rattle.model.specs.Sound.{pages_of, good_entry}
use Rattle.model.specs.Path.{Path}
use Rattle.model.proofs.Version1.{home}
use Rattle.laws.proofs.Facts.{Facts}
use Rattle.laws.proofs.Owns.{own}
use Rattle.laws.proofs.Counting.{fill_up}
use Rattle.laws.proofs.Slots.{size, header_marked, held, Owned, entry_apart}
use Rattle.places.proofs.Arrivals.{EntryOf}
use Rattle.places.proofs.Entries.{leads, among, entry_slot, entry_inside, file_owned}
use Rattle.rewrites.specs.Asked.{Writing}
use Rattle.changes.proofs.Entries.{file_fields, entry_good, own_few}
use Rattle.rewrites.proofs.Writes.{pages_rise}

module _ (b : Bytes) (f : Facts b) (p : Path) (at begins : ℕ) (x : EntryOf b p at begins) {start k : ℕ} (is : entry_at b at ≡ a_file (is_locked b at) (name_at b at) (date_at b at) start k) where
  -- the entry with the start page read from it
  is_read : entry_at b at ≡ a_file (is_locked b at) (name_at b at) (date_at b at) (start_at b at) k
  is_read = is ∙ ap (λ (q : ℕ). a_file (is_locked b at) (name_at b at) (date_at b at) q k) (sym (file_fields b at is).0)

  abbrev ps : List ℕ
  ps = chain (link b) (pages_for k) (start_at b at)

  owns : Owned b ps
  owns = file_owned b f p at begins x is_read

  apart : occ x.page ps ≡ 0
  unfolding own pages_of
  apart =
      let l = leads b f x.ns x.page x.reached in
      sym (ap (λ (y : Entry). occ x.page (own l.0 b y)) is_read) ∙ entry_apart f x.ns l.0 x.page at l.1 (among b f p at begins x)

  ends : beyond (link b) (pages_for k) (start_at b at) ≡ 0
  unfolding good_entry
  ends =
      let g = subst (λ (y : Entry). T (good_entry (view b) y)) is_read (entry_good b f p at begins x) in
      eqb→eq (beyond (link b) (pages_for k) (start_at b at)) 0 (and_both (legal_name (name_at b at)) (eqb (beyond (link b) (pages_for k) (start_at b at)) 0) g).1

  chained : Chained version1 home (page_count b) b (byte (at + 17)) x.page (pages_for k)
  chained = record {
    size = (size f).whole;
    aside = header_marked f;
    held = held f (entry_slot b f p at begins x) 17 1 (omega arith);
    apart = apart;
    pages = owns.inside;
    once = owns.once;
    ends = ends;
  }

  beside : Beside version1 home (page_count b) (byte (at + 17)) x.page (at + 18) 2 b
  beside =
      let h = held f (entry_slot b f p at begins x) 18 2 (omega arith) in
      record { inside = h.inside; bytes = λ i l u. ((h.bytes i l u).0, (h.bytes i l u).1, λ y. omega arith) }

  module _ (from : ℕ) (v : Bytes) (reached : from ≤ k) (space : pages_for (max k (from + length v)) - pages_for k ≤ zero_bits b (page_count b)) where
    few : max k (from + length v) < 65536
    few =
        let s : ℕ = max k (from + length v) in
        omega (arith, fill_up s, pages_rise k s (omega arith), own_few b f ps owns, chain_length (link b) (pages_for k) (start_at b at), (size f).high)

    pub writing : Writing at start k from v b
    writing = record {
      inside = entry_inside b f p at begins x;
      is = is;
      begins = reached;
      own = x.page;
      chained = chained;
      beside = beside;
      few = (size f).high;
      counted = f.counted;
      space = space;
      fits = omega (arith, few);
    }
