-- A make on a sound image: with the new entry's bytes put, the marked page of its directory has a joint that holds 0, so the chain can grow there.
use mathlib.Core.Path.{◌≡◌, sym, ap, ap₂, ◌∙◌, subst}
use Prim.Native.Nat.{ℕ, suc, ◌+◌, ◌*◌, ◌≤◌, ◌<◌}
use native.Mathlib.Omega.{arith}
use mathlib.Core.Option.{some}
use mathlib.Core.List.{List}
use lib.ListN.{length}
use Rattle.volume.specs.Bytes.{Bytes, put}
use Rattle.volume.specs.Lists.{first}
use Rattle.volume.specs.Field.{byte}
use Rattle.volume.specs.Geometry as On
use Rattle.volume.proofs.Tests.{first_found}
use Rattle.volume.proofs.Puts.{put_in}
use Rattle.volume.proofs.Grow.{Held}
use Rattle.volume.proofs.Entries.{edited_is, made_room}
use Rattle.model.specs.Layout.{version1, page_count, zero_bits}
use Rattle.model.specs.Entry.{entries_start, entries, new_entry}
use Rattle.model.specs.Path.{Name, below}
use Rattle.model.proofs.Version1.{home}
use Rattle.laws.proofs.Facts.{Facts}
use Rattle.laws.proofs.Walks.{Parent}
use Rattle.laws.proofs.Slots.{size, lawful, header_marked, Slot, slot, held}
use Rattle.laws.proofs.NewEntry.{new_length, new_start}
use Rattle.laws.proofs.Make.{Place, made_position}
use Rattle.chains.specs.Asked.{Growing}
use Rattle.changes.specs.Asked.{Making}
use Rattle.vacancies.proofs.Vacancies.{vacancy, first_entry}

-- ---- as the code goes: n is the page count, and b₁ the image with the new entry's bytes

module _ {at fl z k : ℕ} {name date b : Bytes} (m : Making at fl z k name date b) {n : ℕ} {b₁ : Bytes} (en : n ≡ page_count b) (as_put : b₁ ≡ put at (new_entry fl name 0 z date) b) where
  pub put_growing : Growing n k (at + 17) b₁
  put_growing = subst (λ (i : ℕ). Growing i k (at + 17) b₁) (sym en) (subst (Growing (page_count b) k (at + 17)) (sym as_put) m.growing)

  pub put_grown : {b₂ : Bytes} → b₂ ≡ On.grown version1 n k (byte (at + 17)) b₁ → b₂ ≡ On.grown version1 (page_count b) k (byte (at + 17)) (put at (new_entry fl name 0 z date) b)
  put_grown e₂ = e₂ ∙ ap₂ (λ (i : ℕ) (x : Bytes). On.grown version1 i k (byte (at + 17)) x) en as_put

-- ---- on a sound image, in the lowest vacant entry of the directory that some names lead to

pub making : (b : Bytes) → Facts b → (ns : List Name) (above : Parent b ns) (at : ℕ) → first (vacancy b) (entries above.t) ≡ some at
    → (fl z k : ℕ) (name date : Bytes) → length name ≡ 16 → length date ≡ 8 → z < 65536 → k ≤ zero_bits b (page_count b) → Making at fl z k name date b
making b f ns above at found fl z k name date ln ld hz hk =
    let t = above.t in
    let w : Bytes = new_entry fl name 0 z date in
    let l : length w ≡ 32 = new_length fl name z date ln ld in
    let s : Slot b t at = slot f ns (suc above.e) t at above.leads (first_found (vacancy b) (entries t) at found).0 in
    let u = held f s 0 32 (omega arith) in
    let h : Held version1 home (page_count b) at (length w) t b = record {
      inside = omega (arith, s.inside);
      bytes = λ i x y. u.bytes i (omega arith) (omega arith);
      page = u.page;
      marked = u.marked;
    } in
    record {
      inside = s.inside;
      long = ln;
      dated = ld;
      sized = hz;
      growing = record {
        few = (size f).high;
        counted = omega (arith, (edited_is version1 home (page_count b) at t w b h).count, f.counted);
        own = t;
        room = made_room (lawful f) b at t w (byte (at + 17)) k (size f).whole (header_marked f) (omega (arith, (size f).low)) h (omega arith) (omega arith)
            (put_in at w b h.inside 17 (omega arith) ∙ new_start fl name z date ln ld) hk;
      };
    }

pub place_making : (b : Bytes) → Facts b → (ns : List Name) (name date : Bytes) (k : ℕ) (w : Place b ns name date k) (fl z : ℕ) → z < 65536 → Making w.at fl z k name date b
place_making b f ns name date k w fl z hz = making b f ns w.above w.at w.found fl z k name date w.long w.dated hz w.space
