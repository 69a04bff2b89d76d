-- Version 1's images of N pages are a shelf, so the calls' laws of `view_laws` hold of them.
use mathlib.Core.Path.{◌≡◌, refl, sym, ap, ap₂, subst}
use Prim.Native.Nat.{ℕ, ◌+◌, ◌*◌, ◌/◌, ◌≤◌, ◌<◌}
use native.Mathlib.Omega.{arith}
use mathlib.Core.Bool.{true}
use mathlib.Core.List.{[], ◌∷◌}
use lib.ListN.{length}
use lib.Dec.{T}
use Rattle.volume.specs.Bytes.{Bytes, byte_at}
use Rattle.volume.proofs.Occ.{mem_head}
use Rattle.volume.proofs.Puts.{part_bytes}
use Rattle.volume.proofs.Lawful.{Kept}
use Rattle.model.specs.Layout.{version1, page_count, valid_length, valid_header}
use Rattle.model.specs.Entry.{entries, entry_at}
use Rattle.model.specs.Numbers.{numbers1}
use Rattle.model.specs.Sound.{sound}
use Rattle.model.specs.Tree.{Row, Tree}
use Rattle.model.specs.Image.{row_at, tree_of, tree_in}
use Rattle.model.proofs.Version1.{home, version1_lawful}
use Rattle.view_laws.proofs.Facts as Any
use Rattle.view_laws.proofs.Shelf.{Shelf, seen, Shelved}
use Rattle.laws.proofs.Entries.{nodup_entries, entry_within, within_page, entries_apart, entry_same}
use Rattle.laws.proofs.Facts.{Facts, of_view, facts_sound, valid_sized}
use Rattle.laws.proofs.Vacant.{zero_vacant}

abbrev pub shelf : ℕ → Shelf
shelf N = record {
  geometry = version1;
  home = home;
  pages = N;
  numbers = numbers1;
  directory_pages = λ b p. p ∷ [];
  directory_ends = λ b p. true;
  entries = λ b p. entries p;
  entry_at = entry_at;
  place_of = λ b d i. (d, i);
}

far_kept : (N i : ℕ) → N ≤ 256 → 36 ≤ i → Kept version1 N i
far_kept N i high h = record { count = λ l. omega arith; map = λ q k. omega arith }

shelf_is : (N : ℕ) → 1 ≤ N → N ≤ 256 → Shelved (shelf N)
shelf_is N low high = record {
  law = version1_lawful N low high;
  high = low;
  rooted = λ b. ([], refl);
  regular = λ b. record { headed = λ p. mem_head p []; apart = λ p u. nodup_entries p };
  follows = λ b b' len. record {
    size = refl;
    counts = λ s. refl;
    linked = λ q l s. s.bytes (256 * q) (omega arith) (far_kept N (256 * q) high (omega arith));
    content = λ q l s. part_bytes (256 * q + 1) 255 b b' len (λ i u v. s.bytes i (omega arith) (far_kept N i high (omega arith)));
    directory = λ p h. record {
      pages = refl;
      ends = refl;
      positions = refl;
      fields = λ x m.
          let w = entry_within p x m in
          entry_same b b' x len (λ i u v. (h p (mem_head p [])).bytes i (within_page p x w i u v) (far_kept N i high (omega (arith, w.far))));
    };
  };
  spot = λ b t at m.
      let w = entry_within t at m in
      record {
        page = t;
        of = mem_head t [];
        inside = λ r z. omega (arith, w.high, r.1, z);
        bytes = λ r i l u. (within_page t at w i l u, far_kept N i high (omega (arith, w.far)));
      };
  but = λ b b' t at len m real h. record {
    pages = refl;
    ends = refl;
    positions = refl;
    fields = λ x k ne.
        let w = entry_within t x k in
        entry_same b b' x len (λ i u v. h t i (mem_head t []) (within_page t x w i u v) (far_kept N i high (omega (arith, w.far))) (entries_apart t x at k m ne i u v));
  };
  empty = zero_vacant;
}

pub shelved : {b : Bytes} → Facts b → Shelved (shelf (page_count b))
shelved {b} f = let z = valid_sized b f.fits in shelf_is (page_count b) (omega (arith, z.low)) z.high

-- the header's first three bytes and the length make the header valid
header_same : (b b' : Bytes) → length b' ≡ length b → ((i : ℕ) → i < 3 → byte_at b' i ≡ byte_at b i) → T (valid_header b) → T (valid_header b')
unfolding valid_header
header_same b b' e h v = rw (h 0 (omega arith), h 1 (omega arith), h 2 (omega arith), e) v

-- what is true afterwards of the image on the shelf is true of it as version 1's
pub afterwards : {b b' : Bytes} → Facts b → length b' ≡ length b → ((i : ℕ) → i < 3 → byte_at b' i ≡ byte_at b i) → {r : Row}
    → Any.Facts (seen (shelf (page_count b)) b') × (row_at (page_count b) (seen (shelf (page_count b)) b') 0 ≡ r)
    → T (sound b') × (tree_of b' ≡ record { pages = page_count b; code = 0; root = r })
unfolding tree_in
afterwards {b} {b'} f len head {r} h =
    let pages : page_count b' ≡ page_count b = ap (λ (m : ℕ). m / 256) len in
    let s = subst (λ (n : ℕ). Any.Facts (seen (shelf n) b') × (row_at n (seen (shelf n) b') 0 ≡ r)) (sym pages) h in (
      facts_sound (of_view (subst (λ (m : ℕ). T (valid_length m)) (sym len) f.fits) (header_same b b' len head f.headed) s.0),
      ap₂ {C = Tree} (λ (n : ℕ) (x : Row). record { pages = n; code = 0; root = x }) pages s.1,
    )
