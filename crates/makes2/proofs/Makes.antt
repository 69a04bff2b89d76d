-- A make is granted if its opening is found and the header's free number, which a sound image has counted, is no less than the pages wanted; what it then makes is
-- what the model makes.
use mathlib.Core.Path.{◌≡◌, refl, sym, ap, ◌∙◌, subst}
use Prim.Native.Nat.{ℕ, ◌+◌, ◌-◌, ◌*◌, ◌/◌, ◌≤◌, ◌<◌}
use native.Mathlib.Nat.{mul-le-mul_right, div-eq_of_lt-le}
use native.Mathlib.Omega.{arith}
use lib.ListN.{length, take, drop, length-take}
use lib.Dec.{ltb}
use lib.Pow.{pow_pos}
use borrow.Author.Tests.{lt-ltb, le-ltb}
use Rattle.volume.specs.Bytes.{Bytes}
use Rattle.std.specs.Prelude.{if◌then◌else◌, Ok}
use Rattle.volume.specs.Field.{load}
use Rattle.volume.specs.Geometry as On
use Rattle.volume.specs.Geometry.{Geometry}
use Rattle.model.specs.Call.{make_file, make_directory, refusal, granted}
use Rattle.model.specs.EffectOf.{roomy, made_in}
use Rattle.model.specs.RefusalOf.{free_in}
use Rattle.model.specs.MeaningOf.{tree_of, answer, after}
use Rattle.model2.specs.Layout.{page_size, pages_for, code_in}
use Rattle.model2.specs.Version2.{view2, layout2}
use Rattle.model2.specs.Calls.{v2}
use Rattle.laws2.proofs.Bounds.{bounds}
use Rattle.laws2.proofs.Facts2.{sound_facts_lem}
use Rattle.laws2.proofs.Counts2.{counted2}
use Rattle.arrivals.specs.Openings.{is_none, opening, make_answer, make_after}
use Rattle.arrivals.proofs.Makes.{Opened, MakeRefuses, make_file_answer, make_file_after, make_directory_answer, make_directory_after, opening_granted, make_lacking, make_done}
use Rattle.shape.specs.Geometry.{geometry_of}
use Rattle.cursor2.specs.Row.{found_of}
use Rattle.known2.specs.Known.{Known}
use Rattle.paths.specs.Steps.{name_in}
use Rattle.openings2.specs.declared.Opening.{Opening}
use Rattle.openings2.specs.Openings.{opened, Ready}
use Rattle.makes2.specs.Asked.{Fillable}

-- ---- the calls: an empty file has one page

one_page : (code : ℕ) → pages_for (page_size code) 0 ≡ 1
unfolding pages_for
one_page code =
    let none : (0 + (page_size code - 1)) / page_size code ≡ 0 =
    div-eq_of_lt-le {k = 0} (page_size code) {m = 0 + (page_size code - 1)} (omega arith) (omega (arith, pow_pos code)) in
    omega (arith, none)

module _ (b path date : Bytes) where
  pub file_answer : make_answer v2 b path date 1 ≡ answer v2 (make_file path date) b
  file_answer = ap (λ (k : ℕ). make_answer v2 b path date k) (sym (one_page (code_in b))) ∙ make_file_answer v2 b path date

  pub file_after : make_after v2 0x80 (0 * page_size (code_in b)) 1 b path date ≡ after v2 (make_file path date) b
  file_after =
      let none : 0 * page_size (code_in b) ≡ 0 = omega arith in
      ap (λ (z : ℕ). make_after v2 0x80 z 1 b path date) none
      ∙ ap (λ (k : ℕ). make_after v2 0x80 0 k b path date) (sym (one_page (code_in b))) ∙ make_file_after v2 b path date refl

  pub directory_answer : make_answer v2 b path date 1 ≡ answer v2 (make_directory path date) b
  directory_answer = make_directory_answer v2 b path date

  pub directory_after : make_after v2 0x81 (1 * page_size (code_in b)) 1 b path date ≡ after v2 (make_directory path date) b
  directory_after =
      let once : 1 * page_size (code_in b) ≡ page_size (code_in b) = omega arith in
      ap (λ (z : ℕ). make_after v2 0x81 z 1 b path date) once ∙ make_directory_after v2 b path date

-- ---- a make

-- what the code has found
pub record Opens (b path date : Bytes) (w : Opening) : Type 0 where
  pub known : Known b w.cartridge.shape w.cartridge.pages
  pub inside : w.begins ≤ length path
  pub fits : length path - w.begins ≤ 16
  pub is : granted (opened path w) ≡ opening v2 b path date

pub opens : (b path date : Bytes) (w : Opening) → Ready b path (Ok w) × (granted (opened path w) ≡ opening v2 b path date) → Opens b path date w
opens b path date w found = record { known = found.0.0; inside = found.0.1; fits = found.0.2; is = found.1 }

module _ {b path date : Bytes} {w : Opening} (o : Opens b path date w) where
  pub name_fits : length (take (length path - w.begins) (drop w.begins path)) ≤ 16
  name_fits = simp length-take (omega (arith, o.fits))

  page_bytes : w.cartridge.shape.size ≡ page_size (code_in b)
  page_bytes = ap (λ (g : Geometry). g.size) o.known.formed.made

  -- the size that the entry tells
  pub size_small : (told : ℕ) → told ≤ 1 → told * w.cartridge.shape.size < 4294967296
  size_small told h = omega (arith, mul-le-mul_right {m = told} {n = 1} w.cartridge.shape.size h, page_bytes, (bounds o.known.formed.allowed).bound)

  passed : Opened v2 b path date (opened path w)
  passed = opening_granted v2 b path date o.is

  -- the free number is read, and it is known how many pages are wanted
  module _ {free : ℕ} (read : free ≡ load (geometry_of w.cartridge.shape).count b) {wanted : ℕ} (wants : wanted ≡ (if is_none (found_of w.vacancy) then 2 else 1)) where
    counts : free ≡ free_in v2 (tree_of v2 b)
    counts = read ∙ ap (λ (g : Geometry). load g.count b) o.known.formed.made ∙ sym (counted2 (sound_facts_lem passed.is_sound)).free

    pub make_short : (flags z : ℕ) → free < wanted → MakeRefuses v2 b path date 1 flags z (refusal 10)
    make_short flags z l = make_lacking v2 b path date 1 o.is counts (sym (ap (ltb free) (sym wants) ∙ lt-ltb free wanted l)) flags z refl

    module _ (l : wanted ≤ free) where
      pub make_fillable : Fillable w.cartridge.shape w.cartridge.pages w.directory.0 (found_of w.vacancy) 1 b
      make_fillable =
          let h = passed in
          let m = counted2 (sound_facts_lem h.is_sound) in
          record {
            known = o.known;
            ns = h.ns;
            walked = h.walked;
            lowest = h.vacancy;
            enough = subst (λ (m : ℕ). m ≤ On.zero_bits (view2 b).geometry b (view2 b).pages) wants (omega (arith, l, counts, m.free, m.zeros));
          }

      -- the name as the code has it
      module _ {name : Bytes} (same : name ≡ (name_in path w.begins (length path)).bytes) where
        pub name_long : length name ≡ 16
        name_long = ap length same ∙ ap length passed.name ∙ passed.long

        pub make_filled : (flags told : ℕ) {done : Bytes}
            → done ≡ made_in layout2 flags (told * w.cartridge.shape.size) 1 name date w.directory.0 (view2 (roomy layout2 (view2 b) w.directory.0))
            → (granted (tt {0}) ≡ make_answer v2 b path date 1) × (done ≡ make_after v2 flags (told * page_size (code_in b)) 1 b path date)
        make_filled flags told is =
            let put : (z : ℕ) → Bytes → Bytes = λ z n. made_in layout2 flags z 1 n date w.directory.0 (view2 (roomy layout2 (view2 b) w.directory.0)) in
            make_done v2 b path date 1 o.is counts (sym (ap (ltb free) (sym wants) ∙ le-ltb free wanted l)) flags (told * page_size (code_in b)) refl
            (is ∙ ap (put (told * w.cartridge.shape.size)) same ∙ ap (λ (z : ℕ). put (told * z) (name_in path w.begins (length path)).bytes) page_bytes)

  pub date_long : length date ≡ 8
  date_long = passed.dated
