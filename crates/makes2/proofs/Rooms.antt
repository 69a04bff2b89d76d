-- The directory that a make works in has room: a full one is lengthened first, which leaves the image sound, the names leading to it, and the pages of the new
-- entry free. So the entry goes into its lowest vacant one.
use mathlib.Core.Path.{◌≡◌, refl, sym, ap, ◌∙◌, subst}
use Prim.Native.Nat.{ℕ, suc, ◌≤◌, ◌<◌}
use native.Mathlib.Omega.{arith}
use mathlib.Core.Bool.{Bool, not}
use mathlib.Core.Option.{Option, some, get_or}
use mathlib.Core.List.{List}
use lib.ListN.{length}
use lib.Dec.{T}
use Rattle.volume.specs.Bytes.{Bytes, put}
use Rattle.std.specs.Prelude as Std
use Rattle.std.specs.Prelude.{if◌then◌else◌, Some, None, unwrap_or}
use Rattle.volume.specs.Lists.{first}
use Rattle.volume.specs.Geometry as On
use Rattle.model.specs.View.{View}
use Rattle.model.specs.Tree.{is_full}
use Rattle.model.specs.Path.{Name}
use Rattle.model.specs.Image.{row_at}
use Rattle.model.specs.EffectOf.{is_vacant, lowest_vacant, lengthened, lengthened_if_full, roomy, made_in}
use Rattle.view_laws.proofs.Walks.{Parent, parent_at}
use Rattle.view_laws.proofs.Making.{some_vacant}
use Rattle.model2.specs.Layout.{code_in}
use Rattle.model2.specs.Entry.{start_field, entry_at, new_entry}
use Rattle.model2.specs.Version2.{view2, layout2}
use Rattle.laws2.proofs.Version2.{view_stays, code_kept}
use Rattle.laws2.proofs.Targets2.{parent_ends}
use Rattle.laws2.proofs.Growth2.{Roomy, roomy_is}
use Rattle.arrivals.specs.Openings.{is_none, vacancy_in}
use Rattle.arrivals.proofs.Vacancies.{directory_full}
use Rattle.shape.specs.declared.Shape.{Shape}
use Rattle.shape.specs.Geometry.{geometry_of}
use Rattle.cursor2.specs.Row.{row, found_of}
use Rattle.known2.specs.Known.{Known}
use Rattle.known2.specs.Housed.{Housed}
use Rattle.known2.proofs.Housed.{housed_walked}
use Rattle.known2.proofs.Rows.{formed_row}
use Rattle.changes2.specs.Asked.{Lengthening, Making}
use Rattle.changes2.proofs.Formed2.{known_stays}
use Rattle.changes2.proofs.Sound2.{directory_lengthening, entry_making, entry_made}
use Rattle.makes2.specs.Asked.{Fillable}

-- ---- the lowest vacant entry, as a search finds it

module _ {b : Bytes} {s : Shape} {n : ℕ} (k : Known b s n) (p : ℕ) (v : Std.Option ℕ) (found : found_of v ≡ first (λ at. is_vacant (entry_at b at)) (row s n b p)) where
  pub lowest_found : unwrap_or v 0 ≡ lowest_vacant (view2 b) p
  unfolding lowest_vacant
  lowest_found =
      or_found v
      ∙ ap (λ (o : Option ℕ). get_or o 0) (found ∙ ap (λ (ats : List ℕ). first (λ at. is_vacant (entry_at b at)) ats) (formed_row k.formed p))
    where
      or_found : (x : Std.Option ℕ) → unwrap_or x 0 ≡ get_or (found_of x) 0
      or_found (Some at) = refl
      or_found None = refl

-- ---- an image with room for an entry of k pages in the directory p

record Room (s : Shape) (n p k : ℕ) (b : Bytes) : Type 0 where
  known : Known b s n
  ns : List Name
  above : Parent (view2 b) ns
  there : above.t ≡ p
  room : T (not (is_full (row_at (suc above.e) (view2 b) above.t)))
  space : k ≤ On.zero_bits (view2 b).geometry b (view2 b).pages

module _ {s : Shape} {n p k : ℕ} {b : Bytes} (r : Room s n p k b) where
  room_housed : Housed (view2 b) p
  room_housed = subst (Housed (view2 b)) r.there (housed_walked r.known.facts.formed r.ns r.above.t r.above.page)

  lowest : first (λ x. is_vacant (entry_at b x)) ((view2 b).entries r.above.t) ≡ some (lowest_vacant (view2 b) r.above.t)
  unfolding lowest_vacant
  lowest = some_vacant (view2 b) r.above.e r.above.t r.room

  module _ {at : ℕ} (is : at ≡ lowest_vacant (view2 b) p) (fl z : ℕ) (name date : Bytes) where
    here : lowest_vacant (view2 b) r.above.t ≡ at
    here = ap (lowest_vacant (view2 b)) r.there ∙ sym is

    room_making : length name ≡ 16 → length date ≡ 8 → z < 4294967296 → Making s n at fl z k name date b
    room_making ln ld hz =
        subst (λ (x : ℕ). Making s n x fl z k name date b) here
        (entry_making r.known r.ns r.above.e r.above.t r.above.leads lowest fl z k name date ln ld hz r.space)

    room_made : On.grown (geometry_of s) n k (start_field at) (put at (new_entry fl name z date) b) ≡ made_in layout2 fl z k name date p (view2 b)
    room_made =
        ap (λ (x : ℕ). On.grown (geometry_of s) n k (start_field x) (put x (new_entry fl name z date) b)) (sym here)
        ∙ entry_made r.known r.ns r.above.e r.above.t r.above.leads lowest fl z k name date
        ∙ ap (λ (x : ℕ). made_in layout2 fl z k name date x (view2 b)) r.there

-- ---- the image of a make that is granted

module _ {s : Shape} {n p k : ℕ} {o : Option ℕ} {b : Bytes} (f : Fillable s n p o k b) where
  abbrev zeros : ℕ
  zeros = On.zero_bits (view2 b).geometry b (view2 b).pages

  up : (q : Parent (view2 b) f.ns) × (q.t ≡ p)
  up = parent_at (view2 b) f.known.facts.formed f.ns p f.walked

  wanted : (if is_none (vacancy_in (view2 b) p) then suc k else k) ≤ zeros
  wanted = subst (λ (x : Option ℕ). (if is_none x then suc k else k) ≤ zeros) f.lowest f.enough

  module _ (q : Parent (view2 b) f.ns) (enough : (if is_none (vacancy_in (view2 b) q.t) then suc k else k) ≤ zeros) where
    abbrev b₁ : Bytes
    b₁ = roomy layout2 (view2 b) q.t

    roomed : Roomy (code_in b) (length b) b f.ns (row_at (suc q.e) (view2 b) q.t) q.t k b₁
    roomed = roomy_is f.known.formed.allowed b refl f.known.facts f.ns q k
        (subst (λ (c : Bool). (if c then suc k else k) ≤ zeros) (sym (directory_full q.e (view2 b) q.t)) enough)

    abbrev Seen : View → Type 0
    Seen v = (x : Parent v f.ns) × (x.t ≡ q.t) × T (not (is_full (row_at (suc x.e) v x.t))) × (k ≤ On.zero_bits v.geometry v.bytes v.pages)

    with_room : Room s n q.t k b₁
    with_room =
        let r = roomed in
        let code : code_in b₁ ≡ code_in b = r.head 6 (omega arith) (code_kept f.known.formed.allowed) in
        let w : Seen (view2 b₁) = subst Seen (sym (view_stays b b₁ r.size code)) (r.above, r.there, r.room, r.space) in
        record {
          known = known_stays f.known.formed r.size code r.facts;
          ns = f.ns;
          above = w.0;
          there = w.1;
          room = w.2;
          space = w.3;
        }

  roomy_room : Room s n p k (roomy layout2 (view2 b) p)
  roomy_room = go p up.0 up.1 wanted
    where
      go : (x : ℕ) (q : Parent (view2 b) f.ns) → q.t ≡ x → (if is_none (vacancy_in (view2 b) x) then suc k else k) ≤ zeros
          → Room s n x k (roomy layout2 (view2 b) x)
      go x q e h =
          subst (λ (y : ℕ). Room s n y k (roomy layout2 (view2 b) y)) e
          (with_room q (subst (λ (y : ℕ). (if is_none (vacancy_in (view2 b) y) then suc k else k) ≤ zeros) (sym e) h))

  -- the entry is made there
  module _ {b' : Bytes} (is : b' ≡ roomy layout2 (view2 b) p) {at : ℕ} (lowest : at ≡ lowest_vacant (view2 b') p) (fl z : ℕ) (name date : Bytes) where
    as_room : Room s n p k b'
    as_room = subst (Room s n p k) (sym is) roomy_room

    pub fill_making : length name ≡ 16 → length date ≡ 8 → z < 4294967296 → Making s n at fl z k name date b'
    fill_making = room_making as_room lowest fl z name date

    pub fill_made : {done : Bytes} → done ≡ On.grown (geometry_of s) n k (start_field at) (put at (new_entry fl name z date) b')
        → done ≡ made_in layout2 fl z k name date p (view2 (roomy layout2 (view2 b) p))
    fill_made e = e ∙ room_made as_room lowest fl z name date ∙ ap (λ (x : Bytes). made_in layout2 fl z k name date p (view2 x)) is

-- ---- the entry that it fills: the answer for the lowest vacant one is v

module _ {s : Shape} {n p k : ℕ} {b : Bytes} (v : Std.Option ℕ) (f : Fillable s n p (found_of v) k b) where
  pub there_lowest : (at : ℕ) → v ≡ Some at → at ≡ lowest_vacant (view2 b) p
  unfolding lowest_vacant
  there_lowest at e = ap (λ (o : Option ℕ). get_or o 0) (ap found_of (sym e) ∙ f.lowest)

  pub there_roomy : (at : ℕ) → v ≡ Some at → b ≡ roomy layout2 (view2 b) p
  unfolding lengthened_if_full
  there_roomy at e = ap (lengthened_if_full layout2 (view2 b) p) (ap found_of (sym e) ∙ f.lowest)

  module _ (full : v ≡ None) where
    one : 1 ≤ On.zero_bits (view2 b).geometry b (view2 b).pages
    unfolding is_none
    one = let h : suc k ≤ On.zero_bits (view2 b).geometry b (view2 b).pages = rw full at f.enough in omega (arith, h)

    pub full_lengthening : Lengthening s n p b
    full_lengthening =
        let q = up f in
        subst (λ (x : ℕ). Lengthening s n x b) q.1
        (directory_lengthening f.known f.ns q.0.e q.0.t q.0.leads (parent_ends f.known.formed.allowed f.known.facts q.0) one)

    -- and the image with a page more is b'
    module _ {b' : Bytes} (is : b' ≡ lengthened layout2 (view2 b) p) where
      pub full_roomy : b' ≡ roomy layout2 (view2 b) p
      unfolding lengthened_if_full
      full_roomy = is ∙ ap (lengthened_if_full layout2 (view2 b) p) (ap found_of (sym full) ∙ f.lowest)

      wider : Room s n p k b'
      wider = subst (Room s n p k) (sym full_roomy) (roomy_room f)

      pub full_known : Known b' s n
      full_known = wider.known

      pub full_housed : Housed (view2 b') p
      full_housed = room_housed wider

-- ---- the pages that it takes

module _ (v : Std.Option ℕ) where
  pub wanted_there : (at : ℕ) → v ≡ Some at → ◌≡◌ {A = ℕ} 1 (if is_none (found_of v) then 2 else 1)
  unfolding is_none
  wanted_there at e = rw e

  pub wanted_full : v ≡ None → ◌≡◌ {A = ℕ} 2 (if is_none (found_of v) then 2 else 1)
  unfolding is_none
  wanted_full e = rw e
