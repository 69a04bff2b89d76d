-- The entry of a name: the row that the cursor goes over is that of the image's view, so what it finds is the view's. An occupied entry has its name and a vacant
-- one none, and one that is a directory leads to a housed one.
use mathlib.Core.Path.{◌≡◌, sym, ap, ◌∙◌}
use Prim.Native.Nat.{ℕ, ◌+◌, ◌≤◌}
use mathlib.Core.Option.{some}
use mathlib.Core.List.{List}
use lib.ListN.{length}
use Rattle.std.specs.Prelude.{Option, Some, None}
use Rattle.volume.specs.Bytes.{Bytes}
use Rattle.volume.specs.Lists.{first}
use Rattle.model.specs.Sound.{is_named}
use Rattle.model.specs.Path.{Name}
use Rattle.model.specs.Walk.{arrived, missing, blocked, entry_named, enter_on}
use Rattle.model2.specs.Entry.{is_locked, name_at, date_at, entry_at}
use Rattle.model2.specs.Version2.{view2}
use Rattle.view_laws.proofs.Focus.{named_found}
use Rattle.fields.specs.declared.Page.{Page}
use Rattle.fields.specs.declared.Entry.{Entry}
use Rattle.fields.specs.declared.Entry.TheVariants.{Vacant, File, Directory}
use Rattle.fields.specs.Read.{entry_of}
use Rattle.shape.specs.declared.Shape.{Shape}
use Rattle.cursor2.specs.Row.{row, found_of}
use Rattle.known2.specs.Known.{Known}
use Rattle.known2.specs.Housed.{Housed}
use Rattle.known2.proofs.Housed.{housed_named}
use Rattle.known2.proofs.Rows.{formed_row, housed_inside}
use Rattle.paths.specs.Steps.{entered}
use Rattle.walk2.specs.Steps.{Inside}

module _ {b : Bytes} {s : Shape} {n : ℕ} (k : Known b s n) where
  pub named_view : (p : ℕ) (name : Bytes) (r : Option ℕ) → found_of r ≡ first (λ at. is_named name (entry_at b at)) (row s n b p) → found_of r ≡ entry_named (view2 b) p name
  unfolding entry_named
  named_view p name r found = found ∙ ap (λ (ats : List ℕ). first (λ at. is_named name (entry_at b at)) ats) (formed_row k.formed p)

  pub named_inside : {p : ℕ} → Housed (view2 b) p → (name : Bytes) (r : Option ℕ) → found_of r ≡ first (λ at. is_named name (entry_at b at)) (row s n b p) → Inside b r
  named_inside {p} h name r found = go r (named_view p name r found)
    where
      go : (x : Option ℕ) → found_of x ≡ entry_named (view2 b) p name → Inside b x
      go (Some at) e = housed_inside k h at (named_found (view2 b) p name at (sym e)).0
      go None e = tt

-- ---- one name on: the answer for its entry is f

module _ (b : Bytes) (begins : ℕ) (bytes : Bytes) (p : ℕ) (f : Option ℕ) (spot : found_of f ≡ entry_named (view2 b) p bytes) where
  abbrev name : Name
  name = record { begins = begins; bytes = bytes }

  pub no_entry : f ≡ None → missing begins ≡ entered (view2 b) name p
  unfolding enter_on
  no_entry e = rw (← spot, e)

  -- the entry that was read there is r
  module _ (at : ℕ) (found : f ≡ Some at) (r : Entry) (read : entry_of r (is_locked b at) (name_at b at) (date_at b at) ≡ entry_at b at) where
    entry_read : (x : Entry) → r ≡ x → enter_on name (some (entry_of x (is_locked b at) (name_at b at) (date_at b at))) arrived ≡ entered (view2 b) name p
    entry_read x e = rw (← spot, found, ← read, e)

    pub entry_vacant : r ≡ Vacant → missing begins ≡ entered (view2 b) name p
    unfolding enter_on
    entry_vacant = entry_read Vacant

    pub entry_file : (start : Page) (size : ℕ) → r ≡ File start size → blocked begins ≡ entered (view2 b) name p
    unfolding enter_on
    entry_file start size = entry_read (File start size)

    pub entry_directory : (start : Page) (size : ℕ) → r ≡ Directory start size → arrived start.0 ≡ entered (view2 b) name p
    unfolding enter_on
    entry_directory start size = entry_read (Directory start size)

    pub entry_housed : Housed (view2 b) p → (start : Page) (size : ℕ) → r ≡ Directory start size → Housed (view2 b) start.0
    entry_housed h start size e =
        housed_named h bytes (sym spot ∙ ap found_of found) (sym read ∙ ap (λ (x : Entry). entry_of x (is_locked b at) (name_at b at) (date_at b at)) e)

pub inside_at : (b : Bytes) (f : Option ℕ) (at : ℕ) → Inside b f → f ≡ Some at → at + 32 ≤ length b
inside_at b f at h e = rw e at h
