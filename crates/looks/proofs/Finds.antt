-- Find: the laws of `arrivals` at each place that a path leads to.
use mathlib.Core.Path.{◌≡◌, ap, ap₂, ◌∙◌}
use mathlib.Core.Bool.{Bool}
use lib.ListN.{replicate}
use Rattle.volume.specs.Bytes.{Bytes}
use Rattle.model.specs.Layout.{page_size}
use Rattle.model.specs.Entry.{is_locked, date_at}
use Rattle.model.specs.Call.{find, is_file, is_directory, Refusal, refused, granted}
use Rattle.model.specs.Meaning.{answer}
use Rattle.arrivals.proofs.Finds as Any
use Rattle.paths.specs.declared.Target.{Target}
use Rattle.places.specs.Places.{the_root, the_file, the_directory, placed}
use Rattle.places.proofs.Arrivals.{placed_arrived, reads}
use Rattle.answers.proofs.Files.{FileAt, DirectoryAt}

module _ (b path : Bytes) where
  pub find_refused : {m : Refusal} → refused m ≡ placed b path → refused m ≡ answer (find path) b
  find_refused e = Any.find_refused reads b path e

  pub find_root : granted the_root ≡ placed b path
      → {date : Bytes} → date ≡ replicate 8 0 → granted (record { kind = is_directory; size = page_size; date = date }) ≡ answer (find path) b
  find_root e d = ap (λ (v : Bytes). granted (record { kind = is_directory; size = page_size; date = v })) d ∙ Any.find_root reads b path e

  module _ (t : Target) {date : Bytes} (d : date ≡ date_at b t.entry) where
    pub find_directory : DirectoryAt b path t → granted (record { kind = is_directory; size = page_size; date = date }) ≡ answer (find path) b
    find_directory e =
        let s = placed_arrived b path (the_directory t.entry t.begins t.start.0 t.size) e in
        ap (λ (v : Bytes). granted (record { kind = is_directory; size = page_size; date = v })) d ∙ Any.find_directory reads b path e s.at.1

    pub find_file : FileAt b path t → {locked : Bool} → locked ≡ is_locked b t.entry
        → granted (record { kind = is_file locked; size = t.size; date = date }) ≡ answer (find path) b
    find_file e l =
        let s = placed_arrived b path (the_file t.entry t.begins t.start.0 t.size) e in
        ap₂ (λ (c : Bool) (v : Bytes). granted (record { kind = is_file c; size = t.size; date = v })) l d ∙ Any.find_file reads b path e s.at.1
