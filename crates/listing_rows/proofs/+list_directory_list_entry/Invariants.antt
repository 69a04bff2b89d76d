use lib.ListN.{take}
use Rattle.fields.proofs.Plain.{◌≡◌, ◌+◌, ◌*◌, ◌-◌, ◌≤◌, length}
use Rattle.listing_lines.specs.Window.{window}
use Rattle.listing_rows.proofs.Rows.{Leads}
use Rattle.listing_rows.proofs.+list_directory_list_entry.Given as goal

abbrev pub invariant-list_directory-loop-i : goal.invariant-list_directory-loop-i
invariant-list_directory-loop-i l = (l.i ≤ l.count) × (length l.path ≡ length l.initial.path) × (length l.out ≡ length l.initial.out) × (take l.len l.path ≡ take l.len l.initial.path)
    × Leads l.depth l.image (l.directory.0) (take l.len l.initial.path) (window l.initial.listed l.initial.out) l.i (window l.listed l.out)

abbrev pub decreases-list_directory-loop-i : goal.decreases-list_directory-loop-i
decreases-list_directory-loop-i l = l.count - l.i

abbrev pub decreases-list_directory : goal.decreases-list_directory
decreases-list_directory l = 2 * l.depth

abbrev pub decreases-list_entry : goal.decreases-list_entry
decreases-list_entry l = 2 * l.depth + 1
