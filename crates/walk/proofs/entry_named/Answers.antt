-- Past the image no entry has a name; in it `entry_named` looks at one entry a turn, and the first that has the name is found in order.
use Rattle.fields.proofs.Plain.{rules, arith}
use Rattle.fields.proofs.Searches.{sought_first}
use Rattle.walk.proofs.Entries.{looked_named, looked_on, looked_last, page_past}
use Rattle.walk.proofs.entry_named.Goals as goal

pub returns-then-page_count-directory : goal.returns-then-page_count-directory
returns-then-page_count-directory c = (tt, search page_past)

pub loop-i-init : goal.loop-i-init
loop-i-init c = (search rules, sought_first)

pub returns-then-is_named : goal.returns-then-is_named
returns-then-is_named c = (omega arith, search looked_named)

pub loop-i-preserved : goal.loop-i-preserved
loop-i-preserved c = (search rules, search looked_on)

pub returns : goal.returns
returns c = (tt, search looked_last)
