-- How long a name is, and how many entries a directory has: a legal text has passed the test on its length, and a directory's entries are counted out.
use mathlib.Core.Path.{◌≡◌}
use Prim.Native.Nat.{ℕ, zero, suc, ◌≤◌}
use native.Mathlib.Omega.{arith}
use lib.ListN.{length}
use lib.Dec.{T, leb, leb→le, eqb-suc-zero}
use Rattle.volume.specs.Bytes.{Bytes}
use Rattle.volume.specs.Lists.{count_from}
use Rattle.volume.proofs.Tests.{conditions_cons}
use Rattle.model.specs.Name.{legal_text}
use Rattle.model.specs.Entry.{entries}

pub text_fits : (v : Bytes) → T (legal_text v) → length v ≤ 16
unfolding legal_text
text_fits v h = leb→le (length v) 16 (conditions_cons (leb (length v) 16) _ (conditions_cons (leb 1 (length v)) _ h).1).0

pub eight_entries : (p : ℕ) → 1 ≤ p → length (entries p) ≡ 8
unfolding entries count_from
eight_entries zero h = absurd (omega arith)
eight_entries (suc p) h = rw (eqb-suc-zero p)

pub entries_few : (p : ℕ) → length (entries p) ≤ 8
unfolding entries count_from
entries_few zero = omega arith
entries_few (suc p) = omega (arith, eight_entries (suc p) (omega arith))
