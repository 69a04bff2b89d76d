-- The place decides, then the position; what is copied of the chain is the content from there on, as far as the buffer goes.
use Rattle.reads2.proofs.Readings.{read_directory, read_past, read_sizes, read_room, read_inside, read_answer, read_buffer}
use Rattle.arrivals.proofs.Readings.{read_refused}
use Rattle.outcomes.proofs.Exits.{told_on}
use Rattle.places2.proofs.Held.{reads2}
use Rattle.fields.proofs.Plain.{arith}
use Rattle.reads2.proofs.read.Goals as goal

pub returns-in_err-arrived : goal.returns-in_err-arrived
returns-in_err-arrived c =
    let whole = read_refused reads2 _ _ _ _ c.in_err-arrived.ensures.1 in
    record { result_value = told_on _ _ _ _ c.from_residual.ensures.1 whole.0; buffer_after = whole.1 }

pub returns-in_default : goal.returns-in_default
returns-in_default c =
    let whole = read_directory _ _ c.in_ok-arrived.arrived c.in_ok-arrived.ensures _ _ c.in_default.not-File in
    record { result_value = whole.0; buffer_after = whole.1 }

pub returns-then-size-position : goal.returns-then-size-position
returns-then-size-position c =
    let whole = read_past _ _ c.in_ok-arrived.arrived c.in_ok-arrived.ensures c.in-File.is _ _ c.if-size-position.true in
    record { result_value = whole.0; buffer_after = whole.1 }

pub pages_for-pages-requires : goal.pages_for-pages-requires
pages_for-pages-requires c = read_sizes _ _ c.in_ok-arrived.arrived c.in_ok-arrived.ensures c.in-File.is

pub read_chain-requires : goal.read_chain-requires
read_chain-requires c =
    let r = read_room _ _ c.in_ok-arrived.arrived c.in_ok-arrived.ensures in
    (r.0, r.1, read_inside _ _ c.in_ok-arrived.arrived c.in_ok-arrived.ensures c.in-File.is c.pages_for-pages.ensures, omega arith, r.2)

pub returns : goal.returns
returns c =
    record { result_value = read_answer _ _ c.in_ok-arrived.arrived c.in_ok-arrived.ensures c.in-File.is _ _ (omega arith) c.min-count.ensures; buffer_after = read_buffer _ _ c.in_ok-arrived.arrived c.in_ok-arrived.ensures c.in-File.is _ _ (omega arith) c.min-count.ensures c.pages_for-pages.ensures c.read_chain.ensures }
