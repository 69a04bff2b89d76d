-- The place decides, then the position; what is copied of the chain is the content from there on, as far as the buffer goes.
use Rattle.reads.proofs.Readings.{read_refused, read_directory, read_past, read_inside, read_answer, read_buffer}
use Rattle.outcomes.proofs.Exits.{told_on}
use Rattle.answers.proofs.Files.{at_file}
use Rattle.fields.proofs.Plain.{arith}
use Rattle.reads.proofs.read.Goals as goal

pub returns-in_err-target : goal.returns-in_err-target
returns-in_err-target c =
    let whole = read_refused _ _ _ _ c.in_err-target.ensures in
    record { result_value = told_on _ _ _ _ c.from_residual.ensures.1 whole.0; buffer_after = whole.1 }

pub returns-in_default : goal.returns-in_default
returns-in_default c =
    let whole = read_directory _ _ _ _ _ c.in_default.not-File c.in_ok-target.ensures in
    record { result_value = whole.0; buffer_after = whole.1 }

pub returns-then-size-position : goal.returns-then-size-position
returns-then-size-position c =
    let whole = read_past _ _ _ _ _ (at_file c.in-File.is c.in_ok-target.ensures) c.if-size-position.true in
    record { result_value = whole.0; buffer_after = whole.1 }

pub read_chain-requires : goal.read_chain-requires
read_chain-requires c = (search (read_inside, (at_file c.in-File.is c.in_ok-target.ensures)), omega arith)

pub returns : goal.returns
returns c = record { result_value = search (read_answer, (at_file c.in-File.is c.in_ok-target.ensures)); buffer_after = search (read_buffer, (at_file c.in-File.is c.in_ok-target.ensures)) }
