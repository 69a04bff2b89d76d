-- `lost_page` looks at one byte of the bitmap a turn: a page that is lost among its eight is the lowest of all, and bytes that are 0 mark none.
use Rattle.fields.proofs.Plain.{rules, arith, ⊎_elim}
use Rattle.faults.proofs.Answers.{told_on}
use Rattle.lost.proofs.Lost.{word_lies, before_byte_0, byte_faulty, byte_clean, bytes_clear, bytes_done}
use Rattle.lost.proofs.lost_page.Goals as goal

pub loop-byte-init : goal.loop-byte-init
loop-byte-init c = (omega arith, search before_byte_0)

pub clear_bytes-clear-requires : goal.clear_bytes-clear-requires
clear_bytes-clear-requires c = search (rules, word_lies)

pub returns-in_err-lost_in_byte : goal.returns-in_err-lost_in_byte
returns-in_err-lost_in_byte c = told_on _ _ _ c.from_residual.ensures.1 (byte_faulty _ _ _ c.requires _ c.loop-byte.invariant.1 (omega arith) c.in_err-lost_in_byte.ensures)

pub loop-byte-preserved : goal.loop-byte-preserved
loop-byte-preserved c = (omega arith, ⊎_elim (λ w. byte_clean _ _ _ c.requires _ c.loop-byte.invariant.1 (omega arith) w.in_ok-lost_in_byte.ensures _ _ (omega arith) c.max-byte.ensures) (λ w. search bytes_clear) c.if-clear-eq0.branch-raw)

pub returns : goal.returns
returns c = search bytes_done
