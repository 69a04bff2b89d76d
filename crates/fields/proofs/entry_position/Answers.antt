-- An entry of the directory ends within its page, so no sum wraps: for the root by its six entries, for another by its eight.
use Rattle.fields.proofs.Plain.{arith, eq-eqb, ne_eqb}
use Rattle.fields.proofs.entry_position.Goals as goal

pub overflow_mul-result : goal.overflow_mul-result
overflow_mul-result c = let h = rw (eq-eqb _ _ c.if-directory-eq0.true) at c.requires.0 in omega arith

pub overflow_add-result : goal.overflow_add-result
overflow_add-result c = let h = rw (eq-eqb _ _ c.if-directory-eq0.true) at c.requires.0 in omega arith

pub overflow_mul-result-else-directory-eq0 : goal.overflow_mul-result-else-directory-eq0
overflow_mul-result-else-directory-eq0 c = let h = rw (ne_eqb _ _ c.if-directory-eq0.false) at c.requires.0 in omega arith

pub overflow_add-result-else-directory-eq0 : goal.overflow_add-result-else-directory-eq0
overflow_add-result-else-directory-eq0 c = let h = rw (ne_eqb _ _ c.if-directory-eq0.false) at c.requires.0 in omega arith

pub returns-then-directory-eq0 : goal.returns-then-directory-eq0
returns-then-directory-eq0 c = let h = rw (eq-eqb _ _ c.if-directory-eq0.true) at c.requires.0 in (rw (eq-eqb _ _ c.if-directory-eq0.true) (omega arith), omega arith)

pub returns-else-directory-eq0 : goal.returns-else-directory-eq0
returns-else-directory-eq0 c =
    let other = ne_eqb _ _ c.if-directory-eq0.false in
    let h = rw other at c.requires.0 in (rw other (omega arith), omega arith)
