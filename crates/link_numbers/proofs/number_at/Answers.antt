-- `number_at` is `number_from` for the first byte: what is behind it is read by another function.
use Rattle.link_numbers.proofs.Turns.{number_none, number_end, number_last, More, rest_short, number_joined}
use native.Mathlib.Omega.{arith}
use mathlib.Core.Path.{sym, ◌∙◌}
use borrow.Author.Tests.{ltb-false}
use Rattle.link_numbers.proofs.number_at.Goals as goal

pub returns-then-most-eq0 : goal.returns-then-most-eq0
returns-then-most-eq0 c = (search number_none, tt)

pub returns-in_err-get : goal.returns-in_err-get
returns-in_err-get c = let past = ltb-false c.args.at _ (sym c.in_err-get.ensures.lookup.0) in rw c.from_residual.ensures (number_end c.args.most c.args.at c.args.s.now past, tt)

pub returns-then-byte-lt128 : goal.returns-then-byte-lt128
returns-then-byte-lt128 c =
    let a = c.args in
    let l = c.in_ok-get.ensures.lookup in
    number_last a.most a.at _ a.s.now (omega arith) l.3.0 (c.from-byte.ensures ∙ l.3.1 0) c.if-byte-lt128.true

pub joined-requires : goal.joined-requires
joined-requires c =
    let a = c.args in
    let l = c.in_ok-get.ensures.lookup in
    let m : More a.most a.at _ a.s.now c.number_behind-rest.result =
    record { some_most = omega arith; inside = l.3.0; byte = c.from-byte.ensures ∙ l.3.1 0; high = omega arith; rest = c.number_behind-rest.ensures } in
    rest_short m (omega arith)

pub returns : goal.returns
returns c =
    let a = c.args in
    let l = c.in_ok-get.ensures.lookup in
    let m : More a.most a.at _ a.s.now c.number_behind-rest.result =
    record { some_most = omega arith; inside = l.3.0; byte = c.from-byte.ensures ∙ l.3.1 0; high = omega arith; rest = c.number_behind-rest.ensures } in
    number_joined m c.joined.ensures
