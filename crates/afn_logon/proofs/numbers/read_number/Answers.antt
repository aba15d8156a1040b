-- Each digit that is read, the one that is refused, and the end.
use Rattle.std.proofs.Common.{◌∙◌, arith}
use Rattle.std.proofs.lemmas.Result.{err_from_is_err_and}
use Rattle.afn_logon.proofs.LoopLaws.{all_read, digit_read, digit_stopped}
use Rattle.afn_logon.proofs.numbers.read_number.Goals as goal

pub returns-in_err-number-clause-gives : goal.returns-in_err-number-clause-gives
returns-in_err-number-clause-gives c =
    let p = err_from_is_err_and c.from_residual.result c.from_residual.ensures.1 in
    rw (p.1, p.2)
    (c.loop-digit.invariant.whole
    ∙ digit_stopped c.args.digits.now c.loop-digit.digit-index c.args.limit c.loop-digit.number c.loop-digit.unread c.in_err-number.field-0.0.left
    (omega arith) c.in_err-number.ensures.gives)

pub loop-digit-preserved : goal.loop-digit-preserved
loop-digit-preserved c = record {
  whole = c.loop-digit.invariant.whole
      ∙ digit_read c.args.digits.now c.loop-digit.digit-index c.args.limit c.loop-digit.number c.loop-digit.unread c.in_ok-number.number c.read_digit.new.unread
      (omega arith) c.in_ok-number.ensures.gives;
  bound = c.in_ok-number.ensures.bound;
}

pub returns-clause-gives : goal.returns-clause-gives
returns-clause-gives c =
    c.loop-digit.invariant.whole
    ∙ all_read c.args.digits.now c.loop-digit.digit-index c.args.limit c.loop-digit.number c.loop-digit.unread (omega arith)
