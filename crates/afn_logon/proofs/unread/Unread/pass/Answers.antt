-- Each character that is passed, the one that is refused, and the end.
use Rattle.std.proofs.Common.{◌∙◌, arith}
use Rattle.std.proofs.lemmas.Result.{err_from_is_err_and}
use Rattle.afn_logon.proofs.LoopLaws.{all_passed, due_passed, due_refused}
use Rattle.afn_logon.proofs.unread.Unread.pass.Goals as goal

pub returns-in_err-one : goal.returns-in_err-one
returns-in_err-one c =
    let p = err_from_is_err_and c.from_residual.result c.from_residual.ensures.1 in
    rw (p.1, p.2)
    (c.loop-character.invariant
    ∙ due_refused c.args.due.now c.loop-character.character-index c.loop-character.self c.in_err-one.field-0.0.left (omega arith) c.in_err-one.ensures)

pub loop-character-preserved : goal.loop-character-preserved
loop-character-preserved c =
    c.loop-character.invariant
    ∙ due_passed c.args.due.now c.loop-character.character-index c.loop-character.self c.one.new.self c.in_ok-one.field-0 (omega arith) c.in_ok-one.ensures

pub returns : goal.returns
returns c = c.loop-character.invariant ∙ all_passed c.args.due.now c.loop-character.character-index c.loop-character.self (omega arith)
