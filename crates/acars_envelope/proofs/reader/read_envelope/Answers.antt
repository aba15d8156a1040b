use Rattle.std.proofs.Common.{inr}
use Rattle.std.proofs.lemmas.Result.{err_from_is_err_and}
use Rattle.acars_envelope.proofs.reader.read_envelope.Goals as goal

pub returns-in_err-body-clause-fault : goal.returns-in_err-body-clause-fault
returns-in_err-body-clause-fault c =
    let p = err_from_is_err_and c.from_residual-in_err-body.result c.from_residual-in_err-body.ensures.1 in
    rw (p.1, p.2) (inr (c.in_ok-address.ensures.passed, c.in_err-body.ensures.fault))
