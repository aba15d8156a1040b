use Rattle.std.proofs.Common.{inl, inr}
use Rattle.adsc_requests.proofs.ReadingLaws.{uplink_never_fault}
use Rattle.adsc_requests.proofs.laws.uplink_or_fault.Goals as goal

pub returns-in-Ok-clause-one : goal.returns-in-Ok-clause-one
returns-in-Ok-clause-one c = inl (c.in-Ok.field-0, c.in-Ok.ensures.uplink)

pub returns-in-Err-clause-one : goal.returns-in-Err-clause-one
returns-in-Err-clause-one c = inr (c.in-Err.field-0, c.in-Err.ensures.fault)

pub returns-in-Ok-clause-never_both : goal.returns-in-Ok-clause-never_both
returns-in-Ok-clause-never_both c = uplink_never_fault c.args.payload.now

pub returns-in-Err-clause-never_both : goal.returns-in-Err-clause-never_both
returns-in-Err-clause-never_both c = uplink_never_fault c.args.payload.now
