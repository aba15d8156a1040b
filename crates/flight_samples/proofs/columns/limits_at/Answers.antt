use Rattle.std.proofs.Common.{ap, refl}
use Rattle.flight_samples.specs.SampleText.{ranges}
use Rattle.flight_samples.specs.declared.columns.TheConstants.{LIMITS}
use Rattle.flight_samples.proofs.ColumnLemmas.{no_limits, limits_agree}
use Rattle.flight_samples.proofs.columns.limits_at.Goals as goal

pub returns-clause-low : goal.returns-clause-low
unfolding ranges
returns-clause-low c = ap (λ r. r.low) (limits_agree LIMITS c.args.place no_limits c.requires refl)

pub returns-clause-high : goal.returns-clause-high
unfolding ranges
returns-clause-high c = ap (λ r. r.high) (limits_agree LIMITS c.args.place no_limits c.requires refl)
