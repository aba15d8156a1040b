use Rattle.flight_samples.proofs.SameSamples.{same_sample}
use Rattle.flight_samples.proofs.laws.a_sample_is_its_values.Goals as goal

pub returns : goal.returns
returns c = same_sample
