use Rattle.flight_samples.proofs.SampleTexts.{one_text}
use Rattle.flight_samples.proofs.laws.a_sample_has_one_text.Goals as goal

pub returns : goal.returns
returns c = one_text
