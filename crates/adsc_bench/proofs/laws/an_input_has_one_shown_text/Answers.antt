use Rattle.adsc_bench.proofs.OneShownText.{one_shown_text}
use Rattle.adsc_bench.proofs.laws.an_input_has_one_shown_text.Goals as goal

pub returns : goal.returns
returns c = one_shown_text
