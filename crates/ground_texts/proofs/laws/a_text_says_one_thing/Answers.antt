use Rattle.ground_texts.proofs.TextLaws.{one_text}
use Rattle.ground_texts.proofs.laws.a_text_says_one_thing.Goals as goal

pub returns : goal.returns
returns c = one_text
