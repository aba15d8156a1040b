use Rattle.ground_texts.proofs.EachText.{each_text}
use Rattle.ground_texts.proofs.laws.each_text_says_something.Goals as goal

pub returns : goal.returns
returns c = each_text
