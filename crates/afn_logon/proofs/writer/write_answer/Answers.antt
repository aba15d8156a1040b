-- The text is that of a value in the ranges, and an envelope carries it.
use Rattle.std.proofs.Common.{◌≡◌, rules}
use Rattle.afn_logon.specs.Contents.{answer_data}
use Rattle.afn_logon.specs.Texts.{answer_text}
use Rattle.afn_logon.proofs.SizeLaws.{answer_is_carried}
use Rattle.afn_logon.proofs.ValueLaws.{answer_is}
use Rattle.afn_logon.proofs.writer.write_answer.Goals as goal

pub returns-clause-right : goal.returns-clause-right
unfolding answer_text
returns-clause-right c = record {
  ranges = answer_is c.args.answer.now c.append_names.ensures.flight c.append_names.ensures.registration;
  spelled = search rules;
}

pub returns-clause-carried : goal.returns-clause-carried
unfolding answer_text
returns-clause-carried c =
    let spelled : c.append_applications.new.text.items ≡ answer_text (answer_data c.args.answer.now) = search rules in
    rw spelled (answer_is_carried (answer_data c.args.answer.now) (answer_is c.args.answer.now c.append_names.ensures.flight c.append_names.ensures.registration))
