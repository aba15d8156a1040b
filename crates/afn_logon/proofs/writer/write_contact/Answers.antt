-- The text is that of a value in the ranges, and an envelope carries it.
use Rattle.std.proofs.Common.{◌≡◌, rules}
use Rattle.afn_logon.specs.Contents.{contact_data}
use Rattle.afn_logon.specs.Texts.{contact_text}
use Rattle.afn_logon.proofs.SizeLaws.{contact_is_carried}
use Rattle.afn_logon.proofs.ValueLaws.{contact_is}
use Rattle.afn_logon.proofs.writer.write_contact.Goals as goal

pub returns-clause-right : goal.returns-clause-right
unfolding contact_text
returns-clause-right c = record {
  ranges = contact_is c.args.contact.now c.append_names.ensures.flight c.append_names.ensures.registration;
  spelled = search rules;
}

pub returns-clause-carried : goal.returns-clause-carried
unfolding contact_text
returns-clause-carried c =
    let spelled : c.append_applications.new.text.items ≡ contact_text (contact_data c.args.contact.now) = search rules in
    rw spelled (contact_is_carried (contact_data c.args.contact.now) (contact_is c.args.contact.now c.append_names.ensures.flight c.append_names.ensures.registration))
