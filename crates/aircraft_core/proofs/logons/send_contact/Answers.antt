use Rattle.std.proofs.Common.{◌∙◌}
use Rattle.acars_envelope.proofs.PrintableLaws.{envelope_text_has_no_newline}
use Rattle.afn_logon.specs.Contents.{contact_data, position_data}
use Rattle.aircraft_core.proofs.LogonLaws.{contact_written, contact_was_sent}
use Rattle.aircraft_core.proofs.logons.send_contact.Goals as goal

pub returns-clause-sent : goal.returns-clause-sent
returns-clause-sent c =
    contact_was_sent c.args.setup.now c.args.link c.args.latest.now c.args.table.now c.as_slice.result.now c.args.outbox.now.sent c.send_text.new.self.sent
    (λ told stands. contact_written c.args.setup.now c.args.link c.args.latest.now c.args.table.now told c.requires.table
    c.address.result c.write_contact.result.items c.as_slice.result.now (contact_data c.contact-contact.result) c.time.result (position_data c.position_of.result) c.is_live.result
    c.address.ensures (c.time.ensures.time told stands) (c.is_live.ensures told stands) c.position_of.ensures c.contact-contact.ensures c.write_contact.ensures.text
    (c.as_slice.ensures.value ∙ c.seal.ensures.text))
    (rw c.as_slice.ensures.value (envelope_text_has_no_newline _ c.seal.result.items c.seal.ensures.right))
    c.send_text.ensures.sent
