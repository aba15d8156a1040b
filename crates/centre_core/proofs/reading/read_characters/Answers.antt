use Rattle.afn_logon.specs.Contents.{contact_data}
use Rattle.centre_core.specs.Heard.{hearing_of}
use Rattle.centre_core.proofs.HearingLaws.{said_by_characters}
use Rattle.centre_core.proofs.reading.read_characters.Goals as goal

pub returns-in-Ok : goal.returns-in-Ok
returns-in-Ok c =
    said_by_characters c.args.registration c.args.characters.now (contact_data c.in-Ok.contact) (hearing_of c.read_registration.result)
    c.in-Ok.ensures.found c.read_registration.ensures
