use Rattle.centre_core.specs.Heard.{hearing_of}
use Rattle.centre_core.proofs.HearingLaws.{said_by_text}
use Rattle.centre_core.proofs.reading.read_text.Goals as goal

pub returns-in-Ok : goal.returns-in-Ok
returns-in-Ok c =
    said_by_text c.args.address c.args.registration c.args.text.now c.in-Ok.envelope (hearing_of c.read_envelope.result) c.in-Ok.ensures.found c.read_envelope.ensures
