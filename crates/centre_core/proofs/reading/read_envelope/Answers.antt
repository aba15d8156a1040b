use Rattle.std.proofs.Common.{◌≡◌, rules}
use Rattle.centre_core.specs.Heard.{hearing_of}
use Rattle.centre_core.proofs.HearingLaws.{said_by_envelope}
use Rattle.centre_core.proofs.reading.read_envelope.Goals as goal

pub returns : goal.returns
returns c =
    let here : c.args.envelope.address ≡ c.args.address = search rules in
    said_by_envelope c.args.address c.args.registration c.args.envelope (hearing_of c.read_body.result) here c.read_body.ensures
