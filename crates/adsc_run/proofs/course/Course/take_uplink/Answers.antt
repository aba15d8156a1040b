use Rattle.std.proofs.Common.{◌≡◌, false, true, rules}
use Rattle.run_rules.specs.Texts.{same_text}
use Rattle.script_reading.proofs.TextLaws.{text_is, text_is_other}
use Rattle.adsc_run.proofs.course.Course.take_uplink.Goals as goal

pub returns-in_default : goal.returns-in_default
returns-in_default c log stood = rw (c.in_default.ensures.place) (c.refuse.ensures log stood)

pub returns-then-eq : goal.returns-then-eq
returns-then-eq c log stood =
    let same : same_text c.args.uplink.now.registration c.args.self.now.craft.setting.registration ≡ true = text_is c.args.uplink.now.registration c.args.self.now.craft.setting.registration (search rules) in
    rw (c.in-Some.ensures.place, same) (c.take_payload.ensures log stood)

pub returns : goal.returns
returns c log stood =
    let other : same_text c.args.uplink.now.registration c.args.self.now.craft.setting.registration ≡ false = text_is_other c.args.uplink.now.registration c.args.self.now.craft.setting.registration (search rules) in
    rw (c.in-Some.ensures.place, other) (c.refuse-2.ensures log stood)
