use Rattle.std.proofs.Common.{◌≡◌, false, true, rules, sym}
use Rattle.run_rules.specs.Texts.{same_text}
use Rattle.script_reading.proofs.TextLaws.{text_is, text_is_other}
use Rattle.adsc_run.proofs.course.Course.take_answer.Goals as goal

pub returns-then-eq : goal.returns-then-eq
returns-then-eq c log stood =
    let same : same_text c.args.answer.now.registration c.args.self.now.craft.setting.registration ≡ true = text_is c.args.answer.now.registration c.args.self.now.craft.setting.registration (search rules) in
    rw (same) (c.take_on.ensures log stood)

pub returns : goal.returns
returns c log stood =
    let other : same_text c.args.answer.now.registration c.args.self.now.craft.setting.registration ≡ false = text_is_other c.args.answer.now.registration c.args.self.now.craft.setting.registration (search rules) in
    rw (other, sym c.registration_place.ensures) (c.refuse.ensures log stood)
