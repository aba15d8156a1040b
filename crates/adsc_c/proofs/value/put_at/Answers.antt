use Rattle.std.proofs.Common.{◌≡◌, ◌∙◌, sym, arith, Bool, false, IsTrue}
use Rattle.adsc_c.proofs.Places.{given_is_read, none_is_not_some, none_stands}
use Rattle.adsc_c.proofs.value.put_at.Goals as goal

not_true : (test : Bool) → test ≡ false → IsTrue test → ⊥
not_true test is_false is_true = cc

pub returns-in_err-message_of-clause-each : goal.returns-in_err-message_of-clause-each
unfolding Rattle.adsc_c.specs.Uplinks.no_reporting Rattle.adsc_c.specs.Uplinks.no_limits Rattle.adsc_c.specs.Uplinks.no_moduli
returns-in_err-message_of-clause-each c = λ u same. absurd (none_is_not_some c.message_of.result c.in_err-message_of.was
    (given_is_read u c.args.flat.now c.args.place c.message_of.result c.requires.place (omega (arith, c.if-place-flat.true)) same c.message_of.ensures.each))

pub returns-else-same_message-clause-each : goal.returns-else-same_message-clause-each
unfolding Rattle.adsc_c.specs.Uplinks.no_reporting Rattle.adsc_c.specs.Uplinks.no_limits Rattle.adsc_c.specs.Uplinks.no_moduli
returns-else-same_message-clause-each c = λ u same. absurd (not_true c.same_message.result c.if-same_message.false
    (c.same_message.ensures.1 (none_stands u c.args.flat.now c.args.place c.requires.place (omega (arith, c.if-place-flat.false)) same ∙ sym c.no_message.ensures)))
