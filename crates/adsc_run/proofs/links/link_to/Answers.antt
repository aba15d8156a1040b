use Rattle.std.proofs.Common.{◌≡◌, rules, arith}
use Rattle.aircraft_core.specs.Setting.{address_of}
use Rattle.script_reading.proofs.TextLaws.{link_found, link_passed}
use Rattle.adsc_run.proofs.links.link_to.Goals as goal

pub returns-then-eq-clause-place : goal.returns-then-eq-clause-place
returns-then-eq-clause-place c =
    let here : address_of c.args.craft.now.setting c.loop-link.link ≡ c.args.address = search rules in
    link_found c.args.craft.now.setting.addresses c.args.address c.loop-link.link (omega (arith, c.loop-link-test.true, c.links-link-end.ensures)) here c.loop-link.invariant

pub loop-link-preserved : goal.loop-link-preserved
loop-link-preserved c =
    let other : address_of c.args.craft.now.setting c.loop-link.link ≡ c.args.address → ⊥ = search rules in
    link_passed c.args.craft.now.setting.addresses c.args.address c.loop-link.link (omega (arith, c.loop-link-test.true, c.links-link-end.ensures)) other c.loop-link.invariant
