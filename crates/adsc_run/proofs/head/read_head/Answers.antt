use Rattle.std.proofs.Common.{◌≡◌, Err, rules, subst}
use Rattle.run_rules.specs.Stages.{flying}
use Rattle.adsc_run.specs.UnderWay.{IsInStage}
use Rattle.adsc_run.proofs.HeadLaws.{setting_of_three}
use Rattle.adsc_run.proofs.head.read_head.Goals as goal

pub read_ground-requires : goal.read_ground-requires
read_ground-requires g c = (c.requires.0, c.in_ok-who.who, c.in_ok-who.ensures.went c.requires.0 c.requires.1)

pub read_first-requires : goal.read_first-requires
read_first-requires g c = (
  c.requires.0,
  c.in_ok-who.who,
  c.in_ok-ground.ground.addresses.items,
  c.in_ok-ground.ground.reserved,
  c.in_ok-ground.ensures.went c.requires.0 c.in_ok-who.who (c.in_ok-who.ensures.went c.requires.0 c.requires.1),
)

pub returns-in-Ok-clause-went : goal.returns-in-Ok-clause-went
returns-in-Ok-clause-went g c before stood =
    let who = c.in_ok-who.who in
    let ground = c.in_ok-ground.ground in
    subst (λ setting. IsInStage before (g.S.Source.left c.read_first.new.source) c.read_first.new.feed.lines 3 (flying setting))
    (setting_of_three c.in-Ok.craft.setting who ground.addresses.items ground.reserved c.in_ok-first.first
    c.in-Ok.ensures.registration c.in-Ok.ensures.flight c.in-Ok.ensures.airframe c.in-Ok.ensures.profile (search rules) c.in-Ok.ensures.kept c.in-Ok.ensures.first)
    (c.in_ok-first.ensures.went before who ground.addresses.items ground.reserved
    (c.in_ok-ground.ensures.went before who (c.in_ok-who.ensures.went before stood)))

pub returns-in_err-ground-clause-stopped : goal.returns-in_err-ground-clause-stopped
returns-in_err-ground-clause-stopped g c =
    let answered : c.from_residual-in_err-ground.result ≡ Err c.in_err-ground.field-0.0 = search rules in
    rw (answered) (λ before stood. c.in_err-ground.ensures.stopped before c.in_ok-who.who (c.in_ok-who.ensures.went before stood))

pub returns-in_err-first-clause-stopped : goal.returns-in_err-first-clause-stopped
returns-in_err-first-clause-stopped g c =
    let who = c.in_ok-who.who in
    let ground = c.in_ok-ground.ground in
    let answered : c.from_residual-in_err-first.result ≡ Err c.in_err-first.field-0.0 = search rules in
    rw (answered)
    (λ before stood. c.in_err-first.ensures.stopped before who ground.addresses.items ground.reserved
    (c.in_ok-ground.ensures.went before who (c.in_ok-who.ensures.went before stood)))
