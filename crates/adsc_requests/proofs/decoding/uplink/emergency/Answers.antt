use Rattle.std.proofs.Common.{ap, refl}
use Rattle.adsc_requests.specs.Tables.{allows, is_modulus_tag}
use Rattle.adsc_requests.proofs.GatheredLemmas.{only_reports}
use Rattle.adsc_requests.proofs.decoding.uplink.emergency.Goals as goal

pub returns : goal.returns
unfolding allows is_modulus_tag
returns c =
    let a = c.args.gathered in
    ap (λ gs. record { tag = 9; number = c.args.n; groups = gs })
    (only_reports a.lateral a.interval a.moduli.m a.vrate a.range a.waypoint a.intent 9 refl refl refl refl c.requires)
