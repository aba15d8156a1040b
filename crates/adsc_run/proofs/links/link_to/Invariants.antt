use Rattle.std.proofs.Common.{◌≡◌, drop}
use Rattle.run_rules.specs.Texts.{link_from}
use Rattle.adsc_run.proofs.links.link_to.Given as goal

-- the address is none of those so far
abbrev pub invariant-loop-link : goal.invariant-loop-link
invariant-loop-link l =
    link_from l.link (drop l.link l.craft.setting.addresses) l.address ≡ link_from 0 l.craft.setting.addresses l.address
