use Rattle.std.proofs.Common.{◌≡◌, ◌<◌, length, rules, ap, sym, ◌∙◌}
use Rattle.adsc_run.specs.Stations.{is_raw_role}
use Rattle.adsc_run.specs.declared.station.Role.TheVariants.{Raw}
use Rattle.adsc_run.proofs.StepLaws.{centre_address, not_raw, raw_address, raw_is, role_there, station_there, unlisted}
use Rattle.adsc_run.proofs.course.Course.centre_link.Goals as goal

pub returns-in_default-clause-bad : goal.returns-in_default-clause-bad
returns-in_default-clause-bad c log step stood =
    unlisted c.args.self.now.craft.setting log c.args.address step c.args.line _ c.in_default.ensures.place c.bad_line.ensures

pub returns-then-eq-clause-bad : goal.returns-then-eq-clause-bad
returns-then-eq-clause-bad c log step stood =
    let inside : c.in-Some.link < length c.args.self.now.stations.items = search rules in
    let there = station_there c.args.self.now.stations.items c.in-Some.link inside in
    let is : c.role_at.result ≡ Raw = search rules in
    raw_address c.args.self.now.craft.setting log c.args.address step c.args.line c.in-Some.link _ c.in-Some.ensures.place
    (sym (stood.each c.in-Some.link there.0 there.1).raw
    ∙ ap is_raw_role (role_there c.args.self.now.stations.items c.in-Some.link there.0 c.role_at.result there.1 (c.role_at.ensures there.0)) ∙ raw_is c.role_at.result is)
    c.bad_line-then-eq.ensures

pub returns-clause-found : goal.returns-clause-found
returns-clause-found c log step stood =
    let inside : c.in-Some.link < length c.args.self.now.stations.items = search rules in
    let there = station_there c.args.self.now.stations.items c.in-Some.link inside in
    let differs : c.role_at.result ≡ Raw → ⊥ = search rules in
    let unused = sym (stood.each c.in-Some.link there.0 there.1).raw
    ∙ ap is_raw_role (role_there c.args.self.now.stations.items c.in-Some.link there.0 c.role_at.result there.1 (c.role_at.ensures there.0)) ∙ not_raw c.role_at.result differs in
    (centre_address c.args.self.now.craft.setting log c.args.address step c.in-Some.link c.in-Some.ensures.place unused, unused)
