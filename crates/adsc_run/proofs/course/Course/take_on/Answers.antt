use Rattle.std.proofs.Common.{◌≡◌, rules, ap, ◌∙◌, set, ◌<◌, length}
use Rattle.std.proofs.lemmas.Option.{get_or_from_slice_get}
use Rattle.adsc_run.specs.Stations.{is_centre_role}
use Rattle.adsc_run.specs.declared.course.Course.{Course}
use Rattle.adsc_run.specs.declared.station.Role.TheVariants.{Centre, Raw}
use Rattle.adsc_run.specs.declared.station.Station.{Station}
use Rattle.adsc_run.proofs.StationLaws.{if_ok_none}
use Rattle.adsc_run.proofs.StepLaws.{not_centre, role_there, station_there, text_of_centre, text_taken}
use Rattle.adsc_run.proofs.course.Course.take_on.Goals as goal

pub returns-then-eq : goal.returns-then-eq
returns-then-eq c log stood =
    let inside : c.args.link < length c.args.self.now.stations.items = search rules in
    let there = station_there c.args.self.now.stations.items c.args.link inside in
    let is : c.role_at.result ≡ Centre = search rules in
    text_of_centre c.args.self.now log c.args.link c.args.line _ there.0 _ stood there.1
    (ap is_centre_role (role_there c.args.self.now.stations.items c.args.link there.0 c.role_at.result there.1 (c.role_at.ensures there.0) ∙ is)) c.bad_line.ensures

pub returns : goal.returns
returns c log stood =
    let inside : c.args.link < length c.args.self.now.stations.items = search rules in
    let there = station_there c.args.self.now.stations.items c.args.link inside in
    let differs : c.role_at.result ≡ Centre → ⊥ = search rules in
    if_ok_none c.join.result c.join.ensures.end c.join.ensures.joined _
    (λ joined. text_taken c.args.self.now c.join.new.self log c.args.link c.args.line c.args.entry there.0 stood there.1
    (ap is_centre_role (role_there c.args.self.now.stations.items c.args.link there.0 c.role_at.result there.1 (c.role_at.ensures there.0)) ∙ not_centre c.role_at.result differs)
    c.requires.text c.requires.taken (ap (λ (v : Course). v.craft) c.join.ensures.same) (ap (λ (v : Course). v.refused) c.join.ensures.same)
    (ap (λ (v : Course). v.downlink_ends.items) c.join.ensures.same)
    (ap (λ (v : Course). v.stations.items) c.join.ensures.same ∙ c.give_role.ensures there.0
    ∙ ap (λ (s : Station). set c.args.self.now.stations.items c.args.link (record s { role = Raw })) (get_or_from_slice_get c.args.self.now.stations.items c.args.link there.0 there.0 there.1))
    joined)
