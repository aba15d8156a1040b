use Rattle.std.proofs.Common.{rules, ap, ◌∙◌, set, ◌<◌, length}
use Rattle.std.proofs.lemmas.Option.{get_or_from_slice_get}
use Rattle.adsc_run.specs.declared.course.Course.{Course}
use Rattle.adsc_run.specs.declared.station.Role.TheVariants.{Centre}
use Rattle.adsc_run.specs.declared.station.Station.{Station}
use Rattle.adsc_run.proofs.StationLaws.{if_ok_none}
use Rattle.adsc_run.proofs.StepLaws.{message_brought, message_kept, message_missing, station_there}
use Rattle.adsc_run.proofs.course.Course.bring_from.Goals as goal

pub returns-in-Ok : goal.returns-in-Ok
returns-in-Ok c log stood unused =
    let inside : c.args.link < length c.args.self.now.stations.items = search rules in
    let there = station_there c.args.self.now.stations.items c.args.link inside in
    let kept = message_kept c.args.self.now log c.args.link c.args.place there.0 c.in-Ok.sent stood there.1 (c.in-Ok.ensures.there there.0) in
    if_ok_none c.join.result c.join.ensures.end c.join.ensures.joined _
    (λ joined. message_brought c.args.self.now c.join.new.self log c.args.link c.args.line c.args.place kept.0 _ there.0 stood there.1 unused
    (c.entry_of.ensures.entry kept.0.carried kept.2) kept.1 (c.entry_of.ensures.taken c.args.self.now.craft.setting c.requires.link)
    (ap (λ (v : Course). v.craft) c.join.ensures.same) (ap (λ (v : Course). v.refused) c.join.ensures.same)
    (ap (λ (v : Course). v.downlink_ends.items) c.join.ensures.same)
    (ap (λ (v : Course). v.stations.items) c.join.ensures.same ∙ c.give_role.ensures there.0
    ∙ ap (λ (s : Station). set c.args.self.now.stations.items c.args.link (record s { role = Centre })) (get_or_from_slice_get c.args.self.now.stations.items c.args.link there.0 there.0 there.1))
    joined)

pub returns-in-Err : goal.returns-in-Err
returns-in-Err c log stood unused =
    let inside : c.args.link < length c.args.self.now.stations.items = search rules in
    let there = station_there c.args.self.now.stations.items c.args.link inside in
    message_missing c.args.self.now log c.args.link c.args.line c.args.place there.0 c.in-Err.count _ stood there.1 (c.in-Err.ensures.none there.0) c.bad_line.ensures
