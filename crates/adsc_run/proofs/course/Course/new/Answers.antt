use Rattle.std.proofs.Common.{rules, ◌∙◌}
use Rattle.adsc_run.proofs.FoundLaws.{none_found}
use Rattle.adsc_run.proofs.course.Course.new.Goals as goal

pub returns-clause-stands : goal.returns-clause-stands
returns-clause-stands c = record {
  count = c.in_ok-stations.ensures.count;
  each = c.in_ok-stations.ensures.each;
  refused = search rules;
  waiting = search rules;
  found = none_found c.args.craft.setting c.args.craft.journal c.in_ok-downlink_ends.downlink_ends.items (c.in_ok-downlink_ends.ensures.count ∙ c.links.ensures) c.in_ok-downlink_ends.ensures.none;
}
