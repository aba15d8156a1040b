use Rattle.std.proofs.Common.{◌≡◌, rules, Err, length, []}
use Rattle.adsc_requests.specs.Gathered.{gathered_groups}
use Rattle.adsc_requests.specs.Reading.{groups_at}
use Rattle.adsc_requests.proofs.ReadingLemmas.{groups_at-step, groups_at-stops, groups_at-end, groups_at-message, group_at-shorter, group_at-allowed}
use Rattle.adsc_requests.proofs.decoding.groups.read_groups.Goals as goal
use Rattle.adsc_requests.proofs.decoding.groups.read_groups.Goals.{in_default, in-len1-up+then-begins_message}

pub returns-in_err-more-clause-groups : goal.returns-in_err-more-clause-groups
returns-in_err-more-clause-groups c =
    let whole : groups_at (length c.args.octets.now) c.args.message c.args.number [] c.args.octets.now ≡ Err c.in_err-more.field-0.0
    = groups_at-stops c.loop-rest.invariant.reads.0 c.args.message c.args.number (gathered_groups c.loop-rest.gathered) c.loop-rest.rest.now _ _
    c.in-len1-up.len_at_least c.loop-rest.invariant.reads.1 (search rules) c.in_err-more.ensures c.loop-rest.invariant.reads.2 in
    rw whole (search rules)

pub loop-rest-smaller : goal.loop-rest-smaller
loop-rest-smaller c =
    group_at-shorter c.args.message c.args.number (gathered_groups c.loop-rest.gathered) c.loop-rest.rest.now _ c.in-len1-up.len_at_least c.in_ok-more.ensures

pub loop-rest-preserved : goal.loop-rest-preserved
loop-rest-preserved c = record {
  reads = groups_at-step c.loop-rest.invariant.reads.0 c.args.message c.args.number (gathered_groups c.loop-rest.gathered) c.loop-rest.rest.now _ _
      c.in-len1-up.len_at_least c.loop-rest.invariant.reads.1 (search rules) c.in_ok-more.ensures c.loop-rest.invariant.reads.2;
  allowed = group_at-allowed c.args.message c.args.number (gathered_groups c.loop-rest.gathered) _ _ _ c.in_ok-more.ensures c.loop-rest.invariant.allowed;
}

pub returns-clause-groups : goal.returns-clause-groups
returns-clause-groups c = elim c.if-rest-lt1.branch [
  | in_default w ↦ groups_at-end c.loop-rest.invariant.reads.0 c.args.message c.args.number (gathered_groups c.loop-rest.gathered) c.loop-rest.rest.now _ w.in_default.len_below c.loop-rest.invariant.reads.2
  | in-len1-up+then-begins_message w ↦ groups_at-message c.loop-rest.invariant.reads.0 c.args.message c.args.number (gathered_groups c.loop-rest.gathered) c.loop-rest.rest.now _
      w.in-len1-up.len_at_least c.loop-rest.invariant.reads.1 (search rules) c.loop-rest.invariant.reads.2
]
