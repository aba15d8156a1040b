-- Each turn of the loop, and each way out of it.
use Rattle.std.proofs.Common.{Err, ◌≡◌, ◌++◌, ◌+◌, [], ◌∷◌, map, length, ap, ap₂, ◌∙◌, sym, arith, ◌-◌, ◌<◌}
use Rattle.std.proofs.lemmas.List.{map-append}
use Rattle.std.proofs.lemmas.Result.{err_from_is_err_and}
use Rattle.adsc_groups.specs.GroupView.{group_data}
use Rattle.adsc_downlink.specs.ItemView.{report_group_data}
use Rattle.adsc_downlink.specs.Reading.{groups_at}
use Rattle.adsc_downlink.specs.Refusals.{many_at}
use Rattle.adsc_downlink.proofs.Stepping.{with_front, groups_stop_full, groups_stop_end, groups_stop_refused, groups_step}
use Rattle.adsc_downlink.proofs.decoding.decode_groups.Goals as goal

pub returns-then-len-eq8-clause-gives : goal.returns-then-len-eq8-clause-gives
returns-then-len-eq8-clause-gives c =
    let full : length c.loop-groups.groups.items ≡ 8 = omega arith in
    groups_stop_full (map report_group_data c.loop-groups.groups.items) (length c.loop-groups.groups.items) (groups_at 8 c.args.from.now) c.loop-groups.from
    c.loop-groups.invariant.whole full (sym c.begins_group.ensures ∙ c.loop-groups-test.true)
    ∙ ap (λ bit. Err (many_at bit)) (sym c.bit.ensures.place)

pub returns-in_err-decode_tagged_group-clause-gives : goal.returns-in_err-decode_tagged_group-clause-gives
returns-in_err-decode_tagged_group-clause-gives c =
    let p = err_from_is_err_and c.from_residual.result c.from_residual.ensures.1 in
    let room : length c.loop-groups.groups.items < 8 = omega arith in
    rw (p.1, p.2)
    (groups_stop_refused (map report_group_data c.loop-groups.groups.items) (length c.loop-groups.groups.items) (groups_at 8 c.args.from.now) c.loop-groups.from
    c.loop-groups.invariant.whole c.in_err-decode_tagged_group.field-0.0 room (sym c.begins_group.ensures ∙ c.loop-groups-test.true) c.in_err-decode_tagged_group.ensures)

pub loop-groups-preserved : goal.loop-groups-preserved
loop-groups-preserved c =
    let room : length c.loop-groups.groups.items < 8 = omega arith in
    let step = groups_step (map report_group_data c.loop-groups.groups.items) (length c.loop-groups.groups.items) (groups_at 8 c.args.from.now) c.loop-groups.from
    c.loop-groups.invariant.whole (group_data c.in_ok-decode_tagged_group.field-0) c.decode_tagged_group.new.from room
    (sym c.begins_group.ensures ∙ c.loop-groups-test.true) c.in_ok-decode_tagged_group.ensures in
    let listed : map report_group_data c.loop-groups.groups.items ++ group_data c.in_ok-decode_tagged_group.field-0 ∷ [] ≡ map report_group_data c.push.new.self.items =
    sym (ap (map report_group_data) c.push.ensures.items ∙ map-append report_group_data c.loop-groups.groups.items (record { 0 = c.in_ok-decode_tagged_group.field-0 } ∷ [])) in
    let counted : length c.loop-groups.groups.items + 1 ≡ length c.push.new.self.items = sym c.push.ensures.len in
    record {
      few = omega (arith, c.push.ensures.len);
      whole = step ∙ ap₂ (λ front count. with_front front (groups_at (8 - count) c.decode_tagged_group.new.from)) listed counted;
    }

pub returns-clause-gives : goal.returns-clause-gives
returns-clause-gives c =
    groups_stop_end (map report_group_data c.loop-groups.groups.items) (length c.loop-groups.groups.items) (groups_at 8 c.args.from.now) c.loop-groups.from
    c.loop-groups.invariant.whole (sym c.begins_group.ensures ∙ c.loop-groups-test.false)
