use Rattle.std.proofs.Common.{◌++◌, ◌≤◌, ◌<◌, ◌∙◌, ap, sym, subst, length, arith}
use Rattle.contract_table.specs.Acts.{rules_act}
use Rattle.contract_table.specs.ConnectionDues.{dues_flown}
use Rattle.contract_table.specs.Dues.{dues_in}
use Rattle.contract_table.specs.Seen.{connection_seen}
use Rattle.contract_table.specs.Changes.{IsFlown}
use Rattle.contract_table.specs.Sound.{IsSound}
use Rattle.contract_table.specs.declared.connection.Connection.{Connection}
use Rattle.contract_table.proofs.EachLemmas.{same_at, rest_more, done_more, given_more, all_done, all_given}
use Rattle.contract_table.proofs.SeenLemmas.{flown_seen, flown_sound, flat_map_seen}
use Rattle.contract_table.proofs.flight.fly_all.Goals as goal

pub fly-requires-clause-sound : goal.fly-requires-clause-sound
fly-requires-clause-sound c =
    let within : c.loop-connection.connection-index < length c.args.connections.now = omega arith in
    subst (IsSound c.args.time) (sym (same_at c.args.connections.now c.loop-connection.connections c.loop-connection.connection-index c.loop-connection.invariant.rest c.connection-item.result))
    (c.requires.sound c.loop-connection.connection-index c.connection-item.result within)

pub loop-connection-preserved : goal.loop-connection-preserved
loop-connection-preserved c =
    let in_old : c.loop-connection.connection-index < length c.args.connections.now = omega arith in
    let in_now : c.loop-connection.connection-index < length c.loop-connection.connections = omega arith in
    let same = same_at c.args.connections.now c.loop-connection.connections c.loop-connection.connection-index c.loop-connection.invariant.rest c.connection-item.result in
    record {
      rest = rest_more c.args.connections.now c.loop-connection.connections c.loop-connection.connection-index c.loop-connection.invariant.rest c.fly.new.self in_old in_now;
      flown = done_more (IsFlown c.args.time c.args.later (rules_act c.args.act.now)) c.args.connections.now c.loop-connection.connections c.loop-connection.connection-index c.fly.new.self c.connection-item.result
          in_old in_now c.loop-connection.invariant.flown
          (subst (λ (e : Connection). IsFlown c.args.time c.args.later (rules_act c.args.act.now) e c.fly.new.self) same c.fly.ensures.flown);
      dues = given_more (λ (e : Connection). dues_flown c.args.time (rules_act c.args.act.now) (connection_seen e)) c.args.connections.now c.loop-connection.connection-index c.connection-item.result
          (dues_in c.args.dues.now) (dues_in c.loop-connection.dues) (dues_in c.fly.new.dues) in_old c.loop-connection.invariant.dues
          (c.fly.ensures.dues ∙ ap (λ (e : Connection). dues_in c.loop-connection.dues ++ dues_flown c.args.time (rules_act c.args.act.now) (connection_seen e)) same);
      few = omega arith;
    }

pub returns : goal.returns
returns c =
    let ended_old : length c.args.connections.now ≤ c.loop-connection.connection-index = omega arith in
    let ended_now : length c.loop-connection.connections ≤ c.loop-connection.connection-index = omega arith in
    let done = all_done (IsFlown c.args.time c.args.later (rules_act c.args.act.now)) c.args.connections.now c.loop-connection.connections c.loop-connection.connection-index ended_old ended_now c.loop-connection.invariant.flown in
    record {
      next = flown_seen c.args.time c.args.later (rules_act c.args.act.now) c.args.connections.now c.loop-connection.connections done;
      sound = flown_sound c.args.time c.args.later (rules_act c.args.act.now) c.args.connections.now c.loop-connection.connections done;
      dues = c.loop-connection.invariant.dues
          ∙ ap (λ items. dues_in c.args.dues.now ++ items)
          (all_given (λ (e : Connection). dues_flown c.args.time (rules_act c.args.act.now) (connection_seen e)) c.args.connections.now c.loop-connection.connection-index ended_old
          ∙ flat_map_seen (dues_flown c.args.time (rules_act c.args.act.now)) c.args.connections.now);
    }
