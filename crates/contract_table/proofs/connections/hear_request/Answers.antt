use Rattle.std.proofs.Common.{◌∙◌, ◌++◌, All, ap, arith, map, subst, sym}
use Rattle.due_event.specs.RuleTerms.{rules_profile}
use Rattle.contract_table.specs.Acts.{rules_message}
use Rattle.contract_table.specs.Dues.{dues_in}
use Rattle.contract_table.specs.Messages.{due_by, heard_by}
use Rattle.contract_table.specs.Seen.{connection_seen}
use Rattle.contract_table.specs.Sound.{IsSound}
use Rattle.contract_table.proofs.PlaceOnLink.{admitted_by_room, all_inserted, heard_admitted, place_left}
use Rattle.contract_table.proofs.connections.hear_request.Goals as goal

pub insert-requires : goal.insert-requires
insert-requires c = (
  omega arith,
  (
    c.requires.place.at.within,
    place_left c.args.configuration.now.reserved c.args.link c.args.place c.as_slice.result.now c.args.connections.now.items
        c.as_slice.ensures.value c.requires.rising c.requires.place c.requires.room c.if-has_room.ensures,
  ),
)

pub returns-then-has_room : goal.returns-then-has_room
returns-then-has_room c =
    let found = admitted_by_room c.args.configuration.now.reserved c.args.crew c.args.time c.args.link c.as_slice.result.now c.args.connections.now.items
    c.as_slice.ensures.value c.if-has_room.ensures in
    record {
      next = heard_admitted (rules_profile c.args.configuration.now.profile) c.args.link c.args.place c.args.time c.args.crew (rules_message c.args.request.now)
          c.args.connections.now.items c.admit-connection.result c.insert.new.self.items
          c.requires.rising c.requires.place c.requires.asked c.admit-connection.ensures.next c.admit-connection.ensures.link c.insert.ensures.items
          ∙ ap (heard_by (rules_profile c.args.configuration.now.profile) c.args.time (rules_message c.args.request.now) (map connection_seen c.args.connections.now.items)) found;
      sound = subst (All (IsSound c.args.time)) (sym c.insert.ensures.items)
          (all_inserted (IsSound c.args.time) c.args.connections.now.items c.args.place c.admit-connection.result c.admit-connection.ensures.sound c.requires.sound);
      due = c.admit-connection.ensures.dues
          ∙ ap (λ found. dues_in c.args.dues.now ++ due_by (rules_message c.args.request.now) found) found;
    }
