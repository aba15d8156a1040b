use Rattle.std.proofs.Common.{◌≡◌, map, nat_lt, sym, subst, Option, ℕ}
use Rattle.contract_rules.specs.LiveLinks.{has_room}
use Rattle.contract_table.specs.Places.{link_of}
use Rattle.contract_table.specs.Seen.{connection_seen}
use Rattle.contract_table.proofs.HearingLemmas.{room_beside}
use Rattle.contract_table.proofs.connections.has_room.Goals as goal

pub returns-else-link-kept : goal.returns-else-link-kept
returns-else-link-kept c =
    subst (λ (reserved : Option ℕ). nat_lt c.others_than.result 4 ≡ has_room reserved c.args.link (map link_of (map connection_seen c.args.connections.now))) (sym c.in-Some.is)
    (room_beside c.in-Some.kept c.args.link c.others_than.result c.args.connections.now c.if-link-kept.false c.others_than.ensures)
