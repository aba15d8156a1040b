use Rattle.std.proofs.Common.{◌∙◌, ap, is_some, map, subst, sym, List}
use Rattle.contract_table.specs.Places.{IsRising, connection_on, link_of}
use Rattle.contract_table.specs.Seen.{connection_seen, table_seen}
use Rattle.contract_table.specs.Tables.{TableState}
use Rattle.contract_table.specs.declared.connection.Connection.{Connection}
use Rattle.contract_table.proofs.Histories.{live_told, ordered}
use Rattle.contract_table.proofs.table.Table.is_live.Goals as goal

pub is_live-requires : goal.is_live-requires
is_live-requires c =
    subst (λ (cs : List Connection). IsRising (map link_of (map connection_seen cs))) (sym c.as_slice.ensures.value)
    (ordered (table_seen c.self.inside.links c.self.inside.configuration c.self.inside.time c.self.inside.crew c.self.inside.connections.items) c.self.invariant.history).rising

pub returns : goal.returns
returns c = λ acts stands.
    c.is_live.ensures
    ∙ ap (λ (cs : List Connection). is_some (connection_on c.args.link (map connection_seen cs))) c.as_slice.ensures.value
    ∙ ap (λ (t : TableState). is_some (connection_on c.args.link t.connections)) c.self.view_is
    ∙ live_told c.args.self.now acts stands c.args.link
