use Rattle.std.proofs.Common.{◌≡◌, ◌∙◌, List, ◌∷◌, ◌++◌, ap, rules, subst, sym}
use Rattle.contract_rules.specs.Acts.{Act}
use Rattle.contract_rules.specs.Verdicts.{past_of}
use Rattle.contract_table.specs.Acts.{IsTaken, rules_act}
use Rattle.contract_table.specs.Dues.{dues_in, dues_of}
use Rattle.contract_table.specs.NextTable.{table_dues}
use Rattle.contract_table.specs.Seen.{table_seen}
use Rattle.contract_table.specs.Sound.{HasHistory}
use Rattle.contract_table.specs.Tables.{StandsFor, TableState}
use Rattle.contract_table.proofs.TableSteps.{stands_step}
use Rattle.contract_table.proofs.Histories.{dues_told, history_told, next_seen, ordered}
use Rattle.contract_table.proofs.table.Table.step.Goals as goal

pub take-requires-clause-ordered : goal.take-requires-clause-ordered
take-requires-clause-ordered c =
    ordered (table_seen c.self.inside.links c.self.inside.configuration c.self.inside.time c.self.inside.crew c.self.inside.connections.items) c.self.invariant.history

pub invariant_of-self : goal.invariant_of-self
invariant_of-self c =
    let before = table_seen c.self.inside.links c.self.inside.configuration c.self.inside.time c.self.inside.crew c.self.inside.connections.items in
    record {
      moment = search rules;
      each = c.take.ensures.sound;
      history = subst HasHistory
          (next_seen c.self.inside.links c.self.inside.configuration c.self.inside.time c.later_of-later.result c.self.inside.crew c.crew_after-self-inside.result
          c.self.inside.connections.items c.take.new.connections.items (rules_act c.args.act.now)
          c.later_of-later.ensures c.crew_after-self-inside.ensures (c.take.ensures.next c.self.inside.links))
          (history_told before c.self.invariant.history c.args.act.now
          (subst (λ (t : TableState). IsTaken t.links c.args.act.now) (sym c.self.view_is) c.requires));
    }

pub returns-clause-due : goal.returns-clause-due
returns-clause-due c =
    let before = table_seen c.self.inside.links c.self.inside.configuration c.self.inside.time c.self.inside.crew c.self.inside.connections.items in
    subst (λ (t : TableState). IsTaken t.links c.args.act.now → (acts : List Act) → StandsFor t acts
    → dues_in c.take.new.dues ≡ dues_of t.configuration t.links (past_of t.configuration acts) (rules_act c.args.act.now)) c.self.view_is
    (λ taken acts stands. c.take.ensures.dues c.self.inside.links
    ∙ ap (λ items. items ++ table_dues (rules_act c.args.act.now) before) c.none-dues.ensures.items
    ∙ dues_told before c.self.invariant.history c.args.act.now taken acts stands)
    c.requires

pub returns-clause-stands : goal.returns-clause-stands
returns-clause-stands c =
    let before = table_seen c.self.inside.links c.self.inside.configuration c.self.inside.time c.self.inside.crew c.self.inside.connections.items in
    subst (λ (t : TableState). (acts : List Act) → StandsFor t acts
    → StandsFor (table_seen c.self.inside.links c.self.inside.configuration c.later_of-later.result c.crew_after-self-inside.result c.take.new.connections.items) (rules_act c.args.act.now ∷ acts)) c.self.view_is
    (λ acts stands. subst (λ (t : TableState). StandsFor t (rules_act c.args.act.now ∷ acts))
    (next_seen c.self.inside.links c.self.inside.configuration c.self.inside.time c.later_of-later.result c.self.inside.crew c.crew_after-self-inside.result
    c.self.inside.connections.items c.take.new.connections.items (rules_act c.args.act.now)
    c.later_of-later.ensures c.crew_after-self-inside.ensures (c.take.ensures.next c.self.inside.links))
    (stands_step before acts (rules_act c.args.act.now) stands))
