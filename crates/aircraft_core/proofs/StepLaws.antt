-- What a step of the table tells: the items that are due on each link, and what the table was told.
use Rattle.std.proofs.Common.{◌≡◌, ℕ, suc, zero, ◌+◌, ◌<◌, ◌≤◌, List, [], ◌∷◌, ◌++◌, length, map, flat_map, append-nil, refl, ap, sym, ◌∙◌, subst, arith}
use Rattle.std.specs.List.{AllByRecursion, range_with_len}
use Rattle.contract_rules.specs.Acts.{Act as RulesAct}
use Rattle.contract_rules.specs.Configuration.{Configuration}
use Rattle.contract_rules.specs.Due.{Item, due_items}
use Rattle.contract_rules.specs.LiveLinks.{Noted}
use Rattle.contract_rules.specs.Verdicts.{past_of}
use Rattle.contract_table.proofs.DuesLemmas.{items_on-dues_of}
use Rattle.contract_table.proofs.TableDues.{dues_of-said, dues_of-malformed}
use Rattle.contract_table.specs.Acts.{rules_act}
use Rattle.contract_table.specs.Dues.{dues_of, items_on, on_link, rules_item}
use Rattle.contract_table.specs.Tables.{TableState, StandsFor}
use Rattle.contract_table.specs.declared.act.Act.{Act}
use Rattle.contract_table.specs.declared.act.Act.TheVariants as told
use Rattle.contract_table.specs.declared.due.Due.{Due}
use Rattle.aircraft_core.specs.Sending.{AreSendable, RisesFrom, items_in, items_of_link, most_bits_of, rules_dues}
use Rattle.aircraft_core.specs.Setting.{Setting, configuration_of}
use Rattle.aircraft_core.specs.Taking.{IsTableOf, WasTold, due_after}
use Rattle.aircraft_core.specs.Telling.{IsActOf, IsOfFlight}
use Rattle.aircraft_core.proofs.SendableLaws.{IsLinkDue, IsFlightDue, said_due, malformed_due, moved_due, ticked_due, crew_due}

-- ---- the links of dues

on_link-items : (link : ℕ) (items : List Item) → map (λ due. due.1) (on_link link items) ≡ items
on_link-items link [] = refl
on_link-items link (item ∷ items) = ap (λ rest. item ∷ rest) (on_link-items link items)

items_of_rules_dues : (dues : List Due) → items_in dues ≡ map (λ due. due.1) (rules_dues dues)
items_of_rules_dues [] = refl
items_of_rules_dues (due ∷ dues) = ap (λ rest. rules_item due.item ∷ rest) (items_of_rules_dues dues)

rising-append : (low link : ℕ) (items : List Item) (more : List (ℕ × Item)) → low ≤ link → RisesFrom link more → RisesFrom low (on_link link items ++ more)
rising-append low link [] [] above rising = tt
rising-append low link [] (due ∷ more) above rising = (omega (arith, above, rising.0), rising.1)
rising-append low link (item ∷ items) more above rising = (above, rising-append link link items more (omega arith) rising)

rising_each : (f : ℕ → List Item) (low start count : ℕ) → low ≤ start → RisesFrom low (flat_map (λ k. on_link k (f k)) (range_with_len start count))
rising_each f low start zero above = tt
rising_each f low start (suc count) above =
    rising-append low start (f start) (flat_map (λ k. on_link k (f k)) (range_with_len (start + 1) count)) above (rising_each f start (start + 1) count (omega arith))

within-append : (links link : ℕ) (items : List Item) (more : List (ℕ × Item)) → link < links → AllByRecursion (λ due. due.0 < links) more
    → AllByRecursion (λ due. due.0 < links) (on_link link items ++ more)
within-append links link [] more inside within = within
within-append links link (item ∷ items) more inside within = (inside, within-append links link items more inside within)

within_each : (f : ℕ → List Item) (links start count : ℕ) → start + count ≤ links
    → AllByRecursion (λ due. due.0 < links) (flat_map (λ k. on_link k (f k)) (range_with_len start count))
within_each f links start zero few = tt
within_each f links start (suc count) few =
    within-append links start (f start) (flat_map (λ k. on_link k (f k)) (range_with_len (start + 1) count)) (omega (arith, few))
    (within_each f links (start + 1) count (omega (arith, few)))

-- ---- one step

-- What the table's own contract says of a step.
pub record IsStep (table : TableState) (act : Act) (dues : List Due) (now_table : TableState) : Type 0 where
  pub configuration : now_table.configuration ≡ table.configuration
  pub links : now_table.links ≡ table.links
  pub due : (acts : List RulesAct) → StandsFor table acts → rules_dues dues ≡ dues_of table.configuration table.links (past_of table.configuration acts) (rules_act act)
  pub stands : (acts : List RulesAct) → StandsFor table acts → StandsFor now_table (rules_act act ∷ acts)

module _ (setting : Setting) (table : TableState) (act : Act) (dues : List Due) (now_table : TableState) (of_table : IsTableOf setting table) (step : IsStep table act dues now_table) where
  pub table_kept : IsTableOf setting now_table
  table_kept = record {
    configured = step.configuration ∙ of_table.configured;
    linked = step.links ∙ of_table.linked;
    acts = rules_act act ∷ of_table.acts;
    stands = step.stands of_table.acts of_table.stands;
  }

  pub was_told : WasTold table (rules_act act ∷ []) now_table
  was_told = record { stands = λ acts stands. step.stands acts stands }

  -- The dues, by the rules.
  dues_by_rules : (acts : List RulesAct) → StandsFor table acts
      → rules_dues dues ≡ dues_of (configuration_of setting) (length setting.addresses) (past_of (configuration_of setting) acts) (rules_act act)
  dues_by_rules acts stands =
      step.due acts stands
      ∙ (λ i. dues_of (of_table.configured i) (of_table.linked i) (past_of (of_table.configured i) acts) (rules_act act))

  -- They rise, and are on links of the aircraft.
  pub dues_rise : RisesFrom 0 (rules_dues dues)
  dues_rise =
      subst (RisesFrom 0) (sym (dues_by_rules of_table.acts of_table.stands))
      (rising_each (λ k. due_items (configuration_of setting) k (past_of (configuration_of setting) of_table.acts) (rules_act act)) 0 0 (length setting.addresses) (omega arith))

  pub dues_within : AllByRecursion (λ due. due.0 < length setting.addresses) (rules_dues dues)
  dues_within =
      subst (AllByRecursion (λ due. due.0 < length setting.addresses)) (sym (dues_by_rules of_table.acts of_table.stands))
      (within_each (λ k. due_items (configuration_of setting) k (past_of (configuration_of setting) of_table.acts) (rules_act act)) (length setting.addresses) 0 (length setting.addresses) (omega arith))

  -- What is due at one act of an entry.
  due_after_one : (acts : List RulesAct) (link : ℕ)
      → due_items (configuration_of setting) link (past_of (configuration_of setting) acts) (rules_act act) ≡ due_after setting link acts (rules_act act ∷ [])
  due_after_one acts link = sym (append-nil (due_items (configuration_of setting) link (past_of (configuration_of setting) acts) (rules_act act)))

  -- The items of one link are those that the rules make due on it.
  pub items_by_rules : (acts : List RulesAct) → StandsFor table acts → (link : ℕ) → link < length setting.addresses
      → items_of_link link dues ≡ due_after setting link acts (rules_act act ∷ [])
  items_by_rules acts stands link inside =
      ap (items_on link) (dues_by_rules acts stands)
      ∙ items_on-dues_of link (configuration_of setting) (length setting.addresses) (past_of (configuration_of setting) acts) (rules_act act) inside
      ∙ due_after_one acts link

-- ---- an act of one link

link_due : (configuration : Configuration) (link : ℕ) (past : List Noted) (act : Act) → IsActOf link act → IsLinkDue (due_items configuration link past (rules_act act))
link_due configuration link past (told.Said other message) of_link = said_due configuration link past other _
link_due configuration link past (told.Malformed other refusal) of_link = malformed_due configuration link past other _ of_link.1 of_link.2
link_due configuration link past (told.Moved before now) of_link = absurd of_link
link_due configuration link past (told.Ticked t) of_link = absurd of_link
link_due configuration link past (told.Crew on) of_link = absurd of_link

link_dues : (configuration : Configuration) (links link : ℕ) (past : List Noted) (act : Act) → link < links → IsActOf link act
    → dues_of configuration links past (rules_act act) ≡ on_link link (due_items configuration link past (rules_act act))
link_dues configuration links link past (told.Said other message) inside of_link =
    subst (λ o. dues_of configuration links past (rules_act (told.Said o message)) ≡ on_link link (due_items configuration link past (rules_act (told.Said o message)))) (sym of_link)
    (dues_of-said configuration past links link inside _)
link_dues configuration links link past (told.Malformed other refusal) inside of_link =
    subst (λ o. dues_of configuration links past (rules_act (told.Malformed o refusal)) ≡ on_link link (due_items configuration link past (rules_act (told.Malformed o refusal)))) (sym of_link.0)
    (dues_of-malformed configuration past links link inside _)
link_dues configuration links link past (told.Moved before now) inside of_link = absurd of_link
link_dues configuration links link past (told.Ticked t) inside of_link = absurd of_link
link_dues configuration links link past (told.Crew on) inside of_link = absurd of_link

module _ (setting : Setting) (table : TableState) (act : Act) (dues : List Due) (now_table : TableState) (link : ℕ)
    (of_table : IsTableOf setting table) (step : IsStep table act dues now_table) (inside : link < length setting.addresses) (of_link : IsActOf link act) where
  items_due : (acts : List RulesAct) → StandsFor table acts → items_in dues ≡ due_items (configuration_of setting) link (past_of (configuration_of setting) acts) (rules_act act)
  items_due acts stands =
      items_of_rules_dues dues
      ∙ ap (map (λ due. due.1)) (dues_by_rules setting table act dues now_table of_table step acts stands
      ∙ link_dues (configuration_of setting) (length setting.addresses) link (past_of (configuration_of setting) acts) act inside of_link)
      ∙ on_link-items link (due_items (configuration_of setting) link (past_of (configuration_of setting) acts) (rules_act act))

  -- All its dues are its link's.
  pub link_items : (acts : List RulesAct) → StandsFor table acts → items_in dues ≡ due_after setting link acts (rules_act act ∷ [])
  link_items acts stands = items_due acts stands ∙ due_after_one setting table act dues now_table of_table step acts link

  due_here : IsLinkDue (items_in dues)
  due_here =
      subst IsLinkDue (sym (items_due of_table.acts of_table.stands))
      (link_due (configuration_of setting) link (past_of (configuration_of setting) of_table.acts) act of_link)

  -- They can be sent, and there is room for them behind others.
  pub link_sendable : AreSendable (items_in dues)
  link_sendable = due_here.sendable

  pub link_small : most_bits_of (items_in dues) ≤ 496
  link_small = due_here.small

-- ---- an act of the flight

flight_due : (configuration : Configuration) (link : ℕ) (past : List Noted) (act : Act) → IsOfFlight act → IsFlightDue (due_items configuration link past (rules_act act))
flight_due configuration link past (told.Said other message) of_flight = absurd of_flight
flight_due configuration link past (told.Malformed other refusal) of_flight = absurd of_flight
flight_due configuration link past (told.Moved before now) of_flight = moved_due configuration link past _ _
flight_due configuration link past (told.Ticked t) of_flight = ticked_due configuration link past t
flight_due configuration link past (told.Crew on) of_flight = crew_due configuration link past on

module _ (setting : Setting) (table : TableState) (act : Act) (dues : List Due) (now_table : TableState)
    (of_table : IsTableOf setting table) (step : IsStep table act dues now_table) (of_flight : IsOfFlight act) (link : ℕ) (inside : link < length setting.addresses) where
  due_there : IsFlightDue (items_of_link link dues)
  due_there =
      subst IsFlightDue
      (sym (items_by_rules setting table act dues now_table of_table step of_table.acts of_table.stands link inside
      ∙ sym (due_after_one setting table act dues now_table of_table step of_table.acts link)))
      (flight_due (configuration_of setting) link (past_of (configuration_of setting) of_table.acts) act of_flight)

  pub flight_sendable : AreSendable (items_of_link link dues)
  flight_sendable = due_there.sendable

  pub flight_small : most_bits_of (items_of_link link dues) ≤ 2040
  flight_small = omega (arith, due_there.small)
