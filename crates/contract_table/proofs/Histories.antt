-- What follows from the history of a table: the order of its live links, and the history after one act more.
use Rattle.std.proofs.Common.{◌≡◌, ℕ, ◌<◌, Bool, true, false, cond, ◌&&◌, nat_eq, List, [], ◌∷◌, map, length, Some, None, is_some, refl, ap, sym, ◌∙◌, subst, arith}
use Rattle.std.specs.List.{AllByRecursion, list_all, list_any}
use Rattle.std.proofs.lemmas.List.{length-map}
use Rattle.std.proofs.lemmas.Bool.{lt-ltb}
use Rattle.contract_rules.specs.Configuration.{Configuration}
use Rattle.contract_rules.specs.Acts.{Act, later_of}
use Rattle.contract_rules.specs.Laws.{is_of_links}
use Rattle.contract_rules.specs.LiveLinks.{has_room, is_live, live_links}
use Rattle.contract_rules.specs.Verdicts.{past_of}
use Rattle.contract_rules.proofs.AtMostFive.{KeepsPlaces, keeps_places, places_admitted}
use Rattle.contract_rules.proofs.LiveCounts.{live_below}
use Rattle.contract_table.specs.Acts.{IsTaken, rules_act}
use Rattle.contract_table.specs.Connections.{Connection}
use Rattle.contract_table.specs.Dues.{dues_of}
use Rattle.contract_table.specs.NextTable.{connections_next, crew_after, next_table, table_dues}
use Rattle.contract_table.specs.Ordered.{IsOrdered}
use Rattle.contract_table.specs.Places.{HasPlace, IsRising, connection_on, link_of}
use Rattle.contract_table.specs.Seen.{configuration_seen, connection_seen, table_seen}
use Rattle.contract_table.specs.Sound.{HasHistory}
use Rattle.contract_table.specs.Tables.{TableState, StandsFor, rising, connections_after}
use Rattle.contract_table.specs.declared.act.Act.{Act as ActTold}
use Rattle.contract_table.specs.declared.act.Act.TheVariants as told
use Rattle.contract_table.specs.declared.configuration.Configuration.{Configuration as ConfigurationKept}
use Rattle.contract_table.specs.declared.connection.Connection.{Connection as ConnectionKept}
use Rattle.contract_table.proofs.Rising.{all_rising, length_rising, rising_order}
use Rattle.contract_table.proofs.MapLemmas.{all_among, all_where, numbers_of}
use Rattle.contract_table.proofs.TableSteps.{found_on, on, room_rising, stands_step}
use Rattle.contract_table.proofs.TableDues.{dues_step}

-- ---- the order of the live links

module _ (configuration : Configuration) (acts : List Act) where
  abbrev live : List ℕ
  live = live_links (past_of configuration acts)

  abbrev held : List Connection
  held = connections_after configuration (past_of configuration acts)

  places : KeepsPlaces configuration.kept live
  places = keeps_places configuration acts

  pub links_held : map link_of held ≡ rising live
  links_held = numbers_of link_of (on configuration (past_of configuration acts)) (λ link. refl) (rising live)

  pub count_held : length held ≡ length live
  count_held = length-map (rising live) (on configuration (past_of configuration acts)) ∙ length_rising live

  place_held : (link : ℕ) → HasPlace configuration.kept link held
  place_held link none room =
      let more : KeepsPlaces configuration.kept (link ∷ live)
      = places_admitted configuration.kept link live places (absent (is_live link (past_of configuration acts)) (sym (found_on configuration (past_of configuration acts) link) ∙ none))
      (sym (room_rising configuration.kept link live) ∙ ap (has_room configuration.kept link) (sym links_held) ∙ room) in
      omega (arith, more.few, count_held)
    where
      absent : (l : Bool) → cond l (Some (on configuration (past_of configuration acts) link)) None ≡ None → l ≡ false
      absent true is = absurd (let h : Some (on configuration (past_of configuration acts) link) ≡ None = is in cc)
      absent false is = refl

  pub ordered_held : IsOrdered configuration.kept held
  ordered_held =
      record {
        rising = subst IsRising (sym links_held) (rising_order live places.distinct);
        few = omega (arith, places.few, count_held);
        places = place_held;
      }

  -- The live links are below the number of links, where each act is of one of these.
  pub below_held : (links : ℕ) → list_all (is_of_links links) acts ≡ true → AllByRecursion (λ link. link < links) (rising live)
  below_held links of_links =
      all_rising (λ link. link < links) live
      (all_where (λ link. list_any (nat_eq link) live ≡ true) (λ link. link < links) live (live_below links configuration acts of_links) (all_among live))

-- An act that a table takes is of one of its links.
pub taken_of_links : (links : ℕ) (act : ActTold) → IsTaken links act → is_of_links links (rules_act act) ≡ true
taken_of_links links (told.Said link message) taken = lt-ltb link links taken
taken_of_links links (told.Malformed link refusal) taken = lt-ltb link links taken
taken_of_links links (told.Moved before now) taken = refl
taken_of_links links (told.Ticked t) taken = refl
taken_of_links links (told.Crew on) taken = refl

all_of_links : (links : ℕ) (told : List ActTold) → AllByRecursion (IsTaken links) told → list_all (is_of_links links) (map rules_act told) ≡ true
all_of_links links [] taken = refl
all_of_links links (act ∷ told) taken =
    λ i. taken_of_links links act taken.0 i && all_of_links links told taken.1 i

module _ (table : TableState) (history : HasHistory table) where
  abbrev acts : List Act
  acts = map rules_act history.told

  pub ordered : IsOrdered table.configuration.kept table.connections
  ordered = subst (IsOrdered table.configuration.kept) (sym (ap (λ (t : TableState). t.connections) history.stands)) (ordered_held table.configuration acts)

  -- The live links are below the number of links, by whatever acts the table stands for.
  below : (others : List Act) → StandsFor table others → AllByRecursion (λ link. link < table.links) (rising (live_links (past_of table.configuration others)))
  below others stands =
      subst (AllByRecursion (λ link. link < table.links))
      (sym (links_held table.configuration acts)
      ∙ ap (λ (t : TableState). map link_of t.connections) (sym history.stands ∙ stands)
      ∙ links_held table.configuration others)
      (below_held table.configuration acts table.links (all_of_links table.links history.told history.taken))

  -- The items due at an act by what the table holds are those that the rules make due, for whatever acts it stands for.
  pub dues_told : (act : ActTold) → IsTaken table.links act → (others : List Act) → StandsFor table others
      → table_dues (rules_act act) table ≡ dues_of table.configuration table.links (past_of table.configuration others) (rules_act act)
  dues_told act taken others stands =
      ap (table_dues (rules_act act)) stands
      ∙ dues_step table.configuration table.links (past_of table.configuration others) (rules_act act) (keeps_places table.configuration others) (below others stands)
      (taken_of_links table.links act taken)

  -- One act more is told.
  pub history_told : (act : ActTold) → IsTaken table.links act → HasHistory (next_table (rules_act act) table)
  history_told act taken =
      record {
        told = act ∷ history.told;
        taken = (taken, history.taken);
        stands = stands_step table acts (rules_act act) history.stands;
      }

-- The link is live where it is among the live links of the table.
pub live_told : (table : TableState) (acts : List Act) → StandsFor table acts → (link : ℕ)
    → is_some (connection_on link table.connections) ≡ is_live link (past_of table.configuration acts)
live_told table acts stands link =
    ap (λ (t : TableState). is_some (connection_on link t.connections)) stands
    ∙ ap is_some (found_on table.configuration (past_of table.configuration acts) link)
    ∙ by (is_live link (past_of table.configuration acts))
  where
    by : (live : Bool) → is_some (cond live (Some (on table.configuration (past_of table.configuration acts) link)) None) ≡ live
    by true = refl
    by false = refl

-- ---- the table as it is kept

module _ (links : ℕ) (configuration : ConfigurationKept) (time later : ℕ) (crew switch : Bool) (kept after : List ConnectionKept) (act : Act) where
  -- Its parts after an act are those of the table after the act.
  pub next_seen : later ≡ later_of time act → switch ≡ crew_after crew act
      → map connection_seen after ≡ connections_next act (table_seen links configuration time crew kept)
      → next_table act (table_seen links configuration time crew kept) ≡ table_seen links configuration later switch after
  next_seen moment crew_is connections =
      λ i. record {
        configuration = configuration_seen configuration;
        links = links;
        time = sym moment i;
        crew = sym crew_is i;
        connections = sym connections i;
      }
