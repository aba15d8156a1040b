-- What is due at one act on all links, by what the table holds.
use Rattle.std.proofs.Common.{◌≡◌, ◌≢◌, ℕ, suc, zero, ◌+◌, ◌<◌, ◌≤◌, Bool, true, false, cond, ◌||◌, ◌==◌, nat_eq, eqb, List, [], ◌∷◌, ◌++◌, map, flat_map, Option, Some, None, option_map, refl, ap, sym, ◌∙◌, arith, eq-eqb}
use Rattle.std.specs.List.{AllByRecursion, list_any, range_with_len}
use Rattle.std.proofs.lemmas.List.{append-nil}
use Rattle.std.proofs.lemmas.Bool.{eqb-true, eqb-false, ne_eqb, ltb-true}
use Rattle.contract_rules.specs.Configuration.{Configuration}
use Rattle.contract_rules.specs.Messages.{Message}
use Rattle.contract_rules.specs.Acts.{Act, Said, Malformed, Moved, Ticked, Crew, Fault, Sample}
use Rattle.contract_rules.specs.LiveLinks.{Unheard, Unreadable, Noted, live_links, is_live, admits, time_after, heard_on, session_at}
use Rattle.contract_rules.specs.Emergency.{is_crew_emergency, is_in_emergency_mode, anchor_time, emergency_report_number}
use Rattle.contract_rules.specs.Verdicts.{verdict_in, noted_over}
use Rattle.contract_rules.specs.Due.{due_items, due_of_message, due_of_fault, due_at}
use Rattle.contract_rules.specs.Laws.{is_of_links}
use Rattle.contract_rules.proofs.Steps.{live_on_heard}
use Rattle.contract_rules.proofs.AtMostFive.{KeepsPlaces, absent_from}
use Rattle.contract_table.specs.ConnectionDues.{due_of_flown, dues_flown}
use Rattle.contract_table.specs.Dues.{on_link, dues_of}
use Rattle.contract_table.specs.Messages.{found_by, due_by}
use Rattle.contract_table.specs.NextTable.{table_dues, due_of_malformed}
use Rattle.contract_table.specs.Places.{IsRising, connection_on}
use Rattle.contract_table.specs.Tables.{rising, connections_after, table_after}
use Rattle.contract_table.proofs.FoundLinks.{verdict_found, mode_found}
use Rattle.contract_table.proofs.LinkDues.{ticked_due, crewed_due, moved_due, nothing_ticked, nothing_crewed, nothing_moved}
use Rattle.contract_table.proofs.MapLemmas.{all_among, all_where}
use Rattle.contract_table.proofs.Rising.{among_rising, all_rising, rising_order}
use Rattle.contract_table.proofs.TableSteps.{on, session, has_session, in_session, found_on, in_found, found_is}

-- ---- over all links

-- Where no other link has any, those of one link are all.
pub only_one : {X : Type 0} (f : ℕ → List X) (this start count : ℕ) → ((k : ℕ) → k ≢ this → f k ≡ []) → start ≤ this → this < start + count
    → flat_map f (range_with_len start count) ≡ f this
only_one f this start zero others from below = absurd (omega arith)
only_one f this start (suc count) others from below = by (start == this) refl (λ rest under. only_one f this (start + 1) count others rest under)
  where
    none_later : (from count : ℕ) → this < from → flat_map f (range_with_len from count) ≡ []
    none_later from zero above = refl
    none_later from (suc count) above =
        (λ i. others from (λ same. omega (arith, above, same)) i ++ none_later (from + 1) count (omega (arith, above)) i)

    by : (b : Bool) → (start == this) ≡ b → (start + 1 ≤ this → this < start + 1 + count → flat_map f (range_with_len (start + 1) count) ≡ f this)
        → f start ++ flat_map f (range_with_len (start + 1) count) ≡ f this
    by true e rest =
        (λ i. f (eqb-true start this e i) ++ none_later (start + 1) count (omega (arith, eqb-true start this e)) i) ∙ append-nil (f this)
    by false e rest =
        ap (λ xs. xs ++ flat_map f (range_with_len (start + 1) count)) (others start (eqb-false start this e))
        ∙ rest (omega (arith, from, eqb-false start this e)) (omega (arith, below))

-- Those of some rising links are all, where no other link has any.
pub only_these : {X : Type 0} (f : ℕ → List X) (start count : ℕ) (links : List ℕ) → IsRising links
    → AllByRecursion (λ k. start ≤ k) links → AllByRecursion (λ k. k < start + count) links
    → ((k : ℕ) → start ≤ k → list_any (nat_eq k) links ≡ false → f k ≡ [])
    → flat_map f (range_with_len start count) ≡ flat_map f links
only_these f start zero [] order from below others = refl
only_these f start zero (link ∷ links) order from below others = absurd (omega (arith, from.0, below.0))
only_these f start (suc count) [] order from below others =
    (λ i. others start (omega arith) refl i ++ only_these f (start + 1) count [] tt tt tt (λ k above none. others k (omega (arith, above)) none) i)
only_these f start (suc count) (link ∷ links) order from below others =
    by (start == link) refl
    (λ is. only_these f (start + 1) count links order.1 (later is) (nearer links below.1) (λ k above none. others k (omega (arith, above)) (apart is k above none)))
    (λ is. only_these f (start + 1) count (link ∷ links) order (first is, higher is) (nearer (link ∷ links) below) (λ k above none. others k (omega (arith, above)) none))
  where
    nearer : (rest : List ℕ) → AllByRecursion (λ k. k < start + suc count) rest → AllByRecursion (λ k. k < start + 1 + count) rest
    nearer rest all = all_where (λ k. k < start + suc count) (λ k. k < start + 1 + count) rest (λ k less. omega (arith, less)) all

    later : start ≡ link → AllByRecursion (λ k. start + 1 ≤ k) links
    later is = all_where (λ k. link < k) (λ k. start + 1 ≤ k) links (λ k more. omega (arith, more, is)) order.0

    apart : start ≡ link → (k : ℕ) → start + 1 ≤ k → list_any (nat_eq k) links ≡ false → list_any (nat_eq k) (link ∷ links) ≡ false
    apart is k above none = ap (λ b. b || list_any (nat_eq k) links) (ne_eqb k link (λ same. omega (arith, above, is, same))) ∙ none

    first : start ≢ link → start + 1 ≤ link
    first is = omega (arith, from.0, is)

    higher : start ≢ link → AllByRecursion (λ k. start + 1 ≤ k) links
    higher is = all_where (λ k. link < k) (λ k. start + 1 ≤ k) links (λ k more. omega (arith, more, from.0)) order.0

    absent : start ≢ link → list_any (nat_eq start) (link ∷ links) ≡ false
    absent is =
        ap (λ b. b || list_any (nat_eq start) links) (ne_eqb start link is)
        ∙ absent_from start links (all_where (λ k. link < k) (λ k. eqb start k ≡ false) links (λ k more. ne_eqb start k (λ same. omega (arith, more, from.0, same))) order.0)

    by : (b : Bool) → (start == link) ≡ b
        → (start ≡ link → flat_map f (range_with_len (start + 1) count) ≡ flat_map f links)
        → (start ≢ link → flat_map f (range_with_len (start + 1) count) ≡ flat_map f (link ∷ links))
        → f start ++ flat_map f (range_with_len (start + 1) count) ≡ f link ++ flat_map f links
    by true e here past = λ i. f (eqb-true start link e i) ++ here (eqb-true start link e) i
    by false e here past =
        ap (λ xs. xs ++ flat_map f (range_with_len (start + 1) count)) (others start (omega arith) (absent (eqb-false start link e)))
        ∙ past (eqb-false start link e)

-- ---- an act of the flight

module _ (configuration : Configuration) (past : List Noted) where
  -- The same items in the terms of the table: on a live link, and on one that is not.
  abbrev IsDueLive : Act → Type 0
  IsDueLive act = (link : ℕ) → is_live link past ≡ true → due_items configuration link past act ≡ due_of_flown (time_after past) act (on configuration past link)

  abbrev IsDueDead : Act → Type 0
  IsDueDead act = (link : ℕ) → is_live link past ≡ false → due_items configuration link past act ≡ []

  moved_live : (before now : Sample) → IsDueLive (Moved before now)
  moved_live before now link live =
      moved_due configuration.profile link (time_after past) (heard_on link past) (session configuration past link) (has_session configuration past link live) before now
      ∙ ap (λ s. due_of_flown (time_after past) (Moved before now) (in_session configuration past link s)) (sym (has_session configuration past link live))

  ticked_live : (tick : ℕ) → IsDueLive (Ticked tick)
  ticked_live tick link live =
      ticked_due configuration.profile link (time_after past) (heard_on link past) (session configuration past link) (has_session configuration past link live) tick
      ∙ ap (λ s. due_of_flown (time_after past) (Ticked tick) (in_session configuration past link s)) (sym (has_session configuration past link live))

  crewed_live : (switch : Bool) → IsDueLive (Crew switch)
  crewed_live switch link live =
      crewed_due configuration.profile link (time_after past) (heard_on link past) (session configuration past link) (has_session configuration past link live) switch
      ∙ ap (λ s. due_of_flown (time_after past) (Crew switch) (in_session configuration past link s)) (sym (has_session configuration past link live))

  moved_dead : (before now : Sample) → IsDueDead (Moved before now)
  moved_dead before now link dead = nothing_moved configuration.profile link (time_after past) (heard_on link past) (live_on_heard link past ∙ dead) before now

  ticked_dead : (tick : ℕ) → IsDueDead (Ticked tick)
  ticked_dead tick link dead = nothing_ticked configuration.profile link (time_after past) (heard_on link past) (live_on_heard link past ∙ dead) tick

  crewed_dead : (switch : Bool) → IsDueDead (Crew switch)
  crewed_dead switch link dead = nothing_crewed configuration.profile link (time_after past) (heard_on link past) (live_on_heard link past ∙ dead) switch

  -- Only live links have any.
  flight_dues : (links : ℕ) (act : Act) → IsRising (rising (live_links past)) → AllByRecursion (λ k. k < links) (rising (live_links past)) → IsDueLive act → IsDueDead act
      → dues_of configuration links past act ≡ flat_map (dues_flown (time_after past) act) (connections_after configuration past)
  flight_dues links act order below on_live on_dead =
      only_these (λ link. on_link link (due_items configuration link past act)) 0 links (rising (live_links past)) order (from_0 (rising (live_links past)))
      (all_where (λ k. k < links) (λ k. k < 0 + links) (rising (live_links past)) (λ k less. omega (arith, less)) below)
      (λ k above none. ap (on_link k) (on_dead k (sym (among_rising k (live_links past)) ∙ none)))
      ∙ same (rising (live_links past)) (all_rising (λ k. is_live k past ≡ true) (live_links past) (all_among (live_links past)))
    where
      from_0 : (rest : List ℕ) → AllByRecursion (λ k. 0 ≤ k) rest
      from_0 [] = tt
      from_0 (k ∷ rest) = (omega arith, from_0 rest)

      same : (rest : List ℕ) → AllByRecursion (λ k. is_live k past ≡ true) rest
          → flat_map (λ link. on_link link (due_items configuration link past act)) rest ≡ flat_map (dues_flown (time_after past) act) (map (on configuration past) rest)
      same [] all = refl
      same (k ∷ rest) all = λ i. on_link k (on_live k all.0 i) ++ same rest all.1 i

-- ---- an act of one link

module _ (configuration : Configuration) (past : List Noted) (links link : ℕ) (inside : link < links) where
  -- Only its own link has any.
  own_dues : (act : Act) → ((k : ℕ) → k ≢ link → due_items configuration k past act ≡ [])
      → dues_of configuration links past act ≡ on_link link (due_items configuration link past act)
  own_dues act others =
      only_one (λ k. on_link k (due_items configuration k past act)) link 0 links (λ k apart. ap (on_link k) (others k apart)) (omega arith) (omega (arith, inside))

  pub dues_of-said : (message : Message) → dues_of configuration links past (Said link message) ≡ on_link link (due_items configuration link past (Said link message))
  dues_of-said message =
      own_dues (Said link message)
      (λ k apart. ap (λ b. cond b (due_at configuration.profile k (noted_over configuration past (Said link message)) (heard_on k past)) []) (ne_eqb k link apart))

  pub dues_of-malformed : (fault : Fault) → dues_of configuration links past (Malformed link fault) ≡ on_link link (due_items configuration link past (Malformed link fault))
  dues_of-malformed fault =
      own_dues (Malformed link fault)
      (λ k apart. ap (λ b. cond b (due_at configuration.profile k (noted_over configuration past (Malformed link fault)) (heard_on k past)) []) (ne_eqb k link apart))

  -- A malformed payload.
  malformed_dues : (fault : Fault) → dues_of configuration links past (Malformed link fault) ≡ due_of_malformed link fault (connection_on link (connections_after configuration past))
  malformed_dues fault =
      dues_of-malformed fault
      ∙ ap (λ b. on_link link (cond b (due_of_fault (cond (is_live link past) Unreadable Unheard) fault) [])) (eq-eqb link link refl)
      ∙ by (is_live link past)
      ∙ ap (due_of_malformed link fault) (sym (found_on configuration past link))
    where
      by : (l : Bool) → on_link link (due_of_fault (cond l Unreadable Unheard) fault) ≡ due_of_malformed link fault (cond l (Some (on configuration past link)) None)
      by true = refl
      by false = refl

  -- A message.
  said_dues : (places : KeepsPlaces configuration.kept (live_links past)) (message : Message)
      → dues_of configuration links past (Said link message) ≡ due_by message (found_by configuration.kept (is_crew_emergency past) (time_after past) link message (connections_after configuration past))
  said_dues places message =
      dues_of-said message
      ∙ ap (λ b. on_link link (cond b (due_at configuration.profile link (noted_over configuration past (Said link message)) (heard_on link past)) [])) (eq-eqb link link refl)
      ∙ by (session_at (admits configuration past (Said link message)) link (heard_on link past)) refl
      ∙ ap (due_by message) (sym (found_is configuration past places link message))
    where
      by : (s : Option (List Noted)) → session_at (admits configuration past (Said link message)) link (heard_on link past) ≡ s
          → on_link link (due_of_message (verdict_in (session_at (admits configuration past (Said link message)) link (heard_on link past)) (heard_on link past) message)
          (is_in_emergency_mode (session_at (admits configuration past (Said link message)) link (heard_on link past)) (heard_on link past)) message)
          ≡ due_by message (option_map (in_found configuration past places link message) s)
      by None finds = λ i. on_link link (due_of_message (verdict_in (finds i) (heard_on link past) message) (is_in_emergency_mode (finds i) (heard_on link past)) message)
      by (Some session) finds =
          (λ i. on_link link (due_of_message (verdict_in (finds i) (heard_on link past) message) (is_in_emergency_mode (finds i) (heard_on link past)) message))
          ∙ sym (λ i. on_link link (due_of_message
          (verdict_found configuration.profile link (heard_on link past) session (since session) (reports session) message i)
          (mode_found configuration.profile link (heard_on link past) session (since session) (reports session) i) message))
        where
          since : List Noted → ℕ
          since session = cond (admits configuration past (Said link message)) (time_after past) (anchor_time link (heard_on link past))

          reports : List Noted → ℕ
          reports session = cond (admits configuration past (Said link message)) 0 (emergency_report_number link (heard_on link past))

-- ---- every act

-- The items due at an act by what the table holds are those that the rules make due on each link, where no other link is live.
pub dues_step : (configuration : Configuration) (links : ℕ) (past : List Noted) (act : Act) → KeepsPlaces configuration.kept (live_links past)
    → AllByRecursion (λ k. k < links) (rising (live_links past)) → is_of_links links act ≡ true
    → table_dues act (table_after configuration links past) ≡ dues_of configuration links past act
dues_step configuration links past (Said link message) places below of_links =
    sym (said_dues configuration past links link (ltb-true link links of_links) places message)
dues_step configuration links past (Malformed link fault) places below of_links =
    sym (malformed_dues configuration past links link (ltb-true link links of_links) fault)
dues_step configuration links past (Moved before now) places below of_links =
    sym (flight_dues configuration past links (Moved before now) (rising_order (live_links past) places.distinct) below (moved_live configuration past before now) (moved_dead configuration past before now))
dues_step configuration links past (Ticked tick) places below of_links =
    sym (flight_dues configuration past links (Ticked tick) (rising_order (live_links past) places.distinct) below (ticked_live configuration past tick) (ticked_dead configuration past tick))
dues_step configuration links past (Crew switch) places below of_links =
    sym (flight_dues configuration past links (Crew switch) (rising_order (live_links past) places.distinct) below (crewed_live configuration past switch) (crewed_dead configuration past switch))
