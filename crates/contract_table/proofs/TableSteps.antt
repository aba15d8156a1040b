-- One act more on a whole table: the table after it is the table after the past with it.
use Rattle.std.proofs.Common.{◌≡◌, ◌≢◌, ℕ, Bool, true, false, cond, not, ◌&&◌, ◌||◌, ◌==◌, nat_lt, List, [], ◌∷◌, map, filter, Option, Some, None, option_map, is_some, refl, ap, sym, ◌∙◌, subst, eq-eqb}
use Rattle.std.specs.Option.{option_or}
use Rattle.std.proofs.Math.Bool.{and-false, and-true}
use Rattle.std.proofs.lemmas.Bool.{eqb-true, eqb-false, ne_eqb, and_parts}
use Rattle.contract_rules.specs.Configuration.{Configuration}
use Rattle.contract_rules.specs.Messages.{Message, CancelAll, Cancel, CancelEmergency, PeriodicRequest, EventRequest, EmergencyRequest, is_request}
use Rattle.contract_rules.specs.Acts.{Act, Said, Malformed, Moved, Ticked, Crew, Sample, is_cancel_all}
use Rattle.contract_rules.specs.LookingBack.{from_last}
use Rattle.contract_rules.specs.LiveLinks.{Verdict, OfFlight, Unheard, Unreadable, Accepted, Ended, Refused, Repeated, Noted, live_links, is_live, has_room, without, links_after, admits, admits_link, time_after, heard_on, session_of, session_at}
use Rattle.contract_rules.specs.InForce.{requests_in_force}
use Rattle.contract_rules.specs.Emergency.{is_crew_emergency, is_in_emergency_mode, anchor_time, emergency_report_number}
use Rattle.contract_rules.specs.Verdicts.{verdict_on, verdict_in, noted_over, past_of}
use Rattle.contract_rules.proofs.Steps.{live_on_heard}
use Rattle.contract_rules.proofs.AtMostFive.{KeepsPlaces, keeps_places}
use Rattle.contract_rules.proofs.Unchanged.{unheard_message, malformed_changes_nothing}
use Rattle.contract_table.specs.Connections.{Connection, requests_of, connection_in, connection_of}
use Rattle.contract_table.specs.Messages.{found_by, verdict_by, heard_by}
use Rattle.contract_table.specs.Messages.{links_after as links_heard}
use Rattle.contract_table.specs.NextConnection.{admitted, accepted, flown}
use Rattle.contract_table.specs.NextTable.{connections_next, next_table, crew_after}
use Rattle.contract_table.specs.Places.{connection_on, link_of, put}
use Rattle.contract_table.specs.Tables.{TableState, StandsFor, rising, connections_after, table_after}
use Rattle.contract_table.proofs.Sessions.{said}
use Rattle.contract_table.proofs.AcceptedSteps.{accepted_step}
use Rattle.contract_table.proofs.FlightSteps.{tick_step, sample_step, crew_step}
use Rattle.contract_table.proofs.QuietSteps.{same_connection, refused_step, repeated_step}
use Rattle.contract_table.proofs.FoundLinks.{verdict_found, admitted_is, request_accepted, is_given, given}
use Rattle.contract_table.proofs.Rising.{all_rising, among_rising, rising_order, length_rising, length_without_rising, rising_without}
use Rattle.contract_table.proofs.MapLemmas.{map_same, all_among, all_where, absent_apart, put_changed, put_new, less_one, found_among, numbers_of}

-- Whether there is room, by the links in rising order.
pub room_rising : (kept : Option ℕ) (link : ℕ) (live : List ℕ) → has_room kept link (rising live) ≡ has_room kept link live
room_rising None link live = ap (λ n. nat_lt n 5) (length_rising live)
room_rising (Some kept) link live = ap (λ n. (link == kept) || nat_lt n 4) (length_without_rising kept live)

-- The crew's switch after an act.
pub crew_step_over : (configuration : Configuration) (past : List Noted) (act : Act)
    → is_crew_emergency (noted_over configuration past act ∷ past) ≡ crew_after (is_crew_emergency past) act
crew_step_over configuration past (Said link message) = refl
crew_step_over configuration past (Malformed link fault) = refl
crew_step_over configuration past (Moved before now) = refl
crew_step_over configuration past (Ticked tick) = refl
crew_step_over configuration past (Crew on) = refl

module _ (configuration : Configuration) (past : List Noted) where
  -- A link after the past, and after it and one more act.
  abbrev pub on : ℕ → Connection
  on link = connection_of configuration.profile link (heard_on link past)

  abbrev pub on_after : Noted → ℕ → Connection
  on_after noted link = connection_of configuration.profile link (heard_on link (noted ∷ past))

  -- The link among the live ones.
  named : (k : ℕ) → link_of (on k) ≡ k
  named k = refl

  pub found_on : (link : ℕ) → connection_on link (connections_after configuration past) ≡ cond (is_live link past) (Some (on link)) None
  found_on link =
      found_among link_of on named link (rising (live_links past))
      ∙ ap (λ l. cond l (Some (on link)) None) (among_rising link (live_links past))

  -- ---- the flight's acts

  abbrev pub session : ℕ → List Noted
  session link = from_last (λ noted _. admits_link link noted) (heard_on link past)

  pub has_session : (link : ℕ) → is_live link past ≡ true → session_of link (heard_on link past) ≡ Some (session link)
  has_session link live = ap (λ l. cond l (Some (session link)) None) (live_on_heard link past ∙ live)

  abbrev pub in_session : ℕ → Option (List Noted) → Connection
  in_session link s = connection_in configuration.profile link s (heard_on link past) (anchor_time link (heard_on link past)) (emergency_report_number link (heard_on link past))

  moved_on : (before now : Sample) (link : ℕ) → is_live link past ≡ true
      → on_after (noted_over configuration past (Moved before now)) link ≡ flown (time_after past) (Moved before now) (on link)
  moved_on before now link live =
      sample_step configuration.profile link (time_after past) before now (heard_on link past) (session link) (has_session link live)
      ∙ ap (λ s. flown (time_after past) (Moved before now) (in_session link s)) (sym (has_session link live))

  ticked_on : (tick link : ℕ) → is_live link past ≡ true
      → on_after (noted_over configuration past (Ticked tick)) link ≡ flown (time_after past) (Ticked tick) (on link)
  ticked_on tick link live =
      tick_step configuration.profile link tick (time_after past) (heard_on link past) (session link) (has_session link live)
      ∙ ap (λ s. flown (time_after past) (Ticked tick) (in_session link s)) (sym (has_session link live))

  crewed_on : (switch : Bool) (link : ℕ) → is_live link past ≡ true
      → on_after (noted_over configuration past (Crew switch)) link ≡ flown (time_after past) (Crew switch) (on link)
  crewed_on switch link live =
      crew_step configuration.profile link (time_after past) switch (heard_on link past) (session link) (has_session link live)
      ∙ ap (λ s. flown (time_after past) (Crew switch) (in_session link s)) (sym (has_session link live))

  -- What is so on each live link is so on all of them.
  on_each : (f g : ℕ → Connection) → ((link : ℕ) → is_live link past ≡ true → f link ≡ g link)
      → map f (rising (live_links past)) ≡ map g (rising (live_links past))
  on_each f g same =
      map_same f g (rising (live_links past))
      (all_where (λ link. is_live link past ≡ true) (λ link. f link ≡ g link) (rising (live_links past)) same
      (all_rising (λ link. is_live link past ≡ true) (live_links past) (all_among (live_links past))))

  map_flown : (act : Act) (links : List ℕ) → map (λ link. flown (time_after past) act (on link)) links ≡ map (flown (time_after past) act) (map on links)
  map_flown act [] = refl
  map_flown act (link ∷ links) = ap (λ cs. flown (time_after past) act (on link) ∷ cs) (map_flown act links)

  flight_connections : (act : Act) → ((link : ℕ) → is_live link past ≡ true → on_after (noted_over configuration past act) link ≡ flown (time_after past) act (on link))
      → map (on_after (noted_over configuration past act)) (rising (live_links past)) ≡ map (flown (time_after past) act) (map on (rising (live_links past)))
  flight_connections act step =
      on_each (on_after (noted_over configuration past act)) (λ link. flown (time_after past) act (on link)) step ∙ map_flown act (rising (live_links past))

-- ---- a message of a link

module _ (configuration : Configuration) (past : List Noted) (places : KeepsPlaces configuration.kept (live_links past)) (link : ℕ) (message : Message) where
  abbrev pub heard : List Noted
  heard = heard_on link past

  abbrev pub admitting : Bool
  admitting = admits configuration past (Said link message)

  abbrev pub noted : Noted
  noted = noted_over configuration past (Said link message)

  abbrev pub in_found : List Noted → Connection
  in_found session =
      connection_in configuration.profile link (Some session) heard
      (cond admitting (time_after past) (anchor_time link heard)) (cond admitting 0 (emergency_report_number link heard))

  abbrev pub before : List Connection
  before = connections_after configuration past

  -- ---- the link that it finds

  room_is : has_room configuration.kept link (map link_of before) ≡ has_room configuration.kept link (live_links past)
  room_is = ap (has_room configuration.kept link) (numbers_of link_of (on configuration past) (named configuration past) (rising (live_links past))) ∙ room_rising configuration.kept link (live_links past)

  -- What it finds, where it is said whether it admits the link.
  abbrev in_found_where : Bool → List Noted → Connection
  in_found_where a session =
      connection_in configuration.profile link (Some session) heard (cond a (time_after past) (anchor_time link heard)) (cond a 0 (emergency_report_number link heard))

  pub live_barred : is_live link past ≡ true → admitting ≡ false
  live_barred live =
      (λ i. is_request message && not (live i) && has_room configuration.kept link (live_links past))
      ∙ ap (λ b. b && has_room configuration.kept link (live_links past)) (and-false (is_request message))

  pub dead_admits : is_live link past ≡ false → admitting ≡ (is_request message && has_room configuration.kept link (live_links past))
  dead_admits dead =
      (λ i. is_request message && not (dead i) && has_room configuration.kept link (live_links past))
      ∙ ap (λ b. b && has_room configuration.kept link (live_links past)) (and-true (is_request message))

  pub dead_session : is_live link past ≡ false → session_of link heard ≡ None
  dead_session dead = ap (λ l. cond l (Some (session configuration past link)) None) (live_on_heard link past ∙ dead)

  live_finds : is_live link past ≡ true → Some (on configuration past link) ≡ option_map in_found (session_at admitting link heard)
  live_finds live =
      ap (λ s. Some (in_session configuration past link s)) (has_session configuration past link live)
      ∙ sym (ap (option_map (in_found_where false)) (has_session configuration past link live))
      ∙ sym (λ i. option_map (in_found_where (live_barred live i)) (session_at (live_barred live i) link heard))

  admitted_finds : admitting ≡ true → Some (admitted link (is_crew_emergency past) (time_after past)) ≡ option_map in_found (session_at admitting link heard)
  admitted_finds does =
      ap (λ c. Some c) (sym (admitted_is configuration.profile link past (time_after past)))
      ∙ sym (λ i. option_map (in_found_where (does i)) (session_at (does i) link heard))

  unheard_finds : admitting ≡ false → is_live link past ≡ false → None ≡ option_map in_found (session_at admitting link heard)
  unheard_finds barred dead =
      sym (ap (option_map (in_found_where false)) (dead_session dead))
      ∙ sym (λ i. option_map (in_found_where (barred i)) (session_at (barred i) link heard))

  pub found_is : found_by configuration.kept (is_crew_emergency past) (time_after past) link message before ≡ option_map in_found (session_at admitting link heard)
  found_is =
      (λ i. option_or (found_on configuration past link i) (cond (is_request message && room_is i) (Some (admitted link (is_crew_emergency past) (time_after past))) None))
      ∙ by (is_live link past) refl
    where
      dead : is_live link past ≡ false → (a : Bool) → (is_request message && has_room configuration.kept link (live_links past)) ≡ a
          → cond a (Some (admitted link (is_crew_emergency past) (time_after past))) None ≡ option_map in_found (session_at admitting link heard)
      dead e true a = admitted_finds (dead_admits e ∙ a)
      dead e false a = unheard_finds (dead_admits e ∙ a) e

      by : (l : Bool) → is_live link past ≡ l
          → option_or (cond l (Some (on configuration past link)) None) (cond (is_request message && has_room configuration.kept link (live_links past)) (Some (admitted link (is_crew_emergency past) (time_after past))) None)
          ≡ option_map in_found (session_at admitting link heard)
      by true e = live_finds e
      by false e = dead e (is_request message && has_room configuration.kept link (live_links past)) refl

  -- ---- the live links after it

  -- The message, with this verdict.
  abbrev given_as : Verdict → Noted
  given_as verdict = said link message admitting verdict (time_after past)

  other_links : (verdict : Verdict) (k : ℕ) → k ≢ link → on_after configuration past (given_as verdict) k ≡ on configuration past k
  other_links verdict k apart = ap (λ b. connection_of configuration.profile k (cond b (given_as verdict ∷ heard_on k past) (heard_on k past))) (ne_eqb k link apart)

  own_link : (verdict : Verdict) → on_after configuration past (given_as verdict) link ≡ connection_of configuration.profile link (given_as verdict ∷ heard)
  own_link verdict = ap (λ b. connection_of configuration.profile link (cond b (given_as verdict ∷ heard) heard)) (eq-eqb link link refl)

  -- A message that leaves its own link leaves each.
  all_left : (verdict : Verdict) → connection_of configuration.profile link (given_as verdict ∷ heard) ≡ on configuration past link
      → map (on_after configuration past (given_as verdict)) (rising (live_links past)) ≡ before
  all_left verdict left = on_each configuration past (on_after configuration past (given_as verdict)) (on configuration past) (λ k live. by (k == link) refl)
    where
      by : {k : ℕ} (b : Bool) → (k == link) ≡ b → on_after configuration past (given_as verdict) k ≡ on configuration past k
      by {k = k} true e = subst (λ j. on_after configuration past (given_as verdict) j ≡ on configuration past j) (sym (eqb-true k link e)) (own_link verdict ∙ left)
      by {k = k} false e = other_links verdict k (eqb-false k link e)

  module _ (found_session : List Noted) (finds : session_at admitting link heard ≡ Some found_session) where
    abbrev finding : Connection
    finding = in_found found_session

    abbrev after : Verdict → List Connection
    after verdict = map (on_after configuration past (given_as verdict)) (rising (links_after (Said link message) admitting (live_links past)))

    -- A message that finds its link and does not admit it is one of a live link.
    was_live : admitting ≡ false → is_live link past ≡ true
    was_live barred = by (is_live link past) refl
      where
        by : (l : Bool) → is_live link past ≡ l → is_live link past ≡ true
        by true e = e
        by false e = absurd (let gone : None ≡ Some found_session = sym (dead_session e) ∙ ap (λ a. session_at a link heard) (sym barred) ∙ finds in cc)

    was_dead : admitting ≡ true → is_live link past ≡ false
    was_dead does = by (is_live link past) refl
      where
        by : (l : Bool) → is_live link past ≡ l → is_live link past ≡ false
        by true e = absurd (let both : true ≡ false = sym does ∙ live_barred e in cc)
        by false e = e

    only_requests : is_request message ≡ false → admitting ≡ false
    only_requests other = ap (λ r. r && not (is_live link past) && has_room configuration.kept link (live_links past)) other

    after_accepted : is_cancel_all (Said link message) ≡ false → after Accepted ≡ put link_of (accepted configuration.profile (time_after past) message finding) before
    after_accepted goes = by admitting refl
      where
        own : on_after configuration past (given_as Accepted) link ≡ accepted configuration.profile (time_after past) message finding
        own =
            own_link Accepted
            ∙ accepted_step configuration.profile link message admitting (time_after past) heard found_session goes only_requests finds
            ∙ ap (λ s. accepted configuration.profile (time_after past) message (connection_in configuration.profile link s heard (cond admitting (time_after past) (anchor_time link heard)) (cond admitting 0 (emergency_report_number link heard)))) finds

        by : (a : Bool) → admitting ≡ a → after Accepted ≡ put link_of (accepted configuration.profile (time_after past) message finding) before
        by true e =
            ap (λ a. map (on_after configuration past (given_as Accepted)) (rising (links_after (Said link message) a (live_links past)))) e
            ∙ put_new link_of (on configuration past) (on_after configuration past (given_as Accepted)) link (named configuration past) refl (other_links Accepted) (rising (live_links past))
            (absent_apart link (rising (live_links past)) (among_rising link (live_links past) ∙ was_dead e))
            ∙ ap (λ c. put link_of c before) own
        by false e =
            (λ i. map (on_after configuration past (given_as Accepted)) (rising (cond (e i) (link ∷ live_links past) (cond (goes i) (without link (live_links past)) (live_links past)))))
            ∙ put_changed link_of (on configuration past) (on_after configuration past (given_as Accepted)) link (named configuration past) refl (other_links Accepted) (rising (live_links past))
            (rising_order (live_links past) places.distinct) (among_rising link (live_links past) ∙ was_live e)
            ∙ ap (λ c. put link_of c before) own

    -- A cancel-all ends the session of its link.
    after_ended : is_cancel_all (Said link message) ≡ true → admitting ≡ false → after Ended ≡ filter (λ other. not (link == other.link)) before
    after_ended ends barred =
        (λ i. map (on_after configuration past (given_as Ended)) (rising (cond (barred i) (link ∷ live_links past) (cond (ends i) (without link (live_links past)) (live_links past)))))
        ∙ ap (map (on_after configuration past (given_as Ended))) (rising_without link (live_links past) places.distinct)
        ∙ less_one link_of (on configuration past) (on_after configuration past (given_as Ended)) link (named configuration past) refl (other_links Ended) (rising (live_links past))

    -- Another answer leaves all as it was.
    after_left : (verdict : Verdict) → is_cancel_all (Said link message) ≡ false → admitting ≡ false
        → connection_of configuration.profile link (said link message false verdict (time_after past) ∷ heard) ≡ on configuration past link
        → after verdict ≡ before
    after_left verdict goes barred left =
        (λ i. map (on_after configuration past (given_as verdict)) (rising (cond (barred i) (link ∷ live_links past) (cond (goes i) (without link (live_links past)) (live_links past)))))
        ∙ all_left verdict (ap (λ a. connection_of configuration.profile link (said link message a verdict (time_after past) ∷ heard)) barred ∙ left)

    -- A request that admits its link is accepted.
    answered_live : (verdict : Verdict) → verdict_by finding message ≡ verdict → (verdict ≡ Accepted → ⊥) → admitting ≡ false
    answered_live verdict is other = by admitting refl
      where
        asked : admitting ≡ true → is_request message ≡ true
        asked does =
            (and_parts (is_request message) (not (is_live link past)) (and_parts (is_request message && not (is_live link past)) (has_room configuration.kept link (live_links past)) does).0).0

        nothing : admitting ≡ true → found_session ≡ []
        nothing does = let same : Some [] ≡ Some found_session = ap (λ a. session_at a link heard) (sym does) ∙ finds in cc

        by : (a : Bool) → admitting ≡ a → admitting ≡ false
        by false e = e
        by true e =
            absurd (other (sym is
            ∙ verdict_found configuration.profile link heard found_session (cond admitting (time_after past) (anchor_time link heard)) (cond admitting 0 (emergency_report_number link heard)) message
            ∙ ap (λ s. verdict_on (requests_in_force (Some s)) (is_in_emergency_mode (Some s) heard) message) (nothing e)
            ∙ request_accepted message (is_in_emergency_mode (Some []) heard) (asked e)))

    -- Every verdict.
    after_verdict : (verdict : Verdict) → verdict_by finding message ≡ verdict
        → after verdict ≡ links_heard configuration.profile (time_after past) message finding before verdict
    after_verdict verdict is = by (is_cancel_all (Said link message)) refl verdict is
      where
        ending : (m : Message) → is_cancel_all (Said link m) ≡ true → m ≡ CancelAll
        ending CancelAll e = refl
        ending (Cancel number) e = absurd (let both : false ≡ true = e in cc)
        ending (CancelEmergency number) e = absurd (let both : false ≡ true = e in cc)
        ending (PeriodicRequest asked) e = absurd (let both : false ≡ true = e in cc)
        ending (EventRequest number limits) e = absurd (let both : false ≡ true = e in cc)
        ending (EmergencyRequest asked) e = absurd (let both : false ≡ true = e in cc)

        ended : is_cancel_all (Said link message) ≡ true → (v : Verdict) → verdict_by finding message ≡ v → v ≡ Ended
        ended e v is = sym is ∙ ap (verdict_by finding) (ending message e)

        not_accepted_reason : (reason : ℕ) → Refused reason ≡ Accepted → ⊥
        not_accepted_reason reason e = cc

        not_accepted_repeat : Repeated ≡ Accepted → ⊥
        not_accepted_repeat e = cc

        of_given : is_cancel_all (Said link message) ≡ false → (v : Verdict) → verdict_by finding message ≡ v → is_given v ≡ true
        of_given goes v is = ap is_given (sym is) ∙ given link (requests_of finding) (is_some finding.anchor) message goes

        by : (e : Bool) → is_cancel_all (Said link message) ≡ e → (v : Verdict) → verdict_by finding message ≡ v
            → after v ≡ links_heard configuration.profile (time_after past) message finding before v
        by true e v is =
            subst (λ w. after w ≡ links_heard configuration.profile (time_after past) message finding before w) (sym (ended e v is))
            (after_ended e (only_requests (ap is_request (ending message e))))
        by false e Accepted is = after_accepted e
        by false e (Refused reason) is =
            after_left (Refused reason) e (answered_live (Refused reason) is (not_accepted_reason reason)) (refused_step configuration.profile link message reason (time_after past) heard e)
        by false e Repeated is =
            after_left Repeated e (answered_live Repeated is not_accepted_repeat) (repeated_step configuration.profile link message (time_after past) heard e)
        by false e Ended is = absurd (let both : false ≡ true = of_given e Ended is in cc)
        by false e Unheard is = absurd (let both : false ≡ true = of_given e Unheard is in cc)
        by false e Unreadable is = absurd (let both : false ≡ true = of_given e Unreadable is in cc)
        by false e OfFlight is = absurd (let both : false ≡ true = of_given e OfFlight is in cc)

    -- The verdict as the rules note it.
    pub noted_verdict : noted.verdict ≡ verdict_by finding message
    noted_verdict =
        ap (λ s. verdict_in s heard message) finds
        ∙ sym (verdict_found configuration.profile link heard found_session (cond admitting (time_after past) (anchor_time link heard)) (cond admitting 0 (emergency_report_number link heard)) message)

    pub after_found : connections_after configuration (noted ∷ past) ≡ heard_by configuration.profile (time_after past) message before (Some finding)
    after_found =
        ap after noted_verdict
        ∙ after_verdict (verdict_by finding message) refl

  -- Where it finds no link nothing changes.
  pub finds_none : session_at admitting link heard ≡ None → (admitting ≡ false) × (is_live link past ≡ false)
  finds_none none = by admitting refl
    where
      dead : session_of link heard ≡ None → (l : Bool) → is_live link past ≡ l → is_live link past ≡ false
      dead gone false e = e
      dead gone true e = absurd (let both : Some (session configuration past link) ≡ None = sym (has_session configuration past link e) ∙ gone in cc)

      by : (a : Bool) → admitting ≡ a → (admitting ≡ false) × (is_live link past ≡ false)
      by true e = absurd (let both : Some [] ≡ None = ap (λ a. session_at a link heard) (sym e) ∙ none in cc)
      by false e = (e, dead (ap (λ a. session_at a link heard) (sym e) ∙ none) (is_live link past) refl)

  after_unheard : session_at admitting link heard ≡ None → connections_after configuration (noted ∷ past) ≡ before
  after_unheard none =
      let quiet = finds_none none in
      ap (λ links. map (on_after configuration past noted) (rising links)) (unheard_message configuration past link link message quiet.1 quiet.0).1
      ∙ on_each configuration past (on_after configuration past noted) (on configuration past)
      (λ k live. same_connection configuration.profile k (heard_on k (noted ∷ past)) (heard_on k past) (unheard_message configuration past link k message quiet.1 quiet.0).2)

  pub after_said : (s : Option (List Noted)) → session_at admitting link heard ≡ s
      → connections_after configuration (noted ∷ past) ≡ heard_by configuration.profile (time_after past) message before (option_map in_found s)
  after_said None finds = after_unheard finds
  after_said (Some found_session) finds = after_found found_session finds

-- ---- every act

pub connections_step : (configuration : Configuration) (links : ℕ) (past : List Noted) (act : Act) → KeepsPlaces configuration.kept (live_links past)
    → connections_after configuration (noted_over configuration past act ∷ past) ≡ connections_next act (table_after configuration links past)
connections_step configuration links past (Said link message) places =
    after_said configuration past places link message (session_at (admits configuration past (Said link message)) link (heard_on link past)) refl
    ∙ ap (heard_by configuration.profile (time_after past) message (connections_after configuration past)) (sym (found_is configuration past places link message))
connections_step configuration links past (Malformed source fault) places =
    on_each configuration past (on_after configuration past (noted_over configuration past (Malformed source fault))) (on configuration past)
    (λ k live. same_connection configuration.profile k (heard_on k (noted_over configuration past (Malformed source fault) ∷ past)) (heard_on k past) (malformed_changes_nothing configuration past source k fault))
connections_step configuration links past (Moved before now) places = flight_connections configuration past (Moved before now) (moved_on configuration past before now)
connections_step configuration links past (Ticked tick) places = flight_connections configuration past (Ticked tick) (ticked_on configuration past tick)
connections_step configuration links past (Crew switch) places = flight_connections configuration past (Crew switch) (crewed_on configuration past switch)

-- The table after one more act is the table after the past with it.
pub table_step : (configuration : Configuration) (links : ℕ) (past : List Noted) (act : Act) → KeepsPlaces configuration.kept (live_links past)
    → next_table act (table_after configuration links past) ≡ table_after configuration links (noted_over configuration past act ∷ past)
table_step configuration links past act places =
    λ i. record {
      configuration = configuration;
      links = links;
      time = time_after (noted_over configuration past act ∷ past);
      crew = sym (crew_step_over configuration past act) i;
      connections = sym (connections_step configuration links past act places) i;
    }

-- What a table stands for, it stands for with one act more after the step.
pub stands_step : (table : TableState) (acts : List Act) (act : Act) → StandsFor table acts → StandsFor (next_table act table) (act ∷ acts)
stands_step table acts act stands =
    ap (next_table act) stands
    ∙ table_step table.configuration table.links (past_of table.configuration acts) act (keeps_places table.configuration acts)
