-- The laws of a course: what a happening makes of its stations, and which step it is.
use Rattle.std.proofs.Common.{◌≡◌, ◌≢◌, ◌<◌, ℕ, Bool, true, false, cond, ◌||◌, ◌==◌, All, List, [], ◌∷◌, ◌++◌, set, map, length, slice_get, Some, refl, sym, ap, ◌∙◌, subst, append-nil, length-set, get_or-set_same, get_or-set_other, eqb-true}
use Rattle.std.proofs.lemmas.Bool.{eqb-false}
use Rattle.std.proofs.lemmas.Option.{slice_get-get_or, slice_get_within, get_or_from_slice_get}
use Rattle.aircraft_core.specs.Aircraft.{Aircraft}
use Rattle.aircraft_core.specs.Entries.{IsTakenBy}
use Rattle.aircraft_core.specs.Setting.{Setting}
use Rattle.aircraft_core.specs.declared.entry.Entry.{Entry}
use Rattle.centre_core.specs.Events.{CentreEvent, Asks}
use Rattle.centre_core.specs.Heard.{with_heard}
use Rattle.centre_core.specs.Histories.{StandsFor}
use Rattle.centre_core.specs.Hearing.{Hearing}
use Rattle.adsc_requests.specs.declared.message.Message.{Message}
use Rattle.net_script.specs.declared.line.Cancel.{Cancel}
use Rattle.run_rules.specs.Happenings.{Happening, Entered, Refused, Asked, Cancelled, Brought, Heard, Carries, answer_sent, with_cancel, history, is_centre, is_raw, is_text_on, makes_centre, makes_raw, refused_in, sent_in, sent_messages, with_happening}
use Rattle.run_rules.specs.declared.refused.RefusedLine.{RefusedLine}
use Rattle.adsc_run.specs.Courses.{KnowsEnds, StandsBehind}
use Rattle.adsc_run.specs.Outboxes.{AreFound}
use Rattle.adsc_run.specs.Stations.{StationStands, text_sent}
use Rattle.adsc_run.specs.declared.course.Course.{Course}
use Rattle.adsc_run.specs.declared.station.Station.{Station}
use Rattle.adsc_run.proofs.FoundLaws.{found_on}

-- ---- happenings elsewhere

-- The happening is nothing to this link: it gives its address no role, its centre no event and no message.
pub record IsApart (link : ℕ) (happening : Happening) : Type 0 where
  pub raw : makes_raw link happening ≡ false
  pub centre : makes_centre link happening ≡ false
  pub event : (w : List CentreEvent) → with_happening link happening w ≡ w
  pub sent : sent_in link happening ≡ []

pub refused_apart : (link : ℕ) (refused : RefusedLine) → IsApart link (Refused refused)
refused_apart link refused = record { raw = refl; centre = refl; event = λ w. refl; sent = refl }

pub entered_apart : (link : ℕ) (entry : Entry) → is_text_on link entry ≡ false → IsApart link (Entered entry)
entered_apart link entry none = record { raw = none; centre = refl; event = λ w. refl; sent = refl }

pub brought_apart : (link other place : ℕ) (entry : Entry) → (link == other) ≡ false → IsApart link (Brought other place entry)
brought_apart link other place entry apart = record { raw = refl; centre = apart; event = λ w. refl; sent = refl }

pub asked_apart : (link line other : ℕ) (request : Message) → (link == other) ≡ false → IsApart link (Asked line other request)
asked_apart link line other request apart =
    record {
      raw = refl;
      centre = apart;
      event = λ w. ap (λ (b : Bool). cond b (Asks request ∷ w) w) apart;
      sent = ap (λ (b : Bool). cond b (record { line = line; carried = Carries request } ∷ []) []) apart;
    }

pub cancelled_apart : (link line other : ℕ) (cancel : Cancel) (message : Message) → (link == other) ≡ false → IsApart link (Cancelled line other cancel message)
cancelled_apart link line other cancel message apart =
    record {
      raw = refl;
      centre = apart;
      event = λ w. ap (λ (b : Bool). cond b (with_cancel cancel w) w) apart;
      sent = ap (λ (b : Bool). cond b (record { line = line; carried = Carries message } ∷ []) []) apart;
    }

pub heard_apart : (link line other place : ℕ) (hearing : Hearing) → (link == other) ≡ false → IsApart link (Heard line other place hearing)
heard_apart link line other place hearing apart =
    record {
      raw = refl;
      centre = apart;
      event = λ w. ap (λ (b : Bool). cond b (with_heard hearing w) w) apart;
      sent = ap (λ (b : Bool). cond b (answer_sent line hearing) []) apart;
    }

-- A station to which the happening is nothing stands as before.
pub station_stays : (setting : Setting) (link : ℕ) (log : List Happening) (station : Station) (happening : Happening)
    → StationStands setting link log station → IsApart link happening → StationStands setting link (happening ∷ log) station
station_stays setting link log station happening stood apart =
    record {
      listed = stood.listed;
      raw = stood.raw ∙ sym (ap (λ b. b || is_raw link log) apart.raw);
      centre = stood.centre ∙ sym (ap (λ b. b || is_centre link log) apart.centre);
      address = stood.address;
      registration = stood.registration;
      stands = subst (λ w. StandsFor station.centre w) (sym (apart.event (history link log))) stood.stands;
      sent = stood.sent
          ∙ sym (ap (λ more. map text_sent (sent_messages link log ++ more)) apart.sent ∙ ap (map text_sent) (append-nil (sent_messages link log)));
    }

-- ---- the ends of downlinks

-- Where the aircraft is as it was, the course knows the ends that it knew.
pub knows_still : (before now : Course) → KnowsEnds before → now.craft ≡ before.craft → now.downlink_ends.items ≡ before.downlink_ends.items → KnowsEnds now
knows_still before now known craft ends =
    subst (λ (c : Aircraft). AreFound c.setting c.journal now.downlink_ends.items) (sym craft)
    (subst (AreFound before.craft.setting before.craft.journal) (sym ends) known)

-- Where the journal goes on, the course knows the ends that it knew.
pub knows_on : (before now : Course) (more : List Entry) → KnowsEnds before → now.craft.setting ≡ before.craft.setting
    → now.craft.journal ≡ before.craft.journal ++ more → now.downlink_ends.items ≡ before.downlink_ends.items → KnowsEnds now
knows_on before now more known own journal ends =
    subst (λ setting. AreFound setting now.craft.journal now.downlink_ends.items) (sym own)
    (subst (λ entered. AreFound before.craft.setting entered now.downlink_ends.items) (sym journal)
    (subst (AreFound before.craft.setting (before.craft.journal ++ more)) (sym ends)
    (found_on before.craft.setting before.craft.journal more before.downlink_ends.items known)))

-- Where only ends were found, the course stands behind the same log.
pub finds : (before now : Course) (log : List Happening) → StandsBehind before log → now.craft ≡ before.craft → now.stations.items ≡ before.stations.items
    → now.refused.items ≡ before.refused.items → now.burst.items ≡ before.burst.items → KnowsEnds now → StandsBehind now log
finds before now log stood craft same refused burst known =
    let own : now.craft.setting ≡ before.craft.setting = ap (λ (c : Aircraft). c.setting) craft in
    record {
      count = ap length same ∙ stood.count ∙ sym (ap (λ (s : Setting). length s.addresses) own);
      each = λ link station there. subst (λ s. StationStands s link log station) (sym own)
          (stood.each link station (ap (λ all. slice_get all link) (sym same) ∙ there));
      refused = refused ∙ stood.refused;
      waiting = subst (λ s. All (IsTakenBy s) now.burst.items) (sym own)
          (subst (λ these. All (IsTakenBy before.craft.setting) these) (sym burst) stood.waiting);
      found = known;
    }

-- ---- the stations of a course

-- Nothing happens to any station.
pub all_stay : (before now : Course) (log : List Happening) (happening : Happening) → StandsBehind before log
    → now.craft.setting ≡ before.craft.setting → now.stations.items ≡ before.stations.items
    → now.refused.items ≡ before.refused.items ++ refused_in happening
    → All (IsTakenBy now.craft.setting) now.burst.items → KnowsEnds now → ((link : ℕ) → IsApart link happening) → StandsBehind now (happening ∷ log)
all_stay before now log happening stood own same refused waiting known apart =
    record {
      count = ap length same ∙ stood.count ∙ sym (ap (λ (s : Setting). length s.addresses) own);
      each = λ link station there. station_stays now.craft.setting link log station happening
          (subst (λ s. StationStands s link log station) (sym own) (stood.each link station (ap (λ all. slice_get all link) (sym same) ∙ there)))
          (apart link);
      refused = refused ∙ ap (λ front. front ++ refused_in happening) stood.refused;
      waiting = waiting;
      found = known;
    }

-- Something happens to one station.
pub one_acts : (before now : Course) (log : List Happening) (happening : Happening) (link : ℕ) (station : Station) → StandsBehind before log
    → now.craft.setting ≡ before.craft.setting → link < length before.stations.items → now.stations.items ≡ set before.stations.items link station
    → StationStands before.craft.setting link (happening ∷ log) station
    → now.refused.items ≡ before.refused.items ++ refused_in happening
    → All (IsTakenBy now.craft.setting) now.burst.items → KnowsEnds now → ((other : ℕ) → other ≢ link → IsApart other happening) → StandsBehind now (happening ∷ log)
one_acts before now log happening link station stood own inside same stands refused waiting known apart =
    record {
      count = ap length same ∙ length-set before.stations.items link station ∙ stood.count ∙ sym (ap (λ (s : Setting). length s.addresses) own);
      each = λ other found there.
          subst (λ s. StationStands s other (happening ∷ log) found) (sym own) (at other found (ap (λ all. slice_get all other) (sym same) ∙ there));
      refused = refused ∙ ap (λ front. front ++ refused_in happening) stood.refused;
      waiting = waiting;
      found = known;
    }
  where
    at : (other : ℕ) (found : Station) → slice_get (set before.stations.items link station) other ≡ Some found
        → StationStands before.craft.setting other (happening ∷ log) found
    at other found there = at_link (other == link) refl
      where
        here : other ≡ link → StationStands before.craft.setting other (happening ∷ log) found
        here is = subst (λ n. StationStands before.craft.setting n (happening ∷ log) found) (sym is)
            (subst (λ (s : Station). StationStands before.craft.setting link (happening ∷ log) s)
            (sym (get_or-set_same before.stations.items link station station inside)
            ∙ get_or_from_slice_get (set before.stations.items link station) link found station (subst (λ n. slice_get (set before.stations.items link station) n ≡ Some found) is there)) stands)

        apart_from : other ≢ link → StationStands before.craft.setting other (happening ∷ log) found
        apart_from differs = station_stays before.craft.setting other log found happening
            (stood.each other found
            (slice_get-get_or before.stations.items other found
            (subst (λ n. other < n) (length-set before.stations.items link station) (slice_get_within (set before.stations.items link station) other found there))
            ∙ ap Some (sym (get_or-set_other before.stations.items link other station found differs)
            ∙ get_or_from_slice_get (set before.stations.items link station) other found found there)))
            (apart other differs)

        at_link : (same : Bool) → (other == link) ≡ same → StationStands before.craft.setting other (happening ∷ log) found
        at_link true same = here (eqb-true other link same)
        at_link false same = apart_from (eqb-false other link same)
