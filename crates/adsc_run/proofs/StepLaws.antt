-- The laws of a line's step: how the course did it.
use Rattle.std.proofs.Common.{◌≡◌, ◌≢◌, ◌<◌, ◌-◌, ℕ, suc, zero, Bool, true, false, cond, ◌==◌, All, List, [], ◌∷◌, ◌++◌, set, map, length, get_or, slice_get, Option, Some, None, Result, Ok, Err, refl, sym, ap, ◌∙◌, subst, append-nil, arith, ne_eqb, ◌||◌, length-set, get_or-set_same, get_or-set_other, eqb-true}
use Rattle.std.proofs.lemmas.Bool.{eqb-false}
use Rattle.std.proofs.lemmas.Option.{get_or_from_slice_get, slice_get-get_or, slice_get_within}
use Rattle.std.proofs.lemmas.List.Elements.{All-append, All-cons, All-nil}
use Rattle.std.specs.Prelude.{IfOk, OnOk}
use Rattle.adsc_requests.specs.declared.message.Message.{Message}
use Rattle.adsc_requests.specs.declared.message.Uplink.{Uplink as UplinkMessages}
use Rattle.adsc_requests.specs.declared.refusal.Refusal.{Refusal}
use Rattle.aircraft_core.specs.Aircraft.{Aircraft}
use Rattle.aircraft_core.specs.Entries.{IsTakenBy}
use Rattle.aircraft_core.specs.Setting.{Setting, address_of}
use Rattle.aircraft_core.specs.declared.entry.Entry.{Entry}
use Rattle.centre_core.specs.Hearing.{Hearing, Says}
use Rattle.centre_core.specs.declared.refusal.AskRefused.{AskRefused}
use Rattle.centre_core.specs.declared.refusal.AskRefused.TheVariants.{NotLoggedOn, Waiting}
use Rattle.net_script.specs.declared.line.Cancel.{Cancel}
use Rattle.net_script.specs.declared.line.Cancel.TheVariants.{Of, EmergencyMode, All as AllContracts}
use Rattle.net_script.specs.declared.refusal.Code.{Code}
use Rattle.net_script.specs.declared.refusal.Code.TheVariants as code
use Rattle.run_rules.specs.Happenings.{Happening, Entered, Asked, Cancelled, Brought, Heard, SentMessage, history, is_centre, is_raw, is_text_on, refused_in, sent_messages}
use Rattle.run_rules.specs.Lines.{as_centre, asking_step, bring_step, cancel_step, cancelling_step, entry_with}
use Rattle.run_rules.specs.Stages.{Step, does, receives, stops}
use Rattle.run_rules.specs.Texts.{link_from, link_to, payload_happenings, refusal_of, takes}
use Rattle.run_rules.specs.declared.end.End.{End}
use Rattle.run_rules.specs.declared.refused.RefusedWhy.{RefusedWhy}
use Rattle.run_rules.specs.declared.refused.RefusedWhy.TheVariants as why
use Rattle.adsc_run.specs.Courses.{AreStations, Did, EndsWith, Enters, KnowsEnds, StandsBehind, StationsDid, Waits}
use Rattle.adsc_run.specs.Stations.{StationDid, StationStands, ends_bad, is_centre_role, is_raw_role, text_of, text_sent}
use Rattle.aircraft_core.specs.Downlinks.{AreDownlinks}
use Rattle.std.proofs.lemmas.List.{length-map}
use Rattle.adsc_run.specs.declared.carried.SentText.{SentText}
use Rattle.adsc_run.specs.declared.course.Course.{Course}
use Rattle.adsc_run.specs.declared.station.Role.{Role}
use Rattle.adsc_run.specs.declared.station.Role.TheVariants.{Unused, Raw, Centre}
use Rattle.adsc_run.specs.declared.station.Station.{Station}
use Rattle.adsc_run.proofs.StationLaws.{if_ok_none, same_link}
use Rattle.adsc_run.proofs.CourseLaws.{IsApart, all_stay, asked_apart, brought_apart, cancelled_apart, entered_apart, finds, heard_apart, knows_on, knows_still, one_acts, refused_apart}

-- ---- a station

-- there is a station at each link
pub station_there : {A : Type 0} (all : List A) (place : ℕ) → place < length all → (one : A) × (slice_get all place ≡ Some one)
station_there [] place inside = absurd (omega (arith, inside))
station_there (one ∷ all) zero inside = (one, refl)
station_there (one ∷ all) (suc place) inside = station_there all place (omega (arith, inside))

-- what is at another link is apart
pub other_link : (other link : ℕ) → other ≢ link → (other == link) ≡ false
other_link other link apart = ne_eqb other link apart

-- ---- lines of centres

-- what a centre's line does, by the link of its address
by_link : List Happening → (ℕ → Step) → Option ℕ → Step
by_link log step None = stops code.Address 1
by_link log step (Some link) = cond (is_raw link log) (stops code.Role 0) (step link)

listed_at : (setting : Setting) (log : List Happening) (address : List ℕ) (step : ℕ → Step) (found : Option ℕ) → link_to setting address ≡ found
    → as_centre setting log address step ≡ by_link log step found
unfolding by_link
listed_at setting log address step found is = at (link_to setting address) refl ∙ ap (by_link log step) is
  where
    at : (link : Option ℕ) → link_to setting address ≡ link → as_centre setting log address step ≡ by_link log step (link_to setting address)
    at link e = whole (link_to setting address)
      where
        whole : (link : Option ℕ) → elim link [
          | None ↦ stops code.Address 1
          | Some place ↦ cond (is_raw place log) (stops code.Role 0) (step place)
        ] ≡ by_link log step link
        whole None = refl
        whole (Some place) = refl

pub unlisted : (setting : Setting) (log : List Happening) (address : List ℕ) (step : ℕ → Step) (line : ℕ) (end : End)
    → link_from 0 setting.addresses address ≡ None → end ≡ ends_bad line code.Address 1 → EndsWith line (as_centre setting log address step) end
unfolding by_link
unlisted setting log address step line end none is = subst (λ s. EndsWith line s end) (sym (listed_at setting log address step None none)) is

pub raw_address : (setting : Setting) (log : List Happening) (address : List ℕ) (step : ℕ → Step) (line link : ℕ) (end : End)
    → link_from 0 setting.addresses address ≡ Some link → is_raw link log ≡ true → end ≡ ends_bad line code.Role 0
    → EndsWith line (as_centre setting log address step) end
unfolding by_link
raw_address setting log address step line link end found raw is =
    subst (λ s. EndsWith line s end)
    (sym (listed_at setting log address step (Some link) found ∙ ap (λ (b : Bool). cond b (stops code.Role 0) (step link)) raw)) is

pub centre_address : (setting : Setting) (log : List Happening) (address : List ℕ) (step : ℕ → Step) (link : ℕ)
    → link_from 0 setting.addresses address ≡ Some link → is_raw link log ≡ false → as_centre setting log address step ≡ step link
unfolding by_link
centre_address setting log address step link found unused =
    listed_at setting log address step (Some link) found ∙ ap (λ (b : Bool). cond b (stops code.Role 0) (step link)) unused

-- nothing is made, and the run ends
pub ended_here : (waits : Bool) (step : Step) (line : ℕ) (log : List Happening) (course : Course) (end : End) → EndsWith line step end → StandsBehind course log
    → Did waits step line log course course (Some end)
ended_here true (stops found value) line log course end is stood = (is, stood, record { craft = refl; burst = sym (append-nil course.burst.items) })
ended_here false (stops found value) line log course end is stood =
    (is, stood, record { setting = refl; journal = sym (append-nil course.craft.journal); burst = refl })
ended_here waits (does happenings) line log course end is stood = absurd is
ended_here waits (receives setting link place) line log course end is stood = absurd is

-- ---- what one station does, with no entry

module _ (line link : ℕ) (log : List Happening) (before now : Course) (stood : StandsBehind before log) (inside : link < length before.stations.items)
    (craft : now.craft ≡ before.craft) (refused : now.refused.items ≡ before.refused.items) (burst : now.burst.items ≡ before.burst.items)
    (known : KnowsEnds now) where
  own : now.craft.setting ≡ before.craft.setting
  own = ap (λ (c : Aircraft). c.setting) craft

  -- no entry comes
  pub no_entry : Enters [] before now
  no_entry = record { setting = own; journal = ap (λ (c : Aircraft). c.journal) craft ∙ sym (append-nil before.craft.journal); burst = burst }

  still_waiting : All (IsTakenBy now.craft.setting) now.burst.items
  still_waiting = subst (λ s. All (IsTakenBy s) now.burst.items) (sym own) (subst (λ these. All (IsTakenBy before.craft.setting) these) (sym burst) stood.waiting)

  -- one station acts
  pub station_acts : (happening : Happening) (station : Station) → refused_in happening ≡ [] → ((other : ℕ) → other ≢ link → IsApart other happening)
      → now.stations.items ≡ set before.stations.items link station → StationStands before.craft.setting link (happening ∷ log) station
      → StandsBehind now (happening ∷ log)
  station_acts happening station none apart same stands =
      one_acts before now log happening link station stood own inside same stands
      (refused ∙ sym (append-nil before.refused.items) ∙ ap (λ more. before.refused.items ++ more) (sym none)) still_waiting known apart

  -- one station is as it was, so all are
  pub station_rests : (station : Station) → now.stations.items ≡ set before.stations.items link station → StationStands before.craft.setting link log station
      → StandsBehind now log
  station_rests station same stands = record {
    count = ap length same ∙ length-set before.stations.items link station ∙ stood.count ∙ sym (ap (λ (s : Setting). length s.addresses) own);
    each = λ other found there. subst (λ s. StationStands s other log found) (sym own) (at other found (ap (λ all. slice_get all other) (sym same) ∙ there));
    refused = refused ∙ stood.refused;
    waiting = still_waiting;
    found = known;
  }
    where
      at : (other : ℕ) (found : Station) → slice_get (set before.stations.items link station) other ≡ Some found → StationStands before.craft.setting other log found
      at other found there = at_link (other == link) refl
        where
          here : other ≡ link → StationStands before.craft.setting other log found
          here is = subst (λ n. StationStands before.craft.setting n log found) (sym is)
              (subst (λ (s : Station). StationStands before.craft.setting link log s)
              (sym (get_or-set_same before.stations.items link station station inside)
              ∙ get_or_from_slice_get (set before.stations.items link station) link found station (subst (λ n. slice_get (set before.stations.items link station) n ≡ Some found) is there)) stands)

          apart_from : other ≢ link → StationStands before.craft.setting other log found
          apart_from differs = stood.each other found
              (slice_get-get_or before.stations.items other found
              (subst (λ n. other < n) (length-set before.stations.items link station) (slice_get_within (set before.stations.items link station) other found there))
              ∙ ap Some (sym (get_or-set_other before.stations.items link other station found differs)
              ∙ get_or_from_slice_get (set before.stations.items link station) other found found there))

          at_link : (same : Bool) → (other == link) ≡ same → StationStands before.craft.setting other log found
          at_link true same = here (eqb-true other link same)
          at_link false same = apart_from (eqb-false other link same)

  -- the run ends
  stops_at : (station : Station) (found : Code) (value : ℕ) (end : End) → now.stations.items ≡ set before.stations.items link station
      → StationDid (stops found value) line before.craft.setting link log station (Some end) → Did false (stops found value) line log before now (Some end)
  stops_at station found value end same did = (did.0, station_rests station same did.1, no_entry)

  -- a centre asked
  pub asked_did : (sent : Result Message AskRefused) (end : Option End)
      → StationsDid (asking_step line link sent) line before.craft.setting link log before.stations.items now.stations.items end
      → Did false (asking_step line link sent) line log before now end
  asked_did (Ok request) None did =
      (station_acts (Asked line link request) did.0 refl (λ other apart. asked_apart other line link request (other_link other link apart)) did.1 did.2, no_entry)
  asked_did (Ok request) (Some end) did = absurd did.2
  asked_did (Err NotLoggedOn) None did = absurd did.2
  asked_did (Err NotLoggedOn) (Some end) did = stops_at did.0 code.Logon 0 end did.1 did.2
  asked_did (Err (Waiting n)) None did = absurd did.2
  asked_did (Err (Waiting n)) (Some end) did = stops_at did.0 code.Waiting n end did.1 did.2

  -- a centre cancelled
  cancelled : (cancel : Cancel) (message : Message) (end : Option End)
      → StationsDid (does (Cancelled line link cancel message ∷ [])) line before.craft.setting link log before.stations.items now.stations.items end
      → Did false (does (Cancelled line link cancel message ∷ [])) line log before now end
  cancelled cancel message None did =
      (station_acts (Cancelled line link cancel message) did.0 refl (λ other apart. cancelled_apart other line link cancel message (other_link other link apart)) did.1 did.2, no_entry)
  cancelled cancel message (Some end) did = absurd did.2

  cancelling_did : (cancel : Cancel) (number : Option ℕ) (end : Option End)
      → StationsDid (cancelling_step line link cancel number) line before.craft.setting link log before.stations.items now.stations.items end
      → Did false (cancelling_step line link cancel number) line log before now end
  cancelling_did cancel None None did = absurd did.2
  cancelling_did cancel None (Some end) did = stops_at did.0 code.Nothing 0 end did.1 did.2
  cancelling_did cancel (Some n) end did = cancelled cancel _ end did

  pub cancelled_did : (cancel : Cancel) (end : Option End)
      → StationsDid (cancel_step (history link log) line link cancel) line before.craft.setting link log before.stations.items now.stations.items end
      → Did false (cancel_step (history link log) line link cancel) line log before now end
  cancelled_did (Of kind) end did = cancelling_did (Of kind) _ end did
  cancelled_did EmergencyMode end did = cancelled EmergencyMode _ end did
  cancelled_did AllContracts end did = cancelled AllContracts _ end did

-- ---- entries that wait

-- one more entry waits
pub one_waits : (before now : Course) (log : List Happening) (entry : Entry) → StandsBehind before log → now.craft ≡ before.craft
    → now.burst.items ≡ before.burst.items ++ entry ∷ [] → IsTakenBy before.craft.setting entry → All (IsTakenBy now.craft.setting) now.burst.items
one_waits before now log entry stood craft burst taken =
    subst (λ s. All (IsTakenBy s) now.burst.items) (sym (ap (λ (c : Aircraft). c.setting) craft))
    (subst (λ these. All (IsTakenBy before.craft.setting) these) (sym burst)
    (All-append (IsTakenBy before.craft.setting) before.burst.items (entry ∷ []) stood.waiting
    (All-cons (IsTakenBy before.craft.setting) entry [] taken (All-nil (IsTakenBy before.craft.setting)))))

-- a text of this link was taken
pub text_taken : (before now : Course) (log : List Happening) (link line : ℕ) (entry : Entry) (station : Station) → StandsBehind before log
    → slice_get before.stations.items link ≡ Some station → is_centre_role station.role ≡ false
    → ((other : ℕ) → is_text_on other entry ≡ (other == link)) → IsTakenBy before.craft.setting entry
    → now.craft ≡ before.craft → now.refused ≡ before.refused → now.downlink_ends.items ≡ before.downlink_ends.items
    → now.stations.items ≡ set before.stations.items link (record station { role = Raw })
    → now.burst.items ≡ before.burst.items ++ entry ∷ []
    → Did true (takes log link (Entered entry ∷ [])) line log before now None
text_taken before now log link line entry station stood there unused text taken craft refused ends same burst =
    let stands : StationStands before.craft.setting link log station = stood.each link station there in
    rw (sym stands.centre ∙ unused) (
      one_acts before now log (Entered entry) link (record station { role = Raw }) stood (ap (λ (c : Aircraft). c.setting) craft)
          (slice_get_within before.stations.items link station there) same
          (record {
            listed = stands.listed;
            raw = sym (ap (λ b. b || is_raw link log) (text link ∙ same_link link));
            centre = sym (sym stands.centre ∙ unused);
            address = stands.address;
            registration = stands.registration;
            stands = stands.stands;
            sent = stands.sent ∙ sym (ap (map text_sent) (append-nil (sent_messages link log)));
          })
          (ap (λ v. v.items) refused ∙ sym (append-nil before.refused.items))
          (one_waits before now log entry stood craft burst taken)
          (knows_still before now stood.found craft ends)
          (λ other apart. entered_apart other entry (text other ∙ other_link other link apart)),
      record { craft = craft; burst = burst },
    )

-- a text of a centre's address is bad
pub text_of_centre : (course : Course) (log : List Happening) (link line : ℕ) (happenings : List Happening) (station : Station) (end : End) → StandsBehind course log
    → slice_get course.stations.items link ≡ Some station → is_centre_role station.role ≡ true → end ≡ ends_bad line code.Role 0
    → Did true (takes log link happenings) line log course course (Some end)
text_of_centre course log link line happenings station end stood there used is =
    rw (sym (stood.each link station there).centre ∙ used) (is, stood, record { craft = refl; burst = sym (append-nil course.burst.items) })

-- a message of this link's centre was brought
pub message_brought : (before now : Course) (log : List Happening) (link line place : ℕ) (sent : SentMessage) (entry : Entry) (station : Station) → StandsBehind before log
    → slice_get before.stations.items link ≡ Some station → is_raw link log ≡ false
    → entry ≡ entry_with line link sent.carried → slice_get (sent_messages link log) (place - 1) ≡ Some sent → IsTakenBy before.craft.setting entry
    → now.craft ≡ before.craft → now.refused ≡ before.refused → now.downlink_ends.items ≡ before.downlink_ends.items
    → now.stations.items ≡ set before.stations.items link (record station { role = Centre })
    → now.burst.items ≡ before.burst.items ++ entry ∷ []
    → Did true (bring_step (sent_messages link log) line link place) line log before now None
message_brought before now log link line place sent entry station stood there unused made found taken craft refused ends same burst =
    let stands : StationStands before.craft.setting link log station = stood.each link station there in
    rw (found, sym made) (
      one_acts before now log (Brought link place entry) link (record station { role = Centre }) stood (ap (λ (c : Aircraft). c.setting) craft)
          (slice_get_within before.stations.items link station there) same
          (record {
            listed = stands.listed;
            raw = sym unused;
            centre = sym (ap (λ b. b || is_centre link log) (same_link link));
            address = stands.address;
            registration = stands.registration;
            stands = stands.stands;
            sent = stands.sent ∙ sym (ap (map text_sent) (append-nil (sent_messages link log)));
          })
          (ap (λ v. v.items) refused ∙ sym (append-nil before.refused.items))
          (one_waits before now log entry stood craft burst taken)
          (knows_still before now stood.found craft ends)
          (λ other apart. brought_apart other link place entry (other_link other link apart)),
      record { craft = craft; burst = burst },
    )

-- ---- refused texts

-- a text was refused
pub text_refused : (before now : Course) (log : List Happening) (line : ℕ) (found : RefusedWhy) → StandsBehind before log → now.craft ≡ before.craft
    → now.stations ≡ before.stations → now.refused.items ≡ before.refused.items ++ record { line = line; why = found } ∷ [] → now.burst ≡ before.burst
    → now.downlink_ends ≡ before.downlink_ends → StandsBehind now (refusal_of line found ∷ log)
text_refused before now log line found stood craft stations refused burst ends =
    all_stay before now log (refusal_of line found) stood (ap (λ (c : Aircraft). c.setting) craft) (ap (λ v. v.items) stations) refused
    (subst (λ s. All (IsTakenBy s) now.burst.items) (sym (ap (λ (c : Aircraft). c.setting) craft))
    (subst (λ these. All (IsTakenBy before.craft.setting) these) (sym (ap (λ v. v.items) burst)) stood.waiting))
    (knows_still before now stood.found craft (ap (λ v. v.items) ends)) (λ link. refused_apart link (record { line = line; why = found }))

-- an entry of the flight was entered
pub flight_entered : (before now : Course) (log : List Happening) (line : ℕ) (entry : Entry) → StandsBehind before log
    → now.craft.setting ≡ before.craft.setting → now.craft.journal ≡ before.craft.journal ++ entry ∷ []
    → now.stations ≡ before.stations → now.refused ≡ before.refused → now.burst ≡ before.burst → now.downlink_ends ≡ before.downlink_ends
    → ((link : ℕ) → is_text_on link entry ≡ false)
    → Did false (does (Entered entry ∷ [])) line log before now None
flight_entered before now log line entry stood own journal stations refused burst ends flight = (
  all_stay before now log (Entered entry) stood own (ap (λ v. v.items) stations) (ap (λ v. v.items) refused ∙ sym (append-nil before.refused.items))
      (subst (λ s. All (IsTakenBy s) now.burst.items) (sym own)
      (subst (λ these. All (IsTakenBy before.craft.setting) these) (sym (ap (λ v. v.items) burst)) stood.waiting))
      (knows_on before now (entry ∷ []) stood.found own journal (ap (λ v. v.items) ends))
      (λ link. entered_apart link entry (flight link)),
  record { setting = own; journal = journal; burst = ap (λ v. v.items) burst },
)

-- ---- roles

-- the role of the station that is there
pub role_there : (stations : List Station) (link : ℕ) (station : Station) (role : Role) → slice_get stations link ≡ Some station
    → role ≡ (get_or stations link station).role → station.role ≡ role
role_there stations link station role there is = ap (λ (s : Station). s.role) (sym (get_or_from_slice_get stations link station station there)) ∙ sym is

pub not_centre : (role : Role) → (role ≡ Centre → ⊥) → is_centre_role role ≡ false
not_centre Unused differs = refl
not_centre Raw differs = refl
not_centre Centre differs = absurd (differs refl)

pub raw_is : (role : Role) → role ≡ Raw → is_raw_role role ≡ true
raw_is role is = ap is_raw_role is

pub not_raw : (role : Role) → (role ≡ Raw → ⊥) → is_raw_role role ≡ false
not_raw Unused differs = refl
not_raw Raw differs = absurd (differs refl)
not_raw Centre differs = refl

-- ---- payloads

-- what was taken
pub was_taken : (log : List Happening) (link line : ℕ) (entry : Entry) (before now : Course) → Did true (takes log link (Entered entry ∷ [])) line log before now None
    → (is_centre link log ≡ false) × StandsBehind now (Entered entry ∷ log) × Waits (entry ∷ []) before now
was_taken log link line entry before now did = at (is_centre link log) refl did
  where
    at : (used : Bool) → is_centre link log ≡ used → Did true (cond used (stops code.Role 0) (does (Entered entry ∷ []))) line log before now None
        → (is_centre link log ≡ false) × StandsBehind now (Entered entry ∷ log) × Waits (entry ∷ []) before now
    at true is did = absurd did
    at false is did = (is, did.0, did.1)

-- a text that is bad by its role is bad whatever it does
pub bad_by_role : (log : List Happening) (link line : ℕ) (one other : List Happening) (before now : Course) (end : End)
    → Did true (takes log link one) line log before now (Some end) → Did true (takes log link other) line log before now (Some end)
bad_by_role log link line one other before now end did = at (is_centre link log) did
  where
    at : (used : Bool) → Did true (cond used (stops code.Role 0) (does one)) line log before now (Some end)
        → Did true (cond used (stops code.Role 0) (does other)) line log before now (Some end)
    at true did = did
    at false did = absurd did

-- a right payload
pub payload_right : (log : List Happening) (link line : ℕ) (entry : Entry) (asked : Result UplinkMessages Refusal) (uplink : UplinkMessages) (before now : Course) (end : Option End)
    → asked ≡ Ok uplink → Did true (takes log link (Entered entry ∷ [])) line log before now end
    → Did true (takes log link (payload_happenings line entry asked)) line log before now end
payload_right log link line entry asked uplink before now end is did =
    subst (λ a. Did true (takes log link (payload_happenings line entry a)) line log before now end) (sym is) did

-- a malformed payload, whose text was taken
pub payload_wrong : (log : List Happening) (link line : ℕ) (entry : Entry) (asked : Result UplinkMessages Refusal) (refusal : Refusal) (before middle now : Course) (end : Option End)
    → asked ≡ Err refusal → Did true (takes log link (Entered entry ∷ [])) line log before middle None
    → Did true (does (refusal_of line (why.Bits refusal) ∷ [])) line (Entered entry ∷ log) middle now end
    → Did true (takes log link (payload_happenings line entry asked)) line log before now end
payload_wrong log link line entry asked refusal before middle now None is did refused =
    let taken = was_taken log link line entry before middle did in
    subst (λ a. Did true (takes log link (payload_happenings line entry a)) line log before now None) (sym is)
    (rw (taken.0)
    (refused.0, record { craft = refused.1.craft ∙ taken.2.craft; burst = refused.1.burst ∙ append-nil middle.burst.items ∙ taken.2.burst }))
payload_wrong log link line entry asked refusal before middle now (Some end) is did refused = absurd refused

-- a text that is bad by its role, as it ended
pub payload_bad : (log : List Happening) (link line : ℕ) (one other : List Happening) (before now : Course) (found : End) (end : Option End) → end ≡ Some found
    → Did true (takes log link one) line log before now end → Did true (takes log link other) line log before now end
payload_bad log link line one other before now found end is did =
    subst (λ e. Did true (takes log link other) line log before now e) (sym is)
    (bad_by_role log link line one other before now found (subst (λ e. Did true (takes log link one) line log before now e) is did))

-- a text that was taken
pub taken_none : (log : List Happening) (link line : ℕ) (entry : Entry) (before now : Course) (end : Option End) → end ≡ None
    → Did true (takes log link (Entered entry ∷ [])) line log before now end → Did true (takes log link (Entered entry ∷ [])) line log before now None
taken_none log link line entry before now end is did = subst (λ e. Did true (takes log link (Entered entry ∷ [])) line log before now e) is did

-- ---- messages that were sent

-- an item of a mapped list is that of an item
item_mapped : {A B : Type 0} (f : A → B) (all : List A) (place : ℕ) (found : B) → slice_get (map f all) place ≡ Some found
    → (one : A) × (slice_get all place ≡ Some one) × (found ≡ f one)
item_mapped f [] place found there = absurd (cc)
item_mapped f (one ∷ all) zero found there = (one, refl, some_same there)
  where
    some_same : Some (f one) ≡ Some found → found ≡ f one
    some_same e = cc
item_mapped f (one ∷ all) (suc place) found there = item_mapped f all place found there

none_mapped : {A B : Type 0} (f : A → B) (all : List A) (place : ℕ) → slice_get (map f all) place ≡ None → slice_get all place ≡ None
none_mapped f [] place there = refl
none_mapped f (one ∷ all) zero there = absurd (cc)
none_mapped f (one ∷ all) (suc place) there = none_mapped f all place there

pub message_kept : (course : Course) (log : List Happening) (link place : ℕ) (station : Station) (text : SentText) → StandsBehind course log
    → slice_get course.stations.items link ≡ Some station
    → slice_get (get_or course.stations.items link station).sent.items (place - 1) ≡ Some text
    → (sent : SentMessage) × (slice_get (sent_messages link log) (place - 1) ≡ Some sent) × (text ≡ text_of sent.carried)
message_kept course log link place station text stood there kept =
    item_mapped text_sent (sent_messages link log) (place - 1) text
    (ap (λ all. slice_get all (place - 1)) (sym (stood.each link station there).sent)
    ∙ ap (λ (s : Station). slice_get s.sent.items (place - 1)) (sym (get_or_from_slice_get course.stations.items link station station there)) ∙ kept)

pub message_missing : (course : Course) (log : List Happening) (link line place : ℕ) (station : Station) (count : ℕ) (end : End) → StandsBehind course log
    → slice_get course.stations.items link ≡ Some station
    → (slice_get (get_or course.stations.items link station).sent.items (place - 1) ≡ None) × (count ≡ length (get_or course.stations.items link station).sent.items)
    → end ≡ ends_bad line code.Number count → Did true (bring_step (sent_messages link log) line link place) line log course course (Some end)
message_missing course log link line place station count end stood there missing is =
    let same : (get_or course.stations.items link station).sent.items ≡ map text_sent (sent_messages link log) =
    ap (λ (s : Station). s.sent.items) (get_or_from_slice_get course.stations.items link station station there) ∙ (stood.each link station there).sent in
    let none : slice_get (sent_messages link log) (place - 1) ≡ None =
    none_mapped text_sent (sent_messages link log) (place - 1) (ap (λ all. slice_get all (place - 1)) (sym same) ∙ missing.0) in
    let counted : count ≡ length (sent_messages link log) = missing.1 ∙ ap length same ∙ length-map (sent_messages link log) text_sent in
    rw (none) (is ∙ ap (λ n. ends_bad line code.Number n) counted, stood, record { craft = refl; burst = sym (append-nil course.burst.items) })

-- ---- downlinks

-- a downlink was heard
pub downlink_heard : {E : Type 0} (line link : ℕ) (log : List Happening) (before now : Course) (stood : StandsBehind before log) → link < length before.stations.items
    → now.craft ≡ before.craft → now.refused.items ≡ before.refused.items → now.burst.items ≡ before.burst.items → KnowsEnds now
    → (place : ℕ) (texts : List (List ℕ)) (text : List ℕ) (result : Result (Option End) E)
    → AreDownlinks before.craft.setting before.craft.journal link texts → slice_get texts (place - 1) ≡ Some text
    → IfOk result (λ end. end ≡ None)
    → OnOk result ((setting : Setting) (log : List Happening) (line place : ℕ) → AreStations setting log before.stations.items → is_raw link log ≡ false
    → (hearing : Hearing) × Says (address_of setting link) setting.registration text hearing
    × (station : Station) × (now.stations.items ≡ set before.stations.items link station)
    × StationStands setting link (Heard line link place hearing ∷ log) station)
    → is_raw link log ≡ false → IfOk result (Did false (receives before.craft.setting link place) line log before now)
downlink_heard line link log before now stood inside craft refused burst known place texts text result are there none heard unused =
    if_ok_none result none heard (Did false (receives before.craft.setting link place) line log before now)
    (λ said.
    let did = said before.craft.setting log line place stood.each unused in (
      did.0,
      record { texts = texts; text = text; are_downlinks = are; there = there; says = did.1 },
      station_acts line link log before now stood inside craft refused burst known (Heard line link place did.0) did.2 refl
          (λ other apart. heard_apart other line link place did.0 (other_link other link apart)) did.3 did.4,
      no_entry line link log before now stood inside craft refused burst known,
    ))

-- a downlink isn't there
pub downlink_missing : (line link : ℕ) (log : List Happening) (before now : Course) → StandsBehind before log → now.craft ≡ before.craft
    → now.stations.items ≡ before.stations.items → now.refused.items ≡ before.refused.items → now.burst.items ≡ before.burst.items → KnowsEnds now
    → (place : ℕ) (texts : List (List ℕ)) (count : ℕ) (end : End) → AreDownlinks before.craft.setting before.craft.journal link texts
    → slice_get texts (place - 1) ≡ None → count ≡ length texts → end ≡ ends_bad line code.Number count
    → Did false (receives before.craft.setting link place) line log before now (Some end)
downlink_missing line link log before now stood craft same refused burst known place texts count end are none counted is = (
  count,
  record { texts = texts; are_downlinks = are; none = none; counted = counted },
  is,
  finds before now log stood craft same refused burst known,
  record {
    setting = ap (λ (c : Aircraft). c.setting) craft;
    journal = ap (λ (c : Aircraft). c.journal) craft ∙ sym (append-nil before.craft.journal);
    burst = burst;
  },
)
