-- Which entry a line makes: none, or one, which bears the line's number; and the text of a burst line comes on the link whose place its
-- address has.
use Rattle.std.proofs.Common.{◌≡◌, ◌<◌, ◌-◌, ◌==◌, ℕ, Bool, true, false, cond, List, [], ◌∷◌, length, Option, Some, None, Result, Ok, Err, slice_get, option_and_then, refl, sym, subst, true≢false}
use Rattle.std.proofs.lemmas.Option.{option_and_then_some}
use Rattle.adsc_requests.specs.declared.message.Message.{Message}
use Rattle.adsc_requests.specs.declared.message.Uplink.{Uplink as UplinkMessages}
use Rattle.adsc_requests.specs.declared.refusal.Refusal.{Refusal}
use Rattle.afn_logon.specs.declared.answer.Answer.{Answer as LogonAnswer}
use Rattle.afn_logon.specs.declared.refusal.AfnRefusal.{AfnRefusal}
use Rattle.aircraft_core.specs.Entries.{is_heard_by, line_of}
use Rattle.aircraft_core.specs.Setting.{Setting}
use Rattle.aircraft_core.specs.declared.entry.Entry.{Entry}
use Rattle.aircraft_core.specs.declared.entry.Entry.TheVariants.{Uplink, Answer, Sample, Tick, Crew, Logon}
use Rattle.centre_core.specs.Events.{CentreEvent}
use Rattle.centre_core.specs.Histories.{next_number_at, row_at, table_at}
use Rattle.centre_core.specs.Tables.{number_to_cancel, request_or_refusal}
use Rattle.centre_core.specs.declared.refusal.AskRefused.{AskRefused}
use Rattle.centre_core.specs.declared.refusal.AskRefused.TheVariants.{NotLoggedOn, Waiting}
use Rattle.ground_texts.specs.declared.ground_text.AdsUplink.{AdsUplink}
use Rattle.ground_texts.specs.declared.ground_text.AfnUplink.{AfnUplink}
use Rattle.ground_texts.specs.declared.ground_text.GroundText.{GroundText}
use Rattle.ground_texts.specs.declared.ground_text.GroundText.TheVariants as text
use Rattle.net_script.specs.declared.line.Cancel.{Cancel}
use Rattle.net_script.specs.declared.line.Cancel.TheVariants.{Of, EmergencyMode, All}
use Rattle.net_script.specs.declared.line.ScriptLine.{ScriptLine}
use Rattle.net_script.specs.declared.line.ScriptLine.TheVariants as line
use Rattle.net_script.specs.declared.refusal.Code.TheVariants as code
use Rattle.run_rules.specs.EarlierLines.{text_link}
use Rattle.run_rules.specs.Happenings.{Happening, Entered, Heard, Carried, Carries, Answers, SentMessage, entries, history, is_centre, is_raw, sent_messages}
use Rattle.run_rules.specs.Lines.{as_centre, ask_step, asking_step, bring_step, bringing_step, cancel_step, cancelling_step, entry_with, flight_step, on_link, step_of}
use Rattle.run_rules.specs.Orders.{address_in, is_burst_line, place_on}
use Rattle.run_rules.specs.Stages.{Step, does, receives, stops, flying}
use Rattle.run_rules.specs.Texts.{characters_step, link_from, link_to, notice_step, payload_happenings, same_text, takes, text_step, uplink_step}
use Rattle.run_rules.specs.declared.reading.Reading.{Reading}
use Rattle.run_rules.specs.declared.reading.Reading.TheVariants.{Bad, Says, Brings}
use Rattle.run_rules.proofs.RunDeeds.{link_inside}

-- There is no entry, or one of which this holds.
abbrev pub NoneOrOne : (Entry → Type 0) → List Entry → Type 0
NoneOrOne P [] = Unit {0}
NoneOrOne P (made ∷ []) = P made
NoneOrOne P (made ∷ other ∷ more) = ⊥

-- None of the happenings is a hearing.
abbrev pub HearsNothing : List Happening → Type 0
HearsNothing [] = Unit {0}
HearsNothing (Heard number link place hearing ∷ happenings) = ⊥
HearsNothing (happening ∷ happenings) = HearsNothing happenings

-- A step in the flight of this aircraft makes no entry, or one of which this holds. It hears nothing by itself; and where it brings a
-- downlink, that is the aircraft's own, and this holds besides.
abbrev pub MakesOne : Setting → Type 0 → (Entry → Type 0) → Step → Type 0
MakesOne setting Q P (does happenings) = NoneOrOne P (entries happenings) × HearsNothing happenings
MakesOne setting Q P (receives other link place) = (other ≡ setting) × Q
MakesOne setting Q P (stops found value) = Unit {0}

-- The text's entry bears the line's number, comes on this link, and is heard by this link alone.
abbrev pub OnLink : ℕ → Option ℕ → Entry → Type 0
OnLink number link made = (line_of made ≡ number) × (link ≡ Some (text_link made)) × ((other : ℕ) → is_heard_by other made ≡ (other == text_link made))

abbrev pub OfLine : ℕ → Entry → Type 0
OfLine number made = line_of made ≡ number

-- The link of an uplink is one of the aircraft's.
abbrev pub IsInside : Setting → Entry → Type 0
IsInside setting (Uplink line link bytes) = link < length setting.addresses
IsInside setting made = Unit {0}

-- The entry bears the line's number, and an uplink's link is one of the aircraft's.
abbrev OwnEntry : Setting → ℕ → Entry → Type 0
OwnEntry setting number made = OfLine number made × IsInside setting made

none_or_one_more : (P Q : Entry → Type 0) → ((made : Entry) → P made → Q made) → (made : List Entry) → NoneOrOne P made → NoneOrOne Q made
none_or_one_more P Q more [] one = tt
none_or_one_more P Q more (made ∷ []) one = more made one
none_or_one_more P Q more (made ∷ other ∷ others) one = absurd one

payload_makes : (P : Entry → Type 0) (number : ℕ) (made : Entry) (asked : Result UplinkMessages Refusal) → P made
    → NoneOrOne P (entries (payload_happenings number made asked)) × HearsNothing (payload_happenings number made asked)
payload_makes P number made (Ok uplink) holds = (holds, tt)
payload_makes P number made (Err refusal) holds = (holds, tt)

module _ (setting : Setting) (Q : Type 0) where
  makes_either : (P : Entry → Type 0) (b : Bool) (one other : Step) → MakesOne setting Q P one → MakesOne setting Q P other
      → MakesOne setting Q P (cond b one other)
  makes_either P true one other first second = first
  makes_either P false one other first second = second

  makes_more : (P R : Entry → Type 0) → ((made : Entry) → P made → R made) → (step : Step) → MakesOne setting Q P step → MakesOne setting Q R step
  makes_more P R more (does happenings) one = (none_or_one_more P R more (entries happenings) one.0, one.1)
  makes_more P R more (receives other link place) one = one
  makes_more P R more (stops found value) one = tt

  -- ---- texts

  takes_makes : (P : Entry → Type 0) (log : List Happening) (link : ℕ) (happenings : List Happening) → NoneOrOne P (entries happenings) × HearsNothing happenings
      → MakesOne setting Q P (takes log link happenings)
  takes_makes P log link happenings makes = makes_either P (is_centre link log) _ (does happenings) tt makes

  module _ (log : List Happening) (number : ℕ) where
    uplink_makes : (uplink : AdsUplink) (link : Option ℕ) → MakesOne setting Q (OnLink number link) (uplink_step setting log number uplink link)
    uplink_makes uplink None = (tt, tt)
    uplink_makes uplink (Some link) =
        makes_either (OnLink number (Some link)) (same_text uplink.registration setting.registration) _ _
        (takes_makes (OnLink number (Some link)) log link (payload_happenings number (Uplink number link uplink.octets) uplink.asked)
        (payload_makes (OnLink number (Some link)) number (Uplink number link uplink.octets) uplink.asked (refl, refl, λ other. refl)))
        (tt, tt)

    characters_make : (link : ℕ) (answer : Result LogonAnswer AfnRefusal)
        → MakesOne setting Q (OnLink number (Some link)) (characters_step setting log number link answer)
    characters_make link (Ok answer) =
        makes_either (OnLink number (Some link)) (same_text answer.registration setting.registration) _ _
        (takes_makes (OnLink number (Some link)) log link (Entered (Answer number link answer.code) ∷ []) ((refl, refl, λ other. refl), tt))
        (tt, tt)
    characters_make link (Err refusal) = (tt, tt)

    notice_makes : (notice : AfnUplink) (link : Option ℕ) → MakesOne setting Q (OnLink number link) (notice_step setting log number notice link)
    notice_makes notice None = (tt, tt)
    notice_makes notice (Some link) = characters_make link notice.answer

    text_makes : (reading : GroundText)
        → MakesOne setting Q (OnLink number (place_on setting.addresses (Some (Brings reading)))) (text_step setting log number reading)
    text_makes (text.Refused fault) = (tt, tt)
    text_makes (text.Ads uplink) = uplink_makes uplink (link_to setting uplink.address)
    text_makes (text.Afn notice) = notice_makes notice (link_to setting notice.address)

  -- ---- what centres do

  makes_on_link : (P : Option ℕ → Entry → Type 0) (address : List ℕ) (step : ℕ → Step)
      → ((link : ℕ) → MakesOne setting Q (P (Some link)) (step link)) → MakesOne setting Q (P (link_to setting address)) (on_link setting address step)
  makes_on_link P address step makes = at (link_to setting address)
    where
      at : (link : Option ℕ) → MakesOne setting Q (P link) (elim link [ None ↦ stops code.Address 1 | Some found ↦ step found ])
      at None = tt
      at (Some link) = makes link

  makes_as_centre : (P : Option ℕ → Entry → Type 0) (log : List Happening) (address : List ℕ) (step : ℕ → Step)
      → ((link : ℕ) → MakesOne setting Q (P (Some link)) (step link)) → MakesOne setting Q (P (link_to setting address)) (as_centre setting log address step)
  makes_as_centre P log address step makes =
      makes_on_link P address (λ link. cond (is_raw link log) (stops code.Role 0) (step link))
      (λ link. makes_either (P (Some link)) (is_raw link log) (stops code.Role 0) (step link) tt (makes link))

  bring_makes : (sent : List SentMessage) (number link place : ℕ) → MakesOne setting Q (OnLink number (Some link)) (bring_step sent number link place)
  bring_makes sent number link place = at (slice_get sent (place - 1))
    where
      carried : (what : Carried) → OnLink number (Some link) (entry_with number link what)
      carried (Carries asked) = (refl, refl, λ other. refl)
      carried (Answers contact) = (refl, refl, λ other. refl)

      at : (found : Option SentMessage) → MakesOne setting Q (OnLink number (Some link)) (bringing_step number link place sent found)
      at None = tt
      at (Some one) = (carried one.carried, tt)

  ask_makes : (P : Entry → Type 0) (w : List CentreEvent) (number link : ℕ) (request : Message) → MakesOne setting Q P (ask_step w number link request)
  ask_makes P w number link request = at (request_or_refusal request (next_number_at w) (table_at w))
    where
      at : (result : Result Message AskRefused) → MakesOne setting Q P (asking_step number link result)
      at (Ok request) = (tt, tt)
      at (Err NotLoggedOn) = tt
      at (Err (Waiting n)) = tt

  cancel_makes : (P : Entry → Type 0) (w : List CentreEvent) (number link : ℕ) (cancel : Cancel) → MakesOne setting Q P (cancel_step w number link cancel)
  cancel_makes P w number link (Of kind) = at (number_to_cancel (row_at kind w))
    where
      at : (found : Option ℕ) → MakesOne setting Q P (cancelling_step number link (Of kind) found)
      at None = tt
      at (Some n) = (tt, tt)
  cancel_makes P w number link EmergencyMode = (tt, tt)
  cancel_makes P w number link All = (tt, tt)

  module _ (log : List Happening) (number : ℕ) where
    brought_makes : (address : List ℕ) (place : ℕ)
        → MakesOne setting Q (OnLink number (link_to setting address)) (as_centre setting log address (λ link. bring_step (sent_messages link log) number link place))
    brought_makes address place =
        makes_as_centre (OnLink number) log address (λ link. bring_step (sent_messages link log) number link place)
        (λ link. bring_makes (sent_messages link log) number link place)

-- ---- lines

module _ (setting : Setting) (log : List Happening) (number : ℕ) where
  text_inside : (address : Option (List ℕ)) (made : Entry) → OnLink number (option_and_then (link_from 0 setting.addresses) address) made → OwnEntry setting number made
  text_inside address (Uplink line link bytes) on = (
    on.0,
    option_and_then_some (link_from 0 setting.addresses) address link on.1
        (λ found e there. link_inside setting found link there),
  )
  text_inside address (Answer line link found) on = (on.0, tt)
  text_inside address (Sample line sample) on = (on.0, tt)
  text_inside address (Tick line moment) on = (on.0, tt)
  text_inside address (Crew line on_off) on = (on.0, tt)
  text_inside address (Logon line link) on = (on.0, tt)

  flight_makes : (value : ScriptLine) → MakesOne setting (Unit {0}) (OwnEntry setting number) (flight_step setting log number value)
  flight_makes (line.S sample) = ((refl, tt), tt)
  flight_makes (line.T moment) = ((refl, tt), tt)
  flight_makes (line.E on) = ((refl, tt), tt)
  flight_makes (line.L address) = makes_on_link setting (Unit {0}) (λ link. OwnEntry setting number) address _ (λ link. ((refl, tt), tt))
  flight_makes (line.C address request) =
      makes_as_centre setting (Unit {0}) (λ link. OwnEntry setting number) log address (λ link. ask_step (history link log) number link request)
      (λ link. ask_makes setting (Unit {0}) (OwnEntry setting number) (history link log) number link request)
  flight_makes (line.K address cancel) =
      makes_as_centre setting (Unit {0}) (λ link. OwnEntry setting number) log address (λ link. cancel_step (history link log) number link cancel)
      (λ link. cancel_makes setting (Unit {0}) (OwnEntry setting number) (history link log) number link cancel)
  flight_makes (line.B address place) =
      makes_more setting (Unit {0}) (OnLink number (link_to setting address)) (OwnEntry setting number) (text_inside (Some address))
      (as_centre setting log address (λ link. bring_step (sent_messages link log) number link place)) (brought_makes setting (Unit {0}) log number address place)
  flight_makes (line.R address place) = makes_as_centre setting (Unit {0}) (λ link. OwnEntry setting number) log address (λ link. receives setting link place) (λ link. (refl, tt))
  flight_makes (line.A who) = tt
  flight_makes (line.G addresses reserved) = tt
  flight_makes (line.U from) = tt

  line_makes : (reading : Reading) → MakesOne setting (Unit {0}) (OwnEntry setting number) (step_of (flying setting) log number reading)
  line_makes (Bad found value) = tt
  line_makes (Says value) = flight_makes value
  line_makes (Brings reading) =
      makes_more setting (Unit {0}) (OnLink number (place_on setting.addresses (Some (Brings reading)))) (OwnEntry setting number) (text_inside (address_in (Some (Brings reading))))
      (text_step setting log number reading) (text_makes setting (Unit {0}) log number reading)

  burst_line_makes : (reading : Reading) → is_burst_line (Some reading) ≡ true
      → MakesOne setting ⊥ (OnLink number (place_on setting.addresses (Some reading))) (step_of (flying setting) log number reading)
  burst_line_makes (Bad found value) is_burst = tt
  burst_line_makes (Brings reading) is_burst = text_makes setting ⊥ log number reading
  burst_line_makes (Says (line.B address place)) is_burst = brought_makes setting ⊥ log number address place
  burst_line_makes (Says (line.S sample)) is_burst = absurd (true≢false (sym is_burst))
  burst_line_makes (Says (line.T moment)) is_burst = absurd (true≢false (sym is_burst))
  burst_line_makes (Says (line.E on)) is_burst = absurd (true≢false (sym is_burst))
  burst_line_makes (Says (line.L address)) is_burst = absurd (true≢false (sym is_burst))
  burst_line_makes (Says (line.C address request)) is_burst = absurd (true≢false (sym is_burst))
  burst_line_makes (Says (line.K address cancel)) is_burst = absurd (true≢false (sym is_burst))
  burst_line_makes (Says (line.R address place)) is_burst = absurd (true≢false (sym is_burst))
  burst_line_makes (Says (line.A who)) is_burst = absurd (true≢false (sym is_burst))
  burst_line_makes (Says (line.G addresses reserved)) is_burst = absurd (true≢false (sym is_burst))
  burst_line_makes (Says (line.U from)) is_burst = absurd (true≢false (sym is_burst))

  -- What a line of the flight enters, if it enters something, is one entry that bears its number.
  pub one_of_line : (reading : Reading) (happenings : List Happening) → step_of (flying setting) log number reading ≡ does happenings
      → NoneOrOne (OfLine number) (entries happenings)
  one_of_line reading happenings step =
      none_or_one_more (OwnEntry setting number) (OfLine number) (λ made own. own.0) (entries happenings) (subst (MakesOne setting (Unit {0}) (OwnEntry setting number)) step (line_makes reading)).0

  -- Its link is the aircraft's.
  pub inside_of_line : (reading : Reading) (happenings : List Happening) → step_of (flying setting) log number reading ≡ does happenings
      → NoneOrOne (IsInside setting) (entries happenings)
  inside_of_line reading happenings step =
      none_or_one_more (OwnEntry setting number) (IsInside setting) (λ made own. own.1) (entries happenings) (subst (MakesOne setting (Unit {0}) (OwnEntry setting number)) step (line_makes reading)).0

  -- And that of a burst line came on the link whose place its address has.
  pub one_of_burst_line : (reading : Reading) (happenings : List Happening) → is_burst_line (Some reading) ≡ true
      → step_of (flying setting) log number reading ≡ does happenings
      → NoneOrOne (OnLink number (place_on setting.addresses (Some reading))) (entries happenings)
  one_of_burst_line reading happenings is_burst step =
      (subst (MakesOne setting ⊥ (OnLink number (place_on setting.addresses (Some reading)))) step (burst_line_makes reading is_burst)).0

  -- A line of the flight brings downlinks of the aircraft alone.
  pub own_downlinks : (reading : Reading) (other : Setting) (link place : ℕ) → step_of (flying setting) log number reading ≡ receives other link place
      → other ≡ setting
  own_downlinks reading other link place step = (subst (MakesOne setting (Unit {0}) (OwnEntry setting number)) step (line_makes reading)).0

  -- A line hears nothing by what it does itself.
  pub line_hears_nothing : (reading : Reading) (happenings : List Happening) → step_of (flying setting) log number reading ≡ does happenings
      → HearsNothing happenings
  line_hears_nothing reading happenings step = (subst (MakesOne setting (Unit {0}) (OwnEntry setting number)) step (line_makes reading)).1

  -- And a line of a burst brings no downlink.
  pub burst_line_receives_nothing : (reading : Reading) (other : Setting) (link place : ℕ) → is_burst_line (Some reading) ≡ true
      → step_of (flying setting) log number reading ≡ receives other link place → ⊥
  burst_line_receives_nothing reading other link place is_burst step =
      (subst (MakesOne setting ⊥ (OnLink number (place_on setting.addresses (Some reading)))) step (burst_line_makes reading is_burst)).1
