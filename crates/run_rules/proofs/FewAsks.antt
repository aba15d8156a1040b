-- A centre that asks at most 255 times reuses no number too early.
use Rattle.std.proofs.Common.{◌≡◌, ◌⊎◌, ℕ, ◌-◌, ◌≤◌, inl, inr, Bool, false, List, [], ◌∷◌, ◌++◌, map, refl, sym, ap, ◌∙◌, subst, arith}
use Rattle.adsc_downlink.specs.Items.{ItemData}
use Rattle.adsc_requests.specs.Contents.{number_of}
use Rattle.adsc_requests.specs.declared.message.Message.{Message}
use Rattle.aircraft_core.specs.Entries.{latest_of, line_of}
use Rattle.aircraft_core.specs.JournalActs.{EntryActs}
use Rattle.aircraft_core.specs.Setting.{Setting, configuration_of}
use Rattle.aircraft_core.specs.declared.entry.Entry.{Entry}
use Rattle.aircraft_core.specs.declared.entry.Entry.TheVariants.{Uplink, Answer, Sample, Tick, Crew, Logon}
use Rattle.centre_core.specs.Hearing.{Hearing, Ignores, Greets, Tells}
use Rattle.contract_rules.specs.Acts.{Act, Said, Crew as CrewActed}
use Rattle.contract_rules.specs.Messages.{Message as RulesMessage, number_of as rules_number_of}
use Rattle.contract_rules.specs.Verdicts.{past_of}
use Rattle.contract_table.specs.Acts.{rules_message}
use Rattle.flight_samples.specs.declared.sample.Sample.{Sample as FlightSample}
use Rattle.run_rules.specs.Among.{IsAmong}
use Rattle.run_rules.specs.Claims.{BringsNothingOlder, CarriedBears, HasAccepted, HearingBears, ItemBears, MadeDownlink, NoEarlyReuse, NoOtherRowBears, ask_count}
use Rattle.run_rules.proofs.Deeds.{AreDeeds, IsDeed, IsSettled, MadeAsk, MadeHearing, bound_before}
use Rattle.run_rules.specs.Happenings.{Happening, Entered, Refused, Asked, Cancelled, Brought, Heard, Carried, Carries, Answers, entries, entry_in, is_raw, sent_messages}
use Rattle.run_rules.specs.Laws.{FewAsksReuseNothing}
use Rattle.run_rules.specs.Lines.{entry_with}
use Rattle.run_rules.specs.Orders.{IsOrdered, is_burst_line, reading_at}
use Rattle.run_rules.specs.Runs.{addresses_in, journal_at}
use Rattle.run_rules.specs.declared.reading.Reading.{Reading}
use Rattle.run_rules.proofs.AcceptedAt.{AcceptedAt, accepted_at, alone_among}
use Rattle.run_rules.proofs.Beginnings.{journal_among}
use Rattle.run_rules.proofs.CentreSteps.{is_ask}
use Rattle.run_rules.proofs.Confirmed.{sent_among}
use Rattle.run_rules.proofs.HeardItems.{BearsFrom, of_all, said_by_own, told_bears}
use Rattle.run_rules.proofs.HeardItems.BearsFrom.{from_message, from_emergency, from_nothing}
use Rattle.run_rules.proofs.KnownActs.{IsKnown, number_seen}
use Rattle.run_rules.proofs.MadeDownlinks.{IsOwnUplink, TellsOf, tells_of, told_with}
use Rattle.run_rules.proofs.Members.{among_back, among_front}
use Rattle.run_rules.proofs.OneMaker.{earlier_line, one_maker}
use Rattle.run_rules.proofs.Origins.{DoneAt, MadeIn, done_at, got_among, made_in, sent_before}
use Rattle.run_rules.proofs.OwnEntries.{BroughtOwn, brought_own, entry_of, own_or_zero}
use Rattle.run_rules.proofs.QuietLines.{AreQuiet, IsQuiet, quiet_run}
use Rattle.run_rules.proofs.RunDeeds.{run_deeds}
use Rattle.run_rules.proofs.SentSince.{asked_less, few_rows, own_ask_counts, sent_since}

-- ---- parts of a log

-- The number of an ask is 1 or more.
ask_some : (order : List ℕ) (setting : Setting) (number at link : ℕ) (request : Message) (log : List Happening) → AreDeeds order setting number log
    → IsAmong (Asked at link request) log → 1 ≤ number_of request
ask_some order setting number at link request [] deeds among = absurd among
ask_some order setting number at link request (happening ∷ log) deeds (inl is) =
    let made : MadeAsk setting log link request = (subst (IsDeed order setting deeds.0 log) is deeds.3).1 in
    let numbered = (is_ask setting log link request made).number in
    omega (arith, numbered)
ask_some order setting number at link request (happening ∷ log) deeds (inr among) =
    ask_some order setting (bound_before deeds.0 happening) at link request log deeds.4 among

-- An act of the crew in a log comes from a line that is in no burst.
crew_is_quiet : (order : List ℕ) (setting : Setting) (number : ℕ) (log : List Happening) (readings : List Reading) (line : ℕ) (on : Bool) → AreDeeds order setting number log
    → AreQuiet readings log → IsAmong (Crew line on) (entries log) → is_burst_line (reading_at readings line) ≡ false
crew_is_quiet order setting number log readings line on deeds quiet among = at (made_in log (Crew line on) among)
  where
    not_carried : (sent_at other : ℕ) (carried : Carried) → Crew line on ≡ entry_with sent_at other carried → ⊥
    not_carried sent_at other (Carries asked) is = cc
    not_carried sent_at other (Answers contact) is = cc

    by : (later : List Happening) (happening : Happening) (earlier : List Happening) → log ≡ later ++ happening ∷ earlier → IsAmong (Crew line on) (entry_in happening)
        → DoneAt order setting number later happening earlier → is_burst_line (reading_at readings line) ≡ false
    by later (Entered made) earlier split (inl same) done =
        of_all (IsQuiet readings) log (Entered (Crew line on)) quiet
        (subst (IsAmong (Entered (Crew line on))) (sym split) (among_back (Entered (Crew line on)) later (Entered made ∷ earlier) (inl (ap Entered same))))
    by later (Entered made) earlier split (inr never) done = absurd never
    by later (Brought other place made) earlier split (inl same) done =
        absurd (not_carried done.line other done.deed.1.sent.carried (sym same ∙ done.deed.1.entry))
    by later (Brought other place made) earlier split (inr never) done = absurd never
    by later (Refused refused) earlier split never done = absurd never
    by later (Asked l other request) earlier split never done = absurd never
    by later (Cancelled l other cancel sent) earlier split never done = absurd never
    by later (Heard l other place hearing) earlier split never done = absurd never

    at : MadeIn log (Crew line on) → is_burst_line (reading_at readings line) ≡ false
    at found =
        by found.later found.happening found.earlier found.split found.makes
        (done_at order setting number found.later found.happening found.earlier (subst (AreDeeds order setting number) found.split deeds))

module _ (order : List ℕ) (setting : Setting) (number : ℕ) (log : List Happening) (readings : List Reading) (act : Act) (deeds : AreDeeds order setting number log)
    (quiet : AreQuiet readings log) (crew : act ≡ CrewActed false) where
  said_off : (other : ℕ) (messages : List Message) → act ∷ [] ≡ map (λ asked. Said other (rules_message asked)) messages → ⊥
  said_off other [] is = cc
  said_off other (asked ∷ messages) is = cc

  -- An entry that ends an emergency comes from a line that is in no burst.
  crew_entry : (latest : FlightSample) (made : Entry) → EntryActs latest made (act ∷ []) → IsAmong made (entries log)
      → is_burst_line (reading_at readings (line_of made)) ≡ false
  crew_entry latest (Crew line on) is among = crew_is_quiet order setting number log readings line on deeds quiet among
  crew_entry latest (Uplink line other octets) (inl read) among = absurd (said_off other read.0.messages.items read.2)
  crew_entry latest (Uplink line other octets) (inr unread) among = absurd (let never = unread.2 in cc)
  crew_entry latest (Answer line other code) is among = absurd (cc)
  crew_entry latest (Sample line sample) is among = absurd (cc)
  crew_entry latest (Tick line t) is among = absurd (cc)
  crew_entry latest (Logon line other) is among = absurd (cc)

-- ---- what an uplink brought

module _ (order : List ℕ) (setting : Setting) (number link : ℕ) (log : List Happening) (deeds : AreDeeds order setting number log) (raw : is_raw link log ≡ false)
    (few : ask_count link log ≤ 255) (at : ℕ) (request : Message) (asked : IsAmong (Asked at link request) log) where
  -- The message that an uplink brought, where it bears the number of an ask, was sent since then, and before the uplink.
  uplink_since : (made : Entry) → IsAmong made (entries log) → IsOwnUplink link made → (latest : FlightSample) (here : List Act) (message : RulesMessage)
      → EntryActs latest made here → IsAmong (Said link message) here → rules_number_of message ≡ number_of request → at ≤ line_of made
  uplink_since made among own latest here message are stands number_is =
      let since = sent_since order setting number link at request log brought.sent deeds few asked sent_here bears in
      let before = sent_before order setting (line_of made) link brought.earlier brought.sent brought.before sent_there in
      omega (arith, since, before)
    where
      brought : BroughtOwn order setting log (line_of made) link made
      brought = brought_own order setting number link log (line_of made) made deeds raw refl own among

      sent_there : IsAmong brought.sent (sent_messages link brought.earlier)
      sent_there = got_among (sent_messages link brought.earlier) (brought.place - 1) brought.sent brought.there

      sent_here : IsAmong brought.sent (sent_messages link log)
      sent_here =
          subst (λ l. IsAmong brought.sent (sent_messages link l)) (sym brought.split)
          (sent_among link brought.later (Brought link brought.place made) brought.earlier brought.sent sent_there)

      seen : rules_message brought.asked ≡ message
      seen =
          let said : Said link (rules_message brought.asked) ≡ Said link message =
          alone_among (Said link message) (Said link (rules_message brought.asked)) here (brought.acts latest here are) stands in
          cc

      same : number_of brought.asked ≡ number_of request
      same = sym (number_seen brought.asked) ∙ ap rules_number_of seen ∙ number_is

      bears : CarriedBears (number_of request) brought.sent.carried
      bears = subst (CarriedBears (number_of request)) (sym brought.carries) (by (own_or_zero brought.asked))
        where
          by : (number_of brought.asked ≡ 0) ⊎ CarriedBears (number_of brought.asked) (Carries brought.asked) → CarriedBears (number_of request) (Carries brought.asked)
          by (inl none) = absurd (let some = ask_some order setting number at link request log deeds asked in omega (arith, none, same, some))
          by (inr own) = subst (λ n. CarriedBears n (Carries brought.asked)) same own

-- ---- a delivery

module _ (order : List ℕ) (setting : Setting) (settled : IsSettled setting) (addresses : List (List ℕ)) (readings : List Reading) (workers : ℕ)
    (ordered : IsOrdered addresses readings workers order) (number link : ℕ) (log : List Happening) (deeds : AreDeeds order setting number log) (quiet : AreQuiet readings log)
    (few : ask_count link log ≤ 255) (at : ℕ) (request : Message) (asked : IsAmong (Asked at link request) log) where
  told_since : (place : ℕ) (items : List ItemData) → MadeHearing order setting log link place (Tells items) → (item : ItemData) → IsAmong item items → ItemBears (number_of request) item
      → (made : Entry) → MadeDownlink setting (journal_at order log) link place made → at ≤ line_of made
  told_since place items heard item among bears made makes =
      subst (λ e. at ≤ line_of e) (one_maker setting link place (journal_at order log) tells.entry made tells.made makes)
      (by (told_bears (configuration_of setting) link (past_of (configuration_of setting) (told_with [] tells.earlier)) tells.act setting tells.sample item (number_of request) known
      (subst (IsAmong item) tells.told among) bears))
    where
      raw : is_raw link log ≡ false
      raw = heard.centre.role

      tells : TellsOf setting link (journal_at order log) place items
      tells =
          tells_of setting link settled heard.centre.inside (journal_at order log)
          (λ entry among. (entry_of order setting number link log entry deeds raw (journal_among order (entries log) entry among)).known)
          heard.texts place heard.text items heard.some heard.are_downlinks heard.there heard.says

      in_journal : (entry : Entry) → IsAmong entry (tells.before ++ tells.entry ∷ tells.behind) → IsAmong entry (entries log)
      in_journal entry among = journal_among order (entries log) entry (subst (IsAmong entry) (sym tells.joined) among)

      entry_among : IsAmong tells.entry (entries log)
      entry_among = in_journal tells.entry (among_back tells.entry tells.before (tells.entry ∷ tells.behind) (inl refl))

      known : IsKnown link tells.act
      known = ((entry_of order setting number link log tells.entry deeds raw entry_among).known.known (latest_of setting.first tells.before) (tells.act ∷ []) tells.is_act).0

      of_message : (message : RulesMessage) → tells.act ≡ Said link message → rules_number_of message ≡ number_of request → at ≤ line_of tells.entry
      of_message message said number_is =
          uplink_since order setting number link log deeds raw few at request asked tells.entry entry_among
          (said_by_own link (latest_of setting.first tells.before) tells.entry tells.act message tells.is_act said)
          (latest_of setting.first tells.before) (tells.act ∷ []) message tells.is_act (inl said) number_is

      of_emergency : (message : RulesMessage) → tells.act ≡ CrewActed false
          → HasAccepted link message (past_of (configuration_of setting) (told_with [] tells.earlier)) → rules_number_of message ≡ number_of request → at ≤ line_of tells.entry
      of_emergency message crew accepted number_is =
          let since =
          uplink_since order setting number link log deeds raw few at request asked found.made
          (in_journal found.made (among_front found.made tells.before (tells.entry ∷ tells.behind) found.among)) found.own found.before found.here message found.are found.stands
          number_is in
          let before =
          earlier_line addresses readings workers order (entries log) tells.before tells.entry tells.behind found.made ordered tells.joined
          (crew_entry order setting number log readings tells.act deeds quiet crew (latest_of setting.first tells.before) tells.entry tells.is_act entry_among) found.among in
          omega (arith, since, before)
        where
          found : AcceptedAt link tells.before message
          found = accepted_at (configuration_of setting) link setting.first tells.before tells.earlier message tells.are_earlier accepted

      by : BearsFrom link (past_of (configuration_of setting) (told_with [] tells.earlier)) tells.act (number_of request) → at ≤ line_of tells.entry
      by (from_message message said number_is) = of_message message said number_is
      by (from_emergency message crew accepted number_is) = of_emergency message crew accepted number_is
      by (from_nothing none) = absurd (let some = ask_some order setting number at link request log deeds asked in omega (arith, none, some))

  heard_since : (p : ℕ) (hearing : Hearing) → MadeHearing order setting log link p hearing → HearingBears (number_of request) hearing
      → (made : Entry) → MadeDownlink setting (journal_at order log) link p made → at ≤ line_of made
  heard_since p (Tells items) heard bears made makes = told_since p items heard bears.0 bears.1 bears.2 made makes
  heard_since p (Ignores why) heard bears made makes = absurd bears
  heard_since p (Greets contact) heard bears made makes = absurd bears

  -- What is brought or heard at a happening, and bears the number of an ask, isn't older.
  nothing_older : (line : ℕ) (happening : Happening) → IsDeed order setting line log happening
      → BringsNothingOlder setting order link at (number_of request) happening log
  nothing_older line (Brought other p made) deed = λ same sent there bears.
      sent_since order setting number link at request log sent deeds few asked (got_among (sent_messages link log) (p - 1) sent there) bears
  nothing_older line (Heard l other p hearing) deed = λ same bears made makes.
      heard_since p hearing (subst (λ k. MadeHearing order setting log k p hearing) (sym same) deed.1) bears made makes
  nothing_older line (Entered made) deed = tt
  nothing_older line (Refused refused) deed = tt
  nothing_older line (Asked l other r) deed = tt
  nothing_older line (Cancelled l other cancel sent) deed = tt

-- ---- the law

quiet_part : (readings : List Reading) (later log : List Happening) → AreQuiet readings (later ++ log) → AreQuiet readings log
quiet_part readings [] log quiet = quiet
quiet_part readings (happening ∷ later) log quiet = quiet_part readings later log quiet.1

-- So no number is reused too early: no row bears the number of an ask, and nothing older that bears it is brought or heard.
pub few_reuse_nothing : (order : List ℕ) (setting : Setting) (number : ℕ) (log : List Happening) (addresses : List (List ℕ)) (readings : List Reading) (workers link : ℕ)
    → IsSettled setting → AreDeeds order setting number log → AreQuiet readings log → IsOrdered addresses readings workers order → ask_count link log ≤ 255
    → NoEarlyReuse setting order link log
few_reuse_nothing order setting number log addresses readings workers link settled deeds quiet ordered few = record { rows = rows; messages = messages }
  where
    rows : (later : List Happening) (line : ℕ) (request : Message) (earlier : List Happening) → log ≡ later ++ Asked line link request ∷ earlier
        → NoOtherRowBears link request earlier
    rows later line request earlier split =
        let done = done_at order setting number later (Asked line link request) earlier (subst (AreDeeds order setting number) split deeds) in
        let less = asked_less link later (Asked line link request ∷ earlier) in
        let counted = own_ask_counts link line request earlier in
        let all : ask_count link log ≡ ask_count link (later ++ Asked line link request ∷ earlier) = ap (ask_count link) split in
        few_rows order setting done.line link line request earlier done.before done.deed.1 (omega (arith, less, counted, all, few))

    messages : (later : List Happening) (happening : Happening) (earlier : List Happening) (line : ℕ) (request : Message) → log ≡ later ++ happening ∷ earlier
        → IsAmong (Asked line link request) earlier → BringsNothingOlder setting order link line (number_of request) happening earlier
    messages later happening earlier line request split asked =
        let done = done_at order setting number later happening earlier (subst (AreDeeds order setting number) split deeds) in
        let quiets = quiet_part readings later (happening ∷ earlier) (subst (AreQuiet readings) split quiet) in
        let less = asked_less link later (happening ∷ earlier) in
        let one = asked_less link (happening ∷ []) earlier in
        let all : ask_count link log ≡ ask_count link (later ++ happening ∷ earlier) = ap (ask_count link) split in
        nothing_older order setting settled addresses readings workers ordered (bound_before done.line happening) link earlier done.before quiets.1
        (omega (arith, less, one, all, few)) line request asked done.line happening done.deed

-- The law, of the log of a run.
pub few_asks_reuse_nothing : FewAsksReuseNothing
few_asks_reuse_nothing bytes script order run workers setting link is runs allowed made few =
    let has = run_deeds bytes script order run setting is runs made in
    few_reuse_nothing order setting has.number run.log (addresses_in run.setting) script.readings workers link has.settled has.deeds (quiet_run script order run runs)
    allowed.ordered few
