-- Each script has a run under each order: each journal has downlinks, and each of them says something.
use Rattle.std.proofs.Common.{◌≡◌, ℕ, ◌+◌, ◌-◌, ◌==◌, Bool, true, false, cond, List, [], ◌∷◌, ◌++◌, filter, length, map, Option, Some, None, Result, Ok, Err, inl, inr, refl, sym, subst, arith}
use Rattle.std.specs.List.{AllByRecursion, slice_get}
use Rattle.hex.specs.Hex.{IsBytes}
use Rattle.adsc_io.specs.Inputs.{lines_before_limit}
use Rattle.adsc_requests.specs.declared.message.Message.{Message}
use Rattle.adsc_requests.specs.declared.message.Uplink.{Uplink as UplinkMessages}
use Rattle.adsc_requests.specs.declared.refusal.Refusal.{Refusal}
use Rattle.adsc_requests.proofs.Whole.{written_encodes}
use Rattle.aircraft_core.specs.Downlinks.{AreDownlinks, journal_texts}
use Rattle.aircraft_core.specs.Entries.{latest_after, line_of}
use Rattle.aircraft_core.specs.JournalActs.{EntryActs, JournalActs, UplinkActs}
use Rattle.aircraft_core.specs.Setting.{Setting, address_of}
use Rattle.aircraft_core.specs.declared.entry.Entry.{Entry}
use Rattle.aircraft_core.specs.declared.entry.Entry.TheVariants as entry
use Rattle.centre_core.specs.Sending.{message_payload}
use Rattle.contract_rules.specs.Acts.{Act, Said, Malformed}
use Rattle.contract_table.specs.Acts.{rules_message, rules_fault}
use Rattle.flight_samples.specs.declared.sample.Sample.{Sample as FlightSample}
use Rattle.ground_texts.specs.Readings.{ReadsPayload}
use Rattle.ground_texts.proofs.EachUplink.{each_payload}
use Rattle.net_script.specs.declared.refusal.Code.TheVariants as code
use Rattle.run_rules.proofs.Deeds.{AreDeeds, IsDeed, MadeEntry, bound_before}
use Rattle.run_rules.specs.Happenings.{Happening, Entered, Brought, Heard, Carried, Carries, Answers, entries, entry_in}
use Rattle.run_rules.specs.Lines.{entry_with, step_of}
use Rattle.run_rules.specs.Orders.{journal_of}
use Rattle.run_rules.specs.Runs.{IsScript, LinesRun, ReadsLines, Run, Script, ScriptRun, StepRuns, DeliveryRuns, end_behind, ended_run, journal_at, stopped_run}
use Rattle.run_rules.specs.Stages.{Stage, begun, named, linked, flying, Step, does, receives, stops, stage_after}
use Rattle.run_rules.specs.declared.reading.Reading.{Reading}
use Rattle.run_rules.proofs.Along.{GoesTo}
use Rattle.run_rules.proofs.EachHearing.{each_hearing}
use Rattle.run_rules.proofs.RunDeeds.{HasCome, comes_on}

-- ---- entries have acts

-- The payload of an uplink is read: it has acts.
abbrev pub IsReadEntry : Entry → Type 0
IsReadEntry (entry.Uplink line link octets) = (acts : List Act) × UplinkActs link octets.items acts
IsReadEntry made = Unit {0}

-- A payload of bytes has acts.
pub payload_acts : (link : ℕ) (octets : List ℕ) → IsBytes octets → (acts : List Act) × UplinkActs link octets acts
payload_acts link octets bytes = let read = each_payload octets bytes in at read.0 read.1
  where
    at : (asked : Result UplinkMessages Refusal) → ReadsPayload octets asked → (acts : List Act) × UplinkActs link octets acts
    at (Ok uplink) encodes = (map (λ message. Said link (rules_message message)) uplink.messages.items, inl (uplink, encodes, refl))
    at (Err refusal) fault = (Malformed link (rules_fault refusal) ∷ [], inr (refusal, fault, refl))

-- An uplink of this one message.
abbrev pub uplink_with : Message → UplinkMessages
uplink_with asked = record { messages = record { items = asked ∷ [] }; some = omega arith; few = omega arith }

-- So has the payload of what a centre sent.
pub sent_acts : (link : ℕ) (asked : Message) → UplinkActs link (message_payload asked) (Said link (rules_message asked) ∷ [])
sent_acts link asked = inl (uplink_with asked, written_encodes (uplink_with asked), refl)

sent_is_read : (line link : ℕ) (carried : Carried) → IsReadEntry (entry_with line link carried)
sent_is_read line link (Carries asked) = (Said link (rules_message asked) ∷ [], sent_acts link asked)
sent_is_read line link (Answers contact) = tt

made_is_read : (setting : Setting) (line : ℕ) (log : List Happening) (made : Entry) → MadeEntry setting line log made → IsReadEntry made
made_is_read setting line log (entry.Uplink number link octets) deed = payload_acts link octets.items deed.text.0
made_is_read setting line log made deed = tt

-- Each entry that a deed makes is read.
deed_is_read : (order : List ℕ) (setting : Setting) (line : ℕ) (log : List Happening) (happening : Happening)
    → IsDeed order setting line log happening → AllByRecursion IsReadEntry (entry_in happening)
deed_is_read order setting line log (Entered made) deed = (made_is_read setting line log made deed, tt)
deed_is_read order setting line log (Brought link place made) deed =
    (subst IsReadEntry (sym deed.1.entry) (sent_is_read line link deed.1.sent.carried), tt)
deed_is_read order setting line log happening deed = tt

all_append : {A : Type 0} (P : A → Type 0) (xs ys : List A) → AllByRecursion P xs → AllByRecursion P ys → AllByRecursion P (xs ++ ys)
all_append P [] ys all others = others
all_append P (x ∷ xs) ys all others = (all.0, all_append P xs ys all.1 others)

-- Each entry of a log of deeds is read.
pub entries_are_read : (order : List ℕ) (setting : Setting) (number : ℕ) (log : List Happening) → AreDeeds order setting number log
    → AllByRecursion IsReadEntry (entries log)
entries_are_read order setting number [] deeds = tt
entries_are_read order setting number (happening ∷ log) deeds =
    all_append IsReadEntry (entries log) (entry_in happening)
    (entries_are_read order setting (bound_before deeds.0 happening) log deeds.4)
    (deed_is_read order setting deeds.0 log happening deeds.3)

-- ---- journals have downlinks

all_filter : {A : Type 0} (P : A → Type 0) (test : A → Bool) (xs : List A) → AllByRecursion P xs → AllByRecursion P (filter test xs)
all_filter P test [] all = tt
all_filter P test (x ∷ xs) all = at (test x) (all_filter P test xs all.1)
  where
    at : (b : Bool) → AllByRecursion P (filter test xs) → AllByRecursion P (cond b (x ∷ filter test xs) (filter test xs))
    at true rest = (all.0, rest)
    at false rest = rest

-- Each entry of a journal is one of its entries.
journal_is_read : (order : List ℕ) (made : List Entry) → AllByRecursion IsReadEntry made → AllByRecursion IsReadEntry (journal_of order made)
journal_is_read [] made all = tt
journal_is_read (number ∷ order) made all =
    all_append IsReadEntry (filter (λ e. line_of e == number) made) (journal_of order made)
    (all_filter IsReadEntry (λ e. line_of e == number) made all)
    (journal_is_read order made all)

entry_acts : (latest : FlightSample) (made : Entry) → IsReadEntry made → (acts : List Act) × EntryActs latest made acts
entry_acts latest (entry.Uplink line link octets) read = read
entry_acts latest (entry.Answer line link found) read = (_, refl)
entry_acts latest (entry.Sample line sample) read = (_, refl)
entry_acts latest (entry.Tick line moment) read = (_, refl)
entry_acts latest (entry.Crew line on) read = (_, refl)
entry_acts latest (entry.Logon line link) read = (_, refl)

journal_acts : (latest : FlightSample) (journal : List Entry) → AllByRecursion IsReadEntry journal
    → (acts : List (List Act)) × JournalActs latest journal acts
journal_acts latest [] read = ([], refl)
journal_acts latest (made ∷ journal) read =
    let first = entry_acts latest made read.0 in
    let others = journal_acts (latest_after latest made) journal read.1 in
    (first.0 ∷ others.0, (first.1, others.1))

-- A journal of entries that are read has downlinks on each link.
pub each_downlinks : (setting : Setting) (journal : List Entry) (link : ℕ) → AllByRecursion IsReadEntry journal
    → (texts : List (List ℕ)) × AreDownlinks setting journal link texts
each_downlinks setting journal link read =
    let acts = journal_acts setting.first journal read in
    (journal_texts setting link [] setting.first journal acts.0, record { acts = acts.0; are_acts = acts.1; spelled = refl })

-- ---- runs

-- A step has a run, where each log to which it goes has one behind it.
step_run : (Behind : List Happening → Run → Type 0) (order : List ℕ) (stage : Stage) (log : List Happening) (number : ℕ) (step : Step)
    → AllByRecursion IsReadEntry (entries log) → ((now : List Happening) → GoesTo order log number step now → (run : Run) × Behind now run)
    → (run : Run) × StepRuns Behind order stage log number step run
step_run Behind order stage log number (does happenings) read behind = behind (happenings ++ log) refl
step_run Behind order stage log number (stops found value) read behind = (stopped_run stage log number found value, refl)
step_run Behind order stage log number (receives setting link place) read behind =
    let delivered = at (slice_get texts.0 (place - 1)) refl in
    (delivered.0, (texts.0, texts.1, delivered.1))
  where
    texts : (texts : List (List ℕ)) × AreDownlinks setting (journal_at order log) link texts
    texts = each_downlinks setting (journal_at order log) link (journal_is_read order (entries log) read)

    at : (found : Option (List ℕ)) → slice_get texts.0 (place - 1) ≡ found
        → (run : Run) × DeliveryRuns Behind stage log number setting link place (length texts.0) found run
    at None there = (stopped_run stage log number code.Number (length texts.0), refl)
    at (Some text) there =
        let said = each_hearing (address_of setting link) setting.registration text in
        let run = behind (Heard number link place said.0 ∷ log)
        (said.0, record { texts = texts.0; text = text; are_downlinks = texts.1; there = there; says = said.1 }, refl) in
        (run.0, (said.0, said.1, run.1))

-- What has come so far has only entries that are read.
come_is_read : (order : List ℕ) (stage : Stage) (log : List Happening) (number : ℕ) → HasCome order stage log number
    → AllByRecursion IsReadEntry (entries log)
come_is_read order begun log number come = subst (λ l. AllByRecursion IsReadEntry (entries l)) (sym come.1) tt
come_is_read order (named who) log number come = subst (λ l. AllByRecursion IsReadEntry (entries l)) (sym come.1) tt
come_is_read order (linked who addresses kept) log number come = subst (λ l. AllByRecursion IsReadEntry (entries l)) (sym come.1) tt
come_is_read order (flying setting) log number come = entries_are_read order setting number log come.2

lines_run : (over : Bool) (order : List ℕ) (lines : List (List ℕ)) (readings : List Reading) (stage : Stage) (log : List Happening) (number : ℕ)
    → ReadsLines number lines readings → HasCome order stage log number → (run : Run) × LinesRun over order stage log number readings run
lines_run over order [] [] stage log number reads come = (ended_run stage log (end_behind over stage number), refl)
lines_run over order [] (reading ∷ readings) stage log number reads come = absurd (cc)
lines_run over order (line ∷ lines) [] stage log number reads come = absurd reads
lines_run over order (line ∷ lines) (reading ∷ readings) stage log number reads come =
    step_run (λ now behind. LinesRun over order (stage_after stage reading) now (number + 1) readings behind) order stage log number
    (step_of stage log number reading) (come_is_read order stage log number come)
    (λ now goes. lines_run over order lines readings (stage_after stage reading) now (number + 1) reads.1
    (comes_on order stage log number line reading now reads.0 goes come))

-- Each script has a run under each order.
pub each_run : (bytes : List ℕ) (script : Script) (order : List ℕ) → IsScript bytes script → (run : Run) × ScriptRun script order run
each_run bytes script order is = lines_run script.over order (lines_before_limit bytes) script.readings begun [] 1 is.lines (refl, refl)
