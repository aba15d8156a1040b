-- The acts of a journal: what its entries are in the terms of the contract rules. A payload is read by the grammar of requests
-- (RTCA DO-258A / EUROCAE ED-100A); that a malformed one is one act is this project's profile.
use Rattle.std.specs.Prelude.{◌≡◌, ◌⊎◌, ℕ, List, [], ◌∷◌, map, reverse, flat_map}
use Rattle.contract_rules.specs.Acts.{Act, Said, Malformed, Moved, Ticked, Crew as CrewActed}
use Rattle.contract_table.specs.Acts.{rules_message, rules_fault}
use Rattle.due_event.specs.RuleTerms.{rules_sample}
use Rattle.adsc_requests.specs.Grammar.{EncodesUplink}
use Rattle.adsc_requests.specs.Refusals.{IsFirstUplinkFault}
use Rattle.adsc_requests.specs.declared.message.Uplink.{Uplink as UplinkMessages}
use Rattle.adsc_requests.specs.declared.refusal.Refusal.{Refusal}
use Rattle.flight_samples.specs.declared.sample.Sample.{Sample as FlightSample}
use Rattle.aircraft_core.specs.declared.entry.Entry.{Entry}
use Rattle.aircraft_core.specs.declared.entry.Entry.TheVariants.{Uplink, Answer, Sample, Tick, Crew, Logon}
use Rattle.aircraft_core.specs.Entries.{latest_after}

-- The acts of an uplink on a link: each message that its payload encodes is said; a payload with a fault is one malformed act.
abbrev pub UplinkActs : ℕ → List ℕ → List Act → Type 0
UplinkActs link payload acts =
    ((uplink : UplinkMessages) × EncodesUplink uplink payload × (acts ≡ map (λ message. Said link (rules_message message)) uplink.messages.items))
    ⊎ ((refusal : Refusal) × IsFirstUplinkFault refusal payload × (acts ≡ Malformed link (rules_fault refusal) ∷ []))

-- The acts of an entry, where this is the latest sample before it. The rules say nothing of logons: an answer and a logon are no acts.
abbrev pub EntryActs : FlightSample → Entry → List Act → Type 0
EntryActs latest (Uplink line link bytes) acts = UplinkActs link bytes.items acts
EntryActs latest (Answer line link code) acts = acts ≡ []
EntryActs latest (Sample line sample) acts = acts ≡ Moved (rules_sample latest) (rules_sample sample) ∷ []
EntryActs latest (Tick line t) acts = acts ≡ Ticked t ∷ []
EntryActs latest (Crew line on) acts = acts ≡ CrewActed on ∷ []
EntryActs latest (Logon line link) acts = acts ≡ []

-- The acts of the entries of a journal, a list for each entry, where this is the latest sample before them.
abbrev pub JournalActs : FlightSample → List Entry → List (List Act) → Type 0
JournalActs latest [] acts = acts ≡ []
JournalActs latest (entry ∷ entries) [] = ⊥
JournalActs latest (entry ∷ entries) (acts ∷ others) = EntryActs latest entry acts × JournalActs (latest_after latest entry) entries others

-- The acts of all entries as one list, the newest first.
abbrev pub newest_first : List (List Act) → List Act
newest_first acts = reverse (flat_map (λ each. each) acts)
