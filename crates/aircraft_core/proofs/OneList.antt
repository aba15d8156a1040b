-- A journal has one list of acts, and so one list of downlinks.
use Rattle.std.proofs.Common.{◌≡◌, ℕ, inl, inr, List, [], ◌∷◌, map, ap, ap₂, sym, ◌∙◌}
use Rattle.contract_rules.specs.Acts.{Act, Said, Malformed}
use Rattle.contract_table.specs.Acts.{rules_message, rules_fault}
use Rattle.adsc_requests.specs.Contents.{contents_of}
use Rattle.adsc_requests.proofs.Injective.{same_contents}
use Rattle.adsc_requests.proofs.ReadingLaws.{contents_never_fault, one_reading, one_refusal}
use Rattle.flight_samples.specs.declared.sample.Sample.{Sample as FlightSample}
use Rattle.aircraft_core.specs.declared.entry.Entry.{Entry}
use Rattle.aircraft_core.specs.declared.entry.Entry.TheVariants.{Uplink, Answer, Sample, Tick, Crew, Logon}
use Rattle.aircraft_core.specs.Downlinks.{journal_texts, AreDownlinks}
use Rattle.aircraft_core.specs.Entries.{latest_after}
use Rattle.aircraft_core.specs.JournalActs.{UplinkActs, EntryActs, JournalActs}
use Rattle.aircraft_core.specs.Setting.{Setting}

same_uplink_acts : (link : ℕ) (payload : List ℕ) (one other : List Act) → UplinkActs link payload one → UplinkActs link payload other → one ≡ other
same_uplink_acts link payload one other (inl x) (inl y) =
    x.2 ∙ ap (λ uplink. map (λ message. Said link (rules_message message)) uplink.messages.items)
    (same_contents x.0 y.0 (one_reading payload (contents_of x.0) (contents_of y.0) x.1 y.1)) ∙ sym y.2
same_uplink_acts link payload one other (inl x) (inr y) = absurd (contents_never_fault payload (contents_of x.0, x.1) (y.0, y.1))
same_uplink_acts link payload one other (inr x) (inl y) = absurd (contents_never_fault payload (contents_of y.0, y.1) (x.0, x.1))
same_uplink_acts link payload one other (inr x) (inr y) =
    x.2 ∙ ap (λ refusal. Malformed link (rules_fault refusal) ∷ []) (one_refusal payload x.0 y.0 x.1 y.1) ∙ sym y.2

same_entry_acts : (latest : FlightSample) (entry : Entry) (one other : List Act) → EntryActs latest entry one → EntryActs latest entry other → one ≡ other
same_entry_acts latest (Uplink line link bytes) one other x y = same_uplink_acts link bytes.items one other x y
same_entry_acts latest (Answer line link code) one other x y = x ∙ sym y
same_entry_acts latest (Sample line sample) one other x y = x ∙ sym y
same_entry_acts latest (Tick line t) one other x y = x ∙ sym y
same_entry_acts latest (Crew line on) one other x y = x ∙ sym y
same_entry_acts latest (Logon line link) one other x y = x ∙ sym y

pub same_acts : (latest : FlightSample) (journal : List Entry) (one other : List (List Act)) → JournalActs latest journal one → JournalActs latest journal other → one ≡ other
same_acts latest [] one other x y = x ∙ sym y
same_acts latest (entry ∷ journal) [] other x y = absurd x
same_acts latest (entry ∷ journal) (a ∷ one) [] x y = absurd y
same_acts latest (entry ∷ journal) (a ∷ one) (b ∷ other) x y =
    ap₂ (λ (front : List Act) (back : List (List Act)). front ∷ back) (same_entry_acts latest entry a b x.0 y.0) (same_acts (latest_after latest entry) journal one other x.1 y.1)

pub same_downlinks : (setting : Setting) (journal : List Entry) (link : ℕ) (one other : List (List ℕ))
    → AreDownlinks setting journal link one → AreDownlinks setting journal link other → one ≡ other
same_downlinks setting journal link one other x y =
    x.spelled
    ∙ ap (journal_texts setting link [] setting.first journal) (same_acts setting.first journal x.acts y.acts x.are_acts y.are_acts)
    ∙ sym y.spelled
