-- The downlinks of a longer journal begin with those of the shorter, so ends of downlinks that were found stay.
use Rattle.std.proofs.Common.{◌≡◌, ℕ, List, [], ◌∷◌, ◌++◌, length, set, slice_get, Some, refl, sym, ap, ◌∙◌, subst, append_assoc, length-set}
use Rattle.aircraft_core.specs.Downlinks.{AreDownlinks, entry_texts, journal_texts}
use Rattle.aircraft_core.specs.Entries.{latest_after}
use Rattle.aircraft_core.specs.JournalActs.{JournalActs}
use Rattle.aircraft_core.specs.Setting.{Setting, configuration_of}
use Rattle.aircraft_core.specs.declared.entry.Entry.{Entry}
use Rattle.aircraft_core.proofs.OneList.{same_downlinks}
use Rattle.contract_rules.specs.Acts.{Act}
use Rattle.contract_rules.specs.LiveLinks.{Noted}
use Rattle.contract_rules.specs.Verdicts.{past_with}
use Rattle.flight_samples.specs.declared.sample.Sample.{Sample as FlightSample}
use Rattle.adsc_run.specs.Outboxes.{AreEnds, AreFound}
use Rattle.adsc_run.specs.declared.outbox.TextEnds.{TextEnds}
use Rattle.adsc_run.proofs.EachItem.{put_each}
use Rattle.adsc_run.proofs.OutboxLaws.{ends_stay, no_end}

-- ---- downlinks

-- the acts of a journal begin with those of its beginning
record FirstActs (latest : FlightSample) (one : List Entry) (acts : List (List Act)) : Type 0 where
  front : List (List Act)
  back : List (List Act)
  joined : acts ≡ front ++ back
  are_acts : JournalActs latest one front

first_acts : (latest : FlightSample) (one more : List Entry) (acts : List (List Act)) → JournalActs latest (one ++ more) acts → FirstActs latest one acts
first_acts latest [] more acts are = record { front = []; back = acts; joined = refl; are_acts = refl }
first_acts latest (entry ∷ one) more [] are = absurd are
first_acts latest (entry ∷ one) more (here ∷ acts) are =
    let first = first_acts (latest_after latest entry) one more acts are.1 in
    record { front = here ∷ first.front; back = first.back; joined = ap (λ rest. here ∷ rest) first.joined; are_acts = (are.0, first.are_acts) }

-- and so do its texts
texts_go_on : (setting : Setting) (link : ℕ) (past : List Noted) (latest : FlightSample) (one more : List Entry) (front back : List (List Act)) → JournalActs latest one front
    → (others : List (List ℕ)) × (journal_texts setting link past latest (one ++ more) (front ++ back) ≡ journal_texts setting link past latest one front ++ others)
texts_go_on setting link past latest [] more front back are = (journal_texts setting link past latest more (front ++ back), refl)
texts_go_on setting link past latest (entry ∷ one) more [] back are = absurd are
texts_go_on setting link past latest (entry ∷ one) more (here ∷ front) back are =
    let now = past_with (configuration_of setting) past here in
    let behind = texts_go_on setting link now (latest_after latest entry) one more front back are.1 in (
      behind.0,
      ap (λ texts. entry_texts setting link past latest entry here ++ texts) behind.1
          ∙ sym (append_assoc (entry_texts setting link past latest entry here) (journal_texts setting link now (latest_after latest entry) one front) behind.0),
    )

-- The downlinks of a journal begin with those of its beginning.
pub downlinks_go_on : (setting : Setting) (link : ℕ) (one more : List Entry) (texts : List (List ℕ)) → AreDownlinks setting (one ++ more) link texts
    → (first : List (List ℕ)) × (others : List (List ℕ)) × AreDownlinks setting one link first × (texts ≡ first ++ others)
downlinks_go_on setting link one more texts are =
    let first = first_acts setting.first one more are.acts are.are_acts in
    let behind = texts_go_on setting link [] setting.first one more first.front first.back first.are_acts in (
      journal_texts setting link [] setting.first one first.front,
      behind.0,
      record { acts = first.front; are_acts = first.are_acts; spelled = refl },
      are.spelled ∙ ap (journal_texts setting link [] setting.first (one ++ more)) first.joined ∙ behind.1,
    )

-- ---- ends of downlinks

-- nothing is found yet
pub none_found : (setting : Setting) (journal : List Entry) (found : List TextEnds) → length found ≡ length setting.addresses
    → ((link : ℕ) (one : TextEnds) → slice_get found link ≡ Some one → one.ends.items ≡ []) → AreFound setting journal found
none_found setting journal found count each = record {
  count = count;
  each = λ link one there texts are. subst (λ ends. AreEnds ends texts) (sym (each link one there)) (no_end texts);
}

-- what was found is found in a longer journal
pub found_on : (setting : Setting) (journal more : List Entry) (found : List TextEnds) → AreFound setting journal found → AreFound setting (journal ++ more) found
found_on setting journal more found are_found = record {
  count = are_found.count;
  each = λ link one there texts are.
      let on = downlinks_go_on setting link journal more texts are in
      subst (λ these. AreEnds one.ends.items these) (sym on.3) (ends_stay one.ends.items on.0 on.1 (are_found.each link one there on.0 on.2));
}

-- more was found of one link
pub found_more : (setting : Setting) (journal : List Entry) (found : List TextEnds) (link : ℕ) (one : TextEnds) (texts : List (List ℕ)) → AreFound setting journal found
    → AreDownlinks setting journal link texts → AreEnds one.ends.items texts → AreFound setting journal (set found link one)
found_more setting journal found link one texts are_found are ends = record {
  count = length-set found link one ∙ are_found.count;
  each = put_each (λ place item. (others : List (List ℕ)) → AreDownlinks setting journal place others → AreEnds item.ends.items others) found link one are_found.each
      (λ others are_others. subst (λ these. AreEnds one.ends.items these) (same_downlinks setting journal link texts others are are_others) ends);
}
