use Rattle.std.proofs.Common.{List, [], ◌∷◌, refl, sym, subst}
use Rattle.contract_rules.specs.Acts.{Act, Moved, Ticked, Crew}
use Rattle.due_event.specs.RuleTerms.{rules_sample}
use Rattle.aircraft_core.specs.JournalActs.{EntryActs}
use Rattle.aircraft_core.proofs.laws.an_entry_has_acts.Goals as goal

pub returns-in-Uplink : goal.returns-in-Uplink
returns-in-Uplink c latest =
    subst (λ e. (acts : List Act) × EntryActs latest e acts) (sym c.in-Uplink.is)
    ((rw c.as_slice.ensures.value at c.a_payload_has_acts.ensures) c.in-Uplink.link)

pub returns-in-Sample : goal.returns-in-Sample
returns-in-Sample c latest =
    subst (λ e. (acts : List Act) × EntryActs latest e acts) (sym c.in-Sample.is) (Moved (rules_sample latest) (rules_sample c.in-Sample.sample) ∷ [], refl)

pub returns-in-Tick : goal.returns-in-Tick
returns-in-Tick c latest = subst (λ e. (acts : List Act) × EntryActs latest e acts) (sym c.in-Tick.is) (Ticked c.in-Tick.t ∷ [], refl)

pub returns-in-Crew : goal.returns-in-Crew
returns-in-Crew c latest = subst (λ e. (acts : List Act) × EntryActs latest e acts) (sym c.in-Crew.is) (Crew c.in-Crew.on ∷ [], refl)

pub returns-in-Answer : goal.returns-in-Answer
returns-in-Answer c latest = subst (λ e. (acts : List Act) × EntryActs latest e acts) (sym c.in-Answer.is) ([], refl)

pub returns-in-Logon : goal.returns-in-Logon
returns-in-Logon c latest = subst (λ e. (acts : List Act) × EntryActs latest e acts) (sym c.in-Logon.is) ([], refl)
