-- The laws of what `make` promises.
use Rattle.std.proofs.Common.{◌≡◌, ℕ, ◌≤◌, List, Some, None, length, sym, ap, ◌∙◌, subst}
use Rattle.aircraft_core.specs.Aircraft.{Aircraft}
use Rattle.adsc_run.specs.Outcomes.{IsOutcome, journal_in, setting_in}
use Rattle.adsc_run.specs.declared.outcome.Outcome.{Outcome}
use Rattle.generated_scripts.specs.Generator.{made_script}
use Rattle.generated_scripts.specs.Laws.{EachLineIsTaken, OneSummary}
use Rattle.generated_scripts.specs.Summaries.{IsSummaryText}
use Rattle.run_rules.specs.Runs.{IsAllowedOrder, ScriptRun, journal_at}
use Rattle.run_rules.proofs.Scripts.{one_script}
use Rattle.adsc_bench.specs.Making.{IsSummary, IsSummaryOn}

-- a generated script leaves an aircraft
pub has_craft : EachLineIsTaken → (number lines : ℕ) (outcome : Outcome) → 3 ≤ lines → lines ≤ 200000
    → IsOutcome (made_script number lines) 5 outcome → outcome.craft ≡ None → ⊥
has_craft law number lines outcome least most is none =
    let taken = law number lines is.script is.order is.run least most is.is_script is.runs in
    let same : None ≡ Some taken.setting = sym (ap setting_in none) ∙ is.of_run.setting ∙ taken.flies in
    cc

-- the summary of the outcome's aircraft is that of the outcome's run
summary_on : (number lines : ℕ) (outcome : Outcome) (craft : Aircraft) (text : List ℕ) → IsOutcome (made_script number lines) 5 outcome
    → outcome.craft ≡ Some craft → IsSummaryText number lines craft.setting craft.journal (length outcome.refused.items) text
    → IsSummaryOn 5 number lines text
summary_on number lines outcome craft text is some spelled = record {
  script = is.script;
  order = is.order;
  run = is.run;
  is_script = is.is_script;
  runs = is.runs;
  allowed = is.allowed;
  summary = (
    craft.setting,
    sym is.of_run.setting ∙ ap setting_in some,
    subst (λ refused. IsSummaryText number lines craft.setting (journal_at is.order is.run.log) (length refused) text) is.of_run.refused
        (subst (λ journal. IsSummaryText number lines craft.setting journal (length outcome.refused.items) text)
        (sym (ap journal_in some) ∙ is.of_run.journal) spelled),
  );
}

-- and so it is the summary of the script
pub is_summary : OneSummary → (number lines : ℕ) (outcome : Outcome) (craft : Aircraft) (text : List ℕ) → 3 ≤ lines → lines ≤ 200000
    → IsOutcome (made_script number lines) 5 outcome → outcome.craft ≡ Some craft → (refused : ℕ) → refused ≡ length outcome.refused.items
    → IsSummaryText number lines craft.setting craft.journal refused text → IsSummary number lines text
is_summary law number lines outcome craft text least most is some refused counted spelled =
    let own = summary_on number lines outcome craft text is some
    (subst (λ count. IsSummaryText number lines craft.setting craft.journal count text) counted spelled) in
    record {
      of_run = own;
      only = λ workers other on.
          let same = one_script (made_script number lines) on.script own.script on.is_script own.is_script in
          law number lines on.script workers 5 on.order own.order on.run own.run other text least most on.is_script
          on.runs on.allowed on.summary
          (subst (λ script. ScriptRun script own.order own.run) (sym same) own.runs)
          (subst (λ script. IsAllowedOrder script own.run 5 own.order) (sym same) own.allowed)
          own.summary;
    }
