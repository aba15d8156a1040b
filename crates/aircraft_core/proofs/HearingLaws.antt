-- Acts that are told one by one.
use Rattle.std.proofs.Common.{◌≡◌, ℕ, Bool, List, [], ◌∷◌, ◌++◌, reverse, append-nil, append_assoc, refl, ap, sym, ◌∙◌, subst}
use Rattle.std.proofs.lemmas.List.{reverse-append}
use Rattle.contract_rules.specs.Acts.{Act}
use Rattle.contract_rules.specs.Configuration.{Configuration}
use Rattle.contract_rules.specs.Due.{due_items, entry_items}
use Rattle.contract_rules.specs.LiveLinks.{Noted}
use Rattle.contract_rules.specs.Verdicts.{noted_over, past_of, past_with}
use Rattle.contract_table.specs.Tables.{TableState, StandsFor}
use Rattle.flight_samples.specs.declared.sample.Sample.{Sample}
use Rattle.aircraft_core.specs.Sending.{item_bits_on}
use Rattle.aircraft_core.specs.Setting.{Setting, configuration_of}
use Rattle.aircraft_core.specs.Taking.{WasTold, WasWritten, due_after}
use Rattle.aircraft_core.proofs.WritingLaws.{item_bits_on-append, no_bits}

-- ---- the past of several acts

reversed_behind : (act : Act) (acts told : List Act) → reverse (act ∷ acts) ++ told ≡ reverse acts ++ act ∷ told
reversed_behind act acts told = ap (λ r. r ++ told) (reverse-append (act ∷ []) acts) ∙ append_assoc (reverse acts) (act ∷ []) told

-- The past with more acts is the past of those and these.
pub past_with-past_of : (configuration : Configuration) (told acts : List Act)
    → past_with configuration (past_of configuration told) acts ≡ past_of configuration (reverse acts ++ told)
past_with-past_of configuration told [] = refl
past_with-past_of configuration told (act ∷ acts) =
    past_with-past_of configuration (act ∷ told) acts ∙ ap (past_of configuration) (sym (reversed_behind act acts told))

entry_items-append : (configuration : Configuration) (link : ℕ) (past : List Noted) (acts more : List Act)
    → entry_items configuration link past (acts ++ more) ≡ entry_items configuration link past acts ++ entry_items configuration link (past_with configuration past acts) more
entry_items-append configuration link past [] more = refl
entry_items-append configuration link past (act ∷ acts) more =
    let here = due_items configuration link past act in
    let now = noted_over configuration past act ∷ past in
    ap (λ items. here ++ items) (entry_items-append configuration link now acts more)
    ∙ sym (append_assoc here (entry_items configuration link now acts) (entry_items configuration link (past_with configuration now acts) more))

due_after-append : (setting : Setting) (link : ℕ) (told acts more : List Act)
    → due_after setting link told (acts ++ more) ≡ due_after setting link told acts ++ due_after setting link (reverse acts ++ told) more
due_after-append setting link told acts more =
    entry_items-append (configuration_of setting) link (past_of (configuration_of setting) told) acts more
    ∙ ap (λ past. due_after setting link told acts ++ entry_items (configuration_of setting) link past more) (past_with-past_of (configuration_of setting) told acts)

-- ---- one act more

pub told_none : (table : TableState) → WasTold table [] table
told_none table = record { stands = λ told stands. stands }

pub told_more : (table mid_table now_table : TableState) (acts more : List Act) → WasTold table acts mid_table → WasTold mid_table more now_table → WasTold table (acts ++ more) now_table
told_more table mid_table now_table acts more first second =
    record {
      stands = λ told stands.
          subst (StandsFor now_table)
          (sym (ap (λ r. r ++ told) (reverse-append acts more) ∙ append_assoc (reverse more) (reverse acts) told))
          (second.stands (reverse acts ++ told) (first.stands told stands));
    }

pub written_none : (setting : Setting) (sample : Sample) (table : TableState) (link : ℕ) (out : List Bool) → WasWritten setting sample table link [] out out
written_none setting sample table link out =
    record { spelled = λ told stands. sym (append-nil out) ∙ ap (λ bits. out ++ bits) (sym (no_bits setting sample)) }

pub written_more : (setting : Setting) (sample : Sample) (table mid_table : TableState) (link : ℕ) (acts more : List Act) (out mid_out now_out : List Bool)
    → WasTold table acts mid_table → WasWritten setting sample table link acts out mid_out → WasWritten setting sample mid_table link more mid_out now_out
    → WasWritten setting sample table link (acts ++ more) out now_out
written_more setting sample table mid_table link acts more out mid_out now_out heard first second =
    record {
      spelled = λ told stands.
          let before = due_after setting link told acts in
          let behind = due_after setting link (reverse acts ++ told) more in
          second.spelled (reverse acts ++ told) (heard.stands told stands)
          ∙ ap (λ bits. bits ++ item_bits_on setting sample behind) (first.spelled told stands)
          ∙ append_assoc out (item_bits_on setting sample before) (item_bits_on setting sample behind)
          ∙ ap (λ bits. out ++ bits) (sym (item_bits_on-append setting sample before behind) ∙ ap (item_bits_on setting sample) (sym (due_after-append setting link told acts more)));
    }
