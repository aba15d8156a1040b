-- What is heard is heard at a line outside bursts. So the journal before that line is a beginning of every later one.
use Rattle.std.proofs.Common.{◌≡◌, ◌⊎◌, ◌<◌, ◌≤◌, ◌==◌, ℕ, inl, inr, ⊎_elim, false, List, [], ◌∷◌, ◌++◌, Some, None, refl, sym, ap, ap₂, ◌∙◌, subst, append-nil, append_assoc, arith, true≢false}
use Rattle.std.proofs.lemmas.Bool.{cases_lt}
use Rattle.std.proofs.lemmas.List.Elements.{filter-append}
use Rattle.aircraft_core.specs.Entries.{line_of}
use Rattle.aircraft_core.specs.Setting.{Setting}
use Rattle.aircraft_core.specs.declared.entry.Entry.{Entry}
use Rattle.centre_core.specs.Hearing.{Hearing}
use Rattle.run_rules.specs.Among.{IsAmong}
use Rattle.run_rules.specs.Happenings.{Happening, Entered, Refused, Asked, Cancelled, Brought, Heard, entries, entry_in}
use Rattle.run_rules.specs.Orders.{IsOrdered, MayPass, is_burst_line, journal_of, reading_at}
use Rattle.run_rules.specs.Runs.{IsAllowedOrder, Run, Script, ScriptRun, addresses_in, journal_at, setting_at}
use Rattle.run_rules.specs.Stages.{Stage, begun, flying, linked, named}
use Rattle.run_rules.specs.declared.reading.Reading.{Reading}
use Rattle.run_rules.proofs.Journals.{at_line, entries-append, none_at_line, none_in_order}
use Rattle.run_rules.proofs.LogEntries.{AreApart, AreBelow, IsApart, LogFits, StageFits, heard_lines}
use Rattle.run_rules.proofs.Members.{among_map, among_parts}
use Rattle.run_rules.proofs.OtherOrders.{FindsSame, RunsUnder, runs_under}

-- ---- a journal's beginning

-- Where a line is in no burst, the entries before it are taken before those behind it.
module _ (addresses : List (List ℕ)) (readings : List Reading) (workers number : ℕ) (apart : is_burst_line (reading_at readings number) ≡ false)
    (before behind : List Entry) (earlier : (entry : Entry) → IsAmong entry before → line_of entry < number)
    (later : (entry : Entry) → IsAmong entry behind → number ≤ line_of entry) where
  -- Behind a line that isn't earlier no earlier one stands.
  none_earlier : (first : ℕ) (order : List ℕ) → number ≤ first → IsOrdered addresses readings workers (first ∷ order)
      → (other : ℕ) → IsAmong other order → number ≤ other
  none_earlier first order from ordered other among = at (cases_lt other number) (ordered.0 other among)
    where
      at : (other < number) ⊎ (number ≤ other) → (first < other) ⊎ ((other < first) × MayPass addresses readings workers other first) → number ≤ other
      at (inr behind_it) either = behind_it
      at (inl under) (inl above) = omega arith
      at (inl under) (inr passes) =
          let burst = passes.1.burst number (omega arith) from in absurd (true≢false (sym burst ∙ apart))

  pub journal_begins : (order : List ℕ) → IsOrdered addresses readings workers order
      → journal_of order (before ++ behind) ≡ journal_of order before ++ journal_of order behind
  journal_begins [] ordered = refl
  journal_begins (first ∷ order) ordered = at (cases_lt first number) (journal_begins order ordered.1)
    where
      joined : at_line first (before ++ behind) ≡ at_line first before ++ at_line first behind
      joined = filter-append (λ entry. line_of entry == first) before behind

      at : (first < number) ⊎ (number ≤ first) → journal_of order (before ++ behind) ≡ journal_of order before ++ journal_of order behind
          → at_line first (before ++ behind) ++ journal_of order (before ++ behind)
          ≡ (at_line first before ++ journal_of order before) ++ (at_line first behind ++ journal_of order behind)
      at (inl under) rest =
          let none : at_line first behind ≡ []
          = none_at_line first behind (λ entry among same. let from : number ≤ line_of entry = later entry among in absurd (omega arith)) in
          ap₂ (λ (here there : List Entry). here ++ there) (joined ∙ ap (λ list. at_line first before ++ list) none ∙ append-nil (at_line first before)) rest
          ∙ sym (append_assoc (at_line first before) (journal_of order before) (journal_of order behind))
          ∙ ap (λ list. (at_line first before ++ journal_of order before) ++ (list ++ journal_of order behind)) (sym none)
      at (inr from) rest =
          let none : at_line first before ≡ []
          = none_at_line first before (λ entry among same. let under : line_of entry < number = earlier entry among in absurd (omega arith)) in
          let nothing : journal_of order before ≡ []
          = none_in_order order before (λ other among entry is_entry same.
          let under : line_of entry < number = earlier entry is_entry in
          let above : number ≤ other = none_earlier first order from ordered other among in absurd (omega arith)) in
          ap₂ (λ (here there : List Entry). here ++ there) (joined ∙ ap (λ list. list ++ at_line first behind) none) (rest ∙ ap (λ list. list ++ journal_of order behind) nothing)
          ∙ ap₂ (λ (one other : List Entry). (one ++ other) ++ (at_line first behind ++ journal_of order behind)) (sym none) (sym nothing)

-- ---- where something was heard in a log

-- Before what is heard in a log there are entries of earlier lines, and behind it of later ones; and its line is in no burst.
pub record StandsApart (readings : List Reading) (later : List Happening) (number : ℕ) (log : List Happening) : Type 0 where
  pub no_burst : is_burst_line (reading_at readings number) ≡ false
  pub earlier : (entry : Entry) → IsAmong entry (entries log) → line_of entry < number
  pub behind : (entry : Entry) → IsAmong entry (entries later) → number < line_of entry

still_heard : (later : List Happening) (number link place : ℕ) (hearing : Hearing) (log : List Happening)
    → IsAmong number (heard_lines (later ++ Heard number link place hearing ∷ log))
still_heard [] number link place hearing log = inl refl
still_heard (Entered made ∷ later) number link place hearing log = still_heard later number link place hearing log
still_heard (Refused refused ∷ later) number link place hearing log = still_heard later number link place hearing log
still_heard (Asked line other request ∷ later) number link place hearing log = still_heard later number link place hearing log
still_heard (Cancelled line other cancel message ∷ later) number link place hearing log = still_heard later number link place hearing log
still_heard (Brought other number_of made ∷ later) number link place hearing log = still_heard later number link place hearing log
still_heard (Heard line other there said ∷ later) number link place hearing log = inr (still_heard later number link place hearing log)

one_more : (readings : List Reading) (later : List Happening) (number : ℕ) (log : List Happening) (more : List Entry)
    → ((entry : Entry) → IsAmong entry more → number < line_of entry) → StandsApart readings later number log
    → (entry : Entry) → IsAmong entry (entries later ++ more) → number < line_of entry
one_more readings later number log more above stands entry among =
    ⊎_elim (λ early. stands.behind entry early) (λ late. above entry late) (among_parts entry (entries later) more among)

pub stands_apart : (readings : List Reading) (later : List Happening) (number link place : ℕ) (hearing : Hearing) (log : List Happening)
    → AreApart readings (later ++ Heard number link place hearing ∷ log) → StandsApart readings later number log
stands_apart readings [] number link place hearing log apart =
    record {
      no_burst = apart.0.0;
      earlier = λ entry among. apart.0.1 (line_of entry) (among_map line_of entry (entries log) among);
      behind = λ entry among. absurd among;
    }
stands_apart readings (happening ∷ later) number link place hearing log apart =
    let stands = stands_apart readings later number link place hearing log apart.1 in
    record {
      no_burst = stands.no_burst;
      earlier = stands.earlier;
      behind = λ entry among. one_more readings later number log (entry_in happening) (at happening apart.0) stands entry among;
    }
  where
    made_behind : (made : Entry) → AreBelow (line_of made) (heard_lines (later ++ Heard number link place hearing ∷ log))
        → (entry : Entry) → IsAmong entry (made ∷ []) → number < line_of entry
    made_behind made below entry (inl e) = subst (λ one. number < line_of one) e (below number (still_heard later number link place hearing log))
    made_behind made below entry (inr none) = absurd none

    at : (happening : Happening) → IsApart readings (later ++ Heard number link place hearing ∷ log) happening
        → (entry : Entry) → IsAmong entry (entry_in happening) → number < line_of entry
    at (Entered made) its entry among = made_behind made its entry among
    at (Brought other from made) its entry among = made_behind made its entry among
    at (Refused refused) its entry among = absurd among
    at (Asked line other request) its entry among = absurd among
    at (Cancelled line other cancel message) its entry among = absurd among
    at (Heard line other there said) its entry among = absurd among

-- ---- runs

finds_itself : (readings : List Reading) (order : List ℕ) (run : Run) → FindsSame readings order order run
finds_itself readings order run = record { finds = λ setting log number later its joined fits rises link texts are. are }

-- The log of a run that came so far as to fly fits its readings.
pub log_fits : (script : Script) (order : List ℕ) (run : Run) (setting : Setting) → ScriptRun script order run → run.setting ≡ Some setting
    → (number : ℕ) × LogFits setting script.readings run.log number
log_fits script order run setting runs flies =
    (under.count, at under.last under.setting under.fits)
  where
    under : RunsUnder script.readings script.over order begun [] 1 script.readings run
    under = runs_under script.readings script.over order order run (finds_itself script.readings order run) [] script.readings refl begun [] 1 refl refl runs

    at : (last : Stage) → run.setting ≡ setting_at last → StageFits script.readings last run.log under.count → LogFits setting script.readings run.log under.count
    at begun its fits = absurd (let e : None ≡ Some setting = sym its ∙ flies in cc)
    at (named who) its fits = absurd (let e : None ≡ Some setting = sym its ∙ flies in cc)
    at (linked who addresses kept) its fits = absurd (let e : None ≡ Some setting = sym its ∙ flies in cc)
    at (flying other) its fits =
        let found : Some other ≡ Some setting = sym its ∙ flies in
        let same : other ≡ setting = cc in
        subst (λ s. LogFits s script.readings run.log under.count) same fits

-- Where no aircraft flies nothing happened.
pub nothing_happened : (script : Script) (order : List ℕ) (run : Run) → ScriptRun script order run → run.setting ≡ None → run.log ≡ []
nothing_happened script order run runs none = at under.last under.setting under.fits
  where
    under : RunsUnder script.readings script.over order begun [] 1 script.readings run
    under = runs_under script.readings script.over order order run (finds_itself script.readings order run) [] script.readings refl begun [] 1 refl refl runs

    at : (last : Stage) → run.setting ≡ setting_at last → StageFits script.readings last run.log under.count → run.log ≡ []
    at begun its fits = fits
    at (named who) its fits = fits
    at (linked who addresses kept) its fits = fits
    at (flying setting) its fits = absurd (let e : None ≡ Some setting = sym none ∙ its in cc)

-- What was heard in a run stands apart from the entries.
pub heard_apart : (script : Script) (order : List ℕ) (run : Run) (setting : Setting) → ScriptRun script order run → run.setting ≡ Some setting
    → (later : List Happening) (number link place : ℕ) (hearing : Hearing) (log : List Happening) → run.log ≡ later ++ Heard number link place hearing ∷ log
    → StandsApart script.readings later number log
heard_apart script order run setting runs flies later number link place hearing log joined =
    stands_apart script.readings later number link place hearing log
    (subst (AreApart script.readings) joined (log_fits script order run setting runs flies).1.apart)

-- The journal before a hearing is a beginning of that at the end, in each allowed order.
pub journal_before_heard : (script : Script) (order : List ℕ) (run : Run) (workers : ℕ) (setting : Setting) → ScriptRun script order run
    → IsAllowedOrder script run workers order → run.setting ≡ Some setting
    → (later : List Happening) (number link place : ℕ) (hearing : Hearing) (log : List Happening) → run.log ≡ later ++ Heard number link place hearing ∷ log
    → journal_at order run.log ≡ journal_at order log ++ journal_of order (entries later)
journal_before_heard script order run workers setting runs allowed flies later number link place hearing log joined =
    let stands = heard_apart script order run setting runs flies later number link place hearing log joined in
    ap (journal_of order) (ap entries joined ∙ entries-append later (Heard number link place hearing ∷ log) ∙ ap (λ made. made ++ entries later) (append-nil (entries log)))
    ∙ journal_begins setting.addresses script.readings workers number stands.no_burst (entries log) (entries later) stands.earlier
    (λ entry among. let above : number < line_of entry = stands.behind entry among in omega arith)
    order (subst (λ s. IsOrdered (addresses_in s) script.readings workers order) flies allowed.ordered)
