-- A centre that asks and cancels again and again: its table, its messages, and the lines that go on.
use Rattle.std.proofs.Common.{◌≡◌, ℕ, zero, suc, ◌+◌, ◌-◌, ◌%◌, true, false, if◌then◌else◌, List, [], ◌∷◌, ◌++◌, length, Option, Some, None, refl, sym, ap, ap₂, ◌∙◌, subst, arith, append_assoc, append-nil}
use Rattle.std.specs.List.{slice_get}
use Rattle.adsc_requests.specs.Contents.{number_of}
use Rattle.adsc_requests.specs.declared.kind.Kind.TheVariants as kinds
use Rattle.adsc_requests.specs.declared.message.Message.{Message}
use Rattle.adsc_requests.specs.declared.message.Message.TheVariants as message
use Rattle.aircraft_core.specs.Downlinks.{AreDownlinks}
use Rattle.aircraft_core.specs.Setting.{Setting, address_of}
use Rattle.aircraft_core.specs.declared.entry.Entry.{Entry}
use Rattle.centre_core.specs.Events.{CentreEvent, Asks, Cancels}
use Rattle.centre_core.specs.Hearing.{Hearing, Says as SaysTo}
use Rattle.centre_core.specs.Histories.{next_number_at, table_at}
use Rattle.centre_core.specs.Steps.{number_after, table_after, with_effect}
use Rattle.centre_core.specs.Tables.{effect_of_sending, number_pending, number_to_cancel, request_or_refusal, unless_waiting}
use Rattle.centre_core.specs.declared.shown.Shown.{Shown}
use Rattle.centre_core.specs.declared.shown.Shown.TheVariants as shown
use Rattle.centre_core.specs.declared.table.CentreTable.{CentreTable}
use Rattle.centre_core.proofs.NumberLaws.{next_number_after}
use Rattle.centre_core.proofs.TableLaws.{rows_go_on}
use Rattle.net_script.specs.declared.line.Cancel.TheVariants.{Of}
use Rattle.net_script.specs.declared.line.ScriptLine.{ScriptLine}
use Rattle.net_script.specs.declared.line.ScriptLine.TheVariants as line
use Rattle.net_script.specs.declared.refusal.Code.TheVariants as code
use Rattle.run_rules.specs.Happenings.{Happening, Asked, Brought, Cancelled, Heard, Carries, SentMessage, entries, history, is_raw, sent_messages}
use Rattle.run_rules.specs.Histories.Reuse.{asks_and_cancels, asks_for}
use Rattle.run_rules.specs.Histories.Words.{brings, cancels, ground, receives}
use Rattle.run_rules.specs.Lines.{as_centre, ask_step, asking_step, bring_step, bringing_step, cancel_step, cancelling_step, entry_with, flight_step}
use Rattle.run_rules.specs.Runs.{DeliveryRuns, LinesRun, Run, StepRuns, journal_at}
use Rattle.run_rules.specs.Stages.{Step, does, flying, stops, receives as run_receives}
use Rattle.run_rules.specs.Texts.{link_to}
use Rattle.run_rules.specs.declared.reading.Reading.{Reading}
use Rattle.run_rules.specs.declared.reading.Reading.TheVariants.{Says}

-- ---- the table

-- An emergency request with this interval, if it has one, and this number.
abbrev pub asked : Option ℕ → ℕ → Message
asked interval n = message.Emergency n interval (record { m = None ∷ None ∷ None ∷ None ∷ None ∷ None ∷ []; six = refl }) None

-- The table of a centre whose aircraft is logged on, with this last number and these rows.
abbrev pub table_with : ℕ → Shown → Shown → CentreTable
table_with n periodic emergency = record {
  logged_on = true;
  last = n;
  demand = shown.Nothing;
  periodic = periodic;
  event = shown.Nothing;
  emergency = emergency;
}

-- The number after this one.
abbrev pub next : ℕ → ℕ
next n = n % 255 + 1

ask_goes : (interval : Option ℕ) (w : List CentreEvent) (number n : ℕ) (p e : Shown) → table_at w ≡ table_with n p e → number_pending e ≡ None
    → ask_step w number 0 (asked interval 0) ≡ does (Asked number 0 (asked interval (next n)) ∷ [])
ask_goes interval w number n p e table free =
    ap₂ (λ (m : ℕ) (t : CentreTable). asking_step number 0 (request_or_refusal (asked interval 0) m t)) its_number table
    ∙ ap (λ pending. asking_step number 0 (unless_waiting pending (asked interval (next n)))) free
  where
    its_number : next_number_at w ≡ next n
    its_number = sym (next_number_after w) ∙ ap (λ (t : CentreTable). number_after t.last) table

after_ask : (interval : Option ℕ) (w : List CentreEvent) (n : ℕ) (p e : Shown) → table_at w ≡ table_with n p e → number_pending e ≡ None
    → table_at (Asks (asked interval (next n)) ∷ w) ≡ table_with (next n) p (shown.Pending (asked interval (next n)))
after_ask interval w n p e table free =
    rows_go_on (Asks (asked interval (next n))) w ∙ ap (table_after (Asks (asked interval (next n)))) table
    ∙ ap (λ pending. with_effect (effect_of_sending (unless_waiting pending (asked interval (next n)))) (table_with n p e)) free

cancel_goes : (w : List CentreEvent) (number n : ℕ) (p : Shown) (request : Message) → table_at w ≡ table_with n p (shown.Pending request)
    → cancel_step w number 0 (Of kinds.Emergency) ≡ does (Cancelled number 0 (Of kinds.Emergency) (message.Cancel (number_of request)) ∷ [])
cancel_goes w number n p request table =
    ap (λ (t : CentreTable). cancelling_step number 0 (Of kinds.Emergency) (number_to_cancel t.emergency)) table

after_cancel : (w : List CentreEvent) (n : ℕ) (p : Shown) (request : Message) → table_at w ≡ table_with n p (shown.Pending request)
    → table_at (Cancels kinds.Emergency ∷ w) ≡ table_with n p (shown.Cancelling request)
after_cancel w n p request table = rows_go_on (Cancels kinds.Emergency) w ∙ ap (table_after (Cancels kinds.Emergency)) table

-- ---- lines that go on

-- A line goes on whose step is this.
says_on : (order : List ℕ) (setting : Setting) (log : List Happening) (number : ℕ) (value : ScriptLine) (happenings : List Happening)
    (readings : List Reading) (run : Run) → flight_step setting log number value ≡ does happenings
    → LinesRun false order (flying setting) (happenings ++ log) (number + 1) readings run
    → LinesRun false order (flying setting) log number (Says value ∷ readings) run
says_on order setting log number value happenings readings run same behind =
    subst
    (λ step. StepRuns (λ now rest. LinesRun false order (flying setting) now (number + 1) readings rest) order (flying setting) log number step run)
    (sym same) behind

-- The first link's address is that of the worked scripts, and no text of it was taken.
pub record IsCentreSoFar (setting : Setting) (log : List Happening) : Type 0 where
  pub found : link_to setting ground ≡ Some 0
  pub free : is_raw 0 log ≡ false

on_first : (setting : Setting) (log : List Happening) (step : ℕ → Step) → IsCentreSoFar setting log → as_centre setting log ground step ≡ step 0
on_first setting log step is =
    ap (λ place. elim place [
      | None ↦ stops code.Address 1
      | Some link ↦ if is_raw link log then stops code.Role 0 else step link
    ]) is.found
    ∙ ap (λ raw. if raw then stops code.Role 0 else step 0) is.free

-- A centre that may ask: its table is this, and no emergency request is pending.
pub record MayAsk (setting : Setting) (log : List Happening) (n : ℕ) (p e : Shown) : Type 0 where
  pub centre : IsCentreSoFar setting log
  pub table : table_at (history 0 log) ≡ table_with n p e
  pub free : number_pending e ≡ None

pub asks_on : (order : List ℕ) (setting : Setting) (log : List Happening) (number n : ℕ) (p e : Shown) (interval : Option ℕ) (readings : List Reading)
    (run : Run) → MayAsk setting log n p e
    → LinesRun false order (flying setting) (Asked number 0 (asked interval (next n)) ∷ log) (number + 1) readings run
    → LinesRun false order (flying setting) log number (asks_for (asked interval 0) ∷ readings) run
asks_on order setting log number n p e interval readings run may behind =
    says_on order setting log number (line.C ground (asked interval 0)) (Asked number 0 (asked interval (next n)) ∷ []) readings run
    (on_first setting log (λ link. ask_step (history link log) number link (asked interval 0)) may.centre
    ∙ ask_goes interval (history 0 log) number n p e may.table may.free)
    behind

-- The centre's table where it has asked.
pub has_asked : (setting : Setting) (log : List Happening) (number n : ℕ) (p e : Shown) (interval : Option ℕ) → MayAsk setting log n p e
    → table_at (history 0 (Asked number 0 (asked interval (next n)) ∷ log)) ≡ table_with (next n) p (shown.Pending (asked interval (next n)))
has_asked setting log number n p e interval may = after_ask interval (history 0 log) n p e may.table may.free

cancels_on : (order : List ℕ) (setting : Setting) (log : List Happening) (number n : ℕ) (p : Shown) (request : Message) (readings : List Reading)
    (run : Run) → IsCentreSoFar setting log → table_at (history 0 log) ≡ table_with n p (shown.Pending request)
    → LinesRun false order (flying setting) (Cancelled number 0 (Of kinds.Emergency) (message.Cancel (number_of request)) ∷ log) (number + 1) readings run
    → LinesRun false order (flying setting) log number (cancels (Of kinds.Emergency) ∷ readings) run
cancels_on order setting log number n p request readings run centre table behind =
    says_on order setting log number (line.K ground (Of kinds.Emergency))
    (Cancelled number 0 (Of kinds.Emergency) (message.Cancel (number_of request)) ∷ []) readings run
    (on_first setting log (λ link. cancel_step (history link log) number link (Of kinds.Emergency)) centre
    ∙ cancel_goes (history 0 log) number n p request table)
    behind

pub brings_message_on : (order : List ℕ) (setting : Setting) (log : List Happening) (number place : ℕ) (sent : SentMessage) (readings : List Reading)
    (run : Run) → IsCentreSoFar setting log → slice_get (sent_messages 0 log) (place - 1) ≡ Some sent
    → LinesRun false order (flying setting) (Brought 0 place (entry_with number 0 sent.carried) ∷ log) (number + 1) readings run
    → LinesRun false order (flying setting) log number (brings place ∷ readings) run
brings_message_on order setting log number place sent readings run centre there behind =
    says_on order setting log number (line.B ground place) (Brought 0 place (entry_with number 0 sent.carried) ∷ []) readings run
    (on_first setting log (λ link. bring_step (sent_messages link log) number link place) centre
    ∙ ap (bringing_step number 0 place (sent_messages 0 log)) there)
    behind

pub hears_on : (order : List ℕ) (setting : Setting) (log : List Happening) (number place : ℕ) (journal : List Entry) (texts : List (List ℕ))
    (text : List ℕ) (hearing : Hearing) (readings : List Reading) (run : Run) → IsCentreSoFar setting log → journal_at order log ≡ journal
    → AreDownlinks setting journal 0 texts → slice_get texts (place - 1) ≡ Some text → SaysTo (address_of setting 0) setting.registration text hearing
    → LinesRun false order (flying setting) (Heard number 0 place hearing ∷ log) (number + 1) readings run
    → LinesRun false order (flying setting) log number (receives place ∷ readings) run
hears_on order setting log number place journal texts text hearing readings run centre same are there says behind =
    subst (λ step. StepRuns Behind order (flying setting) log number step run)
    (sym (on_first setting log (λ link. run_receives setting link place) centre)) (
      texts,
      subst (λ j. AreDownlinks setting j 0 texts) (sym same) are,
      subst (λ found. DeliveryRuns Behind (flying setting) log number setting 0 place (length texts) found run) (sym there) (hearing, says, behind),
    )
  where
    Behind : List Happening → Run → Type 0
    Behind now rest = LinesRun false order (flying setting) now (number + 1) readings rest

-- ---- again and again

-- The line behind so many times, of which the first begins at this line; the number of the last request then; and the log.
pub line_behind : ℕ → ℕ → ℕ
line_behind zero number = number
line_behind (suc times) number = line_behind times (number + 1 + 1)

pub last_behind : ℕ → ℕ → ℕ
last_behind zero n = n
last_behind (suc times) n = last_behind times (next n)

pub log_behind : ℕ → ℕ → ℕ → List Happening → List Happening
log_behind zero number n log = log
log_behind (suc times) number n log =
    log_behind times (number + 1 + 1) (next n)
    (Cancelled (number + 1) 0 (Of kinds.Emergency) (message.Cancel (next n)) ∷ Asked number 0 (asked None (next n)) ∷ log)

-- Where a centre may ask, it may ask so many times and cancel, and may ask again.
pub record MayAskAgain (setting : Setting) (log : List Happening) (n : ℕ) (p : Shown) : Type 0 where
  pub row : Shown
  pub may : MayAsk setting log n p row

once_more : (setting : Setting) (log : List Happening) (number n : ℕ) (p e : Shown) → MayAsk setting log n p e
    → MayAsk setting (Cancelled (number + 1) 0 (Of kinds.Emergency) (message.Cancel (next n)) ∷ Asked number 0 (asked None (next n)) ∷ log) (next n) p
    (shown.Cancelling (asked None (next n)))
once_more setting log number n p e may =
    record {
      centre = record { found = may.centre.found; free = may.centre.free };
      table = after_cancel (history 0 (Asked number 0 (asked None (next n)) ∷ log)) (next n) p (asked None (next n))
          (has_asked setting log number n p e None may);
      free = refl;
    }

pub may_ask_again : (times : ℕ) (setting : Setting) (log : List Happening) (number n : ℕ) (p e : Shown) → MayAsk setting log n p e
    → MayAskAgain setting (log_behind times number n log) (last_behind times n) p
unfolding log_behind last_behind
may_ask_again zero setting log number n p e may = record { row = e; may = may }
may_ask_again (suc times) setting log number n p e may =
    may_ask_again times setting
    (Cancelled (number + 1) 0 (Of kinds.Emergency) (message.Cancel (next n)) ∷ Asked number 0 (asked None (next n)) ∷ log) (number + 1 + 1) (next n) p
    (shown.Cancelling (asked None (next n))) (once_more setting log number n p e may)

pub asks_again : (times : ℕ) (order : List ℕ) (setting : Setting) (log : List Happening) (number n : ℕ) (p e : Shown) (readings : List Reading) (run : Run)
    → MayAsk setting log n p e
    → LinesRun false order (flying setting) (log_behind times number n log) (line_behind times number) readings run
    → LinesRun false order (flying setting) log number (asks_and_cancels times readings) run
unfolding log_behind line_behind
asks_again zero order setting log number n p e readings run may behind = behind
asks_again (suc times) order setting log number n p e readings run may behind =
    asks_on order setting log number n p e None (cancels (Of kinds.Emergency) ∷ asks_and_cancels times readings) run may
    (cancels_on order setting (Asked number 0 (asked None (next n)) ∷ log) (number + 1) (next n) p (asked None (next n))
    (asks_and_cancels times readings) run (record { found = may.centre.found; free = may.centre.free }) (has_asked setting log number n p e None may)
    (asks_again times order setting
    (Cancelled (number + 1) 0 (Of kinds.Emergency) (message.Cancel (next n)) ∷ Asked number 0 (asked None (next n)) ∷ log) (number + 1 + 1) (next n) p
    (shown.Cancelling (asked None (next n))) readings run (once_more setting log number n p e may) behind))

-- The last number behind 254 times, of which the first has number 2, is 255.
pub last_is : last_behind 254 1 ≡ 255
unfolding last_behind
last_is = refl

-- ---- what is left of it

pub line_is : (times number : ℕ) → line_behind times number ≡ number + times + times
unfolding line_behind
line_is zero number = omega arith
line_is (suc times) number = omega (arith, line_is times (number + 1 + 1))

-- No entry is made.
pub entries_are : (times number n : ℕ) (log : List Happening) → entries (log_behind times number n log) ≡ entries log
unfolding log_behind
entries_are zero number n log = refl
entries_are (suc times) number n log =
    entries_are times (number + 1 + 1) (next n)
    (Cancelled (number + 1) 0 (Of kinds.Emergency) (message.Cancel (next n)) ∷ Asked number 0 (asked None (next n)) ∷ log)
    ∙ append-nil (entries log ++ []) ∙ append-nil (entries log)

-- Two messages are sent each time.
pub record HasSent (times : ℕ) (log behind : List Happening) : Type 0 where
  pub more : List SentMessage
  pub sent : sent_messages 0 behind ≡ sent_messages 0 log ++ more
  pub count : length more ≡ times + times

two_more : (times : ℕ) (log once behind : List Happening) (a b : SentMessage) → sent_messages 0 once ≡ (sent_messages 0 log ++ a ∷ []) ++ b ∷ []
    → HasSent times once behind → HasSent (suc times) log behind
two_more times log once behind a b sent rest = record {
  more = a ∷ b ∷ rest.more;
  sent = rest.sent ∙ ap (λ front. front ++ rest.more) sent ∙ append_assoc (sent_messages 0 log ++ a ∷ []) (b ∷ []) rest.more
      ∙ append_assoc (sent_messages 0 log) (a ∷ []) (b ∷ rest.more);
  count = omega (arith, rest.count);
}

pub has_sent : (times number n : ℕ) (log : List Happening) → HasSent times log (log_behind times number n log)
unfolding log_behind
has_sent zero number n log = record { more = []; sent = sym (append-nil (sent_messages 0 log)); count = refl }
has_sent (suc times) number n log =
    let once = Cancelled (number + 1) 0 (Of kinds.Emergency) (message.Cancel (next n)) ∷ Asked number 0 (asked None (next n)) ∷ log in
    two_more times log once (log_behind times (number + 1 + 1) (next n) once) (record { line = number; carried = Carries (asked None (next n)) })
    (record { line = number + 1; carried = Carries (message.Cancel (next n)) }) refl (has_sent times (number + 1 + 1) (next n) once)
