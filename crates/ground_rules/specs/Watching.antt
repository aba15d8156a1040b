-- When the periodic report of a centre's aircraft is late. A periodic contract is that of RTCA DO-258A / EUROCAE ED-100A; the watch over
-- it is this project's profile. Times are in seconds.
use Rattle.std.specs.Prelude.{◌≡◌, ℕ, ◌+◌, ◌-◌, ◌==◌, ◌||◌, ◌&&◌, Bool, true, false, not, max, nat_lt, List, [], ◌∷◌, Option, Some, None, is_some, option_map, if◌then◌else◌}
use Rattle.adsc_downlink.specs.Items.{ItemData}
use Rattle.adsc_downlink.specs.Items.ItemData.{report}
use Rattle.adsc_requests.specs.Kind.{kind_in}
use Rattle.adsc_requests.specs.declared.kind.Kind.TheVariants.{Periodic}
use Rattle.adsc_requests.specs.declared.message.Message.{Message}
use Rattle.adsc_requests.specs.declared.message.Message.TheVariants as message
use Rattle.centre_core.specs.Events.{CentreEvent, HearsContact, HearsItem}
use Rattle.centre_core.specs.Hearing.{Hearing, Ignores, Greets, Tells}
use Rattle.centre_core.specs.Histories.{StandsFor, next_number_at, row_at, table_at}
use Rattle.centre_core.specs.Rows.{Effect, RequestSent, CancelSent, CancelAllSent, AnswerTaken, is_kind, same_kind}
use Rattle.centre_core.specs.Tables.{effect_of}
use Rattle.centre_core.specs.View.{CentreView}
use Rattle.centre_core.specs.declared.shown.Shown.{Shown}
use Rattle.centre_core.specs.declared.shown.Shown.TheVariants as shown
use Rattle.contract_rules.specs.Messages.{interval_seconds}

-- ---- the past of a watcher

-- How a watcher was made: when, and with a centre of which history.
pub record Making : Type 0 where
  pub moment : ℕ
  pub before : List CentreEvent

-- What a watcher sees: an event at its centre, or a tick of the clock. A past is a list of these since the making, the newest first.
pub data WatchEvent : Type 0 where
  Happens : CentreEvent → WatchEvent
  Ticks : ℕ → WatchEvent

-- The history of the centre, what was before the making with it.
abbrev pub events : Making → List WatchEvent → List CentreEvent
events making [] = making.before
events making (Happens event ∷ past) = event ∷ events making past
events making (Ticks t ∷ past) = events making past

-- The time: the greatest of the moment of the making and of the ticks.
abbrev pub time : Making → List WatchEvent → ℕ
time making [] = making.moment
time making (Happens event ∷ past) = time making past
time making (Ticks t ∷ past) = max (time making past) t

-- ---- quiet

-- An event tells the aircraft's position: a report of a demand or a periodic contract (tag 7), or in emergency mode (tag 9).
abbrev pub tells_position : CentreEvent → Bool
tells_position (HearsItem (report one)) = one.tag == 7 || one.tag == 9
tells_position event = false

-- What comes of an event gives the periodic row its state.
abbrev pub sets_periodic : Effect → Bool
sets_periodic (RequestSent request) = is_kind Periodic (kind_in request)
sets_periodic (CancelSent kind) = same_kind Periodic kind
sets_periodic CancelAllSent = true
sets_periodic (AnswerTaken kind answer) = same_kind Periodic kind
sets_periodic effect = false

-- An event ends the quiet, at the end of this history: it tells a position, or it gives the periodic row its state.
abbrev pub ends_quiet : CentreEvent → List CentreEvent → Bool
ends_quiet event w = tells_position event || sets_periodic (effect_of event (next_number_at w) (table_at w))

-- Since when it is quiet: the time of the last event that ended the quiet, or of the making.
abbrev pub quiet_since : Making → List WatchEvent → ℕ
quiet_since making [] = making.moment
quiet_since making (Happens event ∷ past) = if ends_quiet event (events making past) then time making past else quiet_since making past
quiet_since making (Ticks t ∷ past) = quiet_since making past

-- ---- late

-- The reporting interval that a request asks for.
abbrev pub interval_of : Message → Option ℕ
interval_of (message.Periodic n interval groups intent) = option_map interval_seconds interval
interval_of request = None

-- The interval in which reports are due: that of a contract that is confirmed, in full or in part.
abbrev pub interval_in : Shown → Option ℕ
interval_in (shown.Confirmed request) = interval_of request
interval_in (shown.Partial request) = interval_of request
interval_in row = None

-- By how much the time is past the moment at which a report is due, with its grace.
abbrev pub seconds_past : Option ℕ → ℕ → ℕ → ℕ → Option ℕ
seconds_past None quiet grace now = None
seconds_past (Some interval) quiet grace now = if nat_lt (quiet + interval + grace) now then Some (now - (quiet + interval + grace)) else None

-- By how many seconds the periodic report is late, if it is.
abbrev pub late : Making → ℕ → List WatchEvent → Option ℕ
late making grace past = seconds_past (interval_in (row_at Periodic (events making past))) (quiet_since making past) grace (time making past)

-- Whether the report is late.
abbrev pub is_late : Making → ℕ → List WatchEvent → Bool
is_late making grace past = is_some (late making grace past)

-- Whether a tick of this moment rings: the report is late after it, and wasn't before.
abbrev pub rings : Making → ℕ → ℕ → List WatchEvent → Bool
rings making grace t past = is_late making grace (Ticks t ∷ past) && not (is_late making grace past)

-- ---- texts

-- The past with these items, which are heard one by one.
abbrev pub items_in : List ItemData → List WatchEvent → List WatchEvent
items_in [] past = past
items_in (item ∷ items) past = items_in items (Happens (HearsItem item) ∷ past)

-- The past with a text that says this.
abbrev pub heard_in : Hearing → List WatchEvent → List WatchEvent
heard_in (Ignores why) past = past
heard_in (Greets contact) past = Happens HearsContact ∷ past
heard_in (Tells items) past = items_in items past

-- ---- watchers

-- What contracts see of a watcher: its centre, the grace, the time, and since when it is quiet.
pub record WatcherView : Type 0 where
  pub centre : CentreView
  pub grace : ℕ
  pub time : ℕ
  pub quiet : ℕ

-- A watcher that was made so stands for a past where its centre stands for the history, and it keeps the time and the quiet at its end.
pub record Watches (watcher : WatcherView) (making : Making) (past : List WatchEvent) : Type 0 where
  pub centre : StandsFor watcher.centre (events making past)
  pub time : watcher.time ≡ time making past
  pub quiet : watcher.quiet ≡ quiet_since making past

-- A fact of the past that a watcher stands for, whichever it is.
abbrev pub InPast : WatcherView → (Making → List WatchEvent → Type 0) → Type 0
InPast watcher fact = (making : Making) (past : List WatchEvent) → Watches watcher making past → fact making past

-- The watcher has the grace, and its centre the address and the registration, that they had before.
abbrev pub KeepsWatch : WatcherView → WatcherView → Type 0
KeepsWatch old new =
    (new.centre.address ≡ old.centre.address) × (new.centre.registration ≡ old.centre.registration) × (new.grace ≡ old.grace)
