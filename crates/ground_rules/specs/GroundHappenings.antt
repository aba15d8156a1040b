-- What happens in a ground log, and the past of each centre in it (this project's profile).
use Rattle.std.specs.Prelude.{ℕ, ◌==◌, cond, List, [], ◌∷◌, slice_index_or}
use Rattle.centre_core.specs.Events.{CentreEvent, Asks, Cancels, CancelsAll}
use Rattle.centre_core.specs.Hearing.{Hearing}
use Rattle.centre_core.specs.Histories.{table_at}
use Rattle.centre_core.specs.View.{CentreView}
use Rattle.ground_rules.specs.Watching.{Making, WatchEvent, Happens, Ticks, WatcherView, events, heard_in, quiet_since, time}
use Rattle.net_script.specs.declared.line.Cancel.{Cancel}
use Rattle.net_script.specs.declared.line.Cancel.TheVariants.{Of, EmergencyMode, All}
use Rattle.run_rules.specs.Happenings.{Happening, Asked, Cancelled, Heard}

-- Something that happens at a line. A ground log's happenings are a list, the newest first.
pub data GroundHappening : Type 0 where
  -- at this line the clock tells this time
  Ticked : ℕ → ℕ → GroundHappening
  -- this happens at a centre, as in the run of a script; a text is heard from wherever it comes, so it has no place among downlinks
  Did : Happening → GroundHappening

-- At this line this centre hears a text that says this.
abbrev pub hears_text : ℕ → ℕ → Hearing → GroundHappening
hears_text line link hearing = Did (Heard line link 0 hearing)

-- The aircraft's registration, and the addresses of its centres.
pub record Names : Type 0 where
  pub registration : List ℕ
  pub addresses : List (List ℕ)

-- ---- the past of a centre, which is named by its place among the addresses

-- The past after the centre cancels so: a cancel of emergency mode is no event, since it changes no row.
abbrev pub cancel_in : Cancel → List WatchEvent → List WatchEvent
cancel_in (Of kind) past = Happens (Cancels kind) ∷ past
cancel_in EmergencyMode past = past
cancel_in All past = Happens CancelsAll ∷ past

-- The past of a centre after what happens at a centre.
abbrev pub past_with : ℕ → Happening → List WatchEvent → List WatchEvent
past_with link (Asked line other request) past = cond (link == other) (Happens (Asks request) ∷ past) past
past_with link (Cancelled line other cancel message) past = cond (link == other) (cancel_in cancel past) past
past_with link (Heard line other place hearing) past = cond (link == other) (heard_in hearing past) past
past_with link happening past = past

-- The past of a centre in a log. Each centre hears each tick.
abbrev pub past_of : ℕ → List GroundHappening → List WatchEvent
past_of link [] = []
past_of link (Ticked line t ∷ log) = Ticks t ∷ past_of link log
past_of link (Did happening ∷ log) = past_with link happening (past_of link log)

-- Each watcher is made at time 0, with a centre that has heard and asked nothing.
abbrev pub at_start : Making
at_start = record { moment = 0; before = [] }

-- ---- centres and watchers at the end of a log

-- The history of a centre.
abbrev pub events_at : ℕ → List GroundHappening → List CentreEvent
events_at link log = events at_start (past_of link log)

-- The centre.
abbrev pub centre_at : Names → ℕ → List GroundHappening → CentreView
centre_at names link log = record {
  address = slice_index_or names.addresses link [];
  registration = names.registration;
  table = table_at (events_at link log);
}

-- Its watcher.
abbrev pub watcher_at : Names → ℕ → ℕ → List GroundHappening → WatcherView
watcher_at names grace link log = record {
  centre = centre_at names link log;
  grace = grace;
  time = time at_start (past_of link log);
  quiet = quiet_since at_start (past_of link log);
}
