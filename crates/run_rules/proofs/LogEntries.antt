-- The entries of a log stand by the readings of their lines: their lines rise, and the text of a burst line came on the link whose place
-- its address has.
use Rattle.std.proofs.Common.{◌≡◌, ◌⊎◌, ◌<◌, ◌≤◌, ◌+◌, ◌==◌, ℕ, inl, inr, Bool, true, false, List, [], ◌∷◌, ◌++◌, length, Some, refl, sym, ap, ◌∙◌, subst, append-nil, arith}
use Rattle.std.proofs.lemmas.List.{map-append}
use Rattle.aircraft_core.specs.Entries.{is_heard_by, line_of}
use Rattle.aircraft_core.specs.Setting.{Setting}
use Rattle.aircraft_core.specs.declared.entry.Entry.{Entry}
use Rattle.centre_core.specs.Hearing.{Hearing}
use Rattle.net_script.specs.declared.line.ScriptLine.{ScriptLine}
use Rattle.net_script.specs.declared.line.ScriptLine.TheVariants as line
use Rattle.run_rules.specs.Among.{IsAmong}
use Rattle.run_rules.specs.EarlierLines.{text_link}
use Rattle.run_rules.specs.Happenings.{Happening, Entered, Refused, Asked, Cancelled, Brought, Heard, entries}
use Rattle.run_rules.specs.Lines.{line_step, step_of}
use Rattle.run_rules.specs.Orders.{IsRising, is_burst_line, line_order, place_on, reading_at}
use Rattle.run_rules.specs.Stages.{Stage, begun, named, linked, flying, Step, does, receives, stops, stage_after}
use Rattle.run_rules.specs.declared.reading.Reading.{Reading}
use Rattle.run_rules.specs.declared.reading.Reading.TheVariants.{Bad, Says, Brings}
use Rattle.run_rules.proofs.EarlierLines.{stays}
use Rattle.run_rules.proofs.Journals.{entries-append}
use Rattle.run_rules.proofs.LineEntries.{HearsNothing, IsInside, NoneOrOne, OfLine, OnLink, burst_line_receives_nothing, inside_of_line, line_hears_nothing, one_of_burst_line, one_of_line}
use Rattle.run_rules.proofs.Members.{among_back, among_front, among_mapped, among_parts}
use Rattle.run_rules.proofs.Rising.{rising_behind}

-- The entry stands by the reading of its line.
pub record EntryFits (setting : Setting) (readings : List Reading) (entry : Entry) : Type 0 where
  pub from : 1 ≤ line_of entry
  pub upto : line_of entry ≤ length readings
  pub inside : IsInside setting entry
  pub text : is_burst_line (reading_at readings (line_of entry)) ≡ true
      → (place_on setting.addresses (reading_at readings (line_of entry)) ≡ Some (text_link entry))
      × ((link : ℕ) → is_heard_by link entry ≡ (link == text_link entry))

-- The lines at which something was heard.
abbrev pub heard_lines : List Happening → List ℕ
heard_lines [] = []
heard_lines (Heard number link place hearing ∷ log) = number ∷ heard_lines log
heard_lines (happening ∷ log) = heard_lines log

-- These lines are before this one.
abbrev pub AreBelow : ℕ → List ℕ → Type 0
AreBelow bound lines = (number : ℕ) → IsAmong number lines → number < bound

-- What is heard is heard at a line in no burst, behind the entries so far; and an entry comes behind what was heard so far.
abbrev pub IsApart : List Reading → List Happening → Happening → Type 0
IsApart readings log (Heard number link place hearing) = (is_burst_line (reading_at readings number) ≡ false) × AreBelow number (line_order (entries log))
IsApart readings log (Entered made) = AreBelow (line_of made) (heard_lines log)
IsApart readings log (Brought link place made) = AreBelow (line_of made) (heard_lines log)
IsApart readings log happening = Unit {0}

abbrev pub AreApart : List Reading → List Happening → Type 0
AreApart readings [] = Unit {0}
AreApart readings (happening ∷ log) = IsApart readings log happening × AreApart readings log

-- All entries of the log, which are of lines before this one, stand so; and what was heard before this line is apart from them.
pub record LogFits (setting : Setting) (readings : List Reading) (log : List Happening) (number : ℕ) : Type 0 where
  pub heard : AreBelow number (heard_lines log)
  pub apart : AreApart readings log
  pub rising : IsRising (line_order (entries log))
  pub below : (entry : Entry) → IsAmong entry (entries log) → line_of entry < number
  pub each : (entry : Entry) → IsAmong entry (entries log) → EntryFits setting readings entry

-- In the head nothing happened; in the flight the log fits.
abbrev pub StageFits : List Reading → Stage → List Happening → ℕ → Type 0
StageFits readings (flying setting) log number = LogFits setting readings log number
StageFits readings stage log number = log ≡ []

pub nothing_fits : (readings : List Reading) (stage : Stage) (number : ℕ) → StageFits readings stage [] number
nothing_fits readings begun number = refl
nothing_fits readings (named who) number = refl
nothing_fits readings (linked who addresses kept) number = refl
nothing_fits readings (flying setting) number =
    record { heard = λ number among. absurd among; apart = tt; rising = tt; below = λ entry among. absurd among; each = λ entry among. absurd among }

-- ---- the head

abbrev DoesNothing : Step → Type 0
DoesNothing (does []) = Unit {0}
DoesNothing (does (happening ∷ happenings)) = ⊥
DoesNothing (receives setting link place) = ⊥
DoesNothing (stops found value) = Unit {0}

abbrev IsHead : Stage → Type 0
IsHead (flying setting) = ⊥
IsHead stage = Unit {0}

says_nothing : (stage : Stage) (log : List Happening) (number : ℕ) (value : ScriptLine) → IsHead stage → DoesNothing (line_step stage log number value)
says_nothing begun log number (line.A who) head = tt
says_nothing begun log number value head = tt
says_nothing (named who) log number (line.G addresses reserved) head = tt
says_nothing (named who) log number value head = tt
says_nothing (linked who addresses kept) log number (line.S sample) head = tt
says_nothing (linked who addresses kept) log number value head = tt
says_nothing (flying setting) log number value head = absurd head

head_does_nothing : (stage : Stage) (log : List Happening) (number : ℕ) (reading : Reading) → IsHead stage → DoesNothing (step_of stage log number reading)
head_does_nothing stage log number (Bad found value) head = tt
head_does_nothing stage log number (Says value) head = says_nothing stage log number value head
head_does_nothing begun log number (Brings reading) head = tt
head_does_nothing (named who) log number (Brings reading) head = tt
head_does_nothing (linked who addresses kept) log number (Brings reading) head = tt
head_does_nothing (flying setting) log number (Brings reading) head = absurd head

head_steps : (stage : Stage) (log : List Happening) (number : ℕ) (reading : Reading) (happenings : List Happening) → IsHead stage
    → step_of stage log number reading ≡ does happenings → happenings ≡ []
head_steps stage log number reading [] head step = refl
head_steps stage log number reading (happening ∷ happenings) head step =
    absurd (subst DoesNothing step (head_does_nothing stage log number reading head))

-- A line of the head brings no downlink.
pub head_receives_nothing : (stage : Stage) (log : List Happening) (number : ℕ) (reading : Reading) (setting : Setting) (link place : ℕ) → IsHead stage
    → step_of stage log number reading ≡ receives setting link place → ⊥
head_receives_nothing stage log number reading setting link place head step = subst DoesNothing step (head_does_nothing stage log number reading head)

-- ---- lines

same_heard : (happenings log : List Happening) → HearsNothing happenings → heard_lines (happenings ++ log) ≡ heard_lines log
same_heard [] log nothing = refl
same_heard (Entered made ∷ happenings) log nothing = same_heard happenings log nothing
same_heard (Refused refused ∷ happenings) log nothing = same_heard happenings log nothing
same_heard (Asked line link request ∷ happenings) log nothing = same_heard happenings log nothing
same_heard (Cancelled line link cancel message ∷ happenings) log nothing = same_heard happenings log nothing
same_heard (Brought link place made ∷ happenings) log nothing = same_heard happenings log nothing
same_heard (Heard line link place hearing ∷ happenings) log nothing = absurd nothing

entered_apart : (happenings log : List Happening) (number : ℕ) (made : Entry) → HearsNothing happenings → line_of made ≡ number
    → AreBelow number (heard_lines log) → AreBelow (line_of made) (heard_lines (happenings ++ log))
entered_apart happenings log number made nothing line heard other among =
    let under : other < number = heard other (subst (IsAmong other) (same_heard happenings log nothing) among) in omega arith

-- Happenings of this line, none of them a hearing, keep what was heard apart.
still_apart : (readings : List Reading) (log : List Happening) (number : ℕ) (happenings : List Happening) → HearsNothing happenings
    → ((entry : Entry) → IsAmong entry (entries happenings) → line_of entry ≡ number) → AreBelow number (heard_lines log) → AreApart readings log
    → AreApart readings (happenings ++ log)
still_apart readings log number [] nothing of_line heard apart = apart
still_apart readings log number (Entered made ∷ happenings) nothing of_line heard apart = (
  entered_apart happenings log number made nothing (of_line made (among_back made (entries happenings) (made ∷ []) (inl refl))) heard,
  still_apart readings log number happenings nothing (λ entry among. of_line entry (among_front entry (entries happenings) (made ∷ []) among)) heard apart,
)
still_apart readings log number (Brought link place made ∷ happenings) nothing of_line heard apart = (
  entered_apart happenings log number made nothing (of_line made (among_back made (entries happenings) (made ∷ []) (inl refl))) heard,
  still_apart readings log number happenings nothing (λ entry among. of_line entry (among_front entry (entries happenings) (made ∷ []) among)) heard apart,
)
still_apart readings log number (Refused refused ∷ happenings) nothing of_line heard apart =
    (tt, still_apart readings log number happenings nothing (λ entry among. of_line entry (among_front entry (entries happenings) [] among)) heard apart)
still_apart readings log number (Asked line link request ∷ happenings) nothing of_line heard apart =
    (tt, still_apart readings log number happenings nothing (λ entry among. of_line entry (among_front entry (entries happenings) [] among)) heard apart)
still_apart readings log number (Cancelled line link cancel message ∷ happenings) nothing of_line heard apart =
    (tt, still_apart readings log number happenings nothing (λ entry among. of_line entry (among_front entry (entries happenings) [] among)) heard apart)
still_apart readings log number (Heard line link place hearing ∷ happenings) nothing of_line heard apart = absurd nothing

flight_goes_on : (setting : Setting) (readings : List Reading) (log : List Happening) (number : ℕ) (reading : Reading) (happenings : List Happening)
    → 1 ≤ number → number ≤ length readings → reading_at readings number ≡ Some reading
    → step_of (flying setting) log number reading ≡ does happenings → LogFits setting readings log number
    → LogFits setting readings (happenings ++ log) (number + 1)
flight_goes_on setting readings log number reading happenings from upto there step fits =
    record {
      heard = λ other among. let under : other < number = fits.heard other (subst (IsAmong other) (same_heard happenings log (line_hears_nothing setting log number reading happenings step)) among) in omega arith;
      apart = still_apart readings log number happenings (line_hears_nothing setting log number reading happenings step)
          (λ entry among. its (OfLine number) (entries happenings) one entry among) fits.heard fits.apart;
      rising = subst IsRising (sym (ap line_order (entries-append happenings log) ∙ map-append line_of (entries log) (entries happenings)))
          (rising_behind (line_order (entries log)) (line_order (entries happenings)) fits.rising (alone (entries happenings) one) before);
      below = λ entry among. below entry (parts entry among);
      each = λ entry among. each entry (parts entry among);
    }
  where
    one : NoneOrOne (OfLine number) (entries happenings)
    one = one_of_line setting log number reading happenings step

    its : (P : Entry → Type 0) (made : List Entry) → NoneOrOne P made → (entry : Entry) → IsAmong entry made → P entry
    its P [] holds entry among = absurd among
    its P (made ∷ []) holds entry (inl e) = subst P e holds
    its P (made ∷ []) holds entry (inr among) = absurd among
    its P (made ∷ other ∷ more) holds entry among = absurd holds

    alone : (made : List Entry) → NoneOrOne (OfLine number) made → IsRising (line_order made)
    alone [] holds = tt
    alone (made ∷ []) holds = ((λ number among. absurd among), tt)
    alone (made ∷ other ∷ more) holds = absurd holds

    parts : (entry : Entry) → IsAmong entry (entries (happenings ++ log)) → IsAmong entry (entries log) ⊎ IsAmong entry (entries happenings)
    parts entry among = among_parts entry (entries log) (entries happenings) (subst (IsAmong entry) (entries-append happenings log) among)

    before : (earlier later : ℕ) → IsAmong earlier (line_order (entries log)) → IsAmong later (line_order (entries happenings)) → earlier < later
    before earlier later early late =
        let first = among_mapped line_of earlier (entries log) early in
        let then = among_mapped line_of later (entries happenings) late in
        let under : line_of first.0 < number = fits.below first.0 first.1 in
        let here : line_of then.0 ≡ number = its (OfLine number) (entries happenings) one then.0 then.1 in
        let is_earlier : line_of first.0 ≡ earlier = first.2 in
        let is_later : line_of then.0 ≡ later = then.2 in omega arith

    below : (entry : Entry) → IsAmong entry (entries log) ⊎ IsAmong entry (entries happenings) → line_of entry < number + 1
    below entry (inl among) = let under : line_of entry < number = fits.below entry among in omega arith
    below entry (inr among) = let here : line_of entry ≡ number = its (OfLine number) (entries happenings) one entry among in omega arith

    on_link : is_burst_line (Some reading) ≡ true → (entry : Entry) → IsAmong entry (entries happenings) → OnLink number (place_on setting.addresses (Some reading)) entry
    on_link is_burst entry among =
        its (OnLink number (place_on setting.addresses (Some reading))) (entries happenings)
        (one_of_burst_line setting log number reading happenings is_burst step) entry among

    each : (entry : Entry) → IsAmong entry (entries log) ⊎ IsAmong entry (entries happenings) → EntryFits setting readings entry
    each entry (inl among) = fits.each entry among
    each entry (inr among) =
        let here : line_of entry ≡ number = its (OfLine number) (entries happenings) one entry among in
        record {
          from = omega arith;
          upto = omega arith;
          inside = its (IsInside setting) (entries happenings) (inside_of_line setting log number reading happenings step) entry among;
          text = λ is_burst. text here (on_link (sym (ap is_burst_line (ap (reading_at readings) here ∙ there)) ∙ is_burst) entry among);
        }
      where
        text : line_of entry ≡ number → OnLink number (place_on setting.addresses (Some reading)) entry
            → (place_on setting.addresses (reading_at readings (line_of entry)) ≡ Some (text_link entry))
            × ((link : ℕ) → is_heard_by link entry ≡ (link == text_link entry))
        text here on = (ap (place_on setting.addresses) (ap (reading_at readings) here ∙ there) ∙ on.1, on.2)

nothing_now : (happenings log : List Happening) → happenings ≡ [] → log ≡ [] → happenings ++ log ≡ []
nothing_now happenings log first then = ap (λ list. list ++ log) first ∙ then

-- What a line does keeps that the log fits.
pub line_fits : (readings : List Reading) (stage : Stage) (log : List Happening) (number : ℕ) (reading : Reading) (happenings : List Happening)
    → 1 ≤ number → number ≤ length readings → reading_at readings number ≡ Some reading
    → step_of stage log number reading ≡ does happenings → StageFits readings stage log number
    → StageFits readings (stage_after stage reading) (happenings ++ log) (number + 1)
line_fits readings begun log number reading happenings from upto there step fits =
    subst (λ now. StageFits readings (stage_after begun reading) now (number + 1)) (sym (nothing_now happenings log (head_steps begun log number reading happenings tt step) fits))
    (nothing_fits readings (stage_after begun reading) (number + 1))
line_fits readings (named who) log number reading happenings from upto there step fits =
    subst (λ now. StageFits readings (stage_after (named who) reading) now (number + 1)) (sym (nothing_now happenings log (head_steps (named who) log number reading happenings tt step) fits))
    (nothing_fits readings (stage_after (named who) reading) (number + 1))
line_fits readings (linked who addresses kept) log number reading happenings from upto there step fits =
    subst (λ now. StageFits readings (stage_after (linked who addresses kept) reading) now (number + 1))
    (sym (nothing_now happenings log (head_steps (linked who addresses kept) log number reading happenings tt step) fits))
    (nothing_fits readings (stage_after (linked who addresses kept) reading) (number + 1))
line_fits readings (flying setting) log number reading happenings from upto there step fits =
    subst (λ stage. StageFits readings stage (happenings ++ log) (number + 1)) (sym (stays setting reading))
    (flight_goes_on setting readings log number reading happenings from upto there step fits)

-- What is heard keeps it too.
pub heard_fits : (setting : Setting) (readings : List Reading) (log : List Happening) (number : ℕ) (reading : Reading) (link place : ℕ) (hearing : Hearing)
    → reading_at readings number ≡ Some reading → step_of (flying setting) log number reading ≡ receives setting link place
    → LogFits setting readings log number → LogFits setting readings (Heard number link place hearing ∷ log) (number + 1)
heard_fits setting readings log number reading link place hearing there step fits =
    record {
      heard = λ other among. at other among;
      apart = ((no_burst, below), fits.apart);
      rising = subst (λ made. IsRising (line_order made)) (sym (append-nil (entries log))) fits.rising;
      below = λ entry among. let under : line_of entry < number = fits.below entry (subst (IsAmong entry) (append-nil (entries log)) among) in omega arith;
      each = λ entry among. fits.each entry (subst (IsAmong entry) (append-nil (entries log)) among);
    }
  where
    at : (other : ℕ) → IsAmong other (number ∷ heard_lines log) → other < number + 1
    at other (inl e) = omega arith
    at other (inr among) = let under : other < number = fits.heard other among in omega arith

    no_burst : is_burst_line (reading_at readings number) ≡ false
    no_burst = ap is_burst_line there ∙ by (is_burst_line (Some reading)) refl
      where
        by : (b : Bool) → is_burst_line (Some reading) ≡ b → is_burst_line (Some reading) ≡ false
        by true e = absurd (burst_line_receives_nothing setting log number reading setting link place e step)
        by false e = e

    below : AreBelow number (line_order (entries log))
    below line among =
        let found = among_mapped line_of line (entries log) among in
        subst (λ n. n < number) found.2 (fits.below found.0 found.1)
