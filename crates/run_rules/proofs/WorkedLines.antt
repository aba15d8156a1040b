-- Single lines of an output, and what single happenings tell: by computation.
use Rattle.std.proofs.Common.{◌≡◌, ℕ, ◌+◌, List, [], ◌∷◌, ◌++◌, length, refl, ap, ◌∙◌, arith}
use Rattle.std.proofs.lemmas.List.{length-append}
use Rattle.std.specs.Fmt.{digits}
use Rattle.std.specs.Prelude.{codes, if◌then◌else◌}
use Rattle.adsc_requests.specs.Contents.{collected, report_octets}
use Rattle.adsc_requests.specs.Grammar.{message_octets}
use Rattle.adsc_requests.specs.Tables.{is_modulus_tag}
use Rattle.aircraft_core.specs.declared.entry.Entry.TheVariants.{Answer}
use Rattle.hex.specs.Hex.{encode_with}
use Rattle.run_rules.specs.Happenings.{Entered}
use Rattle.run_rules.specs.Histories.Lines.{AnswersAreRefused, BadLinesAreWritten, HappeningsTell, HeadLettersAreDue, HeadLinesStop, JournalsAreWritten, LimitIsWritten, LogonsAreWritten, PlacesAreCounted, RefusedTextsAreWritten, RowsAreWritten}
use Rattle.run_rules.specs.Texts.{flight_place, refuses, takes}
use Rattle.run_rules.specs.declared.refused.RefusedWhy.TheVariants as why

pub journals_are_written : JournalsAreWritten
unfolding digits
journals_are_written = record { empty = refl; three = refl; other = refl }

pub logons_are_written : LogonsAreWritten
unfolding digits
logons_are_written = record { nothing = refl; sent = refl; accepted = refl; rejected = refl; downlinks = refl }

pub refused_texts_are_written : RefusedTextsAreWritten
unfolding digits encode_with
refused_texts_are_written = record { place = refl; check = refl; unknown = refl; text = refl; other = refl; bits = refl }

pub rows_are_written : RowsAreWritten
unfolding digits encode_with message_octets collected report_octets is_modulus_tag
rows_are_written = record {
  nothing = refl;
  event = refl;
  pending = refl;
  confirmed = refl;
  partial = refl;
  refused = refl;
  cancelling = refl;
  links = refl;
}

pub bad_lines_are_written : BadLinesAreWritten
unfolding digits
bad_lines_are_written = record {
  long = refl;
  head = refl;
  kind = refl;
  byte = refl;
  count = refl;
  field = refl;
  twice = refl;
  address = refl;
  role = refl;
  number = refl;
  logon = refl;
  waiting = refl;
  nothing = refl;
}

pub limit_is_written : LimitIsWritten
unfolding digits
limit_is_written order run = refl

pub places_are_counted : PlacesAreCounted
places_are_counted = record { registration = refl; characters = refl; flight = refl }

pub head_letters_are_due : HeadLettersAreDue
head_letters_are_due = record { first = refl; second = refl; third = refl; fourth = refl }

pub head_lines_stop : HeadLinesStop
head_lines_stop = record {
  aircraft = λ setting log number who. refl;
  ground = λ setting log number addresses kept. refl;
  text = λ setting log number from. refl;
  too_soon = λ log number read. refl;
}

pub answers_are_refused : AnswersAreRefused
answers_are_refused = record {
  other = λ setting log number link answer differs.
      ap (λ same. if same then takes log link (Entered (Answer number link answer.code) ∷ [])
      else refuses number (why.OtherRegistration (flight_place + length answer.flight + 1))) differs
      ∙ ap (λ place. refuses number (why.OtherRegistration place)) (counted answer.flight);
}
  where
    counted : (flight : List ℕ) → flight_place + length flight + 1 ≡ length (codes "/AKLCDYA.AFN/FMH" ++ flight ++ codes ",")
    counted flight =
        let sixteen : length (codes "/AKLCDYA.AFN/FMH") ≡ 16 = refl in
        let one : length (codes ",") ≡ 1 = refl in
        omega (arith, length-append (codes "/AKLCDYA.AFN/FMH") (flight ++ codes ","), length-append flight (codes ","), sixteen, one)

pub happenings_tell : HappeningsTell
happenings_tell = record {
  refused = λ refused. refl;
  answer = λ number found. refl;
  hears = λ number place hearing. refl;
  brings = λ address place. refl;
  of_no_text = λ number moment. refl;
  ticks = λ moment. refl;
}
