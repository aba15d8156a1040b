-- A reading stops within the longest text of its form.
use Rattle.std.proofs.Common.{◌≡◌, ℕ, ◌+◌, ◌≤◌, List, length, Result, Err, ap, arith, length-append}
use Rattle.afn_logon.specs.Reading.{contact_reading, answer_reading}
use Rattle.afn_logon.proofs.Readers.{Stops}
use Rattle.afn_logon.proofs.FormLaws.{reads_contact, reads_answer}
use Rattle.afn_logon.proofs.SizeLaws.{contact_piece, answer_piece}

-- So many characters are left, with at most so many before them.
pub record StopsWithin (most : ℕ) (t : List ℕ) (left : ℕ) : Type 0 where
  pub within : left ≤ length t
  pub near : length t ≤ left + most

stops_within : {V A : Type 0} {Fits : V → Type 0} {text : V → List ℕ} {read : List ℕ → Result A ℕ} {t : List ℕ} {left : ℕ} (most : ℕ)
    → ((v : V) → Fits v → length (text v) ≤ most) → Stops Fits text read t left → StopsWithin most t left
stops_within most few s =
    let front = few s.value s.fits in
    record {
      within = omega (arith, s.size, ap length s.cut, length-append s.front s.rest);
      near = omega (arith, front, s.size, ap length s.begins, length-append s.front s.more, ap length s.cut, length-append s.front s.rest);
    }

pub contact_stops : (t : List ℕ) (left : ℕ) → contact_reading t ≡ Err left → StopsWithin 93 t left
contact_stops t left err = stops_within 93 (λ c is. (contact_piece c is).few) (reads_contact.stops t left err)

pub answer_stops : (t : List ℕ) (left : ℕ) → answer_reading t ≡ Err left → StopsWithin 61 t left
answer_stops t left err = stops_within 61 (λ a is. (answer_piece a is).few) (reads_answer.stops t left err)
