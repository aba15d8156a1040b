-- What one more step of a loop reads.
use Rattle.std.proofs.Common.{◌≡◌, ◌≢◌, ℕ, suc, ◌+◌, ◌-◌, ◌≤◌, ◌<◌, ◌==◌, Bool, true, false, List, [], ◌∷◌, ◌++◌, zero, length, drop, get_or, Result, Ok, Err, ◌⊎◌, inl, inr, refl, sym, ap, ◌∙◌, arith, add-one, drop-cons, append_assoc, append-nil}
use Rattle.std.proofs.lemmas.Bool.Decides.{eqb_tells, nat_tests}
use Rattle.std.proofs.lemmas.List.{drop_all}
use Rattle.bit_terms.specs.Reading.{◌>>=◌}
use Rattle.bit_terms.proofs.ReadingLaws.{ok_same, ok_is_no_err}
use Rattle.afn_logon.specs.Contents.{ApplicationData}
use Rattle.afn_logon.specs.Reading.{passing, digit_reading, digits_reading, application_reading, others_reading, applications_reading}
use Rattle.afn_logon.specs.declared.numbers.Digit.{Digit}
use Rattle.afn_logon.specs.declared.kind.Kind.{Kind}

-- ---- characters that are due

passing_first : (c : ℕ) (others t rest : List ℕ) (u : Unit {0}) → passing (c ∷ []) t ≡ Ok (u, rest) → passing (c ∷ others) t ≡ passing others rest
unfolding passing
passing_first c others [] rest u ok = absurd (ok_is_no_err _ _ (sym ok))
passing_first c others (d ∷ t) rest u ok = tested (eqb_tells c d)
  where
    tested : (((c == d) ≡ true) × (c ≡ d)) ⊎ (((c == d) ≡ false) × (c ≢ d)) → passing (c ∷ others) (d ∷ t) ≡ passing others rest
    tested (inl same) = rw same.0 (ap (λ (y : Unit {0} × List ℕ). passing others y.1) (ok_same _ _ (rw same.0 at ok)))
    tested (inr other) = absurd (ok_is_no_err _ _ (sym (rw other.0 at ok)))

passing_refused : (c : ℕ) (others t : List ℕ) (left : ℕ) → passing (c ∷ []) t ≡ Err left → passing (c ∷ others) t ≡ Err left
unfolding passing
passing_refused c others [] left err = err
passing_refused c others (d ∷ t) left err = tested (eqb_tells c d)
  where
    tested : (((c == d) ≡ true) × (c ≡ d)) ⊎ (((c == d) ≡ false) × (c ≢ d)) → passing (c ∷ others) (d ∷ t) ≡ Err left
    tested (inl same) = absurd (ok_is_no_err _ _ (rw same.0 at err))
    tested (inr different) = rw different.0 (rw different.0 at err)

-- what is left at a place begins with what stands there
left_at : {A : Type 0} (xs : List A) (k : ℕ) (d : A) → k < length xs → drop k xs ≡ get_or xs k d ∷ drop (k + 1) xs
left_at xs k d less = drop-cons xs k d less ∙ ap (λ (n : ℕ). get_or xs k d ∷ drop n xs) (sym (add-one k))

module _ (due : List ℕ) (k : ℕ) (t : List ℕ) where
  -- The next character was passed.
  pub due_passed : (rest : List ℕ) (u : Unit {0}) → k < length due → passing (get_or due k 0 ∷ []) t ≡ Ok (u, rest)
      → passing (drop k due) t ≡ passing (drop (k + 1) due) rest
  due_passed rest u less ok = ap (λ (these : List ℕ). passing these t) (left_at due k 0 less) ∙ passing_first (get_or due k 0) (drop (k + 1) due) t rest u ok

  -- The next character was refused.
  pub due_refused : (left : ℕ) → k < length due → passing (get_or due k 0 ∷ []) t ≡ Err left → passing (drop k due) t ≡ Err left
  due_refused left less err = ap (λ (these : List ℕ). passing these t) (left_at due k 0 less) ∙ passing_refused (get_or due k 0) (drop (k + 1) due) t left err

  -- All were passed.
  pub all_passed : length due ≤ k → passing (drop k due) t ≡ Ok (tt, t)
  unfolding passing
  all_passed over = ap (λ (these : List ℕ). passing these t) (drop_all k due over)

-- ---- digits

-- no digit at all, which stands for one that isn't there
abbrev pub no_digit : Digit
no_digit = record { weight = 0; greatest = 0 }

module _ (digits : List Digit) (k limit so_far : ℕ) (t : List ℕ) where
  -- The next digit was read.
  pub digit_read : (number : ℕ) (rest : List ℕ) → k < length digits → digit_reading (get_or digits k no_digit) limit so_far t ≡ Ok (number, rest)
      → digits_reading (drop k digits) limit so_far t ≡ digits_reading (drop (k + 1) digits) limit number rest
  unfolding digits_reading
  digit_read number rest less ok = ap (λ (these : List Digit). digits_reading these limit so_far t) (left_at digits k no_digit less) ∙ rw ok refl

  -- The next digit was refused.
  pub digit_stopped : (left : ℕ) → k < length digits → digit_reading (get_or digits k no_digit) limit so_far t ≡ Err left
      → digits_reading (drop k digits) limit so_far t ≡ Err left
  unfolding digits_reading
  digit_stopped left less err = ap (λ (these : List Digit). digits_reading these limit so_far t) (left_at digits k no_digit less) ∙ rw err refl

  -- All were read.
  pub all_read : length digits ≤ k → digits_reading (drop k digits) limit so_far t ≡ Ok (so_far, t)
  unfolding digits_reading
  all_read over = ap (λ (these : List Digit). digits_reading these limit so_far t) (drop_all k digits over)

-- ---- applications

-- What is read behind these applications, with them in front.
abbrev pub with_front : List ApplicationData → Result (List ApplicationData) ℕ → Result (List ApplicationData) ℕ
with_front front reading = reading >>= λ others. Ok (front ++ others)

front_of_front : (front : List ApplicationData) (a : ApplicationData) (reading : Result (List ApplicationData) ℕ)
    → with_front front (reading >>= λ others. Ok (a ∷ others)) ≡ with_front (front ++ a ∷ []) reading
front_of_front front a (Ok others) = ap (λ (list : List ApplicationData). Ok list) (sym (append_assoc front (a ∷ []) others))
front_of_front front a (Err left) = refl

first_in_front : (a : ApplicationData) (reading : Result (List ApplicationData) ℕ)
    → ((◌>>=◌ {B = ApplicationData × List ApplicationData} reading (λ others. Ok (a, others))) >>= λ both. Ok (both.0 ∷ both.1)) ≡ with_front (a ∷ []) reading
first_in_front a (Ok others) = refl
first_in_front a (Err left) = refl

-- The first application, and those behind it.
pub first_application : (kind : Kind) (t rest : List ℕ) (a : ApplicationData) → application_reading kind t ≡ Ok (a, rest)
    → applications_reading kind t ≡ with_front (a ∷ []) (others_reading kind 3 rest)
unfolding applications_reading
first_application kind t rest a ok = rw ok (first_in_front a (others_reading kind 3 rest))

pub first_application_refused : (kind : Kind) (t : List ℕ) (left : ℕ) → application_reading kind t ≡ Err left → applications_reading kind t ≡ Err left
unfolding applications_reading
first_application_refused kind t left err = rw err refl

no_others : (kind : Kind) (room : ℕ) (t : List ℕ) → length t ≡ 0 → others_reading kind room t ≡ Ok []
unfolding others_reading
no_others kind zero [] none = refl
no_others kind (suc room) [] none = refl
no_others kind room (c ∷ t) none = absurd (omega arith)

others_full : (kind : Kind) (t : List ℕ) → 1 ≤ length t → others_reading kind 0 t ≡ Err (length t)
unfolding others_reading
others_full kind [] some = absurd (omega arith)
others_full kind (c ∷ t) some = refl

others_next : (kind : Kind) (room : ℕ) (t : List ℕ) → 1 ≤ length t
    → others_reading kind (suc room) t ≡ (application_reading kind t >>= λ a. others_reading kind room a.1 >>= λ others. Ok (a.0 ∷ others))
unfolding others_reading
others_next kind room [] some = absurd (omega arith)
others_next kind room (c ∷ t) some = refl

module _ (kind : Kind) (done : List ApplicationData) (count : ℕ) (whole : Result (List ApplicationData) ℕ) (t : List ℕ)
    (left : whole ≡ with_front done (others_reading kind (4 - count) t)) where
  -- The text ends: these are all.
  pub applications_end : length t ≡ 0 → whole ≡ Ok done
  applications_end none = left ∙ ap (with_front done) (no_others kind (4 - count) t none) ∙ ap (λ (list : List ApplicationData). Ok list) (append-nil done)

  -- The text goes on behind the fourth.
  pub applications_full : count ≡ 4 → 1 ≤ length t → whole ≡ Err (length t)
  applications_full full some =
      let none : 4 - count ≡ 0 = omega arith in
      left ∙ ap (λ (room : ℕ). with_front done (others_reading kind room t)) none ∙ ap (with_front done) (others_full kind t some)

  opened : count < 4 → 1 ≤ length t
      → whole ≡ with_front done (application_reading kind t >>= λ a. others_reading kind (4 - (count + 1)) a.1 >>= λ others. Ok (a.0 ∷ others))
  opened few some =
      let room : 4 - count ≡ suc (4 - (count + 1)) = omega arith in
      left ∙ ap (λ (n : ℕ). with_front done (others_reading kind n t)) room ∙ ap (with_front done) (others_next kind (4 - (count + 1)) t some)

  -- The next one is refused.
  pub applications_refused : (stop : ℕ) → count < 4 → 1 ≤ length t → application_reading kind t ≡ Err stop → whole ≡ Err stop
  applications_refused stop few some err = opened few some ∙ rw err refl

  -- The next one stands behind these.
  pub applications_step : (a : ApplicationData) (rest : List ℕ) → count < 4 → 1 ≤ length t → application_reading kind t ≡ Ok (a, rest)
      → whole ≡ with_front (done ++ a ∷ []) (others_reading kind (4 - (count + 1)) rest)
  applications_step a rest few some ok = opened few some ∙ rw ok (front_of_front done a (others_reading kind (4 - (count + 1)) rest))

-- Whether a text goes on.
pub goes_on : (t : List ℕ) (ended : Bool) → ended ≡ (length t == 0) → ended ≡ false → 1 ≤ length t
goes_on t ended is not_yet = not_zero (length t) (sym is ∙ not_yet)
  where
    not_zero : (n : ℕ) → (n == 0) ≡ false → 1 ≤ n
    not_zero n other = grind (arith, nat_tests)

-- Whether a list has room for one of four applications.
pub not_full : (n : ℕ) (full : Bool) → full ≡ (n == 4) → full ≡ false → n ≤ 4 → n < 4
not_full n full is not_yet few = below n (sym is ∙ not_yet) few
  where
    below : (n : ℕ) → (n == 4) ≡ false → n ≤ 4 → n < 4
    below n other few = grind (arith, nat_tests)
