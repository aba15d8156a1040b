-- Flight identifiers and registrations are read as they stand.
use Rattle.std.proofs.Common.{◌≡◌, ◌≢◌, ℕ, zero, suc, ◌-◌, ◌≤◌, ◌==◌, true, false, List, [], ◌∷◌, ◌++◌, length, take, drop, replicate, codes, Result, Ok, Err, ◌⊎◌, inl, inr, refl, sym, ap, subst, ◌∙◌, arith, lit≤, append_assoc}
use Rattle.std.specs.List.{AllPass}
use Rattle.std.proofs.lemmas.Bool.{ne_eqb, eqb-true}
use Rattle.std.proofs.lemmas.Bool.Decides.{eqb_tells}
use Rattle.std.proofs.lemmas.List.{take_at, drop_at, length-take-le, length-replicate, take-append-drop}
use Rattle.std.proofs.lemmas.List.Elements.{All-head, All-tail, All-replicate}
use Rattle.bit_terms.proofs.ReadingLaws.{bind_ok, bind_err, ok_same, ok_is_no_err, err_same}
use Rattle.acars_envelope.specs.Names.{IsFlight, IsMark, IsRegistration, is_name_character, is_mark_character, with_dots}
use Rattle.afn_logon.specs.Reading.{flight_reading, is_in, leading, name_reading, passing, registration_reading, several}
use Rattle.afn_logon.specs.declared.characters.Class.TheVariants.{Dot, Name, Mark}
use Rattle.afn_logon.proofs.Readers.{Stops, IsReader}
use Rattle.afn_logon.proofs.PassingLaws.{passes}
use Rattle.afn_logon.proofs.RunLaws.{AreOf, Led, leading-again, leading-alike, leading-led, takes_several}

-- ---- flight identifiers

-- a flight identifier with the comma behind it
abbrev closed_name : List ℕ → List ℕ
closed_name w = w ++ codes ","

comma_behind : (w rest : List ℕ) → closed_name w ++ rest ≡ w ++ 44 ∷ rest
comma_behind w rest = append_assoc w (codes ",") rest

leading_name : (w rest : List ℕ) → IsFlight w → leading 8 Name (w ++ 44 ∷ rest) ≡ length w
leading_name w rest is = leading-again 8 Name w (44 ∷ rest) is.characters is.few (λ c after less same. let comma : 44 ≡ c = cc in rw (← comma) refl)

flight-again : (w rest : List ℕ) → IsFlight w → flight_reading (closed_name w ++ rest) ≡ Ok (w, rest)
unfolding flight_reading passing
flight-again [] rest is = absurd (omega (arith, is.some))
flight-again (c ∷ w) rest is =
    ap flight_reading (comma_behind (c ∷ w) rest)
    ∙ ap (λ (n : ℕ). name_reading n ((c ∷ w) ++ 44 ∷ rest)) (leading_name (c ∷ w) rest is)
    ∙ rw (drop_at (c ∷ w) (44 ∷ rest) (length (c ∷ w)) refl, take_at (c ∷ w) (44 ∷ rest) (length (c ∷ w)) refl) refl

-- the first n characters are a flight identifier, where n is how many of a name there are
front_is_flight : (t : List ℕ) (k : ℕ) → Led (is_in Name) 8 t (suc k) → IsFlight (take (suc k) t)
front_is_flight t k led =
    let size : length (take (suc k) t) ≡ suc k = length-take-le (suc k) t led.within in
    record { some = omega arith; few = omega (arith, led.bound); characters = led.pass }

name-sound : (n : ℕ) (t rest w : List ℕ) → Led (is_in Name) 8 t n → name_reading n t ≡ Ok (w, rest) → IsFlight w × (t ≡ closed_name w ++ rest)
name-sound zero t rest w led ok = absurd (ok_is_no_err _ _ (sym ok))
name-sound (suc k) t rest w led ok =
    let found = bind_ok (passing (codes ",") (drop (suc k) t)) (λ comma. Ok (take (suc k) t, comma.1)) (w, rest) ok in
    let behind = (passes (codes ",")).sound (drop (suc k) t) found.0.1 found.0.0 found.1 in
    subst (λ (y : List ℕ × List ℕ). IsFlight y.0 × (t ≡ closed_name y.0 ++ y.1)) (ok_same _ _ found.2) (
      front_is_flight t k led,
      sym (take-append-drop (suc k) t) ∙ ap (λ (u : List ℕ). take (suc k) t ++ u) behind.1 ∙ sym (append_assoc (take (suc k) t) (codes ",") found.0.1),
    )

-- a comma is due and the text ends, or has another character
comma-refused : (u : List ℕ) (left : ℕ) → passing (codes ",") u ≡ Err left → ((u ≡ []) × (left ≡ 0)) ⊎ ((c : ℕ) × (after : List ℕ) × (u ≡ c ∷ after) × (c ≢ 44) × (left ≡ suc (length after)))
unfolding passing
comma-refused [] left err = inl (refl, sym (err_same 0 left err))
comma-refused (c ∷ after) left err = tested (eqb_tells 44 c)
  where
    tested : (((44 == c) ≡ true) × (44 ≡ c)) ⊎ (((44 == c) ≡ false) × (44 ≢ c))
        → ((c ∷ after ≡ []) × (left ≡ 0)) ⊎ ((d : ℕ) × (behind : List ℕ) × (c ∷ after ≡ d ∷ behind) × (d ≢ 44) × (left ≡ suc (length behind)))
    tested (inl same) = absurd (ok_is_no_err _ _ (rw same.0 at err))
    tested (inr other) = inr (c, after, refl, λ e. other.1 (sym e), sym (err_same (suc (length after)) left (rw other.0 at err)))

other-refused : (c : ℕ) (other : List ℕ) → c ≢ 44 → passing (codes ",") (c ∷ other) ≡ Err (suc (length other))
unfolding passing
other-refused c other apart = rw (ne_eqb 44 c (λ e. apart (sym e))) refl

flight-stops : (t : List ℕ) (left : ℕ) → flight_reading t ≡ Err left → Stops IsFlight closed_name flight_reading t left
unfolding flight_reading
flight-stops t left err = by_count (leading 8 Name t) refl (leading-led 8 Name t) err
  where
    one : IsFlight (65 ∷ [])
    one = record { some = lit≤ tt; few = lit≤ tt; characters = All-replicate (λ c. is_name_character c ≡ true) 1 65 refl }

    only : (k : ℕ) → (passing (codes ",") (drop (suc k) t) ≡ Err left) ⊎ ((comma : Unit {0} × List ℕ) × (passing (codes ",") (drop (suc k) t) ≡ Ok comma) × (◌≡◌ {A = Result (List ℕ × List ℕ) ℕ} (Ok (take (suc k) t, comma.1)) (Err left)))
        → passing (codes ",") (drop (suc k) t) ≡ Err left
    only k (inl e) = e
    only k (inr found) = absurd (ok_is_no_err _ _ found.2)

    in_comma : (k : ℕ) → name_reading (suc k) t ≡ Err left → passing (codes ",") (drop (suc k) t) ≡ Err left
    in_comma k err = only k (bind_err (passing (codes ",") (drop (suc k) t)) (λ comma. Ok (take (suc k) t, comma.1)) left err)

    ends : (k : ℕ) → leading 8 Name t ≡ suc k → Led (is_in Name) 8 t (suc k)
        → ((drop (suc k) t ≡ []) × (left ≡ 0)) ⊎ ((c : ℕ) × (after : List ℕ) × (drop (suc k) t ≡ c ∷ after) × (c ≢ 44) × (left ≡ suc (length after)))
        → Stops IsFlight closed_name flight_reading t left
    ends k is led (inl none) = record {
      front = take (suc k) t;
      rest = drop (suc k) t;
      value = take (suc k) t;
      more = codes ",";
      cut = sym (take-append-drop (suc k) t);
      size = none.1 ∙ sym (ap length none.0);
      fits = front_is_flight t k led;
      begins = refl;
      alike = λ c after other same. absurd (cc);
    }
    ends k is led (inr found) = record {
      front = take (suc k) t;
      rest = drop (suc k) t;
      value = take (suc k) t;
      more = codes ",";
      cut = sym (take-append-drop (suc k) t);
      size = found.4 ∙ sym (ap length found.2);
      fits = front_is_flight t k led;
      begins = refl;
      alike = λ c after other same.
          let size : length (take (suc k) t) ≡ suc k = length-take-le (suc k) t led.within in
          let still : leading 8 Name (take (suc k) t ++ c ∷ other) ≡ suc k = rw is at (leading-alike 8 Name t c after other (rw is same)) in
          let first : found.0 ≡ c = cc in
          let apart : c ≢ 44 = rw (← first) found.3 in
          (suc (length other), rw (still, drop_at (take (suc k) t) (c ∷ other) (suc k) size, other-refused c other apart) refl);
    }

    at_comma : (k : ℕ) → leading 8 Name t ≡ suc k → Led (is_in Name) 8 t (suc k) → passing (codes ",") (drop (suc k) t) ≡ Err left → Stops IsFlight closed_name flight_reading t left
    at_comma k is led err = ends k is led (comma-refused (drop (suc k) t) left err)

    by_count : (n : ℕ) → leading 8 Name t ≡ n → Led (is_in Name) 8 t n → name_reading n t ≡ Err left → Stops IsFlight closed_name flight_reading t left
    by_count zero is led err = record {
      front = [];
      rest = t;
      value = 65 ∷ [];
      more = closed_name (65 ∷ []);
      cut = refl;
      size = sym (err_same (length t) left err);
      fits = one;
      begins = refl;
      alike = λ c after other same.
          let at_front : drop (leading 8 Name t) t ≡ c ∷ after = rw is same in
          let still : leading 8 Name (c ∷ other) ≡ 0 = rw is at (leading-alike 8 Name t c after other at_front) in
          (suc (length other), rw still refl);
    }
    by_count (suc k) is led err = at_comma k is led (in_comma k err)

-- A flight identifier and the comma behind it are read as they stand.
pub reads_flight : IsReader IsFlight closed_name flight_reading
unfolding flight_reading
reads_flight = record {
  sample = 65 ∷ [];
  sample_fits = record { some = lit≤ tt; few = lit≤ tt; characters = All-replicate (λ c. is_name_character c ≡ true) 1 65 refl };
  again = λ w rest is. flight-again w rest is;
  sound = λ t rest w ok. flight-sound t rest w ok;
  stops = flight-stops;
}
  where
    flight-sound : (t rest w : List ℕ) → flight_reading t ≡ Ok (w, rest) → IsFlight w × (t ≡ closed_name w ++ rest)
    flight-sound t rest w ok = name-sound (leading 8 Name t) t rest w (leading-led 8 Name t) ok

-- The characters before a comma, where there is one, are a flight identifier.
pub flight_before : (t : List ℕ) → 1 ≤ leading 8 Name t → IsFlight (take (leading 8 Name t) t)
flight_before t some =
    let led = leading-led 8 Name t in
    let size : length (take (leading 8 Name t) t) ≡ leading 8 Name t = length-take-le (leading 8 Name t) t led.within in
    record { some = omega arith; few = omega (arith, led.bound); characters = led.pass }

-- ---- registrations

not_dot : (c : ℕ) → is_mark_character c ≡ true → (c == 46) ≡ false
not_dot c mark = ne_eqb c 46 (λ e. absurd (impossible (rw e at mark)))
  where
    impossible : is_mark_character 46 ≡ true → ⊥
    impossible same = cc

dots_alone : (w : List ℕ) → AllPass (is_in Dot) w → w ≡ replicate (length w) 46
dots_alone [] dots = refl
dots_alone (c ∷ w) dots =
    let passing : ℕ → Type 0 = λ c. is_in Dot c ≡ true in
    let first : c ≡ 46 = eqb-true c 46 (All-head passing c w dots) in
    let others : w ≡ replicate (length w) 46 = dots_alone w (All-tail passing c w dots) in
    rw first (ap (λ (u : List ℕ). 46 ∷ u) others)

-- the registration with a mark of so many characters less than seven
dotted_mark : (d : ℕ) (mark : List ℕ) → d ≤ 6 → AreOf (7 - d) Mark mark → IsRegistration (with_dots mark)
dotted_mark d mark few are = record {
  mark = mark;
  is_mark = record { some = omega (arith, are.size); few = omega (arith, are.size); characters = are.each };
  dotted = refl;
}

-- What is read behind at most six dots is a mark.
pub read_mark : (d : ℕ) (t rest mark : List ℕ) → d ≤ 6 → several (7 - d) Mark t ≡ Ok (mark, rest) → IsMark mark
read_mark d t rest mark few ok =
    let are = ((takes_several (7 - d) Mark).sound t rest mark ok).0 in
    record { some = omega (arith, are.size); few = omega (arith, are.size); characters = are.each }

-- the dots before it are those that were read
with_its_dots : (d : ℕ) (t mark : List ℕ) → Led (is_in Dot) 6 t d → AreOf (7 - d) Mark mark → with_dots mark ≡ take d t ++ mark
with_its_dots d t mark led are =
    let size : length (take d t) ≡ d = length-take-le d t led.within in
    let count : 7 - length mark ≡ d = omega (arith, are.size, led.bound) in
    let dots : take d t ≡ replicate d 46 = dots_alone (take d t) led.pass ∙ ap (λ (n : ℕ). replicate n 46) size in
    rw (count, dots) refl

registration-again : (v rest : List ℕ) → IsRegistration v → registration_reading (v ++ rest) ≡ Ok (v, rest)
unfolding registration_reading
registration-again v rest is = subst (λ (w : List ℕ). registration_reading (w ++ rest) ≡ Ok (w, rest)) (sym is.dotted) (of_mark is.mark is.is_mark)
  where
    of_mark : (mark : List ℕ) → IsMark mark → registration_reading (with_dots mark ++ rest) ≡ Ok (with_dots mark, rest)
    of_mark [] mark = absurd (omega (arith, mark.some))
    of_mark (m ∷ ms) mark =
        let n : ℕ = 7 - length (m ∷ ms) in
        let before : List ℕ = replicate n 46 in
        let few : n ≤ 6 = omega (arith, mark.some) in
        let size : length before ≡ n = length-replicate n 46 in
        let dots : AllPass (is_in Dot) before = All-replicate (λ c. is_in Dot c ≡ true) n 46 refl in
        let first : is_mark_character m ≡ true = All-head (λ c. is_mark_character c ≡ true) m ms mark.characters in
        let led : leading 6 Dot (before ++ ((m ∷ ms) ++ rest)) ≡ n =
        leading-again 6 Dot before ((m ∷ ms) ++ rest) dots (omega arith) (λ c after less same. let begins : m ≡ c = cc in rw (← begins) (not_dot m first)) ∙ size in
        let are : AreOf (7 - n) Mark (m ∷ ms) = record { size = omega (arith, mark.few); each = mark.characters } in
        rw (append_assoc before (m ∷ ms) rest, led, drop_at before ((m ∷ ms) ++ rest) n size, (takes_several (7 - n) Mark).again (m ∷ ms) rest are) refl

registration-sound : (t rest v : List ℕ) → registration_reading t ≡ Ok (v, rest) → IsRegistration v × (t ≡ v ++ rest)
unfolding registration_reading
registration-sound t rest v ok =
    let d = leading 6 Dot t in
    let led = leading-led 6 Dot t in
    let found = bind_ok (several (7 - d) Mark (drop d t)) (λ mark. Ok (with_dots mark.0, mark.1)) (v, rest) ok in
    let read = (takes_several (7 - d) Mark).sound (drop d t) found.0.1 found.0.0 found.1 in
    let dotted = with_its_dots d t found.0.0 led read.0 in
    subst (λ (y : List ℕ × List ℕ). IsRegistration y.0 × (t ≡ y.0 ++ y.1)) (ok_same _ _ found.2) (
      dotted_mark d found.0.0 led.bound read.0,
      sym (take-append-drop d t) ∙ ap (λ (u : List ℕ). take d t ++ u) read.1 ∙ sym (append_assoc (take d t) found.0.0 found.0.1) ∙ ap (λ (u : List ℕ). u ++ found.0.1) (sym dotted),
    )

registration-stops : (t : List ℕ) (left : ℕ) → registration_reading t ≡ Err left → Stops IsRegistration (λ v. v) registration_reading t left
unfolding registration_reading
registration-stops t left err = at_mark (only (bind_err (several (7 - leading 6 Dot t) Mark (drop (leading 6 Dot t) t)) (λ mark. Ok (with_dots mark.0, mark.1)) left err))
  where
    only : (several (7 - leading 6 Dot t) Mark (drop (leading 6 Dot t) t) ≡ Err left)
        ⊎ ((mark : List ℕ × List ℕ) × (several (7 - leading 6 Dot t) Mark (drop (leading 6 Dot t) t) ≡ Ok mark) × (◌≡◌ {A = Result (List ℕ × List ℕ) ℕ} (Ok (with_dots mark.0, mark.1)) (Err left)))
        → several (7 - leading 6 Dot t) Mark (drop (leading 6 Dot t) t) ≡ Err left
    only (inl e) = e
    only (inr found) = absurd (ok_is_no_err _ _ found.2)

    still : (front rest other : List ℕ) (c : ℕ) (after : List ℕ) → drop (leading 6 Dot t) t ≡ front ++ rest → rest ≡ c ∷ after
        → leading 6 Dot (take (leading 6 Dot t) t ++ (front ++ c ∷ other)) ≡ leading 6 Dot t
    still [] rest other c after cut is = leading-alike 6 Dot t c after other (cut ∙ is)
    still (x ∷ front) rest other c after cut is = leading-alike 6 Dot t x (front ++ rest) (front ++ c ∷ other) cut

    at_mark : several (7 - leading 6 Dot t) Mark (drop (leading 6 Dot t) t) ≡ Err left → Stops IsRegistration (λ v. v) registration_reading t left
    at_mark refused =
        let d = leading 6 Dot t in
        let led = leading-led 6 Dot t in
        let s = (takes_several (7 - d) Mark).stops (drop d t) left refused in
        record {
          front = take d t ++ s.front;
          rest = s.rest;
          value = with_dots s.value;
          more = s.more;
          cut = sym (take-append-drop d t) ∙ ap (λ (u : List ℕ). take d t ++ u) s.cut ∙ sym (append_assoc (take d t) s.front s.rest);
          size = s.size;
          fits = dotted_mark d s.value led.bound s.fits;
          begins = with_its_dots d t s.value led s.fits ∙ ap (λ (u : List ℕ). take d t ++ u) s.begins ∙ sym (append_assoc (take d t) s.front s.more);
          alike = λ c after other is.
              let stop = s.alike c after other is in
              let size : length (take d t) ≡ d = length-take-le d t led.within in
              (stop.0, rw (append_assoc (take d t) s.front (c ∷ other), still s.front s.rest other c after s.cut is, drop_at (take d t) (s.front ++ c ∷ other) d size, stop.1) refl);
        }

-- A registration is read as it stands.
pub reads_registration : IsReader IsRegistration (λ v. v) registration_reading
reads_registration = record {
  sample = with_dots (65 ∷ []);
  sample_fits = dotted_mark 6 (65 ∷ []) (lit≤ tt) (record { size = refl; each = All-replicate (λ c. is_mark_character c ≡ true) 1 65 refl });
  again = λ v rest is. registration-again v rest is;
  sound = λ t rest v ok. registration-sound t rest v ok;
  stops = registration-stops;
}
