-- Contact texts and answer texts are read as they are written, and what is refused is refused at its first mismatch.
use Rattle.std.proofs.Common.{◌≡◌, ℕ, zero, suc, ◌+◌, ◌-◌, ◌≤◌, ◌<◌, List, [], ◌∷◌, ◌++◌, length, take, flat_map, codes, Result, Ok, Err, ◌⊎◌, inl, inr, refl, sym, ap, subst, ◌∙◌, arith, append_assoc, append-nil, length-append}
use Rattle.std.specs.Prelude.{All}
use Rattle.std.proofs.Math.Seq.{take-append-add}
use Rattle.std.proofs.lemmas.Bool.{cases_lt}
use Rattle.std.proofs.lemmas.List.{take_at}
use Rattle.std.proofs.lemmas.List.Elements.{All-cons, All-head, All-nil, All-tail}
use Rattle.bit_terms.specs.Reading.{◌>>=◌}
use Rattle.bit_terms.proofs.ReadingLaws.{bind_ok, bind_err, ok_same, ok_is_no_err, err_same}
use Rattle.afn_logon.specs.Contents.{ApplicationData, ContactData, AnswerData, IsApplication, AreApplications, IsContact, IsAnswer}
use Rattle.afn_logon.specs.Texts.{airframe_text, answer_text, answered_text, clock_text, contact_text, either_text, offered_text, one_digit, position_text}
use Rattle.afn_logon.specs.Forms.{IsContactText, IsAnswerText, IsSomeContact, IsSomeAnswer}
use Rattle.afn_logon.specs.Mismatch.{BeginsSome, IsFirstMismatch}
use Rattle.afn_logon.specs.Kinds.{application_text, greatest_number}
use Rattle.afn_logon.specs.Reading.{application_reading, others_reading, applications_reading, contact_reading, answer_reading}
use Rattle.afn_logon.specs.declared.kind.Kind.{Kind}
use Rattle.afn_logon.specs.declared.kind.Kind.TheVariants.{Offered, Answered}
use Rattle.afn_logon.proofs.Readers.{Stops, IsWhole, ended, told_whole, preceded, closed}
use Rattle.afn_logon.proofs.PassingLaws.{passes, chooses}
use Rattle.afn_logon.proofs.NameLaws.{reads_flight, reads_registration}
use Rattle.afn_logon.proofs.FieldLaws.{reads_airframe, reads_application, reads_clock, reads_one, reads_position}

-- ---- the applications behind the first

-- up to so many applications that fit
pub record FitOthers (kind : Kind) (most : ℕ) (others : List ApplicationData) : Type 0 where
  pub few : length others ≤ most
  pub each : All (IsApplication (greatest_number kind)) others

-- an application has a first character
application_begins : (kind : Kind) (a : ApplicationData) (rest : List ℕ) → (u : List ℕ) × (application_text kind a ++ rest ≡ 47 ∷ u)
application_begins Offered a rest = (_, refl)
application_begins Answered a rest = (_, refl)

-- the reading of an application and those behind it
abbrev next_application : Kind → ℕ → List ℕ → Result (List ApplicationData) ℕ
next_application kind most t = application_reading kind t >>= λ a. others_reading kind most a.1 >>= λ others. Ok (a.0 ∷ others)

others-step : (kind : Kind) (most : ℕ) (t : List ℕ) (c : ℕ) (u : List ℕ) → t ≡ c ∷ u → others_reading kind (suc most) t ≡ next_application kind most t
unfolding others_reading
others-step kind most t c u is = rw is refl

-- a text with a character in it has a first one
has_first : (front : List ℕ) (c : ℕ) (other : List ℕ) → (d : ℕ) × (u : List ℕ) × (front ++ c ∷ other ≡ d ∷ u)
has_first [] c other = (c, other, refl)
has_first (d ∷ front) c other = (d, front ++ c ∷ other, refl)

others-again : (kind : Kind) (most : ℕ) (others : List ApplicationData) → FitOthers kind most others
    → others_reading kind most (flat_map (application_text kind) others) ≡ Ok others
unfolding others_reading
others-again kind zero [] fits = refl
others-again kind (suc most) [] fits = refl
others-again kind zero (a ∷ others) fits = absurd (omega (arith, fits.few))
others-again kind (suc most) (a ∷ others) fits =
    let rest = flat_map (application_text kind) others in
    let begins = application_begins kind a rest in
    let first : IsApplication (greatest_number kind) a = All-head (IsApplication (greatest_number kind)) a others fits.each in
    let behind : FitOthers kind most others = record { few = omega (arith, fits.few); each = All-tail (IsApplication (greatest_number kind)) a others fits.each } in
    others-step kind most (application_text kind a ++ rest) 47 begins.0 begins.1
    ∙ rw ((reads_application kind).again a rest first, others-again kind most others behind) refl

-- where no character is left no application is
none_left : (kind : Kind) (most : ℕ) (others : List ApplicationData) → ◌≡◌ {A = Result (List ApplicationData) ℕ} (Ok []) (Ok others)
    → FitOthers kind most others × ([] ≡ flat_map (application_text kind) others)
none_left kind most others ok =
    subst (λ (list : List ApplicationData). FitOthers kind most list × ([] ≡ flat_map (application_text kind) list)) (ok_same _ _ ok)
    (record { few = omega arith; each = All-nil (IsApplication (greatest_number kind)) }, refl)

others-sound : (kind : Kind) (most : ℕ) (t : List ℕ) (others : List ApplicationData) → others_reading kind most t ≡ Ok others
    → FitOthers kind most others × (t ≡ flat_map (application_text kind) others)
unfolding others_reading
others-sound kind zero [] others ok = none_left kind zero others ok
others-sound kind (suc most) [] others ok = none_left kind (suc most) others ok
others-sound kind zero (c ∷ t) others ok = absurd (ok_is_no_err _ _ (sym ok))
others-sound kind (suc most) (c ∷ t) others ok =
    let found = bind_ok (application_reading kind (c ∷ t)) (λ a. others_reading kind most a.1 >>= λ more. Ok (a.0 ∷ more)) others ok in
    let behind = bind_ok (others_reading kind most found.0.1) (λ more. Ok (found.0.0 ∷ more)) others found.2 in
    let first = (reads_application kind).sound (c ∷ t) found.0.1 found.0.0 found.1 in
    let more = others-sound kind most found.0.1 behind.0 behind.1 in
    subst (λ (list : List ApplicationData). FitOthers kind (suc most) list × (c ∷ t ≡ flat_map (application_text kind) list)) (ok_same _ _ behind.2) (
      record {
        few = omega (arith, more.0.few);
        each = All-cons (IsApplication (greatest_number kind)) found.0.0 behind.0 first.0 more.0.each;
      },
      first.1 ∙ ap (λ (u : List ℕ). application_text kind found.0.0 ++ u) more.1,
    )

others-stops : (kind : Kind) (most : ℕ) (t : List ℕ) (left : ℕ) → others_reading kind most t ≡ Err left
    → Stops (FitOthers kind most) (flat_map (application_text kind)) (others_reading kind most) t left
unfolding others_reading
others-stops kind zero [] left err = absurd (ok_is_no_err _ _ err)
others-stops kind (suc most) [] left err = absurd (ok_is_no_err _ _ err)
others-stops kind zero (c ∷ t) left err = record {
  front = [];
  rest = c ∷ t;
  value = [];
  more = [];
  cut = refl;
  size = sym (err_same (suc (length t)) left err);
  fits = record { few = omega arith; each = All-nil (IsApplication (greatest_number kind)) };
  begins = refl;
  alike = λ d after other is. (suc (length other), refl);
}
others-stops kind (suc most) (c ∷ t) left err =
    in_part (λ rest. others-stops kind most rest left)
    (bind_err (application_reading kind (c ∷ t)) (λ a. others_reading kind most a.1 >>= λ more. Ok (a.0 ∷ more)) left err)
  where
    in_first : Stops (IsApplication (greatest_number kind)) (application_text kind) (application_reading kind) (c ∷ t) left
        → Stops (FitOthers kind (suc most)) (flat_map (application_text kind)) (others_reading kind (suc most)) (c ∷ t) left
    in_first s = record {
      front = s.front;
      rest = s.rest;
      value = s.value ∷ [];
      more = s.more;
      cut = s.cut;
      size = s.size;
      fits = record {
        few = omega arith;
        each = All-cons (IsApplication (greatest_number kind)) s.value [] s.fits (All-nil (IsApplication (greatest_number kind)));
      };
      begins = append-nil (application_text kind s.value) ∙ s.begins;
      alike = λ d after other is.
          let stop = s.alike d after other is in
          let first = has_first s.front d other in
          (stop.0, others-step kind most (s.front ++ d ∷ other) first.0 first.1 first.2 ∙ rw stop.1 refl);
    }

    in_others : (a : ApplicationData × List ℕ) → application_reading kind (c ∷ t) ≡ Ok a
        → Stops (FitOthers kind most) (flat_map (application_text kind)) (others_reading kind most) a.1 left
        → Stops (FitOthers kind (suc most)) (flat_map (application_text kind)) (others_reading kind (suc most)) (c ∷ t) left
    in_others a ok s =
        let first = (reads_application kind).sound (c ∷ t) a.1 a.0 ok in
        let w = application_text kind a.0 in
        record {
          front = w ++ s.front;
          rest = s.rest;
          value = a.0 ∷ s.value;
          more = s.more;
          cut = first.1 ∙ ap (λ (u : List ℕ). w ++ u) s.cut ∙ sym (append_assoc w s.front s.rest);
          size = s.size;
          fits = record {
            few = omega (arith, s.fits.few);
            each = All-cons (IsApplication (greatest_number kind)) a.0 s.value first.0 s.fits.each;
          };
          begins = ap (λ (u : List ℕ). w ++ u) s.begins ∙ sym (append_assoc w s.front s.more);
          alike = λ d after other is.
              let stop = s.alike d after other is in
              let begins = application_begins kind a.0 (s.front ++ d ∷ other) in (
                stop.0,
                ap (others_reading kind (suc most)) (append_assoc w s.front (d ∷ other))
                    ∙ others-step kind most (w ++ (s.front ++ d ∷ other)) 47 begins.0 begins.1
                    ∙ rw ((reads_application kind).again a.0 (s.front ++ d ∷ other) first.0, stop.1) refl,
              );
        }

    in_rest : (a : ApplicationData × List ℕ)
        → (others_reading kind most a.1 ≡ Err left) ⊎ ((more : List ApplicationData) × (others_reading kind most a.1 ≡ Ok more) × (◌≡◌ {A = Result (List ApplicationData) ℕ} (Ok (a.0 ∷ more)) (Err left)))
        → others_reading kind most a.1 ≡ Err left
    in_rest a (inl e) = e
    in_rest a (inr found) = absurd (ok_is_no_err _ _ found.2)

    in_part : ((rest : List ℕ) → others_reading kind most rest ≡ Err left → Stops (FitOthers kind most) (flat_map (application_text kind)) (others_reading kind most) rest left)
        → (application_reading kind (c ∷ t) ≡ Err left)
        ⊎ ((a : ApplicationData × List ℕ) × (application_reading kind (c ∷ t) ≡ Ok a) × ((others_reading kind most a.1 >>= λ more. Ok (a.0 ∷ more)) ≡ Err left))
        → Stops (FitOthers kind (suc most)) (flat_map (application_text kind)) (others_reading kind (suc most)) (c ∷ t) left
    in_part deeper (inl refused) = in_first ((reads_application kind).stops (c ∷ t) left refused)
    in_part deeper (inr found) =
        in_others found.0 found.1
        (deeper found.0.1 (in_rest found.0 (bind_err (others_reading kind most found.0.1) (λ more. Ok (found.0.0 ∷ more)) left found.2)))

-- at the end no application is left
pub reads_others : (kind : Kind) (most : ℕ) → IsWhole (FitOthers kind most) (flat_map (application_text kind)) (others_reading kind most)
reads_others kind most = record {
  sample = [];
  sample_fits = record { few = omega arith; each = All-nil (IsApplication (greatest_number kind)) };
  again = λ others fits. others-again kind most others fits;
  sound = λ t others ok. others-sound kind most t others ok;
  stops = others-stops kind most;
}

-- ---- one to four applications

-- a list as its first application and the others
abbrev parted : ApplicationData → List ApplicationData → ApplicationData × List ApplicationData
parted sample [] = (sample, [])
parted sample (a ∷ others) = (a, others)

-- The applications of a text are read as they are written.
pub reads_applications : (kind : Kind) → IsWhole (AreApplications (greatest_number kind)) (flat_map (application_text kind)) (applications_reading kind)
unfolding applications_reading
reads_applications kind =
    told_whole (ended (reads_application kind) (reads_others kind 3)) (record {
      back = parted (reads_application kind).sample;
      told = whole;
      back_fits = parts;
      fits = λ x fits. record {
        some = omega arith;
        few = omega (arith, fits.1.few);
        each = All-cons (IsApplication (greatest_number kind)) x.0 x.1 fits.0 fits.1.each;
      };
      written = λ x fits. refl;
    })
  where
    whole : (list : List ApplicationData) → AreApplications (greatest_number kind) list
        → (parted (reads_application kind).sample list).0 ∷ (parted (reads_application kind).sample list).1 ≡ list
    whole [] are = absurd (omega (arith, are.some))
    whole (a ∷ others) are = refl

    parts : (list : List ApplicationData) → AreApplications (greatest_number kind) list
        → IsApplication (greatest_number kind) (parted (reads_application kind).sample list).0 × FitOthers kind 3 (parted (reads_application kind).sample list).1
    parts [] are = absurd (omega (arith, are.some))
    parts (a ∷ others) are = (
      All-head (IsApplication (greatest_number kind)) a others are.each,
      record { few = omega (arith, are.few); each = All-tail (IsApplication (greatest_number kind)) a others are.each },
    )

-- ---- the two texts

-- the fields of a contact text with the characters that are read with each
contact_fields : (head flight comma registration airframe clock place position active applications : List ℕ)
    → head ++ flight ++ comma ++ registration ++ comma ++ airframe ++ comma ++ clock ++ place ++ position ++ comma ++ active ++ applications
    ≡ (head ++ (flight ++ comma)) ++ ((registration ++ comma) ++ ((airframe ++ comma) ++ (clock ++ ((place ++ position) ++ ((comma ++ active) ++ applications)))))
contact_fields head flight comma registration airframe clock place position active applications = simp append_assoc

-- the same of an answer text
answer_fields : (head flight comma registration code_head code applications : List ℕ)
    → head ++ flight ++ comma ++ registration ++ code_head ++ code ++ applications
    ≡ (head ++ (flight ++ comma)) ++ ((registration ++ code_head) ++ (code ++ applications))
answer_fields head flight comma registration code_head code applications = simp append_assoc

-- A contact text is read as it is written.
pub reads_contact : IsWhole IsContact contact_text contact_reading
unfolding contact_reading contact_text
reads_contact =
    told_whole
    (ended (preceded (passes (codes "/FMH")) reads_flight)
    (ended (closed reads_registration (passes (codes ",")))
    (ended reads_airframe
    (ended reads_clock
    (ended (preceded (passes (codes "/FPO")) reads_position)
    (ended (preceded (passes (codes ",")) (chooses 48 49 (omega arith)))
    (reads_applications Offered)))))))
    (record {
      back = λ c. (c.flight, (c.registration, (c.airframe, (c.clock, (c.position, (c.active, c.applications))))));
      told = λ c is. refl;
      back_fits = λ c is. (is.flight, (is.registration, (is.airframe, (is.clock, (is.position, (tt, is.applications))))));
      fits = λ x fits. record {
        flight = fits.0;
        registration = fits.1.0;
        airframe = fits.1.1.0;
        clock = fits.1.1.1.0;
        position = fits.1.1.1.1.0;
        applications = fits.1.1.1.1.1.1;
      };
      written = λ x fits.
          contact_fields (codes "/FMH") x.0 (codes ",") x.1.0 (airframe_text x.1.1.0) (clock_text x.1.1.1.0) (codes "/FPO") (position_text x.1.1.1.1.0)
          (either_text 48 49 x.1.1.1.1.1.0) (flat_map offered_text x.1.1.1.1.1.1);
    })

-- An answer text is read as it is written.
pub reads_answer : IsWhole IsAnswer answer_text answer_reading
unfolding answer_reading answer_text
reads_answer =
    told_whole
    (ended (preceded (passes (codes "/FMH")) reads_flight)
    (ended (closed reads_registration (passes (codes "/FAK")))
    (ended reads_one
    (reads_applications Answered))))
    (record {
      back = λ a. (a.flight, (a.registration, (a.code, a.applications)));
      told = λ a is. refl;
      back_fits = λ a is. (is.flight, (is.registration, (is.code, is.applications)));
      fits = λ x fits. record { flight = fits.0; registration = fits.1.0; code = fits.1.1.0; applications = fits.1.1.1 };
      written = λ x fits.
          answer_fields (codes "/FMH") x.0 (codes ",") x.1.0 (codes "/FAK") (one_digit x.1.1.0) (flat_map answered_text x.1.1.1);
    })

-- ---- the first mismatch

-- A form is the texts of the values that fit.
pub record IsFormOf {V : Type 0} (Form : List ℕ → Type 0) (Fits : V → Type 0) (text : V → List ℕ) : Type 0 where
  pub of_value : (v : V) → Fits v → Form (text v)
  pub value_of : (u : List ℕ) → Form u → (v : V) × Fits v × (u ≡ text v)

-- Where a reading to the end stops, the text has its first mismatch.
pub first_mismatch : {V : Type 0} {Form : List ℕ → Type 0} {Fits : V → Type 0} {text : V → List ℕ} {read : List ℕ → Result V ℕ}
    → IsFormOf Form Fits text → IsWhole Fits text read → (t : List ℕ) (left : ℕ) → read t ≡ Err left → IsFirstMismatch Form t (length t - left)
first_mismatch {V} {Form} {Fits} {text} {read} F W t left err = record {
  none = λ form.
      let found = F.value_of t form in
      ok_is_no_err _ _ (sym (ap read found.2 ∙ W.again found.0 found.1) ∙ err);
  within = omega arith;
  shared = (s.more, rw front_taken (subst Form s.begins (F.of_value s.value s.fits)));
  longest = λ longer within begins. no_longer longer within begins (cases_lt (length t - left) longer);
}
  where
    s : Stops Fits text read t left
    s = W.stops t left err

    place_is : length t - left ≡ length s.front
    place_is = omega (arith, ap length s.cut, length-append s.front s.rest, s.size)

    front_taken : take (length t - left) t ≡ s.front
    front_taken = ap (take (length t - left)) s.cut ∙ take_at s.front s.rest (length t - left) (sym place_is)

    beyond : (rest : List ℕ) → s.rest ≡ rest → (longer : ℕ) → length t - left < longer → longer ≤ length t → BeginsSome Form (take longer t) → ⊥
    beyond [] is longer less within begins = omega (arith, ap length s.cut, length-append s.front s.rest, ap length is, s.size)
    beyond (c ∷ after) is longer less within begins =
        let k : ℕ = longer - length s.front - 1 in
        let sum : longer ≡ length s.front + suc k = omega (arith, place_is) in
        let taken : take longer t ≡ s.front ++ c ∷ take k after =
        ap (take longer) (s.cut ∙ ap (λ (u : List ℕ). s.front ++ u) is)
        ∙ ap (λ (n : ℕ). take n (s.front ++ c ∷ after)) sum
        ∙ take-append-add s.front (c ∷ after) (suc k) in
        let whole : take longer t ++ begins.0 ≡ s.front ++ c ∷ (take k after ++ begins.0) =
        ap (λ (u : List ℕ). u ++ begins.0) taken ∙ append_assoc s.front (c ∷ take k after) begins.0 in
        let found = F.value_of (take longer t ++ begins.0) begins.1 in
        let stop = s.alike c after (take k after ++ begins.0) is in
        ok_is_no_err _ _ (sym (ap read (sym whole ∙ found.2) ∙ W.again found.0 found.1) ∙ stop.1)

    no_longer : (longer : ℕ) → longer ≤ length t → BeginsSome Form (take longer t) → (length t - left < longer) ⊎ (longer ≤ length t - left) → longer ≤ length t - left
    no_longer longer within begins (inr few) = few
    no_longer longer within begins (inl more) = absurd (beyond s.rest refl longer more within begins)

-- A text has one first mismatch.
pub one_mismatch : {Form : List ℕ → Type 0} {t : List ℕ} {p q : ℕ} → IsFirstMismatch Form t p → IsFirstMismatch Form t q → p ≡ q
one_mismatch {p = p} {q = q} a b =
    let up : p ≤ q = b.longest p a.within a.shared in
    let down : q ≤ p = a.longest q b.within b.shared in
    omega arith

-- What a text is of, where it is read, and where it isn't.
pub record Answers {V : Type 0} (Form : List ℕ → Type 0) (Is : V → List ℕ → Type 0) (t : List ℕ) (answer : Result V ℕ) : Type 0 where
  pub spelled : (v : V) → answer ≡ Ok v → Is v t
  pub read : (v : V) → Is v t → answer ≡ Ok v
  pub mismatch : (left : ℕ) → answer ≡ Err left → IsFirstMismatch Form t (length t - left)

contacts : IsFormOf IsSomeContact IsContact contact_text
contacts = record {
  of_value = λ c is. (c, record { ranges = is; spelled = refl });
  value_of = λ u found. (found.0, found.1.ranges, found.1.spelled);
}

answers : IsFormOf IsSomeAnswer IsAnswer answer_text
answers = record {
  of_value = λ a is. (a, record { ranges = is; spelled = refl });
  value_of = λ u found. (found.0, found.1.ranges, found.1.spelled);
}

-- What the reading of a contact answers.
pub contact_answers : (t : List ℕ) → Answers IsSomeContact IsContactText t (contact_reading t)
contact_answers t = record {
  spelled = λ c ok. let read = reads_contact.sound t c ok in record { ranges = read.0; spelled = read.1 };
  read = λ c is. ap contact_reading is.spelled ∙ reads_contact.again c is.ranges;
  mismatch = λ left err. first_mismatch contacts reads_contact t left err;
}

-- What the reading of an answer answers.
pub answer_answers : (t : List ℕ) → Answers IsSomeAnswer IsAnswerText t (answer_reading t)
answer_answers t = record {
  spelled = λ a ok. let read = reads_answer.sound t a ok in record { ranges = read.0; spelled = read.1 };
  read = λ a is. ap answer_reading is.spelled ∙ reads_answer.again a is.ranges;
  mismatch = λ left err. first_mismatch answers reads_answer t left err;
}

-- A text is of one contact, and of one answer.
pub one_contact : (c d : ContactData) (t : List ℕ) → IsContactText c t → IsContactText d t → c ≡ d
one_contact c d t a b = ok_same c d (sym ((contact_answers t).read c a) ∙ (contact_answers t).read d b)

pub one_answer : (c d : AnswerData) (t : List ℕ) → IsAnswerText c t → IsAnswerText d t → c ≡ d
one_answer c d t a b = ok_same c d (sym ((answer_answers t).read c a) ∙ (answer_answers t).read d b)

-- Each text is a contact or has a first mismatch, and each is an answer or has one.
either : {V : Type 0} {Form : List ℕ → Type 0} {Is : V → List ℕ → Type 0} (t : List ℕ) (answer : Result V ℕ) → Answers Form Is t answer
    → ((v : V) → Is v t → Form t) → Form t ⊎ ((place : ℕ) × IsFirstMismatch Form t place)
either t (Ok v) answers form = inl (form v (answers.spelled v refl))
either t (Err left) answers form = inr (length t - left, answers.mismatch left refl)

pub contact_or_mismatch : (t : List ℕ) → IsSomeContact t ⊎ ((place : ℕ) × IsFirstMismatch IsSomeContact t place)
contact_or_mismatch t = either t (contact_reading t) (contact_answers t) (λ c is. (c, is))

pub answer_or_mismatch : (t : List ℕ) → IsSomeAnswer t ⊎ ((place : ℕ) × IsFirstMismatch IsSomeAnswer t place)
answer_or_mismatch t = either t (answer_reading t) (answer_answers t) (λ a is. (a, is))
