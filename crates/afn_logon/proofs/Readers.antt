-- What it is to read a form, and that readings joined with each other keep it.
use Rattle.std.proofs.Common.{◌≡◌, ℕ, List, ◌∷◌, ◌++◌, length, Result, Ok, Err, ◌⊎◌, inl, inr, refl, sym, ap, subst, ◌∙◌, append_assoc}
use Rattle.bit_terms.specs.Reading.{◌>>=◌}
use Rattle.bit_terms.proofs.ReadingLaws.{bind_ok, bind_err, ok_same, ok_is_no_err}
use Rattle.afn_logon.specs.Reading.{◌followed_by◌, ◌ended_by◌, told_as, whole_as}

-- A reading stopped with so many characters left, behind a beginning with which a text of the form begins. It stops so whatever
-- stands behind the character at the mismatch.
pub record Stops {V A : Type 0} (Fits : V → Type 0) (text : V → List ℕ) (read : List ℕ → Result A ℕ) (t : List ℕ) (left : ℕ) : Type 0 where
  pub front : List ℕ
  pub rest : List ℕ
  pub value : V
  pub more : List ℕ
  pub cut : t ≡ front ++ rest
  pub size : left ≡ length rest
  pub fits : Fits value
  pub begins : text value ≡ front ++ more
  pub alike : (c : ℕ) (after other : List ℕ) → rest ≡ c ∷ after → (stop : ℕ) × (read (front ++ c ∷ other) ≡ Err stop)

-- A reading of the values that fit, written as these texts.
pub record IsReader {V : Type 0} (Fits : V → Type 0) (text : V → List ℕ) (read : List ℕ → Result (V × List ℕ) ℕ) : Type 0 where
  pub sample : V
  pub sample_fits : Fits sample
  pub again : (v : V) (rest : List ℕ) → Fits v → read (text v ++ rest) ≡ Ok (v, rest)
  pub sound : (t rest : List ℕ) (v : V) → read t ≡ Ok (v, rest) → Fits v × (t ≡ text v ++ rest)
  pub stops : (t : List ℕ) (left : ℕ) → read t ≡ Err left → Stops Fits text read t left

-- The same of a reading to the end.
pub record IsWhole {V : Type 0} (Fits : V → Type 0) (text : V → List ℕ) (read : List ℕ → Result V ℕ) : Type 0 where
  pub sample : V
  pub sample_fits : Fits sample
  pub again : (v : V) → Fits v → read (text v) ≡ Ok v
  pub sound : (t : List ℕ) (v : V) → read t ≡ Ok v → Fits v × (t ≡ text v)
  pub stops : (t : List ℕ) (left : ℕ) → read t ≡ Err left → Stops Fits text read t left

-- ---- one behind another

pub followed : {A B : Type 0} {F : A → Type 0} {f : A → List ℕ} {p : List ℕ → Result (A × List ℕ) ℕ} {G : B → Type 0} {g : B → List ℕ} {q : List ℕ → Result (B × List ℕ) ℕ}
    → IsReader F f p → IsReader G g q
    → IsReader (λ (x : A × B). F x.0 × G x.1) (λ (x : A × B). f x.0 ++ g x.1) (p followed_by q)
followed {A} {B} {F} {f} {p} {G} {g} {q} P Q = record {
  sample = (P.sample, Q.sample);
  sample_fits = (P.sample_fits, Q.sample_fits);
  again = λ x rest fits. rw (append_assoc (f x.0) (g x.1) rest, P.again x.0 (g x.1 ++ rest) fits.0, Q.again x.1 rest fits.1) refl;
  sound = λ t rest x ok.
      let first = bind_ok (p t) (λ a. q a.1 >>= λ b. Ok ((a.0, b.0), b.1)) (x, rest) ok in
      let second = bind_ok (q first.0.1) (λ b. Ok ((first.0.0, b.0), b.1)) (x, rest) first.2 in
      let front = P.sound t first.0.1 first.0.0 first.1 in
      let back = Q.sound first.0.1 second.0.1 second.0.0 second.1 in
      subst (λ (y : (A × B) × List ℕ). (F y.0.0 × G y.0.1) × (t ≡ (f y.0.0 ++ g y.0.1) ++ y.1)) (ok_same _ _ second.2)
      ((front.0, back.0), front.1 ∙ ap (λ (s : List ℕ). f first.0.0 ++ s) back.1 ∙ sym (append_assoc (f first.0.0) (g second.0.0) second.0.1));
  stops = λ t left err. stopped t left (bind_err (p t) (λ a. q a.1 >>= λ b. Ok ((a.0, b.0), b.1)) left err);
}
  where
    next : A × List ℕ → Result ((A × B) × List ℕ) ℕ
    next a = q a.1 >>= λ b. Ok ((a.0, b.0), b.1)

    Joined : List ℕ → ℕ → Type 0
    Joined t left = Stops (λ (x : A × B). F x.0 × G x.1) (λ (x : A × B). f x.0 ++ g x.1) (p followed_by q) t left

    in_first : (t : List ℕ) (left : ℕ) → Stops F f p t left → Joined t left
    in_first t left s = record {
      front = s.front;
      rest = s.rest;
      value = (s.value, Q.sample);
      more = s.more ++ g Q.sample;
      cut = s.cut;
      size = s.size;
      fits = (s.fits, Q.sample_fits);
      begins = rw s.begins (append_assoc s.front s.more (g Q.sample));
      alike = λ c after other is. let refused = s.alike c after other is in (refused.0, rw refused.1 refl);
    }

    in_second : (t : List ℕ) (left : ℕ) (a : A × List ℕ) → p t ≡ Ok a → Stops G g q a.1 left → Joined t left
    in_second t left a ok s =
        let front = P.sound t a.1 a.0 ok in
        record {
          front = f a.0 ++ s.front;
          rest = s.rest;
          value = (a.0, s.value);
          more = s.more;
          cut = front.1 ∙ ap (λ (u : List ℕ). f a.0 ++ u) s.cut ∙ sym (append_assoc (f a.0) s.front s.rest);
          size = s.size;
          fits = (front.0, s.fits);
          begins = ap (λ (u : List ℕ). f a.0 ++ u) s.begins ∙ sym (append_assoc (f a.0) s.front s.more);
          alike = λ c after other is.
              let refused = s.alike c after other is in
              (refused.0, rw (append_assoc (f a.0) s.front (c ∷ other), P.again a.0 (s.front ++ c ∷ other) front.0, refused.1) refl);
        }

    in_q : (a : A × List ℕ) (left : ℕ) → (q a.1 ≡ Err left) ⊎ ((b : B × List ℕ) × (q a.1 ≡ Ok b) × (◌≡◌ {A = Result ((A × B) × List ℕ) ℕ} (Ok ((a.0, b.0), b.1)) (Err left)))
        → q a.1 ≡ Err left
    in_q a left (inl err) = err
    in_q a left (inr found) = absurd (ok_is_no_err _ _ found.2)

    stopped : (t : List ℕ) (left : ℕ) → (p t ≡ Err left) ⊎ ((a : A × List ℕ) × (p t ≡ Ok a) × (next a ≡ Err left)) → Joined t left
    stopped t left (inl err) = in_first t left (P.stops t left err)
    stopped t left (inr found) =
        in_second t left found.0 found.1
        (Q.stops found.0.1 left (in_q found.0 left (bind_err (q found.0.1) (λ b. Ok ((found.0.0, b.0), b.1)) left found.2)))

-- ---- a reading to the end behind another

pub ended : {A B : Type 0} {F : A → Type 0} {f : A → List ℕ} {p : List ℕ → Result (A × List ℕ) ℕ} {G : B → Type 0} {g : B → List ℕ} {q : List ℕ → Result B ℕ}
    → IsReader F f p → IsWhole G g q
    → IsWhole (λ (x : A × B). F x.0 × G x.1) (λ (x : A × B). f x.0 ++ g x.1) (p ended_by q)
ended {A} {B} {F} {f} {p} {G} {g} {q} P Q = record {
  sample = (P.sample, Q.sample);
  sample_fits = (P.sample_fits, Q.sample_fits);
  again = λ x fits. rw (P.again x.0 (g x.1) fits.0, Q.again x.1 fits.1) refl;
  sound = λ t x ok.
      let first = bind_ok (p t) next x ok in
      let second = bind_ok (q first.0.1) (λ b. Ok (first.0.0, b)) x first.2 in
      let front = P.sound t first.0.1 first.0.0 first.1 in
      let back = Q.sound first.0.1 second.0 second.1 in
      subst (λ (y : A × B). (F y.0 × G y.1) × (t ≡ f y.0 ++ g y.1)) (ok_same _ _ second.2)
      ((front.0, back.0), front.1 ∙ ap (λ (s : List ℕ). f first.0.0 ++ s) back.1);
  stops = λ t left err. stopped t left (bind_err (p t) next left err);
}
  where
    next : A × List ℕ → Result (A × B) ℕ
    next a = q a.1 >>= λ b. Ok (a.0, b)

    Joined : List ℕ → ℕ → Type 0
    Joined t left = Stops (λ (x : A × B). F x.0 × G x.1) (λ (x : A × B). f x.0 ++ g x.1) (p ended_by q) t left

    in_first : (t : List ℕ) (left : ℕ) → Stops F f p t left → Joined t left
    in_first t left s = record {
      front = s.front;
      rest = s.rest;
      value = (s.value, Q.sample);
      more = s.more ++ g Q.sample;
      cut = s.cut;
      size = s.size;
      fits = (s.fits, Q.sample_fits);
      begins = rw s.begins (append_assoc s.front s.more (g Q.sample));
      alike = λ c after other is. let refused = s.alike c after other is in (refused.0, rw refused.1 refl);
    }

    in_second : (t : List ℕ) (left : ℕ) (a : A × List ℕ) → p t ≡ Ok a → Stops G g q a.1 left → Joined t left
    in_second t left a ok s =
        let front = P.sound t a.1 a.0 ok in
        record {
          front = f a.0 ++ s.front;
          rest = s.rest;
          value = (a.0, s.value);
          more = s.more;
          cut = front.1 ∙ ap (λ (u : List ℕ). f a.0 ++ u) s.cut ∙ sym (append_assoc (f a.0) s.front s.rest);
          size = s.size;
          fits = (front.0, s.fits);
          begins = ap (λ (u : List ℕ). f a.0 ++ u) s.begins ∙ sym (append_assoc (f a.0) s.front s.more);
          alike = λ c after other is.
              let refused = s.alike c after other is in
              (refused.0, rw (append_assoc (f a.0) s.front (c ∷ other), P.again a.0 (s.front ++ c ∷ other) front.0, refused.1) refl);
        }

    in_q : (a : A × List ℕ) (left : ℕ) → (q a.1 ≡ Err left) ⊎ ((b : B) × (q a.1 ≡ Ok b) × (◌≡◌ {A = Result (A × B) ℕ} (Ok (a.0, b)) (Err left)))
        → q a.1 ≡ Err left
    in_q a left (inl err) = err
    in_q a left (inr found) = absurd (ok_is_no_err _ _ found.2)

    stopped : (t : List ℕ) (left : ℕ) → (p t ≡ Err left) ⊎ ((a : A × List ℕ) × (p t ≡ Ok a) × (next a ≡ Err left)) → Joined t left
    stopped t left (inl err) = in_first t left (P.stops t left err)
    stopped t left (inr found) =
        in_second t left found.0 found.1
        (Q.stops found.0.1 left (in_q found.0 left (bind_err (q found.0.1) (λ b. Ok (found.0.0, b)) left found.2)))

-- ---- told in another way

-- What is told by the one function is told back by the other, and written alike.
pub record Tells {A B : Type 0} (F : A → Type 0) (f : A → List ℕ) (G : B → Type 0) (g : B → List ℕ) (tell : A → B) : Type 0 where
  pub back : B → A
  pub told : (b : B) → G b → tell (back b) ≡ b
  pub back_fits : (b : B) → G b → F (back b)
  pub fits : (a : A) → F a → G (tell a)
  pub written : (a : A) → F a → g (tell a) ≡ f a

-- the text of a value is that of what it is told back as
written_back : {A B : Type 0} {F : A → Type 0} {f : A → List ℕ} {G : B → Type 0} {g : B → List ℕ} {tell : A → B}
    (T : Tells F f G g tell) (b : B) → G b → g b ≡ f (T.back b)
written_back {g = g} T b fits = ap g (sym (T.told b fits)) ∙ T.written (T.back b) (T.back_fits b fits)

-- where a reading stopped, told in another way
stops_told : {A B X Y : Type 0} {F : A → Type 0} {f : A → List ℕ} {G : B → Type 0} {g : B → List ℕ} {tell : A → B}
    {read : List ℕ → Result X ℕ} {read' : List ℕ → Result Y ℕ} {t : List ℕ} {left : ℕ}
    → Tells F f G g tell → ((u : List ℕ) (stop : ℕ) → read u ≡ Err stop → read' u ≡ Err stop)
    → Stops F f read t left → Stops G g read' t left
stops_told {tell = tell} T refused s = record {
  front = s.front;
  rest = s.rest;
  value = tell s.value;
  more = s.more;
  cut = s.cut;
  size = s.size;
  fits = T.fits s.value s.fits;
  begins = T.written s.value s.fits ∙ s.begins;
  alike = λ c after other is. let stop = s.alike c after other is in (stop.0, refused _ _ stop.1);
}

pub told : {A B : Type 0} {F : A → Type 0} {f : A → List ℕ} {p : List ℕ → Result (A × List ℕ) ℕ} {G : B → Type 0} {g : B → List ℕ} {tell : A → B}
    → IsReader F f p → Tells F f G g tell → IsReader G g (told_as tell p)
told {A} {B} {F} {f} {p} {G} {g} {tell} P T = record {
  sample = tell P.sample;
  sample_fits = T.fits P.sample P.sample_fits;
  again = λ b rest fits. rw (written_back T b fits, P.again (T.back b) rest (T.back_fits b fits), T.told b fits) refl;
  sound = λ t rest b ok.
      let found = bind_ok (p t) (λ a. Ok (tell a.0, a.1)) (b, rest) ok in
      let read = P.sound t found.0.1 found.0.0 found.1 in
      subst (λ (y : B × List ℕ). G y.0 × (t ≡ g y.0 ++ y.1)) (ok_same _ _ found.2)
      (T.fits found.0.0 read.0, read.1 ∙ ap (λ (s : List ℕ). s ++ found.0.1) (sym (T.written found.0.0 read.0)));
  stops = λ t left err. stops_told T (λ u stop e. rw e refl) (P.stops t left (in_p t left (bind_err (p t) (λ a. Ok (tell a.0, a.1)) left err)));
}
  where
    in_p : (t : List ℕ) (left : ℕ) → (p t ≡ Err left) ⊎ ((a : A × List ℕ) × (p t ≡ Ok a) × (◌≡◌ {A = Result (B × List ℕ) ℕ} (Ok (tell a.0, a.1)) (Err left)))
        → p t ≡ Err left
    in_p t left (inl err) = err
    in_p t left (inr found) = absurd (ok_is_no_err _ _ found.2)

pub told_whole : {A B : Type 0} {F : A → Type 0} {f : A → List ℕ} {p : List ℕ → Result A ℕ} {G : B → Type 0} {g : B → List ℕ} {tell : A → B}
    → IsWhole F f p → Tells F f G g tell → IsWhole G g (whole_as tell p)
told_whole {A} {B} {F} {f} {p} {G} {g} {tell} P T = record {
  sample = tell P.sample;
  sample_fits = T.fits P.sample P.sample_fits;
  again = λ b fits. rw (written_back T b fits, P.again (T.back b) (T.back_fits b fits), T.told b fits) refl;
  sound = λ t b ok.
      let found = bind_ok (p t) (λ a. Ok (tell a)) b ok in
      let read = P.sound t found.0 found.1 in
      subst (λ (y : B). G y × (t ≡ g y)) (ok_same _ _ found.2)
      (T.fits found.0 read.0, read.1 ∙ sym (T.written found.0 read.0));
  stops = λ t left err. stops_told T (λ u stop e. rw e refl) (P.stops t left (in_p t left (bind_err (p t) (λ a. Ok (tell a)) left err)));
}
  where
    in_p : (t : List ℕ) (left : ℕ) → (p t ≡ Err left) ⊎ ((a : A) × (p t ≡ Ok a) × (◌≡◌ {A = Result B ℕ} (Ok (tell a)) (Err left)))
        → p t ≡ Err left
    in_p t left (inl err) = err
    in_p t left (inr found) = absurd (ok_is_no_err _ _ found.2)

-- ---- characters before a reading, and behind it

-- Nothing is told but the text.
abbrev pub Any : Unit {0} → Type 0
Any _ = Unit {0}

pub preceded : {A : Type 0} {F : A → Type 0} {f : A → List ℕ} {p : List ℕ → Result (A × List ℕ) ℕ} {these : List ℕ} {pass : List ℕ → Result (Unit {0} × List ℕ) ℕ}
    → IsReader Any (λ _. these) pass → IsReader F f p → IsReader F (λ a. these ++ f a) (told_as (λ both. both.1) (pass followed_by p))
preceded passed P = told (followed passed P) (record {
  back = λ a. (tt, a);
  told = λ a fits. refl;
  back_fits = λ a fits. (tt, fits);
  fits = λ both fits. fits.1;
  written = λ both fits. refl;
})

pub closed : {A : Type 0} {F : A → Type 0} {f : A → List ℕ} {p : List ℕ → Result (A × List ℕ) ℕ} {these : List ℕ} {pass : List ℕ → Result (Unit {0} × List ℕ) ℕ}
    → IsReader F f p → IsReader Any (λ _. these) pass → IsReader F (λ a. f a ++ these) (told_as (λ both. both.0) (p followed_by pass))
closed P passed = told (followed P passed) (record {
  back = λ a. (a, tt);
  told = λ a fits. refl;
  back_fits = λ a fits. (fits, tt);
  fits = λ both fits. fits.0;
  written = λ both fits. refl;
})

-- the same reading, its texts and what fits said in other words
pub respelled : {A : Type 0} {F : A → Type 0} {f : A → List ℕ} {p : List ℕ → Result (A × List ℕ) ℕ} (G : A → Type 0) (g : A → List ℕ)
    → IsReader F f p → ((a : A) → F a → G a) → ((a : A) → G a → F a) → ((a : A) → F a → f a ≡ g a) → IsReader G g p
respelled {f = f} G g P to from same = record {
  sample = P.sample;
  sample_fits = to P.sample P.sample_fits;
  again = λ a rest fits. rw (← same a (from a fits)) (P.again a rest (from a fits));
  sound = λ t rest a ok.
      let read = P.sound t rest a ok in
      (to a read.0, read.1 ∙ ap (λ (s : List ℕ). s ++ rest) (same a read.0));
  stops = λ t left err.
      let s = P.stops t left err in
      record {
        front = s.front;
        rest = s.rest;
        value = s.value;
        more = s.more;
        cut = s.cut;
        size = s.size;
        fits = to s.value s.fits;
        begins = sym (same s.value s.fits) ∙ s.begins;
        alike = s.alike;
      };
}
