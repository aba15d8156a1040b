-- Runs of characters of a class.
use Rattle.std.proofs.Common.{◌≡◌, ℕ, zero, suc, ◌-◌, ◌≤◌, ◌<◌, Bool, true, false, List, [], ◌∷◌, ◌++◌, length, take, drop, replicate, Ok, Err, ◌⊎◌, inl, inr, refl, sym, ap, subst, ◌∙◌, arith, one-add, length-append, length-drop}
use Rattle.std.specs.Prelude.{nat_lt}
use Rattle.std.specs.List.{AllPass, prefix_len}
use Rattle.std.proofs.lemmas.Bool.{cases_Bool, cases_lt, lt-ltb, le-ltb}
use Rattle.std.proofs.lemmas.List.{take_at, drop_at, length-take-le, length-replicate, take-append-drop}
use Rattle.std.proofs.lemmas.List.Elements.{All-cons, All-head, All-nil, All-tail, All-append, All-replicate}
use Rattle.bit_terms.proofs.ReadingLaws.{ok_same, ok_is_no_err, err_same}
use Rattle.afn_logon.specs.Reading.{is_in, leading, several}
use Rattle.afn_logon.specs.declared.characters.Class.{Class}
use Rattle.afn_logon.specs.declared.characters.Class.TheVariants.{Dot, Name, Mark, Letter}
use Rattle.afn_logon.proofs.Readers.{Stops, IsReader}

-- The first n characters pass the test, and where there may be more the next one doesn't.
pub record Led (p : ℕ → Bool) (most : ℕ) (t : List ℕ) (n : ℕ) : Type 0 where
  pub within : n ≤ length t
  pub bound : n ≤ most
  pub pass : AllPass p (take n t)
  pub stop : (c : ℕ) (after : List ℕ) → n < most → drop n t ≡ c ∷ after → p c ≡ false

-- a character that passes, before others
prefix_passes : (p : ℕ → Bool) (x : ℕ) (xs : List ℕ) → p x ≡ true → prefix_len p (x ∷ xs) ≡ suc (prefix_len p xs)
prefix_passes p x xs passes = rw passes (one-add (prefix_len p xs))

leads : (p : ℕ → Bool) (most : ℕ) (t : List ℕ) → Led p most t (prefix_len p (take most t))
leads p zero t = record {
  within = omega arith;
  bound = omega arith;
  pass = All-nil (λ c. p c ≡ true);
  stop = λ c after less is. absurd (omega arith);
}
leads p (suc most) [] = record {
  within = omega arith;
  bound = omega arith;
  pass = All-nil (λ c. p c ≡ true);
  stop = λ c after less is. absurd (cc);
}
leads p (suc most) (x ∷ t) = tested (leads p most t) (cases_Bool (p x))
  where
    tested : Led p most t (prefix_len p (take most t)) → (p x ≡ true) ⊎ (p x ≡ false) → Led p (suc most) (x ∷ t) (prefix_len p (take (suc most) (x ∷ t)))
    tested led (inl passes) = subst (λ (n : ℕ). Led p (suc most) (x ∷ t) n) (sym (prefix_passes p x (take most t) passes)) (record {
      within = omega (arith, led.within);
      bound = omega (arith, led.bound);
      pass = All-cons (λ c. p c ≡ true) x (take (prefix_len p (take most t)) t) passes led.pass;
      stop = λ c after less is. led.stop c after (omega arith) is;
    })
    tested led (inr fails) = rw fails (record {
      within = omega arith;
      bound = omega arith;
      pass = All-nil (λ c. p c ≡ true);
      stop = λ c after less is. let same : x ≡ c = cc in rw (← same) fails;
    })

-- characters that pass are a run, where as many as there may be or one that doesn't stands behind them
run-again : (p : ℕ → Bool) (most : ℕ) (w u : List ℕ) → AllPass p w → length w ≤ most
    → ((c : ℕ) (after : List ℕ) → length w < most → u ≡ c ∷ after → p c ≡ false) → prefix_len p (take most (w ++ u)) ≡ length w
run-again p zero [] u passes few stop = refl
run-again p (suc most) [] [] passes few stop = refl
run-again p (suc most) [] (c ∷ u) passes few stop = rw (stop c u (omega arith) refl) refl
run-again p zero (x ∷ w) u passes few stop = absurd (omega arith)
run-again p (suc most) (x ∷ w) u passes few stop =
    let tail : prefix_len p (take most (w ++ u)) ≡ length w =
    run-again p most w u (All-tail (λ c. p c ≡ true) x w passes) (omega arith) (λ c after less is. stop c after (omega arith) is) in
    let head : p x ≡ true = All-head (λ c. p c ≡ true) x w passes in
    prefix_passes p x (take most (w ++ u)) head ∙ ap suc tail

pub leading-led : (most : ℕ) (class : Class) (t : List ℕ) → Led (is_in class) most t (leading most class t)
leading-led most class t = leads (is_in class) most t

pub leading-again : (most : ℕ) (class : Class) (w u : List ℕ) → AllPass (is_in class) w → length w ≤ most
    → ((c : ℕ) (after : List ℕ) → length w < most → u ≡ c ∷ after → is_in class c ≡ false) → leading most class (w ++ u) ≡ length w
leading-again most class w u passes few stop = run-again (is_in class) most w u passes few stop

-- the first characters stay a run where what follows begins with the same character
pub leading-alike : (most : ℕ) (class : Class) (t : List ℕ) (c : ℕ) (after other : List ℕ) → drop (leading most class t) t ≡ c ∷ after
    → leading most class (take (leading most class t) t ++ c ∷ other) ≡ leading most class t
leading-alike most class t c after other is =
    let led = leading-led most class t in
    let n = leading most class t in
    let size : length (take n t) ≡ n = length-take-le n t led.within in
    leading-again most class (take n t) (c ∷ other) led.pass (omega arith)
    (λ d behind less same. let first : c ≡ d = cc in rw (← first) (led.stop c after (omega arith) is))
    ∙ size

-- ---- several characters of a class

-- a character of each class
abbrev example : Class → ℕ
example Dot = 46
example Name = 65
example Mark = 65
example Letter = 65

example-in : (class : Class) → is_in class (example class) ≡ true
example-in Dot = refl
example-in Name = refl
example-in Mark = refl
example-in Letter = refl

examples : (n : ℕ) (class : Class) → AllPass (is_in class) (replicate n (example class))
examples n class = All-replicate (λ c. is_in class c ≡ true) n (example class) (example-in class)

-- This number of characters, all of the class.
pub record AreOf (count : ℕ) (class : Class) (w : List ℕ) : Type 0 where
  pub size : length w ≡ count
  pub each : AllPass (is_in class) w

several-again : (count : ℕ) (class : Class) (w rest : List ℕ) → AreOf count class w → several count class (w ++ rest) ≡ Ok (w, rest)
unfolding several
several-again count class w rest are =
    let led : leading count class (w ++ rest) ≡ count =
    leading-again count class w rest are.each (omega (arith, are.size)) (λ c after less is. absurd (omega (arith, are.size))) ∙ are.size in
    let enough : nat_lt count count ≡ false = le-ltb count count (omega arith) in
    rw (led, enough, take_at w rest count are.size, drop_at w rest count are.size) refl

several-sound : (count : ℕ) (class : Class) (t rest w : List ℕ) → several count class t ≡ Ok (w, rest) → AreOf count class w × (t ≡ w ++ rest)
unfolding several
several-sound count class t rest w ok = tested (cases_lt (leading count class t) count)
  where
    led : Led (is_in class) count t (leading count class t)
    led = leading-led count class t

    tested : (leading count class t < count) ⊎ (count ≤ leading count class t) → AreOf count class w × (t ≡ w ++ rest)
    tested (inl few) =
        let less : nat_lt (leading count class t) count ≡ true = lt-ltb _ _ few in
        absurd (ok_is_no_err _ _ (sym (rw less at ok)))
    tested (inr enough) =
        let not_less : nat_lt (leading count class t) count ≡ false = le-ltb _ _ enough in
        let whole : leading count class t ≡ count = omega (arith, led.bound) in
        let pass : AllPass (is_in class) (take count t) = rw whole at led.pass in
        let within : count ≤ length t = omega (arith, led.within) in
        subst (λ (y : List ℕ × List ℕ). AreOf count class y.0 × (t ≡ y.0 ++ y.1)) (ok_same (take count t, drop count t) (w, rest) (rw not_less at ok))
        (record { size = length-take-le count t within; each = pass }, sym (take-append-drop count t))

several-stops : (count : ℕ) (class : Class) (t : List ℕ) (left : ℕ) → several count class t ≡ Err left
    → Stops (AreOf count class) (λ w. w) (several count class) t left
unfolding several
several-stops count class t left err = tested (cases_lt (leading count class t) count)
  where
    led : Led (is_in class) count t (leading count class t)
    led = leading-led count class t

    tested : (leading count class t < count) ⊎ (count ≤ leading count class t) → Stops (AreOf count class) (λ w. w) (several count class) t left
    tested (inl few) =
        let n = leading count class t in
        let less : nat_lt n count ≡ true = lt-ltb _ _ few in
        let size : length (take n t) ≡ n = length-take-le n t led.within in
        record {
          front = take n t;
          rest = drop n t;
          value = take n t ++ replicate (count - n) (example class);
          more = replicate (count - n) (example class);
          cut = sym (take-append-drop n t);
          size = sym (err_same (length t - n) left (rw less at err)) ∙ sym (length-drop n t);
          fits = record {
            size = omega (arith, length-append (take n t) (replicate (count - n) (example class)), length-replicate (count - n) (example class));
            each = All-append (λ c. is_in class c ≡ true) (take n t) (replicate (count - n) (example class)) led.pass (examples (count - n) class);
          };
          begins = refl;
          alike = λ c after other is.
              let same : leading count class (take n t ++ c ∷ other) ≡ n = leading-alike count class t c after other is in
              (length (take n t ++ c ∷ other) - n, rw (same, less) refl);
        }
    tested (inr enough) =
        let not_less : nat_lt (leading count class t) count ≡ false = le-ltb _ _ enough in
        absurd (ok_is_no_err _ _ (rw not_less at err))

-- Several characters of a class are read as they stand.
pub takes_several : (count : ℕ) (class : Class) → IsReader (AreOf count class) (λ w. w) (several count class)
takes_several count class = record {
  sample = replicate count (example class);
  sample_fits = record { size = length-replicate count (example class); each = examples count class };
  again = λ w rest are. several-again count class w rest are;
  sound = λ t rest w ok. several-sound count class t rest w ok;
  stops = several-stops count class;
}
