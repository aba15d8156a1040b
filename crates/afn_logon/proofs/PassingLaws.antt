-- Passing characters that are due, and one of two characters.
use Rattle.std.proofs.Common.{◌≡◌, ◌≢◌, ℕ, suc, ◌==◌, Bool, true, false, List, [], ◌∷◌, ◌++◌, length, Ok, Err, ◌⊎◌, inl, inr, refl, sym, ap, subst, eq-eqb}
use Rattle.std.proofs.lemmas.Bool.{ne_eqb}
use Rattle.std.proofs.lemmas.Bool.Decides.{eqb_tells}
use Rattle.bit_terms.proofs.ReadingLaws.{err_same, ok_same, ok_is_no_err}
use Rattle.afn_logon.specs.Reading.{passing, choice}
use Rattle.afn_logon.specs.Texts.{either_text}
use Rattle.afn_logon.proofs.Readers.{Any, Stops, IsReader}

pub same_eqb : (c : ℕ) → (c == c) ≡ true
same_eqb c = eq-eqb c c refl

passing-again : (these rest : List ℕ) → passing these (these ++ rest) ≡ Ok (tt, rest)
unfolding passing
passing-again [] rest = refl
passing-again (c ∷ these) rest = rw (same_eqb c) (passing-again these rest)

passing-sound : (these t rest : List ℕ) (u : Unit {0}) → passing these t ≡ Ok (u, rest) → t ≡ these ++ rest
unfolding passing
passing-sound [] t rest u ok = ap (λ (y : Unit {0} × List ℕ). y.1) (ok_same _ _ ok)
passing-sound (c ∷ these) [] rest u ok = absurd (ok_is_no_err _ _ (sym ok))
passing-sound (c ∷ these) (d ∷ t) rest u ok = tested (passing-sound these t rest u) (eqb_tells c d)
  where
    tested : (passing these t ≡ Ok (u, rest) → t ≡ these ++ rest) → (((c == d) ≡ true) × (c ≡ d)) ⊎ (((c == d) ≡ false) × (c ≢ d))
        → d ∷ t ≡ c ∷ (these ++ rest)
    tested further (inl same) = let behind : t ≡ these ++ rest = further (rw same.0 at ok) in cc
    tested further (inr other) = absurd (ok_is_no_err _ _ (sym (rw other.0 at ok)))

passing-stops : (these t : List ℕ) (left : ℕ) → passing these t ≡ Err left → Stops Any (λ _. these) (passing these) t left
unfolding passing
passing-stops [] t left err = absurd (ok_is_no_err _ _ err)
passing-stops (c ∷ these) [] left err = record {
  front = [];
  rest = [];
  value = tt;
  more = c ∷ these;
  cut = refl;
  size = sym (err_same 0 left err);
  fits = tt;
  begins = refl;
  alike = λ d after other is. absurd (cc);
}
passing-stops (c ∷ these) (d ∷ t) left err = tested (passing-stops these t left) (eqb_tells c d)
  where
    tested : (passing these t ≡ Err left → Stops Any (λ _. these) (passing these) t left)
        → (((c == d) ≡ true) × (c ≡ d)) ⊎ (((c == d) ≡ false) × (c ≢ d)) → Stops Any (λ _. c ∷ these) (passing (c ∷ these)) (d ∷ t) left
    tested further (inl same) =
        let s = further (rw same.0 at err) in
        record {
          front = d ∷ s.front;
          rest = s.rest;
          value = tt;
          more = s.more;
          cut = ap (λ (u : List ℕ). d ∷ u) s.cut;
          size = s.size;
          fits = tt;
          begins = let begun : these ≡ s.front ++ s.more = s.begins in cc;
          alike = λ e after other is. let stop = s.alike e after other is in (stop.0, rw same.0 stop.1);
        }
    tested further (inr different) = record {
      front = [];
      rest = d ∷ t;
      value = tt;
      more = c ∷ these;
      cut = refl;
      size = sym (err_same (suc (length t)) left (rw different.0 at err));
      fits = tt;
      begins = refl;
      alike = λ e after other is.
          let first : d ≡ e = cc in
          (suc (length other), rw (← first, different.0) refl);
    }

-- Characters that are due are read as they stand.
pub passes : (these : List ℕ) → IsReader Any (λ _. these) (passing these)
passes these = record {
  sample = tt;
  sample_fits = tt;
  again = λ u rest fits. passing-again these rest;
  sound = λ t rest u ok. (tt, passing-sound these t rest u ok);
  stops = passing-stops these;
}

-- ---- one of two

-- Nothing is asked of a test.
abbrev pub AnyTest : Bool → Type 0
AnyTest b = Unit {0}

choice-again : (first second : ℕ) → first ≢ second → (b : Bool) (rest : List ℕ) → choice first second (either_text first second b ++ rest) ≡ Ok (b, rest)
unfolding choice
choice-again first second apart false rest = rw (same_eqb first) refl
choice-again first second apart true rest =
    let other : (second == first) ≡ false = ne_eqb second first (λ e. apart (sym e)) in
    rw (other, same_eqb second) refl

choice-sound : (first second : ℕ) (t rest : List ℕ) (b : Bool) → choice first second t ≡ Ok (b, rest) → t ≡ either_text first second b ++ rest
unfolding choice
choice-sound first second [] rest b ok = absurd (ok_is_no_err _ _ (sym ok))
choice-sound first second (c ∷ t) rest b ok = tested (eqb_tells c first) (eqb_tells c second)
  where
    tested : (((c == first) ≡ true) × (c ≡ first)) ⊎ (((c == first) ≡ false) × (c ≢ first))
        → (((c == second) ≡ true) × (c ≡ second)) ⊎ (((c == second) ≡ false) × (c ≢ second)) → c ∷ t ≡ either_text first second b ++ rest
    tested (inl is) _ =
        subst (λ (y : Bool × List ℕ). c ∷ t ≡ either_text first second y.0 ++ y.1) (ok_same (false, t) (b, rest) (rw is.0 at ok))
        (ap (λ (d : ℕ). d ∷ t) is.1)
    tested (inr other) (inl is) =
        subst (λ (y : Bool × List ℕ). c ∷ t ≡ either_text first second y.0 ++ y.1) (ok_same (true, t) (b, rest) (rw (other.0, is.0) at ok))
        (ap (λ (d : ℕ). d ∷ t) is.1)
    tested (inr other) (inr neither) = absurd (ok_is_no_err _ _ (sym (rw (other.0, neither.0) at ok)))

choice-stops : (first second : ℕ) (t : List ℕ) (left : ℕ) → choice first second t ≡ Err left
    → Stops AnyTest (either_text first second) (choice first second) t left
unfolding choice
choice-stops first second [] left err = record {
  front = [];
  rest = [];
  value = false;
  more = first ∷ [];
  cut = refl;
  size = sym (err_same 0 left err);
  fits = tt;
  begins = refl;
  alike = λ d after other is. absurd (cc);
}
choice-stops first second (c ∷ t) left err = tested (eqb_tells c first) (eqb_tells c second)
  where
    tested : (((c == first) ≡ true) × (c ≡ first)) ⊎ (((c == first) ≡ false) × (c ≢ first))
        → (((c == second) ≡ true) × (c ≡ second)) ⊎ (((c == second) ≡ false) × (c ≢ second))
        → Stops AnyTest (either_text first second) (choice first second) (c ∷ t) left
    tested (inl is) _ = absurd (ok_is_no_err _ _ (rw is.0 at err))
    tested (inr other) (inl is) = absurd (ok_is_no_err _ _ (rw (other.0, is.0) at err))
    tested (inr other) (inr neither) = record {
      front = [];
      rest = c ∷ t;
      value = false;
      more = first ∷ [];
      cut = refl;
      size = sym (err_same (suc (length t)) left (rw (other.0, neither.0) at err));
      fits = tt;
      begins = refl;
      alike = λ e after behind is.
          let same : c ≡ e = cc in
          (suc (length behind), rw (← same, other.0, neither.0) refl);
    }

-- One of two characters is read as its test.
pub chooses : (first second : ℕ) → first ≢ second → IsReader AnyTest (either_text first second) (choice first second)
chooses first second apart = record {
  sample = false;
  sample_fits = tt;
  again = λ b rest fits. choice-again first second apart b rest;
  sound = λ t rest b ok. (tt, choice-sound first second t rest b ok);
  stops = choice-stops first second;
}
