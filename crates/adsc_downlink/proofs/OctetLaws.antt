-- The laws of reading octets that must pass tests.
use Rattle.std.proofs.Common.{◌≡◌, ℕ, ◌+◌, ◌*◌, ◌<◌, Bool, true, false, List, [], ◌∷◌, ◌++◌, length, Result, Ok, Err, IsTrue, cond, refl, sym, ap, ap₂, ◌∙◌, subst, inl, inr, ⊎_elim, arith, append_assoc, if◌then◌else◌}
use Rattle.bit_terms.specs.Bits.{unsigned_bits}
use Rattle.bit_terms.specs.Octets.{octets_bits}
use Rattle.bit_terms.specs.Reading.{Unread, Takes, taken, refused_as, ◌>>=◌}
use Rattle.bit_terms.proofs.ReadingLaws.{bind_ok, bind_err, ok_same, ok_is_no_err, taken_short, taken_again, taken_refused, taken_takes, err_same}
use Rattle.adsc_downlink.specs.Faults.{PassEach, IsOctetFault, IsFirstOctetFault}
use Rattle.adsc_downlink.specs.Reading.{octet_at, octet_where, octets_where}
use Rattle.adsc_downlink.specs.Refusals.{short_at, value_at}
use Rattle.adsc_downlink.specs.declared.refusal.DownRefusal.{DownRefusal}
use Rattle.adsc_downlink.specs.declared.refusal.DownWhy.TheVariants as why

-- ---- refusals told in other terms

pub refused_ok : {A E F : Type 0} (tell : E → F) (reading : Result A E) (y : A) → refused_as tell reading ≡ Ok y → reading ≡ Ok y
refused_ok {A} {E} {F} tell (Ok x) y same = ap Ok (ok_same {F = F} x y same)
refused_ok tell (Err refusal) y same = absurd (ok_is_no_err y (tell refusal) (sym same))

pub refused_err : {A E F : Type 0} (tell : E → F) (reading : Result A E) (refusal : F) → refused_as tell reading ≡ Err refusal
    → (cause : E) × (reading ≡ Err cause) × (tell cause ≡ refusal)
refused_err tell (Ok x) refusal same = absurd (ok_is_no_err x refusal same)
refused_err {A} tell (Err cause) refusal same = (cause, refl, err_same {A = A} (tell cause) refusal same)

-- ---- one octet

pub octet_takes : (value : ℕ) (old new : Unread) → octet_at old ≡ Ok (value, new) → Takes 8 value old new
octet_takes value old new given = taken_takes 8 value old new (refused_ok short_at (taken 8 old) (value, new) given)

pub octet_again : (value at : ℕ) (rest : List Bool) → value < 256
    → octet_at (record { left = unsigned_bits 8 value ++ rest; at = at }) ≡ Ok (value, record { left = rest; at = at + 8 })
octet_again value at rest fits = ap (refused_as short_at) (taken_again 8 value at rest fits)

pub octet_refused : (old : Unread) (refusal : DownRefusal) → octet_at old ≡ Err refusal → (refusal ≡ short_at old.at) × (length old.left < 8)
octet_refused old refusal given =
    let p = refused_err short_at (taken 8 old) refusal given in
    let q = taken_refused 8 p.0 old p.1 in
    (sym p.2 ∙ ap short_at q.0, q.1)

pub octet_short : (old : Unread) → length old.left < 8 → octet_at old ≡ Err (short_at old.at)
octet_short old few = ap (refused_as short_at) (taken_short 8 old few)

-- ---- one octet that must pass a test

chosen_ok : {A F : Type 0} (test : Bool) (x y : A) (refusal : F) → cond test (Ok x) (Err refusal) ≡ Ok y → (test ≡ true) × (x ≡ y)
chosen_ok {A} {F} true x y refusal same = (refl, ok_same {F = F} x y same)
chosen_ok false x y refusal same = absurd (ok_is_no_err y refusal (sym same))

chosen_err : {A F : Type 0} (test : Bool) (x : A) (refusal other : F) → cond test (Ok x) (Err refusal) ≡ Err other → (test ≡ false) × (refusal ≡ other)
chosen_err true x refusal other same = absurd (ok_is_no_err x other same)
chosen_err {A} false x refusal other same = (refl, err_same {A = A} refusal other same)

where_takes : (test : ℕ → Bool) (value : ℕ) (old new : Unread) → octet_where test old ≡ Ok (value, new) → Takes 8 value old new × IsTrue (test value)
where_takes test value old new given =
    let p = bind_ok (octet_at old) (λ octet. if test octet.0 then Ok octet else Err (value_at old.at)) (value, new) given in
    let q = chosen_ok (test p.0.0) p.0 (value, new) (value_at old.at) p.2 in
    (octet_takes value old new (p.1 ∙ ap Ok q.1), ap (λ x. test x.0) (sym q.1) ∙ q.0)

where_again : (test : ℕ → Bool) (value at : ℕ) (rest : List Bool) → value < 256 → IsTrue (test value)
    → octet_where test (record { left = unsigned_bits 8 value ++ rest; at = at }) ≡ Ok (value, record { left = rest; at = at + 8 })
where_again test value at rest fits passes =
    ap (λ reading. reading >>= λ octet. if test octet.0 then Ok octet else Err (value_at at)) (octet_again value at rest fits)
    ∙ ap (λ passed. if passed then Ok (value, record { left = rest; at = at + 8 }) else Err (value_at at)) passes

where_refused : (test : ℕ → Bool) (old : Unread) (refusal : DownRefusal) → octet_where test old ≡ Err refusal
    → IsOctetFault test old.left refusal.why × (refusal.bit ≡ old.at)
where_refused test old refusal given =
    ⊎_elim (λ e. let p = octet_refused old refusal e in (inl (ap (λ r. r.why) p.0, p.1), ap (λ r. r.bit) p.0))
    (λ p. let took = octet_takes p.0.0 old p.0.1 p.1 in
    let q = chosen_err (test p.0.0) p.0 (value_at old.at) refusal p.2 in
    (inr (p.0.0, p.0.1.left, took.fits, took.bits, q.0, sym (ap (λ r. r.why) q.1)), sym (ap (λ r. r.bit) q.1)))
    (bind_err (octet_at old) (λ octet. if test octet.0 then Ok octet else Err (value_at old.at)) refusal given)

where_fault : (test : ℕ → Bool) (old : Unread) (refusal : DownRefusal) → IsOctetFault test old.left refusal.why → refusal.bit ≡ old.at → octet_where test old ≡ Err refusal
where_fault test old refusal fault place = ⊎_elim short wrong fault
  where
    short : (refusal.why ≡ why.Short) × (length old.left < 8) → octet_where test old ≡ Err refusal
    short p =
        ap (λ reading. reading >>= λ octet. if test octet.0 then Ok octet else Err (value_at old.at)) (octet_short old p.1)
        ∙ ap₂ (λ bit cause. Err (record { bit = bit; why = cause })) (sym place) (sym p.0)

    wrong : (octet : ℕ) × (others : List Bool) × (octet < 256) × (old.left ≡ unsigned_bits 8 octet ++ others) × (test octet ≡ false) × (refusal.why ≡ why.Value)
        → octet_where test old ≡ Err refusal
    wrong p =
        ap (λ left. octet_where test (record { left = left; at = old.at })) p.3
        ∙ ap (λ reading. reading >>= λ octet. if test octet.0 then Ok octet else Err (value_at old.at)) (octet_again p.0 old.at p.1 p.2)
        ∙ ap (λ passed. if passed then Ok (p.0, record { left = p.1; at = old.at + 8 }) else Err (value_at old.at)) p.4
        ∙ ap₂ (λ bit cause. Err (record { bit = bit; why = cause })) (sym place) (sym p.5)

-- ---- octets that must pass tests

pub record TakesOctets (tests : List (ℕ → Bool)) (octets : List ℕ) (old new : Unread) : Type 0 where
  pub pass : PassEach tests octets
  pub bits : old.left ≡ octets_bits octets ++ new.left
  pub place : new.at ≡ old.at + 8 * length octets

pub octets_take : (tests : List (ℕ → Bool)) (octets : List ℕ) (old new : Unread) → octets_where tests old ≡ Ok (octets, new) → TakesOctets tests octets old new
unfolding octets_where
octets_take [] octets old new given =
    let same = ok_same {F = DownRefusal} ([], old) (octets, new) given in
    let none : [] ≡ octets = ap (λ x. x.0) same in
    record {
      pass = sym none;
      bits = ap (λ x. x.1.left) same ∙ ap (λ xs. octets_bits xs ++ new.left) none;
      place = omega (arith, ap (λ x. x.1.at) same, ap length none);
    }
octets_take (test ∷ tests) octets old new given =
    let p = bind_ok (octet_where test old) (λ octet. octets_where tests octet.1 >>= λ others. Ok (octet.0 ∷ others.0, others.1)) (octets, new) given in
    let q = bind_ok (octets_where tests p.0.1) (λ others. Ok (p.0.0 ∷ others.0, others.1)) (octets, new) p.2 in
    let same = ok_same {F = DownRefusal} (p.0.0 ∷ q.0.0, q.0.1) (octets, new) q.2 in
    let first = where_takes test p.0.0 old p.0.1 p.1 in
    let later = octets_take tests q.0.0 p.0.1 q.0.1 q.1 in
    let listed : p.0.0 ∷ q.0.0 ≡ octets = ap (λ x. x.0) same in
    record {
      pass = subst (PassEach (test ∷ tests)) listed (first.0.fits, first.1, later.pass);
      bits =
          first.0.bits
          ∙ ap (λ bits. unsigned_bits 8 p.0.0 ++ bits) (later.bits ∙ ap (λ x. octets_bits q.0.0 ++ x.1.left) same)
          ∙ sym (append_assoc (unsigned_bits 8 p.0.0) (octets_bits q.0.0) new.left)
          ∙ ap (λ xs. octets_bits xs ++ new.left) listed;
      place = omega (arith, ap (λ x. x.1.at) same, ap length listed, first.0.place, later.place);
    }

pub octets_again : (tests : List (ℕ → Bool)) (octets : List ℕ) (rest : List Bool) (at : ℕ) → PassEach tests octets
    → octets_where tests (record { left = octets_bits octets ++ rest; at = at }) ≡ Ok (octets, record { left = rest; at = at + 8 * length octets })
unfolding octets_where
octets_again [] octets rest at pass =
    let place : at ≡ at + 8 * length octets = omega (arith, ap length pass) in
    ap (λ xs. Ok ([], record { left = octets_bits xs ++ rest; at = at })) pass
    ∙ ap₂ (λ xs bit. Ok (xs, record { left = rest; at = bit })) (sym pass) place
octets_again (test ∷ tests) [] rest at pass = absurd pass
octets_again (test ∷ tests) (octet ∷ octets) rest at pass =
    let place : at + 8 + 8 * length octets ≡ at + 8 * length (octet ∷ octets) = omega arith in
    ap (λ left. octets_where (test ∷ tests) (record { left = left; at = at })) (append_assoc (unsigned_bits 8 octet) (octets_bits octets) rest)
    ∙ ap (λ reading. reading >>= λ x. octets_where tests x.1 >>= λ others. Ok (x.0 ∷ others.0, others.1)) (where_again test octet at (octets_bits octets ++ rest) pass.0 pass.1)
    ∙ ap (λ reading. reading >>= λ others. Ok (octet ∷ others.0, others.1)) (octets_again tests octets rest (at + 8) pass.2)
    ∙ ap (λ bit. Ok (octet ∷ octets, record { left = rest; at = bit })) place

pub octets_refused : (tests : List (ℕ → Bool)) (old : Unread) (refusal : DownRefusal) → octets_where tests old ≡ Err refusal
    → IsFirstOctetFault tests old refusal.bit refusal.why
unfolding octets_where
octets_refused [] old refusal given = absurd (ok_is_no_err ([], old) refusal given)
octets_refused (test ∷ tests) old refusal given =
    ⊎_elim (λ e. here (where_refused test old refusal e))
    (λ p. ⊎_elim (λ e. later p.0.0 p.0.1 (where_takes test p.0.0 old p.0.1 p.1) (octets_refused tests p.0.1 refusal e))
    (λ q. absurd (ok_is_no_err (p.0.0 ∷ q.0.0, q.0.1) refusal q.2))
    (bind_err (octets_where tests p.0.1) (λ others. Ok (p.0.0 ∷ others.0, others.1)) refusal p.2))
    (bind_err (octet_where test old) (λ octet. octets_where tests octet.1 >>= λ others. Ok (octet.0 ∷ others.0, others.1)) refusal given)
  where
    here : IsOctetFault test old.left refusal.why × (refusal.bit ≡ old.at) → IsFirstOctetFault (test ∷ tests) old refusal.bit refusal.why
    here p = record {
      before = [];
      test = test;
      behind = tests;
      octets = [];
      rest = old.left;
      in_turn = refl;
      pass = refl;
      stand = refl;
      fault = p.0;
      place = omega (arith, p.1);
    }

    later : (value : ℕ) (new : Unread) → Takes 8 value old new × IsTrue (test value) → IsFirstOctetFault tests new refusal.bit refusal.why
        → IsFirstOctetFault (test ∷ tests) old refusal.bit refusal.why
    later value new took fault = record {
      before = test ∷ fault.before;
      test = fault.test;
      behind = fault.behind;
      octets = value ∷ fault.octets;
      rest = fault.rest;
      in_turn = ap (λ xs. test ∷ xs) fault.in_turn;
      pass = (took.0.fits, took.1, fault.pass);
      stand =
          took.0.bits ∙ ap (λ bits. unsigned_bits 8 value ++ bits) fault.stand
          ∙ sym (append_assoc (unsigned_bits 8 value) (octets_bits fault.octets) fault.rest);
      fault = fault.fault;
      place = omega (arith, fault.place, took.0.place);
    }

-- Octets that pass are read, and then what is read behind them.
octets_through : (before : List (ℕ → Bool)) (test : ℕ → Bool) (behind : List (ℕ → Bool)) (octets : List ℕ) (rest : List Bool) (at : ℕ) (refusal : DownRefusal)
    → PassEach before octets → octet_where test (record { left = rest; at = at + 8 * length octets }) ≡ Err refusal
    → octets_where (before ++ test ∷ behind) (record { left = octets_bits octets ++ rest; at = at }) ≡ Err refusal
unfolding octets_where
octets_through [] test behind octets rest at refusal pass refused =
    let place : at ≡ at + 8 * length octets = omega (arith, ap length pass) in
    ap (λ xs. octets_where (test ∷ behind) (record { left = octets_bits xs ++ rest; at = at })) pass
    ∙ ap (λ bit. octet_where test (record { left = rest; at = bit }) >>= λ octet. octets_where behind octet.1 >>= λ others. Ok (octet.0 ∷ others.0, others.1)) place
    ∙ ap (λ reading. reading >>= λ octet. octets_where behind octet.1 >>= λ others. Ok (octet.0 ∷ others.0, others.1)) refused
octets_through (first ∷ before) test behind [] rest at refusal pass refused = absurd pass
octets_through (first ∷ before) test behind (octet ∷ octets) rest at refusal pass refused =
    let place : at + 8 * length (octet ∷ octets) ≡ at + 8 + 8 * length octets = omega arith in
    let later = octets_through before test behind octets rest (at + 8) refusal pass.2
    (ap (λ bit. octet_where test (record { left = rest; at = bit })) (sym place) ∙ refused) in
    ap (λ left. octets_where (first ∷ (before ++ test ∷ behind)) (record { left = left; at = at })) (append_assoc (unsigned_bits 8 octet) (octets_bits octets) rest)
    ∙ ap (λ reading. reading >>= λ x. octets_where (before ++ test ∷ behind) x.1 >>= λ others. Ok (x.0 ∷ others.0, others.1))
    (where_again first octet at (octets_bits octets ++ rest) pass.0 pass.1)
    ∙ ap (λ reading. reading >>= λ others. Ok (octet ∷ others.0, others.1)) later

pub octets_fault : (tests : List (ℕ → Bool)) (old : Unread) (refusal : DownRefusal) → IsFirstOctetFault tests old refusal.bit refusal.why
    → octets_where tests old ≡ Err refusal
octets_fault tests old refusal fault =
    ap₂ (λ xs left. octets_where xs (record { left = left; at = old.at })) fault.in_turn fault.stand
    ∙ octets_through fault.before fault.test fault.behind fault.octets fault.rest old.at refusal fault.pass
    (where_fault fault.test (record { left = fault.rest; at = old.at + 8 * length fault.octets }) refusal fault.fault fault.place)
