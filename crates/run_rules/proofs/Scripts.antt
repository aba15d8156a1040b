-- An input is one script.
use Rattle.std.proofs.Common.{◌≡◌, ◌↔◌, ℕ, ◌+◌, Bool, true, false, IsTrue, List, [], ◌∷◌, length, refl, sym, ap₂, ◌∙◌, inl, inr, arith}
use Rattle.std.proofs.lemmas.Bool.{cases_Bool}
use Rattle.adsc_io.specs.Inputs.{IsOverLimit, is_within_limits, lines_before_limit}
use Rattle.adsc_io.specs.Lines.{script_lines}
use Rattle.net_script.proofs.Deciding.{all_or_first, decided_true}
use Rattle.run_rules.specs.Runs.{IsScript, ReadsLines, Script}
use Rattle.run_rules.specs.declared.reading.Reading.{Reading}
use Rattle.run_rules.proofs.EachReading.{each_reading}
use Rattle.run_rules.proofs.OneReading.{one_reading}

-- ---- at most one

one_list : (number : ℕ) (lines : List (List ℕ)) (one other : List Reading) → ReadsLines number lines one → ReadsLines number lines other → one ≡ other
one_list number [] one other first second = first ∙ sym second
one_list number (line ∷ lines) [] other first second = absurd first
one_list number (line ∷ lines) (reading ∷ readings) [] first second = absurd second
one_list number (line ∷ lines) (reading ∷ readings) (found ∷ others) first second =
    ap₂ (λ (r : Reading) (rs : List Reading). r ∷ rs) (one_reading number line reading found first.0 second.0)
    (one_list (number + 1) lines readings others first.1 second.1)

one_test : (a b : Bool) (P : Type 0) → IsTrue a ↔ P → IsTrue b ↔ P → a ≡ b
one_test true true P one other = refl
one_test false false P one other = refl
one_test true false P one other = sym (other.1 (one.0 refl))
one_test false true P one other = one.1 (other.0 refl)

-- An input is at most one script.
pub one_script : (bytes : List ℕ) (one other : Script) → IsScript bytes one → IsScript bytes other → one ≡ other
one_script bytes one other first second = λ i. record { readings = readings i; over = over i }
  where
    readings : one.readings ≡ other.readings
    readings = one_list 1 (lines_before_limit bytes) one.readings other.readings first.lines second.lines

    over : one.over ≡ other.over
    over = one_test one.over other.over (IsOverLimit bytes) first.limit second.limit

-- ---- at least one

each_list : (number : ℕ) (lines : List (List ℕ)) → (readings : List Reading) × ReadsLines number lines readings
each_list number [] = ([], refl)
each_list number (line ∷ lines) =
    let first = each_reading number line in
    let others = each_list (number + 1) lines in
    (first.0 ∷ others.0, (first.1, others.1))

-- Whether the limit is met.
over_limit : (bytes : List ℕ) → (over : Bool) × (IsTrue over ↔ IsOverLimit bytes)
over_limit bytes =
    elim (all_or_first (λ k. is_within_limits bytes k ≡ true) (λ k. decided_true (is_within_limits bytes k)) (length (script_lines bytes) + 1)) [
      | inl within ↦ (false, (λ is. absurd (cc), λ over. absurd (never over.0 (within over.0 (omega (arith, over.1.1))) over.1.2)))
      | inr first ↦ (true, (λ is. (first.0, (refl, omega (arith, first.1), beyond first.0 first.2.wrong)), λ over. refl))
    ]
  where
    never : (k : ℕ) → is_within_limits bytes k ≡ true → is_within_limits bytes k ≡ false → ⊥
    never k is none = let both : true ≡ false = sym is ∙ none in cc

    beyond : (k : ℕ) → ¬ (is_within_limits bytes k ≡ true) → is_within_limits bytes k ≡ false
    beyond k none = elim (cases_Bool (is_within_limits bytes k)) [
      | inl is ↦ absurd (none is)
      | inr is ↦ is
    ]

-- Each input is a script, whatever bytes it holds.
pub each_script : (bytes : List ℕ) → (script : Script) × IsScript bytes script
each_script bytes =
    let over = over_limit bytes in
    let list = each_list 1 (lines_before_limit bytes) in
    (record { readings = list.0; over = over.0 }, record { limit = over.1; lines = list.1 })
