-- A journal line shows its order: a number's digits end where a comma or a newline stands, and no two numbers have the same digits.
use Rattle.std.proofs.Common.{◌≡◌, ◌<◌, ◌≤◌, ◌^◌, ℕ, List, [], ◌∷◌, ◌++◌, All, drop, flat_map, get_or, inl, inr, refl, sym, ap, ap₂, ◌∙◌, subst, append_assoc, arith}
use Rattle.std.specs.Prelude.{decimal}
use Rattle.std.proofs.lemmas.Fmt.{decimal_injective, decimal_is_IsNumeral}
use Rattle.std.proofs.lemmas.List.Elements.{All-cons, All-from_get_or, All-head, All-nil, All-tail}
use Rattle.std.proofs.lemmas.Str.Parse.{digit_at}
use Rattle.adsc_io.specs.Lines.{newline}
use Rattle.adsc_io.specs.declared.limits.TheConstants.{MAX_SCRIPT_LINES}
use Rattle.output_fields.specs.Fields.{number_field}
use Rattle.run_rules.specs.Output.{journal_line}
use Rattle.run_rules.specs.Among.{IsAmong}
use Rattle.run_rules.specs.Laws.{IsTakingOrder, JournalLineShowsOrder}
use Rattle.run_rules.proofs.LineNumbers.{orders_name_lines, few_lines}

-- These are numbers that a script's lines may have.
abbrev AreLineNumbers : List ℕ → Type 0
AreLineNumbers lines = All (λ number. number ≤ MAX_SCRIPT_LINES) lines

abbrev IsDigit : ℕ → Type 0
IsDigit byte = (48 ≤ byte) × (byte ≤ 57)

-- No digit stands first.
abbrev EndsNumber : List ℕ → Type 0
EndsNumber [] = Unit {0}
EndsNumber (byte ∷ rest) = IsDigit byte → ⊥

-- Where no digit follows, digits are the same if the texts are.
same_digits : (one other behind rest : List ℕ) → All IsDigit one → All IsDigit other → EndsNumber behind → EndsNumber rest
    → one ++ behind ≡ other ++ rest → (one ≡ other) × (behind ≡ rest)
same_digits [] [] behind rest digits others ends stops same = (refl, same)
same_digits [] (byte ∷ other) behind rest digits others ends stops same =
    absurd (subst EndsNumber same ends (All-head IsDigit byte other others))
same_digits (byte ∷ one) [] behind rest digits others ends stops same =
    absurd (subst EndsNumber (sym same) stops (All-head IsDigit byte one digits))
same_digits (first ∷ one) (second ∷ other) behind rest digits others ends stops same =
    let more = same_digits one other behind rest (All-tail IsDigit first one digits) (All-tail IsDigit second other others) ends stops (ap (drop 1) same) in
    (ap₂ (λ byte bytes. byte ∷ bytes) (ap (λ bytes. get_or bytes 0 0) same) more.0, more.1)

small_number : (number : ℕ) → number ≤ MAX_SCRIPT_LINES → number < 2 ^ 64
small_number number line =
    let most : MAX_SCRIPT_LINES ≡ 200000 = refl in omega (arith, line, most)

digits_of : (number : ℕ) → number < 2 ^ 64 → All IsDigit (decimal number)
digits_of number small =
    let are = (decimal_is_IsNumeral number small).0.1 in
    All-from_get_or IsDigit (decimal number) 0 (λ i within. digit_at (decimal number) i are within)

-- The fields of numbers, and a newline behind them.
abbrev fields_then : List ℕ → List ℕ → List ℕ
fields_then numbers behind = flat_map number_field numbers ++ newline ∷ behind

fields_end : (numbers behind : List ℕ) → EndsNumber (fields_then numbers behind)
fields_end [] behind = λ digit. omega (arith, digit.0)
fields_end (number ∷ numbers) behind = λ digit. omega (arith, digit.0)

fields_show : (one other behind rest : List ℕ) → AreLineNumbers one → AreLineNumbers other → fields_then one behind ≡ fields_then other rest → one ≡ other
fields_show [] [] behind rest lines others same = refl
fields_show [] (number ∷ other) behind rest lines others same = absurd (let first : 10 ≡ 44 = ap (λ bytes. get_or bytes 0 0) same in omega (arith, first))
fields_show (number ∷ one) [] behind rest lines others same = absurd (let first : 44 ≡ 10 = ap (λ bytes. get_or bytes 0 0) same in omega (arith, first))
fields_show (first ∷ one) (second ∷ other) behind rest lines others same =
    let first_small = small_number first (All-head (λ n. n ≤ MAX_SCRIPT_LINES) first one lines) in
    let second_small = small_number second (All-head (λ n. n ≤ MAX_SCRIPT_LINES) second other others) in
    let digits = same_digits (decimal first) (decimal second) (fields_then one behind) (fields_then other rest)
    (digits_of first first_small) (digits_of second second_small) (fields_end one behind) (fields_end other rest)
    (sym (append_assoc (decimal first) (flat_map number_field one) (newline ∷ behind))
    ∙ ap (drop 1) same
    ∙ append_assoc (decimal second) (flat_map number_field other) (newline ∷ rest)) in
    ap₂ (λ number numbers. number ∷ numbers) (decimal_injective first second first_small second_small digits.0)
    (fields_show one other behind rest (All-tail (λ n. n ≤ MAX_SCRIPT_LINES) first one lines) (All-tail (λ n. n ≤ MAX_SCRIPT_LINES) second other others) digits.1)

line_shows : (one other behind rest : List ℕ) → AreLineNumbers one → AreLineNumbers other
    → journal_line one ++ behind ≡ journal_line other ++ rest → one ≡ other
line_shows one other behind rest lines others same =
    fields_show one other behind rest lines others
    (sym (append_assoc (flat_map number_field one) (newline ∷ []) behind)
    ∙ ap (drop 1) same
    ∙ append_assoc (flat_map number_field other) (newline ∷ []) rest)

-- ---- allowed orders

all_of : (P : ℕ → Type 0) (order : List ℕ) → ((number : ℕ) → IsAmong number order → P number) → All P order
all_of P [] each = All-nil P
all_of P (first ∷ order) each = All-cons P first order (each first (inl refl)) (all_of P order (λ number among. each number (inr among)))

are_line_numbers : (bytes order : List ℕ) → IsTakingOrder bytes order → AreLineNumbers order
are_line_numbers bytes order taking =
    all_of (λ number. number ≤ MAX_SCRIPT_LINES) order
    (λ number among. let named = (orders_name_lines bytes order taking number among).1 in omega (arith, named, few_lines bytes))

pub journal_line_shows_order : JournalLineShowsOrder
journal_line_shows_order bytes others order other_order behind rest taking too same =
    line_shows order other_order behind rest (are_line_numbers bytes order taking) (are_line_numbers others other_order too) same
