-- The two words after each step.
use Rattle.std.proofs.Common.{◌≡◌, ◌≢◌, ◌==◌, ℕ, ◌+◌, ◌%◌, ◌^◌, ◌<◌, List, [], ◌∷◌, ap, ◌∙◌, ne_eqb, mod-eq_of_lt}
use Rattle.std.specs.Prelude.{slice_index, slice_set}
use Rattle.std.proofs.lemmas.List.{set-get_or}
use prog.Atomic.{either}

pub turn_is : (words : List ℕ) (c turn : ℕ) → words ≡ c ∷ turn ∷ [] → slice_index words 1 ≡ turn
turn_is words c turn is = ap (λ ws. slice_index ws 1) is

pub won_words : (words : List ℕ) (c turn : ℕ) → words ≡ c ∷ turn ∷ [] → turn ≡ 0 → slice_set words 1 (either (slice_index words 1 == 0) 1 (slice_index words 1)) ≡ c ∷ 1 ∷ []
won_words words c turn is free =
    let p : words ≡ c ∷ 0 ∷ [] = is ∙ ap (λ (t : ℕ). c ∷ t ∷ []) free in
    ap (λ ws. slice_set ws 1 (either (slice_index ws 1 == 0) 1 (slice_index ws 1))) p

pub same_words : (words : List ℕ) (i : ℕ) → slice_set words i (slice_index words i) ≡ words
same_words words i = set-get_or words i 0

pub lost_words : (words : List ℕ) → slice_index words 1 ≢ 0 → slice_set words 1 (either (slice_index words 1 == 0) 1 (slice_index words 1)) ≡ words
lost_words words busy = ap (λ b. slice_set words 1 (either b 1 (slice_index words 1))) (ne_eqb (slice_index words 1) 0 busy) ∙ same_words words 1

pub counted_words : (words : List ℕ) (c turn now : ℕ) → words ≡ c ∷ turn ∷ [] → c + 1 ≡ now → now < 2 ^ 64 → slice_set words 0 ((slice_index words 0 + 1) % 2 ^ 64) ≡ now ∷ turn ∷ []
counted_words words c turn now is more fits =
    ap (λ ws. slice_set ws 0 ((slice_index ws 0 + 1) % 2 ^ 64)) is ∙ ap (λ (n : ℕ). n ∷ turn ∷ []) (ap (λ (n : ℕ). n % 2 ^ 64) more ∙ mod-eq_of_lt fits)

pub freed_words : (words : List ℕ) (c turn : ℕ) → words ≡ c ∷ turn ∷ [] → slice_set words 1 0 ≡ c ∷ 0 ∷ []
freed_words words c turn is = ap (λ ws. slice_set ws 1 0) is
