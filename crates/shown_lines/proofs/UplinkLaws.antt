-- The laws of the lines of an uplink's messages.
use Rattle.std.proofs.Common.{◌≡◌, ℕ, zero, suc, ◌+◌, ◌<◌, List, [], ◌∷◌, ◌++◌, length, take, Option, None, get_or, sym, ap, ◌∙◌, arith, append-nil, append_assoc}
use Rattle.shown_lines.specs.UplinkTexts.{modulus_text, moduli_text}

moduli_text-suc : (tag : ℕ) (moduli : List (Option ℕ)) (place : ℕ) → place < length moduli
    → moduli_text tag (take (suc place) moduli) ≡ moduli_text tag (take place moduli) ++ modulus_text (tag + place) (get_or moduli place None)
moduli_text-suc tag [] place below = absurd (omega (arith, below))
moduli_text-suc tag (modulus ∷ moduli) zero below =
    let same : tag + 0 ≡ tag = omega arith in
    append-nil (modulus_text tag modulus) ∙ sym (ap (λ t. modulus_text t modulus) same)
moduli_text-suc tag (modulus ∷ moduli) (suc place) below =
    let same : tag + 1 + place ≡ tag + suc place = omega arith in
    ap (λ x. modulus_text tag modulus ++ x) (moduli_text-suc (tag + 1) moduli place (omega (arith, below)))
    ∙ sym (append_assoc (modulus_text tag modulus) (moduli_text (tag + 1) (take place moduli)) (modulus_text (tag + 1 + place) (get_or moduli place None)))
    ∙ ap (λ t. (modulus_text tag modulus ++ moduli_text (tag + 1) (take place moduli)) ++ modulus_text t (get_or moduli place None)) same

-- the lines of one modulus more
pub moduli_text-more : (tag : ℕ) (moduli : List (Option ℕ)) (place : ℕ) → place < length moduli
    → moduli_text tag (take (place + 1) moduli) ≡ moduli_text tag (take place moduli) ++ modulus_text (tag + place) (get_or moduli place None)
moduli_text-more tag moduli place below =
    let next : place + 1 ≡ suc place = omega arith in
    ap (λ k. moduli_text tag (take k moduli)) next ∙ moduli_text-suc tag moduli place below
