-- The laws of the words of the command line.
use Rattle.std.proofs.Common.{◌≡◌, ℕ, ◌<◌, ◌^◌, List, [], ◌∷◌, codes, decimal, Result, Ok, inl, inr, sym, ◌∙◌, subst, arith}
use Rattle.std.specs.Str.Parse.{ParsesUnsigned}
use Rattle.std.proofs.lemmas.Fmt.{decimal_injective, parse-decimal}
use Rattle.adsc_bench.specs.Words.{AskForMake, AskForRun, AskForShow, IsListed}

-- a word that is some number is read as that number
pub none_spelled : {E : Type 0} (word : List ℕ) (read : Result ℕ E) → ParsesUnsigned 32 10 word read
    → ((n : ℕ) → read ≡ Ok n → word ≡ decimal n → ⊥) → (n : ℕ) → n < 2 ^ 32 → word ≡ decimal n → ⊥
none_spelled word read parses none n inside is = none n (parse-decimal 32 n word read inside (omega (arith, inside)) is parses) is

-- words ask for one script
pub one_script_asked : (number lines other others : ℕ) (words : List (List ℕ)) → AskForMake number lines words → AskForMake other others words
    → (number ≡ other) × (lines ≡ others)
one_script_asked number lines other others words (first, second, is, spelled) (first', second', is', spelled') =
    let same : codes "make" ∷ first ∷ second ∷ [] ≡ codes "make" ∷ first' ∷ second' ∷ [] = sym spelled ∙ spelled' in
    let ones : first ≡ first' = cc in
    let twos : second ≡ second' = cc in (
      decimal_injective number other (omega (arith, is.inside)) (omega (arith, is'.inside)) (sym is.number_spelled ∙ ones ∙ is'.number_spelled),
      decimal_injective lines others (omega (arith, is.most)) (omega (arith, is'.most)) (sym is.lines_spelled ∙ twos ∙ is'.lines_spelled),
    )

-- what holds of the script that words ask for holds of each that they ask for
pub as_asked : (P : ℕ → ℕ → Type 0) (number lines other others : ℕ) (words : List (List ℕ)) → AskForMake number lines words
    → AskForMake other others words → P number lines → P other others
as_asked P number lines other others words asked asked' holds =
    let same = one_script_asked number lines other others words asked asked' in
    subst (λ n. P n others) same.0 (subst (λ m. P number m) same.1 holds)

-- words that ask for nothing have no listed form
pub none_listed : (words : List (List ℕ)) → ((workers : ℕ) → AskForRun workers words → ⊥) → (AskForShow words → ⊥)
    → ((number lines : ℕ) → AskForMake number lines words → ⊥) → IsListed words → ⊥
none_listed words no_run no_show no_make (inl (inl (workers, asked))) = no_run workers asked
none_listed words no_run no_show no_make (inl (inr asked)) = no_show asked
none_listed words no_run no_show no_make (inr (number, lines, asked)) = no_make number lines asked
