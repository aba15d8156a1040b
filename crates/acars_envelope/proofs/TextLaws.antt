-- Places of a text and the pieces that it is cut into.
use Rattle.std.proofs.Common.{◌≡◌, ℕ, ◌+◌, ◌-◌, ◌≤◌, Bool, true, List, ◌++◌, length, drop, get_or, slice_index, sym, ap, ◌∙◌, arith}
use Rattle.std.specs.Prelude.{codes, ◌&&◌}
use Rattle.std.specs.List.{AllPass, list_all, slice_range}
use Rattle.std.proofs.lemmas.List.{append_assoc, drop-drop, get_or-drop, get_or-take, get_or_default, length-drop, length-take, take-append-drop}
use Rattle.std.proofs.lemmas.List.Sums.{list_all-from_AllPass}
use Rattle.std.proofs.lemmas.Bool.{le-leb}
use Rattle.acars_envelope.specs.Faults.{AreRight, IsFor}
use Rattle.acars_envelope.specs.Bodies.{is_body_size, is_text_character}

-- what is right at each place of a range holds of each character of the piece there
pub AllPass-piece : (test : ℕ → Bool) (text : List ℕ) (from to : ℕ) → from ≤ to → to ≤ length text
    → AreRight (λ place. test (slice_index text place)) from to → AllPass test (slice_range text from to)
AllPass-piece test text from to ordered there right k d below =
    let size : length (slice_range text from to) ≡ to - from = omega (arith, length-take (to - from) (drop from text), length-drop from text) in
    let same : get_or (slice_range text from to) k d ≡ slice_index text (from + k) =
    get_or_default (slice_range text from to) k d 0 below
    ∙ get_or-take (to - from) (drop from text) k 0 (omega (arith, size)) ∙ get_or-drop from text k 0 in
    rw same (right (from + k) (omega arith) (omega (arith, size)))

-- a text from one place on is the piece up to another and the text from there on
pub cut : (text : List ℕ) (from to : ℕ) → from ≤ to → drop from text ≡ slice_range text from to ++ drop to text
cut text from to ordered =
    let reached : from + (to - from) ≡ to = omega arith in
    sym (ap (λ (n : ℕ). slice_range text from to ++ drop n text) (sym reached)
    ∙ ap (λ (rest : List ℕ). slice_range text from to ++ rest) (sym (drop-drop (to - from) from text))
    ∙ take-append-drop (to - from) (drop from text))

-- an ADS text from its letters on, piece by piece
pub ads_pieces : (text registration digits check : List ℕ) → 23 ≤ length text
    → IsFor (codes "ADS") text → slice_range text 12 19 ≡ registration
    → slice_range text 19 (length text - 4) ≡ digits → drop (length text - 4) text ≡ check
    → drop 9 text ≡ codes "ADS" ++ registration ++ digits ++ check
ads_pieces text registration digits check long letters is_registration is_digits is_check =
    cut text 9 12 (omega arith)
    ∙ rw (letters, cut text 12 19 (omega arith), is_registration, cut text 19 (length text - 4) (omega arith), is_digits, is_check) (sym (append_assoc (codes "ADS" ++ registration) digits check))

-- an AFN text from its letters on
pub afn_pieces : (text check : List ℕ) → 16 ≤ length text
    → IsFor (codes "AFN") text → drop (length text - 4) text ≡ check
    → drop 9 text ≡ codes "AFN" ++ slice_range text 12 (length text - 4) ++ check
afn_pieces text check long letters is_check =
    cut text 9 12 (omega arith)
    ∙ ap (λ (piece : List ℕ). piece ++ drop 12 text) letters
    ∙ ap (λ (rest : List ℕ). codes "AFN" ++ rest)
    (cut text 12 (length text - 4) (omega arith) ∙ ap (λ (rest : List ℕ). slice_range text 12 (length text - 4) ++ rest) is_check)

-- the characters of an AFN text, and how many they are
pub characters_pass : (text : List ℕ) → 17 ≤ length text → length text ≤ 271
    → AreRight (λ place. is_text_character (slice_index text place)) 12 (length text - 4)
    → (is_body_size (length (slice_range text 12 (length text - 4))) && list_all is_text_character (slice_range text 12 (length text - 4))) ≡ true
characters_pass text long short right =
    let size : length (slice_range text 12 (length text - 4)) ≡ length text - 16 =
    omega (arith, length-take (length text - 4 - 12) (drop 12 text), length-drop 12 text) in
    rw (size, le-leb 1 (length text - 16) (omega arith), le-leb (length text - 16) 255 (omega arith))
    (list_all-from_AllPass is_text_character (slice_range text 12 (length text - 4))
    (AllPass-piece is_text_character text 12 (length text - 4) (omega arith) (omega arith) right))
