-- One more character's code in the place of a space.
use Rattle.std.proofs.Common.{◌≡◌, ℕ, suc, ◌+◌, ◌-◌, ◌<◌, ◌≤◌, List, [], ◌∷◌, ◌++◌, length, map, get_or, replicate, take, set, ap, sym, ◌∙◌, append_assoc, arith}
use Rattle.std.proofs.lemmas.List.{length-map, length-take-le, map-append, take_more}
use Rattle.std.proofs.Math.Seq.{set-append_seam}
use Rattle.aircraft_core.specs.Reports.{flight_code}

pub code_more : (flight : List ℕ) (place character : ℕ) (codes : List ℕ) → place < length flight → length flight ≤ 8 → character ≡ get_or flight place 0
    → codes ≡ map flight_code (take place flight) ++ replicate (8 - place) 32
    → set codes place (flight_code character) ≡ map flight_code (take (place + 1) flight) ++ replicate (8 - (place + 1)) 32
code_more flight place character codes within few is so_far =
    let front = map flight_code (take place flight) in
    let back : List ℕ = replicate (8 - (place + 1)) 32 in
    let size : length front ≡ place = length-map (take place flight) flight_code ∙ length-take-le place flight (omega arith) in
    let count : 8 - place ≡ suc (8 - (place + 1)) = omega arith in
    let left : replicate (8 - place) 32 ≡ 32 ∷ back = ap (λ n. replicate n 32) count in
    ap (λ cs. set cs place (flight_code character)) (so_far ∙ ap (λ spaces. front ++ spaces) left)
    ∙ ap (λ i. set (front ++ 32 ∷ back) i (flight_code character)) (sym size)
    ∙ set-append_seam front 32 back (flight_code character)
    ∙ ap (λ ch. front ++ flight_code ch ∷ back) is
    ∙ sym (append_assoc front (flight_code (get_or flight place 0) ∷ []) back)
    ∙ ap (λ cs. cs ++ back) (sym (map-append flight_code (take place flight) (get_or flight place 0 ∷ [])) ∙ ap (map flight_code) (sym (take_more flight place 0 within)))
