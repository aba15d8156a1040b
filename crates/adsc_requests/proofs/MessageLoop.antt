-- The loop over the messages of a payload.
use Rattle.std.proofs.Common.{◌≡◌, ℕ, zero, suc, ◌+◌, ◌-◌, ◌<◌, ◌≤◌, List, [], ◌∷◌, ◌++◌, length, map, get_or, if◌then◌else◌, Result, Ok, Err, refl, sym, ◌∙◌, ap, arith, append-nil, append_assoc}
use Rattle.adsc_requests.specs.Tables.{is_message_tag}
use Rattle.adsc_requests.specs.Contents.{Content}
use Rattle.adsc_requests.specs.Reading.{◌>>=◌, stop, message_at, messages_at, uplink_at}
use Rattle.adsc_requests.specs.declared.decoding.stop.Stop.{Stop}

pub no_payload : (payload : List ℕ) → payload ≡ [] → uplink_at payload ≡ Err (stop 0 9 0)
unfolding uplink_at
no_payload payload none = rw none refl

pub some_payload : (payload : List ℕ) → 1 ≤ length payload → uplink_at payload ≡ messages_at 4 0 payload
unfolding uplink_at
some_payload [] some = absurd (omega arith)
some_payload (t ∷ octets) some = refl

-- What reading gives behind messages that were read before.
abbrev pub with_front : List Content → Result (List Content) Stop → Result (List Content) Stop
with_front front read = read >>= λ ms. Ok (front ++ ms)

front-more : (front : List Content) (m : Content) (read : Result (List Content) Stop)
    → with_front (front ++ m ∷ []) read ≡ with_front front (read >>= λ ms. Ok (m ∷ ms))
front-more front m (Ok ms) = ap (λ xs. ok_list xs) (append_assoc front (m ∷ []) ms)
  where
    ok_list : List Content → Result (List Content) Stop
    ok_list xs = Ok xs
front-more front m (Err s) = refl

pub front-step : (front : List Content) (k number : ℕ) (rest : List ℕ) (x : Content × List ℕ) (whole : Result (List Content) Stop)
    → k < 4 → 1 ≤ length rest → message_at number rest ≡ Ok x
    → with_front front (messages_at (4 - k) number rest) ≡ whole
    → with_front (front ++ x.0 ∷ []) (messages_at (4 - (k + 1)) (x.0).number x.1) ≡ whole
unfolding messages_at
front-step front k number [] x whole below some reads all = absurd (omega arith)
front-step front k number (t ∷ octets) x whole below some reads all =
    let one : 4 - k ≡ suc (4 - (k + 1)) = omega arith in
    front-more front x.0 (messages_at (4 - (k + 1)) (x.0).number x.1)
    ∙ sym (ap (λ r. with_front front (r >>= λ m. messages_at (4 - (k + 1)) (m.0).number m.1 >>= λ ms. Ok ((m.0) ∷ ms))) reads)
    ∙ sym (ap (λ n. with_front front (messages_at n number (t ∷ octets))) one)
    ∙ all

pub front-stops : (front : List Content) (k number : ℕ) (rest : List ℕ) (s : Stop) (whole : Result (List Content) Stop)
    → k < 4 → 1 ≤ length rest → message_at number rest ≡ Err s
    → with_front front (messages_at (4 - k) number rest) ≡ whole → whole ≡ Err s
unfolding messages_at
front-stops front k number [] s whole below some reads all = absurd (omega arith)
front-stops front k number (t ∷ octets) s whole below some reads all =
    let one : 4 - k ≡ suc (4 - (k + 1)) = omega arith in
    sym all ∙ ap (λ n. with_front front (messages_at n number (t ∷ octets))) one
    ∙ ap (λ r. with_front front (r >>= λ m. messages_at (4 - (k + 1)) (m.0).number m.1 >>= λ ms. Ok ((m.0) ∷ ms))) reads

pub front-end : (front : List Content) (j number : ℕ) (rest : List ℕ) (whole : Result (List Content) Stop)
    → length rest < 1 → with_front front (messages_at j number rest) ≡ whole → whole ≡ Ok front
unfolding messages_at
front-end front zero number [] whole none all = sym all ∙ ap (λ (xs : List Content). Ok xs) (append-nil front)
front-end front (suc j) number [] whole none all = sym all ∙ ap (λ (xs : List Content). Ok xs) (append-nil front)
front-end front j number (t ∷ octets) whole none all = absurd (omega arith)

pub front-fifth : (front : List Content) (k number : ℕ) (rest : List ℕ) (whole : Result (List Content) Stop)
    → 4 ≤ k → 1 ≤ length rest → with_front front (messages_at (4 - k) number rest) ≡ whole
    → whole ≡ Err (stop (length rest) (if is_message_tag (get_or rest 0 0) then 8 else 7) number)
unfolding messages_at
front-fifth front k number [] whole four some all = absurd (omega arith)
front-fifth front k number (t ∷ octets) whole four some all =
    let none : 4 - k ≡ 0 = omega arith in
    let one : length octets + 1 ≡ length (t ∷ octets) = omega arith in
    sym all ∙ ap (λ n. with_front front (messages_at n number (t ∷ octets))) none
    ∙ ap (λ n. with_front front (Err (stop n (if is_message_tag t then 8 else 7) number))) one

pub front-none : (read : Result (List Content) Stop) → with_front [] read ≡ read
front-none (Ok ms) = refl
front-none (Err s) = refl

pub map-last : {A B : Type 0} (f : A → B) (xs : List A) (x : A) → map f (xs ++ x ∷ []) ≡ map f xs ++ f x ∷ []
map-last f [] x = refl
map-last f (y ∷ ys) x = ap (λ zs. f y ∷ zs) (map-last f ys x)
