-- What reading gives is an encoding or the first fault, and nothing else is.
use Rattle.std.proofs.Common.{◌≡◌, ℕ, ◌+◌, ◌-◌, ◌*◌, ◌≤◌, List, length, Result, Ok, Err, refl, sym, ◌∙◌, ap, subst, arith, length-append, ◌⊎◌, inl, inr, ⊎_elim}
use Rattle.adsc_requests.specs.Contents.{Content, contents_of}
use Rattle.adsc_requests.specs.Grammar.{EncodesContents}
use Rattle.adsc_requests.specs.Faults.{IsFirstFault}
use Rattle.adsc_requests.specs.Reading.{stop, uplink_at}
use Rattle.adsc_requests.specs.declared.decoding.stop.Stop.{Stop}
use Rattle.adsc_requests.specs.declared.refusal.Refusal.{Refusal}
use Rattle.adsc_requests.specs.Refusals.{IsFirstUplinkFault, HasUplink, HasFault, HasContents}
use Rattle.adsc_requests.proofs.Rows.{reason_range}
use Rattle.adsc_requests.proofs.Encodings.{encoding_is_read, fault_stops_reading}
use Rattle.adsc_requests.proofs.OneOrOther.{one_or_other}
use Rattle.adsc_requests.proofs.Sizes.{fault_place, joined_size}

ok_same : (a b : List Content) (r : Result (List Content) Stop) → r ≡ Ok a → r ≡ Ok b → a ≡ b
ok_same a b r p q = cc

err_same : (a b : Stop) (r : Result (List Content) Stop) → r ≡ Err a → r ≡ Err b → a ≡ b
err_same a b r p q = cc

ok_not_err : (a : List Content) (s : Stop) (r : Result (List Content) Stop) → r ≡ Ok a → r ≡ Err s → ⊥
ok_not_err a s r p q = cc

-- A first fault stops reading, with what is left from its place on.
pub fault_is_read : (payload : List ℕ) (at reason number : ℕ) → IsFirstFault payload at reason number
    → (left : ℕ) × (at + left ≡ length payload) × (uplink_at payload ≡ Err (stop left reason number))
fault_is_read payload at reason number f = (
  length f.rest,
  omega (arith, f.place, ap length f.parts, length-append f.front f.rest),
  fault_stops_reading payload f.front f.rest f.next reason f.parts f.sound f.applies ∙ ap (λ n. Err (stop (length f.rest) reason n)) (sym f.read),
)

pub read_is_encoding : (payload : List ℕ) (contents : List Content) → uplink_at payload ≡ Ok contents → EncodesContents contents payload
read_is_encoding payload contents reads =
    ⊎_elim
    (λ (o : (cs : List Content) × EncodesContents cs payload).
    subst (λ (cs : List Content). EncodesContents cs payload) (ok_same o.0 contents (uplink_at payload) (encoding_is_read o.0 payload o.1) reads) o.1)
    (λ (o : (at : ℕ) × (reason : ℕ) × (number : ℕ) × IsFirstFault payload at reason number).
    absurd (ok_not_err contents _ (uplink_at payload) reads (fault_is_read payload o.0 o.1 o.2 o.3).2))
    (one_or_other payload)

-- Where reading stops is the first fault.
pub record StopIsFault (payload : List ℕ) (s : Stop) : Type 0 where
  pub at : ℕ
  pub place : at + s.left ≡ length payload
  pub fault : IsFirstFault payload at s.reason s.number

pub stop_is_fault : (payload : List ℕ) (s : Stop) → uplink_at payload ≡ Err s → StopIsFault payload s
stop_is_fault payload s reads =
    ⊎_elim
    (λ (o : (cs : List Content) × EncodesContents cs payload). absurd (ok_not_err o.0 s (uplink_at payload) (encoding_is_read o.0 payload o.1) reads))
    (λ (o : (at : ℕ) × (reason : ℕ) × (number : ℕ) × IsFirstFault payload at reason number).
    let read = fault_is_read payload o.0 o.1 o.2 o.3 in
    let same : stop read.0 o.1 o.2 ≡ s = err_same _ s (uplink_at payload) read.2 reads in
    subst (λ (x : Stop). StopIsFault payload x) same (record { at = o.0; place = read.1; fault = o.3 }))
    (one_or_other payload)

-- A payload is not both.
pub never_both : (payload : List ℕ) (contents : List Content) (at reason number : ℕ) → EncodesContents contents payload → IsFirstFault payload at reason number → ⊥
never_both payload contents at reason number e f =
    ok_not_err contents _ (uplink_at payload) (encoding_is_read contents payload e) (fault_is_read payload at reason number f).2

-- A payload encodes no two lists of messages.
pub one_reading : (payload : List ℕ) (a b : List Content) → EncodesContents a payload → EncodesContents b payload → a ≡ b
one_reading payload a b ea eb = ok_same a b (uplink_at payload) (encoding_is_read a payload ea) (encoding_is_read b payload eb)

-- A payload has no two first faults.
pub one_fault : (payload : List ℕ) (at reason number at' reason' number' : ℕ) → IsFirstFault payload at reason number → IsFirstFault payload at' reason' number'
    → (at ≡ at') × (reason ≡ reason') × (number ≡ number')
one_fault payload at reason number at' reason' number' f f' =
    let read = fault_is_read payload at reason number f in
    let read' = fault_is_read payload at' reason' number' f' in
    let same : stop read.0 reason number ≡ stop read'.0 reason' number' = err_same _ _ (uplink_at payload) read.2 read'.2 in
    let left : read.0 ≡ read'.0 = ap (λ (s : Stop). s.left) same in
    (omega (arith, read.1, read'.1, left), ap (λ (s : Stop). s.reason) same, ap (λ (s : Stop). s.number) same)

pub encoding_size : (payload : List ℕ) (contents : List Content) → EncodesContents contents payload → length payload ≤ 76
encoding_size payload contents e = omega (arith, ap length e.octets, joined_size e.standing e.whole, e.few)

-- ---- refusals

pub refusal_same : (a b : Refusal) → a.bit ≡ b.bit → a.reason ≡ b.reason → a.number ≡ b.number → a.octet ≡ b.octet → a ≡ b
refusal_same a b bit reason number octet = λ i. record { bit = bit i; reason = reason i; number = number i; octet = octet i }

-- A payload has no two refusals.
pub one_refusal : (payload : List ℕ) (a b : Refusal) → IsFirstUplinkFault a payload → IsFirstUplinkFault b payload → a ≡ b
one_refusal payload a b fa fb =
    let same = one_fault payload fa.at a.reason a.number fb.at b.reason b.number fa.fault fb.fault in
    refusal_same a b (omega (arith, fa.bit, fb.bit, same.0)) same.1 same.2 (omega (arith, fa.octet, fb.octet, same.0))

pub refusal_of_stop : (payload : List ℕ) (s : Stop) (r : Refusal) → uplink_at payload ≡ Err s
    → r ≡ record { bit = 8 * (length payload - s.left); reason = s.reason; number = s.number; octet = length payload - s.left + 1 }
    → IsFirstUplinkFault r payload
refusal_of_stop payload s r reads is =
    let f : StopIsFault payload s = stop_is_fault payload s reads in
    let here : f.at ≡ length payload - s.left = omega (arith, f.place) in
    subst (λ (x : Refusal). IsFirstUplinkFault x payload) (sym is)
    (record { at = f.at; fault = f.fault; bit = ap (λ n. 8 * n) (sym here); octet = ap (λ n. n + 1) (sym here) })

pub stop_place : (payload : List ℕ) (s : Stop) → uplink_at payload ≡ Err s → (s.left ≤ length payload) × (length payload ≤ s.left + 76)
stop_place payload s reads =
    let f : StopIsFault payload s = stop_is_fault payload s reads in
    let near = fault_place payload f.at s.reason s.number f.fault in
    (omega (arith, f.place), omega (arith, f.place, near))

pub refusal_place : (payload : List ℕ) (r : Refusal) → IsFirstUplinkFault r payload → (1 ≤ r.octet) × (r.octet ≤ 77)
refusal_place payload r f =
    let near = fault_place payload f.at r.reason r.number f.fault in
    (omega (arith, f.octet), omega (arith, f.octet, near))

pub refusal_reason : (payload : List ℕ) (r : Refusal) → IsFirstUplinkFault r payload → (1 ≤ r.reason) × (r.reason ≤ 13)
refusal_reason payload r f = reason_range (f.fault).next (f.fault).rest r.reason (f.fault).applies

pub refused_is_no_uplink : (payload : List ℕ) (contents : List Content) (s : Stop) → uplink_at payload ≡ Err s → EncodesContents contents payload → ⊥
refused_is_no_uplink payload contents s reads e = ok_not_err contents s (uplink_at payload) (encoding_is_read contents payload e) reads

pub read_is_no_fault : (payload : List ℕ) (contents : List Content) (r : Refusal) → uplink_at payload ≡ Ok contents → IsFirstUplinkFault r payload → ⊥
read_is_no_fault payload contents r reads f = never_both payload contents f.at r.reason r.number (read_is_encoding payload contents reads) f.fault

-- ---- the laws of the format

pub contents_or_fault : (payload : List ℕ) → HasContents payload ⊎ HasFault payload
contents_or_fault payload =
    ⊎_elim
    (λ (o : (cs : List Content) × EncodesContents cs payload). inl o)
    (λ (o : (at : ℕ) × (reason : ℕ) × (number : ℕ) × IsFirstFault payload at reason number).
    inr (record { bit = 8 * o.0; reason = o.1; number = o.2; octet = o.0 + 1 }, record { at = o.0; fault = o.3; bit = refl; octet = refl }))
    (one_or_other payload)

pub contents_never_fault : (payload : List ℕ) → HasContents payload → HasFault payload → ⊥
contents_never_fault payload h f = never_both payload h.0 (f.1).at (f.0).reason (f.0).number h.1 (f.1).fault

pub uplink_never_fault : (payload : List ℕ) → HasUplink payload → HasFault payload → ⊥
uplink_never_fault payload h f = contents_never_fault payload (contents_of h.0, h.1) f
