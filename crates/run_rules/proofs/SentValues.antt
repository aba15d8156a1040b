-- What a centre sends is right: a message's payload is of bytes, and a contact that it answers is the aircraft's own.
use Rattle.std.proofs.Common.{◌≡◌, ℕ, zero, suc, ◌==◌, ◌<◌, Bool, true, false, if◌then◌else◌, cond, List, [], ◌∷◌, ◌++◌, flat_map, map, Option, Some, None, refl, sym, subst, arith}
use Rattle.std.specs.Option.{option_or}
use Rattle.std.specs.Prelude.{All}
use Rattle.std.specs.List.{AllByRecursion}
use Rattle.std.proofs.lemmas.List.Elements.{All-cons, All-head, All-nil, All-tail}
use Rattle.std.proofs.lemmas.List.Sorted.{All-permutation}
use Rattle.hex.specs.Hex.{IsBytes}
use Rattle.acars_envelope.specs.declared.texts.Body.{Body}
use Rattle.acars_envelope.specs.declared.texts.Body.TheVariants.{Ads, Afn}
use Rattle.adsc_requests.specs.Contents.{Content, Group, content_of, groups_of, number_of}
use Rattle.adsc_requests.specs.Grammar.{AskEach, EncodesContents, group_octets, head_octets, joined, message_octets}
use Rattle.adsc_requests.specs.Kind.{kind_in}
use Rattle.adsc_requests.specs.declared.kind.Kind.{Kind}
use Rattle.adsc_requests.specs.declared.kind.Kind.TheVariants as kinds
use Rattle.adsc_requests.specs.declared.message.Message.{Message}
use Rattle.adsc_requests.specs.declared.message.Message.TheVariants as message
use Rattle.afn_logon.specs.Contents.{ContactData, IsContact}
use Rattle.centre_core.specs.Events.{CentreEvent}
use Rattle.centre_core.specs.Hearing.{Greets, Says, SaysInBody}
use Rattle.centre_core.specs.Histories.{effects, next_number, row_at, table_behind}
use Rattle.centre_core.specs.Rows.{Effect, RequestSent, answered_row, cancelled_row, first_answer, is_cancel_of_all, is_kind, is_uncancelled, request_sent, request_standing, row_since, since_cancel, since_request}
use Rattle.centre_core.specs.Sending.{message_payload}
use Rattle.centre_core.specs.Tables.{effect_of, mode_cancel_number, number_to_cancel, with_number}
use Rattle.centre_core.specs.declared.answer.AnswerKind.{AnswerKind}
use Rattle.centre_core.specs.declared.answer.AnswerKind.TheVariants.{Acknowledgement, Noncompliance, NegativeAcknowledgement}
use Rattle.centre_core.specs.declared.shown.Shown.{Shown}
use Rattle.centre_core.specs.declared.shown.Shown.TheVariants as shown
use Rattle.centre_core.proofs.NumberLaws.{BearsNumber, bears_number}
use Rattle.contract_rules.specs.LookingBack.{unless}
use Rattle.net_script.specs.Forms.{AsksWithoutNumber, IsRequestText}
use Rattle.net_script.specs.declared.line.Cancel.{Cancel}
use Rattle.net_script.specs.declared.line.Cancel.TheVariants.{Of, EmergencyMode}
use Rattle.net_script.specs.declared.line.Cancel.TheVariants as cancel
use Rattle.run_rules.specs.Happenings.{Cancelled}
use Rattle.run_rules.specs.Lines.{cancel_step, cancelling_step}
use Rattle.run_rules.specs.Stages.{does}

-- ---- bytes

pub bytes_append : (a b : List ℕ) → IsBytes a → IsBytes b → IsBytes (a ++ b)
bytes_append [] b one other i = other i
bytes_append (x ∷ a) b one other zero = one 0
bytes_append (x ∷ a) b one other (suc i) = bytes_append a b (λ k. one (suc k)) other i

bytes_left : (a b : List ℕ) → IsBytes (a ++ b) → IsBytes a
bytes_left [] b bytes i = omega arith
bytes_left (x ∷ a) b bytes zero = bytes 0
bytes_left (x ∷ a) b bytes (suc i) = bytes_left a b (λ k. bytes (suc k)) i

bytes_right : (a b : List ℕ) → IsBytes (a ++ b) → IsBytes b
bytes_right [] b bytes = bytes
bytes_right (x ∷ a) b bytes = bytes_right a b (λ k. bytes (suc k))

no_bytes : IsBytes []
no_bytes i = omega arith

one_byte : (a : ℕ) → a < 256 → IsBytes (a ∷ [])
one_byte a fits zero = fits
one_byte a fits (suc i) = omega arith

-- A group stands as bytes.
abbrev IsOfBytes : Group → Type 0
IsOfBytes g = IsBytes (group_octets g)

each_of_bytes : (gs : List Group) → IsBytes (flat_map group_octets gs) → All IsOfBytes gs
each_of_bytes [] bytes = All-nil IsOfBytes
each_of_bytes (g ∷ gs) bytes =
    All-cons IsOfBytes g gs (bytes_left (group_octets g) (flat_map group_octets gs) bytes)
    (each_of_bytes gs (bytes_right (group_octets g) (flat_map group_octets gs) bytes))

bytes_of_each : (gs : List Group) → All IsOfBytes gs → IsBytes (flat_map group_octets gs)
bytes_of_each [] all = no_bytes
bytes_of_each (g ∷ gs) all =
    bytes_append (group_octets g) (flat_map group_octets gs) (All-head IsOfBytes g gs all) (bytes_of_each gs (All-tail IsOfBytes g gs all))

head_bytes : (tag number : ℕ) → tag < 256 → number < 256 → (unnumbered : Bool) → IsBytes (if unnumbered then tag ∷ [] else tag ∷ number ∷ [])
head_bytes tag number known fits true = one_byte tag known
head_bytes tag number known fits false = bytes_append (tag ∷ []) (number ∷ []) (one_byte tag known) (one_byte number fits)

-- So does a message whose tag and number are octets.
content_bytes : (c : Content) → c.tag < 256 → c.number < 256 → All IsOfBytes c.groups → IsBytes (joined (c ∷ []))
unfolding message_octets
content_bytes c known fits groups =
    bytes_append (message_octets c) []
    (bytes_append (head_octets c) (flat_map group_octets c.groups) (head_bytes c.tag c.number known fits (c.tag == 1)) (bytes_of_each c.groups groups))
    no_bytes

-- ---- requests

-- The groups of a request that a line asks for.
request_groups : (asked : Message) (text : List ℕ) → IsRequestText asked text → All IsOfBytes (groups_of asked)
unfolding message_octets
request_groups asked text is =
    let encodes : EncodesContents (content_of asked ∷ []) is.octets = subst (λ ms. EncodesContents (map content_of ms) is.octets) is.sole is.encoding in
    at encodes.standing encodes.asked (subst IsBytes encodes.octets is.bytes)
  where
    at : (standing : List Content) → AskEach standing (content_of asked ∷ []) → IsBytes (joined standing) → All IsOfBytes (groups_of asked)
    at [] asks bytes = absurd (cc)
    at (m ∷ ms) asks bytes =
        All-permutation IsOfBytes m.groups (groups_of asked) asks.0.same_groups
        (each_of_bytes m.groups (bytes_right (head_octets m) (flat_map group_octets m.groups) (bytes_left (message_octets m) (joined ms) bytes)))

-- A request that a line asks for, with a number that is an octet, is of bytes.
pub request_bytes : (asked : Message) (text : List ℕ) (n : ℕ) → IsRequestText asked text → n < 256 → IsBytes (message_payload (with_number n asked))
request_bytes asked text n is fits = at asked is.asks (request_groups asked text is)
  where
    at : (asked : Message) → AsksWithoutNumber asked → All IsOfBytes (groups_of asked) → IsBytes (message_payload (with_number n asked))
    at message.CancelAll asks groups = absurd asks
    at (message.Cancel m) asks groups = absurd asks
    at (message.CancelEmergency m) asks groups = absurd asks
    at (message.Periodic m interval moduli intent) asks groups =
        content_bytes (content_of (message.Periodic n interval moduli intent)) (omega arith) fits groups
    at (message.Event m limits) asks groups = content_bytes (content_of (message.Event n limits)) (omega arith) fits groups
    at (message.Emergency m interval moduli intent) asks groups =
        content_bytes (content_of (message.Emergency n interval moduli intent)) (omega arith) fits groups

-- ---- numbers of rows

-- A request that was sent has a number that is an octet.
abbrev IsNumbered : Effect → Type 0
IsNumbered (RequestSent request) = number_of request < 256
IsNumbered effect = Unit {0}

pub next_fits : (past : List Effect) → next_number past < 256
next_fits past = omega arith

numbered_by : (n : ℕ) (effect : Effect) → n < 256 → BearsNumber n effect → IsNumbered effect
numbered_by n (RequestSent request) fits bears = omega (arith, fits, bears)
numbered_by n effect fits bears = tt

effects_numbered : (w : List CentreEvent) → AllByRecursion IsNumbered (effects w)
effects_numbered [] = tt
effects_numbered (event ∷ w) =
    let n = next_number (effects w) in
    (numbered_by n (effect_of event n (table_behind (effects w))) (next_fits (effects w)) (bears_number event n (table_behind (effects w))), effects_numbered w)

-- If there is a request, its number is an octet.
abbrev IsNumberedIf : Option Message → Type 0
IsNumberedIf None = Unit {0}
IsNumberedIf (Some request) = number_of request < 256

sent_numbered : (kind : Kind) (effect : Effect) → IsNumbered effect → IsNumberedIf (request_sent kind effect)
sent_numbered kind (RequestSent request) numbered = at (is_kind kind (kind_in request))
  where
    at : (same : Bool) → IsNumberedIf (if same then Some request else None)
    at true = numbered
    at false = tt
sent_numbered kind effect numbered = tt

standing_numbered : (kind : Kind) (past : List Effect) → AllByRecursion IsNumbered past → IsNumberedIf (request_standing kind past)
standing_numbered kind [] all = tt
standing_numbered kind (effect ∷ past) all =
    at (request_sent kind effect) (sent_numbered kind effect all.0) (request_standing kind past) (standing_numbered kind past all.1)
  where
    left : (request : Message) → number_of request < 256 → (ended : Bool) → IsNumberedIf (cond ended None (Some request))
    left request numbered true = tt
    left request numbered false = numbered

    at : (sent : Option Message) → IsNumberedIf sent → (before : Option Message) → IsNumberedIf before
        → IsNumberedIf (option_or sent (unless (λ request. is_cancel_of_all effect) before))
    at (Some request) numbered before earlier = numbered
    at None numbered None earlier = tt
    at None numbered (Some request) earlier = left request earlier (is_cancel_of_all effect)

-- The request of a row has a number that is an octet.
abbrev IsRowNumbered : Shown → Type 0
IsRowNumbered shown.Nothing = Unit {0}
IsRowNumbered (shown.Pending request) = number_of request < 256
IsRowNumbered (shown.Confirmed request) = number_of request < 256
IsRowNumbered (shown.Partial request) = number_of request < 256
IsRowNumbered (shown.Refused request reason) = number_of request < 256
IsRowNumbered (shown.Cancelling request) = number_of request < 256

row_numbered : (kind : Kind) (w : List CentreEvent) → IsRowNumbered (row_at kind w)
row_numbered kind w =
    at (request_standing kind (effects w)) (standing_numbered kind (effects w) (effects_numbered w)) (since_request kind (effects w))
  where
    answered : (request : Message) → number_of request < 256 → (answer : Option AnswerKind) → IsRowNumbered (answered_row request answer)
    answered request numbered None = numbered
    answered request numbered (Some Acknowledgement) = numbered
    answered request numbered (Some Noncompliance) = numbered
    answered request numbered (Some (NegativeAcknowledgement reason)) = numbered

    cancelled : (request : Message) → number_of request < 256 → (answer : Option AnswerKind) → IsRowNumbered (cancelled_row request answer)
    cancelled request numbered None = numbered
    cancelled request numbered (Some answer) = tt

    since : (request : Message) → number_of request < 256 → (past : List Effect) → (uncancelled : Bool)
        → IsRowNumbered (if uncancelled
        then answered_row request (first_answer kind past)
        else cancelled_row request (first_answer kind (since_cancel kind past)))
    since request numbered past true = answered request numbered (first_answer kind past)
    since request numbered past false = cancelled request numbered (first_answer kind (since_cancel kind past))

    at : (request : Option Message) → IsNumberedIf request → (past : List Effect) → IsRowNumbered (row_since kind request past)
    at None numbered past = tt
    at (Some request) numbered past = since request numbered past (is_uncancelled kind past)

-- ---- cancels

cancel_bytes : (n : ℕ) → n < 256 → IsBytes (message_payload (message.Cancel n))
cancel_bytes n fits = content_bytes (content_of (message.Cancel n)) (omega arith) fits (All-nil IsOfBytes)

mode_cancel_bytes : (n : ℕ) → n < 256 → IsBytes (message_payload (message.CancelEmergency n))
mode_cancel_bytes n fits = content_bytes (content_of (message.CancelEmergency n)) (omega arith) fits (All-nil IsOfBytes)

to_cancel_fits : (row : Shown) (n : ℕ) → IsRowNumbered row → number_to_cancel row ≡ Some n → n < 256
to_cancel_fits (shown.Pending request) n numbered is = let same : number_of request ≡ n = cc in omega (arith, same, numbered)
to_cancel_fits (shown.Confirmed request) n numbered is = let same : number_of request ≡ n = cc in omega (arith, same, numbered)
to_cancel_fits (shown.Partial request) n numbered is = let same : number_of request ≡ n = cc in omega (arith, same, numbered)
to_cancel_fits shown.Nothing n numbered is = absurd (cc)
to_cancel_fits (shown.Refused request reason) n numbered is = absurd (cc)
to_cancel_fits (shown.Cancelling request) n numbered is = absurd (cc)

mode_fits : (row : Shown) → IsRowNumbered row → mode_cancel_number row < 256
mode_fits (shown.Confirmed request) numbered = numbered
mode_fits (shown.Partial request) numbered = numbered
mode_fits row numbered = omega arith

-- A step that sends a cancel sends this message.
same_message : (number link : ℕ) (what : Cancel) (one other : Message)
    → does (Cancelled number link what one ∷ []) ≡ does (Cancelled number link what other ∷ []) → one ≡ other
same_message number link what one other same = cc

-- What a cancel sends is of bytes.
pub cancel_sends_bytes : (w : List CentreEvent) (number link : ℕ) (what : Cancel) (sent : Message)
    → cancel_step w number link what ≡ does (Cancelled number link what sent ∷ []) → IsBytes (message_payload sent)
cancel_sends_bytes w number link EmergencyMode sent step =
    let n = mode_cancel_number (row_at kinds.Emergency w) in
    subst (λ m. IsBytes (message_payload m)) (same_message number link EmergencyMode (message.CancelEmergency n) sent step)
    (mode_cancel_bytes n (mode_fits (row_at kinds.Emergency w) (row_numbered kinds.Emergency w)))
cancel_sends_bytes w number link cancel.All sent step =
    subst (λ m. IsBytes (message_payload m)) (same_message number link cancel.All message.CancelAll sent step)
    (content_bytes (content_of message.CancelAll) (omega arith) (omega arith) (All-nil IsOfBytes))
cancel_sends_bytes w number link (Of kind) sent step = at (number_to_cancel (row_at kind w)) refl step
  where
    at : (found : Option ℕ) → number_to_cancel (row_at kind w) ≡ found
        → cancelling_step number link (Of kind) found ≡ does (Cancelled number link (Of kind) sent ∷ []) → IsBytes (message_payload sent)
    at None is step = absurd (cc)
    at (Some n) is step =
        subst (λ m. IsBytes (message_payload m)) (same_message number link (Of kind) (message.Cancel n) sent step)
        (cancel_bytes n (to_cancel_fits (row_at kind w) n (row_numbered kind w) is))

-- ---- contacts

-- The contact is the aircraft's own, and in its ranges.
pub record IsOwnContact (registration : List ℕ) (contact : ContactData) : Type 0 where
  pub ranges : IsContact contact
  pub own : contact.registration ≡ registration

-- A contact that a centre greets is.
pub greeted_is_own : (address registration text : List ℕ) (contact : ContactData) → Says address registration text (Greets contact)
    → IsOwnContact registration contact
greeted_is_own address registration text contact (envelope, is, says) = at envelope.body says.1
  where
    at : (body : Body) → SaysInBody registration body (Greets contact) → IsOwnContact registration contact
    at (Ads other payload) says = absurd says.1
    at (Afn characters) says =
        subst (IsOwnContact registration) (sym says.2.1) (record { ranges = says.1.ranges; own = says.2.0 })
