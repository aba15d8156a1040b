-- What a centre sent is taken as a text from the ground as it is when it is brought.
use Rattle.std.proofs.Common.{◌≡◌, ◌≢◌, ◌⊎◌, ℕ, zero, suc, ◌+◌, ◌==◌, ◌<◌, true, false, if◌then◌else◌, cond, List, [], ◌∷◌, ◌++◌, length, map, get_or, Some, Result, Ok, Err, inl, inr, refl, sym, ap, ◌∙◌, subst, arith}
use Rattle.std.specs.Prelude.{All, nat_eq, nat_le}
use Rattle.std.specs.List.{AllByRecursion}
use Rattle.std.proofs.lemmas.Bool.{and_from, cases_Bool, le-leb}
use Rattle.std.proofs.lemmas.Bool.Decides.{Decides-eqb}
use Rattle.std.proofs.lemmas.List.{length-map}
use Rattle.std.proofs.lemmas.List.Elements.{All-head, All-tail, All-cons, All-nil}
use Rattle.hex.specs.Hex.{IsBytes}
use Rattle.acars_envelope.specs.Bodies.{is_body_size}
use Rattle.acars_envelope.specs.Names.{IsAddress}
use Rattle.acars_envelope.specs.Texts.{IsEnvelopeText}
use Rattle.acars_envelope.specs.declared.texts.Body.TheVariants.{Ads, Afn}
use Rattle.acars_envelope.specs.declared.texts.Envelope.{Envelope}
use Rattle.adsc_requests.specs.Contents.{content_of}
use Rattle.adsc_requests.specs.declared.message.Message.{Message}
use Rattle.adsc_requests.proofs.ReadingLaws.{encoding_size}
use Rattle.adsc_requests.proofs.Whole.{written_encodes}
use Rattle.afn_logon.specs.Contents.{AnswerData, ApplicationData, ContactData, IsAnswer, IsApplication, IsContact, answer_data}
use Rattle.afn_logon.specs.Makings.{accepted_application, answer_to}
use Rattle.afn_logon.specs.Texts.{answer_text}
use Rattle.afn_logon.specs.declared.answer.Answer.{Answer as LogonAnswer}
use Rattle.afn_logon.specs.declared.refusal.AfnRefusal.{AfnRefusal}
use Rattle.afn_logon.proofs.FormLaws.{one_answer}
use Rattle.afn_logon.proofs.SizeLaws.{answer_is_carried}
use Rattle.aircraft_core.specs.Setting.{Setting, address_of}
use Rattle.aircraft_core.specs.declared.entry.Entry.TheVariants.{Uplink, Answer}
use Rattle.centre_core.specs.Hearing.{Hearing, Ignores, Greets, Says, Tells}
use Rattle.centre_core.specs.Histories.{effects, next_number_at, table_at}
use Rattle.centre_core.specs.Sending.{message_payload}
use Rattle.centre_core.proofs.NumberLaws.{asked_numbered}
use Rattle.centre_core.proofs.SendingLaws.{payload_there}
use Rattle.contract_rules.proofs.Equality.{equality_of_lists}
use Rattle.ground_texts.specs.Readings.{ReadsAnswer}
use Rattle.ground_texts.specs.declared.ground_text.AdsUplink.{AdsUplink}
use Rattle.ground_texts.specs.declared.ground_text.AfnUplink.{AfnUplink}
use Rattle.ground_texts.specs.declared.ground_text.GroundText.TheVariants as text
use Rattle.ground_texts.proofs.EachAnswer.{each_answer}
use Rattle.net_script.specs.Addresses.{AreDifferent}
use Rattle.run_rules.specs.Among.{IsAmong}
use Rattle.run_rules.proofs.Deeds.{AreDeeds, IsDeed, IsSettled, bound_before}
use Rattle.run_rules.specs.Happenings.{Happening, Entered, Refused, Asked, Cancelled, Brought, Heard, Carried, Carries, Answers, SentMessage, answer_sent, history, sent_in, sent_messages}
use Rattle.run_rules.specs.Lines.{entry_with}
use Rattle.run_rules.specs.Runs.{IsScript, Run, Script, ScriptRun}
use Rattle.run_rules.specs.SentTexts.{IsTakenAsText, sent_text}
use Rattle.run_rules.specs.Stages.{enters}
use Rattle.run_rules.specs.Texts.{flight_place, link_from, link_to, notice_step, refuses, registration_place, same_text, takes, text_step, uplink_step}
use Rattle.run_rules.specs.declared.refused.RefusedWhy.TheVariants as why
use Rattle.run_rules.proofs.EachRun.{uplink_with}
use Rattle.run_rules.proofs.RunDeeds.{run_deeds}
use Rattle.run_rules.proofs.SentValues.{IsOwnContact, cancel_sends_bytes, greeted_is_own, next_fits, request_bytes}

-- ---- what was sent is right

-- The link is one of the aircraft's. A message's payload is of bytes, and a contact that is answered is the aircraft's own.
abbrev IsRightSent : Setting → ℕ → Carried → Type 0
IsRightSent setting link (Carries asked) = (link < length setting.addresses) × IsBytes (message_payload asked)
IsRightSent setting link (Answers contact) = (link < length setting.addresses) × IsOwnContact setting.registration contact

-- Each of these messages that this link's centre sent is right.
abbrev AreRightSent : Setting → ℕ → List SentMessage → Type 0
AreRightSent setting link sent = (one : SentMessage) → IsAmong one sent → IsRightSent setting link one.carried

only_right : (setting : Setting) (link : ℕ) (sent : SentMessage) → IsRightSent setting link sent.carried → AreRightSent setting link (sent ∷ [])
only_right setting link sent right one (inl is) = subst (λ s. IsRightSent setting link s.carried) is right
only_right setting link sent right one (inr none) = absurd none

right_append : (setting : Setting) (link : ℕ) (some others : List SentMessage) → AreRightSent setting link some → AreRightSent setting link others
    → AreRightSent setting link (some ++ others)
right_append setting link [] others right rest one among = rest one among
right_append setting link (first ∷ some) others right rest one (inl is) = right one (inl is)
right_append setting link (first ∷ some) others right rest one (inr among) =
    right_append setting link some others (λ s there. right s (inr there)) rest one among

-- A message that a link's centre sends is right for that link, and no other link's centre sends it.
right_if : (setting : Setting) (link other : ℕ) (sent : List SentMessage) → AreRightSent setting other sent
    → AreRightSent setting link (cond (link == other) sent [])
right_if setting link other sent right = at (cases_Bool (link == other))
  where
    at : ((link == other) ≡ true) ⊎ ((link == other) ≡ false) → AreRightSent setting link (cond (link == other) sent [])
    at (inl own) =
        let same : link ≡ other = (Decides-eqb link other).0 own in
        subst (λ b. AreRightSent setting link (cond b sent [])) (sym own) (subst (λ l. AreRightSent setting l sent) (sym same) right)
    at (inr foreign) = subst (λ b. AreRightSent setting link (cond b sent [])) (sym foreign) (λ one among. absurd among)

answer_right : (setting : Setting) (line link : ℕ) (hearing : Hearing) → link < length setting.addresses
    → ((contact : ContactData) → hearing ≡ Greets contact → IsOwnContact setting.registration contact)
    → AreRightSent setting link (answer_sent line hearing)
answer_right setting line link (Greets contact) inside own =
    only_right setting link (record { line = line; carried = Answers contact }) (inside, own contact refl)
answer_right setting line link (Tells items) inside own = λ one among. absurd among
answer_right setting line link (Ignores cause) inside own = λ one among. absurd among

deed_right : (order : List ℕ) (setting : Setting) (line : ℕ) (log : List Happening) (happening : Happening) (link : ℕ)
    → IsDeed order setting line log happening → AreRightSent setting link (sent_in link happening)
deed_right order setting line log (Asked number other request) link deed =
    let n = next_number_at (history other log) in
    let same = asked_numbered deed.1.asked n (table_at (history other log)) request deed.1.sent in
    let sent : SentMessage = record { line = number; carried = Carries request } in
    right_if setting link other (sent ∷ [])
    (only_right setting other sent
    (deed.1.centre.inside, subst (λ m. IsBytes (message_payload m)) (sym same) (request_bytes deed.1.asked deed.1.text n deed.1.is_request (next_fits (effects (history other log))))))
deed_right order setting line log (Cancelled number other what message) link deed =
    let sent : SentMessage = record { line = number; carried = Carries message } in
    right_if setting link other (sent ∷ [])
    (only_right setting other sent (deed.1.inside, cancel_sends_bytes (history other log) number other what message deed.2))
deed_right order setting line log (Heard number other place hearing) link deed =
    right_if setting link other (answer_sent number hearing)
    (answer_right setting number other hearing deed.1.centre.inside
    (λ contact is. greeted_is_own (address_of setting other) setting.registration deed.1.text contact (subst (λ h. Says (address_of setting other) setting.registration deed.1.text h) is deed.1.says)))
deed_right order setting line log (Entered made) link deed = λ one among. absurd among
deed_right order setting line log (Refused refused) link deed = λ one among. absurd among
deed_right order setting line log (Brought other place made) link deed = λ one among. absurd among

sent_right : (order : List ℕ) (setting : Setting) (number : ℕ) (log : List Happening) (link : ℕ) → AreDeeds order setting number log
    → AreRightSent setting link (sent_messages link log)
sent_right order setting number [] link deeds = λ one among. absurd among
sent_right order setting number (happening ∷ log) link deeds =
    right_append setting link (sent_messages link log) (sent_in link happening)
    (sent_right order setting (bound_before deeds.0 happening) log link deeds.4) (deed_right order setting deeds.0 log happening link deeds.3)

-- ---- the link of its own address

pub same_is : (one other : List ℕ) → one ≡ other → same_text one other ≡ true
same_is one other same = (equality_of_lists nat_eq (λ m n. Decides-eqb m n) one other).1 same

other_is : (one other : List ℕ) → one ≢ other → same_text one other ≡ false
other_is one other apart = elim (cases_Bool (same_text one other)) [
  | inl same ↦ absurd (apart ((equality_of_lists nat_eq (λ m n. Decides-eqb m n) one other).0 same))
  | inr differs ↦ differs
]

-- The first place at which an address stands is its link.
own_from : (from : ℕ) (addresses : List (List ℕ)) (place : ℕ) (address : List ℕ) → place < length addresses → get_or addresses place [] ≡ address
    → ((earlier : ℕ) → earlier < place → get_or addresses earlier [] ≢ address) → link_from from addresses address ≡ Some (from + place)
own_from from [] place address inside here before = absurd (omega (arith, inside))
own_from from (other ∷ others) zero address inside here before =
    let back : from ≡ from + 0 = omega arith in
    ap (λ same. if same then Some from else link_from (from + 1) others address) (same_is other address here) ∙ ap Some back
own_from from (other ∷ others) (suc place) address inside here before =
    let back : from + 1 + place ≡ from + suc place = omega arith in
    ap (λ same. if same then Some from else link_from (from + 1) others address) (other_is other address (before 0 (omega arith)))
    ∙ own_from (from + 1) others place address (omega (arith, inside)) here (λ k earlier. before (suc k) (omega (arith, earlier)))
    ∙ ap Some back

own_link : (setting : Setting) (link : ℕ) → AreDifferent setting.addresses → link < length setting.addresses
    → link_to setting (address_of setting link) ≡ Some link
own_link setting link different inside =
    let back : 0 + link ≡ link = omega arith in
    own_from 0 setting.addresses link (address_of setting link) inside refl (λ earlier before same. different link inside (earlier, before, same))
    ∙ ap Some back

address_at : (addresses : List (List ℕ)) (place : ℕ) → place < length addresses → AllByRecursion IsAddress addresses → IsAddress (get_or addresses place [])
address_at [] place inside all = absurd (omega (arith, inside))
address_at (address ∷ addresses) zero inside all = all.0
address_at (address ∷ addresses) (suc place) inside all = address_at addresses place (omega (arith, inside)) all.1

-- ---- a message

message_formed : (asked : Message) → is_body_size (length (message_payload asked)) ≡ true
message_formed asked =
    let few = encoding_size (message_payload asked) (content_of asked ∷ []) (written_encodes (uplink_with asked)) in
    and_from (nat_le 1 (length (message_payload asked))) (nat_le (length (message_payload asked)) 255)
    (le-leb 1 (length (message_payload asked)) (payload_there asked)) (le-leb (length (message_payload asked)) 255 (omega (arith, few)))

message_taken : (setting : Setting) (link : ℕ) (asked : Message) → IsSettled setting → link < length setting.addresses
    → IsBytes (message_payload asked) → IsTakenAsText setting link (Carries asked)
message_taken setting link asked settled inside bytes =
    record { reading = text.Ads uplink; reads = (envelope, is, (refl, refl, refl, written_encodes (uplink_with asked))); taken = taken }
  where
    uplink : AdsUplink
    uplink =
        record {
          address = address_of setting link;
          registration = setting.registration;
          octets = record { items = message_payload asked };
          asked = Ok (uplink_with asked);
        }

    envelope : Envelope
    envelope =
        record {
          address = address_of setting link;
          body = Ads setting.registration (record { items = message_payload asked });
          well_formed = message_formed asked;
        }

    is : IsEnvelopeText envelope (sent_text setting link (Carries asked))
    is = record { address = address_at setting.addresses link inside settled.addresses; body = (settled.registration, bytes); spelled = refl }

    taken : (number : ℕ) → text_step setting [] number (text.Ads uplink) ≡ enters (entry_with number link (Carries asked))
    taken number =
        ap (λ found. uplink_step setting [] number uplink found) (own_link setting link settled.different inside)
        ∙ ap
        (λ same. if same
        then takes [] link (Entered (Uplink number link (record { items = message_payload asked })) ∷ [])
        else refuses number (why.OtherRegistration registration_place))
        (same_is setting.registration setting.registration refl)

-- ---- an answer

accepted_right : (list : List ApplicationData) → All (IsApplication 99) list → All (IsApplication 9) (map accepted_application list)
accepted_right [] all = All-nil (IsApplication 9)
accepted_right (a ∷ list) all =
    let is = All-head (IsApplication 99) a list all in
    All-cons (IsApplication 9) (accepted_application a) (map accepted_application list)
    (record { three = is.three; letters = is.letters; number = omega arith }) (accepted_right list (All-tail (IsApplication 99) a list all))

-- The answer to a contact is in its ranges.
answer_right_ranges : (contact : ContactData) → IsContact contact → IsAnswer (answer_to contact)
answer_right_ranges contact is =
    record {
      flight = is.flight;
      registration = is.registration;
      code = omega arith;
      applications = record {
        some = omega (arith, is.applications.some, length-map contact.applications accepted_application);
        few = omega (arith, is.applications.few, length-map contact.applications accepted_application);
        each = accepted_right contact.applications is.applications.each;
      };
    }

answer_taken : (setting : Setting) (link : ℕ) (contact : ContactData) → IsSettled setting → link < length setting.addresses
    → IsOwnContact setting.registration contact → IsTakenAsText setting link (Answers contact)
answer_taken setting link contact settled inside own =
    let read = each_answer (answer_text (answer_to contact)) in at read.0 read.1
  where
    ranges : IsAnswer (answer_to contact)
    ranges = answer_right_ranges contact own.ranges

    envelope : Envelope
    envelope =
        record {
          address = address_of setting link;
          body = Afn (record { items = answer_text (answer_to contact) });
          well_formed = answer_is_carried (answer_to contact) ranges;
        }

    is : IsEnvelopeText envelope (sent_text setting link (Answers contact))
    is = record { address = address_at setting.addresses link inside settled.addresses; body = tt; spelled = refl }

    notice : LogonAnswer → AfnUplink
    notice answer = record { address = address_of setting link; answer = Ok answer }

    taken : (answer : LogonAnswer) → answer_data answer ≡ answer_to contact → (number : ℕ)
        → text_step setting [] number (text.Afn (notice answer)) ≡ enters (entry_with number link (Answers contact))
    taken answer same number =
        let its : answer.registration ≡ setting.registration = ap (λ (a : AnswerData). a.registration) same ∙ own.own in
        ap (λ found. notice_step setting [] number (notice answer) found) (own_link setting link settled.different inside)
        ∙ ap
        (λ is_own. if is_own
        then takes [] link (Entered (Answer number link answer.code) ∷ [])
        else refuses number (why.OtherRegistration (flight_place + length answer.flight + 1)))
        (same_is answer.registration setting.registration its)
        ∙ ap (λ (found : ℕ). enters (Answer number link found)) (ap (λ (a : AnswerData). a.code) same)

    at : (read : Result LogonAnswer AfnRefusal) → ReadsAnswer (answer_text (answer_to contact)) read → IsTakenAsText setting link (Answers contact)
    at (Err refusal) reads = absurd (reads.none (answer_to contact, record { ranges = ranges; spelled = refl }))
    at (Ok answer) reads =
        let same =
        one_answer (answer_data answer) (answer_to contact) (answer_text (answer_to contact)) reads (record { ranges = ranges; spelled = refl }) in
        record { reading = text.Afn (notice answer); reads = (envelope, is, (refl, reads)); taken = taken answer same }

-- ---- the law

right_taken : (setting : Setting) (link : ℕ) (carried : Carried) → IsSettled setting → IsRightSent setting link carried → IsTakenAsText setting link carried
right_taken setting link (Carries asked) settled right = message_taken setting link asked settled right.0 right.1
right_taken setting link (Answers contact) settled right = answer_taken setting link contact settled right.0 right.1

-- What a centre sent in a run is taken as a text.
pub sent_message_is_taken : (bytes : List ℕ) (script : Script) (order : List ℕ) (run : Run) (setting : Setting) (link : ℕ) (sent : SentMessage)
    → IsScript bytes script → ScriptRun script order run → run.setting ≡ Some setting → IsAmong sent (sent_messages link run.log)
    → IsTakenAsText setting link sent.carried
sent_message_is_taken bytes script order run setting link sent is runs made among =
    let has = run_deeds bytes script order run setting is runs made in
    right_taken setting link sent.carried has.settled (sent_right order setting has.number run.log link has.deeds sent among)
