-- At which entry of a journal a message stands that was accepted.
use Rattle.std.proofs.Common.{◌≡◌, ◌⊎◌, ℕ, inl, inr, List, [], ◌∷◌, ◌++◌, map, reverse, refl, subst}
use Rattle.std.proofs.lemmas.List.{reverse-append}
use Rattle.adsc_requests.specs.declared.message.Message.{Message}
use Rattle.aircraft_core.specs.Entries.{latest_after}
use Rattle.aircraft_core.specs.JournalActs.{EntryActs, JournalActs}
use Rattle.aircraft_core.specs.declared.entry.Entry.{Entry}
use Rattle.aircraft_core.specs.declared.entry.Entry.TheVariants.{Uplink, Answer, Sample, Tick, Crew, Logon}
use Rattle.contract_rules.specs.Acts.{Act, Said, Malformed}
use Rattle.contract_rules.specs.Configuration.{Configuration}
use Rattle.contract_rules.specs.Messages.{Message as RulesMessage}
use Rattle.contract_rules.specs.Verdicts.{past_of}
use Rattle.contract_table.specs.Acts.{rules_message}
use Rattle.flight_samples.specs.declared.sample.Sample.{Sample as FlightSample}
use Rattle.run_rules.specs.Among.{IsAmong}
use Rattle.run_rules.specs.Claims.{HasAccepted}
use Rattle.run_rules.proofs.MadeDownlinks.{IsOwnUplink, told_with}
use Rattle.run_rules.proofs.Members.{among_parts}

-- ---- an accepted message

reversed_among : {A : Type 0} (x : A) (xs : List A) → IsAmong x (reverse xs) → IsAmong x xs
reversed_among x [] among = absurd among
reversed_among x (y ∷ ys) among =
    at (among_parts x (reverse ys) (y ∷ []) (subst (IsAmong x) (reverse-append (y ∷ []) ys) among)) (reversed_among x ys)
  where
    at : IsAmong x (reverse ys) ⊎ IsAmong x (y ∷ []) → (IsAmong x (reverse ys) → IsAmong x ys) → IsAmong x (y ∷ ys)
    at (inl before) rest = inr (rest before)
    at (inr (inl same)) rest = inl same
    at (inr (inr among)) rest = absurd among

accepted_among : (configuration : Configuration) (link : ℕ) (message : RulesMessage) (acts : List Act) → HasAccepted link message (past_of configuration acts) → IsAmong (Said link message) acts
accepted_among configuration link message [] accepted = absurd accepted
accepted_among configuration link message (act ∷ acts) (inl now) = inl now.0
accepted_among configuration link message (act ∷ acts) (inr before) = inr (accepted_among configuration link message acts before)

-- The entry at whose acts this one stands.
record ActsAt (latest : FlightSample) (journal : List Entry) (act : Act) : Type 0 where
  made : Entry
  among : IsAmong made journal
  before : FlightSample
  here : List Act
  are : EntryActs before made here
  stands : IsAmong act here

acts_at : (latest : FlightSample) (journal : List Entry) (each : List (List Act)) (told : List Act) (act : Act) → JournalActs latest journal each
    → IsAmong act (told_with told each) → IsAmong act told ⊎ ActsAt latest journal act
acts_at latest [] each told act are among = inl (subst (λ e. IsAmong act (told_with told e)) are among)
acts_at latest (made ∷ journal) [] told act are among = absurd are
acts_at latest (made ∷ journal) (here ∷ each) told act are among =
    at (acts_at (latest_after latest made) journal each (reverse here ++ told) act are.1 among)
  where
    parts : IsAmong act (reverse here) ⊎ IsAmong act told → IsAmong act told ⊎ ActsAt latest (made ∷ journal) act
    parts (inl now) = inr (record { made = made; among = inl refl; before = latest; here = here; are = are.0; stands = reversed_among act here now })
    parts (inr before) = inl before

    at : IsAmong act (reverse here ++ told) ⊎ ActsAt (latest_after latest made) journal act → IsAmong act told ⊎ ActsAt latest (made ∷ journal) act
    at (inl among) = parts (among_parts act (reverse here) told among)
    at (inr found) =
        inr (record { made = found.made; among = inr found.among; before = found.before; here = found.here; are = found.are; stands = found.stands })

said_among : (link other : ℕ) (message : RulesMessage) (messages : List Message) → IsAmong (Said link message) (map (λ asked. Said other (rules_message asked)) messages) → link ≡ other
said_among link other message [] among = absurd among
said_among link other message (asked ∷ messages) (inl same) = cc
said_among link other message (asked ∷ messages) (inr among) = said_among link other message messages among

-- What stands in a list of one is that one.
pub alone_among : (act other : Act) (acts : List Act) → acts ≡ other ∷ [] → IsAmong act acts → other ≡ act
alone_among act other acts is among = at (subst (IsAmong act) is among)
  where
    at : IsAmong act (other ∷ []) → other ≡ act
    at (inl same) = same
    at (inr among) = absurd among

-- An entry at whose acts a message of the link stands is an uplink of the link.
said_by_one : (link : ℕ) (latest : FlightSample) (made : Entry) (acts : List Act) (message : RulesMessage) → EntryActs latest made acts → IsAmong (Said link message) acts
    → IsOwnUplink link made
said_by_one link latest (Uplink line other octets) acts message (inl read) among =
    said_among link other message read.0.messages.items (subst (IsAmong (Said link message)) read.2 among)
said_by_one link latest (Uplink line other octets) acts message (inr unread) among =
    absurd (let never = alone_among (Said link message) (Malformed other _) acts unread.2 among in cc)
said_by_one link latest (Answer line other code) acts message are among = absurd (subst (IsAmong (Said link message)) are among)
said_by_one link latest (Sample line sample) acts message are among = absurd (let never = alone_among (Said link message) _ acts are among in cc)
said_by_one link latest (Tick line t) acts message are among = absurd (let never = alone_among (Said link message) _ acts are among in cc)
said_by_one link latest (Crew line on) acts message are among = absurd (let never = alone_among (Said link message) _ acts are among in cc)
said_by_one link latest (Logon line other) acts message are among = absurd (subst (IsAmong (Said link message)) are among)

-- An accepted message of a link stands at an uplink of the link.
pub record AcceptedAt (link : ℕ) (journal : List Entry) (message : RulesMessage) : Type 0 where
  pub made : Entry
  pub among : IsAmong made journal
  pub own : IsOwnUplink link made
  pub before : FlightSample
  pub here : List Act
  pub are : EntryActs before made here
  pub stands : IsAmong (Said link message) here

-- A message that the link accepted in a journal stands at one of its entries.
pub accepted_at : (configuration : Configuration) (link : ℕ) (latest : FlightSample) (journal : List Entry) (each : List (List Act)) (message : RulesMessage)
    → JournalActs latest journal each → HasAccepted link message (past_of configuration (told_with [] each)) → AcceptedAt link journal message
accepted_at configuration link latest journal each message are accepted =
    at (acts_at latest journal each [] (Said link message) are (accepted_among configuration link message (told_with [] each) accepted))
  where
    at : IsAmong (Said link message) [] ⊎ ActsAt latest journal (Said link message) → AcceptedAt link journal message
    at (inl among) = absurd among
    at (inr found) = record {
      made = found.made;
      among = found.among;
      own = said_by_one link found.before found.made found.here message found.are found.stands;
      before = found.before;
      here = found.here;
      are = found.are;
      stands = found.stands;
    }
