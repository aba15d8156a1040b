-- The laws of what a line holds that was read.
use Rattle.std.proofs.Common.{◌≡◌, ◌≢◌, ℕ, ◌-◌, ◌<◌, ◌≤◌, true, List, length, drop, take, Option, Some, Result, Ok, Err, refl, sym, ap, ◌∙◌, subst, arith}
use Rattle.std.specs.Prelude.{IsSome, OnOk, nat_le}
use Rattle.std.specs.List.{list_all}
use Rattle.std.proofs.lemmas.Bool.{and_parts}
use Rattle.std.proofs.lemmas.Bool.Decides.{nat_tests}
use Rattle.std.proofs.lemmas.List.{length-drop, length-map}
use Rattle.arrayvec.specs.ArrayVec.{ArrayVec}
use Rattle.acars_envelope.specs.Bodies.{is_body_size, is_text_character, is_well_formed}
use Rattle.acars_envelope.specs.declared.texts.Body.{Body}
use Rattle.acars_envelope.specs.declared.texts.Body.TheVariants as body
use Rattle.adsc_requests.specs.Kind.{kind_in}
use Rattle.adsc_requests.specs.declared.kind.Kind.TheVariants.{Demand, Periodic, Event, Emergency}
use Rattle.adsc_requests.specs.declared.message.Message.{Message}
use Rattle.adsc_requests.specs.declared.message.Message.TheVariants as message
use Rattle.afn_logon.specs.declared.answer.Answer.{Answer as LogonAnswer}
use Rattle.afn_logon.specs.declared.refusal.AfnRefusal.{AfnRefusal}
use Rattle.ground_texts.specs.Readings.{ReadsAnswer, ReadsBody, ReadsText}
use Rattle.ground_texts.specs.declared.ground_text.AdsUplink.{AdsUplink}
use Rattle.ground_texts.specs.declared.ground_text.AfnUplink.{AfnUplink}
use Rattle.ground_texts.specs.declared.ground_text.GroundText.{GroundText}
use Rattle.ground_texts.specs.declared.ground_text.GroundText.TheVariants as text
use Rattle.net_script.specs.Addresses.{AddressList, IsReserved}
use Rattle.net_script.specs.Counts.{HasCount}
use Rattle.net_script.specs.Forms.{AsksWithoutNumber, IsCancelText}
use Rattle.net_script.specs.Lines.{SaysAddresses}
use Rattle.net_script.specs.declared.letter.Letter.TheVariants.{Ground}
use Rattle.net_script.specs.declared.line.Cancel.{Cancel}
use Rattle.net_script.specs.declared.line.Cancel.TheVariants.{Of, EmergencyMode, All}
use Rattle.net_script.specs.declared.line.ScriptLine.{ScriptLine}
use Rattle.net_script.specs.declared.line.ScriptLine.TheVariants as line
use Rattle.run_rules.specs.Readings.{ReadsLine}
use Rattle.run_rules.specs.declared.reading.Reading.{Reading}
use Rattle.run_rules.specs.declared.reading.Reading.TheVariants.{Bad, Says, Brings}
use Rattle.script_reading.specs.Readable.{AreLinks, IsReadAnswer, IsReadText, IsReadUplink, IsReadable, SaysRightly}

-- an uplink that a text is has 1 to 255 octets
uplink_is_read : (address : List ℕ) (found : Body) (uplink : AdsUplink) → is_well_formed found ≡ true → ReadsBody address found (text.Ads uplink) → IsReadUplink uplink
uplink_is_read address (body.Ads registration payload) uplink formed reads =
    let sizes = and_parts (nat_le 1 (length payload.items)) (nat_le (length payload.items) 255) formed in
    let same : uplink.octets ≡ payload = reads.2 in
    record {
      some = subst (λ (octets : ArrayVec ℕ). 1 ≤ length octets.items) (sym same) (grind (arith, nat_tests, sizes.0));
      few = subst (λ (octets : ArrayVec ℕ). length octets.items ≤ 255) (sym same) (grind (arith, nat_tests, sizes.1));
    }
uplink_is_read address (body.Afn found) uplink formed reads = absurd reads

answer_is_read : (characters : List ℕ) (answer : Result LogonAnswer AfnRefusal) → length characters ≤ 255 → ReadsAnswer characters answer → IsReadAnswer answer
answer_is_read characters (Ok answer) few reads = tt
answer_is_read characters (Err refusal) few reads = omega (arith, few, reads.within)

notice_is_read : (address : List ℕ) (found : Body) (notice : AfnUplink) → is_well_formed found ≡ true → ReadsBody address found (text.Afn notice) → IsReadAnswer notice.answer
notice_is_read address (body.Afn characters) notice formed reads =
    let sized = (and_parts (is_body_size (length characters.items)) (list_all is_text_character characters.items) formed).0 in
    let few = (and_parts (nat_le 1 (length characters.items)) (nat_le (length characters.items) 255) sized).1 in
    answer_is_read characters.items notice.answer (grind (arith, nat_tests, few)) reads.1
notice_is_read address (body.Ads registration payload) notice formed reads = absurd reads

text_is_read : (characters : List ℕ) (reading : GroundText) → ReadsText characters reading → IsReadText reading
text_is_read characters (text.Refused fault) reads = tt
text_is_read characters (text.Afn notice) (envelope, is, reads) = notice_is_read envelope.address envelope.body notice envelope.well_formed reads
text_is_read characters (text.Ads uplink) (envelope, is, reads) = uplink_is_read envelope.address envelope.body uplink envelope.well_formed reads

-- what is asked without a number asks for a contract
asks_for_kind : (asked : Message) → AsksWithoutNumber asked → IsSome (kind_in asked)
asks_for_kind message.CancelAll asks = absurd asks
asks_for_kind (message.Cancel n) asks = absurd asks
asks_for_kind (message.CancelEmergency n) asks = absurd asks
asks_for_kind (message.Periodic n interval groups intent) asks = refl
asks_for_kind (message.Event n limits) asks = refl
asks_for_kind (message.Emergency n interval groups intent) asks = refl

-- no text cancels a demand
cancels_no_demand : (cancel : Cancel) (text : List ℕ) → IsCancelText cancel text → cancel ≢ Of Demand
cancels_no_demand (Of Demand) text is same = absurd is
cancels_no_demand (Of Periodic) text is same = cc
cancels_no_demand (Of Event) text is same = cc
cancels_no_demand (Of Emergency) text is same = cc
cancels_no_demand EmergencyMode text is same = cc
cancels_no_demand All text is same = cc

-- the addresses that a ground line lists can be links of an aircraft
listed_links : (addresses : AddressList) (reserved : Option ℕ) {fields : List (List ℕ)} → HasCount Ground (length fields) → SaysAddresses fields addresses.items reserved
    → AreLinks addresses.items reserved
listed_links addresses reserved {fields} count says =
    let size : length addresses.items ≡ length fields - 1 =
    sym (ap length says.listed) ∙ length-map (drop 1 fields) (take 7) ∙ length-drop 1 fields in
    record { some = omega (arith, size, count.0, count.1); few = omega (arith, size, count.0, count.1); listed = λ k is. inside k (subst (λ p. IsReserved fields p) is says.star) size }
  where
    inside : (k : ℕ) → IsReserved fields (Some k) → length addresses.items ≡ length fields - 1 → k < length addresses.items
    inside k star size = omega (arith, star.0, size)

says_rightly : (number : ℕ) (bytes : List ℕ) (value : ScriptLine) → ReadsLine number bytes (Says value) → SaysRightly value
says_rightly number bytes (line.T moment) reads = omega (arith, reads.0.says.says.most)
says_rightly number bytes (line.G addresses reserved) reads = listed_links addresses reserved reads.0.says.count reads.0.says.says
says_rightly number bytes (line.C address asked) reads = asks_for_kind asked reads.0.says.says.1.asks
says_rightly number bytes (line.K address cancel) reads = cancels_no_demand cancel _ reads.0.says.says.1
says_rightly number bytes (line.B address place) reads = reads.0.says.says.1.least
says_rightly number bytes (line.R address place) reads = reads.0.says.says.1.least
says_rightly number bytes value reads = tt

-- A line that was read in some way is readable so.
pub readable : (number : ℕ) (bytes : List ℕ) (reading : Reading) → ReadsLine number bytes reading → IsReadable reading
readable number bytes (Bad found value) reads = tt
readable number bytes (Says value) reads = says_rightly number bytes value reads
readable number bytes (Brings found) reads = text_is_read (drop reads.0 bytes) found reads.2

-- What follows holds on the same answer.
pub on_ok : {T E : Type 0} (result : Result T E) (P Q : Type 0) → (P → Q) → OnOk result P → OnOk result Q
on_ok (Ok value) P Q follows holds = follows holds
on_ok (Err error) P Q follows holds = tt
