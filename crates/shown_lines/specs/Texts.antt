-- How the meaning of a line is shown: the lines of text that spell its values. Their forms are this project's profile;
-- numbers are decimal, hexadecimal digits have capital letters, and each line ends with a newline.
use Rattle.std.specs.Prelude.{ℕ, ◌+◌, nat_le, ◌==◌, ◌&&◌, ◌||◌, if◌then◌else◌, pos, unsigned_abs, List, [], ◌∷◌, ◌++◌, codes, flat_map, map, slice_index_or}
use Rattle.adsc_io.specs.Lines.{ended}
use Rattle.adsc_io.specs.declared.limits.TheConstants.{MAX_LINE_BYTES}
use Rattle.acars_envelope.specs.Texts.{six_digits}
use Rattle.adsc_groups.specs.Basic.{basic_values}
use Rattle.adsc_groups.specs.Groups.{GroupData}
use Rattle.contract_rules.specs.Reasons.{names_octet}
use Rattle.adsc_downlink.specs.Items.{ReportData, ItemData}
use Rattle.adsc_downlink.specs.Items.ItemData.{ack, nack, noncompliance, emergency_off, report}
use Rattle.adsc_downlink.specs.declared.refusal.DownWhy.{DownWhy}
use Rattle.adsc_downlink.specs.declared.refusal.DownWhy.TheVariants as payload
use Rattle.shown_lines.specs.declared.direction.Direction.{Direction}
use Rattle.shown_lines.specs.declared.direction.Direction.TheVariants.{Up, Down}
use Rattle.shown_lines.specs.declared.refusal.TextRefusal.{TextRefusal}
use Rattle.shown_lines.specs.declared.refusal.TextRefusal.TheVariants as refusal
use Rattle.output_fields.specs.Faults.{envelope_fault_fields, request_fault_fields}
use Rattle.output_fields.specs.Fields.{comma, number_field}
use Rattle.shown_lines.specs.Fields.{value_fields}
use Rattle.shown_lines.specs.LogonTexts.{answer_lines, contact_lines}
use Rattle.shown_lines.specs.UplinkTexts.{message_text}
use Rattle.shown_lines.specs.Meanings.{Meaning, letter_of}
use Rattle.shown_lines.specs.Meanings.Meaning.{uplink, answer, downlink, contact, refused}

-- ---- groups

-- A character of a flight identification: `A` to `Z` are 1 to 26, a space is 32, `0` to `9` are 48 to 57; a code without a
-- character is shown as `?` (RTCA DO-258A / EUROCAE ED-100A; the question mark is this project's profile).
abbrev pub flight_character : ℕ → ℕ
flight_character code =
    if nat_le 1 code && nat_le code 26 then code + 64 else if code == 32 || (nat_le 48 code && nat_le code 57) then code else 63

-- The values of a group: eight characters for a flight identification, six digits for an airframe's address, else its
-- numbers in the order of its fields.
abbrev pub group_values : GroupData → List ℕ
group_values group =
    if group.tag == 12 then comma ∷ map (λ code. flight_character (unsigned_abs code)) group.values
    else if group.tag == 17 then comma ∷ six_digits (unsigned_abs (slice_index_or group.values 0 (pos 0)))
    else value_fields group.values

-- The line of a group: its tag and its values.
unfoldable pub group_text : GroupData → List ℕ
group_text group = ended (codes "group" ++ number_field group.tag ++ group_values group)

-- ---- items

-- The line of a report, and those of its groups.
unfoldable pub report_text : ReportData → List ℕ
report_text one = ended (codes "report" ++ number_field one.tag ++ value_fields (basic_values one.basic)) ++ flat_map group_text one.groups

-- Behind the reason of a negative acknowledgement the place of the faulty octet, where the reason has one.
abbrev pub place_field : ℕ → ℕ → List ℕ
place_field reason place = if names_octet reason then number_field place else []

-- The lines of an item.
unfoldable pub item_text : ItemData → List ℕ
item_text (ack n) = ended (codes "ack" ++ number_field n)
item_text (nack n reason place) = ended (codes "nack" ++ number_field n ++ number_field reason ++ place_field reason place)
item_text (noncompliance n) = ended (codes "noncompliance" ++ number_field n)
item_text (emergency_off n) = ended (codes "emergency-off" ++ number_field n)
item_text (report one) = report_text one

-- ---- refusals

-- The code of a fault of a downlink's payload.
abbrev pub payload_code : DownWhy → List ℕ
payload_code payload.Short = codes "BITS-SHORT"
payload_code payload.Tag = codes "BITS-TAG"
payload_code payload.Value = codes "BITS-VALUE"
payload_code payload.Many = codes "BITS-MANY"

-- The code of a refusal and what stands behind it.
abbrev pub refusal_fields : TextRefusal → List ℕ
refusal_fields refusal.Long = codes "LONG" ++ number_field MAX_LINE_BYTES
refusal_fields refusal.Form = codes "FORM,0"
refusal_fields (refusal.Envelope fault) = envelope_fault_fields fault
refusal_fields (refusal.Request fault) = request_fault_fields fault
refusal_fields (refusal.Payload fault) = payload_code fault.why ++ number_field fault.bit
refusal_fields (refusal.Characters place) = codes "TEXT" ++ number_field place

-- ---- lines

-- The line of a refusal, with the number of the line that is refused.
unfoldable pub refusal_text : ℕ → TextRefusal → List ℕ
refusal_text number fault = ended (codes "line" ++ number_field number ++ codes ",refused," ++ refusal_fields fault)

-- What the line of a text begins with: its number, which way the text goes, and the ground facility.
abbrev pub text_fields : ℕ → Direction → List ℕ → List ℕ
text_fields number direction address = codes "line" ++ number_field number ++ codes "," ++ letter_of direction ++ codes "," ++ address

-- The line of an ADS text, with the aircraft.
abbrev pub ads_head_text : ℕ → Direction → List ℕ → List ℕ → List ℕ
ads_head_text number direction address registration = ended (text_fields number direction address ++ codes ",ADS," ++ registration)

-- The line of an AFN text.
abbrev pub afn_head_text : ℕ → Direction → List ℕ → List ℕ
afn_head_text number direction address = ended (text_fields number direction address ++ codes ",AFN")

-- What is shown for the line of this number and meaning.
unfoldable pub line_text : ℕ → Meaning → List ℕ
line_text number (uplink address registration asked) = ads_head_text number Up address registration ++ flat_map message_text asked.messages.items
line_text number (answer address said) = afn_head_text number Up address ++ answer_lines said
line_text number (downlink address registration items) = ads_head_text number Down address registration ++ flat_map item_text items
line_text number (contact address said) = afn_head_text number Down address ++ contact_lines said
line_text number (refused fault) = refusal_text number fault

-- What is shown for the lines of these meanings, of which the first has this number.
abbrev pub lines_text : ℕ → List Meaning → List ℕ
lines_text number [] = []
lines_text number (meaning ∷ meanings) = line_text number meaning ++ lines_text (number + 1) meanings

-- The line that ends the text where the input was read to its end: how many lines it had, and how many of them are refused.
unfoldable pub end_text : ℕ → ℕ → List ℕ
end_text lines refusals = ended (codes "end" ++ number_field lines ++ number_field refusals)
