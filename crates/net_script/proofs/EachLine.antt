-- Each line says something or has a first fault.
use Rattle.std.proofs.Common.{◌≡◌, ◌≢◌, ◌⊎◌, ◌==◌, ◌+◌, ◌-◌, ◌≤◌, ℕ, zero, suc, true, false, Option, Some, None, List, count_by, get_or, length, refl, sym, ap, ◌∙◌, subst, arith, inl, inr}
use Rattle.std.proofs.lemmas.Bool.{cases_Bool, cases_eq}
use Rattle.acars_envelope.specs.Names.{IsAddress, with_dots}
use Rattle.net_script.specs.Bytes.{AreClean, IsFirstBarred, is_barred}
use Rattle.net_script.specs.Counts.{HasCount}
use Rattle.net_script.specs.Faults.{IsFieldsFault, IsFirstLineFault, IsFirstWrong, MayHold}
use Rattle.net_script.specs.Fields.{comma, field_at, fields_of}
use Rattle.net_script.specs.Forms.{AreRightBefore, IsRight, a_cancel, a_column, a_place, a_request, a_switch, a_time, aircraft_form, an_address, behind_address}
use Rattle.net_script.specs.Letters.{HasLetter, letter_text}
use Rattle.net_script.specs.Lines.{IsAddressed, IsScriptLine, Says, SaysProfile, letter_of}
use Rattle.net_script.specs.declared.letter.Letter.{Letter}
use Rattle.net_script.specs.declared.letter.Letter.TheVariants.{Aircraft, Ground, Sample, Time, Emergency, Logon, Uplink, Request, Cancel, Bring, Receive}
use Rattle.net_script.specs.declared.limits.TheConstants.{AIRCRAFT_FIELDS, MAX_ADDRESSES, SAMPLE_FIELDS}
use Rattle.net_script.specs.declared.line.ScriptLine.{ScriptLine}
use Rattle.net_script.specs.declared.line.ScriptLine.TheVariants as line
use Rattle.net_script.specs.declared.refusal.Code.{Code}
use Rattle.net_script.specs.declared.refusal.Code.TheVariants as code
use Rattle.aircraft_core.specs.declared.who.Who.{Who}
use Rattle.due_event.specs.declared.profile.Profile.{Profile}
use Rattle.due_event.specs.declared.profile.Profile.TheVariants.{One}
use Rattle.net_script.proofs.Deciding.{AllOrFirst, IsDecided, all_or_first, decided_and, decided_as, decided_if, decided_le, decided_text}
use Rattle.net_script.proofs.EachForm.{each_form}
use Rattle.net_script.proofs.EachGround.{each_listed, list_or_twice}
use Rattle.net_script.proofs.EachSample.{some_sample}
use Rattle.net_script.proofs.FieldsLaws.{length-fields}
use Rattle.net_script.proofs.LineLaws.{letter_named, letter_named_code, some_same}

-- ---- the letter

-- The line has some letter.
abbrev IsLettered : List ℕ → Type 0
IsLettered line = (letter : Letter) × HasLetter line letter

-- A field that is a letter begins with its byte.
letter_of_text : (text : List ℕ) (letter : Letter) → text ≡ letter_text letter → letter_named (get_or text 0 0) ≡ Some letter
letter_of_text text letter is = ap (λ bytes. letter_named (get_or bytes 0 0)) is ∙ letter_named_code letter

each_letter : (line : List ℕ) → IsDecided (IsLettered line)
each_letter line = found (letter_named (get_or (field_at (fields_of line) 0) 0 0)) refl
  where
    named : (has : IsLettered line) → letter_named (get_or (field_at (fields_of line) 0) 0 0) ≡ Some has.0
    named has = letter_of_text (field_at (fields_of line) 0) has.0 has.1

    found : (named : Option Letter) → letter_named (get_or (field_at (fields_of line) 0) 0 0) ≡ named → IsDecided (IsLettered line)
    found None none = inr (λ has. let one = named has in absurd (cc))
    found (Some letter) one =
        decided_as (HasLetter line letter) (IsLettered line) (λ is. (letter, is))
        (λ has. subst (HasLetter line) (some_same has.0 letter (sym (named has) ∙ one)) has.1)
        (decided_text (field_at (fields_of line) 0) (letter_text letter))

uplink_or_other : (letter : Letter) → IsDecided (letter ≡ Uplink)
uplink_or_other Uplink = inl refl
uplink_or_other letter = inr (λ is. absurd (cc))

-- ---- the bytes

clean_or_barred : (line : List ℕ) → AreClean line ⊎ ((place : ℕ) × IsFirstBarred line place)
clean_or_barred line = elim (all_or_first (λ k. is_barred (get_or line k 0) ≡ false) decided (length line)) [
  | inl clean ↦ inl clean
  | inr first ↦ inr (first.0, record { inside = first.1; barred = barred first.0 first.2.wrong; before = first.2.before })
]
  where
    decided : (k : ℕ) → IsDecided (is_barred (get_or line k 0) ≡ false)
    decided k = elim (cases_Bool (is_barred (get_or line k 0))) [
      | inl is ↦ inr (λ clean. absurd (cc))
      | inr clean ↦ inl clean
    ]

    barred : (k : ℕ) → ¬ (is_barred (get_or line k 0) ≡ false) → is_barred (get_or line k 0) ≡ true
    barred k wrong = elim (cases_Bool (is_barred (get_or line k 0))) [
      | inl is ↦ is
      | inr clean ↦ absurd (wrong clean)
    ]

-- ---- the number of fields

each_count : (letter : Letter) (count : ℕ) → IsDecided (HasCount letter count)
each_count Aircraft count =
    decided_and (AIRCRAFT_FIELDS ≤ count) (count ≤ AIRCRAFT_FIELDS + 1) (decided_le AIRCRAFT_FIELDS count)
    (decided_le count (AIRCRAFT_FIELDS + 1))
each_count Ground count =
    decided_and (2 ≤ count) (count ≤ MAX_ADDRESSES + 1) (decided_le 2 count) (decided_le count (MAX_ADDRESSES + 1))
each_count Sample count = cases_eq count SAMPLE_FIELDS
each_count Time count = cases_eq count 2
each_count Emergency count = cases_eq count 2
each_count Logon count = cases_eq count 2
each_count Uplink count = decided_le 2 count
each_count Request count = cases_eq count 3
each_count Cancel count = cases_eq count 3
each_count Bring count = cases_eq count 3
each_count Receive count = cases_eq count 3

-- ---- the fields

each_right : (letter : Letter) (fields : List (List ℕ)) (place : ℕ) → IsDecided (IsRight letter fields place)
each_right Aircraft fields place = each_form (aircraft_form place) (field_at fields place)
each_right Ground fields place = each_listed fields place
each_right Sample fields place = each_form (a_column (place - 1)) (field_at fields place)
each_right Time fields place = each_form a_time (field_at fields place)
each_right Emergency fields place = each_form a_switch (field_at fields place)
each_right Logon fields place = each_form an_address (field_at fields place)
each_right Uplink fields place = inl tt
each_right Request fields place = each_form (behind_address a_request place) (field_at fields place)
each_right Cancel fields place = each_form (behind_address a_cancel place) (field_at fields place)
each_right Bring fields place = each_form (behind_address a_place place) (field_at fields place)
each_right Receive fields place = each_form (behind_address a_place place) (field_at fields place)

-- The field at the place is right, where it stands behind the letter.
abbrev RightBehind : Letter → List (List ℕ) → ℕ → Type 0
RightBehind letter fields place = 1 ≤ place → IsRight letter fields place

-- All fields are right, or there is a first wrong one.
right_or_wrong : (letter : Letter) (fields : List (List ℕ))
    → AreRightBefore letter fields (length fields) ⊎ ((place : ℕ) × IsFirstWrong (IsRight letter) fields place)
right_or_wrong letter fields = found (all_or_first (RightBehind letter fields) decided (length fields))
  where
    decided : (k : ℕ) → IsDecided (RightBehind letter fields k)
    decided k = decided_if (1 ≤ k) (IsRight letter fields k) (decided_le 1 k) (each_right letter fields k)

    found : AllOrFirst (RightBehind letter fields) (length fields)
        → AreRightBefore letter fields (length fields) ⊎ ((place : ℕ) × IsFirstWrong (IsRight letter) fields place)
    found (inl right) = inl (λ k some below. right k below some)
    found (inr (zero, inside, first)) = absurd (first.wrong (λ some. absurd (omega arith)))
    found (inr (suc place, inside, first)) = inr (
      suc place,
      record {
        some = omega arith;
        inside = inside;
        wrong = λ right. first.wrong (λ some. right);
        before = λ k some below. first.before k below some;
      },
    )

-- ---- what right fields say

-- The fields say something that a line of this letter says.
record IsSaid (letter : Letter) (fields : List (List ℕ)) : Type 0 where
  value : ScriptLine
  of_letter : letter_of value ≡ letter
  says : Says value fields

addressed : (fields : List (List ℕ)) → IsAddress (field_at fields 1) → IsAddressed fields (field_at fields 1)
addressed fields is = record { is_address = is; written = refl }

profile_said : (fields : List (List ℕ)) → HasCount Aircraft (length fields) → AreRightBefore Aircraft fields (length fields)
    → (profile : Profile) × SaysProfile fields profile
profile_said fields count right = elim (cases_eq (length fields) AIRCRAFT_FIELDS) [
  | inl four ↦ (One, inl (four, refl))
  | inr other ↦ let said = right 4 (omega arith) (omega (arith, count.0, other)) in (said.0, inr said.1)
]

said_aircraft : (fields : List (List ℕ)) → HasCount Aircraft (length fields) → AreRightBefore Aircraft fields (length fields)
    → IsSaid Aircraft fields
said_aircraft fields count right =
    let airframe = right 3 (omega arith) (omega (arith, count.0)) in
    let profile = profile_said fields count right in
    let who : Who = record {
      registration = with_dots (field_at fields 1);
      flight = field_at fields 2;
      airframe = airframe.0;
      profile = profile.0;
      address_size = airframe.1;
    } in
    record {
      value = line.A who;
      of_letter = refl;
      says = record {
        is_mark = right 1 (omega arith) (omega (arith, count.0));
        registration = refl;
        is_flight = right 2 (omega arith) (omega (arith, count.0));
        flight = refl;
        airframe = airframe.2;
        profile = profile.1;
      };
    }

-- What right fields of a line say that lists no addresses.
said_by : (letter : Letter) (fields : List (List ℕ)) → letter ≢ Ground → HasCount letter (length fields)
    → AreRightBefore letter fields (length fields) → IsSaid letter fields
said_by Aircraft fields other count right = said_aircraft fields count right
said_by Ground fields other count right = absurd (other refl)
said_by Sample fields other count right =
    let sample = some_sample fields count right in record { value = line.S sample.0; of_letter = refl; says = sample.1 }
said_by Time fields other count right =
    let time = right 1 (omega arith) (omega (arith, count)) in record { value = line.T time.0; of_letter = refl; says = time.1 }
said_by Emergency fields other count right = elim (right 1 (omega arith) (omega (arith, count))) [
  | inl is ↦ record { value = line.E true; of_letter = refl; says = is }
  | inr is ↦ record { value = line.E false; of_letter = refl; says = is }
]
said_by Logon fields other count right =
    let address = addressed fields (right 1 (omega arith) (omega (arith, count))) in
    record { value = line.L (field_at fields 1); of_letter = refl; says = address }
said_by Uplink fields other count right = record { value = line.U 2; of_letter = refl; says = refl }
said_by Request fields other count right =
    let asked = right 2 (omega arith) (omega (arith, count)) in
    let address = addressed fields (right 1 (omega arith) (omega (arith, count))) in
    record { value = line.C (field_at fields 1) asked.0; of_letter = refl; says = (address, asked.1) }
said_by Cancel fields other count right =
    let cancel = right 2 (omega arith) (omega (arith, count)) in
    let address = addressed fields (right 1 (omega arith) (omega (arith, count))) in
    record { value = line.K (field_at fields 1) cancel.0; of_letter = refl; says = (address, cancel.1) }
said_by Bring fields other count right =
    let place = right 2 (omega arith) (omega (arith, count)) in
    let address = addressed fields (right 1 (omega arith) (omega (arith, count))) in
    record { value = line.B (field_at fields 1) place.0; of_letter = refl; says = (address, place.1) }
said_by Receive fields other count right =
    let place = right 2 (omega arith) (omega (arith, count)) in
    let address = addressed fields (right 1 (omega arith) (omega (arith, count))) in
    record { value = line.R (field_at fields 1) place.0; of_letter = refl; says = (address, place.1) }

ground_or_other : (letter : Letter) → IsDecided (letter ≡ Ground)
ground_or_other Ground = inl refl
ground_or_other letter = inr (λ is. absurd (cc))

-- The fields say something, or have some fault.
abbrev SaidOrFault : Letter → List (List ℕ) → Type 0
SaidOrFault letter fields = IsSaid letter fields ⊎ ((found : Code) × (value : ℕ) × IsFieldsFault letter fields found value)

-- Right fields say something, or an address stands again.
said_or_twice : (letter : Letter) (fields : List (List ℕ)) → HasCount letter (length fields)
    → AreRightBefore letter fields (length fields) → SaidOrFault letter fields
said_or_twice letter fields count right = elim (ground_or_other letter) [
  | inl ground ↦ subst (λ l. AreRightBefore l fields (length fields) → SaidOrFault l fields) (sym ground) listed right
  | inr other ↦ inl (said_by letter fields other count right)
]
  where
    listed : AreRightBefore Ground fields (length fields) → SaidOrFault Ground fields
    listed right = elim (list_or_twice fields right) [
      | inl list ↦ inl (record { value = line.G list.addresses list.reserved; of_letter = refl; says = list.says })
      | inr twice ↦ inr (code.Twice, twice.0, twice.1)
    ]

said_or_fault : (letter : Letter) (fields : List (List ℕ)) → HasCount letter (length fields) → SaidOrFault letter fields
said_or_fault letter fields count = elim (right_or_wrong letter fields) [
  | inl right ↦ said_or_twice letter fields count right
  | inr wrong ↦ inr (code.Field, wrong.0, wrong.1)
]

-- ---- the line

-- The line says something.
abbrev pub SaysSomething : List ℕ → Type 0
SaysSomething line = (value : ScriptLine) × IsScriptLine value line

-- It has some first fault.
abbrev pub HasFirstFault : List ℕ → Type 0
HasFirstFault line = (found : Code) × (value : ℕ) × IsFirstLineFault line found value

content_fault : (line : List ℕ) (letter : Letter) (found : Code) (value : ℕ) → HasLetter line letter → MayHold letter line
    → HasCount letter (length (fields_of line)) → IsFieldsFault letter (fields_of line) found value → HasFirstFault line
content_fault line letter code.Field value has clean count fault =
    (code.Field, value, record { letter = letter; has = has; clean = clean; count = count; fault = fault })
content_fault line letter code.Twice value has clean count fault =
    (code.Twice, value, record { letter = letter; has = has; clean = clean; count = count; fault = fault })
content_fault line letter found value has clean count fault = absurd fault

counted : (line : List ℕ) (letter : Letter) → HasLetter line letter → MayHold letter line → HasCount letter (length (fields_of line))
    → SaysSomething line ⊎ HasFirstFault line
counted line letter has clean count = elim (said_or_fault letter (fields_of line) count) [
  | inl said ↦
      let same = sym said.of_letter in
      inl (
        said.value,
        record {
          letter = subst (HasLetter line) same has;
          count = subst (λ l. HasCount l (length (fields_of line))) same count;
          says = said.says;
        },
      )
  | inr fault ↦ inr (content_fault line letter fault.0 fault.1 has clean count fault.2)
]

held : (line : List ℕ) (letter : Letter) → HasLetter line letter → MayHold letter line → SaysSomething line ⊎ HasFirstFault line
held line letter has clean = elim (each_count letter (length (fields_of line))) [
  | inl count ↦ counted line letter has clean count
  | inr wrong ↦
      inr (
        code.Count,
        count_by (λ byte. byte == comma) line,
        record { letter = letter; has = has; clean = clean; wrong = wrong; counted = length-fields line },
      )
]

lettered : (line : List ℕ) (letter : Letter) → HasLetter line letter → SaysSomething line ⊎ HasFirstFault line
lettered line letter has = elim (uplink_or_other letter) [
  | inl uplink ↦ held line letter has (λ other. absurd (other uplink))
  | inr other ↦ elim (clean_or_barred line) [
    | inl clean ↦ held line letter has (λ is. clean)
    | inr barred ↦ inr (code.Byte, barred.0, record { letter = letter; has = has; other = other; first = barred.1 })
  ]
]

-- Each line says something or has a first fault.
pub each_line : (line : List ℕ) → SaysSomething line ⊎ HasFirstFault line
each_line line = elim (each_letter line) [
  | inl has ↦ lettered line has.0 has.1
  | inr none ↦ inr (code.Kind, 0, (λ letter has. none (letter, has), refl))
]
