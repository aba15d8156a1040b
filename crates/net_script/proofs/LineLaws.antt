-- The laws of lines and their faults.
use Rattle.std.proofs.Common.{◌≡◌, ◌≢◌, ◌==◌, ◌-◌, ◌<◌, ◌≤◌, ℕ, zero, suc, Bool, true, false, Option, Some, None, List, length, get_or, refl, sym, ap, ◌∙◌, subst, arith, inl, inr}
use Rattle.std.specs.Prelude.{if◌then◌else◌}
use Rattle.acars_envelope.specs.Names.{IsAddress}
use Rattle.aircraft_core.specs.declared.who.Who.{Who}
use Rattle.net_script.specs.Addresses.{AreDifferent, listed_addresses}
use Rattle.net_script.specs.Counts.{HasCount}
use Rattle.net_script.specs.Faults.{IsContentFault, IsFieldsFault, IsFirstLineFault}
use Rattle.net_script.specs.Fields.{field_at, fields_of}
use Rattle.net_script.specs.Forms.{AreRightBefore, HasForm, a_column}
use Rattle.net_script.specs.Letters.{HasLetter, letter_code}
use Rattle.net_script.specs.Lines.{IsScriptLine, Says, SaysWho, letter_of}
use Rattle.net_script.specs.declared.letter.Letter.{Letter}
use Rattle.net_script.specs.declared.letter.Letter.TheVariants.{Aircraft, Ground, Sample, Time, Emergency, Logon, Uplink, Request, Cancel, Bring, Receive}
use Rattle.net_script.specs.declared.line.ScriptLine.{ScriptLine}
use Rattle.net_script.specs.declared.line.ScriptLine.TheVariants as line
use Rattle.net_script.specs.declared.refusal.Code.{Code}
use Rattle.net_script.specs.declared.refusal.Code.TheVariants as code
use Rattle.net_script.proofs.CleanLaws.{clean_fields, clean_line}
use Rattle.net_script.proofs.SampleLaws.{form_of_value}

-- ---- letters

-- The letter of a byte.
pub letter_named : ℕ → Option Letter
letter_named c =
    if c == 65 then Some Aircraft else if c == 71 then Some Ground else if c == 83 then Some Sample else if c == 84 then Some Time
    else if c == 69 then Some Emergency else if c == 76 then Some Logon else if c == 85 then Some Uplink else if c == 67 then Some Request
    else if c == 75 then Some Cancel else if c == 66 then Some Bring else if c == 82 then Some Receive else None

pub letter_named_code : (letter : Letter) → letter_named (letter_code letter) ≡ Some letter
unfolding letter_named
letter_named_code Aircraft = refl
letter_named_code Ground = refl
letter_named_code Sample = refl
letter_named_code Time = refl
letter_named_code Emergency = refl
letter_named_code Logon = refl
letter_named_code Uplink = refl
letter_named_code Request = refl
letter_named_code Cancel = refl
letter_named_code Bring = refl
letter_named_code Receive = refl

-- Values that are found alike are one.
pub some_same : {X : Type 0} (a b : X) → Some a ≡ Some b → a ≡ b
some_same a b e = cc

-- A line has one letter.
pub letter_same : (bytes : List ℕ) (a b : Letter) → HasLetter bytes a → HasLetter bytes b → a ≡ b
letter_same bytes a b one other =
    let codes : letter_code a ≡ letter_code b = ap (λ text. get_or text 0 0) (sym one ∙ other) in
    some_same a b (sym (letter_named_code a) ∙ ap letter_named codes ∙ letter_named_code b)

-- ---- right lines

-- What holds of each field of a line of two, three fields.
only_1 : (P : ℕ → Type 0) (count : ℕ) → count ≡ 2 → P 1 → (k : ℕ) → 1 ≤ k → k < count → P k
only_1 P count size one zero from below = absurd (omega arith)
only_1 P count size one (suc zero) from below = one
only_1 P count size one (suc (suc k)) from below = absurd (omega arith)

only_2 : (P : ℕ → Type 0) (count : ℕ) → count ≡ 3 → P 1 → P 2 → (k : ℕ) → 1 ≤ k → k < count → P k
only_2 P count size one two zero from below = absurd (omega arith)
only_2 P count size one two (suc zero) from below = one
only_2 P count size one two (suc (suc zero)) from below = two
only_2 P count size one two (suc (suc (suc k))) from below = absurd (omega arith)

-- Each field of an `A` line is right.
aircraft_right : (who : Who) (fields : List (List ℕ)) → HasCount Aircraft (length fields) → SaysWho fields who → AreRightBefore Aircraft fields (length fields)
aircraft_right who fields count says zero from below = absurd (omega arith)
aircraft_right who fields count says (suc zero) from below = says.is_mark
aircraft_right who fields count says (suc (suc zero)) from below = says.is_flight
aircraft_right who fields count says (suc (suc (suc zero))) from below = (who.airframe, who.address_size, says.airframe)
aircraft_right who fields count says (suc (suc (suc (suc zero)))) from below =
    elim says.profile [
      | inl none ↦ absurd (omega (arith, none.0))
      | inr is ↦ (who.profile, is)
    ]
aircraft_right who fields count says (suc (suc (suc (suc (suc k))))) from below = absurd (omega (arith, count.1))

-- Each field of a line is right.
abbrev Right : ScriptLine → List (List ℕ) → Type 0
Right value fields = AreRightBefore (letter_of value) fields (length fields)

pub fields_right : (value : ScriptLine) (fields : List (List ℕ)) → HasCount (letter_of value) (length fields) → Says value fields → Right value fields
fields_right (line.A who) fields count says = aircraft_right who fields count says
fields_right (line.G addresses reserved) fields count says = says.right
fields_right (line.S sample) fields count says = columns
  where
    columns : Right (line.S sample) fields
    columns zero from below = absurd (omega arith)
    columns (suc k) from below =
        let back : suc k - 1 ≡ k = omega arith in
        let value = says.each k (omega (arith, count)) in
        subst (λ p. HasForm (a_column p) (field_at fields (suc k))) (sym back) (form_of_value fields k _ value)
fields_right (line.T time) fields count says = only_1 _ (length fields) count (time, says)
fields_right (line.E true) fields count says = only_1 _ (length fields) count (inl says)
fields_right (line.E false) fields count says = only_1 _ (length fields) count (inr says)
fields_right (line.L address) fields count says = only_1 _ (length fields) count (subst IsAddress (sym says.written) says.is_address)
fields_right (line.U from) fields count says = λ k some below. tt
fields_right (line.C address asked) fields count says = only_2 _ (length fields) count (subst IsAddress (sym says.0.written) says.0.is_address) (asked, says.1)
fields_right (line.K address cancel) fields count says = only_2 _ (length fields) count (subst IsAddress (sym says.0.written) says.0.is_address) (cancel, says.1)
fields_right (line.B address place) fields count says = only_2 _ (length fields) count (subst IsAddress (sym says.0.written) says.0.is_address) (place, says.1)
fields_right (line.R address place) fields count says = only_2 _ (length fields) count (subst IsAddress (sym says.0.written) says.0.is_address) (place, says.1)

-- The addresses of a ground line are different.
fields_different : (value : ScriptLine) (fields : List (List ℕ)) → letter_of value ≡ Ground → Says value fields → AreDifferent (listed_addresses fields)
fields_different (line.G addresses reserved) fields ground says = subst AreDifferent (sym says.listed) says.different
fields_different other fields ground says = absurd (cc)

-- ---- a line that says something has no fault

-- A test has one answer.
pub true_is_not_false : (b : Bool) → b ≡ true → b ≡ false → ⊥
true_is_not_false b one other = cc

no_fields_fault : (value : ScriptLine) (letter : Letter) (fields : List (List ℕ)) (found : Code) (n : ℕ) → letter_of value ≡ letter
    → HasCount (letter_of value) (length fields) → Says value fields → IsFieldsFault letter fields found n → ⊥
no_fields_fault value letter fields code.Field n is count says fault =
    fault.wrong (subst (λ l. AreRightBefore l fields (length fields)) is (fields_right value fields count says) n fault.some fault.inside)
no_fields_fault value letter fields code.Twice n is count says fault =
    fields_different value fields (is ∙ fault.ground) says (n - 1) fault.again.inside fault.again.again
no_fields_fault value letter fields other n is count says fault = absurd fault

no_content_fault : (value : ScriptLine) (bytes : List ℕ) (found : Code) (n : ℕ) → IsScriptLine value bytes → IsContentFault bytes found n → ⊥
no_content_fault value bytes found n is fault =
    no_fields_fault value fault.letter (fields_of bytes) found n (letter_same bytes _ _ is.letter fault.has) is.count is.says fault.fault

pub no_fault : (value : ScriptLine) (bytes : List ℕ) (found : Code) (n : ℕ) → IsScriptLine value bytes → IsFirstLineFault bytes found n → ⊥
no_fault value bytes code.Kind n is fault = fault.0 (letter_of value) is.letter
no_fault value bytes code.Byte n is fault =
    let same = letter_same bytes _ _ is.letter fault.has in
    let other : letter_of value ≢ Uplink = (λ e. fault.other (sym same ∙ e)) in
    let fields = clean_fields (letter_of value) (fields_of bytes) other is.letter (fields_right value (fields_of bytes) is.count is.says) in
    true_is_not_false _ fault.first.barred (clean_line bytes fields n fault.first.inside)
no_fault value bytes code.Count n is fault =
    fault.wrong (subst (λ l. HasCount l (length (fields_of bytes))) (letter_same bytes _ _ is.letter fault.has) is.count)
no_fault value bytes found n is fault = no_content_fault value bytes found n is fault
