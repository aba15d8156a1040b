-- A line has one first fault.
use Rattle.std.proofs.Common.{◌≡◌, ◌≢◌, ◌⊎◌, ◌-◌, ℕ, Result, Ok, Err, IfOk, IfErr, List, length, refl, sym, ap, ◌∙◌, subst, arith, inl, inr}
use Rattle.std.proofs.lemmas.Bool.{cases_order}
use Rattle.net_script.specs.Addresses.{IsFirstRepeat, listed_addresses}
use Rattle.net_script.specs.Bytes.{IsFirstBarred}
use Rattle.net_script.specs.Counts.{HasCount}
use Rattle.net_script.specs.Faults.{IsByteFault, IsContentFault, IsCountFault, IsFieldsFault, IsFirstLineFault, IsFirstTwice, IsFirstWrong, IsLineRefusal}
use Rattle.net_script.specs.Fields.{fields_of}
use Rattle.net_script.specs.Forms.{IsRight}
use Rattle.net_script.specs.Lines.{IsScriptLine}
use Rattle.net_script.specs.declared.letter.Letter.{Letter}
use Rattle.net_script.specs.declared.letter.Letter.TheVariants.{Uplink}
use Rattle.net_script.specs.declared.line.ScriptLine.{ScriptLine}
use Rattle.net_script.specs.declared.refusal.Code.{Code}
use Rattle.net_script.specs.declared.refusal.Code.TheVariants as code
use Rattle.net_script.specs.declared.refusal.LineRefusal.{LineRefusal}
use Rattle.net_script.specs.declared.refusal.LineRefusal.TheVariants.{Bad, NoMemory}
use Rattle.net_script.proofs.LineLaws.{letter_same, no_fault, true_is_not_false}
use Rattle.net_script.proofs.ValueLaws.{one_value}

-- ---- the first place

barred_same : (line : List ℕ) (m n : ℕ) → IsFirstBarred line m → IsFirstBarred line n → m ≡ n
barred_same line m n one other = elim (cases_order m n) [
  | inl same ↦ same
  | inr (inl below) ↦ absurd (true_is_not_false _ one.barred (other.before m below))
  | inr (inr above) ↦ absurd (true_is_not_false _ other.barred (one.before n above))
]

wrong_same : (right : List (List ℕ) → ℕ → Type 0) (fields : List (List ℕ)) (m n : ℕ) → IsFirstWrong right fields m → IsFirstWrong right fields n → m ≡ n
wrong_same right fields m n one other = elim (cases_order m n) [
  | inl same ↦ same
  | inr (inl below) ↦ absurd (one.wrong (other.before m one.some below))
  | inr (inr above) ↦ absurd (other.wrong (one.before n other.some above))
]

repeat_same : (addresses : List (List ℕ)) (m n : ℕ) → IsFirstRepeat addresses m → IsFirstRepeat addresses n → m ≡ n
repeat_same addresses m n one other = elim (cases_order m n) [
  | inl same ↦ same
  | inr (inl below) ↦ absurd (other.before m below one.again)
  | inr (inr above) ↦ absurd (one.before n above other.again)
]

twice_same : (letter : Letter) (fields : List (List ℕ)) (m n : ℕ) → IsFirstTwice letter fields m → IsFirstTwice letter fields n → m ≡ n
twice_same letter fields m n one other =
    let same = repeat_same (listed_addresses fields) (m - 1) (n - 1) one.again other.again in
    omega (arith, one.some, other.some, same)

-- ---- the first rule

-- The two faults are one.
abbrev AreOne : Code → Code → ℕ → ℕ → Type 0
AreOne a b m n = (a ≡ b) × (m ≡ n)

fields_fault_same : (letter : Letter) (fields : List (List ℕ)) (a b : Code) (m n : ℕ) → IsFieldsFault letter fields a m → IsFieldsFault letter fields b n → AreOne a b m n
fields_fault_same letter fields code.Field code.Field m n one other = (refl, wrong_same (IsRight letter) fields m n one other)
fields_fault_same letter fields code.Twice code.Twice m n one other = (refl, twice_same letter fields m n one other)
fields_fault_same letter fields code.Field code.Twice m n one other = absurd (one.wrong (other.right m one.some one.inside))
fields_fault_same letter fields code.Twice code.Field m n one other = absurd (other.wrong (one.right n other.some other.inside))
fields_fault_same letter fields code.Field b m n one other = absurd other
fields_fault_same letter fields code.Twice b m n one other = absurd other
fields_fault_same letter fields a b m n one other = absurd one

content_fault_same : (line : List ℕ) (a b : Code) (m n : ℕ) → IsContentFault line a m → IsContentFault line b n → AreOne a b m n
content_fault_same line a b m n one other =
    fields_fault_same other.letter (fields_of line) a b m n
    (subst (λ l. IsFieldsFault l (fields_of line) a m) (letter_same line _ _ one.has other.has) one.fault) other.fault

byte_no_count : (line : List ℕ) (m n : ℕ) → IsByteFault line m → IsCountFault line n → ⊥
byte_no_count line m n byte count =
    true_is_not_false _ byte.first.barred
    (count.clean (subst (λ l. l ≢ Uplink) (letter_same line _ _ byte.has count.has) byte.other) m byte.first.inside)

byte_no_content : (line : List ℕ) (b : Code) (m n : ℕ) → IsByteFault line m → IsContentFault line b n → ⊥
byte_no_content line b m n byte content =
    true_is_not_false _ byte.first.barred
    (content.clean (subst (λ l. l ≢ Uplink) (letter_same line _ _ byte.has content.has) byte.other) m byte.first.inside)

count_no_content : (line : List ℕ) (b : Code) (m n : ℕ) → IsCountFault line m → IsContentFault line b n → ⊥
count_no_content line b m n count content =
    count.wrong (subst (λ l. HasCount l (length (fields_of line))) (letter_same line _ _ content.has count.has) content.count)

pub fault_same : (line : List ℕ) (a b : Code) (m n : ℕ) → IsFirstLineFault line a m → IsFirstLineFault line b n → AreOne a b m n
fault_same line code.Kind code.Kind m n one other = (refl, one.1 ∙ sym other.1)
fault_same line code.Kind code.Byte m n one other = absurd (one.0 other.letter other.has)
fault_same line code.Kind code.Count m n one other = absurd (one.0 other.letter other.has)
fault_same line code.Kind b m n one other = absurd (one.0 other.letter other.has)
fault_same line code.Byte code.Kind m n one other = absurd (other.0 one.letter one.has)
fault_same line code.Byte code.Byte m n one other = (refl, barred_same line m n one.first other.first)
fault_same line code.Byte code.Count m n one other = absurd (byte_no_count line m n one other)
fault_same line code.Byte b m n one other = absurd (byte_no_content line b m n one other)
fault_same line code.Count code.Kind m n one other = absurd (other.0 one.letter one.has)
fault_same line code.Count code.Byte m n one other = absurd (byte_no_count line n m other one)
fault_same line code.Count code.Count m n one other = (refl, omega (arith, one.counted, other.counted))
fault_same line code.Count b m n one other = absurd (count_no_content line b m n one other)
fault_same line a code.Kind m n one other = absurd (other.0 one.letter one.has)
fault_same line a code.Byte m n one other = absurd (byte_no_content line a n m other one)
fault_same line a code.Count m n one other = absurd (count_no_content line a n m other one)
fault_same line a b m n one other = content_fault_same line a b m n one other

-- ---- what a reading answers that tells a value or a fault

-- Where the line says this.
pub reads : (line : List ℕ) (r : Result ScriptLine LineRefusal) → IfOk r (λ value. IsScriptLine value line) → IfErr r (IsLineRefusal line)
    → (value : ScriptLine) → IsScriptLine value line → (r ≡ Ok value) ⊎ (r ≡ Err NoMemory)
reads line (Ok found) ok refused value is = inl (ap (λ (v : ScriptLine). Ok v) (one_value line found value ok is))
reads line (Err NoMemory) ok refused value is = inr refl
reads line (Err (Bad fault n)) ok refused value is = absurd (no_fault value line fault n is refused)

-- Where the line has this fault.
pub tells : (line : List ℕ) (r : Result ScriptLine LineRefusal) → IfOk r (λ value. IsScriptLine value line) → IfErr r (IsLineRefusal line)
    → (fault : Code) (n : ℕ) → IsFirstLineFault line fault n → (r ≡ Err (Bad fault n)) ⊎ (r ≡ Err NoMemory)
tells line (Ok found) ok refused fault n is = absurd (no_fault found line fault n ok is)
tells line (Err NoMemory) ok refused fault n is = inr refl
tells line (Err (Bad other m)) ok refused fault n is =
    let same = fault_same line other fault m n refused is in
    inl (ap (λ c. Err (Bad c m)) same.0 ∙ ap (λ k. Err (Bad fault k)) same.1)
