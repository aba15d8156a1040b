-- A line is read in one way.
use Rattle.std.proofs.Common.{◌≡◌, ◌⊎◌, ℕ, List, Option, Some, None, drop, inl, inr, refl, sym, ap, ◌∙◌, subst, arith}
use Rattle.net_script.specs.Faults.{IsFirstLineFault}
use Rattle.net_script.specs.declared.letter.Letter.{Letter}
use Rattle.net_script.specs.declared.line.ScriptLine.{ScriptLine}
use Rattle.net_script.specs.declared.line.ScriptLine.TheVariants as line
use Rattle.net_script.specs.declared.refusal.Code.{Code}
use Rattle.net_script.specs.declared.refusal.Code.TheVariants as code
use Rattle.net_script.proofs.FaultLaws.{fault_same}
use Rattle.net_script.proofs.LineLaws.{no_fault}
use Rattle.net_script.proofs.ValueLaws.{one_value}
use Rattle.run_rules.specs.Places.{IsInPlace, IsMisplaced, IsMisplacedBy, head_letter}
use Rattle.ground_texts.specs.Readings.{ReadsText}
use Rattle.ground_texts.specs.declared.ground_text.GroundText.{GroundText}
use Rattle.ground_texts.proofs.TextLaws.{one_text}
use Rattle.run_rules.specs.Readings.{BringsNoText, IsBadLine, IsGoodLine, ReadsLine}
use Rattle.run_rules.specs.declared.reading.Reading.{Reading}
use Rattle.run_rules.specs.declared.reading.Reading.TheVariants.{Bad, Says, Brings}

-- ---- bad lines

-- a line is misplaced in one way
one_place : (due : Option Letter) (bytes : List ℕ) (a b : Code) → IsMisplacedBy due bytes a → IsMisplacedBy due bytes b → a ≡ b
one_place (Some letter) bytes code.Head code.Head one other = refl
one_place None bytes code.Kind code.Kind one other = refl
one_place (Some letter) bytes code.Head b one other = absurd other
one_place None bytes code.Kind b one other = absurd other
one_place due bytes a b one other = absurd one

-- the two faults are one
abbrev AreOne : Code → Code → ℕ → ℕ → Type 0
AreOne a b m n = (a ≡ b) × (m ≡ n)

-- what a line that isn't too long is bad by
abbrev IsBadBy : ℕ → List ℕ → Code → ℕ → Type 0
IsBadBy number bytes found value = (IsMisplaced number bytes found × (value ≡ 0)) ⊎ (IsInPlace number bytes × IsFirstLineFault bytes found value)

one_cause : (number : ℕ) (bytes : List ℕ) (a b : Code) (m n : ℕ) → IsBadBy number bytes a m → IsBadBy number bytes b n → AreOne a b m n
one_cause number bytes a b m n (inl one) (inl other) = (one_place (head_letter number) bytes a b one.0 other.0, one.1 ∙ sym other.1)
one_cause number bytes a b m n (inl one) (inr other) = absurd (other.0 a one.0)
one_cause number bytes a b m n (inr one) (inl other) = absurd (one.0 b other.0)
one_cause number bytes a b m n (inr one) (inr other) = fault_same bytes a b m n one.1 other.1

one_bad : (number : ℕ) (bytes : List ℕ) (a b : Code) (m n : ℕ) → IsBadLine number bytes a m → IsBadLine number bytes b n → AreOne a b m n
one_bad number bytes code.Long code.Long m n one other = (refl, one.1 ∙ sym other.1)
one_bad number bytes code.Long b m n one other = absurd (omega (arith, one.0, other.0))
one_bad number bytes a code.Long m n one other = absurd (omega (arith, one.0, other.0))
one_bad number bytes a b m n one other = one_cause number bytes a b m n one.1 other.1

-- a line that says something isn't bad
never_bad : (number : ℕ) (bytes : List ℕ) (value : ScriptLine) (found : Code) (n : ℕ) → IsGoodLine number bytes value → IsBadLine number bytes found n → ⊥
never_bad number bytes value code.Long n good bad = omega (arith, good.fits, bad.0)
never_bad number bytes value found n good bad = elim bad.1 [
  | inl place ↦ good.placed found place.0
  | inr form ↦ no_fault value bytes found n good.says form.1
]

-- ---- lines

-- a `U` line brings a text
brings_one : (number from : ℕ) (bytes : List ℕ) (value : ScriptLine) → IsGoodLine number bytes value → BringsNoText value → IsGoodLine number bytes (line.U from) → ⊥
brings_one number from bytes value good none other = subst BringsNoText (one_value bytes value (line.U from) good.says other.says) none

same_bad : (a b : Code) (m n : ℕ) → AreOne a b m n → Bad a m ≡ Bad b n
same_bad a b m n same = ap (λ (c : Code). Bad c m) same.0 ∙ ap (λ (k : ℕ). Bad b k) same.1

-- the line of a number has one reading
pub one_reading : (number : ℕ) (bytes : List ℕ) (one other : Reading) → ReadsLine number bytes one → ReadsLine number bytes other → one ≡ other
one_reading number bytes (Bad a m) (Bad b n) one other = same_bad a b m n (one_bad number bytes a b m n one other)
one_reading number bytes (Bad a m) (Says value) one other = absurd (never_bad number bytes value a m other.0 one)
one_reading number bytes (Bad a m) (Brings reading) one other = absurd (never_bad number bytes (line.U other.0) a m other.1 one)
one_reading number bytes (Says value) (Bad b n) one other = absurd (never_bad number bytes value b n one.0 other)
one_reading number bytes (Says value) (Says found) one other = ap (λ (v : ScriptLine). Says v) (one_value bytes value found one.0.says other.0.says)
one_reading number bytes (Says value) (Brings reading) one other = absurd (brings_one number other.0 bytes value one.0 one.1 other.1)
one_reading number bytes (Brings reading) (Bad b n) one other = absurd (never_bad number bytes (line.U one.0) b n one.1 other)
one_reading number bytes (Brings reading) (Says value) one other = absurd (brings_one number one.0 bytes value other.0 other.1 one.1)
one_reading number bytes (Brings reading) (Brings found) one other =
    let same : one.0 ≡ other.0 = one.1.says.says ∙ sym other.1.says.says in
    ap (λ (t : GroundText). Brings t) (one_text (drop other.0 bytes) reading found (subst (λ from. ReadsText (drop from bytes) reading) same one.2) other.2)
