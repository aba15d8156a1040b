-- A generated script is read as what was drawn.
use Rattle.std.proofs.Common.{◌≡◌, ℕ, zero, suc, ◌+◌, ◌-◌, ◌*◌, ◌≤◌, Bool, true, false, IsTrue, List, [], ◌∷◌, ◌++◌, All, length, map, None, refl, ◌∙◌, ap, subst, arith, length-append}
use Rattle.std.specs.List.{AllByRecursion}
use Rattle.std.proofs.lemmas.List.{length-map, take_all}
use Rattle.std.proofs.lemmas.List.Elements.{All-cons, All-nil}
use Rattle.adsc_io.specs.Inputs.{IsOverLimit, lines_before_limit}
use Rattle.adsc_io.specs.Lines.{IsUnbroken, ended_lines, newline, script_lines}
use Rattle.adsc_io.proofs.LimitLaws.{before_short, over_is_many}
use Rattle.adsc_io.proofs.LinesLaws.{script_lines-ended}
use Rattle.run_rules.specs.Runs.{ReadsLines}
use Rattle.net_script.specs.declared.line.ScriptLine.TheVariants as line
use Rattle.run_rules.specs.declared.reading.Reading.{Reading}
use Rattle.run_rules.specs.declared.reading.Reading.TheVariants.{Says}
use Rattle.run_rules.proofs.OneReading.{one_reading}
use Rattle.generated_scripts.specs.Generator.{Making, lines_drawn, made_lines, made_script}
use Rattle.generated_scripts.specs.Heads.{BeginsWithHead, zero_sample}
use Rattle.generated_scripts.specs.Laws.{AreReadAs, IsReadAs, ScriptsAreReadAsDrawn}
use Rattle.generated_scripts.specs.Limits.{IsWithin}
use Rattle.generated_scripts.specs.Texts.{head_lines, line_text, made_addresses}
use Rattle.generated_scripts.specs.declared.line.MadeLine.{MadeLine}
use Rattle.generated_scripts.proofs.HeadLines.{ground_line, ground_read, head_unbroken, made_who, sample_line, sample_read, who_line, who_read, zeros_within}
use Rattle.generated_scripts.proofs.MadeLines.{lines_within, made_read}
use Rattle.generated_scripts.proofs.ReadLines.{sample_of}

-- ---- bytes

-- Lines within their limits are short and unbroken.
lines_unbroken : (lines : List MadeLine) → AllByRecursion IsWithin lines → All IsUnbroken (map line_text lines)
lines_unbroken [] all = All-nil IsUnbroken
lines_unbroken (drawn ∷ lines) all =
    All-cons IsUnbroken (line_text drawn) (map line_text lines) (made_read 4 drawn (omega arith) all.0).unbroken (lines_unbroken lines all.1)

lines_short : (lines : List MadeLine) → AllByRecursion IsWithin lines → length (ended_lines (map line_text lines)) ≤ 321 * length lines
lines_short [] all = omega arith
lines_short (drawn ∷ lines) all =
    omega (
      arith,
      (made_read 4 drawn (omega arith) all.0).short,
      lines_short lines all.1,
      length-append (line_text drawn) (newline ∷ ended_lines (map line_text lines)),
    )

count_drawn : (count : ℕ) (at : Making) → length (lines_drawn count at) ≡ count
count_drawn zero at = refl
count_drawn (suc count) at = ap suc (count_drawn count _)

pub made_count : (number lines : ℕ) → length (made_lines number lines) ≡ lines - 3
made_count number lines = count_drawn (lines - 3) (record { state = number; clock = 0 })

-- ---- the lines of a script

made_script_lines : (number lines : ℕ) → lines ≤ 200000 → script_lines (made_script number lines) ≡ head_lines ++ map line_text (made_lines number lines)
made_script_lines number lines few =
    let unbroken = head_unbroken in
    let rest = map line_text (made_lines number lines) in
    script_lines-ended (head_lines ++ map line_text (made_lines number lines))
    (All-cons IsUnbroken who_line (ground_line ∷ sample_line ∷ rest) unbroken.0 (All-cons IsUnbroken ground_line (sample_line ∷ rest) unbroken.1
    (All-cons IsUnbroken sample_line rest unbroken.2 (lines_unbroken (made_lines number lines) (lines_within number lines few)))))

made_short : (number lines : ℕ) → lines ≤ 200000 → length (made_script number lines) ≤ 67108864
made_short number lines few =
    let head : length (made_script number lines) ≡ 117 + length (ended_lines (map line_text (made_lines number lines))) = omega arith in
    omega (arith, head, few, lines_short (made_lines number lines) (lines_within number lines few), made_count number lines)

made_line_count : (number lines : ℕ) → 3 ≤ lines → lines ≤ 200000 → length (script_lines (made_script number lines)) ≡ lines
made_line_count number lines some few =
    ap length (made_script_lines number lines few)
    ∙ omega (arith, some, made_count number lines, length-map (made_lines number lines) line_text)

-- All lines of a script stand before the limit.
made_before : (number lines : ℕ) → 3 ≤ lines → lines ≤ 200000
    → lines_before_limit (made_script number lines) ≡ head_lines ++ map line_text (made_lines number lines)
made_before number lines some few =
    before_short (made_script number lines) (made_short number lines few)
    ∙ take_all 200000 (script_lines (made_script number lines)) (omega (arith, few, made_line_count number lines some few))
    ∙ made_script_lines number lines few

made_not_over : (number lines : ℕ) → 3 ≤ lines → lines ≤ 200000 → IsOverLimit (made_script number lines) → ⊥
made_not_over number lines some few over =
    omega (arith, few, over_is_many (made_script number lines) (made_short number lines few) over, made_line_count number lines some few)

-- ---- readings

read_as : (place : ℕ) (lines : List MadeLine) (readings : List Reading) → 4 ≤ place → AllByRecursion IsWithin lines
    → ReadsLines place (map line_text lines) readings → AreReadAs lines readings
read_as place [] readings behind all reads = reads
read_as place (drawn ∷ lines) [] behind all reads = absurd reads
read_as place (drawn ∷ lines) (reading ∷ readings) behind all reads =
    let is = made_read place drawn behind all.0 in (
      subst (IsReadAs drawn) (one_reading place (line_text drawn) is.reading reading is.reads reads.0) is.says,
      read_as (place + 1) lines readings (omega (arith, behind)) all.1 reads.1,
    )

head_as : (rest : List (List ℕ)) (readings : List Reading) → ReadsLines 1 (head_lines ++ rest) readings
    → (behind : List Reading) × BeginsWithHead readings behind × ReadsLines 4 rest behind
head_as rest [] reads = absurd reads
head_as rest (first ∷ []) reads = absurd reads.1
head_as rest (first ∷ second ∷ []) reads = absurd reads.1.1
head_as rest (first ∷ second ∷ third ∷ readings) reads = (
  readings,
  record {
    who = made_who;
    sample = sample_of zero_sample zeros_within;
    is_who = record { registration = refl; flight = refl; airframe = refl; profile = refl };
    zeros = refl;
    joined = λ i.
        one_reading 1 who_line first (Says (line.A made_who)) reads.0 who_read i
        ∷ one_reading 2 ground_line second (Says (line.G (record { items = made_addresses }) None)) reads.1.0 ground_read i
        ∷ one_reading 3 sample_line third (Says (line.S (sample_of zero_sample zeros_within))) reads.1.1.0 sample_read i ∷ readings;
  },
  reads.1.1.1,
)

not_over : (over : Bool) → (IsTrue over → ⊥) → over ≡ false
not_over true never = absurd (never refl)
not_over false never = refl

-- The script of a number is read as what was drawn.
pub script_read : ScriptsAreReadAsDrawn
script_read number lines script some few is =
    let head = head_as (map line_text (made_lines number lines)) script.readings (subst (λ ls. ReadsLines 1 ls script.readings) (made_before number lines some few) is.lines) in
    record {
      within = not_over script.over (λ over. made_not_over number lines some few (is.limit.0 over));
      behind = head.0;
      head = head.1;
      drawn = read_as 4 (made_lines number lines) head.0 (omega arith) (lines_within number lines few) head.2;
    }
