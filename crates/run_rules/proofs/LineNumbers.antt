-- An allowed order names lines of the script, and a script has few lines before the limit.
use Rattle.std.proofs.Common.{◌≡◌, ◌≤◌, ◌+◌, ℕ, Bool, true, false, if◌then◌else◌, List, [], ◌∷◌, length, refl, ap, arith}
use Rattle.adsc_io.specs.Inputs.{is_within_limits, lines_before_limit, lines_within}
use Rattle.adsc_io.specs.Lines.{script_lines}
use Rattle.adsc_io.specs.declared.limits.TheConstants.{MAX_SCRIPT_LINES}
use Rattle.adsc_io.proofs.LimitLaws.{within_parts}
use Rattle.run_rules.specs.Laws.{OrdersNameLines}
use Rattle.run_rules.specs.Runs.{ReadsLines}
use Rattle.run_rules.specs.declared.reading.Reading.{Reading}
use Rattle.run_rules.proofs.AllowedOrders.{has_aircraft}
use Rattle.run_rules.proofs.HeardLines.{log_fits}

-- Each line has one reading.
as_many_readings : (number : ℕ) (lines : List (List ℕ)) (readings : List Reading) → ReadsLines number lines readings → length readings ≡ length lines
as_many_readings number [] readings reads = ap (λ (rs : List Reading). length rs) reads
as_many_readings number (line ∷ lines) [] reads = absurd reads
as_many_readings number (line ∷ lines) (reading ∷ readings) reads =
    let rest = as_many_readings (number + 1) lines readings reads.1 in omega (arith, rest)

few_within : (bytes : List ℕ) (number : ℕ) (lines : List (List ℕ)) → number ≤ MAX_SCRIPT_LINES + 1
    → length (lines_within bytes number lines) + number ≤ MAX_SCRIPT_LINES + 1
few_within bytes number [] small = omega (arith, small)
few_within bytes number (line ∷ lines) small = at (is_within_limits bytes number) refl (few_within bytes (number + 1) lines)
  where
    at : (within : Bool) → is_within_limits bytes number ≡ within
        → (number + 1 ≤ MAX_SCRIPT_LINES + 1 → length (lines_within bytes (number + 1) lines) + (number + 1) ≤ MAX_SCRIPT_LINES + 1)
        → length (if within then line ∷ lines_within bytes (number + 1) lines else []) + number ≤ MAX_SCRIPT_LINES + 1
    at true within rest =
        let upto : number ≤ MAX_SCRIPT_LINES = (within_parts bytes number within).0 in
        let more = rest (omega (arith, upto)) in omega (arith, more)
    at false beyond rest = omega (arith, small)

-- So many lines stand before the limit at most.
pub few_lines : (bytes : List ℕ) → length (lines_before_limit bytes) ≤ MAX_SCRIPT_LINES
few_lines bytes = let few = few_within bytes 1 (script_lines bytes) (omega arith) in omega (arith, few)

pub orders_name_lines : OrdersNameLines
orders_name_lines bytes order taking number among =
    let its = taking.allowed.lines.only number among in
    let flies = has_aircraft taking.script order taking.run taking.runs its.0 its.1 in
    let fits = (log_fits taking.script order taking.run flies.0 taking.runs flies.1).1.each its.0 its.1 in
    (omega (arith, fits.from, its.2), omega (arith, fits.upto, its.2, as_many_readings 1 (lines_before_limit bytes) taking.script.readings taking.is_script.lines))
