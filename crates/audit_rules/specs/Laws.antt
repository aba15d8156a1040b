-- The laws of audits, as statements.
use Rattle.std.specs.Prelude.{◌≡◌, ℕ, List}
use Rattle.audit_rules.specs.AuditEnds.{AuditedEnd, IsAuditEnd}
use Rattle.audit_rules.specs.LogReadings.{LogReading, ReadsLogLine}

-- A line of a log has one reading at its place.
abbrev pub OneLogReading : Type 0
OneLogReading = (number : ℕ) (line : List ℕ) (one other : LogReading) → ReadsLogLine number line one → ReadsLogLine number line other → one ≡ other

-- An input has one end of an audit.
abbrev pub OneAuditEnd : Type 0
OneAuditEnd = (bytes : List ℕ) (one other : AuditedEnd) → IsAuditEnd bytes one → IsAuditEnd bytes other → one ≡ other
