-- The limits of a script, which are this project's profile: the constants of the code.
use Rattle.std.specs.Prelude.{ℕ}
use Rattle.adsc_io.specs.declared.limits.TheConstants.{MAX_LINE_BYTES}

-- The most bytes that a line may have without its newline.
abbrev pub max_line_bytes : ℕ
max_line_bytes = MAX_LINE_BYTES
