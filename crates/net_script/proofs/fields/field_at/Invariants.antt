use Rattle.std.proofs.Common.{◌≡◌}
use Rattle.net_script.specs.Fields.{field_at, fields_of}
use Rattle.net_script.proofs.fields.field_at.Given as goal

abbrev pub invariant-loop-left : goal.invariant-loop-left
invariant-loop-left l = field_at (fields_of l.rest) l.left ≡ field_at (fields_of l.line) l.place

abbrev pub decreases-loop-left : goal.decreases-loop-left
decreases-loop-left l = l.left
