use Rattle.std.proofs.Common.{◌≡◌, ◌++◌, flat_map, take}
use Rattle.generated_scripts.specs.Texts.{column_field}
use Rattle.generated_scripts.proofs.writing.append_columns.Given as goal

-- what was appended so far are the columns so far
abbrev pub invariant-loop-column : goal.invariant-loop-column
invariant-loop-column l = l.out.items ≡ l.fn.out.items ++ flat_map column_field (take l.column-index l.columns)
