use Rattle.net_script.proofs.FieldsLaws.{NoneBefore}
use Rattle.net_script.proofs.fields.field_length.Given as goal

-- No byte so far is a comma.
abbrev pub invariant-loop-place : goal.invariant-loop-place
invariant-loop-place l = NoneBefore l.text l.place
