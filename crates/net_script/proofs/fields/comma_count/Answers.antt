use Rattle.std.proofs.Common.{◌+◌, ap, sym, ◌∙◌}
use Rattle.net_script.proofs.FieldsLaws.{length-fields}
use Rattle.net_script.proofs.fields.comma_count.Goals as goal

pub returns-clause-fields : goal.returns-clause-fields
returns-clause-fields c = length-fields _ ∙ ap (λ n. n + 1) (sym c.count_commas.ensures.commas ∙ sym c.from.ensures)
