use Rattle.net_script.proofs.FieldsLaws.{first-field}
use Rattle.net_script.proofs.fields.first_field.Goals as goal

pub returns : goal.returns
returns c =
    let found = c.field_length.ensures in first-field _ _ found.within found.unbroken found.ended
