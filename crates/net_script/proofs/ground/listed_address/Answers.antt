use Rattle.net_script.proofs.GroundLaws.{seven_starred_if}
use Rattle.net_script.proofs.ground.listed_address.Goals as goal

pub returns-then-is_reserved-clause-some : goal.returns-then-is_reserved-clause-some
returns-then-is_reserved-clause-some c =
    rw (← c.field_at-field.ensures)
    (seven_starred_if c.field_at-field.result.now c.starred_address.result c.starred_address.ensures.address c.starred_address.ensures.some)
