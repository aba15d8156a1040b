-- Each clause follows from what the reading gives.
use Rattle.adsc_groups.specs.Basic.{basic_fields}
use Rattle.adsc_groups.specs.BasicView.{values_of}
use Rattle.adsc_groups.proofs.BasicLaws.{basic_wide, same_short}
use Rattle.adsc_groups.proofs.FieldsRead.{read_exactly, read_short}
use Rattle.adsc_groups.proofs.SameValues.{same_values}
use Rattle.adsc_groups.proofs.basic.coding.decode_basic.Goals as goal

pub returns-clause-read : goal.returns-clause-read
returns-clause-read c =
    read_exactly values_of (λ e. e.bit) basic_fields basic_wide c.args.from.now c.basic_from.new.from same_values c.basic_from.result c.basic_from.ensures.gives

pub returns-clause-short : goal.returns-clause-short
returns-clause-short c =
    read_short values_of (λ e. e.bit) basic_fields basic_wide c.args.from.now c.basic_from.new.from same_short c.basic_from.result c.basic_from.ensures.gives
