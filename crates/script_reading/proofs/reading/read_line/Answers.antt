use Rattle.script_reading.proofs.ReadableLaws.{on_ok, readable}
use Rattle.script_reading.proofs.reading.read_line.Goals as goal

pub returns-clause-readable : goal.returns-clause-readable
returns-clause-readable c =
    on_ok c.read_placed.result _ _ (readable c.args.number c.args.line.now c.read_placed.new.reading)
    (c.read_placed.ensures.reads c.args.number c.in_default.ensures.none)
