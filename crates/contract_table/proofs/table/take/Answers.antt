use Rattle.contract_table.proofs.SeenLemmas.{flown_written}
use Rattle.contract_table.proofs.table.take.Goals as goal

pub returns-in-Moved-clause-next : goal.returns-in-Moved-clause-next
returns-in-Moved-clause-next c = λ links.
    flown_written links c.args.time c.args.configuration.now c.args.crew c.args.act.now c.args.connections.now c.as_mut_slice.result.now c.fly_all.new.connections
    c.in-Moved.is c.as_mut_slice.ensures.value c.fly_all.ensures.next
