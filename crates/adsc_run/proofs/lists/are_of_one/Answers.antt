use Rattle.std.proofs.Common.{◌%◌, ◌∙◌, sym, ap}
use Rattle.std.specs.Option.{option_copied}
use Rattle.adsc_run.proofs.ListLaws.{one_worker}
use Rattle.adsc_run.proofs.lists.are_of_one.Goals as goal

pub returns-in-Some : goal.returns-in-Some
returns-in-Some c =
    one_worker c.args.workers (c.text_link.result % c.args.workers) c.in-Some.first.now c.args.burst.now c.takes_all.result
    (sym c.first.ensures.value ∙ ap option_copied c.in-Some.is) (ap (λ link. link % c.args.workers) c.text_link.ensures) c.takes_all.ensures
