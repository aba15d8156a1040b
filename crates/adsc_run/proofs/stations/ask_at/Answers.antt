use Rattle.std.proofs.Common.{◌≡◌, get_or, rules, ap, ◌∙◌, Some}
use Rattle.std.proofs.lemmas.Option.{slice_get-get_or}
use Rattle.std.proofs.lemmas.Result.{IfOk-weaker}
use Rattle.adsc_run.proofs.stations.ask_at.Goals as goal

pub returns : goal.returns
returns c setting log stood unused =
    let same : get_or c.args.stations.now.items c.args.link c.index_mut.result.now ≡ c.index_mut.result.now = search rules in
    IfOk-weaker c.ask.result _ _ (λ end did. (c.ask.new.self, search rules, did))
    (c.ask.ensures setting c.args.link log
    (stood c.args.link c.index_mut.result.now (slice_get-get_or c.args.stations.now.items c.args.link c.index_mut.result.now c.requires.link ∙ ap Some same)) unused)
