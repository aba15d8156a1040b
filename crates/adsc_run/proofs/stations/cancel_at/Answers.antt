use Rattle.std.proofs.Common.{◌≡◌, get_or, rules, ap, ◌∙◌, Some}
use Rattle.std.proofs.lemmas.Option.{slice_get-get_or}
use Rattle.std.proofs.lemmas.Result.{IfOk-weaker}
use Rattle.adsc_run.proofs.stations.cancel_at.Goals as goal

pub returns : goal.returns
returns c setting log stood unused =
    let same : get_or c.args.stations.now.items c.args.link c.index_mut.result.now ≡ c.index_mut.result.now = search rules in
    IfOk-weaker c.cancel.result _ _ (λ end did. (c.cancel.new.self, search rules, did))
    (c.cancel.ensures setting c.args.link log
    (stood c.args.link c.index_mut.result.now (slice_get-get_or c.args.stations.now.items c.args.link c.index_mut.result.now c.requires.link ∙ ap Some same)) unused)
