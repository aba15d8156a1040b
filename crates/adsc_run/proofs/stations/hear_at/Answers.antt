use Rattle.std.proofs.Common.{◌≡◌, get_or, rules, ap, ◌∙◌, Some}
use Rattle.std.proofs.lemmas.Option.{slice_get-get_or}
use Rattle.adsc_run.proofs.StationLaws.{on_ok_then}
use Rattle.adsc_run.proofs.stations.hear_at.Goals as goal

pub returns-clause-heard : goal.returns-clause-heard
returns-clause-heard c =
    let same : get_or c.args.stations.now.items c.args.link c.index_mut.result.now ≡ c.index_mut.result.now = search rules in
    on_ok_then c.hear.result c.hear.ensures.stands
    (λ heard setting log line place stood unused.
    let did = heard setting c.args.link log line place
    (stood c.args.link c.index_mut.result.now (slice_get-get_or c.args.stations.now.items c.args.link c.index_mut.result.now c.requires.link ∙ ap Some same)) unused in
    (did.0, did.1, c.hear.new.self, search rules, did.2))
