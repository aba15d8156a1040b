use Rattle.std.proofs.Common.{◌≡◌, get_or, rules, ap, ◌∙◌, Some}
use Rattle.std.proofs.lemmas.Option.{slice_get-get_or}
use Rattle.adsc_run.proofs.StationLaws.{on_ok_then}
use Rattle.adsc_run.proofs.outbox.downlink_at.Goals as goal

pub text_at-requires-clause-ends : goal.text_at-requires-clause-ends
text_at-requires-clause-ends c =
    let same : get_or c.args.ends.now.items c.args.link c.index_mut.result.now ≡ c.index_mut.result.now = search rules in
    c.requires.ends c.index_mut.result.now (slice_get-get_or c.args.ends.now.items c.args.link c.index_mut.result.now c.requires.link ∙ ap Some same)

pub returns-clause-ends : goal.returns-clause-ends
returns-clause-ends c = on_ok_then c.text_at.result c.text_at.ensures.ends (λ are. (c.text_at.new.self, search rules, are))
