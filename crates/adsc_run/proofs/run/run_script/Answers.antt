use Rattle.std.proofs.Common.{sym, ap, ◌∙◌, subst}
use Rattle.std.proofs.lemmas.Option.{IfSome_then}
use Rattle.std.proofs.lemmas.Result.{IfOk-weaker}
use Rattle.adsc_run.specs.UnderWay.{StopsInHead}
use Rattle.adsc_run.specs.declared.head.Stop.TheVariants.{Ended}
use Rattle.adsc_run.proofs.FeedLaws.{nothing_read}
use Rattle.adsc_run.proofs.HeadLaws.{stage_begun}
use Rattle.adsc_run.proofs.RunLaws.{started}
use Rattle.adsc_run.proofs.run.run_script.Goals as goal

pub read_head-requires : goal.read_head-requires
read_head-requires g c =
    let left = g.S.Source.left c.args.source.now in
    (left, stage_begun left left c.in-Ok.feed.lines (nothing_read left c.in-Ok.feed.lines c.in-Ok.ensures.stands c.in-Ok.ensures.fresh.0 c.in-Ok.ensures.fresh.1))

pub returns-in-Err-Ended-clause-run : goal.returns-in-Err-Ended-clause-run
returns-in-Err-Ended-clause-run g c =
    let left = g.S.Source.left c.args.source.now in
    let begun = stage_begun left left c.in-Ok.feed.lines (nothing_read left c.in-Ok.feed.lines c.in-Ok.ensures.stands c.in-Ok.ensures.fresh.0 c.in-Ok.ensures.fresh.1) in
    IfSome_then left (subst (λ stop. StopsInHead left stop) c.in-Err-Ended.field-0-is (c.in-Err-Ended.ensures.stopped left begun))
    (λ bytes ends. c.without_craft.ensures.of_bytes bytes c.args.workers ends)

pub returns-in-Err-Ended-clause-done : goal.returns-in-Err-Ended-clause-done
returns-in-Err-Ended-clause-done g c done =
    absurd (c.in-Err-Ended.ensures.undone (c.in-Err-Ended.field-0-is ∙ ap Ended (sym c.without_craft.ensures.end ∙ done)))

pub fly-requires-clause-under_way : goal.fly-requires-clause-under_way
fly-requires-clause-under_way g c κs lives =
    let left = g.S.Source.left c.args.source.now in
    let begun = stage_begun left left c.in-Ok.feed.lines (nothing_read left c.in-Ok.feed.lines c.in-Ok.ensures.stands c.in-Ok.ensures.fresh.0 c.in-Ok.ensures.fresh.1) in
    let head = c.in-Ok-read_head.ensures in (
      left,
      started c.args.workers left _ _ _ c.in-Ok-new.course c.in-Ok-new.ensures.craft (head.went left begun) head.first head.links c.in-Ok-new.ensures.burst c.in-Ok-new.ensures.stands,
    )

pub returns-clause-run : goal.returns-clause-run
returns-clause-run g c =
    let left = g.S.Source.left c.args.source.now in
    let begun = stage_begun left left c.in-Ok.feed.lines (nothing_read left c.in-Ok.feed.lines c.in-Ok.ensures.stands c.in-Ok.ensures.fresh.0 c.in-Ok.ensures.fresh.1) in
    let head = c.in-Ok-read_head.ensures in
    IfOk-weaker c.fly.result _ _
    (λ outcome holds. holds left
    (started c.args.workers left _ _ _ c.in-Ok-new.course c.in-Ok-new.ensures.craft (head.went left begun) head.first head.links c.in-Ok-new.ensures.burst c.in-Ok-new.ensures.stands))
    c.fly.ensures.run

pub returns-clause-kept : goal.returns-clause-kept
returns-clause-kept g c fine = c.fly.ensures.kept fine ∙ c.in-Ok-read_head.ensures.kept (λ e. cc)
