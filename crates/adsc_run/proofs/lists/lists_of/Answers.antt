use Rattle.std.proofs.Common.{◌%◌, ◌++◌, [], ◌∷◌, ◌∙◌, ap, get_or, slice_set, subst, sym}
use Rattle.run_rules.specs.EarlierLines.{AreWorkersLists}
use Rattle.adsc_run.specs.Lists.{lists_in}
use Rattle.adsc_run.proofs.ListLaws.{dealt}
use Rattle.adsc_run.proofs.lists.lists_of.Goals as goal

pub loop-entry-preserved : goal.loop-entry-preserved
loop-entry-preserved c =
    let lists = lists_in c.loop-entry.lists.items in (
      tt,
      tt,
      subst (AreWorkersLists c.args.workers (c.loop-entry.yielded ++ c.in-Some.entry ∷ []))
          (sym (c.in_ok-give.ensures ∙ ap (λ link. slice_set lists (link % c.args.workers) (get_or lists (link % c.args.workers) [] ++ c.in-Some.entry ∷ [])) c.text_link.ensures))
          (dealt c.args.workers c.loop-entry.yielded lists c.in-Some.entry c.loop-entry.invariant.2),
    )
