use Rattle.std.proofs.Common.{◌≡◌, ◌+◌, [], ◌∷◌, length, slice_get, Some, ap, ◌∙◌, subst}
use Rattle.std.proofs.lemmas.List.{length-append}
use Rattle.adsc_run.specs.declared.outbox.TextEnds.{TextEnds}
use Rattle.adsc_run.proofs.EachItem.{pushed_each}
use Rattle.adsc_run.proofs.outbox.no_ends.Goals as goal

pub loop-preserved : goal.loop-preserved
loop-preserved c = record {
  count = ap length c.in_ok-push.ensures.items ∙ length-append c.loop.ends.items (c.new.result ∷ []) ∙ ap (λ n. n + 1) c.loop.invariant.count;
  none = λ link one there.
      pushed_each (λ place (item : TextEnds). item.ends.items ≡ []) c.loop.ends.items c.new.result c.loop.invariant.none c.new.ensures
      link one (subst (λ items. slice_get items link ≡ Some one) c.in_ok-push.ensures.items there);
}
