use Rattle.std.proofs.Common.{◌≡◌, ◌+◌, [], ◌∷◌, length, slice_get, Some, ap, sym, ◌∙◌, subst}
use Rattle.std.proofs.lemmas.List.{length-append}
use Rattle.adsc_run.specs.Stations.{StationStands}
use Rattle.adsc_run.proofs.EachItem.{pushed_each}
use Rattle.adsc_run.proofs.course.stations_of.Goals as goal

pub loop-link-preserved : goal.loop-link-preserved
loop-link-preserved c =
    let setting = c.args.craft.now.setting in
    record {
      count = ap length c.in_ok-push.ensures.items ∙ length-append c.loop-link.stations.items (c.new.result ∷ []) ∙ ap (λ n. n + 1) c.loop-link.invariant.count;
      each = λ link station there.
          pushed_each (λ k s. StationStands setting k [] s) c.loop-link.stations.items c.new.result c.loop-link.invariant.each
          (subst (λ n. StationStands setting n [] c.new.result) (sym c.loop-link.invariant.count)
          (c.new.ensures setting c.loop-link.link c.address.ensures c.registration.ensures))
          link station (subst (λ items. slice_get items link ≡ Some station) c.in_ok-push.ensures.items there);
    }
