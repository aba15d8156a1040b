use Rattle.std.proofs.Common.{◌≡◌, ◌∙◌, All, List, ap, arith, length, map, rules, subst, sym}
use Rattle.std.specs.Prelude.{IsOk}
use Rattle.std.proofs.lemmas.List.{length-map}
use Rattle.std.proofs.lemmas.Result.{IfOk-weaker}
use Rattle.aircraft_core.proofs.SpareLaws.{whole_slice}
use Rattle.aircraft_core.specs.Entries.{IsTakenBy}
use Rattle.aircraft_core.specs.Setting.{Setting}
use Rattle.link_threads.specs.Passes.{IsLeftBy, IsNewPassOf, IsPassOf}
use Rattle.adsc_run.specs.Lists.{lists_in}
use Rattle.adsc_run.specs.Workers.{IsReady, entries_of, passes_in}
use Rattle.adsc_run.specs.declared.workers.Worker.{Worker}
use Rattle.adsc_run.proofs.ListLaws.{busy_are_few, some_are_busy}
use Rattle.adsc_run.proofs.WorkerLaws.{EachWorked, all_entered, are_ready, busy_have, passes_are_own}
use Rattle.adsc_run.proofs.workers.enter_at_once.Goals as goal

pub share-requires : goal.share-requires
share-requires g c =
    let busy = lists_in c.in_ok-lists.lists.items in
    let count : c.len.result ≡ length c.in_ok-lists.lists.items = search rules in
    let same : length busy ≡ length c.in_ok-lists.lists.items = length-map c.in_ok-lists.lists.items _ in
    let some = some_are_busy c.args.workers c.args.burst.items busy c.requires.any c.in_ok-lists.ensures in
    let few = busy_are_few c.args.workers c.args.burst.items busy c.in_ok-lists.ensures in
    let most = c.requires.most in (omega (arith, count, same, some), omega (arith, count, same, few, most))

pub work_all-requires-after_bounds : goal.work_all-requires-after_bounds
work_all-requires-after_bounds g c κs bounds =
    let shared = c.in_ok-shared.shared in
    let crew = c.in_ok-crew.crew.items in
    let taken = busy_have (IsTakenBy c.args.craft.setting) c.args.workers c.args.burst.items (lists_in c.in_ok-lists.lists.items) c.in_ok-lists.ensures c.requires.taken in
    subst (All (IsReady shared)) (sym c.as_mut_slice.ensures.value)
    (are_ready shared crew (subst (All (IsNewPassOf shared)) (sym c.in_ok-crew.ensures.passes) c.in_ok-shared.ensures.new)
    (subst (λ (s : Setting). All (All (IsTakenBy s)) (map entries_of crew)) (sym c.in_ok-shared.ensures.setting)
    (subst (All (All (IsTakenBy c.args.craft.setting))) (sym c.in_ok-crew.ensures.entries) taken)))

pub close-requires-clause-own : goal.close-requires-clause-own
close-requires-clause-own g c =
    let shared = c.in_ok-shared.shared in
    let crew = c.in_ok-crew.crew.items in
    let worked = c.work_all.new.crew in
    let count : length worked ≡ length crew = c.work_all.ensures.count ∙ ap length c.as_mut_slice.ensures.value in
    let whole = whole_slice worked crew c.in_ok-crew.crew.len (sym c.as_mut_slice.ensures.len ∙ ap length c.as_mut_slice.ensures.value) count in
    let same : c.in_ok-passes.passes.items ≡ passes_in worked = c.in_ok-passes.ensures.passes ∙ ap passes_in whole in
    subst (All (IsPassOf shared)) (sym same)
    (passes_are_own shared crew worked count (subst (λ (before : List Worker). EachWorked shared before worked) c.as_mut_slice.ensures.value c.work_all.ensures.worked))

pub returns : goal.returns
returns g c =
    let shared = c.in_ok-shared.shared in
    let crew = c.in_ok-crew.crew.items in
    let worked = c.work_all.new.crew in
    let count : length worked ≡ length crew = c.work_all.ensures.count ∙ ap length c.as_mut_slice.ensures.value in
    let whole = whole_slice worked crew c.in_ok-crew.crew.len (sym c.as_mut_slice.ensures.len ∙ ap length c.as_mut_slice.ensures.value) count in
    let same : c.in_ok-passes.passes.items ≡ passes_in worked = c.in_ok-passes.ensures.passes ∙ ap passes_in whole in
    let taken : All (λ (worker : Worker). IsOk worker.taken) worked =
    subst (All (λ (worker : Worker). IsOk worker.taken)) whole c.in_ok-passes.ensures.taken in
    IfOk-weaker c.close.result _ _
    (λ craft left. all_entered c.args.workers c.args.burst.items (lists_in c.in_ok-lists.lists.items) shared c.args.craft craft crew worked
    c.in_ok-lists.ensures c.in_ok-crew.ensures.entries c.in_ok-shared.ensures.setting c.in_ok-shared.ensures.start
    count
    (subst (λ (before : List Worker). EachWorked shared before worked) c.as_mut_slice.ensures.value c.work_all.ensures.worked)
    (subst (All (IsNewPassOf shared)) (sym c.in_ok-crew.ensures.passes) c.in_ok-shared.ensures.new)
    taken
    (subst (λ passes. IsLeftBy shared passes craft) same left))
    c.close.ensures
