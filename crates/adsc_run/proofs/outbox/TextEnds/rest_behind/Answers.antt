use Rattle.std.proofs.Common.{◌≡◌, ◌+◌, ◌-◌, ◌<◌, ◌≤◌, length, get_or, Some, sym, ap, ◌∙◌, subst, rules}
use Rattle.std.proofs.lemmas.Option.{slice_get-get_or}
use Rattle.std.proofs.lemmas.List.{take_rest}
use Rattle.adsc_run.specs.Outboxes.{IsRest}
use Rattle.adsc_run.proofs.OutboxLaws.{end_within, rest_found, whole_rest}
use Rattle.adsc_run.proofs.outbox.TextEnds.rest_behind.Goals as goal

pub returns-then-count-eq0 : goal.returns-then-count-eq0
returns-then-count-eq0 c =
    let none : c.args.count ≡ 0 = search rules in
    subst (λ n. IsRest c.args.outbox.now n c.args.outbox.now) (sym none) (whole_rest c.args.outbox.now c.requires.ended)

pub slice_bounds-result-start : goal.slice_bounds-result-start
slice_bounds-result-start c =
    let inside : c.args.count - 1 < length c.args.self.now.ends.items = search rules in
    let same : get_or c.args.self.now.ends.items (c.args.count - 1) c.index.result.now ≡ c.index.result.now = search rules in
    end_within c.args.outbox.now (c.args.count - 1 + 1) c.index.result.now c.requires.ended
    (c.requires.ends (c.args.count - 1) c.index.result.now (slice_get-get_or c.args.self.now.ends.items (c.args.count - 1) c.index.result.now inside ∙ ap Some same))

pub slice_bounds-result-count : goal.slice_bounds-result-count
slice_bounds-result-count c = slice_bounds-result-start c

pub returns : goal.returns
returns c =
    let inside : c.args.count - 1 < length c.args.self.now.ends.items = search rules in
    let some : 1 ≤ c.args.count = search rules in
    let same : get_or c.args.self.now.ends.items (c.args.count - 1) c.index.result.now ≡ c.index.result.now = search rules in
    rw (take_rest c.args.outbox.now c.index.result.now)
    (rest_found c.args.outbox.now c.args.self.now.ends.items c.args.count c.index.result.now c.requires.ended c.requires.ends some
    (slice_get-get_or c.args.self.now.ends.items (c.args.count - 1) c.index.result.now inside ∙ ap Some same))
