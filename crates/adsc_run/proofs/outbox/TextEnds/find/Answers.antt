use Rattle.std.proofs.Common.{◌≡◌, ◌+◌, ◌-◌, [], ◌∷◌, length, sym, ap, ◌∙◌, subst}
use Rattle.std.proofs.lemmas.List.{length-append}
use Rattle.adsc_io.specs.Lines.{script_lines}
use Rattle.adsc_run.specs.Outboxes.{AreEnds, IsRest}
use Rattle.adsc_run.proofs.OutboxLaws.{end_at_rest, end_pushed, rest_behind_text, rest_within}
use Rattle.adsc_run.proofs.outbox.TextEnds.find.Goals as goal

pub loop-preserved : goal.loop-preserved
loop-preserved c =
    let outbox = c.args.outbox.now in
    let ends = c.loop.self.ends.items in
    let behind = c.in-Some.behind.now in
    let next : IsRest outbox (length ends + 1) behind = rest_behind_text outbox c.loop.rest.now _ behind (length ends) c.loop.invariant.rest c.in-Some.ensures.line c.in-Some.ensures.cut in
    let more : length c.push.new.self.items ≡ length ends + 1 = ap length c.in_ok-push-in-Some.ensures.items ∙ length-append ends ((length outbox - length behind) ∷ []) in
    record {
      ends = subst (λ these. AreEnds these (script_lines outbox)) (sym c.in_ok-push-in-Some.ensures.items)
          (end_pushed ends (length outbox - length behind) (script_lines outbox) c.loop.invariant.ends (end_at_rest outbox behind (length ends + 1) c.requires.ended next));
      rest = subst (λ n. IsRest outbox n behind) (sym more) next;
      count = more ∙ ap (λ n. n + 1) c.loop.invariant.count;
    }

pub overflow_sub-outbox : goal.overflow_sub-outbox
overflow_sub-outbox c =
    let ends = c.loop.self.ends.items in
    rest_within c.args.outbox.now c.in-Some.behind.now (length ends + 1) c.requires.ended
    (rest_behind_text c.args.outbox.now c.loop.rest.now _ c.in-Some.behind.now (length ends) c.loop.invariant.rest c.in-Some.ensures.line c.in-Some.ensures.cut)
