use Rattle.std.proofs.Common.{None, Some, refl, sym, ◌∙◌, subst, arith}
use Rattle.std.proofs.lemmas.Result.{IfOk-weaker}
use Rattle.adsc_run.specs.Feeds.{found_in}
use Rattle.adsc_run.specs.UnderWay.{DidNext}
use Rattle.adsc_run.proofs.RunLaws.{at_next, at_next_entered, carried_on, carrying_is_a_turn, did_next_waits, entering_is_a_turn}
use Rattle.adsc_run.proofs.course.Course.fly.Goals as goal

pub loop-course-init : goal.loop-course-init
loop-course-init g c = record {
  at = λ before way.
      at_next c.args.workers before (g.S.Source.left c.args.source.now) (g.S.Source.left c.next.new.source) c.args.feed.now.lines c.next.new.self.lines
      (found_in c.next.new.self.reading c.in_ok-next.next) c.args.self way (c.in_ok-next.ensures.next before way.readings way.read) c.in_ok-next.ensures.number;
  readable = c.in_ok-next.ensures.readable;
  kept = c.in_ok-next.ensures.kept (λ e. cc);
}

pub enter_burst-requires-clause-taken : goal.enter_burst-requires-clause-taken
enter_burst-requires-clause-taken g c κs within =
    (c.loop-course.invariant.at c.requires.under_way.0 c.requires.under_way.1).stands.behind.waiting

pub loop-course-smaller-then-must_enter : goal.loop-course-smaller-then-must_enter
loop-course-smaller-then-must_enter g c =
    entering_is_a_turn c.loop-course.feed.lines (found_in c.loop-course.feed.reading c.loop-course.next) c.loop-course.course c.in-Ok.entered (c.if-must_enter.ensures.waits refl) c.in-Ok.ensures.none

pub loop-course-preserved-then-must_enter : goal.loop-course-preserved-then-must_enter
loop-course-preserved-then-must_enter g c = record {
  at = λ before way.
      at_next_entered c.args.workers before (g.S.Source.left c.loop-course.source) c.loop-course.feed.lines (found_in c.loop-course.feed.reading c.loop-course.next) c.loop-course.course c.in-Ok.entered
      (c.loop-course.invariant.at before way) c.in-Ok.ensures;
  readable = c.loop-course.invariant.readable;
  kept = c.loop-course.invariant.kept;
}

pub carry_out-requires-clause-few : goal.carry_out-requires-clause-few
carry_out-requires-clause-few g c = (c.loop-course.invariant.at c.requires.under_way.0 c.requires.under_way.1).few

pub carry_out-requires-clause-count : goal.carry_out-requires-clause-count
carry_out-requires-clause-count g c = (c.loop-course.invariant.at c.requires.under_way.0 c.requires.under_way.1).stands.behind.count

pub next-requires-in-Ok-None : goal.next-requires-in-Ok-None
next-requires-in-Ok-None g c =
    let before = c.requires.under_way.0 in
    let at = c.loop-course.invariant.at before c.requires.under_way.1 in
    let did : DidNext (found_in c.loop-course.feed.reading c.loop-course.next) c.number.result at.stands.log c.loop-course.course c.carry_out.new.self None =
    subst (DidNext (found_in c.loop-course.feed.reading c.loop-course.next) c.number.result at.stands.log c.loop-course.course c.carry_out.new.self) c.in-Ok-None.field-0-is
    (c.in-Ok-None.ensures at.stands.log at.stands.behind) in
    let way =
    carried_on c.args.workers before (g.S.Source.left c.loop-course.source) c.loop-course.feed.lines c.number.result (found_in c.loop-course.feed.reading c.loop-course.next) c.loop-course.course
    c.carry_out.new.self None at c.number.ensures.number (c.if-must_enter.ensures.ready refl) did in
    (before, way.readings, way.read)

pub loop-course-smaller : goal.loop-course-smaller
loop-course-smaller g c =
    let at = c.loop-course.invariant.at c.requires.under_way.0 c.requires.under_way.1 in
    let did : DidNext (found_in c.loop-course.feed.reading c.loop-course.next) c.number.result at.stands.log c.loop-course.course c.carry_out.new.self None =
    subst (DidNext (found_in c.loop-course.feed.reading c.loop-course.next) c.number.result at.stands.log c.loop-course.course c.carry_out.new.self) c.in-Ok-None.field-0-is
    (c.in-Ok-None.ensures at.stands.log at.stands.behind) in
    carrying_is_a_turn c.loop-course.feed.lines c.next-in-Ok-None.new.self.lines (found_in c.loop-course.feed.reading c.loop-course.next) (found_in c.next-in-Ok-None.new.self.reading c.in_ok-next-in-Ok-None.next) c.loop-course.course
    c.carry_out.new.self c.number.result at.stands.log (omega (arith, c.number.ensures.number, c.number.ensures.few)) (omega (arith, at.counted)) did
    c.in_ok-next-in-Ok-None.ensures.number

pub loop-course-preserved : goal.loop-course-preserved
loop-course-preserved g c = record {
  at = λ before under_way.
      let at = c.loop-course.invariant.at before under_way in
      let did : DidNext (found_in c.loop-course.feed.reading c.loop-course.next) c.number.result at.stands.log c.loop-course.course c.carry_out.new.self None =
      subst (DidNext (found_in c.loop-course.feed.reading c.loop-course.next) c.number.result at.stands.log c.loop-course.course c.carry_out.new.self) c.in-Ok-None.field-0-is
      (c.in-Ok-None.ensures at.stands.log at.stands.behind) in
      let way =
      carried_on c.args.workers before (g.S.Source.left c.loop-course.source) c.loop-course.feed.lines c.number.result (found_in c.loop-course.feed.reading c.loop-course.next) c.loop-course.course
      c.carry_out.new.self None at c.number.ensures.number (c.if-must_enter.ensures.ready refl) did in
      at_next c.args.workers before (g.S.Source.left c.loop-course.source) (g.S.Source.left c.next-in-Ok-None.new.source) c.loop-course.feed.lines
      c.next-in-Ok-None.new.self.lines (found_in c.next-in-Ok-None.new.self.reading c.in_ok-next-in-Ok-None.next) c.carry_out.new.self way
      (c.in_ok-next-in-Ok-None.ensures.next before way.readings way.read) c.in_ok-next-in-Ok-None.ensures.number;
  readable = c.in_ok-next-in-Ok-None.ensures.readable;
  kept = c.in_ok-next-in-Ok-None.ensures.kept (λ e. cc) ∙ c.loop-course.invariant.kept;
}

pub finish-requires-clause-taken : goal.finish-requires-clause-taken
finish-requires-clause-taken g c κs within =
    let at = c.loop-course.invariant.at c.requires.under_way.0 c.requires.under_way.1 in
    did_next_waits (found_in c.loop-course.feed.reading c.loop-course.next) c.number.result at.stands.log c.loop-course.course c.carry_out.new.self _ at.stands.behind
    (c.in-Ok-Some.ensures at.stands.log at.stands.behind)

pub returns-in-Ok-Some-clause-run : goal.returns-in-Ok-Some-clause-run
returns-in-Ok-Some-clause-run g c =
    IfOk-weaker c.finish.result _ _
    (λ outcome holds before way.
    let at = c.loop-course.invariant.at before way in
    holds before (g.S.Source.left c.loop-course.source)
    (carried_on c.args.workers before (g.S.Source.left c.loop-course.source) c.loop-course.feed.lines c.number.result (found_in c.loop-course.feed.reading c.loop-course.next) c.loop-course.course
    c.carry_out.new.self (Some c.in-Ok-Some.end) at c.number.ensures.number (c.if-must_enter.ensures.ready refl)
    (subst (DidNext (found_in c.loop-course.feed.reading c.loop-course.next) c.number.result at.stands.log c.loop-course.course c.carry_out.new.self) c.in-Ok-Some.field-0-is
    (c.in-Ok-Some.ensures at.stands.log at.stands.behind))))
    c.finish.ensures.run

pub returns-in-Ok-Some-clause-done : goal.returns-in-Ok-Some-clause-done
returns-in-Ok-Some-clause-done g c =
    let before = c.requires.under_way.0 in
    let at = c.loop-course.invariant.at before c.requires.under_way.1 in
    let ending =
    carried_on c.args.workers before (g.S.Source.left c.loop-course.source) c.loop-course.feed.lines c.number.result (found_in c.loop-course.feed.reading c.loop-course.next) c.loop-course.course
    c.carry_out.new.self (Some c.in-Ok-Some.end) at c.number.ensures.number (c.if-must_enter.ensures.ready refl)
    (subst (DidNext (found_in c.loop-course.feed.reading c.loop-course.next) c.number.result at.stands.log c.loop-course.course c.carry_out.new.self) c.in-Ok-Some.field-0-is
    (c.in-Ok-Some.ensures at.stands.log at.stands.behind)) in
    IfOk-weaker c.finish.result _ _ (λ outcome ends done. ending.done (sym ends ∙ done)) c.finish.ensures.end

pub carry_out-requires-clause-ends : goal.carry_out-requires-clause-ends
carry_out-requires-clause-ends g c = (c.loop-course.invariant.at c.requires.under_way.0 c.requires.under_way.1).stands.behind.found
