use Rattle.std.proofs.Common.{ap, sym, ◌∙◌, arith}
use Rattle.adsc_io.specs.Readers.{LinesRead}
use Rattle.adsc_io.proofs.ReaderLaws.{answers_end, answers_last}
use Rattle.adsc_io.proofs.line_reader.LineReader.finish.Goals as goal

pub returns-then-self-eq0 : goal.returns-then-self-eq0
returns-then-self-eq0 c =
    answers_end c.args.self.now c.requires.held c.requires.ended (sym (ap (λ (r : LinesRead). r.begun) c.self.view_is) ∙ c.if-self-eq0.true)

pub returns : goal.returns
returns c =
    let begun = ap (λ (r : LinesRead). r.begun) c.self.view_is in
    let number = ap (λ (r : LinesRead). r.number) c.self.view_is in
    let taken = ap (λ (r : LinesRead). r.taken) c.self.view_is in
    rw (c.answer.ensures.line, c.answer.ensures.after)
    (answers_last c.args.self.now c.requires.held c.requires.ended c.requires.ready c.requires.within
    (omega (arith, begun, c.if-self-eq0.false)) (omega (arith, begun, number, c.if-self-eq0.false, c.self.invariant)) (omega (arith, taken, c.self.invariant)))
