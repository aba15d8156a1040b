use Rattle.std.proofs.Common.{sym, take, drop, arith}
use Rattle.std.proofs.lemmas.List.{length-drop, length-take-le, take-append-drop}
use Rattle.adsc_io.proofs.ReaderLaws.{answers_ended, answers_limit, within_both}
use Rattle.adsc_io.proofs.line_reader.LineReader.end_line.Goals as goal

pub returns-then-is_over : goal.returns-then-is_over
returns-then-is_over c =
    let reader = c.args.self.now in
    let count = c.args.count in
    rw (c.meet_limit.ensures.line, c.meet_limit.ensures.after)
    (answers_limit reader (take count reader.held) (drop count reader.held) count 1 (sym (take-append-drop count reader.held)) c.requires.unbroken
    (omega (arith, c.requires.ended)) (omega (arith, c.requires.ended, length-take-le count reader.held)) (omega (arith, c.requires.ended, length-drop count reader.held))
    (c.is_over.ensures.0 c.if-is_over.true))

pub returns : goal.returns
returns c =
    let within = within_both c.is_over.result c.args.self.now c.args.count 1 c.if-is_over.false c.is_over.ensures.1 in
    rw (c.answer.ensures.line, c.answer.ensures.after, c.skip_newline.ensures, c.keep.ensures.after)
    (answers_ended c.args.self.now c.keep.new.self.text c.args.count c.requires.ended c.requires.unbroken c.requires.newline c.requires.ready c.requires.within
    within.0 (omega (arith, within.1)) c.keep.ensures.text)
