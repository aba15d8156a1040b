use Rattle.std.proofs.Common.{sym, [], arith, append-nil}
use Rattle.adsc_io.proofs.ReaderLaws.{answers_limit, goes_on, within_both}
use Rattle.adsc_io.proofs.line_reader.LineReader.keep_all.Goals as goal

pub returns-then-is_over-clause-some : goal.returns-then-is_over-clause-some
returns-then-is_over-clause-some c =
    let reader = c.args.self.now in
    rw (c.meet_limit.ensures.line, c.meet_limit.ensures.after)
    (answers_limit reader reader.held [] c.args.count 0 (sym (append-nil reader.held)) c.requires.unbroken
    (omega (arith, c.requires.all, c.requires.some)) (omega (arith, c.requires.all)) (omega arith) (c.is_over.ensures.0 c.if-is_over.true))

pub returns-clause-none : goal.returns-clause-none
returns-clause-none c =
    let within = within_both c.is_over.result c.args.self.now c.args.count 0 c.if-is_over.false c.is_over.ensures.1 in
    rw c.keep.ensures.after
    (goes_on c.args.self.now c.keep.new.self.text c.args.count c.requires.all c.requires.unbroken c.requires.ready c.requires.some (omega (arith, within.1)) c.keep.ensures.text)
