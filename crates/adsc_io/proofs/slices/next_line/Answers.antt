-- The bytes up to the first newline begin the input with a line.
use Rattle.std.proofs.Common.{◌≢◌, [], arith, ap, length}
use Rattle.adsc_io.proofs.LinesLaws.{begins_at, script_lines-begins}
use Rattle.adsc_io.proofs.slices.next_line.Goals as goal

pub returns-clause-cut : goal.returns-clause-cut
returns-clause-cut c =
    let some : c.args.bytes.now ≢ [] = λ none. grind (arith, ap length none) in
    rw (c.split_at.ensures.front, c.behind_newline.ensures, c.split_at.ensures.back)
    (begins_at _ _ some c.line_length-end.ensures.within c.line_length-end.ensures.unbroken c.line_length-end.ensures.ended)

pub returns-clause-line : goal.returns-clause-line
returns-clause-line c = script_lines-begins _ _ _ (returns-clause-cut c)
