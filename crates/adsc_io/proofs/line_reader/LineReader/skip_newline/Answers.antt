use Rattle.std.proofs.Common.{◌-◌, ap, arith, length, drop}
use Rattle.std.proofs.lemmas.List.{length-take}
use Rattle.adsc_io.specs.Readers.{LinesRead}
use Rattle.adsc_io.proofs.ReaderLaws.{held_behind, same_held}
use Rattle.adsc_io.proofs.line_reader.LineReader.skip_newline.Goals as goal

pub returns : goal.returns
returns c =
    let held = ap (λ (r : LinesRead). length r.held) c.self.view_is in
    rw (← c.self.view_is)
    (same_held _ _ _ _ _ _ _ _ (held_behind c.self.inside.at c.self.inside.end 1 c.self.inside.piece.items
    (omega (arith, c.requires.held, held, length-take (c.self.inside.end - c.self.inside.at) (drop c.self.inside.at c.self.inside.piece.items), c.self.invariant))))
