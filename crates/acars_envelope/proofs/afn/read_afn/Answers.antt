use Rattle.std.proofs.Common.{arith}
use Rattle.acars_envelope.proofs.TextLaws.{afn_pieces, characters_pass}
use Rattle.acars_envelope.proofs.afn.read_afn.Goals as goal

pub returns-clause-forms : goal.returns-clause-forms
returns-clause-forms c =
    (tt, rw c.held.ensures (characters_pass c.args.text.now c.in_ok-check_text_size.ensures.size.0 c.in_ok-check_text_size.ensures.size.1 c.in_ok-check_text_characters.ensures.right))

pub returns-clause-spelled : goal.returns-clause-spelled
returns-clause-spelled c =
    let long = c.in_ok-check_text_size.ensures.size.0 in
    rw c.held.ensures (afn_pieces c.args.text.now _ (omega (arith, long)) c.requires (rw c.check_of_afn.ensures at c.in_ok-check_last_digits.ensures.right))
