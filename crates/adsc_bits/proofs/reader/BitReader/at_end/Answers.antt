-- The bits that are left, by the fields.
use Rattle.std.proofs.Common.{◌≡◌, ◌+◌, ◌*◌, length, arith, ap, ◌∙◌}
use Rattle.std.proofs.lemmas.Bool.Decides.{nat_tests}
use Rattle.adsc_bits.proofs.Unreads.{length_unread, none_left}
use Rattle.adsc_bits.proofs.reader.BitReader.at_end.Goals as goal

pub returns-then-self-eq0 : goal.returns-then-self-eq0
returns-then-self-eq0 c =
    c.is_empty.ensures ∙ none_left (length c.args.self.now.left) c.self.inside.pending (length c.self.inside.rest.now)
    (length_unread c.self.inside.pending c.self.inside.partial c.self.inside.rest.now c.args.self.now.left (ap (λ u. u.left) c.self.view_is)) c.if-self-eq0.true

pub returns-else-self-eq0 : goal.returns-else-self-eq0
returns-else-self-eq0 c =
    let size : length c.args.self.now.left ≡ c.self.inside.pending + 8 * length c.self.inside.rest.now =
    length_unread c.self.inside.pending c.self.inside.partial c.self.inside.rest.now c.args.self.now.left (ap (λ u. u.left) c.self.view_is) in
    grind (arith, nat_tests)
