-- Each step of the loop gathers an octet; what the field doesn't need stays pending.
use Rattle.std.proofs.Common.{◌≡◌, ◌-◌, ◌^◌, ◌<◌, arith, rules, ◌∙◌, ap, ◌++◌, length, sym}
use Rattle.bit_terms.specs.Bits.{unsigned_bits}
use Rattle.bit_terms.specs.Octets.{octets_bits}
use Rattle.adsc_bits.proofs.Unreads.{length_unread, unread_joined, unread_taken, unread_short, field_below}
use Rattle.adsc_bits.proofs.Written.{joined_below, rest_below}
use Rattle.adsc_bits.proofs.reader.BitReader.field.Goals as goal

pub returns-in_default-clause-gives : goal.returns-in_default-clause-gives
returns-in_default-clause-gives c =
    let none : length c.loop-count.rest.now ≡ 0 = grind arith in
    unread_short c.loop-count.count c.args.width c.loop-count.gathered c.self.inside.place c.loop-count.rest.now c.args.self.now c.loop-count-test.true none
    c.loop-count.invariant.bits (ap (λ u. u.at) c.self.view_is)

pub loop-count-preserved : goal.loop-count-preserved
loop-count-preserved c =
    let octet : c.in-Some.octet.now < 2 ^ 8 = search rules in
    record {
      bits = rw c.joined-gathered.ensures (unread_joined c.loop-count.count c.loop-count.gathered c.in-Some.octet.now c.in-Some.others.now octet
          ∙ ap (λ rest. unsigned_bits c.loop-count.count c.loop-count.gathered ++ octets_bits rest) (sym c.in-Some.ensures.cases.0) ∙ c.loop-count.invariant.bits);
      below = rw c.joined-gathered.ensures (joined_below _ _ _ _ c.loop-count.invariant.below octet);
      short = omega arith;
    }

pub overflow_cast-result : goal.overflow_cast-result
overflow_cast-result c =
    let small : c.high_part.result < 2 ^ 32 = rw c.high_part.ensures (field_below c.loop-count.count c.args.width c.loop-count.gathered (omega arith) (omega arith) c.loop-count.invariant.below) in
    search rules

pub invariant_of-self : goal.invariant_of-self
invariant_of-self c =
    let before = length_unread c.self.inside.pending c.self.inside.partial c.self.inside.rest.now c.args.self.now.left (ap (λ u. u.left) c.self.view_is) in
    let now = length_unread c.loop-count.count c.loop-count.gathered c.loop-count.rest.now c.args.self.now.left c.loop-count.invariant.bits in
    (omega arith, rw c.low_part.ensures (rest_below (c.loop-count.count - c.args.width) c.loop-count.gathered), omega (arith, before, now, c.self.invariant))

pub returns-clause-gives : goal.returns-clause-gives
returns-clause-gives c = rw (c.high_part.ensures, c.low_part.ensures)
    (unread_taken c.loop-count.count c.args.width c.loop-count.gathered c.self.inside.place c.loop-count.rest.now c.args.self.now (omega arith) c.loop-count.invariant.below
    c.loop-count.invariant.bits (ap (λ u. u.at) c.self.view_is))
