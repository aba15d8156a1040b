-- Each step of the loop moves eight pending bits into an octet.
use Rattle.std.proofs.Common.{◌-◌, ◌^◌, ◌<◌, arith, rules, ◌∙◌}
use Rattle.adsc_bits.proofs.Written.{length_written, written_joined, written_moved, joined_below, moved_below, rest_below, length_with_field}
use Rattle.adsc_bits.proofs.writer.BitWriter.put.Goals as goal

pub loop-count-init : goal.loop-count-init
loop-count-init c = record {
  bits = rw c.joined-pending.ensures (written_joined _ _ _ _ _ _ c.self.view_is c.requires.fits);
  below = rw c.joined-pending.ensures (joined_below _ _ _ _ c.self.invariant.1 c.requires.fits);
  short = omega arith;
  room = omega (arith, length_written _ _ _ _ c.self.view_is, c.requires.room);
}

pub overflow_cast-high_part : goal.overflow_cast-high_part
overflow_cast-high_part c =
    let small : c.high_part.result < 2 ^ 8 = rw c.high_part.ensures (moved_below c.loop-count.count c.loop-count.pending (omega arith) c.loop-count.invariant.below) in
    search rules

pub loop-count-preserved : goal.loop-count-preserved
loop-count-preserved c = record {
  bits = rw (c.push.ensures.items, c.high_part.ensures, c.low_part-pending.ensures)
      (written_moved c.loop-count.self-inside.octets.items c.loop-count.count c.loop-count.pending (omega arith) ∙ c.loop-count.invariant.bits);
  below = rw c.low_part-pending.ensures (rest_below (c.loop-count.count - 8) c.loop-count.pending);
  short = omega arith;
  room = omega (arith, c.push.ensures.len);
}

pub returns-clause-len : goal.returns-clause-len
returns-clause-len c = length_with_field _ _ _ _ c.loop-count.invariant.bits
