-- Each code has six bits.
use Rattle.std.proofs.Common.{refl}
use Rattle.adsc_groups.proofs.FitLaws.{eight_below}
use Rattle.adsc_groups.proofs.kinds.coding.decode_flight_id.Goals as goal

pub invariant_of-result : goal.invariant_of-result
invariant_of-result c = record {
  eight = refl;
  six_bits = eight_below 64 _ _ _ _ _ _ _ _ c.in_ok-take.ensures.found.fits c.in_ok-take-2.ensures.found.fits c.in_ok-take-3.ensures.found.fits
      c.in_ok-take-4.ensures.found.fits c.in_ok-take-5.ensures.found.fits c.in_ok-take-6.ensures.found.fits c.in_ok-take-7.ensures.found.fits
      c.in_ok-take-8.ensures.found.fits;
}
