-- The fields, one after the other.
use Rattle.std.proofs.Common.{refl, rules, append_assoc, append-nil, to_z-of_z, FitsSigned, w32}
use Rattle.adsc_groups.proofs.kinds.coding.encode_route.Goals as goal

pub returns-clause-bits : goal.returns-clause-bits
returns-clause-bits c =
    let lat : FitsSigned w32 c.args.route.now.lat = search rules in
    let lon : FitsSigned w32 c.args.route.now.lon = search rules in
    let alt : FitsSigned w32 c.args.route.now.alt = search rules in
    let next_lat : FitsSigned w32 c.args.route.now.next_lat = search rules in
    let next_lon : FitsSigned w32 c.args.route.now.next_lon = search rules in
    let next_alt : FitsSigned w32 c.args.route.now.next_alt = search rules in
    simp (c.put-2.ensures.bits, c.put_signed-6.ensures.bits, c.put_signed-5.ensures.bits, c.put_signed-4.ensures.bits, c.put.ensures.bits, c.put_signed-3.ensures.bits, c.put_signed-2.ensures.bits, c.put_signed.ensures.bits, to_z-of_z, append_assoc, append-nil) refl
