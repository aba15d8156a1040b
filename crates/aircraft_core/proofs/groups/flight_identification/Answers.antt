use Rattle.std.proofs.Common.{◌<◌, List, ℕ, get_or, sym, subst}
use Rattle.aircraft_core.proofs.FlightLaws.{codes_are_small}
use Rattle.aircraft_core.proofs.groups.flight_identification.Goals as goal

pub invariant_of-result-clause-six_bits : goal.invariant_of-result-clause-six_bits
invariant_of-result-clause-six_bits c i =
    subst (λ (codes : List ℕ). get_or codes i 0 < 64) (sym c.flight_codes.ensures) (codes_are_small c.args.flight.now c.requires i)
