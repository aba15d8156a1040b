-- Each kind of item has so many octets.
use Rattle.std.proofs.Common.{◌*◌, [], ◌∷◌, ap, ◌∙◌, sym, refl}
use Rattle.adsc_downlink.specs.Items.{item_bits}
use Rattle.adsc_downlink.proofs.Sizes.{length-octets, length-nack, length-report}
use Rattle.adsc_downlink.proofs.encoding.item_size.Goals as goal

pub returns-in-Ack-clause-exact : goal.returns-in-Ack-clause-exact
unfolding item_bits
returns-in-Ack-clause-exact c = rw c.in-Ack.is (sym (length-octets (3 ∷ c.in-Ack.n ∷ []) 2 refl))

pub returns-in-Nack-clause-exact : goal.returns-in-Nack-clause-exact
returns-in-Nack-clause-exact c =
    rw c.in-Nack.is (ap (λ n. 8 * n) c.nack_size.ensures ∙ sym (length-nack c.in-Nack.nack.n c.in-Nack.nack.reason c.in-Nack.nack.octet))

pub returns-in-Noncompliance-clause-exact : goal.returns-in-Noncompliance-clause-exact
unfolding item_bits
returns-in-Noncompliance-clause-exact c = rw c.in-Noncompliance.is (sym (length-octets (5 ∷ c.in-Noncompliance.n ∷ 1 ∷ 21 ∷ 64 ∷ []) 5 refl))

pub returns-in-EmergencyOff-clause-exact : goal.returns-in-EmergencyOff-clause-exact
unfolding item_bits
returns-in-EmergencyOff-clause-exact c = rw c.in-EmergencyOff.is (sym (length-octets (6 ∷ c.in-EmergencyOff.n ∷ []) 2 refl))

pub returns-in-Report-clause-exact : goal.returns-in-Report-clause-exact
returns-in-Report-clause-exact c =
    rw c.in-Report.is (length-report c.in-Report.report c.as_slice.result.now c.groups_size.result c.as_slice.ensures.value c.groups_size.ensures.exact)
