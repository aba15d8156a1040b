use Rattle.std.proofs.Common.{refl}
use Rattle.adsc_requests.specs.Tables.{allows, is_modulus_tag}
use Rattle.adsc_requests.specs.Contents.{event_octets, report_octets, collected}
use Rattle.adsc_requests.specs.Gathered.{field_octets}
use Rattle.adsc_requests.proofs.decoding.gathered.Gathered.nothing.Goals as goal

pub returns : goal.returns
unfolding field_octets event_octets report_octets allows is_modulus_tag collected
returns c = rw c.none.ensures refl
