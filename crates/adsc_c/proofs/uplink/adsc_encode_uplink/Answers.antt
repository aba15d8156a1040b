use Rattle.std.proofs.Common.{List, ℕ, subst, sym, ◌∙◌}
use Rattle.adsc_requests.specs.Grammar.{EncodesUplink}
use Rattle.adsc_c.specs.Uplinks.{flat_uplink}
use Rattle.adsc_c.proofs.Places.{spelled_of}
use Rattle.adsc_c.proofs.uplink.adsc_encode_uplink.Goals as goal

pub returns-in-Some-clause-encoding : goal.returns-in-Some-clause-encoding
returns-in-Some-clause-encoding c = λ done. (
  c.in-Some.value,
  spelled_of flat_uplink c.uplink_of.result c.args.uplink.now c.in-Some.value c.uplink_of.ensures.spelled c.in-Some.is,
  c.flat_payload.ensures ∙ c.as_slice.ensures.value ∙ c.encode_uplink.ensures.octets,
  subst (λ (octets : List ℕ). EncodesUplink c.in-Some.value octets) (sym (c.flat_payload.ensures ∙ c.as_slice.ensures.value)) c.encode_uplink.ensures.encoding,
)
