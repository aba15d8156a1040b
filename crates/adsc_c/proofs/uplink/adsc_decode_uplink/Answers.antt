use Rattle.std.proofs.Common.{◌≡◌, Result, Ok, Err, refl, ◌∙◌, ap}
use Rattle.adsc_requests.specs.declared.message.Uplink.{Uplink}
use Rattle.adsc_requests.specs.declared.refusal.Refusal.{Refusal}
use Rattle.adsc_c.specs.Uplinks.{flat_refusal}
use Rattle.adsc_c.proofs.uplink.adsc_decode_uplink.Goals as goal

ok_is_no_err : (read : Result Uplink Refusal) (u : Uplink) (r : Refusal) → read ≡ Ok u → read ≡ Err r → ⊥
ok_is_no_err read u r ok err = cc

same_err : (read : Result Uplink Refusal) (a b : Refusal) → read ≡ Err a → read ≡ Err b → a ≡ b
same_err read a b first second = cc

pub returns-in-Ok-clause-refused : goal.returns-in-Ok-clause-refused
returns-in-Ok-clause-refused c = λ r fault. absurd (ok_is_no_err c.decode_uplink.result c.in-Ok.read r c.in-Ok.is (c.decode_uplink.ensures.refused r fault))

pub returns-in-Err-clause-refused : goal.returns-in-Err-clause-refused
returns-in-Err-clause-refused c = λ r fault.
    (refl, c.flat_refusal.ensures ∙ ap flat_refusal (same_err c.decode_uplink.result c.in-Err.fault r c.in-Err.is (c.decode_uplink.ensures.refused r fault)))
