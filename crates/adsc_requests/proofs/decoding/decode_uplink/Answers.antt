use Rattle.std.proofs.Common.{ap, Ok, Err}
use Rattle.adsc_requests.specs.Contents.{contents_of}
use Rattle.adsc_requests.specs.declared.refusal.Refusal.{Refusal}
use Rattle.adsc_requests.specs.declared.message.Uplink.{Uplink}
use Rattle.adsc_requests.proofs.Injective.{same_contents}
use Rattle.adsc_requests.proofs.ReadingLaws.{read_is_encoding, one_reading, refusal_of_stop, stop_place, refusal_place, refusal_reason, one_refusal, refused_is_no_uplink, read_is_no_fault}
use Rattle.adsc_requests.proofs.decoding.decode_uplink.Goals as goal

pub refusal_at-requires-clause-left : goal.refusal_at-requires-clause-left
refusal_at-requires-clause-left c = (stop_place c.args.payload.now c.in-Err.stop c.in-Err.ensures).0

pub refusal_at-requires-clause-place : goal.refusal_at-requires-clause-place
refusal_at-requires-clause-place c = (stop_place c.args.payload.now c.in-Err.stop c.in-Err.ensures).1

pub returns-in-Ok-clause-uplink : goal.returns-in-Ok-clause-uplink
returns-in-Ok-clause-uplink c = read_is_encoding c.args.payload.now (contents_of c.in-Ok.uplink) c.in-Ok.ensures

pub returns-in-Ok-clause-only : goal.returns-in-Ok-clause-only
returns-in-Ok-clause-only c =
    λ u encodes. ap (λ (x : Uplink). Ok x) (same_contents c.in-Ok.uplink u
    (one_reading c.args.payload.now (contents_of c.in-Ok.uplink) (contents_of u) (read_is_encoding c.args.payload.now (contents_of c.in-Ok.uplink) c.in-Ok.ensures) encodes))

pub returns-in-Ok-clause-refused : goal.returns-in-Ok-clause-refused
returns-in-Ok-clause-refused c = λ r fault. absurd (read_is_no_fault c.args.payload.now (contents_of c.in-Ok.uplink) r c.in-Ok.ensures fault)

pub returns-in-Err-clause-only : goal.returns-in-Err-clause-only
returns-in-Err-clause-only c = λ u encodes. absurd (refused_is_no_uplink c.args.payload.now (contents_of u) c.in-Err.stop c.in-Err.ensures encodes)

pub returns-in-Err-clause-fault : goal.returns-in-Err-clause-fault
returns-in-Err-clause-fault c = refusal_of_stop c.args.payload.now c.in-Err.stop c.refusal_at.result c.in-Err.ensures c.refusal_at.ensures

pub returns-in-Err-clause-refused : goal.returns-in-Err-clause-refused
returns-in-Err-clause-refused c =
    λ r fault. ap (λ (x : Refusal). Err x)
    (one_refusal c.args.payload.now c.refusal_at.result r (refusal_of_stop c.args.payload.now c.in-Err.stop c.refusal_at.result c.in-Err.ensures c.refusal_at.ensures) fault)

pub returns-in-Err-clause-reason : goal.returns-in-Err-clause-reason
returns-in-Err-clause-reason c =
    refusal_reason c.args.payload.now c.refusal_at.result (refusal_of_stop c.args.payload.now c.in-Err.stop c.refusal_at.result c.in-Err.ensures c.refusal_at.ensures)

pub returns-in-Err-clause-place : goal.returns-in-Err-clause-place
returns-in-Err-clause-place c =
    refusal_place c.args.payload.now c.refusal_at.result (refusal_of_stop c.args.payload.now c.in-Err.stop c.refusal_at.result c.in-Err.ensures c.refusal_at.ensures)
