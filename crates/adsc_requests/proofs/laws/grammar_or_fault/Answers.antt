use Rattle.adsc_requests.specs.Contents.{contents_of}
use Rattle.adsc_requests.proofs.ReadingLaws.{contents_or_fault, contents_never_fault, one_refusal, refusal_place, one_reading}
use Rattle.adsc_requests.proofs.Injective.{same_contents}
use Rattle.adsc_requests.proofs.laws.grammar_or_fault.Goals as goal

pub returns : goal.returns
returns c = record {
  one = contents_or_fault;
  never_both = λ payload h f. contents_never_fault payload h f;
  one_fault = one_refusal;
  near = λ payload r f. (refusal_place payload r f).1;
  one_uplink = λ payload a b ea eb. same_contents a b (one_reading payload (contents_of a) (contents_of b) ea eb);
}
