use Rattle.adsc_requests.specs.Contents.{contents_of}
use Rattle.adsc_requests.specs.Grammar.{uplink_octets}
use Rattle.adsc_requests.proofs.ReadingLaws.{encoding_size}
use Rattle.adsc_requests.proofs.Whole.{written_encodes}
use Rattle.adsc_requests.proofs.laws.written_is_encoding.Goals as goal

pub returns : goal.returns
returns c = record {
  encoding = written_encodes;
  size = λ u. encoding_size (uplink_octets u) (contents_of u) (written_encodes u);
}
