-- The laws of the basic data.
use Rattle.std.proofs.Common.{◌≡◌, arith}
use Rattle.adsc_bits.specs.declared.reader.Short.{Short}
use Rattle.adsc_groups.specs.Fields.{Encodes}
use Rattle.adsc_groups.specs.Basic.{basic_fields, basic_bits}
use Rattle.adsc_groups.specs.BasicView.{basic_data, values_of}
use Rattle.adsc_groups.specs.declared.basic.Basic.{Basic}
use Rattle.adsc_groups.proofs.FieldsLaws.{AllWide, canonical_encodes}
use Rattle.adsc_groups.proofs.FitLaws.{basic_fits}

pub basic_wide : AllWide basic_fields
basic_wide = omega arith

-- What is written is an encoding.
pub basic_encodes : (basic : Basic) → Encodes basic_fields (values_of basic) (basic_bits (basic_data basic))
unfolding basic_bits
basic_encodes basic = canonical_encodes basic_fields (values_of basic) (basic_fits basic)

-- A refusal is its place.
pub same_short : (a b : Short) → a.bit ≡ b.bit → a ≡ b
same_short a b same = λ i. record { bit = same i }
