use Rattle.std.proofs.Common.{◌≡◌, ℕ, ◌<◌, ◌==◌, true, false, get_or, length, replicate, ◌++◌, refl, ap, ◌∙◌, arith}
use Rattle.std.proofs.lemmas.Bool.{agree_below_at, eqb-true}
use Rattle.std.proofs.lemmas.List.{length-append}
use Rattle.bit_terms.specs.Bits.{unsigned_bits}
use Rattle.bit_terms.specs.Octets.{number_spelled}
use Rattle.bit_terms.proofs.BitsLaws.{length-unsigned_bits}
use Rattle.bit_terms.proofs.OctetsLaws.{unsigned_bits-number_spelled}
use Rattle.acars_envelope.specs.declared.remainders.TheConstants.{REMAINDERS}
use Rattle.acars_envelope.specs.Check.{octet_remainder}
use Rattle.acars_envelope.proofs.DivisionLaws.{length-divided}
use Rattle.acars_envelope.proofs.remainders.remainder.Goals as goal

-- each entry of the table is the remainder of its octet
entries : (octet : ℕ) → octet < 256 → (get_or REMAINDERS octet 0 == number_spelled (octet_remainder octet)) ≡ true
unfolding unsigned_bits number_spelled
entries octet below = agree_below_at (λ k. get_or REMAINDERS k 0 == number_spelled (octet_remainder k)) (λ _. true) 256 octet refl below

pub returns : goal.returns
returns c =
    let octet = c.args.octet in
    let dividend = unsigned_bits 8 octet ++ replicate 16 false in
    let sixteen : length (octet_remainder octet) ≡ 16 =
    length-divided 8 16 dividend (omega (arith, length-append (unsigned_bits 8 octet) (replicate 16 false), length-unsigned_bits 8 octet)) in
    let is : c.entry.result ≡ number_spelled (octet_remainder octet) = c.entry.ensures ∙ eqb-true _ _ (entries octet (omega arith)) in
    ap (unsigned_bits 16) is ∙ rw sixteen at (unsigned_bits-number_spelled (octet_remainder octet))
