-- The characters, one after the other.
use Rattle.std.proofs.Common.{[], ◌++◌, get_or, sym, append-nil}
use Rattle.bit_terms.specs.Bits.{unsigned_bits}
use Rattle.adsc_groups.proofs.WritingLaws.{four_numbers}
use Rattle.adsc_groups.proofs.kinds.coding.encode_flight_id.Goals as goal

pub returns-clause-bits : goal.returns-clause-bits
returns-clause-bits c =
    let codes = c.args.id.now.codes in
    four_numbers 6 (get_or codes 0 0) (get_or codes 1 0) (get_or codes 2 0) (get_or codes 3 0)
    (unsigned_bits 6 (get_or codes 4 0) ++ (unsigned_bits 6 (get_or codes 5 0) ++ (unsigned_bits 6 (get_or codes 6 0) ++ (unsigned_bits 6 (get_or codes 7 0) ++ []))))
    c.args.out.now c.put.new.self c.put-2.new.self c.put-3.new.self c.put-4.new.self c.put-8.new.self
    c.put.ensures.bits c.put-2.ensures.bits c.put-3.ensures.bits c.put-4.ensures.bits
    (four_numbers 6 (get_or codes 4 0) (get_or codes 5 0) (get_or codes 6 0) (get_or codes 7 0) []
    c.put-4.new.self c.put-5.new.self c.put-6.new.self c.put-7.new.self c.put-8.new.self c.put-8.new.self
    c.put-5.ensures.bits c.put-6.ensures.bits c.put-7.ensures.bits c.put-8.ensures.bits (sym (append-nil c.put-8.new.self)))
