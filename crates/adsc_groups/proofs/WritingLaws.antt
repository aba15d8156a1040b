-- Fields that are written one after the other.
use Rattle.std.proofs.Common.{◌≡◌, ℕ, Bool, List, ◌++◌, ap, ◌∙◌, append_assoc}
use Rattle.bit_terms.specs.Bits.{unsigned_bits}

-- One field, and then the others.
then_fields : (before front back after whole : List Bool) → after ≡ before ++ front → whole ≡ after ++ back → whole ≡ before ++ (front ++ back)
then_fields before front back after whole first others = others ∙ ap (λ bits. bits ++ back) first ∙ append_assoc before front back

-- Four numbers of one width, and then the others.
pub four_numbers : (width a b c d : ℕ) (back o0 o1 o2 o3 o4 whole : List Bool)
    → o1 ≡ o0 ++ unsigned_bits width a → o2 ≡ o1 ++ unsigned_bits width b → o3 ≡ o2 ++ unsigned_bits width c → o4 ≡ o3 ++ unsigned_bits width d → whole ≡ o4 ++ back
    → whole ≡ o0 ++ (unsigned_bits width a ++ (unsigned_bits width b ++ (unsigned_bits width c ++ (unsigned_bits width d ++ back))))
four_numbers width a b c d back o0 o1 o2 o3 o4 whole first second third fourth others =
    then_fields o0 (unsigned_bits width a) (unsigned_bits width b ++ (unsigned_bits width c ++ (unsigned_bits width d ++ back))) o1 whole first
    (then_fields o1 (unsigned_bits width b) (unsigned_bits width c ++ (unsigned_bits width d ++ back)) o2 whole second
    (then_fields o2 (unsigned_bits width c) (unsigned_bits width d ++ back) o3 whole third (then_fields o3 (unsigned_bits width d) back o4 whole fourth others)))
