-- Each payload has exactly one reading.
use Rattle.std.proofs.Common.{◌≡◌, ℕ, Bool, List, Result, Ok, Err, ◌⊎◌, inl, inr, refl, sym, ap, ◌∙◌}
use Rattle.bit_terms.proofs.ReadingLaws.{ok_same, ok_is_no_err, err_same}
use Rattle.adsc_downlink.specs.Items.{ItemData}
use Rattle.adsc_downlink.specs.Encodings.{EncodesDownlink}
use Rattle.adsc_downlink.specs.Faults.{IsFirstDownlinkFault}
use Rattle.adsc_downlink.specs.Reading.{downlink_at}
use Rattle.adsc_downlink.specs.declared.refusal.DownRefusal.{DownRefusal}
use Rattle.adsc_downlink.specs.declared.refusal.DownWhy.{DownWhy}
use Rattle.adsc_downlink.proofs.DownlinkFaults.{downlink_refused, downlink_fault}
use Rattle.adsc_downlink.proofs.DownlinkReading.{downlink_takes, downlink_again}

some_of : (bits : List Bool) (reading : Result (List ItemData) DownRefusal) → downlink_at (record { left = bits; at = 0 }) ≡ reading
    → ((items : List ItemData) × EncodesDownlink items bits) ⊎ ((bit : ℕ) × (cause : DownWhy) × IsFirstDownlinkFault bits bit cause)
some_of bits (Ok items) read = inl (items, downlink_takes items (record { left = bits; at = 0 }) read)
some_of bits (Err refusal) read = inr (refusal.bit, refusal.why, downlink_refused bits refusal read)

pub some_reading : (bits : List Bool)
    → ((items : List ItemData) × EncodesDownlink items bits) ⊎ ((bit : ℕ) × (cause : DownWhy) × IsFirstDownlinkFault bits bit cause)
some_reading bits = some_of bits (downlink_at (record { left = bits; at = 0 })) refl

pub never_both_readings : (items : List ItemData) (bits : List Bool) (bit : ℕ) (cause : DownWhy) → EncodesDownlink items bits → IsFirstDownlinkFault bits bit cause → ⊥
never_both_readings items bits bit cause encoded fault =
    ok_is_no_err items (record { bit = bit; why = cause }) (sym (downlink_again items bits encoded) ∙ downlink_fault bits bit cause fault)

pub same_items_read : (a b : List ItemData) (bits : List Bool) → EncodesDownlink a bits → EncodesDownlink b bits → a ≡ b
same_items_read a b bits encodes_a encodes_b = ok_same {F = DownRefusal} a b (sym (downlink_again a bits encodes_a) ∙ downlink_again b bits encodes_b)

pub same_fault_found : (bits : List Bool) (a b : ℕ) (why other : DownWhy) → IsFirstDownlinkFault bits a why → IsFirstDownlinkFault bits b other → (a ≡ b) × (why ≡ other)
same_fault_found bits a b why other fault_a fault_b =
    let first : DownRefusal = record { bit = a; why = why } in
    let second : DownRefusal = record { bit = b; why = other } in
    let same = err_same {A = List ItemData} first second (sym (downlink_fault bits a why fault_a) ∙ downlink_fault bits b other fault_b) in
    (ap (λ r. r.bit) same, ap (λ r. r.why) same)
