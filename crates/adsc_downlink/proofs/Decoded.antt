-- What a call that read a downlink says of the bits.
use Rattle.std.proofs.Common.{◌≡◌, List, Bool, Result, Ok, Err, IfErr, OnOk, MatchResult, ap, sym, ◌∙◌}
use Rattle.bit_terms.proofs.ReadingLaws.{ok_is_no_err, err_same}
use Rattle.adsc_downlink.specs.Items.{ItemData}
use Rattle.adsc_downlink.specs.Encodings.{EncodesDownlink}
use Rattle.adsc_downlink.specs.Faults.{IsFirstDownlinkFault}
use Rattle.adsc_downlink.specs.Reading.{downlink_at}
use Rattle.adsc_downlink.specs.declared.refusal.DownRefusal.{DownRefusal}
use Rattle.adsc_downlink.proofs.DownlinkReading.{downlink_takes}
use Rattle.adsc_downlink.proofs.DownlinkFaults.{downlink_refused, downlink_fault}

-- The call left these items, or refused, as reading does.
abbrev pub IsRead : {X : Type 0} → List ItemData → List Bool → Result X DownRefusal → Type 0
IsRead items bits result =
    MatchResult result (λ _. downlink_at (record { left = bits; at = 0 }) ≡ Ok items) (λ e. downlink_at (record { left = bits; at = 0 }) ≡ Err e)

pub decoded_found : {X : Type 0} (items : List ItemData) (bits : List Bool) (result : Result X DownRefusal) → IsRead items bits result → OnOk result (EncodesDownlink items bits)
decoded_found items bits (Ok x) exact = downlink_takes items (record { left = bits; at = 0 }) exact
decoded_found items bits (Err e) exact = tt

pub decoded_fault : {X : Type 0} (items : List ItemData) (bits : List Bool) (result : Result X DownRefusal) → IsRead items bits result
    → IfErr result (λ r. IsFirstDownlinkFault bits r.bit r.why)
decoded_fault items bits (Ok x) exact = tt
decoded_fault items bits (Err e) exact = downlink_refused bits e exact

pub decoded_refused : {X : Type 0} (items : List ItemData) (bits : List Bool) (result : Result X DownRefusal) → IsRead items bits result
    → (r : DownRefusal) → IsFirstDownlinkFault bits r.bit r.why → result ≡ Err r
decoded_refused items bits (Ok x) exact r fault = absurd (ok_is_no_err items r (sym exact ∙ downlink_fault bits r.bit r.why fault))
decoded_refused items bits (Err e) exact r fault = ap (λ x. Err x) (err_same {A = List ItemData} e r (sym exact ∙ downlink_fault bits r.bit r.why fault))
