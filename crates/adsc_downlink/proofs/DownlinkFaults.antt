-- A downlink is refused exactly at its first fault.
use Rattle.std.proofs.Common.{◌≡◌, ℕ, zero, suc, ◌+◌, ◌-◌, ◌<◌, ◌≤◌, Bool, true, false, List, [], ◌∷◌, ◌++◌, ◌&&◌, ◌==◌, length, take, drop, Ok, Err, refl, sym, ap, ap₂, ◌∙◌, subst, inl, inr, ⊎_elim, ◌⊎◌, arith, append_assoc, append-nil, length-append, lt-ltb, le-ltb, if◌then◌else◌}
use Rattle.std.proofs.lemmas.Bool.{cases_Bool, cases_lt, or_left, or_right}
use Rattle.std.proofs.lemmas.List.{take_at}
use Rattle.bit_terms.specs.Bits.{unsigned_bits}
use Rattle.bit_terms.specs.Octets.{number_spelled}
use Rattle.bit_terms.specs.Reading.{Unread, ◌>>=◌}
use Rattle.bit_terms.proofs.BitsLaws.{length-unsigned_bits}
use Rattle.bit_terms.proofs.OctetsLaws.{number_spelled-unsigned_bits}
use Rattle.bit_terms.proofs.ReadingLaws.{bind_err, ok_is_no_err, err_same}
use Rattle.adsc_groups.specs.Groups.{is_group_tag}
use Rattle.adsc_downlink.specs.Codes.{is_octet_tag, is_report_tag, is_item_tag}
use Rattle.adsc_downlink.specs.Items.{ItemData}
use Rattle.adsc_downlink.specs.Encodings.{EncodesEach, EncodesItem}
use Rattle.adsc_downlink.specs.Faults.{IsItemFault, is_report, ends_in_report, IsTagFault, IsFirstDownlinkFault}
use Rattle.adsc_downlink.specs.Reading.{begins, item_at, ninth_at, items_at, downlink_at}
use Rattle.adsc_downlink.specs.Refusals.{short_at, tag_at, many_at}
use Rattle.adsc_downlink.specs.declared.refusal.DownRefusal.{DownRefusal}
use Rattle.adsc_downlink.specs.declared.refusal.DownWhy.{DownWhy}
use Rattle.adsc_downlink.proofs.GroupReading.{begins_octet, begins_short, octet_there}
use Rattle.adsc_downlink.proofs.ItemReading.{TakesItem, item_takes}
use Rattle.adsc_downlink.proofs.ItemFaults.{item_refused, item_fault, item_short, unknown_refused}
use Rattle.adsc_downlink.proofs.DownlinkReading.{something_left, left_something, item_is_no_group, downlink_through}
use Rattle.adsc_downlink.proofs.Stepping.{with_items, items_end, items_full, items_next, first_refused}

-- ---- lists that grow at their end

pub each_more : (done : List ItemData) (item : ItemData) (front one : List Bool) → EncodesEach EncodesItem done front → EncodesItem item one
    → EncodesEach EncodesItem (done ++ item ∷ []) (front ++ one)
each_more [] item front one encoded last = (one, [], ap (λ x. x ++ one) encoded ∙ sym (append-nil one), last, refl)
each_more (first ∷ done) item front one encoded last =
    (encoded.0, encoded.1 ++ one, ap (λ x. x ++ one) encoded.2 ∙ append_assoc encoded.0 encoded.1 one, encoded.3, each_more done item encoded.1 one encoded.4 last)

last_decides : (done : List ItemData) (item : ItemData) → ends_in_report (done ++ item ∷ []) ≡ is_report item
last_decides [] item = refl
last_decides (first ∷ []) item = refl
last_decides (first ∷ second ∷ done) item = last_decides (second ∷ done) item

-- ---- a refusal is the first fault

-- Whole items were read.
record WasRead (bits : List Bool) (done : List ItemData) (front : List Bool) (old : Unread) : Type 0 where
  encoded : EncodesEach EncodesItem done front
  stand : bits ≡ front ++ old.left
  at : old.at ≡ length front
  closed : ends_in_report done ≡ true → begins is_group_tag old ≡ false

read_more : (bits : List Bool) (done : List ItemData) (front : List Bool) (item : ItemData) (old new : Unread) → WasRead bits done front old → (took : TakesItem item old new)
    → WasRead bits (done ++ item ∷ []) (front ++ took.took.front) new
read_more bits done front item old new was took = record {
  encoded = each_more done item front took.took.front was.encoded took.took.encoded;
  stand = was.stand ∙ ap (λ b. front ++ b) took.took.bits ∙ sym (append_assoc front took.took.front new.left);
  at = omega (arith, took.took.place, was.at, length-append front took.took.front);
  closed = λ last. took.closed (sym (last_decides done item) ∙ last);
}

-- An octet that is no item's may be a group's only behind a report, and there none was left.
no_group_here : (bits : List Bool) (done : List ItemData) (front : List Bool) (old : Unread) (tag : ℕ) (body : List Bool) → WasRead bits done front old
    → tag < 256 → old.left ≡ unsigned_bits 8 tag ++ body → (ends_in_report done && is_group_tag tag) ≡ false
no_group_here bits done front old tag body was fits stands = ⊎_elim behind_report elsewhere (cases_Bool (ends_in_report done))
  where
    behind_report : ends_in_report done ≡ true → (ends_in_report done && is_group_tag tag) ≡ false
    behind_report last =
        ap (λ x. x && is_group_tag tag) last
        ∙ sym (ap (λ left. begins is_group_tag (record { left = left; at = old.at })) stands ∙ begins_octet is_group_tag tag old.at body fits)
        ∙ was.closed last

    elsewhere : ends_in_report done ≡ false → (ends_in_report done && is_group_tag tag) ≡ false
    elsewhere other = ap (λ x. x && is_group_tag tag) other

tag_fault : (bits : List Bool) (done : List ItemData) (front : List Bool) (old : Unread) (refusal : DownRefusal) → WasRead bits done front old → length done ≤ 8
    → refusal.bit ≡ old.at → IsTagFault done old.left refusal.why → IsFirstDownlinkFault bits refusal.bit refusal.why
tag_fault bits done front old refusal was few place fault =
    record { items = done; front = front; rest = old.left; few = few; encoded = was.encoded; stand = was.stand; fault = inl (place ∙ was.at, fault) }

-- Where an item is refused.
refused_item : (bits : List Bool) (done : List ItemData) (front : List Bool) (old : Unread) (refusal : DownRefusal) → WasRead bits done front old → length done < 8
    → (done ≡ []) ⊎ (0 < length old.left) → item_at old ≡ Err refusal → IsFirstDownlinkFault bits refusal.bit refusal.why
refused_item bits done front old refusal was room due given =
    ⊎_elim
    (λ p. tag_fault bits done front old refusal was (omega arith) (ap (λ r. r.bit) p.0) (inl (ap (λ r. r.why) p.0, p.1, due)))
    (λ p. ⊎_elim
    (λ q. tag_fault bits done front old refusal was (omega arith) (ap (λ r. r.bit) q.1)
    (inr (
      q.0.tag,
      q.0.body,
      q.0.fits,
      q.0.bits,
      inl (ap (λ r. r.why) q.1, q.0.unknown, no_group_here bits done front old q.0.tag q.0.body was q.0.fits q.0.bits),
    )))
    (λ fault. record {
      items = done;
      front = front;
      rest = old.left;
      few = omega arith;
      encoded = was.encoded;
      stand = was.stand;
      fault = inr (room, subst (λ at. IsItemFault (record { left = old.left; at = at }) refusal.bit refusal.why) was.at fault);
    })
    p)
    (item_refused old refusal given)

-- What is wrong behind eight items.
ninth_short : (old : Unread) → length old.left < 8 → ninth_at old ≡ short_at old.at
ninth_short old few = rw (lt-ltb (length old.left) 8 few) refl

ninth_whole : (old : Unread) → 8 ≤ length old.left → ninth_at old ≡ (if is_item_tag (number_spelled (take 8 old.left)) then many_at old.at else tag_at old.at)
ninth_whole old enough = rw (le-ltb (length old.left) 8 enough) refl

refused_ninth : (bits : List Bool) (done : List ItemData) (front : List Bool) (old : Unread) (refusal : DownRefusal) → WasRead bits done front old → length done ≡ 8
    → 0 < length old.left → ninth_at old ≡ refusal → IsFirstDownlinkFault bits refusal.bit refusal.why
refused_ninth bits done front old refusal was full some given = ⊎_elim short whole (cases_lt (length old.left) 8)
  where
    short : length old.left < 8 → IsFirstDownlinkFault bits refusal.bit refusal.why
    short few =
        let same : refusal ≡ short_at old.at = sym given ∙ ninth_short old few in
        tag_fault bits done front old refusal was (omega arith) (ap (λ r. r.bit) same) (inl (ap (λ r. r.why) same, few, inr some))

    an_item : 8 ≤ length old.left → is_item_tag (number_spelled (take 8 old.left)) ≡ true → IsFirstDownlinkFault bits refusal.bit refusal.why
    an_item enough known =
        let took = octet_there old enough in
        let same : refusal ≡ many_at old.at = sym given ∙ ninth_whole old enough ∙ ap (λ test. if test then many_at old.at else tag_at old.at) known in
        tag_fault bits done front old refusal was (omega arith) (ap (λ r. r.bit) same)
        (inr (number_spelled (take 8 old.left), drop 8 old.left, took.fits, took.bits, inr (ap (λ r. r.why) same, known, full)))

    no_item : 8 ≤ length old.left → is_item_tag (number_spelled (take 8 old.left)) ≡ false → IsFirstDownlinkFault bits refusal.bit refusal.why
    no_item enough unknown =
        let took = octet_there old enough in
        let same : refusal ≡ tag_at old.at = sym given ∙ ninth_whole old enough ∙ ap (λ test. if test then many_at old.at else tag_at old.at) unknown in
        tag_fault bits done front old refusal was (omega arith) (ap (λ r. r.bit) same)
        (inr (
          number_spelled (take 8 old.left),
          drop 8 old.left,
          took.fits,
          took.bits,
          inl (ap (λ r. r.why) same, unknown, no_group_here bits done front old (number_spelled (take 8 old.left)) (drop 8 old.left) was took.fits took.bits),
        ))

    whole : 8 ≤ length old.left → IsFirstDownlinkFault bits refusal.bit refusal.why
    whole enough = ⊎_elim (an_item enough) (no_item enough) (cases_Bool (is_item_tag (number_spelled (take 8 old.left))))

refused_items : (room : ℕ) (bits : List Bool) (done : List ItemData) (front : List Bool) (old : Unread) (refusal : DownRefusal) → WasRead bits done front old
    → length done + room ≡ 8 → items_at room old ≡ Err refusal → IsFirstDownlinkFault bits refusal.bit refusal.why
refused_items zero bits done front old refusal was eight given =
    ⊎_elim (λ none. absurd (ok_is_no_err [] refusal (sym (items_end 0 old none) ∙ given)))
    (λ some. refused_ninth bits done front old refusal was (omega arith) (something_left old some)
    (err_same {A = List ItemData} (ninth_at old) refusal (sym (items_full old some) ∙ given)))
    (cases_Bool (length old.left == 0))
refused_items (suc room) bits done front old refusal was eight given =
    ⊎_elim (λ none. absurd (ok_is_no_err [] refusal (sym (items_end (suc room) old none) ∙ given)))
    (λ some.
    ⊎_elim (λ e. refused_item bits done front old refusal was (omega arith) (inr (something_left old some)) e)
    (λ p. ⊎_elim
    (λ e. let took = item_takes p.0.0 old p.0.1 p.1 in
    refused_items room bits (done ++ p.0.0 ∷ []) (front ++ took.took.front) p.0.1 refusal (read_more bits done front p.0.0 old p.0.1 was took)
    (omega (arith, length-append done (p.0.0 ∷ []))) e)
    (λ q. absurd (ok_is_no_err (p.0.0 ∷ q.0) refusal q.2))
    (bind_err (items_at room p.0.1) (λ others. Ok (p.0.0 ∷ others)) refusal p.2))
    (bind_err (item_at old) (λ item. items_at room item.1 >>= λ others. Ok (item.0 ∷ others)) refusal (sym (items_next room old some) ∙ given)))
    (cases_Bool (length old.left == 0))

-- A refusal is at the first fault.
pub downlink_refused : (bits : List Bool) (refusal : DownRefusal) → downlink_at (record { left = bits; at = 0 }) ≡ Err refusal
    → IsFirstDownlinkFault bits refusal.bit refusal.why
unfolding downlink_at
downlink_refused bits refusal given =
    let all : Unread = record { left = bits; at = 0 } in
    let nothing : WasRead bits [] [] all = record { encoded = refl; stand = refl; at = refl; closed = λ wrong. absurd (cc) } in
    ⊎_elim (λ e. refused_item bits [] [] all refusal nothing (omega arith) (inl refl) e)
    (λ p. ⊎_elim
    (λ e. let took = item_takes p.0.0 all p.0.1 p.1 in
    refused_items 7 bits (p.0.0 ∷ []) took.took.front p.0.1 refusal (read_more bits [] [] p.0.0 all p.0.1 nothing took) (omega arith) e)
    (λ q. absurd (ok_is_no_err (p.0.0 ∷ q.0) refusal q.2))
    (bind_err (items_at 7 p.0.1) (λ others. Ok (p.0.0 ∷ others)) refusal p.2))
    (bind_err (item_at all) (λ item. items_at 7 item.1 >>= λ others. Ok (item.0 ∷ others)) refusal given)

-- ---- at the first fault reading is refused

-- The fault behind whole items.
abbrev FaultBehind : List ItemData → Unread → ℕ → DownWhy → Type 0
FaultBehind items old bit cause =
    (bit ≡ old.at) × IsTagFault items old.left cause ⊎ (length items < 8) × IsItemFault old bit cause

-- The tag of an item at fault is an item's.
fault_tag : (old : Unread) (bit : ℕ) (cause : DownWhy) → (fault : IsItemFault old bit cause) → is_item_tag fault.tag ≡ true
fault_tag old bit cause fault =
    ⊎_elim (λ p. or_left (is_octet_tag fault.tag) (is_report_tag fault.tag) p.0)
    (⊎_elim (λ p. ap is_item_tag p.0)
    (⊎_elim (λ p. or_right (is_octet_tag fault.tag) (is_report_tag fault.tag) p.0) (λ p. or_right (is_octet_tag fault.tag) (is_report_tag fault.tag) p.0)))
    fault.fault

and_none : (test : Bool) → (test && false) ≡ false
and_none true = refl
and_none false = refl

tag_stands : (test : ℕ → Bool) (tag : ℕ) (body : List Bool) (old : Unread) → tag < 256 → old.left ≡ unsigned_bits 8 tag ++ body → begins test old ≡ test tag
tag_stands test tag body old fits stands = ap (λ left. begins test (record { left = left; at = old.at })) stands ∙ begins_octet test tag old.at body fits

whole_tag : (tag : ℕ) (body : List Bool) (old : Unread) → old.left ≡ unsigned_bits 8 tag ++ body → 8 ≤ length old.left
whole_tag tag body old stands = omega (arith, ap length stands, length-append (unsigned_bits 8 tag) body, length-unsigned_bits 8 tag)

-- No group follows the whole items.
fault_closed : (items : List ItemData) (old : Unread) (bit : ℕ) (cause : DownWhy) → FaultBehind items old bit cause → (ends_in_report items && begins is_group_tag old) ≡ false
fault_closed items old bit cause fault =
    ⊎_elim
    (λ p. ⊎_elim (λ q. ap (λ next. ends_in_report items && next) (begins_short is_group_tag old q.1) ∙ and_none (ends_in_report items))
    (λ q. ap (λ next. ends_in_report items && next) (tag_stands is_group_tag q.0 q.1 old q.2 q.3)
    ∙ ⊎_elim (λ r. r.2) (λ r. ap (λ next. ends_in_report items && next) (item_is_no_group q.0 q.2 r.1) ∙ and_none (ends_in_report items)) q.4)
    p.1)
    (λ p. ap (λ next. ends_in_report items && next)
    (tag_stands is_group_tag p.1.tag p.1.body old p.1.octet p.1.stands ∙ item_is_no_group p.1.tag p.1.octet (fault_tag old bit cause p.1))
    ∙ and_none (ends_in_report items))
    fault

-- Something is left where an item was read before.
fault_some : (items : List ItemData) (old : Unread) (bit : ℕ) (cause : DownWhy) → 1 ≤ length items → FaultBehind items old bit cause → 0 < length old.left
fault_some items old bit cause some fault =
    ⊎_elim
    (λ p. ⊎_elim (λ q. ⊎_elim (λ none. absurd (omega (arith, ap length none))) (λ left. left) q.2)
    (λ q. let enough = whole_tag q.0 q.1 old q.3 in omega arith) p.1)
    (λ p. let enough = whole_tag p.1.tag p.1.body old p.1.stands in omega arith)
    fault

-- Where an item may still stand, reading it is refused.
fault_item : (items : List ItemData) (old : Unread) (bit : ℕ) (cause : DownWhy) → length items < 8 → FaultBehind items old bit cause
    → item_at old ≡ Err (record { bit = bit; why = cause })
fault_item items old bit cause room fault =
    ⊎_elim
    (λ p. ⊎_elim (λ q. item_short old q.1 ∙ ap₂ (λ b w. Err (record { bit = b; why = w })) (sym p.0) (sym q.0))
    (λ q. ⊎_elim
    (λ r.
    unknown_refused old (record { tag = q.0; body = q.1; fits = q.2; bits = q.3; unknown = r.1 })
    ∙ ap₂ (λ b w. Err (record { bit = b; why = w })) (sym p.0) (sym r.0))
    (λ r. absurd (omega (arith, r.2))) q.4)
    p.1)
    (λ p. item_fault old bit cause p.1)
    fault

-- Behind eight items.
fault_ninth : (items : List ItemData) (old : Unread) (bit : ℕ) (cause : DownWhy) → length items ≡ 8 → FaultBehind items old bit cause
    → ninth_at old ≡ record { bit = bit; why = cause }
fault_ninth items old bit cause full fault =
    ⊎_elim
    (λ p. ⊎_elim (λ q. ninth_short old q.1 ∙ ap₂ (λ b w. record { bit = b; why = w }) (sym p.0) (sym q.0))
    (λ q.
    let number : number_spelled (take 8 old.left) ≡ q.0 =
    ap (λ left. number_spelled (take 8 left)) q.3 ∙ ap number_spelled (take_at (unsigned_bits 8 q.0) q.1 8 (length-unsigned_bits 8 q.0)) ∙ number_spelled-unsigned_bits 8 q.0 q.2 in
    ninth_whole old (whole_tag q.0 q.1 old q.3)
    ∙ ap (λ n. if is_item_tag n then many_at old.at else tag_at old.at) number
    ∙ ⊎_elim
    (λ r. ap (λ test. if test then many_at old.at else tag_at old.at) r.1 ∙ ap₂ (λ b w. record { bit = b; why = w }) (sym p.0) (sym r.0))
    (λ r. ap (λ test. if test then many_at old.at else tag_at old.at) r.1 ∙ ap₂ (λ b w. record { bit = b; why = w }) (sym p.0) (sym r.0))
    q.4)
    p.1)
    (λ p. absurd (omega (arith, p.0)))
    fault

fault_items : (room : ℕ) (items : List ItemData) (old : Unread) (bit : ℕ) (cause : DownWhy) → length items + room ≡ 8 → 1 ≤ length items → FaultBehind items old bit cause
    → items_at room old ≡ Err (record { bit = bit; why = cause })
fault_items zero items old bit cause eight some fault =
    items_full old (left_something old (fault_some items old bit cause some fault)) ∙ ap (λ r. Err r) (fault_ninth items old bit cause (omega arith) fault)
fault_items (suc room) items old bit cause eight some fault =
    items_next room old (left_something old (fault_some items old bit cause some fault))
    ∙ ap (λ reading. reading >>= λ x. with_items (x.0 ∷ []) (items_at room x.1)) (fault_item items old bit cause (omega arith) fault)

fault_downlink : (items : List ItemData) (front rest : List Bool) (bit : ℕ) (cause : DownWhy) → length items ≤ 8 → EncodesEach EncodesItem items front
    → FaultBehind items (record { left = rest; at = length front }) bit cause → downlink_at (record { left = front ++ rest; at = 0 }) ≡ Err (record { bit = bit; why = cause })
fault_downlink [] front rest bit cause few encoded fault =
    let none : front ≡ [] = encoded in
    first_refused (record { left = front ++ rest; at = 0 }) (record { bit = bit; why = cause })
    (ap₂ (λ left at. item_at (record { left = left; at = at })) (ap (λ x. x ++ rest) none) (sym (ap length none))
    ∙ fault_item [] (record { left = rest; at = length front }) bit cause (omega arith) fault)
fault_downlink (item ∷ items) front rest bit cause few encoded fault =
    let here : Unread = record { left = rest; at = length front } in
    let seven : length items + (7 - length items) ≡ 7 = omega (arith, few) in
    downlink_through item items front rest (7 - length items) encoded seven (fault_closed (item ∷ items) here bit cause fault)
    ∙ ap (with_items (item ∷ items)) (fault_items (7 - length items) (item ∷ items) here bit cause (omega (arith, few)) (omega arith) fault)

pub downlink_fault : (bits : List Bool) (bit : ℕ) (cause : DownWhy) → IsFirstDownlinkFault bits bit cause
    → downlink_at (record { left = bits; at = 0 }) ≡ Err (record { bit = bit; why = cause })
downlink_fault bits bit cause fault =
    ap (λ left. downlink_at (record { left = left; at = 0 })) fault.stand
    ∙ fault_downlink fault.items fault.front fault.rest bit cause fault.few fault.encoded fault.fault
