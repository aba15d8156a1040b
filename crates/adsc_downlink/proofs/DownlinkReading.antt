-- The laws of reading a downlink: it is read exactly where the bits encode one, and refused exactly at the first fault.
use Rattle.std.proofs.Common.{◌≡◌, ℕ, zero, suc, ◌+◌, ◌-◌, ◌<◌, ◌≤◌, Bool, true, false, List, [], ◌∷◌, ◌++◌, ◌&&◌, ◌==◌, length, Result, Ok, Err, refl, sym, ap, ap₂, ◌∙◌, subst, ⊎_elim, arith, append_assoc, append-nil, length-append, zero-add, suc-add, if◌then◌else◌}
use Rattle.std.proofs.lemmas.Bool.{cases_Bool, eqb-true, eqb-false, ne_eqb, or_right, agree_below_at}
use Rattle.std.proofs.lemmas.List.{nil_from_length}
use Rattle.bit_terms.specs.Bits.{unsigned_bits}
use Rattle.bit_terms.specs.Octets.{octets_bits}
use Rattle.bit_terms.specs.Reading.{Unread, ◌>>=◌}
use Rattle.bit_terms.proofs.BitsLaws.{length-unsigned_bits}
use Rattle.bit_terms.proofs.ReadingLaws.{bind_ok, ok_same, ok_is_no_err}
use Rattle.adsc_groups.specs.Groups.{is_group_tag}
use Rattle.contract_rules.specs.Reasons.{names_octet}
use Rattle.adsc_downlink.specs.Codes.{is_octet_tag, is_report_tag, is_item_tag}
use Rattle.adsc_downlink.specs.Items.{ItemData, item_bits}
use Rattle.adsc_downlink.specs.Items.ItemData.{ack, nack, noncompliance, emergency_off, report}
use Rattle.adsc_downlink.specs.Encodings.{EncodesEach, EncodesItem, EncodesDownlink}
use Rattle.adsc_downlink.specs.Faults.{is_report, ends_in_report}
use Rattle.adsc_downlink.specs.Reading.{begins, item_at, ninth_at, items_at, downlink_at}
use Rattle.adsc_downlink.specs.declared.refusal.DownRefusal.{DownRefusal}
use Rattle.adsc_downlink.proofs.GroupReading.{begins_octet}
use Rattle.adsc_downlink.proofs.ItemReading.{item_takes, item_again, report_tag_octet}
use Rattle.adsc_downlink.proofs.Stepping.{with_items, items_end, items_full, items_next, items_of_items, first_item}

-- ---- what is read is encoded

nothing_left : (unread : Unread) → (length unread.left == 0) ≡ true → unread.left ≡ []
nothing_left unread none = nil_from_length unread.left (eqb-true (length unread.left) 0 none)

pub something_left : (unread : Unread) → (length unread.left == 0) ≡ false → 0 < length unread.left
something_left unread some = let h : length unread.left ≡ 0 → ⊥ = eqb-false (length unread.left) 0 some in omega (arith, h)

pub left_something : (unread : Unread) → 0 < length unread.left → (length unread.left == 0) ≡ false
left_something unread some = ne_eqb (length unread.left) 0 (λ none. omega (arith, none))

record TakesItems (room : ℕ) (items : List ItemData) (old : Unread) : Type 0 where
  encoded : EncodesEach EncodesItem items old.left
  few : length items ≤ room

takes_nothing : (room : ℕ) (items : List ItemData) (old : Unread) → (length old.left == 0) ≡ true → items_at room old ≡ Ok items → TakesItems room items old
takes_nothing room items old none given =
    let same = ok_same {F = DownRefusal} [] items (sym (items_end room old none) ∙ given) in
    subst (λ xs. TakesItems room xs old) same (record { encoded = nothing_left old none; few = omega arith })

items_take : (room : ℕ) (items : List ItemData) (old : Unread) → items_at room old ≡ Ok items → TakesItems room items old
items_take zero items old given =
    ⊎_elim (λ none. takes_nothing 0 items old none given) (λ some. absurd (ok_is_no_err items (ninth_at old) (sym given ∙ items_full old some)))
    (cases_Bool (length old.left == 0))
items_take (suc room) items old given =
    ⊎_elim (λ none. takes_nothing (suc room) items old none given)
    (λ some.
    let p = bind_ok (item_at old) (λ item. items_at room item.1 >>= λ others. Ok (item.0 ∷ others)) items (sym (items_next room old some) ∙ given) in
    let q = bind_ok (items_at room p.0.1) (λ others. Ok (p.0.0 ∷ others)) items p.2 in
    let same = ok_same {F = DownRefusal} (p.0.0 ∷ q.0) items q.2 in
    let first = item_takes p.0.0 old p.0.1 p.1 in
    let later = items_take room q.0 p.0.1 q.1 in
    subst (λ xs. TakesItems (suc room) xs old) same
    (record {
      encoded = (first.took.front, p.0.1.left, first.took.bits, first.took.encoded, later.encoded);
      few = omega (arith, later.few);
    }))
    (cases_Bool (length old.left == 0))

-- What is read is encoded so.
pub downlink_takes : (items : List ItemData) (unread : Unread) → downlink_at unread ≡ Ok items → EncodesDownlink items unread.left
unfolding downlink_at
downlink_takes items unread given =
    let p = bind_ok (item_at unread) (λ item. items_at 7 item.1 >>= λ others. Ok (item.0 ∷ others)) items given in
    let q = bind_ok (items_at 7 p.0.1) (λ others. Ok (p.0.0 ∷ others)) items p.2 in
    let same = ok_same {F = DownRefusal} (p.0.0 ∷ q.0) items q.2 in
    let first = item_takes p.0.0 unread p.0.1 p.1 in
    let later = items_take 7 q.0 p.0.1 q.1 in
    subst (λ xs. EncodesDownlink xs unread.left) same
    (record {
      some = omega arith;
      few = omega (arith, later.few);
      encoded = (first.took.front, p.0.1.left, first.took.bits, first.took.encoded, later.encoded);
    })

-- ---- what is encoded is read

-- An item begins with its tag.
record BeginsItem (bits : List Bool) : Type 0 where
  tag : ℕ
  body : List Bool
  fits : tag < 256
  known : is_item_tag tag ≡ true
  stands : bits ≡ unsigned_bits 8 tag ++ body

begins_item : (item : ItemData) (bits : List Bool) → EncodesItem item bits → BeginsItem bits
unfolding item_bits
begins_item (ack n) bits encoded = record { tag = 3; body = octets_bits (n ∷ []); fits = omega arith; known = refl; stands = encoded.1 }
begins_item (nack n reason place) bits encoded =
    record { tag = 4; body = octets_bits (n ∷ reason ∷ (if names_octet reason then place ∷ [] else [])); fits = omega arith; known = refl; stands = encoded.4 }
begins_item (noncompliance n) bits encoded =
    record { tag = 5; body = octets_bits (n ∷ 1 ∷ 21 ∷ 64 ∷ []); fits = omega arith; known = refl; stands = encoded.1 }
begins_item (emergency_off n) bits encoded = record { tag = 6; body = octets_bits (n ∷ []); fits = omega arith; known = refl; stands = encoded.1 }
begins_item (report one) bits encoded = record {
  tag = one.tag;
  body = encoded.basic ++ encoded.behind;
  fits = report_tag_octet one.tag encoded.known;
  known = or_right (is_octet_tag one.tag) (is_report_tag one.tag) encoded.known;
  stands = encoded.stands;
}

-- No tag of an item is a group's.
pub item_is_no_group : (tag : ℕ) → tag < 256 → is_item_tag tag ≡ true → is_group_tag tag ≡ false
item_is_no_group tag fits known =
    let none : (is_item_tag tag && is_group_tag tag) ≡ false = agree_below_at (λ t. is_item_tag t && is_group_tag t) (λ _. false) 256 tag refl fits in
    sym (ap (λ x. x && is_group_tag tag) known) ∙ none

no_group_next : (item : ItemData) (bits rest : List Bool) (at : ℕ) → EncodesItem item bits → begins is_group_tag (record { left = bits ++ rest; at = at }) ≡ false
no_group_next item bits rest at encoded =
    let b = begins_item item bits encoded in
    ap (λ left. begins is_group_tag (record { left = left; at = at })) (ap (λ x. x ++ rest) b.stands ∙ append_assoc (unsigned_bits 8 b.tag) b.body rest)
    ∙ begins_octet is_group_tag b.tag at (b.body ++ rest) b.fits ∙ item_is_no_group b.tag b.fits b.known

some_next : (item : ItemData) (bits rest : List Bool) (at : ℕ) → EncodesItem item bits → (length (bits ++ rest) == 0) ≡ false
some_next item bits rest at encoded =
    let b = begins_item item bits encoded in
    left_something (record { left = bits ++ rest; at = at })
    (omega (arith, length-append bits rest, ap length b.stands, length-append (unsigned_bits 8 b.tag) b.body, length-unsigned_bits 8 b.tag))

-- Where no group follows the last item, none follows any of them.
closes : (item : ItemData) (items : List ItemData) (bits rest : List Bool) (at : ℕ) → EncodesEach EncodesItem items bits
    → (ends_in_report (item ∷ items) && begins is_group_tag (record { left = rest; at = 0 })) ≡ false
    → is_report item ≡ true → begins is_group_tag (record { left = bits ++ rest; at = at }) ≡ false
closes item [] bits rest at encoded closed is =
    ap (λ b. begins is_group_tag (record { left = b ++ rest; at = at })) encoded
    ∙ sym (ap (λ last. last && begins is_group_tag (record { left = rest; at = 0 })) is) ∙ closed
closes item (other ∷ items) bits rest at encoded closed is =
    ap (λ b. begins is_group_tag (record { left = b; at = at })) (ap (λ x. x ++ rest) encoded.2 ∙ append_assoc encoded.0 encoded.1 rest)
    ∙ no_group_next other encoded.0 (encoded.1 ++ rest) at encoded.3

closed_behind : (item : ItemData) (items : List ItemData) (next : Bool) → (ends_in_report (item ∷ items) && next) ≡ false → (ends_in_report items && next) ≡ false
closed_behind item [] next closed = refl
closed_behind item (other ∷ items) next closed = closed

no_items : {A F : Type 0} (reading : Result (List A) F) → reading ≡ with_items [] reading
no_items (Ok x) = refl
no_items (Err refusal) = refl

-- Whole items are read, and then what is read behind them.
items_through : (items : List ItemData) (front rest : List Bool) (at room : ℕ) → EncodesEach EncodesItem items front
    → (ends_in_report items && begins is_group_tag (record { left = rest; at = 0 })) ≡ false
    → items_at (length items + room) (record { left = front ++ rest; at = at }) ≡ with_items items (items_at room (record { left = rest; at = at + length front }))
items_through [] front rest at room encoded closed =
    let place : at ≡ at + length front = omega (arith, ap length encoded) in
    ap₂ (λ n left. items_at n (record { left = left; at = at })) (zero-add room) (ap (λ x. x ++ rest) encoded)
    ∙ ap (λ bit. items_at room (record { left = rest; at = bit })) place
    ∙ no_items (items_at room (record { left = rest; at = at + length front }))
items_through (item ∷ items) front rest at room encoded closed =
    let one : List Bool = encoded.0 in
    let others : List Bool = encoded.1 in
    let regrouped : front ++ rest ≡ one ++ (others ++ rest) = ap (λ x. x ++ rest) encoded.2 ∙ append_assoc one others rest in
    let place : at + length one + length others ≡ at + length front = omega (arith, ap length encoded.2, length-append one others) in
    ap₂ (λ n left. items_at n (record { left = left; at = at })) (suc-add (length items) room) regrouped
    ∙ items_next (length items + room) (record { left = one ++ (others ++ rest); at = at }) (some_next item one (others ++ rest) at encoded.3)
    ∙ ap (λ reading. reading >>= λ x. with_items (x.0 ∷ []) (items_at (length items + room) x.1))
    (item_again item one (others ++ rest) at encoded.3 (closes item items others rest (at + length one) encoded.4 closed))
    ∙ ap (with_items (item ∷ []))
    (items_through items others rest (at + length one) room encoded.4 (closed_behind item items (begins is_group_tag (record { left = rest; at = 0 })) closed))
    ∙ items_of_items (item ∷ []) items (items_at room (record { left = rest; at = at + length one + length others }))
    ∙ ap (λ bit. with_items (item ∷ items) (items_at room (record { left = rest; at = bit }))) place

-- The same for the whole downlink, where there is an item.
pub downlink_through : (item : ItemData) (items : List ItemData) (front rest : List Bool) (room : ℕ) → EncodesEach EncodesItem (item ∷ items) front → length items + room ≡ 7
    → (ends_in_report (item ∷ items) && begins is_group_tag (record { left = rest; at = 0 })) ≡ false
    → downlink_at (record { left = front ++ rest; at = 0 }) ≡ with_items (item ∷ items) (items_at room (record { left = rest; at = length front }))
downlink_through item items front rest room encoded seven closed =
    let one : List Bool = encoded.0 in
    let others : List Bool = encoded.1 in
    let regrouped : front ++ rest ≡ one ++ (others ++ rest) = ap (λ x. x ++ rest) encoded.2 ∙ append_assoc one others rest in
    let place : 0 + length one + length others ≡ length front = omega (arith, ap length encoded.2, length-append one others) in
    ap (λ left. downlink_at (record { left = left; at = 0 })) regrouped
    ∙ first_item (record { left = one ++ (others ++ rest); at = 0 }) (record { left = others ++ rest; at = 0 + length one }) item
    (item_again item one (others ++ rest) 0 encoded.3 (closes item items others rest (0 + length one) encoded.4 closed))
    ∙ ap (λ n. with_items (item ∷ []) (items_at n (record { left = others ++ rest; at = 0 + length one }))) (sym seven)
    ∙ ap (with_items (item ∷ []))
    (items_through items others rest (0 + length one) room encoded.4 (closed_behind item items (begins is_group_tag (record { left = rest; at = 0 })) closed))
    ∙ items_of_items (item ∷ []) items (items_at room (record { left = rest; at = 0 + length one + length others }))
    ∙ ap (λ bit. with_items (item ∷ items) (items_at room (record { left = rest; at = bit }))) place

and_none : (test : Bool) → (test && false) ≡ false
and_none true = refl
and_none false = refl

-- What is encoded is read.
pub downlink_again : (items : List ItemData) (bits : List Bool) → EncodesDownlink items bits → downlink_at (record { left = bits; at = 0 }) ≡ Ok items
downlink_again [] bits encoded = absurd (omega (arith, encoded.some))
downlink_again (item ∷ items) bits encoded =
    let seven : length items + (7 - length items) ≡ 7 = omega (arith, encoded.few) in
    let none : begins is_group_tag (record { left = []; at = 0 }) ≡ false = refl in
    ap (λ left. downlink_at (record { left = left; at = 0 })) (sym (append-nil bits))
    ∙ downlink_through item items bits [] (7 - length items) encoded.encoded seven (and_none (ends_in_report (item ∷ items)))
    ∙ ap (with_items (item ∷ items)) (items_end (7 - length items) (record { left = []; at = length bits }) refl)
    ∙ ap (λ xs. Ok (item ∷ xs)) (append-nil items)
