-- The laws of reading groups behind their tags.
use Rattle.std.proofs.Common.{◌≡◌, ℕ, zero, suc, ◌+◌, ◌<◌, ◌≤◌, Bool, true, false, List, [], ◌∷◌, ◌++◌, ◌==◌, ◌&&◌, nat_le, length, take, drop, Result, Ok, Err, IsTrue, refl, sym, ap, ap₂, ◌∙◌, subst, inl, inr, ⊎_elim, arith, append_assoc, length-append, zero-add, suc-add}
use Rattle.std.proofs.lemmas.Bool.{cases_Bool, cases_lt}
use Rattle.std.proofs.lemmas.Bool.Decides.{nat_tests}
use Rattle.std.proofs.lemmas.List.{take_at}
use Rattle.bit_terms.specs.Bits.{unsigned_bits}
use Rattle.bit_terms.specs.Octets.{number_spelled}
use Rattle.bit_terms.specs.Reading.{Unread, Takes, after, refused_as, ◌>>=◌}
use Rattle.bit_terms.proofs.BitsLaws.{length-unsigned_bits}
use Rattle.bit_terms.proofs.OctetsLaws.{number_spelled-unsigned_bits}
use Rattle.bit_terms.proofs.ReadingLaws.{bind_ok, bind_err, ok_same, ok_is_no_err, taken_whole, err_same}
use Rattle.adsc_groups.specs.Fields.{size_of, IsFirstCut, fields_at}
use Rattle.adsc_groups.specs.Groups.{GroupData, IsGroupTag, is_group_tag, group_fields, group_at}
use Rattle.adsc_groups.specs.declared.refusal.GroupRefusal.{GroupRefusal}
use Rattle.adsc_groups.specs.declared.refusal.GroupWhy.TheVariants as group_why
use Rattle.adsc_groups.proofs.FieldsLaws.{fields_take, fields_again, fields_refused, first_cut_refused, length-encoding}
use Rattle.adsc_groups.proofs.GroupLaws.{group_wide}
use Rattle.adsc_downlink.specs.Encodings.{EncodesEach, EncodesTaggedGroup}
use Rattle.adsc_downlink.specs.Faults.{IsGroupFault}
use Rattle.adsc_downlink.specs.Reading.{octet_at, begins, tagged_group_at, groups_at}
use Rattle.adsc_downlink.specs.Refusals.{short_at, many_at, as_refusal}
use Rattle.adsc_downlink.specs.declared.refusal.DownRefusal.{DownRefusal}
use Rattle.adsc_downlink.specs.declared.refusal.DownWhy.{DownWhy}
use Rattle.adsc_downlink.proofs.OctetLaws.{refused_ok, refused_err, octet_takes, octet_again}
use Rattle.adsc_downlink.proofs.Stepping.{with_front, groups_end, groups_full, groups_next, front_of_front}

-- ---- the octet that stands next

whole_octet : (unread : Unread) → 8 ≤ length unread.left → nat_le 8 (length unread.left) ≡ true
whole_octet unread enough = grind arith

pub begins_octet : (test : ℕ → Bool) (value at : ℕ) (rest : List Bool) → value < 256 → begins test (record { left = unsigned_bits 8 value ++ rest; at = at }) ≡ test value
begins_octet test value at rest fits =
    let enough : 8 ≤ length (unsigned_bits 8 value ++ rest) = omega (arith, length-append (unsigned_bits 8 value) rest, length-unsigned_bits 8 value) in
    let number : number_spelled (take 8 (unsigned_bits 8 value ++ rest)) ≡ value =
    ap number_spelled (take_at (unsigned_bits 8 value) rest 8 (length-unsigned_bits 8 value)) ∙ number_spelled-unsigned_bits 8 value fits in
    ap₂ (λ there n. there && test n) (whole_octet (record { left = unsigned_bits 8 value ++ rest; at = at }) enough) number

pub begins_short : (test : ℕ → Bool) (unread : Unread) → length unread.left < 8 → begins test unread ≡ false
begins_short test unread few =
    let none : nat_le 8 (length unread.left) ≡ false = grind arith in
    ap (λ there. there && test (number_spelled (take 8 unread.left))) none

pub octet_there : (unread : Unread) → 8 ≤ length unread.left → Takes 8 (number_spelled (take 8 unread.left)) unread (after 8 unread)
octet_there unread enough = octet_takes (number_spelled (take 8 unread.left)) unread (after 8 unread) (ap (refused_as short_at) (taken_whole 8 unread enough))

-- An octet that passes stands next.
pub record StandsNext (test : ℕ → Bool) (unread : Unread) : Type 0 where
  pub value : ℕ
  pub rest : List Bool
  pub fits : value < 256
  pub bits : unread.left ≡ unsigned_bits 8 value ++ rest
  pub passes : IsTrue (test value)

pub stands_next : (test : ℕ → Bool) (unread : Unread) → begins test unread ≡ true → StandsNext test unread
stands_next test unread given = ⊎_elim none some (cases_lt (length unread.left) 8)
  where
    none : length unread.left < 8 → StandsNext test unread
    none few = let wrong : false ≡ true = sym (begins_short test unread few) ∙ given in absurd (cc)

    some : 8 ≤ length unread.left → StandsNext test unread
    some enough =
        let took = octet_there unread enough in
        record {
          value = number_spelled (take 8 unread.left);
          rest = drop 8 unread.left;
          fits = took.fits;
          bits = took.bits;
          passes = sym (ap (λ there. there && test (number_spelled (take 8 unread.left))) (whole_octet unread enough)) ∙ given;
        }

-- ---- one group behind its tag

group_short : ℕ → GroupRefusal
group_short bit = record { bit = bit; why = group_why.Short }

-- Reading the data of a group whose tag is one.
group_at_known : (tag : ℕ) (old : Unread) → IsGroupTag tag
    → group_at tag old ≡ refused_as (λ bit. record { bit = bit; why = group_why.Short })
    (fields_at (group_fields tag) old >>= λ values. Ok (record { tag = tag; values = values.0 }, values.1))
unfolding group_at
group_at_known tag old known = rw known refl

-- The same in the terms of downlinks.
data_at : ℕ → Unread → Result (GroupData × Unread) DownRefusal
data_at tag old = refused_as short_at (fields_at (group_fields tag) old >>= λ values. Ok (record { tag = tag; values = values.0 }, values.1))

told_twice : {A : Type 0} (reading : Result A ℕ)
    → refused_as as_refusal (refused_as (λ bit. record { bit = bit; why = group_why.Short }) reading) ≡ refused_as short_at reading
told_twice (Ok x) = refl
told_twice (Err bit) = refl

data_at_known : (tag : ℕ) (old : Unread) → IsGroupTag tag → refused_as as_refusal (group_at tag old) ≡ data_at tag old
unfolding data_at
data_at_known tag old known =
    ap (refused_as as_refusal) (group_at_known tag old known)
    ∙ told_twice (fields_at (group_fields tag) old >>= λ values. Ok (record { tag = tag; values = values.0 }, values.1))

-- What reading took: these bits, which encode what was read.
pub record TakesEncoding (Encoded : List Bool → Type 0) (old new : Unread) : Type 0 where
  pub front : List Bool
  pub encoded : Encoded front
  pub bits : old.left ≡ front ++ new.left
  pub place : new.at ≡ old.at + length front

tagged_takes : (group : GroupData) (old new : Unread) → begins is_group_tag old ≡ true → tagged_group_at old ≡ Ok (group, new) → TakesEncoding (EncodesTaggedGroup group) old new
unfolding tagged_group_at data_at
tagged_takes group old new there given =
    let next = stands_next is_group_tag old there in
    let p = bind_ok (octet_at old) (λ tag. refused_as as_refusal (group_at tag.0 tag.1)) (group, new) given in
    let read_tag : octet_at old ≡ Ok (next.value, record { left = next.rest; at = old.at + 8 }) =
    ap (λ left. octet_at (record { left = left; at = old.at })) next.bits ∙ octet_again next.value old.at next.rest next.fits in
    let tagged = ok_same {F = DownRefusal} p.0 (next.value, record { left = next.rest; at = old.at + 8 }) (sym p.1 ∙ read_tag) in
    let known : IsGroupTag p.0.0 = ap (λ x. is_group_tag x.0) tagged ∙ next.passes in
    let took_tag = octet_takes p.0.0 old p.0.1 p.1 in
    let q = refused_ok short_at (fields_at (group_fields p.0.0) p.0.1 >>= λ values. Ok (record { tag = p.0.0; values = values.0 }, values.1)) (group, new)
    (sym (data_at_known p.0.0 p.0.1 known) ∙ p.2) in
    let r = bind_ok (fields_at (group_fields p.0.0) p.0.1) (λ values. Ok (record { tag = p.0.0; values = values.0 }, values.1)) (group, new) q in
    let same = ok_same {F = ℕ} (record { tag = p.0.0; values = r.0.0 }, r.0.1) (group, new) r.2 in
    let took = fields_take (group_fields p.0.0) r.0.0 p.0.1 r.0.1 (group_wide p.0.0) r.1 in
    let size = length-encoding (group_fields p.0.0) r.0.0 took.front took.encoded in
    record {
      front = unsigned_bits 8 p.0.0 ++ took.front;
      encoded = subst (λ g. EncodesTaggedGroup g (unsigned_bits 8 p.0.0 ++ took.front)) (ap (λ x. x.0) same)
          (record { body = took.front; stands = refl; encoded = (known, took.encoded) });
      bits =
          took_tag.bits
          ∙ ap (λ bits. unsigned_bits 8 p.0.0 ++ bits) (took.bits ∙ ap (λ x. took.front ++ x.1.left) same)
          ∙ sym (append_assoc (unsigned_bits 8 p.0.0) took.front new.left);
      place = omega (arith, ap (λ x. x.1.at) same, took.place, took_tag.place, size, length-append (unsigned_bits 8 p.0.0) took.front, length-unsigned_bits 8 p.0.0);
    }

and_false : (test : Bool) → (test && false) ≡ false
and_false true = refl
and_false false = refl

-- A group's tag is an octet.
group_tag_octet : (tag : ℕ) → IsGroupTag tag → tag < 256
group_tag_octet tag known = ⊎_elim (λ h. h) (λ h. absurd (too_large h)) (cases_lt tag 256)
  where
    too_large : 256 ≤ tag → ⊥
    too_large h =
        let a : nat_le tag 17 ≡ false = grind arith in
        let b : (tag == 22) ≡ false = grind (arith, nat_tests) in
        let d : (tag == 23) ≡ false = grind (arith, nat_tests) in
        let first : (nat_le 12 tag && nat_le tag 17) ≡ false = ap (λ x. nat_le 12 tag && x) a ∙ and_false (nat_le 12 tag) in
        let wrong : false ≡ true = sym (rw (first, b, d) refl) ∙ known in
        cc

tagged_again : (group : GroupData) (bits rest : List Bool) (at : ℕ) → EncodesTaggedGroup group bits
    → tagged_group_at (record { left = bits ++ rest; at = at }) ≡ Ok (group, record { left = rest; at = at + length bits })
unfolding tagged_group_at data_at
tagged_again group bits rest at encoded =
    let known : IsGroupTag group.tag = encoded.encoded.0 in
    let tag_bits : List Bool = unsigned_bits 8 group.tag in
    let size = length-encoding (group_fields group.tag) group.values encoded.body encoded.encoded.1 in
    let regrouped : bits ++ rest ≡ tag_bits ++ (encoded.body ++ rest) = ap (λ x. x ++ rest) encoded.stands ∙ append_assoc tag_bits encoded.body rest in
    let place : at + 8 + size_of (group_fields group.tag) ≡ at + length bits =
    omega (arith, ap length encoded.stands, length-append (unsigned_bits 8 group.tag) encoded.body, length-unsigned_bits 8 group.tag, size) in
    ap (λ left. tagged_group_at (record { left = left; at = at })) regrouped
    ∙ ap (λ reading. reading >>= λ tag. refused_as as_refusal (group_at tag.0 tag.1)) (octet_again group.tag at (encoded.body ++ rest) (group_tag_octet group.tag known))
    ∙ data_at_known group.tag (record { left = encoded.body ++ rest; at = at + 8 }) known
    ∙ ap (λ reading. refused_as short_at (reading >>= λ values. Ok (record { tag = group.tag; values = values.0 }, values.1)))
    (fields_again (group_fields group.tag) group.values encoded.body rest (at + 8) (group_wide group.tag) encoded.encoded.1)
    ∙ ap (λ bit. Ok (group, record { left = rest; at = bit })) place

-- A group that begins is refused where a field of it is cut.
tagged_refused : (room : ℕ) (old : Unread) (refusal : DownRefusal) → begins is_group_tag old ≡ true → tagged_group_at old ≡ Err refusal
    → IsGroupFault (suc room) old refusal.bit refusal.why
unfolding tagged_group_at data_at
tagged_refused room old refusal there given =
    let next = stands_next is_group_tag old there in
    let body : Unread = record { left = next.rest; at = old.at + 8 } in
    let read_tag : octet_at old ≡ Ok (next.value, body) =
    ap (λ left. octet_at (record { left = left; at = old.at })) next.bits ∙ octet_again next.value old.at next.rest next.fits in
    let data_refused : data_at next.value body ≡ Err refusal =
    sym (data_at_known next.value body next.passes)
    ∙ sym (ap (λ reading. reading >>= λ tag. refused_as as_refusal (group_at tag.0 tag.1)) read_tag) ∙ given in
    let q = refused_err short_at (fields_at (group_fields next.value) body >>= λ values. Ok (record { tag = next.value; values = values.0 }, values.1)) refusal data_refused in
    let cut : IsFirstCut (group_fields next.value) body q.0 =
    ⊎_elim (λ e. fields_refused (group_fields next.value) body q.0 (group_wide next.value) e)
    (λ p. absurd (ok_is_no_err (record { tag = next.value; values = p.0.0 }, p.0.1) q.0 p.2))
    (bind_err (fields_at (group_fields next.value) body) (λ values. Ok (record { tag = next.value; values = values.0 }, values.1)) q.0 q.1) in
    record {
      tag = next.value;
      body = next.rest;
      octet = next.fits;
      stands = next.bits;
      known = next.passes;
      fault = inr (omega arith, sym (ap (λ r. r.why) q.2), subst (IsFirstCut (group_fields next.value) body) (ap (λ r. r.bit) q.2) cut);
    }

-- A group at fault begins.
pub fault_begins : (room bit : ℕ) (old : Unread) (cause : DownWhy) → IsGroupFault room old bit cause → begins is_group_tag old ≡ true
fault_begins room bit old cause fault =
    ap (λ left. begins is_group_tag (record { left = left; at = old.at })) fault.stands ∙ begins_octet is_group_tag fault.tag old.at fault.body fault.octet ∙ fault.known

tagged_cut : (tag bit : ℕ) (body : List Bool) (old : Unread) → tag < 256 → IsGroupTag tag → old.left ≡ unsigned_bits 8 tag ++ body
    → IsFirstCut (group_fields tag) (record { left = body; at = old.at + 8 }) bit → tagged_group_at old ≡ Err (short_at bit)
unfolding tagged_group_at data_at
tagged_cut tag bit body old fits known stands cut =
    ap (λ left. tagged_group_at (record { left = left; at = old.at })) stands
    ∙ ap (λ reading. reading >>= λ t. refused_as as_refusal (group_at t.0 t.1)) (octet_again tag old.at body fits)
    ∙ data_at_known tag (record { left = body; at = old.at + 8 }) known
    ∙ ap (λ reading. refused_as short_at (reading >>= λ values. Ok (record { tag = tag; values = values.0 }, values.1)))
    (first_cut_refused (group_fields tag) (record { left = body; at = old.at + 8 }) bit cut)

-- An encoded group begins with its tag.
group_begins : (group : GroupData) (bits rest : List Bool) (at : ℕ) → EncodesTaggedGroup group bits → begins is_group_tag (record { left = bits ++ rest; at = at }) ≡ true
group_begins group bits rest at encoded =
    ap (λ left. begins is_group_tag (record { left = left; at = at })) (ap (λ x. x ++ rest) encoded.stands ∙ append_assoc (unsigned_bits 8 group.tag) encoded.body rest)
    ∙ begins_octet is_group_tag group.tag at (encoded.body ++ rest) (group_tag_octet group.tag encoded.encoded.0) ∙ encoded.encoded.0

-- ---- groups

pub record TakesGroups (room : ℕ) (groups : List GroupData) (old new : Unread) : Type 0 where
  pub took : TakesEncoding (EncodesEach EncodesTaggedGroup groups) old new
  pub few : length groups ≤ room
  pub ended : begins is_group_tag new ≡ false

takes_none : (room : ℕ) (groups : List GroupData) (old new : Unread) → begins is_group_tag old ≡ false → groups_at room old ≡ Ok (groups, new) → TakesGroups room groups old new
takes_none room groups old new none given =
    let same = ok_same {F = DownRefusal} ([], old) (groups, new) (sym (groups_end room old none) ∙ given) in
    subst (λ x. TakesGroups room x.0 old x.1) same
    (record {
      took = record { front = []; encoded = refl; bits = refl; place = omega arith };
      few = omega arith;
      ended = none;
    })

takes_one_more : (room : ℕ) (groups : List GroupData) (old new : Unread) → begins is_group_tag old ≡ true → groups_at (suc room) old ≡ Ok (groups, new)
    → ((others : List GroupData) (now : Unread) → groups_at room now ≡ Ok (others, new) → TakesGroups room others now new) → TakesGroups (suc room) groups old new
takes_one_more room groups old new there given behind =
    let p = bind_ok (tagged_group_at old) (λ group. groups_at room group.1 >>= λ others. Ok (group.0 ∷ others.0, others.1)) (groups, new)
    (sym (groups_next room old there) ∙ given) in
    let q = bind_ok (groups_at room p.0.1) (λ others. Ok (p.0.0 ∷ others.0, others.1)) (groups, new) p.2 in
    let same = ok_same {F = DownRefusal} (p.0.0 ∷ q.0.0, q.0.1) (groups, new) q.2 in
    let first = tagged_takes p.0.0 old p.0.1 there p.1 in
    let later = behind q.0.0 p.0.1 (q.1 ∙ ap (λ x. Ok (q.0.0, x.1)) same) in
    subst (λ xs. TakesGroups (suc room) xs old new) (ap (λ x. x.0) same)
    (record {
      took = record {
        front = first.front ++ later.took.front;
        encoded = (first.front, later.took.front, refl, first.encoded, later.took.encoded);
        bits = first.bits ∙ ap (λ bits. first.front ++ bits) later.took.bits ∙ sym (append_assoc first.front later.took.front new.left);
        place = omega (arith, first.place, later.took.place, length-append first.front later.took.front);
      };
      few = omega (arith, later.few);
      ended = later.ended;
    })

pub groups_take : (room : ℕ) (groups : List GroupData) (old new : Unread) → groups_at room old ≡ Ok (groups, new) → TakesGroups room groups old new
groups_take zero groups old new given =
    ⊎_elim (λ more. absurd (ok_is_no_err (groups, new) (many_at old.at) (sym given ∙ groups_full old more))) (λ none. takes_none 0 groups old new none given)
    (cases_Bool (begins is_group_tag old))
groups_take (suc room) groups old new given =
    ⊎_elim (λ more. takes_one_more room groups old new more given (λ others now read. groups_take room others now new read))
    (λ none. takes_none (suc room) groups old new none given) (cases_Bool (begins is_group_tag old))

-- Whole groups are read, and then what is read behind them.
no_front : {A F : Type 0} (reading : Result (List A × Unread) F) → reading ≡ with_front [] reading
no_front (Ok x) = refl
no_front (Err refusal) = refl

pub groups_through : (groups : List GroupData) (front rest : List Bool) (at room : ℕ) → EncodesEach EncodesTaggedGroup groups front
    → groups_at (length groups + room) (record { left = front ++ rest; at = at }) ≡ with_front groups (groups_at room (record { left = rest; at = at + length front }))
groups_through [] front rest at room encoded =
    let place : at ≡ at + length front = omega (arith, ap length encoded) in
    ap₂ (λ n left. groups_at n (record { left = left; at = at })) (zero-add room) (ap (λ x. x ++ rest) encoded)
    ∙ ap (λ bit. groups_at room (record { left = rest; at = bit })) place
    ∙ no_front (groups_at room (record { left = rest; at = at + length front }))
groups_through (group ∷ groups) front rest at room encoded =
    let one : List Bool = encoded.0 in
    let others : List Bool = encoded.1 in
    let regrouped : front ++ rest ≡ one ++ (others ++ rest) = ap (λ x. x ++ rest) encoded.2 ∙ append_assoc one others rest in
    let place : at + length one + length others ≡ at + length front = omega (arith, ap length encoded.2, length-append one others) in
    ap₂ (λ n left. groups_at n (record { left = left; at = at })) (suc-add (length groups) room) regrouped
    ∙ groups_next (length groups + room) (record { left = one ++ (others ++ rest); at = at }) (group_begins group one (others ++ rest) at encoded.3)
    ∙ ap (λ reading. reading >>= λ x. with_front (x.0 ∷ []) (groups_at (length groups + room) x.1)) (tagged_again group one (others ++ rest) at encoded.3)
    ∙ ap (with_front (group ∷ [])) (groups_through groups others rest (at + length one) room encoded.4)
    ∙ front_of_front (group ∷ []) groups (groups_at room (record { left = rest; at = at + length one + length others }))
    ∙ ap (λ bit. with_front (group ∷ groups) (groups_at room (record { left = rest; at = bit }))) place

-- ---- where groups are refused

-- Whole groups stand first, and then a group that is at fault.
pub record GroupsFault (room : ℕ) (old : Unread) (bit : ℕ) (cause : DownWhy) : Type 0 where
  pub groups : List GroupData
  pub front : List Bool
  pub rest : List Bool
  pub left_over : ℕ
  pub stand : old.left ≡ front ++ rest
  pub encoded : EncodesEach EncodesTaggedGroup groups front
  pub counted : length groups + left_over ≡ room
  pub fault : IsGroupFault left_over (record { left = rest; at = old.at + length front }) bit cause

fault_at_once : (room : ℕ) (old : Unread) (bit : ℕ) (cause : DownWhy) → IsGroupFault room old bit cause → GroupsFault room old bit cause
fault_at_once room old bit cause fault = record {
  groups = [];
  front = [];
  rest = old.left;
  left_over = room;
  stand = refl;
  encoded = refl;
  counted = omega arith;
  fault = subst (λ at. IsGroupFault room (record { left = old.left; at = at }) bit cause) (let e : old.at ≡ old.at + 0 = omega arith in e) fault;
}

fault_behind : (room : ℕ) (group : GroupData) (old new : Unread) (bit : ℕ) (cause : DownWhy) → TakesEncoding (EncodesTaggedGroup group) old new
    → GroupsFault room new bit cause → GroupsFault (suc room) old bit cause
fault_behind room group old new bit cause first later = record {
  groups = group ∷ later.groups;
  front = first.front ++ later.front;
  rest = later.rest;
  left_over = later.left_over;
  stand = first.bits ∙ ap (λ bits. first.front ++ bits) later.stand ∙ sym (append_assoc first.front later.front later.rest);
  encoded = (first.front, later.front, refl, first.encoded, later.encoded);
  counted = omega (arith, later.counted);
  fault = subst (λ at. IsGroupFault later.left_over (record { left = later.rest; at = at }) bit cause)
      (let e : new.at + length later.front ≡ old.at + length (first.front ++ later.front) = omega (arith, first.place, length-append first.front later.front) in e) later.fault;
}

one_too_many : (old : Unread) (refusal : DownRefusal) → begins is_group_tag old ≡ true → groups_at 0 old ≡ Err refusal → IsGroupFault 0 old refusal.bit refusal.why
one_too_many old refusal there given =
    let next = stands_next is_group_tag old there in
    let same = err_same {A = List GroupData × Unread} (many_at old.at) refusal (sym (groups_full old there) ∙ given) in
    record {
      tag = next.value;
      body = next.rest;
      octet = next.fits;
      stands = next.bits;
      known = next.passes;
      fault = inl (refl, sym (ap (λ r. r.why) same), sym (ap (λ r. r.bit) same));
    }

pub groups_refused : (room : ℕ) (old : Unread) (refusal : DownRefusal) → groups_at room old ≡ Err refusal → GroupsFault room old refusal.bit refusal.why
groups_refused zero old refusal given =
    ⊎_elim (λ there. fault_at_once 0 old refusal.bit refusal.why (one_too_many old refusal there given))
    (λ none. absurd (ok_is_no_err ([], old) refusal (sym (groups_end 0 old none) ∙ given))) (cases_Bool (begins is_group_tag old))
groups_refused (suc room) old refusal given =
    ⊎_elim
    (λ there.
    ⊎_elim (λ e. fault_at_once (suc room) old refusal.bit refusal.why (tagged_refused room old refusal there e))
    (λ p. ⊎_elim
    (λ e. fault_behind room p.0.0 old p.0.1 refusal.bit refusal.why (tagged_takes p.0.0 old p.0.1 there p.1) (groups_refused room p.0.1 refusal e))
    (λ q. absurd (ok_is_no_err (p.0.0 ∷ q.0.0, q.0.1) refusal q.2))
    (bind_err (groups_at room p.0.1) (λ others. Ok (p.0.0 ∷ others.0, others.1)) refusal p.2))
    (bind_err (tagged_group_at old) (λ group. groups_at room group.1 >>= λ others. Ok (group.0 ∷ others.0, others.1)) refusal
    (sym (groups_next room old there) ∙ given)))
    (λ none. absurd (ok_is_no_err ([], old) refusal (sym (groups_end (suc room) old none) ∙ given))) (cases_Bool (begins is_group_tag old))

fault_here : (room : ℕ) (old : Unread) (bit : ℕ) (cause : DownWhy) → IsGroupFault room old bit cause → groups_at room old ≡ Err (record { bit = bit; why = cause })
fault_here zero old bit cause fault =
    ⊎_elim (λ p. groups_full old (fault_begins 0 bit old cause fault) ∙ ap₂ (λ b w. Err (record { bit = b; why = w })) (sym p.2) (sym p.1)) (λ p. absurd (omega (arith, p.0)))
    fault.fault
fault_here (suc room) old bit cause fault =
    ⊎_elim (λ p. absurd (omega (arith, p.0)))
    (λ p.
    groups_next room old (fault_begins (suc room) bit old cause fault)
    ∙ ap (λ reading. reading >>= λ group. with_front (group.0 ∷ []) (groups_at room group.1)) (tagged_cut fault.tag bit fault.body old fault.octet fault.known fault.stands p.2)
    ∙ ap (λ w. Err (record { bit = bit; why = w })) (sym p.1))
    fault.fault

pub groups_fault : (room : ℕ) (old : Unread) (bit : ℕ) (cause : DownWhy) → GroupsFault room old bit cause → groups_at room old ≡ Err (record { bit = bit; why = cause })
groups_fault room old bit cause fault =
    ap₂ (λ n left. groups_at n (record { left = left; at = old.at })) (sym fault.counted) fault.stand
    ∙ groups_through fault.groups fault.front fault.rest old.at fault.left_over fault.encoded
    ∙ ap (with_front fault.groups) (fault_here fault.left_over (record { left = fault.rest; at = old.at + length fault.front }) bit cause fault.fault)
