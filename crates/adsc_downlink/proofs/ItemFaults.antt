-- Where reading an item is refused.
use Rattle.std.proofs.Common.{◌≡◌, ℕ, ◌+◌, ◌<◌, Bool, true, false, List, [], ◌∷◌, ◌++◌, ◌&&◌, ◌||◌, length, get_or, Ok, Err, IsTrue, refl, sym, ap, ap₂, ◌∙◌, subst, inl, inr, ⊎_elim, ◌⊎◌, if◌then◌else◌}
use Rattle.std.proofs.lemmas.Bool.{cases_Bool, both_ways, or_parts, and_parts, agree_below_at}
use Rattle.bit_terms.specs.Bits.{unsigned_bits}
use Rattle.bit_terms.specs.Octets.{octets_bits}
use Rattle.bit_terms.specs.Reading.{Unread, ◌>>=◌}
use Rattle.bit_terms.proofs.ReadingLaws.{bind_err, ok_is_no_err, err_same}
use Rattle.contract_rules.specs.Reasons.{names_octet}
use Rattle.adsc_downlink.specs.Codes.{any, is_reason, is_octet_tag, is_report_tag, is_item_tag, item_tests}
use Rattle.adsc_downlink.specs.Items.{ItemData}
use Rattle.adsc_downlink.specs.Items.ItemData.{ack, nack, noncompliance, emergency_off, report}
use Rattle.adsc_downlink.specs.Faults.{IsFirstOctetFault, IsPlaceCut, IsBodyFault, IsItemFault}
use Rattle.adsc_downlink.specs.Reading.{octet_at, octets_where, nack_at, number_at, report_at, body_at, item_at}
use Rattle.adsc_downlink.specs.Refusals.{short_at, tag_at}
use Rattle.adsc_downlink.specs.declared.refusal.DownRefusal.{DownRefusal}
use Rattle.adsc_downlink.specs.declared.refusal.DownWhy.{DownWhy}
use Rattle.adsc_downlink.specs.declared.refusal.DownWhy.TheVariants as why
use Rattle.adsc_downlink.proofs.ItemReading.{kind_of, body_of_report, body_of_other, tag_again, report_is_no_octets, reason_octet, two_taken, place_behind, nack_turn, first_passes}
use Rattle.adsc_downlink.proofs.ItemReading.Kind.{three, four, five, six, reports, unknown_tag}
use Rattle.adsc_downlink.proofs.OctetLaws.{octet_takes, octet_refused, octet_short, octets_again, octets_refused, octets_fault}
use Rattle.adsc_downlink.proofs.ReportReading.{report_refused, report_cut, report_fault}

-- ---- what a refusal says of the bits

number_refused : (tag : ℕ) (old : Unread) (refusal : DownRefusal) → number_at tag old ≡ Err refusal → IsFirstOctetFault (item_tests tag) old refusal.bit refusal.why
unfolding number_at
number_refused tag old refusal given =
    ⊎_elim (λ e. octets_refused (item_tests tag) old refusal e) (λ p. absurd (ok_is_no_err (get_or p.0.0 0 0, p.0.1) refusal p.2))
    (bind_err (octets_where (item_tests tag) old) (λ octets. Ok (get_or octets.0 0 0, octets.1)) refusal given)

place_refused : (n reason : ℕ) (old now : Unread) (refusal : DownRefusal) → n < 256 → IsTrue (is_reason reason) → old.left ≡ octets_bits (n ∷ reason ∷ []) ++ now.left
    → now.at ≡ old.at + 16 → place_behind n reason now ≡ Err refusal → IsPlaceCut old refusal.bit × (refusal.why ≡ why.Short)
place_refused n reason old now refusal fits known bits at given = ⊎_elim with_place without_place (cases_Bool (names_octet reason))
  where
    with_place : names_octet reason ≡ true → IsPlaceCut old refusal.bit × (refusal.why ≡ why.Short)
    with_place has =
        ⊎_elim
        (λ e. let p = octet_refused now refusal e in (
          record {
            octets = n ∷ reason ∷ [];
            rest = now.left;
            pass = (fits, refl, (reason_octet reason known, has, refl));
            stand = bits;
            cut = p.1;
            place = ap (λ r. r.bit) p.0 ∙ at;
          },
          ap (λ r. r.why) p.0,
        ))
        (λ p. absurd (ok_is_no_err (nack n reason p.0.0, p.0.1) refusal p.2))
        (bind_err (octet_at now) (λ place. Ok (nack n reason place.0, place.1)) refusal
        (sym (ap (λ test. if test then (octet_at now >>= λ place. Ok (nack n reason place.0, place.1)) else Ok (nack n reason 0, now)) has) ∙ given))

    without_place : names_octet reason ≡ false → IsPlaceCut old refusal.bit × (refusal.why ≡ why.Short)
    without_place none =
        absurd (ok_is_no_err (nack n reason 0, now) refusal
        (sym (ap (λ test. if test then (octet_at now >>= λ place. Ok (nack n reason place.0, place.1)) else Ok (nack n reason 0, now)) none) ∙ given))

nack_refused : (old : Unread) (refusal : DownRefusal) → nack_at old ≡ Err refusal
    → IsFirstOctetFault (item_tests 4) old refusal.bit refusal.why ⊎ (IsPlaceCut old refusal.bit × (refusal.why ≡ why.Short))
unfolding nack_at
nack_refused old refusal given =
    ⊎_elim (λ e. inl (octets_refused (item_tests 4) old refusal e))
    (λ p. let took = two_taken p.0.0 old p.0.1 p.1 in
    let turn = nack_turn old p.0.1 took.n took.reason (p.1 ∙ ap (λ xs. Ok (xs, p.0.1)) took.listed) in
    inr (place_refused took.n took.reason old p.0.1 refusal took.n_fits took.known took.bits took.place (sym turn ∙ given)))
    (bind_err (octets_where (item_tests 4) old) (λ octets.
    if names_octet (get_or octets.0 1 0) then
    (octet_at octets.1 >>= λ place. Ok (nack (get_or octets.0 0 0) (get_or octets.0 1 0) place.0, place.1))
    else Ok (nack (get_or octets.0 0 0) (get_or octets.0 1 0) 0, octets.1)) refusal given)

-- The tag is none of an item.
abbrev pub IsUnknownTag : ℕ → Type 0
IsUnknownTag tag = (is_octet_tag tag ≡ false) × (is_report_tag tag ≡ false)

body_refused : (place tag : ℕ) (old : Unread) (refusal : DownRefusal) → body_at place tag old ≡ Err refusal
    → IsBodyFault tag old refusal.bit refusal.why ⊎ (IsUnknownTag tag × (refusal ≡ tag_at place))
unfolding body_at
body_refused place tag old refusal given =
    elim (kind_of tag) [
      | three e ↦ subst (λ t. body_at place t old ≡ Err refusal → IsBodyFault t old refusal.bit refusal.why ⊎ (IsUnknownTag t × (refusal ≡ tag_at place))) (sym e) an_ack given
      | four e ↦ subst (λ t. body_at place t old ≡ Err refusal → IsBodyFault t old refusal.bit refusal.why ⊎ (IsUnknownTag t × (refusal ≡ tag_at place))) (sym e) a_nack given
      | five e ↦ subst (λ t. body_at place t old ≡ Err refusal → IsBodyFault t old refusal.bit refusal.why ⊎ (IsUnknownTag t × (refusal ≡ tag_at place))) (sym e) a_noncompliance given
      | six e ↦ subst (λ t. body_at place t old ≡ Err refusal → IsBodyFault t old refusal.bit refusal.why ⊎ (IsUnknownTag t × (refusal ≡ tag_at place))) (sym e) an_end given
      | reports large known ↦ a_report large known
      | unknown_tag large unknown ↦
          inr ((large, unknown), sym (err_same {A = ItemData × Unread} (tag_at place) refusal (sym (body_of_other place tag old large unknown) ∙ given)))
    ]
  where
    an_ack : body_at place 3 old ≡ Err refusal → IsBodyFault 3 old refusal.bit refusal.why ⊎ (IsUnknownTag 3 × (refusal ≡ tag_at place))
    an_ack read =
        ⊎_elim (λ e. inl (inl (refl, number_refused 3 old refusal e))) (λ p. absurd (ok_is_no_err (ack p.0.0, p.0.1) refusal p.2))
        (bind_err (number_at 3 old) (λ n. Ok (ack n.0, n.1)) refusal read)

    a_nack : body_at place 4 old ≡ Err refusal → IsBodyFault 4 old refusal.bit refusal.why ⊎ (IsUnknownTag 4 × (refusal ≡ tag_at place))
    a_nack read = ⊎_elim (λ fault. inl (inl (refl, fault))) (λ p. inl (inr (inl (refl, p.0, p.1)))) (nack_refused old refusal read)

    a_noncompliance : body_at place 5 old ≡ Err refusal → IsBodyFault 5 old refusal.bit refusal.why ⊎ (IsUnknownTag 5 × (refusal ≡ tag_at place))
    a_noncompliance read =
        ⊎_elim (λ e. inl (inl (refl, number_refused 5 old refusal e))) (λ p. absurd (ok_is_no_err (noncompliance p.0.0, p.0.1) refusal p.2))
        (bind_err (number_at 5 old) (λ n. Ok (noncompliance n.0, n.1)) refusal read)

    an_end : body_at place 6 old ≡ Err refusal → IsBodyFault 6 old refusal.bit refusal.why ⊎ (IsUnknownTag 6 × (refusal ≡ tag_at place))
    an_end read =
        ⊎_elim (λ e. inl (inl (refl, number_refused 6 old refusal e))) (λ p. absurd (ok_is_no_err (emergency_off p.0.0, p.0.1) refusal p.2))
        (bind_err (number_at 6 old) (λ n. Ok (emergency_off n.0, n.1)) refusal read)

    a_report : is_octet_tag tag ≡ false → is_report_tag tag ≡ true → IsBodyFault tag old refusal.bit refusal.why ⊎ (IsUnknownTag tag × (refusal ≡ tag_at place))
    a_report large known =
        ⊎_elim
        (λ e. ⊎_elim (λ p. inl (inr (inr (inl (known, p.0, p.1))))) (λ fault. inl (inr (inr (inr (known, fault))))) (report_refused tag old refusal e))
        (λ p. absurd (ok_is_no_err (report p.0.0, p.0.1) refusal p.2))
        (bind_err (report_at tag old) (λ one. Ok (report one.0, one.1)) refusal (sym (body_of_report place tag old large known) ∙ given))

-- An octet in the place of a tag is none of an item.
pub record UnknownTag (old : Unread) : Type 0 where
  pub tag : ℕ
  pub body : List Bool
  pub fits : tag < 256
  pub bits : old.left ≡ unsigned_bits 8 tag ++ body
  pub unknown : is_item_tag tag ≡ false

-- Reading an item is refused where the tag isn't wholly there, where it is none of an item, and where something behind the tag is at fault.
pub item_refused : (old : Unread) (refusal : DownRefusal) → item_at old ≡ Err refusal
    → ((refusal ≡ short_at old.at) × (length old.left < 8)) ⊎ ((UnknownTag old × (refusal ≡ tag_at old.at)) ⊎ IsItemFault old refusal.bit refusal.why)
unfolding item_at
item_refused old refusal given =
    ⊎_elim (λ e. inl (octet_refused old refusal e))
    (λ p. let tag = octet_takes p.0.0 old p.0.1 p.1 in
    ⊎_elim
    (λ fault. inr (inr (record {
      tag = p.0.0;
      body = p.0.1.left;
      octet = tag.fits;
      stands = tag.bits;
      fault = subst (λ at. IsBodyFault p.0.0 (record { left = p.0.1.left; at = at }) refusal.bit refusal.why) tag.place fault;
    })))
    (λ q. inr (inl (record { tag = p.0.0; body = p.0.1.left; fits = tag.fits; bits = tag.bits; unknown = no_item p.0.0 q.0.0 q.0.1 }, q.1)))
    (body_refused old.at p.0.0 p.0.1 refusal p.2))
    (bind_err (octet_at old) (λ tag. body_at old.at tag.0 tag.1) refusal given)
  where
    no_item : (tag : ℕ) → is_octet_tag tag ≡ false → is_report_tag tag ≡ false → is_item_tag tag ≡ false
    no_item tag large unknown = ap₂ (λ a b. a || b) large unknown

-- ---- what is refused

number_fault : (tag : ℕ) (old : Unread) (bit : ℕ) (cause : DownWhy) → IsFirstOctetFault (item_tests tag) old bit cause
    → number_at tag old ≡ Err (record { bit = bit; why = cause })
unfolding number_at
number_fault tag old bit cause fault =
    ap (λ reading. reading >>= λ octets. Ok (get_or octets.0 0 0, octets.1)) (octets_fault (item_tests tag) old (record { bit = bit; why = cause }) fault)

nack_fault : (old : Unread) (bit : ℕ) (cause : DownWhy) → IsFirstOctetFault (item_tests 4) old bit cause → nack_at old ≡ Err (record { bit = bit; why = cause })
unfolding nack_at
nack_fault old bit cause fault =
    ap (λ reading. reading >>= λ octets.
    if names_octet (get_or octets.0 1 0) then
    (octet_at octets.1 >>= λ place. Ok (nack (get_or octets.0 0 0) (get_or octets.0 1 0) place.0, place.1))
    else Ok (nack (get_or octets.0 0 0) (get_or octets.0 1 0) 0, octets.1)) (octets_fault (item_tests 4) old (record { bit = bit; why = cause }) fault)

-- A reason with a place is a reason.
place_has_reason : (reason : ℕ) → reason < 256 → IsTrue (names_octet reason) → IsTrue (is_reason reason)
place_has_reason reason fits has =
    let same : (names_octet reason && is_reason reason) ≡ names_octet reason = agree_below_at (λ r. names_octet r && is_reason r) names_octet 256 reason refl fits in
    (and_parts (names_octet reason) (is_reason reason) (same ∙ has)).1

nack_cut : (old : Unread) (bit : ℕ) → IsPlaceCut old bit → nack_at old ≡ Err (short_at bit)
nack_cut old bit cut =
    let a = first_passes any (names_octet ∷ []) cut.octets cut.pass in
    let b = first_passes names_octet [] a.behind a.pass in
    let listed : cut.octets ≡ a.first ∷ b.first ∷ [] = a.listed ∙ ap (λ xs. a.first ∷ xs) (b.listed ∙ ap (λ xs. b.first ∷ xs) b.pass) in
    let now : Unread = record { left = cut.rest; at = old.at + 16 } in
    ap (λ left. nack_at (record { left = left; at = old.at })) (cut.stand ∙ ap (λ xs. octets_bits xs ++ cut.rest) listed)
    ∙ nack_turn (record { left = octets_bits (a.first ∷ b.first ∷ []) ++ cut.rest; at = old.at }) now a.first b.first
    (octets_again (item_tests 4) (a.first ∷ b.first ∷ []) cut.rest old.at (a.fits, refl, (b.fits, place_has_reason b.first b.fits b.passes, refl)))
    ∙ ap (λ test. if test then (octet_at now >>= λ place. Ok (nack a.first b.first place.0, place.1)) else Ok (nack a.first b.first 0, now)) b.passes
    ∙ ap (λ reading. reading >>= λ place. Ok (nack a.first b.first place.0, place.1)) (octet_short now cut.cut)
    ∙ ap (λ at. Err (short_at at)) (sym cut.place)

octet_body_fault : (place tag : ℕ) (old : Unread) (bit : ℕ) (cause : DownWhy) → IsTrue (is_octet_tag tag) → IsFirstOctetFault (item_tests tag) old bit cause
    → body_at place tag old ≡ Err (record { bit = bit; why = cause })
unfolding body_at
octet_body_fault place tag old bit cause small fault =
    elim (kind_of tag) [
      | three e ↦ subst (λ t. IsFirstOctetFault (item_tests t) old bit cause → body_at place t old ≡ Err (record { bit = bit; why = cause })) (sym e)
          (λ f. ap (λ reading. reading >>= λ n. Ok (ack n.0, n.1)) (number_fault 3 old bit cause f)) fault
      | four e ↦ subst (λ t. IsFirstOctetFault (item_tests t) old bit cause → body_at place t old ≡ Err (record { bit = bit; why = cause })) (sym e)
          (λ f. nack_fault old bit cause f) fault
      | five e ↦ subst (λ t. IsFirstOctetFault (item_tests t) old bit cause → body_at place t old ≡ Err (record { bit = bit; why = cause })) (sym e)
          (λ f. ap (λ reading. reading >>= λ n. Ok (noncompliance n.0, n.1)) (number_fault 5 old bit cause f)) fault
      | six e ↦ subst (λ t. IsFirstOctetFault (item_tests t) old bit cause → body_at place t old ≡ Err (record { bit = bit; why = cause })) (sym e)
          (λ f. ap (λ reading. reading >>= λ n. Ok (emergency_off n.0, n.1)) (number_fault 6 old bit cause f)) fault
      | reports large known ↦ absurd (both_ways (is_octet_tag tag) large small)
      | unknown_tag large unknown ↦ absurd (both_ways (is_octet_tag tag) large small)
    ]

report_body_fault : (place tag : ℕ) (old : Unread) (refusal : DownRefusal) → tag < 256 → IsTrue (is_report_tag tag) → report_at tag old ≡ Err refusal
    → body_at place tag old ≡ Err refusal
report_body_fault place tag old refusal fits known refused =
    body_of_report place tag old (report_is_no_octets tag fits known) known ∙ ap (λ reading. reading >>= λ one. Ok (report one.0, one.1)) refused

body_fault : (place tag : ℕ) (old : Unread) (bit : ℕ) (cause : DownWhy) → tag < 256 → IsBodyFault tag old bit cause
    → body_at place tag old ≡ Err (record { bit = bit; why = cause })
unfolding body_at
body_fault place tag old bit cause fits fault =
    ⊎_elim (λ p. octet_body_fault place tag old bit cause p.0 p.1)
    (⊎_elim (λ p. ap (λ t. body_at place t old) p.0 ∙ nack_cut old bit p.1 ∙ ap (λ w. Err (record { bit = bit; why = w })) (sym p.2))
    (⊎_elim
    (λ p. report_body_fault place tag old (record { bit = bit; why = cause }) fits p.0 (report_cut tag old bit p.1 ∙ ap (λ w. Err (record { bit = bit; why = w })) (sym p.2)))
    (λ p. report_body_fault place tag old (record { bit = bit; why = cause }) fits p.0 (report_fault tag old bit cause p.1))))
    fault

pub item_fault : (old : Unread) (bit : ℕ) (cause : DownWhy) → IsItemFault old bit cause → item_at old ≡ Err (record { bit = bit; why = cause })
item_fault old bit cause fault =
    ap (λ left. item_at (record { left = left; at = old.at })) fault.stands
    ∙ tag_again fault.tag old.at fault.body fault.octet
    ∙ body_fault old.at fault.tag (record { left = fault.body; at = old.at + 8 }) bit cause fault.octet fault.fault

pub unknown_refused : (old : Unread) → UnknownTag old → item_at old ≡ Err (tag_at old.at)
unknown_refused old p =
    let parts = or_parts (is_octet_tag p.tag) (is_report_tag p.tag) p.unknown in
    ap (λ left. item_at (record { left = left; at = old.at })) p.bits
    ∙ tag_again p.tag old.at p.body p.fits ∙ body_of_other old.at p.tag (record { left = p.body; at = old.at + 8 }) parts.0 parts.1

pub item_short : (old : Unread) → length old.left < 8 → item_at old ≡ Err (short_at old.at)
unfolding item_at
item_short old few = ap (λ reading. reading >>= λ tag. body_at old.at tag.0 tag.1) (octet_short old few)
