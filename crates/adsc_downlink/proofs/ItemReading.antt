-- The laws of reading an item.
use Rattle.std.proofs.Common.{◌≡◌, ℕ, ◌+◌, ◌*◌, ◌<◌, ◌≤◌, Bool, true, false, List, [], ◌∷◌, ◌++◌, ◌&&◌, ◌||◌, ◌==◌, nat_le, length, get_or, Result, Ok, Err, IsTrue, refl, sym, ap, ap₂, ◌∙◌, subst, ⊎_elim, arith, append-nil, append_assoc, length-append, if◌then◌else◌}
use Rattle.std.proofs.lemmas.Bool.{cases_Bool, cases_lt, eqb-true, ne_eqb, or_parts, or_cases, and_parts, leb-true, agree_below_at}
use Rattle.bit_terms.specs.Bits.{unsigned_bits}
use Rattle.bit_terms.specs.Octets.{octets_bits}
use Rattle.bit_terms.specs.Reading.{Unread, ◌>>=◌}
use Rattle.bit_terms.proofs.BitsLaws.{length-unsigned_bits}
use Rattle.bit_terms.proofs.OctetsLaws.{length-octets_bits, octets_bits-append}
use Rattle.bit_terms.proofs.ReadingLaws.{bind_ok, ok_same, ok_is_no_err}
use Rattle.adsc_groups.specs.Groups.{is_group_tag}
use Rattle.contract_rules.specs.Reasons.{names_octet}
use Rattle.adsc_downlink.specs.Codes.{any, only, is_reason, is_place_of, is_octet_tag, is_report_tag, item_tests}
use Rattle.adsc_downlink.specs.Items.{ReportData, ItemData, item_bits}
use Rattle.adsc_downlink.specs.Items.ItemData.{ack, nack, noncompliance, emergency_off, report}
use Rattle.adsc_downlink.specs.Encodings.{EncodesReport, EncodesItem}
use Rattle.adsc_downlink.specs.Faults.{PassEach, is_report}
use Rattle.adsc_downlink.specs.Reading.{octet_at, octets_where, begins, nack_at, number_at, report_at, body_at, item_at}
use Rattle.adsc_downlink.specs.Refusals.{tag_at}
use Rattle.adsc_downlink.specs.declared.refusal.DownRefusal.{DownRefusal}
use Rattle.adsc_downlink.proofs.GroupReading.{TakesEncoding}
use Rattle.adsc_downlink.proofs.OctetLaws.{octet_takes, octet_again, octets_take, octets_again}
use Rattle.adsc_downlink.proofs.ReportReading.{report_takes, report_again}

-- ---- tags

-- What a tag can be.
pub data Kind (tag : ℕ) : Type 0 where
  three : tag ≡ 3 → Kind tag
  four : tag ≡ 4 → Kind tag
  five : tag ≡ 5 → Kind tag
  six : tag ≡ 6 → Kind tag
  reports : is_octet_tag tag ≡ false → is_report_tag tag ≡ true → Kind tag
  unknown_tag : is_octet_tag tag ≡ false → is_report_tag tag ≡ false → Kind tag

pub kind_of : (tag : ℕ) → Kind tag
kind_of tag =
    ⊎_elim
    (λ small.
    ⊎_elim (λ p. ⊎_elim (λ q. ⊎_elim (λ r. three (eqb-true tag 3 r)) (λ r. four (eqb-true tag 4 r)) (or_cases (tag == 3) (tag == 4) q)) (λ q. five (eqb-true tag 5 q))
    (or_cases (tag == 3 || tag == 4) (tag == 5) p)) (λ p. six (eqb-true tag 6 p))
    (or_cases (tag == 3 || tag == 4 || tag == 5) (tag == 6) small))
    (λ large. ⊎_elim (λ r. reports large r) (λ r. unknown_tag large r) (cases_Bool (is_report_tag tag))) (cases_Bool (is_octet_tag tag))

-- A tag of an item is an octet.
pub report_tag_octet : (tag : ℕ) → is_report_tag tag ≡ true → tag < 256
report_tag_octet tag known = ⊎_elim (λ h. h) (λ h. absurd (too_large h)) (cases_lt tag 256)
  where
    too_large : 256 ≤ tag → ⊥
    too_large h =
        let a : (tag == 7) ≡ false = ne_eqb tag 7 (λ e. omega (arith, e)) in
        let b : (tag == 9) ≡ false = ne_eqb tag 9 (λ e. omega (arith, e)) in
        let d : (tag == 10) ≡ false = ne_eqb tag 10 (λ e. omega (arith, e)) in
        let e : (tag == 18) ≡ false = ne_eqb tag 18 (λ e. omega (arith, e)) in
        let f : (tag == 19) ≡ false = ne_eqb tag 19 (λ e. omega (arith, e)) in
        let g : (tag == 20) ≡ false = ne_eqb tag 20 (λ e. omega (arith, e)) in
        let wrong : false ≡ true = sym (rw (a, b, d, e, f, g) refl) ∙ known in
        cc

-- No tag of a report is that of another item.
pub report_is_no_octets : (tag : ℕ) → tag < 256 → is_report_tag tag ≡ true → is_octet_tag tag ≡ false
report_is_no_octets tag fits known =
    let none : (is_report_tag tag && is_octet_tag tag) ≡ false = agree_below_at (λ t. is_report_tag t && is_octet_tag t) (λ _. false) 256 tag refl fits in
    sym (ap (λ x. x && is_octet_tag tag) known) ∙ none

-- What is read behind each tag.
pub body_of_report : (place tag : ℕ) (unread : Unread) → is_octet_tag tag ≡ false → is_report_tag tag ≡ true
    → body_at place tag unread ≡ (report_at tag unread >>= λ one. Ok (report one.0, one.1))
unfolding body_at
body_of_report place tag unread large known =
    let p = or_parts (tag == 3 || tag == 4 || tag == 5) (tag == 6) large in
    let q = or_parts (tag == 3 || tag == 4) (tag == 5) p.0 in
    let r = or_parts (tag == 3) (tag == 4) q.0 in
    let no_ack : (tag == 3) ≡ false = r.0 in
    let no_nack : (tag == 4) ≡ false = r.1 in
    let no_noncompliance : (tag == 5) ≡ false = q.1 in
    let no_off : (tag == 6) ≡ false = p.1 in
    rw (no_ack, no_nack, no_noncompliance, no_off, known) refl

pub body_of_other : (place tag : ℕ) (unread : Unread) → is_octet_tag tag ≡ false → is_report_tag tag ≡ false → body_at place tag unread ≡ Err (tag_at place)
unfolding body_at
body_of_other place tag unread large unknown =
    let p = or_parts (tag == 3 || tag == 4 || tag == 5) (tag == 6) large in
    let q = or_parts (tag == 3 || tag == 4) (tag == 5) p.0 in
    let r = or_parts (tag == 3) (tag == 4) q.0 in
    let no_ack : (tag == 3) ≡ false = r.0 in
    let no_nack : (tag == 4) ≡ false = r.1 in
    let no_noncompliance : (tag == 5) ≡ false = q.1 in
    let no_off : (tag == 6) ≡ false = p.1 in
    rw (no_ack, no_nack, no_noncompliance, no_off, unknown) refl

-- ---- what reading took

pub record TakesItem (item : ItemData) (old new : Unread) : Type 0 where
  pub took : TakesEncoding (EncodesItem item) old new
  pub closed : is_report item ≡ true → begins is_group_tag new ≡ false

-- The same behind the tag.
record TakesBody (tag : ℕ) (item : ItemData) (old new : Unread) : Type 0 where
  took : TakesEncoding (λ body. EncodesItem item (unsigned_bits 8 tag ++ body)) old new
  closed : is_report item ≡ true → begins is_group_tag new ≡ false

-- Octets that pass the first test, and then the others.
pub record FirstPasses (test : ℕ → Bool) (tests : List (ℕ → Bool)) (octets : List ℕ) : Type 0 where
  pub first : ℕ
  pub behind : List ℕ
  pub listed : octets ≡ first ∷ behind
  pub fits : first < 256
  pub passes : IsTrue (test first)
  pub pass : PassEach tests behind

pub first_passes : (test : ℕ → Bool) (tests : List (ℕ → Bool)) (octets : List ℕ) → PassEach (test ∷ tests) octets → FirstPasses test tests octets
first_passes test tests [] pass = absurd pass
first_passes test tests (octet ∷ octets) pass =
    record { first = octet; behind = octets; listed = refl; fits = pass.0; passes = pass.1; pass = pass.2 }

-- The bits of octets were taken.
octets_taken : (Encoded : List Bool → Type 0) (octets : List ℕ) (old new : Unread) → Encoded (octets_bits octets) → old.left ≡ octets_bits octets ++ new.left
    → new.at ≡ old.at + 8 * length octets → TakesEncoding Encoded old new
octets_taken Encoded octets old new encoded bits place =
    record { front = octets_bits octets; encoded = encoded; bits = bits; place = omega (arith, place, length-octets_bits octets) }

-- One octet's bits.
pub one_octet : (octet : ℕ) → octets_bits (octet ∷ []) ≡ unsigned_bits 8 octet
one_octet octet = append-nil (unsigned_bits 8 octet)

-- A number, of an acknowledgement or of the end of emergency mode.
one_taken : (Encoded : ℕ → List Bool → Type 0) (tag n : ℕ) (old new : Unread) → item_tests tag ≡ any ∷ [] → number_at tag old ≡ Ok (n, new)
    → (n < 256 → Encoded n (octets_bits (n ∷ []))) → TakesEncoding (Encoded n) old new
unfolding number_at
one_taken Encoded tag n old new tests given encoded =
    let p = bind_ok (octets_where (item_tests tag) old) (λ octets. Ok (get_or octets.0 0 0, octets.1)) (n, new) given in
    let same = ok_same {F = DownRefusal} (get_or p.0.0 0 0, p.0.1) (n, new) p.2 in
    let took = octets_take (item_tests tag) p.0.0 old p.0.1 p.1 in
    let first = first_passes any [] p.0.0 (subst (λ ts. PassEach ts p.0.0) tests took.pass) in
    let listed : p.0.0 ≡ first.first ∷ [] = first.listed ∙ ap (λ xs. first.first ∷ xs) first.pass in
    let number : first.first ≡ n = sym (ap (λ xs. get_or xs 0 0) listed) ∙ ap (λ x. x.0) same in
    let octets : p.0.0 ≡ n ∷ [] = listed ∙ ap (λ x. x ∷ []) number in
    octets_taken (Encoded n) (n ∷ []) old new (encoded (subst (λ x. x < 256) number first.fits))
    (took.bits ∙ ap₂ (λ xs left. octets_bits xs ++ left) octets (ap (λ x. x.1.left) same))
    (omega (arith, took.place, ap length octets, ap (λ x. x.1.at) same))

noncompliance_taken : (n : ℕ) (old new : Unread) → number_at 5 old ≡ Ok (n, new)
    → TakesEncoding (λ body. EncodesItem (noncompliance n) (unsigned_bits 8 5 ++ body)) old new
unfolding number_at item_bits
noncompliance_taken n old new given =
    let p = bind_ok (octets_where (item_tests 5) old) (λ octets. Ok (get_or octets.0 0 0, octets.1)) (n, new) given in
    let same = ok_same {F = DownRefusal} (get_or p.0.0 0 0, p.0.1) (n, new) p.2 in
    let took = octets_take (item_tests 5) p.0.0 old p.0.1 p.1 in
    let a = first_passes any (only 1 ∷ only 21 ∷ only 64 ∷ []) p.0.0 took.pass in
    let b = first_passes (only 1) (only 21 ∷ only 64 ∷ []) a.behind a.pass in
    let d = first_passes (only 21) (only 64 ∷ []) b.behind b.pass in
    let e = first_passes (only 64) [] d.behind d.pass in
    let last : d.behind ≡ 64 ∷ [] = e.listed ∙ ap₂ (λ (x : ℕ) xs. x ∷ xs) (eqb-true e.first 64 e.passes) e.pass in
    let third : b.behind ≡ 21 ∷ 64 ∷ [] = d.listed ∙ ap₂ (λ (x : ℕ) xs. x ∷ xs) (eqb-true d.first 21 d.passes) last in
    let second : a.behind ≡ 1 ∷ 21 ∷ 64 ∷ [] = b.listed ∙ ap₂ (λ (x : ℕ) xs. x ∷ xs) (eqb-true b.first 1 b.passes) third in
    let listed : p.0.0 ≡ a.first ∷ 1 ∷ 21 ∷ 64 ∷ [] = a.listed ∙ ap (λ xs. a.first ∷ xs) second in
    let number : a.first ≡ n = sym (ap (λ xs. get_or xs 0 0) listed) ∙ ap (λ x. x.0) same in
    let octets : p.0.0 ≡ n ∷ 1 ∷ 21 ∷ 64 ∷ [] = listed ∙ ap (λ x. x ∷ 1 ∷ 21 ∷ 64 ∷ []) number in
    octets_taken (λ body. EncodesItem (noncompliance n) (unsigned_bits 8 5 ++ body)) (n ∷ 1 ∷ 21 ∷ 64 ∷ []) old new
    (subst (λ x. x < 256) number a.fits, refl)
    (took.bits ∙ ap₂ (λ xs left. octets_bits xs ++ left) octets (ap (λ x. x.1.left) same))
    (omega (arith, took.place, ap length octets, ap (λ x. x.1.at) same))

-- The two octets of a negative acknowledgement.
pub record TwoTaken (octets : List ℕ) (old now : Unread) : Type 0 where
  pub n : ℕ
  pub reason : ℕ
  pub listed : octets ≡ n ∷ reason ∷ []
  pub n_fits : n < 256
  pub known : IsTrue (is_reason reason)
  pub bits : old.left ≡ octets_bits (n ∷ reason ∷ []) ++ now.left
  pub place : now.at ≡ old.at + 16

pub two_taken : (octets : List ℕ) (old now : Unread) → octets_where (item_tests 4) old ≡ Ok (octets, now) → TwoTaken octets old now
two_taken octets old now given =
    let took = octets_take (item_tests 4) octets old now given in
    let a = first_passes any (is_reason ∷ []) octets took.pass in
    let b = first_passes is_reason [] a.behind a.pass in
    let listed : octets ≡ a.first ∷ b.first ∷ [] = a.listed ∙ ap (λ xs. a.first ∷ xs) (b.listed ∙ ap (λ xs. b.first ∷ xs) b.pass) in
    record {
      n = a.first;
      reason = b.first;
      listed = listed;
      n_fits = a.fits;
      known = b.passes;
      bits = took.bits ∙ ap (λ xs. octets_bits xs ++ now.left) listed;
      place = omega (arith, took.place, ap length listed);
    }

-- What stands behind the two octets.
abbrev pub place_behind : ℕ → ℕ → Unread → Result (ItemData × Unread) DownRefusal
place_behind n reason now =
    if names_octet reason then (octet_at now >>= λ place. Ok (nack n reason place.0, place.1)) else Ok (nack n reason 0, now)

pub nack_turn : (old now : Unread) (n reason : ℕ) → octets_where (item_tests 4) old ≡ Ok (n ∷ reason ∷ [], now) → nack_at old ≡ place_behind n reason now
unfolding nack_at
nack_turn old now n reason read =
    ap (λ reading. reading >>= λ octets.
    if names_octet (get_or octets.0 1 0) then
    (octet_at octets.1 >>= λ place. Ok (nack (get_or octets.0 0 0) (get_or octets.0 1 0) place.0, place.1))
    else Ok (nack (get_or octets.0 0 0) (get_or octets.0 1 0) 0, octets.1)) read

-- A negative acknowledgement with a place, and one without.
nack_with_place : (n reason place : ℕ) → names_octet reason ≡ true → item_bits (nack n reason place) ≡ octets_bits (4 ∷ n ∷ reason ∷ place ∷ [])
unfolding item_bits
nack_with_place n reason place has = ap (λ test. octets_bits (4 ∷ n ∷ reason ∷ (if test then place ∷ [] else []))) has

nack_without_place : (n reason place : ℕ) → names_octet reason ≡ false → item_bits (nack n reason place) ≡ octets_bits (4 ∷ n ∷ reason ∷ [])
unfolding item_bits
nack_without_place n reason place none = ap (λ test. octets_bits (4 ∷ n ∷ reason ∷ (if test then place ∷ [] else []))) none

place_taken : (n reason : ℕ) (item : ItemData) (old now new : Unread) → n < 256 → IsTrue (is_reason reason) → old.left ≡ octets_bits (n ∷ reason ∷ []) ++ now.left
    → now.at ≡ old.at + 16 → place_behind n reason now ≡ Ok (item, new) → TakesBody 4 item old new
place_taken n reason item old now new n_fits known bits at given = ⊎_elim with_place without_place (cases_Bool (names_octet reason))
  where
    with_place : names_octet reason ≡ true → TakesBody 4 item old new
    with_place has =
        let p = bind_ok (octet_at now) (λ place. Ok (nack n reason place.0, place.1)) (item, new)
        (sym (ap (λ test. if test then (octet_at now >>= λ place. Ok (nack n reason place.0, place.1)) else Ok (nack n reason 0, now)) has) ∙ given) in
        let took = octet_takes p.0.0 now p.0.1 p.1 in
        let same = ok_same {F = DownRefusal} (nack n reason p.0.0, p.0.1) (item, new) p.2 in
        let stands : old.left ≡ octets_bits (n ∷ reason ∷ p.0.0 ∷ []) ++ p.0.1.left =
        bits ∙ ap (λ left. octets_bits (n ∷ reason ∷ []) ++ left) (took.bits ∙ ap (λ b. b ++ p.0.1.left) (sym (one_octet p.0.0)))
        ∙ sym (append_assoc (octets_bits (n ∷ reason ∷ [])) (octets_bits (p.0.0 ∷ [])) p.0.1.left)
        ∙ ap (λ b. b ++ p.0.1.left) (sym (octets_bits-append (n ∷ reason ∷ []) (p.0.0 ∷ []))) in
        subst (λ x. TakesBody 4 x.0 old x.1) same
        (record {
          took = octets_taken (λ body. EncodesItem (nack n reason p.0.0) (unsigned_bits 8 4 ++ body)) (n ∷ reason ∷ p.0.0 ∷ []) old p.0.1
              (n_fits, known, took.fits, ap (λ test. test || p.0.0 == 0) has, sym (nack_with_place n reason p.0.0 has)) stands (omega (arith, at, took.place));
          closed = λ wrong. absurd (cc);
        })

    without_place : names_octet reason ≡ false → TakesBody 4 item old new
    without_place none =
        let same = ok_same {F = DownRefusal} (nack n reason 0, now) (item, new)
        (sym (ap (λ test. if test then (octet_at now >>= λ place. Ok (nack n reason place.0, place.1)) else Ok (nack n reason 0, now)) none) ∙ given) in
        subst (λ x. TakesBody 4 x.0 old x.1) same
        (record {
          took = octets_taken (λ body. EncodesItem (nack n reason 0) (unsigned_bits 8 4 ++ body)) (n ∷ reason ∷ []) old now
              (n_fits, known, omega arith, ap (λ test. test || 0 == 0) none, sym (nack_without_place n reason 0 none)) bits (omega (arith, at));
          closed = λ wrong. absurd (cc);
        })

nack_taken : (item : ItemData) (old new : Unread) → nack_at old ≡ Ok (item, new) → TakesBody 4 item old new
unfolding nack_at
nack_taken item old new given =
    let p = bind_ok (octets_where (item_tests 4) old) (λ octets.
    if names_octet (get_or octets.0 1 0) then
    (octet_at octets.1 >>= λ place. Ok (nack (get_or octets.0 0 0) (get_or octets.0 1 0) place.0, place.1))
    else Ok (nack (get_or octets.0 0 0) (get_or octets.0 1 0) 0, octets.1)) (item, new) given in
    let took = two_taken p.0.0 old p.0.1 p.1 in
    let turn = nack_turn old p.0.1 took.n took.reason (p.1 ∙ ap (λ xs. Ok (xs, p.0.1)) took.listed) in
    place_taken took.n took.reason item old p.0.1 new took.n_fits took.known took.bits took.place (sym turn ∙ given)

-- What reading behind a tag took.
body_takes : (place tag : ℕ) (item : ItemData) (old new : Unread) → body_at place tag old ≡ Ok (item, new) → TakesBody tag item old new
unfolding body_at item_bits
body_takes place tag item old new given =
    elim (kind_of tag) [
      | three e ↦ subst (λ t. body_at place t old ≡ Ok (item, new) → TakesBody t item old new) (sym e) an_ack given
      | four e ↦ subst (λ t. body_at place t old ≡ Ok (item, new) → TakesBody t item old new) (sym e) (nack_taken item old new) given
      | five e ↦ subst (λ t. body_at place t old ≡ Ok (item, new) → TakesBody t item old new) (sym e) a_noncompliance given
      | six e ↦ subst (λ t. body_at place t old ≡ Ok (item, new) → TakesBody t item old new) (sym e) an_end given
      | reports large known ↦ a_report large known
      | unknown_tag large unknown ↦ absurd (ok_is_no_err (item, new) (tag_at place) (sym given ∙ body_of_other place tag old large unknown))
    ]
  where
    an_ack : body_at place 3 old ≡ Ok (item, new) → TakesBody 3 item old new
    an_ack read =
        let p = bind_ok (number_at 3 old) (λ n. Ok (ack n.0, n.1)) (item, new) read in
        let same = ok_same {F = DownRefusal} (ack p.0.0, p.0.1) (item, new) p.2 in
        subst (λ x. TakesBody 3 x.0 old x.1) same
        (record {
          took = one_taken (λ n body. EncodesItem (ack n) (unsigned_bits 8 3 ++ body)) 3 p.0.0 old p.0.1 refl p.1 (λ fits. (fits, refl));
          closed = λ wrong. absurd (cc);
        })

    an_end : body_at place 6 old ≡ Ok (item, new) → TakesBody 6 item old new
    an_end read =
        let p = bind_ok (number_at 6 old) (λ n. Ok (emergency_off n.0, n.1)) (item, new) read in
        let same = ok_same {F = DownRefusal} (emergency_off p.0.0, p.0.1) (item, new) p.2 in
        subst (λ x. TakesBody 6 x.0 old x.1) same
        (record {
          took = one_taken (λ n body. EncodesItem (emergency_off n) (unsigned_bits 8 6 ++ body)) 6 p.0.0 old p.0.1 refl p.1 (λ fits. (fits, refl));
          closed = λ wrong. absurd (cc);
        })

    a_noncompliance : body_at place 5 old ≡ Ok (item, new) → TakesBody 5 item old new
    a_noncompliance read =
        let p = bind_ok (number_at 5 old) (λ n. Ok (noncompliance n.0, n.1)) (item, new) read in
        let same = ok_same {F = DownRefusal} (noncompliance p.0.0, p.0.1) (item, new) p.2 in
        subst (λ x. TakesBody 5 x.0 old x.1) same
        (record { took = noncompliance_taken p.0.0 old p.0.1 p.1; closed = λ wrong. absurd (cc) })

    a_report : is_octet_tag tag ≡ false → is_report_tag tag ≡ true → TakesBody tag item old new
    a_report large known =
        let p = bind_ok (report_at tag old) (λ one. Ok (report one.0, one.1)) (item, new) (sym (body_of_report place tag old large known) ∙ given) in
        let same = ok_same {F = DownRefusal} (report p.0.0, p.0.1) (item, new) p.2 in
        let took = report_takes tag p.0.0 old p.0.1 known p.1 in
        subst (λ x. TakesBody tag x.0 old x.1) same
        (record {
          took = record { front = took.took.front; encoded = took.took.encoded; bits = took.took.bits; place = took.took.place };
          closed = λ _. took.ended;
        })

pub item_takes : (item : ItemData) (old new : Unread) → item_at old ≡ Ok (item, new) → TakesItem item old new
unfolding item_at
item_takes item old new given =
    let p = bind_ok (octet_at old) (λ tag. body_at old.at tag.0 tag.1) (item, new) given in
    let tag = octet_takes p.0.0 old p.0.1 p.1 in
    let body = body_takes old.at p.0.0 item p.0.1 new p.2 in
    record {
      took = record {
        front = unsigned_bits 8 p.0.0 ++ body.took.front;
        encoded = body.took.encoded;
        bits = tag.bits ∙ ap (λ bits. unsigned_bits 8 p.0.0 ++ bits) body.took.bits ∙ sym (append_assoc (unsigned_bits 8 p.0.0) body.took.front new.left);
        place = omega (arith, tag.place, body.took.place, length-append (unsigned_bits 8 p.0.0) body.took.front, length-unsigned_bits 8 p.0.0);
      };
      closed = body.closed;
    }

-- ---- what is encoded is read again

-- The tag is read, and then what stands behind it.
pub tag_again : (tag at : ℕ) (body : List Bool) → tag < 256
    → item_at (record { left = unsigned_bits 8 tag ++ body; at = at }) ≡ body_at at tag (record { left = body; at = at + 8 })
unfolding item_at
tag_again tag at body fits = ap (λ reading. reading >>= λ t. body_at at t.0 t.1) (octet_again tag at body fits)

-- An item of octets.
octets_item : (item : ItemData) (tag : ℕ) (octets : List ℕ) (bits rest : List Bool) (at : ℕ) → tag < 256 → bits ≡ octets_bits (tag ∷ octets)
    → body_at at tag (record { left = octets_bits octets ++ rest; at = at + 8 }) ≡ Ok (item, record { left = rest; at = at + 8 + 8 * length octets })
    → item_at (record { left = bits ++ rest; at = at }) ≡ Ok (item, record { left = rest; at = at + length bits })
octets_item item tag octets bits rest at fits same read =
    let place : at + 8 + 8 * length octets ≡ at + length bits = omega (arith, ap length same, length-octets_bits (tag ∷ octets)) in
    ap (λ left. item_at (record { left = left; at = at }))
    (ap (λ b. b ++ rest) same ∙ append_assoc (unsigned_bits 8 tag) (octets_bits octets) rest)
    ∙ tag_again tag at (octets_bits octets ++ rest) fits ∙ read ∙ ap (λ bit. Ok (item, record { left = rest; at = bit })) place

number_again : (tag n at : ℕ) (others : List ℕ) (rest : List Bool) → PassEach (item_tests tag) (n ∷ others)
    → number_at tag (record { left = octets_bits (n ∷ others) ++ rest; at = at }) ≡ Ok (n, record { left = rest; at = at + 8 * length (n ∷ others) })
unfolding number_at
number_again tag n at others rest pass = ap (λ reading. reading >>= λ octets. Ok (get_or octets.0 0 0, octets.1)) (octets_again (item_tests tag) (n ∷ others) rest at pass)

ack_again : (n at : ℕ) (rest : List Bool) → n < 256
    → body_at at 3 (record { left = octets_bits (n ∷ []) ++ rest; at = at + 8 }) ≡ Ok (ack n, record { left = rest; at = at + 8 + 8 * 1 })
unfolding body_at
ack_again n at rest fits = ap (λ reading. reading >>= λ x. Ok (ack x.0, x.1)) (number_again 3 n (at + 8) [] rest (fits, refl, refl))

end_again : (n at : ℕ) (rest : List Bool) → n < 256
    → body_at at 6 (record { left = octets_bits (n ∷ []) ++ rest; at = at + 8 }) ≡ Ok (emergency_off n, record { left = rest; at = at + 8 + 8 * 1 })
unfolding body_at
end_again n at rest fits = ap (λ reading. reading >>= λ x. Ok (emergency_off x.0, x.1)) (number_again 6 n (at + 8) [] rest (fits, refl, refl))

noncompliance_again : (n at : ℕ) (rest : List Bool) → n < 256
    → body_at at 5 (record { left = octets_bits (n ∷ 1 ∷ 21 ∷ 64 ∷ []) ++ rest; at = at + 8 }) ≡ Ok (noncompliance n, record { left = rest; at = at + 8 + 8 * 4 })
unfolding body_at
noncompliance_again n at rest fits =
    ap (λ reading. reading >>= λ x. Ok (noncompliance x.0, x.1))
    (number_again 5 n (at + 8) (1 ∷ 21 ∷ 64 ∷ []) rest (fits, refl, (omega arith, refl, (omega arith, refl, (omega arith, refl, refl)))))

two_again : (n reason at : ℕ) (rest : List Bool) → n < 256 → IsTrue (is_reason reason) → reason < 256
    → nack_at (record { left = octets_bits (n ∷ reason ∷ []) ++ rest; at = at }) ≡ place_behind n reason (record { left = rest; at = at + 16 })
two_again n reason at rest fits known reason_fits =
    nack_turn (record { left = octets_bits (n ∷ reason ∷ []) ++ rest; at = at }) (record { left = rest; at = at + 16 }) n reason
    (octets_again (item_tests 4) (n ∷ reason ∷ []) rest at (fits, refl, (reason_fits, known, refl)))

pub reason_octet : (reason : ℕ) → IsTrue (is_reason reason) → reason < 256
reason_octet reason known = let p = leb-true reason 13 (and_parts (nat_le 1 reason) (nat_le reason 13) known).1 in omega arith

nack_again : (n reason place at : ℕ) (bits rest : List Bool) → n < 256 → IsTrue (is_reason reason) → place < 256 → IsTrue (is_place_of reason place)
    → bits ≡ item_bits (nack n reason place)
    → item_at (record { left = bits ++ rest; at = at }) ≡ Ok (nack n reason place, record { left = rest; at = at + length bits })
unfolding body_at
nack_again n reason place at bits rest fits known place_fits due same = ⊎_elim with_place without_place (cases_Bool (names_octet reason))
  where
    reason_fits : reason < 256
    reason_fits = reason_octet reason known

    with_place : names_octet reason ≡ true → item_at (record { left = bits ++ rest; at = at }) ≡ Ok (nack n reason place, record { left = rest; at = at + length bits })
    with_place has =
        let regrouped : octets_bits (n ∷ reason ∷ place ∷ []) ++ rest ≡ octets_bits (n ∷ reason ∷ []) ++ (unsigned_bits 8 place ++ rest) =
        ap (λ b. b ++ rest) (octets_bits-append (n ∷ reason ∷ []) (place ∷ []))
        ∙ append_assoc (octets_bits (n ∷ reason ∷ [])) (octets_bits (place ∷ [])) rest
        ∙ ap (λ b. octets_bits (n ∷ reason ∷ []) ++ (b ++ rest)) (one_octet place) in
        octets_item (nack n reason place) 4 (n ∷ reason ∷ place ∷ []) bits rest at (omega arith) (same ∙ nack_with_place n reason place has)
        (ap (λ left. nack_at (record { left = left; at = at + 8 })) regrouped
        ∙ two_again n reason (at + 8) (unsigned_bits 8 place ++ rest) fits known reason_fits
        ∙ ap (λ test.
        if test then (octet_at (record { left = unsigned_bits 8 place ++ rest; at = at + 8 + 16 }) >>= λ p. Ok (nack n reason p.0, p.1))
        else Ok (nack n reason 0, record { left = unsigned_bits 8 place ++ rest; at = at + 8 + 16 })) has
        ∙ ap (λ reading. reading >>= λ p. Ok (nack n reason p.0, p.1)) (octet_again place (at + 8 + 16) rest place_fits)
        ∙ ap (λ bit. Ok (nack n reason place, record { left = rest; at = bit })) (let e : at + 8 + 16 + 8 ≡ at + 8 + 8 * 3 = omega arith in e))

    without_place : names_octet reason ≡ false → item_at (record { left = bits ++ rest; at = at }) ≡ Ok (nack n reason place, record { left = rest; at = at + length bits })
    without_place none =
        let zero_place : place ≡ 0 = eqb-true place 0 (sym (ap (λ test. test || place == 0) none) ∙ due) in
        octets_item (nack n reason place) 4 (n ∷ reason ∷ []) bits rest at (omega arith) (same ∙ nack_without_place n reason place none)
        (two_again n reason (at + 8) rest fits known reason_fits
        ∙ ap (λ test.
        if test then (octet_at (record { left = rest; at = at + 8 + 16 }) >>= λ p. Ok (nack n reason p.0, p.1))
        else Ok (nack n reason 0, record { left = rest; at = at + 8 + 16 })) none
        ∙ ap (λ p. Ok (nack n reason p, record { left = rest; at = at + 8 + 16 })) (sym zero_place))

report_item_again : (one : ReportData) (bits rest : List Bool) (at : ℕ) → EncodesReport one bits
    → begins is_group_tag (record { left = rest; at = at + length bits }) ≡ false
    → item_at (record { left = bits ++ rest; at = at }) ≡ Ok (report one, record { left = rest; at = at + length bits })
report_item_again one bits rest at encoded ended =
    let fits : one.tag < 256 = report_tag_octet one.tag encoded.known in
    let regrouped : bits ++ rest ≡ unsigned_bits 8 one.tag ++ (encoded.basic ++ (encoded.behind ++ rest)) =
    ap (λ b. b ++ rest) encoded.stands
    ∙ append_assoc (unsigned_bits 8 one.tag) (encoded.basic ++ encoded.behind) rest
    ∙ ap (λ b. unsigned_bits 8 one.tag ++ b) (append_assoc encoded.basic encoded.behind rest) in
    let place : at + 8 + length encoded.basic + length encoded.behind ≡ at + length bits =
    omega (
      arith,
      ap length encoded.stands,
      length-append (unsigned_bits 8 one.tag) (encoded.basic ++ encoded.behind),
      length-append encoded.basic encoded.behind,
      length-unsigned_bits 8 one.tag,
    ) in
    let ended_there : begins is_group_tag (record { left = rest; at = at + 8 + length encoded.basic + length encoded.behind }) ≡ false = ended in
    ap (λ left. item_at (record { left = left; at = at })) regrouped
    ∙ tag_again one.tag at (encoded.basic ++ (encoded.behind ++ rest)) fits
    ∙ body_of_report at one.tag (record { left = encoded.basic ++ (encoded.behind ++ rest); at = at + 8 }) (report_is_no_octets one.tag fits encoded.known) encoded.known
    ∙ ap (λ reading. reading >>= λ x. Ok (report x.0, x.1))
    (report_again one encoded.basic encoded.behind rest (at + 8) encoded.few encoded.encodes_basic encoded.encodes_groups ended_there)
    ∙ ap (λ bit. Ok (report one, record { left = rest; at = bit })) place

pub item_again : (item : ItemData) (bits rest : List Bool) (at : ℕ) → EncodesItem item bits
    → (is_report item ≡ true → begins is_group_tag (record { left = rest; at = at + length bits }) ≡ false)
    → item_at (record { left = bits ++ rest; at = at }) ≡ Ok (item, record { left = rest; at = at + length bits })
unfolding item_bits
item_again (ack n) bits rest at encoded closed = octets_item (ack n) 3 (n ∷ []) bits rest at (omega arith) encoded.1 (ack_again n at rest encoded.0)
item_again (nack n reason place) bits rest at encoded closed = nack_again n reason place at bits rest encoded.0 encoded.1 encoded.2 encoded.3 encoded.4
item_again (noncompliance n) bits rest at encoded closed =
    octets_item (noncompliance n) 5 (n ∷ 1 ∷ 21 ∷ 64 ∷ []) bits rest at (omega arith) encoded.1 (noncompliance_again n at rest encoded.0)
item_again (emergency_off n) bits rest at encoded closed =
    octets_item (emergency_off n) 6 (n ∷ []) bits rest at (omega arith) encoded.1 (end_again n at rest encoded.0)
item_again (report one) bits rest at encoded closed = report_item_again one bits rest at encoded (closed refl)
