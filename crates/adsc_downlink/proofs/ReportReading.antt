-- The laws of reading a report behind its tag.
use Rattle.std.proofs.Common.{◌≡◌, ℕ, ◌+◌, ◌-◌, ◌≤◌, ℤ, pos, Bool, false, List, [], ◌∷◌, ◌++◌, length, Ok, Err, IsTrue, refl, sym, ap, ◌∙◌, subst, inl, inr, ⊎_elim, ◌⊎◌, arith, append_assoc, append-nil, length-append}
use Rattle.bit_terms.specs.Bits.{unsigned_bits}
use Rattle.bit_terms.specs.Reading.{Unread, refused_as, ◌>>=◌}
use Rattle.bit_terms.proofs.ReadingLaws.{bind_ok, bind_err, ok_same, ok_is_no_err}
use Rattle.adsc_groups.specs.Fields.{Field, Encodes, FitFields, IsFirstCut, fields_at}
use Rattle.adsc_groups.specs.Fields.Field.{number, signed, padding}
use Rattle.adsc_groups.specs.Basic.{BasicData, basic_fields, basic_values}
use Rattle.adsc_groups.specs.Groups.{GroupData, is_group_tag}
use Rattle.adsc_groups.proofs.BasicLaws.{basic_wide}
use Rattle.adsc_groups.proofs.FieldsLaws.{fields_take, fields_again, fields_refused, first_cut_refused, length-encoding}
use Rattle.adsc_downlink.specs.Codes.{is_report_tag}
use Rattle.adsc_downlink.specs.Items.{ReportData}
use Rattle.adsc_downlink.specs.Encodings.{EncodesEach, EncodesTaggedGroup, EncodesReport}
use Rattle.adsc_downlink.specs.Faults.{IsGroupFault, IsFirstGroupFault}
use Rattle.adsc_downlink.specs.Reading.{begins, basic_from, basic_at, groups_at, report_at}
use Rattle.adsc_downlink.specs.Refusals.{short_at}
use Rattle.adsc_downlink.specs.declared.refusal.DownRefusal.{DownRefusal}
use Rattle.adsc_downlink.specs.declared.refusal.DownWhy.{DownWhy}
use Rattle.adsc_downlink.specs.declared.refusal.DownWhy.TheVariants as why
use Rattle.adsc_downlink.proofs.GroupReading.{TakesEncoding, groups_take, groups_through, groups_refused, groups_fault}
use Rattle.adsc_downlink.proofs.OctetLaws.{refused_ok, refused_err}
use Rattle.adsc_downlink.proofs.Stepping.{with_front, groups_end}

-- ---- the basic data

-- Encoded values fit their fields.
encoded_fit : (fields : List Field) (values : List ℤ) (bits : List Bool) → Encodes fields values bits → FitFields fields values
encoded_fit [] values bits encoded = encoded.0
encoded_fit (number width ∷ fields) values bits encoded =
    (encoded.6.0, encoded.1, encoded.6.1, encoded.4 ∙ ap (λ xs. xs ++ encoded.1) encoded.6.2, encoded_fit fields encoded.1 encoded.3 encoded.7)
encoded_fit (signed width ∷ fields) values bits encoded =
    (encoded.6.0, encoded.1, encoded.6.1, encoded.4 ∙ ap (λ xs. xs ++ encoded.1) encoded.6.2, encoded_fit fields encoded.1 encoded.3 encoded.7)
encoded_fit (padding width ∷ fields) values bits encoded =
    subst (FitFields fields) (sym (encoded.4 ∙ ap (λ xs. xs ++ encoded.1) encoded.6.0)) (encoded_fit fields encoded.1 encoded.3 encoded.7)

-- The values of basic data are those that they make up.
basic_again_values : (values : List ℤ) → FitFields basic_fields values → basic_values (basic_from values) ≡ values
basic_again_values values fit =
    let e0 : values ≡ fit.0 ∷ fit.1 = fit.3 in
    let f1 = fit.4 in
    let f2 = f1.4 in
    let f3 = f2.4 in
    let f4 = f3.4 in
    let f5 = f4.4 in
    let f6 = f5.4 in
    let whole : values ≡ fit.0 ∷ f1.0 ∷ f2.0 ∷ pos f3.0 ∷ pos f4.0 ∷ pos f5.0 ∷ pos f6.0 ∷ [] =
    fit.3
    ∙ ap (λ xs. fit.0 ∷ xs) (f1.3
    ∙ ap (λ xs. f1.0 ∷ xs) (f2.3
    ∙ ap (λ xs. f2.0 ∷ xs) (f3.3
    ∙ ap (λ xs. pos f3.0 ∷ xs) (f4.3 ∙ ap (λ xs. pos f4.0 ∷ xs) (f5.3 ∙ ap (λ xs. pos f5.0 ∷ xs) (f6.3 ∙ ap (λ xs. pos f6.0 ∷ xs) f6.4)))))) in
    ap (λ xs. basic_values (basic_from xs)) whole ∙ sym whole

pub basic_takes : (basic : BasicData) (old new : Unread) → basic_at old ≡ Ok (basic, new) → TakesEncoding (Encodes basic_fields (basic_values basic)) old new
unfolding basic_at
basic_takes basic old new given =
    let p = bind_ok (refused_as short_at (fields_at basic_fields old)) (λ values. Ok (basic_from values.0, values.1)) (basic, new) given in
    let same = ok_same {F = DownRefusal} (basic_from p.0.0, p.0.1) (basic, new) p.2 in
    let took = fields_take basic_fields p.0.0 old p.0.1 basic_wide (refused_ok short_at (fields_at basic_fields old) p.0 p.1) in
    let values : p.0.0 ≡ basic_values basic =
    sym (basic_again_values p.0.0 (encoded_fit basic_fields p.0.0 took.front took.encoded)) ∙ ap (λ x. basic_values x.0) same in
    let size = length-encoding basic_fields p.0.0 took.front took.encoded in
    record {
      front = took.front;
      encoded = subst (λ vs. Encodes basic_fields vs took.front) values took.encoded;
      bits = took.bits ∙ ap (λ x. took.front ++ x.1.left) same;
      place = omega (arith, took.place, size, ap (λ x. x.1.at) same);
    }

basic_again : (values : List ℤ) (bits rest : List Bool) (at : ℕ) → Encodes basic_fields values bits
    → basic_at (record { left = bits ++ rest; at = at }) ≡ Ok (basic_from values, record { left = rest; at = at + length bits })
unfolding basic_at
basic_again values bits rest at encoded =
    ap (λ reading. refused_as short_at reading >>= λ vs. Ok (basic_from vs.0, vs.1)) (fields_again basic_fields values bits rest at basic_wide encoded)
    ∙ ap (λ size. Ok (basic_from values, record { left = rest; at = at + size })) (sym (length-encoding basic_fields values bits encoded))

basic_refused : (old : Unread) (refusal : DownRefusal) → basic_at old ≡ Err refusal → IsFirstCut basic_fields old refusal.bit × (refusal.why ≡ why.Short)
unfolding basic_at
basic_refused old refusal given =
    ⊎_elim
    (λ e. let p = refused_err short_at (fields_at basic_fields old) refusal e in
    (subst (IsFirstCut basic_fields old) (ap (λ r. r.bit) p.2) (fields_refused basic_fields old p.0 basic_wide p.1), sym (ap (λ r. r.why) p.2)))
    (λ p. absurd (ok_is_no_err (basic_from p.0.0, p.0.1) refusal p.2))
    (bind_err (refused_as short_at (fields_at basic_fields old)) (λ values. Ok (basic_from values.0, values.1)) refusal given)

basic_cut : (old : Unread) (bit : ℕ) → IsFirstCut basic_fields old bit → basic_at old ≡ Err (short_at bit)
unfolding basic_at
basic_cut old bit cut =
    ap (λ reading. refused_as short_at reading >>= λ values. Ok (basic_from values.0, values.1)) (first_cut_refused basic_fields old bit cut)

-- ---- a report behind its tag

pub record TakesReport (tag : ℕ) (one : ReportData) (old new : Unread) : Type 0 where
  pub took : TakesEncoding (λ body. EncodesReport one (unsigned_bits 8 tag ++ body)) old new
  pub ended : begins is_group_tag new ≡ false

pub report_takes : (tag : ℕ) (one : ReportData) (old new : Unread) → IsTrue (is_report_tag tag) → report_at tag old ≡ Ok (one, new) → TakesReport tag one old new
unfolding report_at
report_takes tag one old new known given =
    let p = bind_ok (basic_at old) (λ basic. groups_at 8 basic.1 >>= λ groups. Ok (record { tag = tag; basic = basic.0; groups = groups.0 }, groups.1)) (one, new) given in
    let q = bind_ok (groups_at 8 p.0.1) (λ groups. Ok (record { tag = tag; basic = p.0.0; groups = groups.0 }, groups.1)) (one, new) p.2 in
    let same = ok_same {F = DownRefusal} (record { tag = tag; basic = p.0.0; groups = q.0.0 }, q.0.1) (one, new) q.2 in
    let first = basic_takes p.0.0 old p.0.1 p.1 in
    let later = groups_take 8 q.0.0 p.0.1 q.0.1 q.1 in
    subst (λ x. TakesReport tag x.0 old x.1) same
    (record {
      took = record {
        front = first.front ++ later.took.front;
        encoded = record {
          known = known;
          few = later.few;
          basic = first.front;
          behind = later.took.front;
          stands = refl;
          encodes_basic = first.encoded;
          encodes_groups = later.took.encoded;
        };
        bits = first.bits ∙ ap (λ bits. first.front ++ bits) later.took.bits ∙ sym (append_assoc first.front later.took.front q.0.1.left);
        place = omega (arith, first.place, later.took.place, length-append first.front later.took.front);
      };
      ended = later.ended;
    })

groups_again : (groups : List GroupData) (front rest : List Bool) (at : ℕ) → EncodesEach EncodesTaggedGroup groups front → length groups ≤ 8
    → begins is_group_tag (record { left = rest; at = at + length front }) ≡ false
    → groups_at 8 (record { left = front ++ rest; at = at }) ≡ Ok (groups, record { left = rest; at = at + length front })
groups_again groups front rest at encoded few ended =
    let eight : 8 ≡ length groups + (8 - length groups) = omega arith in
    ap (λ n. groups_at n (record { left = front ++ rest; at = at })) eight
    ∙ groups_through groups front rest at (8 - length groups) encoded
    ∙ ap (with_front groups) (groups_end (8 - length groups) (record { left = rest; at = at + length front }) ended)
    ∙ ap (λ xs. Ok (xs, record { left = rest; at = at + length front })) (append-nil groups)

pub report_again : (one : ReportData) (basic behind rest : List Bool) (at : ℕ) → length one.groups ≤ 8 → Encodes basic_fields (basic_values one.basic) basic
    → EncodesEach EncodesTaggedGroup one.groups behind → begins is_group_tag (record { left = rest; at = at + length basic + length behind }) ≡ false
    → report_at one.tag (record { left = basic ++ (behind ++ rest); at = at }) ≡ Ok (one, record { left = rest; at = at + length basic + length behind })
unfolding report_at
report_again one basic behind rest at few encodes_basic encodes_groups ended =
    ap (λ reading. reading >>= λ b. groups_at 8 b.1 >>= λ groups. Ok (record { tag = one.tag; basic = b.0; groups = groups.0 }, groups.1))
    (basic_again (basic_values one.basic) basic (behind ++ rest) at encodes_basic)
    ∙ ap (λ reading. reading >>= λ groups. Ok (record { tag = one.tag; basic = one.basic; groups = groups.0 }, groups.1))
    (groups_again one.groups behind rest (at + length basic) encodes_groups few ended)

group_fault_behind : (basic : BasicData) (old new : Unread) (bit : ℕ) (cause : DownWhy) → TakesEncoding (Encodes basic_fields (basic_values basic)) old new
    → groups_at 8 new ≡ Err (record { bit = bit; why = cause }) → IsFirstGroupFault old bit cause
group_fault_behind basic old new bit cause first refused =
    let later = groups_refused 8 new (record { bit = bit; why = cause }) refused in
    record {
      values = basic_values basic;
      basic = first.front;
      groups = later.groups;
      front = later.front;
      rest = later.rest;
      room = later.left_over;
      stand = first.bits ∙ ap (λ bits. first.front ++ bits) later.stand;
      encodes_basic = first.encoded;
      encodes_groups = later.encoded;
      eight = later.counted;
      fault = subst (λ at. IsGroupFault later.left_over (record { left = later.rest; at = at + length later.front }) bit cause) first.place later.fault;
    }

pub report_refused : (tag : ℕ) (old : Unread) (refusal : DownRefusal) → report_at tag old ≡ Err refusal
    → (IsFirstCut basic_fields old refusal.bit × (refusal.why ≡ why.Short)) ⊎ IsFirstGroupFault old refusal.bit refusal.why
unfolding report_at
report_refused tag old refusal given =
    ⊎_elim (λ e. inl (basic_refused old refusal e))
    (λ p. ⊎_elim (λ e. inr (group_fault_behind p.0.0 old p.0.1 refusal.bit refusal.why (basic_takes p.0.0 old p.0.1 p.1) e))
    (λ q. absurd (ok_is_no_err (record { tag = tag; basic = p.0.0; groups = q.0.0 }, q.0.1) refusal q.2))
    (bind_err (groups_at 8 p.0.1) (λ groups. Ok (record { tag = tag; basic = p.0.0; groups = groups.0 }, groups.1)) refusal p.2))
    (bind_err (basic_at old) (λ basic. groups_at 8 basic.1 >>= λ groups. Ok (record { tag = tag; basic = basic.0; groups = groups.0 }, groups.1)) refusal given)

pub report_cut : (tag : ℕ) (old : Unread) (bit : ℕ) → IsFirstCut basic_fields old bit → report_at tag old ≡ Err (short_at bit)
unfolding report_at
report_cut tag old bit cut =
    ap (λ reading. reading >>= λ basic. groups_at 8 basic.1 >>= λ groups. Ok (record { tag = tag; basic = basic.0; groups = groups.0 }, groups.1)) (basic_cut old bit cut)

pub report_fault : (tag : ℕ) (old : Unread) (bit : ℕ) (cause : DownWhy) → IsFirstGroupFault old bit cause → report_at tag old ≡ Err (record { bit = bit; why = cause })
unfolding report_at
report_fault tag old bit cause fault =
    let behind : Unread = record { left = fault.front ++ fault.rest; at = old.at + length fault.basic } in
    ap (λ left. report_at tag (record { left = left; at = old.at })) fault.stand
    ∙ ap (λ reading. reading >>= λ basic. groups_at 8 basic.1 >>= λ groups. Ok (record { tag = tag; basic = basic.0; groups = groups.0 }, groups.1))
    (basic_again fault.values fault.basic (fault.front ++ fault.rest) old.at fault.encodes_basic)
    ∙ ap (λ reading. reading >>= λ groups. Ok (record { tag = tag; basic = basic_from fault.values; groups = groups.0 }, groups.1))
    (groups_fault 8 behind bit cause
    (record {
      groups = fault.groups;
      front = fault.front;
      rest = fault.rest;
      left_over = fault.room;
      stand = refl;
      encoded = fault.encodes_groups;
      counted = fault.eight;
      fault = fault.fault;
    }))
