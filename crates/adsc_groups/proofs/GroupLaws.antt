-- What a call that read a group says of the bits.
use Rattle.std.proofs.Common.{◌≡◌, ℕ, Bool, true, false, List, ◌==◌, Result, Ok, Err, ◌↔◌, cond, refl, sym, ap, ◌∙◌, subst, subst₂, inl, inr, ⊎_elim, arith}
use Rattle.std.proofs.lemmas.Bool.{cases_Bool}
use Rattle.bit_terms.specs.Reading.{Unread, Gives, refused_as, ◌>>=◌}
use Rattle.bit_terms.proofs.ReadingLaws.{bind_ok, bind_err, ok_same, ok_is_no_err, err_same}
use Rattle.adsc_groups.specs.Fields.{Field, WereRead, IsFirstCut, fields_at}
use Rattle.adsc_groups.specs.Groups.{GroupData, IsGroupTag, is_group_tag, group_fields, EncodesGroup, GroupWasRead, IsGroupRefusal, group_bits, group_at}
use Rattle.adsc_groups.specs.GroupView.{group_data}
use Rattle.adsc_groups.specs.declared.group.Group.{Group}
use Rattle.adsc_groups.specs.declared.refusal.GroupRefusal.{GroupRefusal}
use Rattle.adsc_groups.specs.declared.refusal.GroupWhy.TheVariants as why
use Rattle.adsc_groups.proofs.FieldsLaws.{AllWide, fields_refused, first_cut_refused, canonical_encodes}
use Rattle.adsc_groups.proofs.FieldsRead.{were_read, read_again}
use Rattle.adsc_groups.proofs.FitLaws.{group_fits}
use Rattle.adsc_groups.proofs.SameValues.{same_group}

-- Each field of each group has a bit at least.
chosen_wide : (test : Bool) (a b : List Field) → AllWide a → AllWide b → AllWide (cond test a b)
chosen_wide true a b wide_a wide_b = wide_a
chosen_wide false a b wide_a wide_b = wide_b

pub group_wide : (tag : ℕ) → AllWide (group_fields tag)
group_wide tag =
    chosen_wide (tag == 12) _ _ (omega arith)
    (chosen_wide (tag == 13) _ _ (omega arith)
    (chosen_wide (tag == 14) _ _ (omega arith)
    (chosen_wide (tag == 15) _ _ (omega arith)
    (chosen_wide (tag == 16) _ _ (omega arith) (chosen_wide (tag == 17) _ _ (omega arith) (chosen_wide (tag == 22) _ _ (omega arith) (omega arith)))))))

-- ---- what reading a group is

-- The group's data behind a group's tag.
abbrev data_at : ℕ → Unread → Result (GroupData × Unread) ℕ
data_at tag unread = fields_at (group_fields tag) unread >>= λ values. Ok (record { tag = tag; values = values.0 }, values.1)

abbrev short_at : ℕ → GroupRefusal
short_at bit = record { bit = bit; why = why.Short }

abbrev tag_at : ℕ → GroupRefusal
tag_at bit = record { bit = bit; why = why.Tag }

group_at_tag : (tag : ℕ) (old : Unread) → IsGroupTag tag → group_at tag old ≡ refused_as short_at (data_at tag old)
unfolding group_at
group_at_tag tag old is = rw is refl

no_group_at : (tag : ℕ) (old : Unread) → is_group_tag tag ≡ false → group_at tag old ≡ Err (tag_at old.at)
unfolding group_at
no_group_at tag old is_none = rw is_none refl

refused_ok : {A : Type 0} (reading : Result A ℕ) (y : A) → refused_as short_at reading ≡ Ok y → reading ≡ Ok y
refused_ok (Ok x) y same = ap Ok (ok_same {F = GroupRefusal} x y same)
refused_ok (Err bit) y same = absurd (ok_is_no_err y (short_at bit) (sym same))

refused_err : {A : Type 0} (reading : Result A ℕ) (refusal : GroupRefusal) → refused_as short_at reading ≡ Err refusal → (bit : ℕ) × (reading ≡ Err bit) × (short_at bit ≡ refusal)
refused_err {A} (Ok x) refusal same = absurd (ok_is_no_err x refusal same)
refused_err {A} (Err bit) refusal same = (bit, refl, err_same {A = A} (short_at bit) refusal same)

-- A group that is read stood next.
group_was_read : (tag : ℕ) (group : GroupData) (old left : Unread) → group_at tag old ≡ Ok (group, left) → GroupWasRead tag group old left
group_was_read tag group old left given = ⊎_elim of_tag of_none (cases_Bool (is_group_tag tag))
  where
    of_tag : is_group_tag tag ≡ true → GroupWasRead tag group old left
    of_tag is =
        let one = refused_ok (data_at tag old) (group, left) (sym (group_at_tag tag old is) ∙ given) in
        let p = bind_ok (fields_at (group_fields tag) old) (λ values. Ok (record { tag = tag; values = values.0 }, values.1)) (group, left) one in
        let same = ok_same {F = ℕ} (record { tag = tag; values = p.0.0 }, p.0.1) (group, left) p.2 in (
          is,
          sym (ap (λ x. x.0.tag) same),
          subst (λ x. WereRead (group_fields tag) x.0.values old x.1) same (were_read (group_fields tag) p.0.0 old p.0.1 (group_wide tag) p.1),
        )

    of_none : is_group_tag tag ≡ false → GroupWasRead tag group old left
    of_none is = absurd (ok_is_no_err (group, left) (tag_at old.at) (sym given ∙ no_group_at tag old is))

-- A group that stands next is read.
group_read_again : (tag : ℕ) (group : GroupData) (old left : Unread) → GroupWasRead tag group old left → group_at tag old ≡ Ok (group, left)
group_read_again tag group old left was =
    group_at_tag tag old was.0
    ∙ ap (λ reading. refused_as short_at (reading >>= λ values. Ok (record { tag = tag; values = values.0 }, values.1)))
    (read_again (group_fields tag) group.values old left (group_wide tag) was.2)
    ∙ ap (λ t. Ok (record { tag = t; values = group.values }, left)) (sym was.1)

-- A refusal is at the tag, or at the first cut.
group_is_refused : (tag : ℕ) (old : Unread) (refusal : GroupRefusal) → group_at tag old ≡ Err refusal → IsGroupRefusal tag old refusal
group_is_refused tag old refusal given = ⊎_elim of_tag of_none (cases_Bool (is_group_tag tag))
  where
    cut : (bit : ℕ) → data_at tag old ≡ Err bit → IsFirstCut (group_fields tag) old bit
    cut bit one = ⊎_elim (λ e. fields_refused (group_fields tag) old bit (group_wide tag) e) (λ p. absurd (ok_is_no_err (record { tag = tag; values = p.0.0 }, p.0.1) bit p.2))
        (bind_err (fields_at (group_fields tag) old) (λ values. Ok (record { tag = tag; values = values.0 }, values.1)) bit one)

    of_tag : is_group_tag tag ≡ true → IsGroupRefusal tag old refusal
    of_tag is =
        let p = refused_err (data_at tag old) refusal (sym (group_at_tag tag old is) ∙ given) in
        inr (is, sym (ap (λ r. r.why) p.2), subst (IsFirstCut (group_fields tag) old) (ap (λ r. r.bit) p.2) (cut p.0 p.1))

    of_none : is_group_tag tag ≡ false → IsGroupRefusal tag old refusal
    of_none is = inl (is, err_same {A = GroupData × Unread} refusal (tag_at old.at) (sym given ∙ no_group_at tag old is))

-- Where no group is wholly there, reading is refused.
group_refused_again : (tag : ℕ) (old : Unread) (refusal : GroupRefusal) → IsGroupRefusal tag old refusal → group_at tag old ≡ Err refusal
group_refused_again tag old refusal (inl p) = no_group_at tag old p.0 ∙ ap (λ r. Err r) (sym p.1)
group_refused_again tag old refusal (inr p) =
    group_at_tag tag old p.0
    ∙ ap (λ reading. refused_as short_at (reading >>= λ values. Ok (record { tag = tag; values = values.0 }, values.1)))
    (first_cut_refused (group_fields tag) old refusal.bit p.2)
    ∙ ap (λ cause. Err (record { bit = refusal.bit; why = cause })) (sym p.1)

-- What is written is an encoding.
pub group_encodes : (group : Group) → EncodesGroup (group_data group) (group_bits (group_data group))
unfolding group_bits
group_encodes group = ((group_fits group).0, canonical_encodes (group_fields (group_data group).tag) (group_data group).values (group_fits group).1)

-- ---- what the call says

module _ (tag : ℕ) (old new : Unread) where
  pub group_exactly : (result : Result Group GroupRefusal) → Gives group_data (λ (e : GroupRefusal). e) result new (group_at tag old)
      → (group : Group) (left : Unread) → ((result ≡ Ok group) × (new ≡ left)) ↔ GroupWasRead tag (group_data group) old left
  group_exactly (Ok x) gives group left = (
    (λ p. subst₂ (λ z u. GroupWasRead tag (group_data z) old u) (ok_same {F = GroupRefusal} x group p.0) p.1 (group_was_read tag (group_data x) old new gives)),
    (λ was.
        let one = ok_same {F = GroupRefusal} (group_data x, new) (group_data group, left) (sym gives ∙ group_read_again tag (group_data group) old left was) in
        (ap (λ z. Ok z) (same_group x group (ap (λ p. p.0) one)), ap (λ p. p.1) one)),
  )
  group_exactly (Err e) gives group left = (
    (λ p. absurd (ok_is_no_err group e (sym p.0))),
    (λ was. absurd (ok_is_no_err (group_data group, left) e (sym (group_read_again tag (group_data group) old left was) ∙ gives))),
  )

  pub group_refused_exactly : (result : Result Group GroupRefusal) → Gives group_data (λ (e : GroupRefusal). e) result new (group_at tag old)
      → (refusal : GroupRefusal) → (result ≡ Err refusal) ↔ IsGroupRefusal tag old refusal
  group_refused_exactly (Ok x) gives refusal = (
    (λ wrong. absurd (ok_is_no_err x refusal wrong)),
    (λ due. absurd (ok_is_no_err (group_data x, new) refusal (sym gives ∙ group_refused_again tag old refusal due))),
  )
  group_refused_exactly (Err e) gives refusal = (
    (λ same. subst (IsGroupRefusal tag old) (err_same {A = Group} e refusal same) (group_is_refused tag old e gives)),
    (λ due. ap (λ r. Err r) (err_same {A = GroupData × Unread} e refusal (sym gives ∙ group_refused_again tag old refusal due))),
  )
