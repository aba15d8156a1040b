-- What a call that read a table of fields says of the bits.
use Rattle.std.proofs.Common.{◌≡◌, ℕ, ◌+◌, ℤ, Bool, List, ◌++◌, Result, Ok, Err, ◌↔◌, sym, ap, ◌∙◌, subst, subst₂}
use Rattle.bit_terms.specs.Reading.{Unread, Gives}
use Rattle.bit_terms.proofs.ReadingLaws.{ok_same, ok_is_no_err, err_same}
use Rattle.adsc_groups.specs.Fields.{Field, size_of, WereRead, IsFirstCut, fields_at}
use Rattle.adsc_groups.proofs.FieldsLaws.{AllWide, fields_take, fields_again, fields_refused, first_cut_refused}

-- What stands next is read.
pub read_again : (fields : List Field) (values : List ℤ) (old left : Unread) → AllWide fields → WereRead fields values old left → fields_at fields old ≡ Ok (values, left)
read_again fields values old left wide were =
    ap (λ bits. fields_at fields (record { left = bits; at = old.at })) were.2
    ∙ fields_again fields values were.0 left.left old.at wide were.1
    ∙ ap (λ place. Ok (values, record { left = left.left; at = place })) (sym were.3)

-- What is read stood next.
pub were_read : (fields : List Field) (values : List ℤ) (old left : Unread) → AllWide fields → fields_at fields old ≡ Ok (values, left) → WereRead fields values old left
were_read fields values old left wide given = let took = fields_take fields values old left wide given in (took.front, took.encoded, took.bits, took.place)

module _ {X E : Type 0} (view : X → List ℤ) (tell : E → ℕ) (fields : List Field) (wide : AllWide fields) (old new : Unread) where
  pub read_exactly : ((a b : X) → view a ≡ view b → a ≡ b) → (result : Result X E) → Gives view tell result new (fields_at fields old)
      → (x : X) (left : Unread) → ((result ≡ Ok x) × (new ≡ left)) ↔ WereRead fields (view x) old left
  read_exactly same_value (Ok y) gives x left = (
    (λ p. subst₂ (λ z u. WereRead fields (view z) old u) (ok_same {F = E} y x p.0) p.1 (were_read fields (view y) old new wide gives)),
    (λ were.
        let one = ok_same {F = ℕ} (view y, new) (view x, left) (sym gives ∙ read_again fields (view x) old left wide were) in
        (ap (λ z. Ok z) (same_value y x (ap (λ p. p.0) one)), ap (λ p. p.1) one)),
  )
  read_exactly same_value (Err e) gives x left = (
    (λ p. absurd (ok_is_no_err x e (sym p.0))),
    (λ were. absurd (ok_is_no_err (view x, left) (tell e) (sym (read_again fields (view x) old left wide were) ∙ gives))),
  )

  pub read_short : ((a b : E) → tell a ≡ tell b → a ≡ b) → (result : Result X E) → Gives view tell result new (fields_at fields old)
      → (refusal : E) → (result ≡ Err refusal) ↔ IsFirstCut fields old (tell refusal)
  read_short same_told (Ok x) gives refusal =
      ((λ wrong. absurd (ok_is_no_err x refusal wrong)), (λ cut. absurd (ok_is_no_err (view x, new) (tell refusal) (sym gives ∙ first_cut_refused fields old (tell refusal) cut))))
  read_short same_told (Err e) gives refusal = (
    (λ same. subst (λ r. IsFirstCut fields old (tell r)) (err_same {A = X} e refusal same) (fields_refused fields old (tell e) wide gives)),
    (λ cut. ap (λ r. Err r) (same_told e refusal (err_same {A = List ℤ × Unread} (tell e) (tell refusal) (sym gives ∙ first_cut_refused fields old (tell refusal) cut)))),
  )
