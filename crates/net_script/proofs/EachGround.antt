-- The fields of a ground line list addresses that are all different, or there is a first that stands again.
use Rattle.std.proofs.Common.{◌≡◌, ◌⊎◌, ◌-◌, ◌<◌, ◌≤◌, ℕ, zero, suc, List, [], ◌++◌, Option, Some, None, get_or, length, refl, sym, take, ap, ◌∙◌, subst, arith, inl, inr, add-one}
use Rattle.std.specs.Prelude.{codes}
use Rattle.acars_envelope.specs.Names.{IsAddress}
use Rattle.net_script.specs.Addresses.{AddressList, AreDifferent, IsFirstRepeat, IsListed, IsRepeat, IsReserved, IsStarred, NoStarBefore, listed_addresses}
use Rattle.net_script.specs.Faults.{IsFirstTwice}
use Rattle.net_script.specs.Fields.{field_at}
use Rattle.net_script.specs.Forms.{AreRightBefore}
use Rattle.net_script.specs.Lines.{SaysAddresses}
use Rattle.net_script.specs.declared.letter.Letter.TheVariants.{Ground}
use Rattle.net_script.proofs.Deciding.{AllOrFirst, IsDecided, all_or_first, decided_and, decided_as, decided_below, decided_if, decided_le, decided_not, decided_or, decided_text, not_none}
use Rattle.net_script.proofs.EachForm.{each_address}
use Rattle.net_script.proofs.GroundLaws.{seven_starred}

-- ---- stars

each_starred : (text : List ℕ) → IsDecided (IsStarred text)
each_starred text =
    decided_as (IsAddress (take 7 text) × (text ≡ take 7 text ++ codes "*")) (IsStarred text)
    (λ is. record { address = take 7 text; is_address = is.0; spelled = is.1 }) front
    (decided_and (IsAddress (take 7 text)) (text ≡ take 7 text ++ codes "*") (each_address (take 7 text))
    (decided_text text (take 7 text ++ codes "*")))
  where
    front : IsStarred text → IsAddress (take 7 text) × (text ≡ take 7 text ++ codes "*")
    front starred =
        let same : take 7 text ≡ starred.address = seven_starred text starred.address starred.is_address starred.spelled in
        (subst IsAddress (sym same) starred.is_address, starred.spelled ∙ ap (λ address. address ++ codes "*") (sym same))

-- The field at the place, where it stands behind the letter, isn't starred.
abbrev Unstarred : List (List ℕ) → ℕ → Type 0
Unstarred fields place = 1 ≤ place → ¬ IsStarred (field_at fields place)

unstarred : (fields : List (List ℕ)) (place : ℕ) → IsDecided (Unstarred fields place)
unstarred fields place =
    decided_if (1 ≤ place) (¬ IsStarred (field_at fields place)) (decided_le 1 place)
    (decided_not (IsStarred (field_at fields place)) (each_starred (field_at fields place)))

each_front : (fields : List (List ℕ)) (place : ℕ) → IsDecided (NoStarBefore fields place)
each_front fields place =
    decided_as ((k : ℕ) → k < place → Unstarred fields k) (NoStarBefore fields place)
    (λ none k some below. none k below some) (λ none k below some. none k some below)
    (decided_below (Unstarred fields) (unstarred fields) place)

pub each_listed : (fields : List (List ℕ)) (place : ℕ) → IsDecided (IsListed fields place)
each_listed fields place =
    decided_or (IsAddress (field_at fields place)) (IsStarred (field_at fields place) × NoStarBefore fields place)
    (each_address (field_at fields place))
    (decided_and (IsStarred (field_at fields place)) (NoStarBefore fields place) (each_starred (field_at fields place))
    (each_front fields place))

-- The first star stands at some place, or at none.
some_reserved : (fields : List (List ℕ)) → (star : Option ℕ) × IsReserved fields star
some_reserved fields = found (all_or_first (Unstarred fields) (unstarred fields) (length fields))
  where
    found : AllOrFirst (Unstarred fields) (length fields) → (star : Option ℕ) × IsReserved fields star
    found (inl none) = (None, λ k some below. none k below some)
    found (inr (zero, inside, first)) = absurd (first.wrong (λ some. absurd (omega arith)))
    found (inr (suc place, inside, first)) =
        let text = field_at fields (suc place) in
        let starred = not_none (IsStarred text) (each_starred text) (λ none. first.wrong (λ some. none)) in (
          Some place,
          subst (λ p. (p < length fields) × IsStarred (field_at fields p) × NoStarBefore fields p) (sym (add-one place))
              (inside, starred, λ k some below. first.before k below some),
        )

-- ---- addresses that stand again

-- The addresses at the two places are equal.
abbrev AreSame : List (List ℕ) → ℕ → ℕ → Type 0
AreSame addresses place k = get_or addresses k [] ≡ get_or addresses place []

abbrev Differ : List (List ℕ) → ℕ → ℕ → Type 0
Differ addresses place k = ¬ AreSame addresses place k

each_repeat : (addresses : List (List ℕ)) (place : ℕ) → IsDecided (IsRepeat addresses place)
each_repeat addresses place =
    found (all_or_first (Differ addresses place) (λ k. decided_not (AreSame addresses place k) (same k)) place)
  where
    same : (k : ℕ) → IsDecided (AreSame addresses place k)
    same k = decided_text (get_or addresses k []) (get_or addresses place [])

    found : AllOrFirst (Differ addresses place) place → IsDecided (IsRepeat addresses place)
    found (inl differ) = inr (λ is. differ is.0 is.1 is.2)
    found (inr (earlier, below, first)) = inl (earlier, below, not_none (AreSame addresses place earlier) (same earlier) first.wrong)

different_or_repeat : (addresses : List (List ℕ)) → AreDifferent addresses ⊎ ((place : ℕ) × IsFirstRepeat addresses place)
different_or_repeat addresses =
    let decided = λ (k : ℕ). decided_not (IsRepeat addresses k) (each_repeat addresses k) in
    elim (all_or_first (λ k. ¬ IsRepeat addresses k) decided (length addresses)) [
      | inl different ↦ inl different
      | inr first ↦ inr (
        first.0,
        record {
          inside = first.1;
          again = not_none (IsRepeat addresses first.0) (each_repeat addresses first.0) first.2.wrong;
          before = first.2.before;
        },
      )
    ]

-- ---- the list

-- The fields list these addresses, of which the first with a star stands at this place.
pub record IsList (fields : List (List ℕ)) : Type 0 where
  pub addresses : AddressList
  pub reserved : Option ℕ
  pub says : SaysAddresses fields addresses.items reserved

-- Right fields list different addresses, or there is a first that stands again.
pub list_or_twice : (fields : List (List ℕ)) → AreRightBefore Ground fields (length fields)
    → IsList fields ⊎ ((place : ℕ) × IsFirstTwice Ground fields place)
list_or_twice fields right = elim (different_or_repeat (listed_addresses fields)) [
  | inl different ↦ inl (record {
    addresses = record { items = listed_addresses fields };
    reserved = (some_reserved fields).0;
    says = record { right = right; listed = refl; star = (some_reserved fields).1; different = different };
  })
  | inr repeat ↦
      let back : repeat.0 ≡ suc repeat.0 - 1 = omega arith in
      inr (
        suc repeat.0,
        record {
          ground = refl;
          right = right;
          some = omega arith;
          again = subst (IsFirstRepeat (listed_addresses fields)) back repeat.1;
        },
      )
]
