-- The laws of the addresses of a ground line.
use Rattle.std.proofs.Common.{◌≡◌, ◌≢◌, ◌↔◌, ◌+◌, ◌-◌, ◌<◌, ◌≤◌, ℕ, Bool, true, false, IsTrue, IfSome, List, [], ◌∷◌, ◌++◌, Option, Some, None, length, take, drop, get_or, refl, sym, ap, ◌∙◌, subst, arith, inl, inr, add-one, length-append, length-drop}
use Rattle.std.proofs.Math.ListN.{get_or-map}
use Rattle.std.proofs.Math.Seq.{get_or-append_seam}
use Rattle.std.proofs.lemmas.Bool.{cases_lt, cases_order}
use Rattle.std.proofs.lemmas.List.{append_cancel_right, length-map, take-append-le, take_all, take_more}
use Rattle.std.specs.Prelude.{codes}
use Rattle.acars_envelope.specs.Names.{IsAddress}
use Rattle.net_script.specs.Addresses.{IsReserved, IsStarred, NoStarBefore, listed_addresses}
use Rattle.net_script.specs.Fields.{field_at}
use Rattle.net_script.proofs.FieldsLaws.{field-drop}

-- A test that failed says that the fact doesn't hold.
pub not_from : (r : Bool) (P : Type 0) → IsTrue r ↔ P → r ≡ false → ¬ P
not_from r P tells failed holds = let passed : r ≡ true = tells.1 holds in cc

-- ---- stars

-- Texts that are one end in one byte.
last_same : (xs ys : List ℕ) (a b : ℕ) → xs ++ a ∷ [] ≡ ys ++ b ∷ [] → a ≡ b
last_same xs ys a b same =
    let size : length xs ≡ length ys = omega (arith, ap length same, length-append xs (a ∷ []), length-append ys (b ∷ [])) in
    sym (get_or-append_seam xs a [] 0) ∙ ap (λ text. get_or text (length xs) 0) same ∙ ap (λ place. get_or (ys ++ b ∷ []) place 0) size
    ∙ get_or-append_seam ys b [] 0

-- A text with another last byte isn't starred.
pub no_star : (text front : List ℕ) (last : ℕ) → text ≡ front ++ last ∷ [] → last ≢ 42 → ¬ IsStarred text
no_star text front last is other starred = other (last_same front starred.address last 42 (sym is ∙ starred.spelled))

-- Nor is the empty text.
pub empty_no_star : (text : List ℕ) → length text ≡ 0 → ¬ IsStarred text
empty_no_star text empty starred = omega (arith, ap length starred.spelled, length-append starred.address (42 ∷ []))

-- Nor is a star behind what is no address.
pub no_address : (text front : List ℕ) → text ≡ front ++ 42 ∷ [] → ¬ IsAddress front → ¬ IsStarred text
no_address text front is none starred =
    none (subst IsAddress (append_cancel_right starred.address front (42 ∷ []) (sym starred.spelled ∙ is)) starred.is_address)

-- An address has seven characters, and none of them is the star.
pub seven : (address : List ℕ) → IsAddress address → take 7 address ≡ address
seven address is = take_all 7 address (omega (arith, is.size))

pub seven_starred : (text address : List ℕ) → IsAddress address → text ≡ address ++ 42 ∷ [] → take 7 text ≡ address
seven_starred text address is spelled =
    ap (take 7) spelled ∙ take-append-le 7 address (42 ∷ []) (omega (arith, is.size)) ∙ seven address is

-- The same of what was found in a text.
pub seven_starred_if : (text : List ℕ) (found : Option (List ℕ)) → IfSome found IsAddress → IfSome found (λ address. text ≡ address ++ codes "*")
    → IfSome found (λ address. address ≡ take 7 text)
seven_starred_if text None is spelled = tt
seven_starred_if text (Some address) is spelled = sym (seven_starred text address is spelled)

-- The first star stands at the reserved place.
pub star_is_reserved : (fields : List (List ℕ)) (reserved : Option ℕ) (place : ℕ) → IsReserved fields reserved → place + 1 < length fields
    → IsStarred (field_at fields (place + 1)) → NoStarBefore fields (place + 1) → reserved ≡ Some place
star_is_reserved fields None place none inside starred first = absurd (none (place + 1) (omega arith) inside starred)
star_is_reserved fields (Some star) place (within, is, before) inside starred first = elim (cases_order star place) [
  | inl same ↦ ap Some same
  | inr (inl below) ↦ absurd (first (star + 1) (omega arith) (omega arith) is)
  | inr (inr above) ↦ absurd (before (place + 1) (omega arith) (omega arith) starred)
]

-- Fields have one reserved place.
pub reserved_same : (fields : List (List ℕ)) (a b : Option ℕ) → IsReserved fields a → IsReserved fields b → a ≡ b
reserved_same fields None None one other = refl
reserved_same fields a (Some place) one (inside, starred, first) = star_is_reserved fields a place one inside starred first
reserved_same fields (Some place) None (inside, starred, first) other = sym (star_is_reserved fields None place other inside starred first)

-- What holds up to a place and at the next holds up to the next.
pub up_to_more : (P : ℕ → Type 0) (place : ℕ) → ((k : ℕ) → 1 ≤ k → k < place + 1 → P k) → P (place + 1) → (k : ℕ) → 1 ≤ k → k < place + 1 + 1 → P k
up_to_more P place so_far next k some within = elim (cases_lt place k) [
  | inl above ↦ let last : place + 1 ≡ k = omega arith in subst P last next
  | inr below ↦ so_far k some (omega arith)
]

-- ---- lists

length-listed : (fields : List (List ℕ)) → length (listed_addresses fields) ≡ length fields - 1
length-listed fields = length-map (drop 1 fields) (take 7) ∙ length-drop 1 fields

listed_at : (fields : List (List ℕ)) (place : ℕ) → get_or (listed_addresses fields) place [] ≡ take 7 (field_at fields (place + 1))
listed_at fields place = get_or-map (take 7) (drop 1 fields) place [] ∙ ap (take 7) (field-drop fields place ∙ ap (field_at fields) (sym (add-one place)))

-- One field more is listed.
pub one_more_listed : (fields items : List (List ℕ)) (place : ℕ) (address : List ℕ) → items ≡ take place (listed_addresses fields) → place + 1 < length fields
    → address ≡ take 7 (field_at fields (place + 1)) → items ++ address ∷ [] ≡ take (place + 1) (listed_addresses fields)
one_more_listed fields items place address so_far inside is =
    ap (λ front. front ++ address ∷ []) so_far ∙ ap (λ text. take place (listed_addresses fields) ++ text ∷ []) (is ∙ sym (listed_at fields place))
    ∙ sym (take_more (listed_addresses fields) place [] (omega (arith, length-listed fields)))

-- All fields are listed.
pub all_listed : (fields items : List (List ℕ)) (count : ℕ) → length fields ≡ count + 1 → items ≡ take count (listed_addresses fields)
    → items ≡ listed_addresses fields
all_listed fields items count size so_far = so_far ∙ take_all count (listed_addresses fields) (omega (arith, length-listed fields))
