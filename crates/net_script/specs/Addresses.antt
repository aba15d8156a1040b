-- The addresses that a `G` line lists, and the star behind the one for which a connection is kept. The addresses are those of
-- ARINC 622; the list and the star are this project's profile.
use Rattle.std.specs.Prelude.{◌≡◌, ◌⊎◌, ◌+◌, ◌<◌, ◌≤◌, ℕ, List, [], ◌++◌, Option, Some, None, codes, drop, length, map, slice_index_or, take}
use Rattle.acars_envelope.specs.Names.{IsAddress}
use Rattle.net_script.specs.Fields.{field_at}

-- The addresses of a list, in its order.
pub record AddressList : Type 0 where
  pub items : List (List ℕ)

-- The text is an address with a star behind it.
pub record IsStarred (text : List ℕ) : Type 0 where
  pub address : List ℕ
  pub is_address : IsAddress address
  pub spelled : text ≡ address ++ codes "*"

-- No field behind the letter and before the place is an address with a star.
abbrev pub NoStarBefore : List (List ℕ) → ℕ → Type 0
NoStarBefore fields place = (k : ℕ) → 1 ≤ k → k < place → ¬ IsStarred (field_at fields k)

-- The field at the place lists an address: it is one, or it is the first with a star.
abbrev pub IsListed : List (List ℕ) → ℕ → Type 0
IsListed fields place =
    IsAddress (field_at fields place) ⊎ (IsStarred (field_at fields place) × NoStarBefore fields place)

-- The addresses that the fields list, stars left aside: the seven characters with which each field behind the letter begins.
abbrev pub listed_addresses : List (List ℕ) → List (List ℕ)
listed_addresses fields = map (take 7) (drop 1 fields)

-- The first star stands behind the address at this place of the list, counted from 0, or no address has one.
abbrev pub IsReserved : List (List ℕ) → Option ℕ → Type 0
IsReserved fields None = NoStarBefore fields (length fields)
IsReserved fields (Some place) =
    (place + 1 < length fields) × IsStarred (field_at fields (place + 1)) × NoStarBefore fields (place + 1)

-- The address at the place is equal to one before it.
abbrev pub IsRepeat : List (List ℕ) → ℕ → Type 0
IsRepeat addresses place =
    (earlier : ℕ) × (earlier < place) × (slice_index_or addresses earlier [] ≡ slice_index_or addresses place [])

-- The place is the first at which an address stands again.
pub record IsFirstRepeat (addresses : List (List ℕ)) (place : ℕ) : Type 0 where
  pub inside : place < length addresses
  pub again : IsRepeat addresses place
  pub before : (k : ℕ) → k < place → ¬ IsRepeat addresses k

-- No address of the list stands twice.
abbrev pub AreDifferent : List (List ℕ) → Type 0
AreDifferent addresses = (place : ℕ) → place < length addresses → ¬ IsRepeat addresses place
