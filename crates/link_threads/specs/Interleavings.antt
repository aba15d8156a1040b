-- Lists that are interleaved, and entries that bear a number.
use Rattle.std.specs.Prelude.{◌≡◌, ◌==◌, ◌≢◌, ℕ, ◌+◌, List, [], ◌∷◌, length, map, cond, All, Some, slice_get, slice_set}
use Rattle.std.specs.List.{AllByRecursion}

module _ {E : Type 0} where
  -- The whole is an interleaving of these lists: each entry of it is the next one of some list, and at its end each list is used up. So
  -- each list stands in it whole and in its order.
  abbrev pub Interleaves : List (List E) → List E → Type 0
  Interleaves lists [] = All (λ list. list ≡ []) lists
  Interleaves lists (entry ∷ whole) = (place : ℕ) × (rest : List E) × (slice_get lists place ≡ Some (entry ∷ rest)) × Interleaves (slice_set lists place rest) whole

  -- The entries of a log, in which each entry bears a number.
  abbrev pub entries_of : List (ℕ × E) → List E
  entries_of log = map (λ numbered. numbered.1) log

  -- The entries of a log that bear this number, in their order.
  abbrev pub with_number : ℕ → List (ℕ × E) → List E
  with_number number [] = []
  with_number number (numbered ∷ log) = cond (numbered.0 == number) (numbered.1 ∷ with_number number log) (with_number number log)

  -- The entries of the whole bear numbers, and each list is the entries that bear the number of its place, in their order.
  pub record IsNumbered (lists : List (List E)) (whole : List E) : Type 0 where
    pub log : List (ℕ × E)
    pub entries : entries_of log ≡ whole
    pub each : (place : ℕ) (list : List E) → slice_get lists place ≡ Some list → with_number place log ≡ list

  -- How many entries these lists have together.
  abbrev pub entries_in : List (List E) → ℕ
  entries_in [] = 0
  entries_in (list ∷ lists) = length list + entries_in lists

-- No number occurs twice.
abbrev pub AreApart : List ℕ → Type 0
AreApart [] = Unit {0}
AreApart (number ∷ numbers) = AllByRecursion (λ other. other ≢ number) numbers × AreApart numbers
