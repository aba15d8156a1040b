-- What contracts see of a centre.
use Rattle.std.specs.Prelude.{◌≡◌, ℕ, List}
use Rattle.centre_core.specs.declared.table.CentreTable.{CentreTable}

-- A centre: its own address, the registration of its aircraft, and its table.
pub record CentreView : Type 0 where
  pub address : List ℕ
  pub registration : List ℕ
  pub table : CentreTable

-- The centre has the address and the registration that it had before.
abbrev pub KeepsNames : CentreView → CentreView → Type 0
KeepsNames old new = (new.address ≡ old.address) × (new.registration ≡ old.registration)
