-- What an aircraft is made with and keeps for good (this project's profile).
use Rattle.std.specs.Prelude.{ℕ, List, Option, slice_index_or, []}
use Rattle.contract_rules.specs.Configuration.{Profile, Configuration}
use Rattle.flight_samples.specs.declared.sample.Sample.{Sample}

-- Who the aircraft is and how it reports events, the ground address of each of its links, the link for which a connection is
-- kept, if any, and its first flight sample.
pub record Setting : Type 0 where
  pub registration : List ℕ
  pub flight : List ℕ
  pub airframe : ℕ
  pub profile : Profile
  pub addresses : List (List ℕ)
  pub kept : Option ℕ
  pub first : Sample

-- How the aircraft is set up for the contract rules.
abbrev pub configuration_of : Setting → Configuration
configuration_of setting = record { profile = setting.profile; kept = setting.kept }

-- The ground address of a link.
abbrev pub address_of : Setting → ℕ → List ℕ
address_of setting link = slice_index_or setting.addresses link []
