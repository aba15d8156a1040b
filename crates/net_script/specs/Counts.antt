-- How many fields a line has. This project's profile.
use Rattle.std.specs.Prelude.{◌≡◌, ◌+◌, ◌≤◌, ℕ}
use Rattle.net_script.specs.declared.limits.TheConstants.{AIRCRAFT_FIELDS, MAX_ADDRESSES, SAMPLE_FIELDS}
use Rattle.net_script.specs.declared.letter.Letter.{Letter}
use Rattle.net_script.specs.declared.letter.Letter.TheVariants.{Aircraft, Ground, Sample, Time, Emergency, Logon, Uplink, Request, Cancel, Bring, Receive}

-- A line of this letter may have so many fields, its letter counted. An `A` line may say a profile in one field more, and
-- the text of a `U` line may have commas.
abbrev pub HasCount : Letter → ℕ → Type 0
HasCount Aircraft count = (AIRCRAFT_FIELDS ≤ count) × (count ≤ AIRCRAFT_FIELDS + 1)
HasCount Ground count = (2 ≤ count) × (count ≤ MAX_ADDRESSES + 1)
HasCount Sample count = count ≡ SAMPLE_FIELDS
HasCount Time count = count ≡ 2
HasCount Emergency count = count ≡ 2
HasCount Logon count = count ≡ 2
HasCount Uplink count = 2 ≤ count
HasCount Request count = count ≡ 3
HasCount Cancel count = count ≡ 3
HasCount Bring count = count ≡ 3
HasCount Receive count = count ≡ 3
