use Rattle.std.proofs.Common.{◌≡◌, ◌≤◌, ℕ, length, []}
use Rattle.adsc_requests.specs.Gathered.{gathered_groups, AreAllowed}
use Rattle.adsc_requests.specs.Reading.{groups_at}
use Rattle.adsc_requests.proofs.decoding.groups.read_groups.Given as goal

-- Some bound is enough for what is left, and reading that on gives what reading all gives.
abbrev pub invariant-loop-rest : goal.invariant-loop-rest
invariant-loop-rest l = record {
  reads : (k : ℕ) × (length l.rest ≤ k)
      × (groups_at k l.message l.number (gathered_groups l.gathered) l.rest
      ≡ groups_at (length l.fn.octets) l.message l.number [] l.fn.octets);
  allowed : AreAllowed l.message (gathered_groups l.gathered);
}

abbrev pub decreases-loop-rest : goal.decreases-loop-rest
decreases-loop-rest l = length l.rest
