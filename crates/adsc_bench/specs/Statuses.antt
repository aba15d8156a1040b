-- The numbers with which the program ends (this project's profile).
use Rattle.std.specs.Prelude.{ℕ}
use Rattle.adsc_bench.specs.declared.status.Status.{Status}
use Rattle.adsc_bench.specs.declared.status.Status.TheVariants.{Done, Refused, Words, ReadFault, WriteFault, BadLine, NoMemory, Limit}

-- the number of a status
abbrev pub status_number : Status → ℕ
status_number Done = 0
status_number Refused = 1
status_number Words = 2
status_number ReadFault = 3
status_number WriteFault = 4
status_number BadLine = 5
status_number NoMemory = 6
status_number Limit = 7
