-- How much room an appending call needs.
use Rattle.std.specs.Prelude.{ℕ, ◌+◌, ◌<◌, ◌≤◌, Result, OnOk, OnErr}
use Rattle.std.specs.Global.{Vec}
use Rattle.std.specs.Vec.{vec_len, vec_capacity}

-- At most so many bytes are appended, no room is lost, and memory is wanted only where there isn't room for so many.
pub record NeedsRoom {T E : Type 0} (most : ℕ) (before now : Vec ℕ) (result : Result T E) : Type 0 where
  pub size : OnOk result (vec_len now ≤ vec_len before + most)
  pub kept : vec_capacity before ≤ vec_capacity now
  pub wanted : OnErr result (vec_capacity before < vec_len before + most)
