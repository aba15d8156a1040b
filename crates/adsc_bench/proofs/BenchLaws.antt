-- The laws of what a source told and what was read of it.
use Rattle.std.proofs.Common.{List, ℕ, ◌++◌, Option, Some, None, IfSome, subst, sym, ap, ◌∙◌}
use Rattle.std.specs.Io.KnownBytes.{Consumes, IsAtEnd}
use Rattle.std.proofs.lemmas.List.{append-nil}

-- what holds of the bytes that were read to the end holds of the bytes that the source told
pub told-whole : (left rest : Option (List ℕ)) (bytes : List ℕ) (P : List ℕ → Type 0) → Consumes left rest bytes → IsAtEnd rest → P bytes → IfSome left P
told-whole None rest bytes P read end holds = tt
told-whole (Some all) None bytes P read end holds = absurd read
told-whole (Some all) (Some more) bytes P read end holds =
    subst P (sym (read ∙ ap (λ r. bytes ++ r) end ∙ append-nil bytes)) holds
