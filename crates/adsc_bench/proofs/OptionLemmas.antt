-- Lemmas on options.
use Rattle.std.proofs.Common.{Option, Some, None, IfNone}

-- what follows, where nothing is there
pub if_none_then : {T : Type 0} (found : Option T) (P Q : Type 0) → (P → Q) → IfNone found P → IfNone found Q
if_none_then None P Q follows holds = follows holds
if_none_then (Some value) P Q follows holds = tt
