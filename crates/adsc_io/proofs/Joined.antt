-- One read after another, and one write after another, where the bytes are told.
use Rattle.std.proofs.Common.{ℕ, ◌+◌, ◌-◌, ◌<◌, ◌≤◌, List, [], ◌++◌, length, take, drop, sym, ◌∙◌, ap, refl, subst, arith}
use Rattle.std.proofs.Math.Seq.{take-add, take-append-add}
use Rattle.std.specs.Prelude.{Some, None}
use Rattle.std.specs.declared.option.Option.{Option}
use Rattle.std.specs.Io.KnownBytes.{Consumes, Appends, Keeps}
use Rattle.std.proofs.lemmas.List.{append-nil, append_assoc, length-append, take_rest, take_all}
use Rattle.adsc_io.specs.Writes.{AppendsPrefix}

-- no bytes
pub Consumes-none : (old : Option (List ℕ)) → Consumes old old []
Consumes-none None = tt
Consumes-none (Some xs) = refl

-- some bytes and then some more
pub Consumes-then : (old middle new : Option (List ℕ)) (xs ys : List ℕ) → Consumes old middle xs → Consumes middle new ys → Consumes old new (xs ++ ys)
Consumes-then None middle new xs ys first second = tt
Consumes-then (Some olds) None new xs ys first second = absurd first
Consumes-then (Some olds) (Some middles) None xs ys first second = absurd second
Consumes-then (Some olds) (Some middles) (Some news) xs ys first second = first ∙ ap (λ l. xs ++ l) second ∙ sym (append_assoc xs ys news)

-- some bytes, and then a read that failed
pub Consumes-kept : (old middle new : Option (List ℕ)) (xs : List ℕ) → Consumes old middle xs → Keeps middle new → Consumes old new xs
Consumes-kept None middle new xs first kept = tt
Consumes-kept (Some olds) None new xs first kept = absurd first
Consumes-kept (Some olds) (Some middles) None xs first kept = absurd kept
Consumes-kept (Some olds) (Some middles) (Some news) xs first kept = first ∙ ap (λ l. xs ++ l) (sym kept)

-- no bytes
pub Appends-none : (old : Option (List ℕ)) → Appends old old []
Appends-none None = tt
Appends-none (Some xs) = sym (append-nil xs)

-- some bytes and then some more
pub Appends-then : (old middle new : Option (List ℕ)) (xs ys : List ℕ) → Appends old middle xs → Appends middle new ys → Appends old new (xs ++ ys)
Appends-then None middle new xs ys first second = tt
Appends-then (Some olds) None new xs ys first second = absurd first
Appends-then (Some olds) (Some middles) None xs ys first second = absurd second
Appends-then (Some olds) (Some middles) (Some news) xs ys first second = second ∙ ap (λ l. l ++ ys) first ∙ append_assoc olds xs ys

-- some bytes, and then a write that failed
pub Appends-kept : (old middle new : Option (List ℕ)) (xs : List ℕ) → Appends old middle xs → Keeps middle new → Appends old new xs
Appends-kept None middle new xs first kept = tt
Appends-kept (Some olds) None new xs first kept = absurd first
Appends-kept (Some olds) (Some middles) None xs first kept = absurd kept
Appends-kept (Some olds) (Some middles) (Some news) xs first kept = kept ∙ first

-- a front of the bytes, and then the front of the slice that is left of them
pub Appends-piece : (old middle new : Option (List ℕ)) (bytes : List ℕ) (at count : ℕ)
    → Appends old middle (take at bytes) → Appends middle new (take count (take (length bytes - at) (drop at bytes))) → Appends old new (take (at + count) bytes)
Appends-piece old middle new bytes at count first second =
    subst (Appends old new) (sym (take-add at count bytes))
    (Appends-then old middle new (take at bytes) (take count (drop at bytes)) first
    (subst (λ piece. Appends middle new (take count piece)) (take_rest bytes at) second))

-- a front of the bytes, and then a write that failed
pub AppendsPrefix-kept : (old middle new : Option (List ℕ)) (bytes : List ℕ) (at : ℕ)
    → Appends old middle (take at bytes) → Keeps middle new → at < length bytes → AppendsPrefix old new bytes
AppendsPrefix-kept old middle new bytes at first kept short = (at, short, Appends-kept old middle new (take at bytes) first kept)

-- all of some bytes, and then a front of others
pub AppendsPrefix-then : (old middle new : Option (List ℕ)) (xs ys : List ℕ) → Appends old middle xs → AppendsPrefix middle new ys → AppendsPrefix old new (xs ++ ys)
AppendsPrefix-then old middle new xs ys first (count, short, second) = (
  length xs + count,
  omega (arith, short, length-append xs ys),
  subst (Appends old new) (sym (take-append-add xs ys count)) (Appends-then old middle new xs (take count ys) first second),
)

-- a front of the bytes that is all of them
pub Appends-whole : (old new : Option (List ℕ)) (bytes : List ℕ) (at : ℕ) → Appends old new (take at bytes) → length bytes ≤ at → Appends old new bytes
Appends-whole old new bytes at front long = subst (Appends old new) (take_all at bytes long) front

-- the laws that the loops over a source and a sink need
pub ruleset joined =
    (Consumes-none, Consumes-then, Consumes-kept, Appends-none, Appends-piece, Appends-whole, AppendsPrefix-kept)
