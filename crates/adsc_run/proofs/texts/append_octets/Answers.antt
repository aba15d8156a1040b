use Rattle.std.proofs.Common.{◌≡◌, ℕ, List, ap, rules}
use Rattle.arrayvec.specs.ArrayVec.{ArrayVec}
use Rattle.adsc_run.proofs.texts.append_octets.Goals as goal

pub returns : goal.returns
returns c = same _ _ (search rules)
  where
    same : (one other : ArrayVec ℕ) → one.items ≡ other.items → one ≡ other
    same one other is = ap (λ (items : List ℕ). record { items = items }) is
