-- The laws of addresses: which link one has.
use Rattle.std.proofs.Common.{◌≡◌, ℕ, suc, ◌+◌, ◌<◌, Bool, true, false, if◌then◌else◌, List, [], length, drop, get_or, Some, inl, inr, sym, ap, ◌∙◌, add-one}
use Rattle.std.proofs.Math.Seq.{drop-cons}
use Rattle.std.proofs.lemmas.Bool.{cases_Bool}
use Rattle.std.proofs.lemmas.Bool.Decides.{Decides-eqb}
use Rattle.std.specs.Prelude.{nat_eq}
use Rattle.contract_rules.proofs.Equality.{equality_of_lists}
use Rattle.run_rules.specs.Texts.{link_from, same_text}

-- the test of texts is equality
pub text_is : (one other : List ℕ) → one ≡ other → same_text one other ≡ true
text_is one other same = (equality_of_lists nat_eq (λ m n. Decides-eqb m n) one other).1 same

pub text_is_other : (one other : List ℕ) → (one ≡ other → ⊥) → same_text one other ≡ false
text_is_other one other apart = elim (cases_Bool (same_text one other)) [
  | inl same ↦ absurd (apart ((equality_of_lists nat_eq (λ m n. Decides-eqb m n) one other).0 same))
  | inr differs ↦ differs
]

-- the address stands at this place
pub link_found : (addresses : List (List ℕ)) (address : List ℕ) (link : ℕ) → link < length addresses → get_or addresses link [] ≡ address
    → link_from link (drop link addresses) address ≡ link_from 0 addresses address → link_from 0 addresses address ≡ Some link
link_found addresses address link below here so_far =
    sym so_far ∙ ap (λ others. link_from link others address) (drop-cons addresses link [] below)
    ∙ ap (λ (b : Bool). if b then Some link else link_from (link + 1) (drop (suc link) addresses) address) (text_is _ address here)

-- another address stands there
pub link_passed : (addresses : List (List ℕ)) (address : List ℕ) (link : ℕ) → link < length addresses → (get_or addresses link [] ≡ address → ⊥)
    → link_from link (drop link addresses) address ≡ link_from 0 addresses address
    → link_from (link + 1) (drop (link + 1) addresses) address ≡ link_from 0 addresses address
link_passed addresses address link below other so_far =
    sym (sym so_far ∙ ap (λ others. link_from link others address) (drop-cons addresses link [] below)
    ∙ ap (λ (b : Bool). if b then Some link else link_from (link + 1) (drop (suc link) addresses) address) (text_is_other _ address other)
    ∙ ap (λ k. link_from (link + 1) (drop k addresses) address) (sym (add-one link)))
