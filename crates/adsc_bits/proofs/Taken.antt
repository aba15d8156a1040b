-- What a call that took a field by `taken` says of the bits.
use Rattle.std.proofs.Common.{◌≡◌, ℕ, ◌<◌, ◌≤◌, length, ℤ, Result, Ok, Err, ◌↔◌, IfOk, IfErr, OnErr, IsErr, refl, sym, ◌∙◌}
use Rattle.bit_terms.specs.Reading.{Unread, Takes, TakesSigned, taken, taken_signed, Gives}
use Rattle.bit_terms.proofs.ReadingLaws.{taken_short, taken_takes, taken_refused, taken_signed_takes, taken_signed_refused, ok_is_no_err}

-- A reading has no value where it is refused.
not_both : {A F : Type 0} (reading : Result A F) (x : A) (refusal : F) → reading ≡ Ok x → reading ≡ Err refusal → ⊥
not_both reading x refusal one two = ok_is_no_err x refusal (sym one ∙ two)

module _ {E : Type 0} (tell : E → ℕ) (width : ℕ) (old new : Unread) where
  pub number_found : (result : Result ℕ E) → Gives (λ (v : ℕ). v) tell result new (taken width old) → IfOk result (λ v. Takes width v old new)
  number_found (Ok v) gives = taken_takes width v old new gives
  number_found (Err e) gives = tt

  pub number_short : (result : Result ℕ E) → Gives (λ (v : ℕ). v) tell result new (taken width old) → IsErr result ↔ (length old.left < width)
  number_short (Ok v) gives = ((λ wrong. cc), (λ few. absurd (not_both (taken width old) (v, new) old.at gives (taken_short width old few))))
  number_short (Err e) gives = ((λ _. (taken_refused width (tell e) old gives).1), (λ _. refl))

  pub number_unmoved : (result : Result ℕ E) → Gives (λ (v : ℕ). v) tell result new (taken width old) → OnErr result (new ≡ old)
      → IfErr result (λ e. (tell e ≡ old.at) × (new ≡ old))
  number_unmoved (Ok v) gives stays = tt
  number_unmoved (Err e) gives stays = ((taken_refused width (tell e) old gives).0, stays)

  pub signed_found : (result : Result ℤ E) → 1 ≤ width → Gives (λ (v : ℤ). v) tell result new (taken_signed width old)
      → IfOk result (λ v. TakesSigned width v old new)
  signed_found (Ok v) some gives = taken_signed_takes width v old new some gives
  signed_found (Err e) some gives = tt

  pub signed_short : (result : Result ℤ E) → Gives (λ (v : ℤ). v) tell result new (taken_signed width old) → IsErr result ↔ (length old.left < width)
  signed_short (Ok v) gives =
      ((λ wrong. cc), (λ few. absurd (not_both (taken_signed width old) (v, new) old.at gives (rw (taken_short width old few) refl))))
  signed_short (Err e) gives = ((λ _. (taken_signed_refused width (tell e) old gives).1), (λ _. refl))

  pub signed_unmoved : (result : Result ℤ E) → Gives (λ (v : ℤ). v) tell result new (taken_signed width old) → OnErr result (new ≡ old)
      → IfErr result (λ e. (tell e ≡ old.at) × (new ≡ old))
  signed_unmoved (Ok v) gives stays = tt
  signed_unmoved (Err e) gives stays = ((taken_signed_refused width (tell e) old gives).0, stays)
