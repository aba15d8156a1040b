-- Logs of numbered entries.
use Rattle.std.proofs.Common.{◌≡◌, ◌≢◌, ℕ, ◌+◌, List, [], ◌∷◌, ◌++◌, length, cond, refl, ap, sym, ◌∙◌, arith, eq-eqb, ne_eqb}
use native.Mathlib.Decide.{ℕ_discrete}
use mathlib.Core.Logic.{dite}
use Rattle.link_threads.specs.Interleavings.{entries_of, with_number, entries_in}

module _ {E : Type 0} where
  pub with_number_hit : (m n : ℕ) (e : E) (log : List (ℕ × E)) → m ≡ n → with_number n ((m, e) ∷ log) ≡ e ∷ with_number n log
  with_number_hit m n e log same = ap (λ b. cond b (e ∷ with_number n log) (with_number n log)) (eq-eqb m n same)

  pub with_number_miss : (m n : ℕ) (e : E) (log : List (ℕ × E)) → m ≢ n → with_number n ((m, e) ∷ log) ≡ with_number n log
  with_number_miss m n e log apart = ap (λ b. cond b (e ∷ with_number n log) (with_number n log)) (ne_eqb m n apart)

  -- One more entry of this number stands at the end of its list.
  pub with_number_push : (n : ℕ) (e : E) (log : List (ℕ × E)) → with_number n (log ++ (n, e) ∷ []) ≡ with_number n log ++ e ∷ []
  with_number_push n e [] = with_number_hit n n e [] refl
  with_number_push n e ((m, x) ∷ log) = dite (ℕ_discrete m n)
      (λ same. with_number_hit m n x (log ++ (n, e) ∷ []) same ∙ ap (λ w. x ∷ w) (with_number_push n e log) ∙ ap (λ w. w ++ e ∷ []) (sym (with_number_hit m n x log same)))
      (λ apart. with_number_miss m n x (log ++ (n, e) ∷ []) apart ∙ with_number_push n e log ∙ ap (λ w. w ++ e ∷ []) (sym (with_number_miss m n x log apart)))

  -- One more entry of another number doesn't change a list.
  pub with_number_other : (m n : ℕ) (e : E) (log : List (ℕ × E)) → m ≢ n → with_number n (log ++ (m, e) ∷ []) ≡ with_number n log
  with_number_other m n e [] apart = with_number_miss m n e [] apart
  with_number_other m n e ((k, x) ∷ log) apart = dite (ℕ_discrete k n)
      (λ same. with_number_hit k n x (log ++ (m, e) ∷ []) same ∙ ap (λ w. x ∷ w) (with_number_other m n e log apart) ∙ sym (with_number_hit k n x log same))
      (λ other. with_number_miss k n x (log ++ (m, e) ∷ []) other ∙ with_number_other m n e log apart ∙ sym (with_number_miss k n x log other))

  pub entries_of_push : (log : List (ℕ × E)) (m : ℕ) (e : E) → entries_of (log ++ (m, e) ∷ []) ≡ entries_of log ++ e ∷ []
  entries_of_push [] m e = refl
  entries_of_push (x ∷ log) m e = ap (λ w. x.1 ∷ w) (entries_of_push log m e)

  pub length_entries_of : (log : List (ℕ × E)) → length (entries_of log) ≡ length log
  length_entries_of [] = refl
  length_entries_of (x ∷ log) = omega (arith, length_entries_of log)

  pub entries_in_append : (one other : List (List E)) → entries_in (one ++ other) ≡ entries_in one + entries_in other
  entries_in_append [] other = omega arith
  entries_in_append (list ∷ one) other = omega (arith, entries_in_append one other)
