-- Emergency-off falls due at a crew act off.
use Rattle.std.proofs.Common.{◌≡◌, ◌↔◌, ℕ, Bool, true, false, List, refl, ap, sym, ◌∙◌}
use Rattle.contract_rules.specs.Acts.{Act, Said, Malformed, Moved, Ticked, Crew, is_crew_act, is_crew_on}
use Rattle.contract_rules.specs.LiveLinks.{Verdict, Noted, session_of}
use Rattle.contract_rules.specs.Emergency.{is_in_emergency_mode, is_emergency_off_due}

-- Which acts are crew acts off.
pub no_crew_off : (act : Act) → is_crew_act act ≡ false → act ≡ Crew false → ⊥
no_crew_off act other same = absurd (let h : false ≡ true = sym other ∙ ap is_crew_act same in cc)

pub emergency_off_at_crew_off : (link : ℕ) (noted : Noted) (heard : List Noted)
    → (is_emergency_off_due link noted heard ≡ true)
    ↔ ((noted.act ≡ Crew false) × (is_in_emergency_mode (session_of link heard) heard ≡ true))
emergency_off_at_crew_off link noted heard = at noted.act noted.admits noted.verdict noted.time
  where
    at : (act : Act) (admits : Bool) (verdict : Verdict) (time : ℕ)
        → (is_emergency_off_due link (record { act = act; admits = admits; verdict = verdict; time = time }) heard ≡ true)
        ↔ ((act ≡ Crew false) × (is_in_emergency_mode (session_of link heard) heard ≡ true))
    at (Crew false) admits verdict time = (λ e. (refl, e), λ both. both.1)
    at (Crew true) admits verdict time = (
      λ e. absurd (let h : false ≡ true = e in cc),
      λ both. absurd (let h : true ≡ false = ap is_crew_on both.0 in cc),
    )
    at (Said other message) admits verdict time =
        (λ e. absurd (let h : false ≡ true = e in cc), λ both. absurd (no_crew_off (Said other message) refl both.0))
    at (Malformed other fault) admits verdict time =
        (λ e. absurd (let h : false ≡ true = e in cc), λ both. absurd (no_crew_off (Malformed other fault) refl both.0))
    at (Moved before now) admits verdict time =
        (λ e. absurd (let h : false ≡ true = e in cc), λ both. absurd (no_crew_off (Moved before now) refl both.0))
    at (Ticked tick) admits verdict time =
        (λ e. absurd (let h : false ≡ true = e in cc), λ both. absurd (no_crew_off (Ticked tick) refl both.0))
