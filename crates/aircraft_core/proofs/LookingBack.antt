-- The logon state by looking back.
use Rattle.std.proofs.Common.{◌≡◌, ℕ, zero, suc, ◌==◌, ◌||◌, Bool, true, false, cond, List, [], ◌∷◌, ◌++◌, fold, reverse, refl, ap, sym, ◌∙◌}
use Rattle.std.specs.List.{list_any}
use Rattle.std.proofs.lemmas.List.{reverse-append, reverse-reverse}
use Rattle.std.proofs.lemmas.List.Sums.{fold-append}
use Rattle.afn_logon.specs.Logons.{after_answer, answered}
use Rattle.afn_logon.specs.declared.logon.Logon.{Logon}
use Rattle.afn_logon.specs.declared.logon.Logon.TheVariants.{Nothing, Sent}
use Rattle.aircraft_core.specs.declared.entry.Entry.{Entry}
use Rattle.aircraft_core.specs.declared.entry.Entry.TheVariants as entries
use Rattle.aircraft_core.specs.LogonStates.{is_logon_of, last_said, logon_after, logon_state, state_looking_back}

-- An answer decides where another did before.
answered_again : (before now : ℕ) → after_answer (answered before) now ≡ answered now
answered_again zero now = refl
answered_again (suc before) now = refl

-- Where a logon came, an answer decides.
decides : (link : ℕ) (back : List Entry) (code : ℕ) → list_any (is_logon_of link) back ≡ true → after_answer (last_said link back) code ≡ answered code
decides link [] code came = cc
decides link (entries.Uplink line other bytes ∷ back) code came = decides link back code came
decides link (entries.Sample line sample ∷ back) code came = decides link back code came
decides link (entries.Tick line t ∷ back) code came = decides link back code came
decides link (entries.Crew line on ∷ back) code came = decides link back code came
decides link (entries.Answer line other before ∷ back) code came = by (link == other) (decides link back code came)
  where
    by : (b : Bool) → after_answer (last_said link back) code ≡ answered code → after_answer (cond b (answered before) (last_said link back)) code ≡ answered code
    by true later = answered_again before code
    by false later = later
decides link (entries.Logon line other ∷ back) code came = by (link == other) (λ c. decides link back code c) came
  where
    by : (b : Bool) → (list_any (is_logon_of link) back ≡ true → after_answer (last_said link back) code ≡ answered code)
        → (b || list_any (is_logon_of link) back) ≡ true → after_answer (cond b Sent (last_said link back)) code ≡ answered code
    by true later c = refl
    by false later c = later c

abbrev looking_back : ℕ → List Entry → Logon
looking_back link back = cond (list_any (is_logon_of link) back) (last_said link back) Nothing

-- One entry more.
said_next : (link : ℕ) (back : List Entry) (entry : Entry) → logon_after link (looking_back link back) entry ≡ looking_back link (entry ∷ back)
said_next link back (entries.Uplink line other bytes) = refl
said_next link back (entries.Sample line sample) = refl
said_next link back (entries.Tick line t) = refl
said_next link back (entries.Crew line on) = refl
said_next link back (entries.Logon line other) = by (link == other)
  where
    by : (b : Bool) → cond b Sent (looking_back link back) ≡ cond (b || list_any (is_logon_of link) back) (cond b Sent (last_said link back)) Nothing
    by true = refl
    by false = refl
said_next link back (entries.Answer line other code) = by (link == other) (list_any (is_logon_of link) back) refl
  where
    by : (b came : Bool) → list_any (is_logon_of link) back ≡ came
        → cond b (after_answer (cond came (last_said link back) Nothing) code) (cond came (last_said link back) Nothing)
        ≡ cond came (cond b (answered code) (last_said link back)) Nothing
    by true true e = decides link back code e
    by true false e = refl
    by false came e = refl

back_over : (link : ℕ) (back : List Entry) → fold (logon_after link) Nothing (reverse back) ≡ looking_back link back
back_over link [] = refl
back_over link (entry ∷ back) =
    ap (fold (logon_after link) Nothing) (reverse_more entry back)
    ∙ fold-append (logon_after link) Nothing (reverse back) (entry ∷ [])
    ∙ ap (λ logon. logon_after link logon entry) (back_over link back)
    ∙ said_next link back entry
  where
    reverse_more : (e : Entry) (b : List Entry) → reverse (e ∷ b) ≡ reverse b ++ e ∷ []
    reverse_more e b = reverse-append (e ∷ []) b

pub looked_back : (link : ℕ) (journal : List Entry) → logon_state link journal ≡ state_looking_back link journal
looked_back link journal = ap (fold (logon_after link) Nothing) (sym (reverse-reverse journal)) ∙ back_over link (reverse journal)
