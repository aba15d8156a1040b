-- Entries whose lines rise.
use Rattle.std.proofs.Common.{◌⊎◌, ◌<◌, ℕ, inl, inr, Bool, true, false, cond, List, [], ◌∷◌, ◌++◌, filter, refl, subst}
use Rattle.aircraft_core.specs.Entries.{line_of}
use Rattle.aircraft_core.specs.declared.entry.Entry.{Entry}
use Rattle.run_rules.specs.Among.{IsAmong}
use Rattle.run_rules.specs.Orders.{IsRising, line_order}
use Rattle.run_rules.proofs.Members.{among_map, among_mapped, among_parts, filter_among}

-- Those that pass a test rise too.
pub rising_filter : (test : Entry → Bool) (made : List Entry) → IsRising (line_order made) → IsRising (line_order (filter test made))
rising_filter test [] rising = tt
rising_filter test (entry ∷ made) rising = at (test entry) (rising_filter test made rising.1)
  where
    above : (number : ℕ) → IsAmong number (line_order (filter test made)) → line_of entry < number
    above number among =
        let found = among_mapped line_of number (filter test made) among in
        subst (λ n. line_of entry < n) found.2
        (rising.0 (line_of found.0) (among_map line_of found.0 made (filter_among test found.0 made found.1).0))

    at : (b : Bool) → IsRising (line_order (filter test made)) → IsRising (line_order (cond b (entry ∷ filter test made) (filter test made)))
    at true later = (above, later)
    at false later = later

-- Lines that rise, and behind them others that rise, all of them later.
pub rising_behind : (order later : List ℕ) → IsRising order → IsRising later → ((earlier number : ℕ) → IsAmong earlier order → IsAmong number later → earlier < number)
    → IsRising (order ++ later)
rising_behind [] later rising behind above = behind
rising_behind (first ∷ order) later rising behind above = (
  λ number among. at number (among_parts number order later among),
  rising_behind order later rising.1 behind (λ earlier number early late. above earlier number (inr early) late),
)
  where
    at : (number : ℕ) → IsAmong number order ⊎ IsAmong number later → first < number
    at number (inl among) = rising.0 number among
    at number (inr among) = above first number (inl refl) among
