-- A worked burst: six ground addresses, each with an emergency request in one burst of texts. An aircraft has at most
-- five live links (this project's profile), so the order of the entries decides which request isn't heard.
use Rattle.std.specs.Prelude.{◌≡◌, ℕ, List, [], ◌∷◌, ◌++◌, codes, None}
use Rattle.adsc_requests.specs.Grammar.{EncodesUplink}
use Rattle.adsc_requests.specs.declared.message.Uplink.{Uplink}
use Rattle.aircraft_core.specs.Downlinks.{AreDownlinks, text_of_items}
use Rattle.aircraft_core.specs.Setting.{Setting}
use Rattle.aircraft_core.specs.declared.who.Who.{Who}
use Rattle.arrayvec.specs.ArrayVec.{ArrayVec}
use Rattle.contract_rules.specs.Due.{Acknowledgement}
use Rattle.flight_samples.specs.declared.sample.Sample.{Sample as FlightSample}
use Rattle.run_rules.specs.Histories.Words.{RunsTo, emergency, head, script_of, sends}
use Rattle.run_rules.specs.Runs.{IsAllowedOrder, Run, Script, journal_at}
use Rattle.run_rules.specs.Stages.{setting_with}
use Rattle.run_rules.specs.declared.end.End.TheVariants.{Done}
use Rattle.run_rules.specs.declared.reading.Reading.{Reading}

-- Six ground addresses.
abbrev pub six_addresses : List (List ℕ)
six_addresses = codes "GRND001" ∷ codes "GRND002" ∷ codes "GRND003" ∷ codes "GRND004" ∷ codes "GRND005" ∷ codes "GRND006" ∷ []

-- The aircraft with links to them, none of which is kept.
abbrev pub six_links : Who → FlightSample → Setting
six_links who sample = setting_with who six_addresses None sample

-- A text of each address in turn, with these octets for this aircraft, which are read as this uplink.
abbrev pub texts_of : Who → ArrayVec ℕ → Uplink → List (List ℕ) → List Reading
texts_of who octets uplink [] = []
texts_of who octets uplink (address ∷ addresses) = sends who octets uplink address ∷ texts_of who octets uplink addresses

-- The script: the six texts are lines 4 to 9, on the links 0 to 5.
abbrev pub six_texts : Who → FlightSample → ArrayVec ℕ → Uplink → Script
six_texts who sample octets uplink = script_of (head who six_addresses sample ++ texts_of who octets uplink six_addresses)

-- The order of the lines, and one in which the last two are exchanged.
abbrev pub in_line : List ℕ
in_line = 4 ∷ 5 ∷ 6 ∷ 7 ∷ 8 ∷ 9 ∷ []

abbrev pub last_exchanged : List ℕ
last_exchanged = 4 ∷ 5 ∷ 6 ∷ 7 ∷ 9 ∷ 8 ∷ []

-- Under this order, in which five workers may take the entries, this link is acknowledged and that one gets nothing.
pub record Admits (who : Who) (sample : FlightSample) (script : Script) (order : List ℕ) (heard unheard : ℕ) (run : Run) : Type 0 where
  pub done : run.end ≡ Done
  pub allowed : IsAllowedOrder script run 5 order
  pub acknowledged : AreDownlinks (six_links who sample) (journal_at order run.log) heard
      (text_of_items (six_links who sample) heard sample (Acknowledgement 1 ∷ []) ∷ [])
  pub silent : AreDownlinks (six_links who sample) (journal_at order run.log) unheard []

-- In the order of the lines the link of line 8 is heard and that of line 9 isn't; where line 9 is taken before line
-- 8, it is the other way round.
abbrev pub OrderDecides : Type 0
OrderDecides = (who : Who) (sample : FlightSample) (octets : ArrayVec ℕ) (uplink : Uplink)
    → uplink.messages.items ≡ emergency 1 ∷ [] → EncodesUplink uplink octets.items
    → RunsTo (six_texts who sample octets uplink) in_line (Admits who sample (six_texts who sample octets uplink) in_line 4 5)
    × RunsTo (six_texts who sample octets uplink) last_exchanged (Admits who sample (six_texts who sample octets uplink) last_exchanged 5 4)
