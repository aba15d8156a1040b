-- The worked burst: two orders of six texts, both allowed, of which each leaves another link unheard.
use Rattle.std.proofs.Common.{◌≡◌, ◌⊎◌, ℕ, zero, suc, ◌+◌, ◌<◌, ◌≤◌, true, false, List, [], ◌∷◌, codes, drop, map, Some, Ok, inl, inr, refl, sym, ap, subst, arith}
use Rattle.std.specs.List.{AllByRecursion}
use Rattle.arrayvec.specs.ArrayVec.{ArrayVec}
use Rattle.adsc_requests.specs.Grammar.{EncodesUplink}
use Rattle.adsc_requests.specs.declared.message.Message.{Message}
use Rattle.adsc_requests.specs.declared.message.Uplink.{Uplink as UplinkMessages}
use Rattle.aircraft_core.specs.Entries.{line_of}
use Rattle.aircraft_core.specs.JournalActs.{JournalActs, UplinkActs}
use Rattle.aircraft_core.specs.declared.entry.Entry.{Entry}
use Rattle.aircraft_core.specs.declared.entry.Entry.TheVariants.{Uplink}
use Rattle.aircraft_core.specs.declared.who.Who.{Who}
use Rattle.contract_rules.specs.Acts.{Act, Said}
use Rattle.contract_table.specs.Acts.{rules_message}
use Rattle.flight_samples.specs.declared.sample.Sample.{Sample as FlightSample}
use Rattle.ground_texts.specs.declared.ground_text.AdsUplink.{AdsUplink}
use Rattle.ground_texts.specs.declared.ground_text.GroundText.TheVariants as text
use Rattle.run_rules.specs.Among.{IsAmong}
use Rattle.run_rules.specs.Happenings.{Happening, Entered, is_centre}
use Rattle.run_rules.specs.Histories.Bursts.{Admits, OrderDecides, in_line, last_exchanged, six_addresses, six_links, six_texts, texts_of}
use Rattle.run_rules.specs.Histories.Words.{emergency}
use Rattle.run_rules.specs.Orders.{IsOrderOf, IsOrdered, IsRising, MayPass, is_burst_line, journal_of, reading_at}
use Rattle.run_rules.specs.Runs.{LinesRun, Run, ScriptRun, ended_run}
use Rattle.run_rules.specs.Stages.{flying}
use Rattle.run_rules.specs.Texts.{link_to}
use Rattle.run_rules.specs.declared.end.End.TheVariants.{Done}
use Rattle.run_rules.specs.declared.reading.Reading.{Reading}
use Rattle.run_rules.proofs.WorkedTexts.{brings_on, uplink_enters}

-- ---- lists

-- What holds of each of a list holds of whatever is among them.
pub by_each : {A : Type 0} (P : A → Type 0) (xs : List A) → AllByRecursion P xs → (x : A) → IsAmong x xs → P x
by_each P [] all x among = absurd among
by_each P (y ∷ xs) all x (inl is) = subst P is all.0
by_each P (y ∷ xs) all x (inr among) = by_each P xs all.1 x among

pub rising_is_ordered : (addresses : List (List ℕ)) (readings : List Reading) (workers : ℕ) (order : List ℕ) → IsRising order
    → IsOrdered addresses readings workers order
rising_is_ordered addresses readings workers [] rising = tt
rising_is_ordered addresses readings workers (first ∷ order) rising =
    (λ number among. inl (rising.0 number among), rising_is_ordered addresses readings workers order rising.1)

-- Numbers above another one.
abbrev pub AreAbove : ℕ → List ℕ → Type 0
AreAbove first order = AllByRecursion (λ number. first < number) order

pub above : (first : ℕ) (order : List ℕ) → AreAbove first order → (number : ℕ) → IsAmong number order → first < number
above first order all number among = by_each (λ n. first < n) order all number among

-- The lines 4 to 9 rise.
six_rise : IsRising in_line
six_rise = (
  above 4 (5 ∷ 6 ∷ 7 ∷ 8 ∷ 9 ∷ []) (omega arith, (omega arith, (omega arith, (omega arith, (omega arith, tt))))),
  (
    above 5 (6 ∷ 7 ∷ 8 ∷ 9 ∷ []) (omega arith, (omega arith, (omega arith, (omega arith, tt)))),
    (
      above 6 (7 ∷ 8 ∷ 9 ∷ []) (omega arith, (omega arith, (omega arith, tt))),
      (above 7 (8 ∷ 9 ∷ []) (omega arith, (omega arith, tt)), (above 8 (9 ∷ []) (omega arith, tt), (λ number none. absurd none, tt))),
    ),
  ),
)

-- ---- the run

-- A text of an address, with these octets for this aircraft, which are read as this uplink.
abbrev pub text_from : Who → ArrayVec ℕ → UplinkMessages → List ℕ → AdsUplink
text_from who octets uplink address = record { address = address; registration = who.registration; octets = octets; asked = Ok uplink }

-- The entries of the texts.
abbrev six_entries : ArrayVec ℕ → List Entry
six_entries octets =
    Uplink 4 0 octets ∷ Uplink 5 1 octets ∷ Uplink 6 2 octets ∷ Uplink 7 3 octets ∷ Uplink 8 4 octets ∷ Uplink 9 5 octets ∷ []

-- What happened, the newest first, where these entries were made.
abbrev log_of : List Entry → List Happening → List Happening
log_of [] log = log
log_of (made ∷ others) log = log_of others (Entered made ∷ log)

abbrev six_run : Who → FlightSample → ArrayVec ℕ → Run
six_run who sample octets = ended_run (flying (six_links who sample)) (log_of (six_entries octets) []) Done

-- The lines of the texts of these addresses run on, to the end of the script.
abbrev TextsRun : Who → FlightSample → ArrayVec ℕ → UplinkMessages → List ℕ → List Happening → ℕ → List (List ℕ) → Type 0
TextsRun who sample octets uplink order log number addresses =
    LinesRun false order (flying (six_links who sample)) log number (texts_of who octets uplink addresses) (six_run who sample octets)

-- One text more, of an address that has this link and is no centre's.
goes_on : (who : Who) (sample : FlightSample) (octets : ArrayVec ℕ) (uplink : UplinkMessages) (order : List ℕ) (log : List Happening) (number link : ℕ)
    (address : List ℕ) (addresses : List (List ℕ)) → link_to (six_links who sample) address ≡ Some link → is_centre link log ≡ false
    → TextsRun who sample octets uplink order (Entered (Uplink number link octets) ∷ log) (number + 1) addresses
    → TextsRun who sample octets uplink order log number (address ∷ addresses)
goes_on who sample octets uplink order log number link address addresses found free behind =
    brings_on false order (six_links who sample) log number (text.Ads (text_from who octets uplink address)) (Entered (Uplink number link octets) ∷ [])
    (texts_of who octets uplink addresses) (six_run who sample octets)
    (uplink_enters (six_links who sample) log number link (text_from who octets uplink address) uplink refl found free refl) behind

-- The script runs to its end under each order.
six_texts_run : (who : Who) (sample : FlightSample) (octets : ArrayVec ℕ) (uplink : UplinkMessages) (order : List ℕ)
    → ScriptRun (six_texts who sample octets uplink) order (six_run who sample octets)
six_texts_run who sample octets uplink order =
    goes_on who sample octets uplink order [] 4 0 (codes "GRND001") (drop 1 six_addresses) refl refl
    (goes_on who sample octets uplink order (log_of (Uplink 4 0 octets ∷ []) []) 5 1 (codes "GRND002") (drop 2 six_addresses) refl refl
    (goes_on who sample octets uplink order (log_of (Uplink 4 0 octets ∷ Uplink 5 1 octets ∷ []) []) 6 2 (codes "GRND003") (drop 3 six_addresses) refl refl
    (goes_on who sample octets uplink order (log_of (Uplink 4 0 octets ∷ Uplink 5 1 octets ∷ Uplink 6 2 octets ∷ []) []) 7 3 (codes "GRND004") (drop 4 six_addresses) refl refl
    (goes_on who sample octets uplink order (log_of (Uplink 4 0 octets ∷ Uplink 5 1 octets ∷ Uplink 6 2 octets ∷ Uplink 7 3 octets ∷ []) []) 8 4 (codes "GRND005") (drop 5 six_addresses) refl refl
    (goes_on who sample octets uplink order (log_of (Uplink 4 0 octets ∷ Uplink 5 1 octets ∷ Uplink 6 2 octets ∷ Uplink 7 3 octets ∷ Uplink 8 4 octets ∷ []) []) 9 5 (codes "GRND006") [] refl refl
    refl)))))

-- ---- the orders

-- The lines of the texts are one burst.
in_burst : (who : Who) (sample : FlightSample) (octets : ArrayVec ℕ) (uplink : UplinkMessages) (number : ℕ) → 4 ≤ number → number ≤ 9
    → is_burst_line (reading_at (six_texts who sample octets uplink).readings number) ≡ true
in_burst who sample octets uplink zero from to = absurd (omega (arith, from))
in_burst who sample octets uplink (suc zero) from to = absurd (omega (arith, from))
in_burst who sample octets uplink (suc (suc zero)) from to = absurd (omega (arith, from))
in_burst who sample octets uplink (suc (suc (suc zero))) from to = absurd (omega (arith, from))
in_burst who sample octets uplink (suc (suc (suc (suc zero)))) from to = refl
in_burst who sample octets uplink (suc (suc (suc (suc (suc zero))))) from to = refl
in_burst who sample octets uplink (suc (suc (suc (suc (suc (suc zero)))))) from to = refl
in_burst who sample octets uplink (suc (suc (suc (suc (suc (suc (suc zero))))))) from to = refl
in_burst who sample octets uplink (suc (suc (suc (suc (suc (suc (suc (suc zero)))))))) from to = refl
in_burst who sample octets uplink (suc (suc (suc (suc (suc (suc (suc (suc (suc zero))))))))) from to = refl
in_burst who sample octets uplink (suc (suc (suc (suc (suc (suc (suc (suc (suc (suc more)))))))))) from to = absurd (omega (arith, to))

-- The last text may pass the one before it.
last_passes : (who : Who) (sample : FlightSample) (octets : ArrayVec ℕ) (uplink : UplinkMessages)
    → MayPass six_addresses (six_texts who sample octets uplink).readings 5 8 9
last_passes who sample octets uplink =
    record {
      burst = λ number from upto. in_burst who sample octets uplink number (omega (arith, from)) upto;
      one = 4;
      other = 5;
      earlier_place = refl;
      later_place = refl;
      apart = λ same. omega (arith, same);
    }

last_exchanged_ordered : (who : Who) (sample : FlightSample) (octets : ArrayVec ℕ) (uplink : UplinkMessages)
    → IsOrdered six_addresses (six_texts who sample octets uplink).readings 5 last_exchanged
last_exchanged_ordered who sample octets uplink = (
  λ number among. inl (above 4 (5 ∷ 6 ∷ 7 ∷ 9 ∷ 8 ∷ []) (omega arith, (omega arith, (omega arith, (omega arith, (omega arith, tt))))) number among),
  (
    λ number among. inl (above 5 (6 ∷ 7 ∷ 9 ∷ 8 ∷ []) (omega arith, (omega arith, (omega arith, (omega arith, tt)))) number among),
    (
      λ number among. inl (above 6 (7 ∷ 9 ∷ 8 ∷ []) (omega arith, (omega arith, (omega arith, tt))) number among),
      (
        λ number among. inl (above 7 (9 ∷ 8 ∷ []) (omega arith, (omega arith, tt)) number among),
        (λ number among. passed number among, (λ number none. absurd none, tt)),
      ),
    ),
  ),
)
  where
    passed : (number : ℕ) → IsAmong number (8 ∷ [])
        → (9 < number) ⊎ ((number < 9) × MayPass six_addresses (six_texts who sample octets uplink).readings 5 number 9)
    passed number (inl is) =
        inr (omega (arith, is), subst (λ n. MayPass six_addresses (six_texts who sample octets uplink).readings 5 n 9) is (last_passes who sample octets uplink))
    passed number (inr none) = absurd none

-- Some entry of the six has this line.
abbrev HasEntry : ArrayVec ℕ → ℕ → Type 0
HasEntry octets number = (made : Entry) × IsAmong made (six_entries octets) × (line_of made ≡ number)

in_line_of : (octets : ArrayVec ℕ) → IsOrderOf (six_entries octets) in_line
in_line_of octets = record {
  whole = by_each (λ made. IsAmong (line_of made) in_line) (six_entries octets) (
    inl refl,
    (
      inr (inl refl),
      (inr (inr (inl refl)), (inr (inr (inr (inl refl))), (inr (inr (inr (inr (inl refl)))), (inr (inr (inr (inr (inr (inl refl))))), tt)))),
    ),
  );
  only = by_each (HasEntry octets) in_line (
    (Uplink 4 0 octets, inl refl, refl),
    (
      (Uplink 5 1 octets, inr (inl refl), refl),
      (
        (Uplink 6 2 octets, inr (inr (inl refl)), refl),
        (
          (Uplink 7 3 octets, inr (inr (inr (inl refl))), refl),
          (
            (Uplink 8 4 octets, inr (inr (inr (inr (inl refl)))), refl),
            ((Uplink 9 5 octets, inr (inr (inr (inr (inr (inl refl))))), refl), tt),
          ),
        ),
      ),
    ),
  );
}

-- The other order has the same lines.
to_last_exchanged : (number : ℕ) → IsAmong number in_line → IsAmong number last_exchanged
to_last_exchanged =
    by_each (λ number. IsAmong number last_exchanged) in_line (
      inl refl,
      (
        inr (inl refl),
        (inr (inr (inl refl)), (inr (inr (inr (inl refl))), (inr (inr (inr (inr (inr (inl refl))))), (inr (inr (inr (inr (inl refl)))), tt)))),
      ),
    )

to_in_line : (number : ℕ) → IsAmong number last_exchanged → IsAmong number in_line
to_in_line =
    by_each (λ number. IsAmong number in_line) last_exchanged (
      inl refl,
      (
        inr (inl refl),
        (inr (inr (inl refl)), (inr (inr (inr (inl refl))), (inr (inr (inr (inr (inr (inl refl))))), (inr (inr (inr (inr (inl refl)))), tt)))),
      ),
    )

last_exchanged_of : (octets : ArrayVec ℕ) → IsOrderOf (six_entries octets) last_exchanged
last_exchanged_of octets = record {
  whole = λ made among. to_last_exchanged (line_of made) ((in_line_of octets).whole made among);
  only = λ number among. (in_line_of octets).only number (to_in_line number among);
}

-- ---- what the aircraft hears

abbrev request_of : ℕ → List Act
request_of link = Said link (rules_message (emergency 1)) ∷ []

asked_on : (link : ℕ) (octets : ArrayVec ℕ) (uplink : UplinkMessages) → uplink.messages.items ≡ emergency 1 ∷ [] → EncodesUplink uplink octets.items
    → UplinkActs link octets.items (request_of link)
asked_on link octets uplink is encodes = inl (uplink, encodes, sym (ap (map (λ (asked : Message). Said link (rules_message asked))) is))

-- The acts of an entry.
abbrev act_of : Entry → List Act
act_of (Uplink line link octets) = request_of link
act_of made = []

-- Of entries with these octets.
abbrev HaveOctets : ArrayVec ℕ → List Entry → Type 0
HaveOctets octets [] = Unit {0}
HaveOctets octets (Uplink line link found ∷ made) = (found ≡ octets) × HaveOctets octets made
HaveOctets octets (other ∷ made) = ⊥

acts_of : (octets : ArrayVec ℕ) (uplink : UplinkMessages) → uplink.messages.items ≡ emergency 1 ∷ [] → EncodesUplink uplink octets.items
    → (latest : FlightSample) (made : List Entry) → HaveOctets octets made → JournalActs latest made (map act_of made)
acts_of octets uplink is encodes latest [] have = refl
acts_of octets uplink is encodes latest (Uplink line link found ∷ made) have =
    (subst (λ (o : ArrayVec ℕ). UplinkActs link o.items (request_of link)) (sym have.0) (asked_on link octets uplink is encodes), acts_of octets uplink is encodes latest made have.1)
acts_of octets uplink is encodes latest (other ∷ made) have = absurd have

have_octets : (octets : ArrayVec ℕ) → HaveOctets octets (six_entries octets)
have_octets octets = (refl, (refl, (refl, (refl, (refl, (refl, tt))))))

-- ---- the two orders

in_line_admits : (who : Who) (sample : FlightSample) (octets : ArrayVec ℕ) (uplink : UplinkMessages) → uplink.messages.items ≡ emergency 1 ∷ []
    → EncodesUplink uplink octets.items
    → Admits who sample (six_texts who sample octets uplink) in_line 4 5 (six_run who sample octets)
in_line_admits who sample octets uplink is encodes =
    let acts = acts_of octets uplink is encodes sample (six_entries octets) (have_octets octets) in
    record {
      done = refl;
      allowed = record {
        ordered = rising_is_ordered six_addresses (six_texts who sample octets uplink).readings 5 in_line six_rise;
        lines = in_line_of octets;
      };
      acknowledged = record { acts = map act_of (six_entries octets); are_acts = acts; spelled = refl };
      silent = record { acts = map act_of (six_entries octets); are_acts = acts; spelled = refl };
    }

last_exchanged_admits : (who : Who) (sample : FlightSample) (octets : ArrayVec ℕ) (uplink : UplinkMessages) → uplink.messages.items ≡ emergency 1 ∷ []
    → EncodesUplink uplink octets.items
    → Admits who sample (six_texts who sample octets uplink) last_exchanged 5 4 (six_run who sample octets)
last_exchanged_admits who sample octets uplink is encodes =
    let made = journal_of last_exchanged (six_entries octets) in
    let acts = acts_of octets uplink is encodes sample made (have_octets octets) in
    record {
      done = refl;
      allowed = record { ordered = last_exchanged_ordered who sample octets uplink; lines = last_exchanged_of octets };
      acknowledged = record { acts = map act_of made; are_acts = acts; spelled = refl };
      silent = record { acts = map act_of made; are_acts = acts; spelled = refl };
    }

pub order_decides : OrderDecides
order_decides who sample octets uplink is encodes = (
  (six_run who sample octets, six_texts_run who sample octets uplink in_line, in_line_admits who sample octets uplink is encodes),
  (six_run who sample octets, six_texts_run who sample octets uplink last_exchanged, last_exchanged_admits who sample octets uplink is encodes),
)
