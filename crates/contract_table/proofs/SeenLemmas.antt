-- Live links as the table keeps them, and as contracts see them: an act of the flight on each.
use Rattle.std.proofs.Common.{◌≡◌, ◌⊎◌, inl, inr, ℕ, Bool, List, [], ◌∷◌, ◌++◌, All, map, flat_map, length, refl, ap, sym, ◌∙◌, subst}
use Rattle.std.specs.List.{AllZip, refill}
use Rattle.std.proofs.lemmas.List.{length-map}
use Rattle.std.proofs.lemmas.List.Elements.{All-nil, All-cons}
use Rattle.arrayvec.specs.ArrayVec.{ArrayVec, array_vec_len}
use Rattle.arrayvec.proofs.ArrayVecLemmas.{items-with_items}
use Rattle.flight_samples.specs.declared.sample.Sample.{Sample}
use Rattle.contract_rules.specs.Acts.{Act}
use Rattle.contract_table.specs.Acts.{rules_act}
use Rattle.contract_table.specs.Connections.{Connection as Seen}
use Rattle.contract_table.specs.NextConnection.{flown}
use Rattle.contract_table.specs.NextTable.{connections_next}
use Rattle.contract_table.specs.Seen.{connection_seen, table_seen}
use Rattle.contract_table.specs.Changes.{IsFlown}
use Rattle.contract_table.specs.Sound.{IsSound}
use Rattle.contract_table.specs.declared.act.Act.{Act as ActTold}
use Rattle.contract_table.specs.declared.act.Act.TheVariants as told
use Rattle.contract_table.specs.declared.configuration.Configuration.{Configuration}
use Rattle.contract_table.specs.declared.connection.Connection.{Connection}

module _ (time later : ℕ) (act : Act) where
  pub flown_seen : (before after : List Connection) → AllZip (IsFlown time later act) before after
      → map connection_seen after ≡ map (flown time act) (map connection_seen before)
  flown_seen [] [] flown = refl
  flown_seen [] (new ∷ after) flown = absurd flown
  flown_seen (old ∷ before) [] flown = absurd flown
  flown_seen (old ∷ before) (new ∷ after) flown =
      λ i. flown.0.next i ∷ flown_seen before after flown.1 i

  pub flown_sound : (before after : List Connection) → AllZip (IsFlown time later act) before after → All (IsSound later) after
  flown_sound [] [] flown = All-nil (IsSound later)
  flown_sound [] (new ∷ after) flown = absurd flown
  flown_sound (old ∷ before) [] flown = absurd flown
  flown_sound (old ∷ before) (new ∷ after) flown = All-cons (IsSound later) new after flown.0.sound (flown_sound before after flown.1)

pub flat_map_seen : {A : Type 0} (f : Seen → List A) (kept : List Connection) → flat_map (λ c. f (connection_seen c)) kept ≡ flat_map f (map connection_seen kept)
flat_map_seen f [] = refl
flat_map_seen f (old ∷ others) = ap (λ xs. f (connection_seen old) ++ xs) (flat_map_seen f others)

-- ---- all links at an act of the flight

module _ (links time : ℕ) (configuration : Configuration) (crew : Bool) (act : ActTold) where
  abbrev IsFlownTable : ActTold → List Connection → Type 0
  IsFlownTable told kept =
      map (flown time (rules_act told)) (map connection_seen kept) ≡ connections_next (rules_act told) (table_seen links configuration time crew kept)

  flown_table : (kept : List Connection)
      → ((before : Sample) × (now : Sample) × (act ≡ told.Moved before now)) ⊎ (((tick : ℕ) × (act ≡ told.Ticked tick)) ⊎ ((on : Bool) × (act ≡ told.Crew on)))
      → IsFlownTable act kept
  flown_table kept (inl (before, now, is)) = subst (λ a. IsFlownTable a kept) (sym is) refl
  flown_table kept (inr (inl (tick, is))) = subst (λ a. IsFlownTable a kept) (sym is) refl
  flown_table kept (inr (inr (on, is))) = subst (λ a. IsFlownTable a kept) (sym is) refl

  -- What an act of the flight writes over the live links of a table is what the table has after it.
  pub flown_written : (before : ArrayVec Connection) (slice after : List Connection)
      → ((before : Sample) × (now : Sample) × (act ≡ told.Moved before now)) ⊎ (((tick : ℕ) × (act ≡ told.Ticked tick)) ⊎ ((on : Bool) × (act ≡ told.Crew on)))
      → slice ≡ before.items → map connection_seen after ≡ map (flown time (rules_act act)) (map connection_seen slice)
      → map connection_seen (refill (array_vec_len before) before.items after) ≡ connections_next (rules_act act) (table_seen links configuration time crew before.items)
  flown_written before slice after is same written =
      ap (map connection_seen) (items-with_items before after count)
      ∙ written
      ∙ ap (λ kept. map (flown time (rules_act act)) (map connection_seen kept)) same
      ∙ flown_table before.items is
    where
      count : length after ≡ array_vec_len before
      count =
          sym (length-map after connection_seen) ∙ ap length written
          ∙ length-map (map connection_seen slice) (flown time (rules_act act)) ∙ length-map slice connection_seen ∙ ap length same
