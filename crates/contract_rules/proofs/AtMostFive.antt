-- At most five links are live, and each stands once in the list.
use Rattle.std.proofs.Common.{◌≡◌, ℕ, suc, ◌+◌, ◌-◌, ◌≤◌, Bool, true, false, cond, not, ◌&&◌, ◌||◌, ◌==◌, List, [], ◌∷◌, length, Option, Some, None, refl, ap, sym, ◌∙◌, arith, eqb, subst}
use Rattle.std.specs.Prelude.{nat_eq, nat_lt}
use Rattle.std.specs.List.{list_any, IsDistinct, AllByRecursion}
use Rattle.std.proofs.lemmas.Bool.{ltb-true, eqb-true, and_parts}
use Rattle.contract_rules.specs.Configuration.{Configuration, max_live_links}
use Rattle.contract_rules.specs.Messages.{is_request}
use Rattle.contract_rules.specs.Acts.{Act, Said, Malformed, Moved, Ticked, Crew, is_cancel_all}
use Rattle.contract_rules.specs.LiveLinks.{Noted, without, live_links, is_live, has_room, admits}
use Rattle.contract_rules.specs.Verdicts.{noted_over, past_of}
use Rattle.contract_rules.proofs.Steps.{eqb_turned, or_parts}
use Rattle.contract_rules.proofs.Unchanged.{without_absent}

-- ---- links without one of them

-- What holds of each link of a list holds of each that is left.
pub all_without : (P : ℕ → Type 0) (link : ℕ) (links : List ℕ) → AllByRecursion P links → AllByRecursion P (without link links)
all_without P link [] all = all
all_without P link (next ∷ links) all = at (link == next) (all_without P link links all.1)
  where
    at : (b : Bool) → AllByRecursion P (without link links) → AllByRecursion P (cond (not b) (next ∷ without link links) (without link links))
    at true rest = rest
    at false rest = (all.0, rest)

pub distinct_without : (link : ℕ) (links : List ℕ) → IsDistinct eqb links → IsDistinct eqb (without link links)
unfolding IsDistinct
distinct_without link [] distinct = distinct
distinct_without link (next ∷ links) distinct = at (link == next) (distinct_without link links distinct.1)
  where
    at : (b : Bool) → IsDistinct eqb (without link links) → IsDistinct eqb (cond (not b) (next ∷ without link links) (without link links))
    at true rest = rest
    at false rest = (all_without (λ y. eqb next y ≡ false) link links distinct.0, rest)

pub length_without : (link : ℕ) (links : List ℕ) → length (without link links) ≤ length links
length_without link [] = omega arith
length_without link (next ∷ links) = at (link == next) (length_without link links)
  where
    at : (b : Bool) → length (without link links) ≤ length links → length (cond (not b) (next ∷ without link links) (without link links)) ≤ suc (length links)
    at true rest = omega (arith, rest)
    at false rest = omega (arith, rest)

-- Taking a second link out leaves no more.
pub length_without_both : (one other : ℕ) (links : List ℕ) → length (without one (without other links)) ≤ length (without one links)
length_without_both one other [] = omega arith
length_without_both one other (next ∷ links) = at (one == next) refl (other == next) (length_without_both one other links)
  where
    at : (a : Bool) → (one == next) ≡ a → (b : Bool) → length (without one (without other links)) ≤ length (without one links)
        → length (without one (cond (not b) (next ∷ without other links) (without other links))) ≤ length (cond (not a) (next ∷ without one links) (without one links))
    at true e true rest = rest
    at true e false rest = subst (λ c. length (cond (not c) (next ∷ without one (without other links)) (without one (without other links))) ≤ length (without one links)) (sym e) rest
    at false e true rest = omega (arith, rest)
    at false e false rest =
        subst (λ c. length (cond (not c) (next ∷ without one (without other links)) (without one (without other links))) ≤ suc (length (without one links))) (sym e) (omega (arith, rest))

-- A link that differs from each of some links is not among them.
pub absent_from : (link : ℕ) (links : List ℕ) → AllByRecursion (λ y. eqb link y ≡ false) links → list_any (nat_eq link) links ≡ false
absent_from link [] all = refl
absent_from link (next ∷ links) all = ap (λ b. b || list_any (nat_eq link) links) all.0 ∙ absent_from link links all.1

pub apart_from : (link : ℕ) (links : List ℕ) → list_any (nat_eq link) links ≡ false → AllByRecursion (λ y. eqb link y ≡ false) links
apart_from link [] absent = tt
apart_from link (next ∷ links) absent =
    let parts = or_parts (link == next) (list_any (nat_eq link) links) absent in (parts.0, apart_from link links parts.1)

-- Of distinct links at most one is taken out.
pub length_but_one : (link : ℕ) (links : List ℕ) → IsDistinct eqb links → length links ≤ length (without link links) + 1
unfolding IsDistinct
length_but_one link [] distinct = omega arith
length_but_one link (next ∷ links) distinct = at (link == next) refl (length_but_one link links distinct.1)
  where
    at : (b : Bool) → (link == next) ≡ b → length links ≤ length (without link links) + 1
        → suc (length links) ≤ length (cond (not b) (next ∷ without link links) (without link links)) + 1
    at true e rest =
        let absent : list_any (nat_eq link) links ≡ false
        = ap (λ n. list_any (nat_eq n) links) (eqb-true link next e) ∙ absent_from next links distinct.0 in
        let same : length (without link links) ≡ length links = ap length (without_absent link links absent) in omega (arith, same)
    at false e rest = omega (arith, rest)

-- ---- the places of the five connections

-- The live links are distinct and at most five, and at most four beside one for which a connection is kept.
pub record KeepsPlaces (kept : Option ℕ) (live : List ℕ) : Type 0 where
  pub distinct : IsDistinct eqb live
  pub few : length live ≤ max_live_links
  pub others : (link : ℕ) → kept ≡ Some link → length (without link live) + 1 ≤ max_live_links

pub places_admitted : (kept : Option ℕ) (link : ℕ) (live : List ℕ) → KeepsPlaces kept live
    → list_any (nat_eq link) live ≡ false → has_room kept link live ≡ true → KeepsPlaces kept (link ∷ live)
unfolding IsDistinct
places_admitted None link live places absent room =
    record {
      distinct = (apart_from link live absent, places.distinct);
      few = let below = ltb-true (length live) max_live_links room in omega (arith, below);
      others = λ other is. absurd (let h : None ≡ Some other = is in cc);
    }
places_admitted (Some kept) link live places absent room = at (link == kept) refl room
  where
    beside : (b : Bool) → (link == kept) ≡ b → length (without kept live) + cond b 0 1 + 1 ≤ max_live_links
        → (other : ℕ) → Some kept ≡ Some other → length (without other (link ∷ live)) + 1 ≤ max_live_links
    beside b e fits other is =
        let same : kept ≡ other = cc in
        subst (λ n. length (without n (link ∷ live)) + 1 ≤ max_live_links) same
        (subst (λ c. length (cond (not c) (link ∷ without kept live) (without kept live)) + 1 ≤ max_live_links) (sym (eqb_turned kept link ∙ e)) (added b fits))
      where
        added : (b : Bool) → length (without kept live) + cond b 0 1 + 1 ≤ max_live_links
            → length (cond (not b) (link ∷ without kept live) (without kept live)) + 1 ≤ max_live_links
        added true fits = omega (arith, fits)
        added false fits = omega (arith, fits)

    at : (b : Bool) → (link == kept) ≡ b → (b || nat_lt (length (without kept live)) (max_live_links - 1)) ≡ true → KeepsPlaces (Some kept) (link ∷ live)
    at true e room =
        let whole : length (without kept live) ≡ length live
        = ap (λ n. length (without n live)) (sym (eqb-true link kept e)) ∙ ap length (without_absent link live absent) in
        let fits = places.others kept refl in
        record {
          distinct = (apart_from link live absent, places.distinct);
          few = omega (arith, whole, fits);
          others = beside true e (omega (arith, fits));
        }
    at false e room =
        let below = ltb-true (length (without kept live)) (max_live_links - 1) room in
        let most = length_but_one kept live places.distinct in
        record {
          distinct = (apart_from link live absent, places.distinct);
          few = omega (arith, below, most);
          others = beside false e (omega (arith, below));
        }

pub places_ended : (kept : Option ℕ) (link : ℕ) (live : List ℕ) → KeepsPlaces kept live → KeepsPlaces kept (without link live)
places_ended kept link live places =
    record {
      distinct = distinct_without link live places.distinct;
      few = omega (arith, length_without link live, places.few);
      others = λ other is. omega (arith, length_without_both other link live, places.others other is);
    }

pub places_after : (configuration : Configuration) (past : List Noted) (act : Act) → KeepsPlaces configuration.kept (live_links past)
    → KeepsPlaces configuration.kept (live_links (noted_over configuration past act ∷ past))
places_after configuration past (Said link message) places = at (admits configuration past (Said link message)) refl (is_cancel_all (Said link message))
  where
    at : (a : Bool) → admits configuration past (Said link message) ≡ a → (e : Bool)
        → KeepsPlaces configuration.kept (cond a (link ∷ live_links past) (cond e (without link (live_links past)) (live_links past)))
    at true admitted e =
        let last = and_parts (is_request message && not (is_live link past)) (has_room configuration.kept link (live_links past)) admitted in
        let first = and_parts (is_request message) (not (is_live link past)) last.0 in
        places_admitted configuration.kept link (live_links past) places (not_live (is_live link past) refl first.1) last.1
      where
        not_live : (b : Bool) → is_live link past ≡ b → not b ≡ true → is_live link past ≡ false
        not_live true is e = absurd (let h : false ≡ true = e in cc)
        not_live false is e = is
    at false barred true = places_ended configuration.kept link (live_links past) places
    at false barred false = places
places_after configuration past (Malformed link fault) places = places
places_after configuration past (Moved before now) places = places
places_after configuration past (Ticked tick) places = places
places_after configuration past (Crew on) places = places

pub keeps_places : (configuration : Configuration) (acts : List Act) → KeepsPlaces configuration.kept (live_links (past_of configuration acts))
unfolding IsDistinct
keeps_places configuration [] = record { distinct = tt; few = omega arith; others = λ link is. omega arith }
keeps_places configuration (act ∷ acts) = places_after configuration (past_of configuration acts) act (keeps_places configuration acts)

pub at_most_five_live : (configuration : Configuration) (acts : List Act)
    → (length (live_links (past_of configuration acts)) ≤ max_live_links) × IsDistinct nat_eq (live_links (past_of configuration acts))
at_most_five_live configuration acts = let places = keeps_places configuration acts in (places.few, places.distinct)
