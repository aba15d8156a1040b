-- The items of one link among those due on every link.
use Rattle.std.proofs.Common.{◌≡◌, ◌≢◌, ℕ, suc, zero, ◌+◌, ◌<◌, Bool, true, false, cond, ◌==◌, List, [], ◌∷◌, ◌++◌, flat_map, refl, ap, sym, ◌∙◌, arith, eq-eqb}
use Rattle.std.specs.List.{range_with_len}
use Rattle.std.proofs.lemmas.Bool.{ne_eqb}
use Rattle.contract_rules.specs.Configuration.{Configuration}
use Rattle.contract_rules.specs.Acts.{Act}
use Rattle.contract_rules.specs.LiveLinks.{Noted}
use Rattle.contract_rules.specs.Due.{Item, due_items}
use Rattle.contract_table.specs.Dues.{dues_of, items_on, on_link}
use Rattle.contract_table.proofs.TableDues.{only_one}

module _ (link : ℕ) where
  pub items_on-append : (dues more : List (ℕ × Item)) → items_on link (dues ++ more) ≡ items_on link dues ++ items_on link more
  items_on-append [] more = refl
  items_on-append (due ∷ dues) more = by (link == due.0) (items_on-append dues more)
    where
      by : (b : Bool) → items_on link (dues ++ more) ≡ items_on link dues ++ items_on link more
          → cond b (due.1 ∷ items_on link (dues ++ more)) (items_on link (dues ++ more)) ≡ cond b (due.1 ∷ items_on link dues) (items_on link dues) ++ items_on link more
      by true rest = ap (λ items. due.1 ∷ items) rest
      by false rest = rest

  -- Of the link's own items all, and of another's none.
  items_on-own : (items : List Item) → items_on link (on_link link items) ≡ items
  items_on-own [] = refl
  items_on-own (item ∷ items) = (λ i. cond (eq-eqb link link refl i) (item ∷ items_on-own items i) (items_on-own items i))

  items_on-other : (other : ℕ) → other ≢ link → (items : List Item) → items_on link (on_link other items) ≡ []
  items_on-other other apart [] = refl
  items_on-other other apart (item ∷ items) =
      let differ : link ≢ other = λ same. apart (sym same) in
      (λ i. cond (ne_eqb link other differ i) (item ∷ items_on link (on_link other items)) (items_on-other other apart items i))

  items_on-each : (f : ℕ → List (ℕ × Item)) (start count : ℕ)
      → items_on link (flat_map f (range_with_len start count)) ≡ flat_map (λ k. items_on link (f k)) (range_with_len start count)
  items_on-each f start zero = refl
  items_on-each f start (suc count) =
      items_on-append (f start) (flat_map f (range_with_len (start + 1) count))
      ∙ ap (λ items. items_on link (f start) ++ items) (items_on-each f (start + 1) count)

  -- The items of one link among all that are due at an act are those that the rules make due on it.
  pub items_on-dues_of : (configuration : Configuration) (links : ℕ) (past : List Noted) (act : Act) → link < links
      → items_on link (dues_of configuration links past act) ≡ due_items configuration link past act
  items_on-dues_of configuration links past act inside =
      items_on-each (λ k. on_link k (due_items configuration k past act)) 0 links
      ∙ only_one (λ k. items_on link (on_link k (due_items configuration k past act))) link 0 links
      (λ k apart. items_on-other k apart (due_items configuration k past act)) (omega arith) (omega (arith, inside))
      ∙ items_on-own (due_items configuration link past act)
