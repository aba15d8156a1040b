-- Items that are heard one by one.
use Rattle.std.proofs.Common.{◌≡◌, ℕ, ◌+◌, List, [], ◌∷◌, if◌then◌else◌, refl, ap, ap₂}
use Rattle.adsc_downlink.specs.Items.{ItemData}
use Rattle.centre_core.specs.Events.{CentreEvent, HearsItem}
use Rattle.centre_core.specs.Heard.{matched_count, with_items}
use Rattle.centre_core.specs.Histories.{table_at}
use Rattle.centre_core.specs.Steps.{table_after, table_after_items, taken_count}
use Rattle.centre_core.specs.Tables.{is_taken}
use Rattle.centre_core.specs.declared.table.CentreTable.{CentreTable}
use Rattle.centre_core.proofs.TableLaws.{stands_after}

-- A centre that stood for a history stands for it with these items.
pub stands_after_items : (items : List ItemData) (w : List CentreEvent) (table : CentreTable) → table ≡ table_at w
    → table_after_items items table ≡ table_at (with_items items w)
stands_after_items [] w table stands = stands
stands_after_items (item ∷ items) w table stands =
    stands_after_items items (HearsItem item ∷ w) (table_after (HearsItem item) table) (stands_after (HearsItem item) w table stands)

-- What it counted is what the history counts.
pub matched_in_history : (items : List ItemData) (w : List CentreEvent) (table : CentreTable) → table ≡ table_at w
    → taken_count items table ≡ matched_count items w
matched_in_history [] w table stands = refl
matched_in_history (item ∷ items) w table stands =
    ap₂ (λ (here : ℕ) (behind : ℕ). here + behind) (ap (λ (t : CentreTable). if is_taken item t then 1 else 0) stands)
    (matched_in_history items (HearsItem item ∷ w) (table_after (HearsItem item) table) (stands_after (HearsItem item) w table stands))
