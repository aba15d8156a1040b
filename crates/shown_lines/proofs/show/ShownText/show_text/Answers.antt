use Rattle.std.proofs.Common.{sym, subst}
use Rattle.shown_lines.specs.Meanings.{TextMeans}
use Rattle.shown_lines.specs.Shown.{IsShownAs}
use Rattle.shown_lines.specs.declared.direction.Direction.{Direction}
use Rattle.shown_lines.proofs.show.ShownText.show_text.Goals as goal

pub returns-in-Up : goal.returns-in-Up
returns-in-Up c =
    subst (λ (way : Direction). IsShownAs c.args.number (TextMeans way c.args.text.now) c.show_ground_text.new.out c.show_ground_text.result) (sym c.in-Up.is) c.show_ground_text.ensures

pub returns-in-Down : goal.returns-in-Down
returns-in-Down c =
    subst (λ (way : Direction). IsShownAs c.args.number (TextMeans way c.args.text.now) c.show_aircraft_text.new.self c.show_aircraft_text.result) (sym c.in-Down.is) c.show_aircraft_text.ensures
