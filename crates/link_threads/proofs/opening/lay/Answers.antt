use Rattle.std.proofs.Common.{[], ◌∷◌, ap, sym, ◌∙◌, subst, length}
use Rattle.atomic_table.specs.Table.{opening}
use Rattle.link_threads.specs.declared.known.Opening.{Opening}
use Rattle.link_threads.specs.Turns.{IsOneJournal, first_view}
use Rattle.link_threads.proofs.Ends.{starts}
use Rattle.link_threads.proofs.opening.lay.Goals as goal

pub new-requires : goal.new-requires
new-requires c =
    let key : Opening = record { craft = c.of.result; count = c.args.count } in
    let long = length c.journal.result.now in
    subst (λ slots. IsOneJournal key (opening (length c.journal.result.now ∷ 0 ∷ []) slots (first_view key))) (sym c.in_ok-slots.ensures.slot) (starts key c.args.craft (length c.journal.result.now) c.requires c.of.ensures (ap length c.journal.ensures))

pub out_of_slot-requires : goal.out_of_slot-requires
out_of_slot-requires c = (c.args.craft, c.in-Err.ensures.err ∙ c.in_ok-slots.ensures.slot)
