use Rattle.std.proofs.Common.{ap, sym, ◌∙◌, subst, refl}
use Rattle.adsc_io.specs.Readers.{IsReady, LinesRead}
use Rattle.adsc_io.proofs.ReaderLaws.{HasTaken, nearer, reads_fault_behind, reads_line, taken_nothing, taken_piece}
use Rattle.adsc_io.proofs.line_reader.LineReader.next.Goals as goal

pub loop-line-init : goal.loop-line-init
loop-line-init g c =
    let left = g.S.Source.left c.args.source.now in
    let within = sym (ap (λ (r : LinesRead). r.over) c.self.view_is) ∙ c.if-self.false in (
      subst (λ (r : LinesRead). HasTaken c.args.self.now r left left) (sym c.begin.ensures.same)
          (taken_nothing c.args.self.now c.begin.new.self.text left within c.begin.ensures.kept (subst (λ (r : LinesRead). IsReady r) c.begin.ensures.same c.begin.ensures.ready)),
      refl,
    )

pub returns-in-Some-clause-next : goal.returns-in-Some-clause-next
returns-in-Some-clause-next g c = reads_line _ _ _ _ _ _ c.loop-line.invariant.0 c.in-Some.ensures.some

pub returns-in_err-read_piece-clause-next : goal.returns-in_err-read_piece-clause-next
returns-in_err-read_piece-clause-next g c =
    reads_fault_behind _ _ _ _ _ _ _ _ c.from_residual.ensures.0 c.loop-line.invariant.0 c.in_default.ensures.none c.in_err-read_piece.ensures.taken c.in_err-read_piece.ensures.failed

pub returns-then-not-branch-clause-next : goal.returns-then-not-branch-clause-next
returns-then-not-branch-clause-next g c =
    reads_line _ _ _ _ _ _ (taken_piece _ _ _ _ _ _ _ _ c.loop-line.invariant.0 c.in_default.ensures.none c.in_ok-read_piece.ensures.taken c.in_ok-read_piece.ensures.read) c.finish.ensures

pub loop-line-smaller : goal.loop-line-smaller
loop-line-smaller g c = nearer _ _ _ _ _ _ c.in_default.ensures.none c.in_ok-read_piece.ensures.read c.if-not-branch.false

pub loop-line-preserved : goal.loop-line-preserved
loop-line-preserved g c = (
  taken_piece _ _ _ _ _ _ _ _ c.loop-line.invariant.0 c.in_default.ensures.none c.in_ok-read_piece.ensures.taken c.in_ok-read_piece.ensures.read,
  c.in_ok-read_piece.ensures.cause.kept ∙ c.loop-line.invariant.1,
)
