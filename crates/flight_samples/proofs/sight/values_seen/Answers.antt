use Rattle.std.proofs.Common.{◌≡◌, ◌==◌, ◌+◌, ◌∷◌, ◌++◌, [], ap, ◌∙◌, refl, sym, subst, length, take, arith, append-nil}
use Rattle.std.proofs.lemmas.List.{length-append, length-set, length-take-le, nil_from_length}
use Rattle.std.proofs.lemmas.List.Splits.{slice_split_at, slice_split_none}
use Rattle.flight_samples.specs.SampleText.{HasNoComma, columns_of}
use Rattle.flight_samples.proofs.SightLemmas.{all_read, column_here, column_read, number_has_no_comma, read_more}
use Rattle.flight_samples.proofs.SplitLemmas.{one_more}
use Rattle.flight_samples.proofs.sight.values_seen.Goals as goal

pub returns-in-None : goal.returns-in-None
returns-in-None c =
    let so_far = c.loop-place.invariant in
    let seen = c.in_ok-value.ensures in
    let columns = columns_of c.args.text.now in
    let place = c.loop-place.place in
    let whole = number_has_no_comma _ c.in_ok-value.value seen.0 seen.2 in
    let rest : c.loop-place.rest.now ≡ seen.0 =
    seen.1 ∙ ap (λ behind. seen.0 ++ behind) (nil_from_length c.in_ok-value.behind.now c.in-None.ensures.cases) ∙ append-nil seen.0 in
    let last : columns ≡ take place columns ++ seen.0 ∷ [] =
    so_far.columns ∙ ap (λ r. take place columns ++ columns_of r) rest ∙ ap (λ r. take place columns ++ r) (slice_split_none (λ b. b == 44) seen.0 whole) in
    let here = column_here columns [] seen.0 place last in
    let size : length columns ≡ place + 1 =
    ap length last ∙ length-append (take place columns) (seen.0 ∷ []) ∙ ap (λ n. n + 1) (length-take-le place columns (omega (arith, here.0))) in
    all_read columns c.loop-place.values place c.in_ok-value.value (omega (arith, size, c.if-place-eq-COLUMN_COUNT.true))
    so_far.count (omega (arith, c.if-place-eq-COLUMN_COUNT.true)) (column_read columns seen.0 place c.in_ok-value.value here.1 seen.2 seen.3) so_far.read

pub loop-place-preserved : goal.loop-place-preserved
loop-place-preserved c =
    let so_far = c.loop-place.invariant in
    let seen = c.in_ok-value.ensures in
    let next = c.in-Some-eq44-default.ensures.cases in
    let columns = columns_of c.args.text.now in
    let place = c.loop-place.place in
    let more = c.in-Some-eq44-default.more.now in
    let whole = number_has_no_comma _ c.in_ok-value.value seen.0 seen.2 in
    let behind : c.in_ok-value.behind.now ≡ 44 ∷ more =
    next.0 ∙ ap (λ byte. byte ∷ more) c.in-Some-eq44-default.field-0-0-test in
    let rest : c.loop-place.rest.now ≡ seen.0 ++ 44 ∷ more = rw behind at seen.1 in
    let here = column_here columns (columns_of more) seen.0 place
    (so_far.columns ∙ ap (λ r. take place columns ++ columns_of r) rest ∙ ap (λ r. take place columns ++ r) (slice_split_at (λ b. b == 44) seen.0 44 more whole refl)) in
    record {
      count = length-set c.loop-place.values place _ ∙ so_far.count;
      read = read_more columns c.loop-place.values place c.in_ok-value.value so_far.count c.loop-place-test.true
          (column_read columns seen.0 place c.in_ok-value.value here.1 seen.2 seen.3) so_far.read;
      columns = one_more columns c.args.text.now c.loop-place.rest.now more place here.0
          (subst HasNoComma (sym here.1) whole) (subst (λ column. c.loop-place.rest.now ≡ column ++ 44 ∷ more) (sym here.1) rest) so_far.columns;
    }
