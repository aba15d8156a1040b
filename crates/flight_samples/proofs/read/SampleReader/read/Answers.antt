use Rattle.std.proofs.Common.{Ok, refl}
use Rattle.flight_samples.specs.SampleText.{columns_of}
use Rattle.flight_samples.proofs.Readings.{reads, tells}
use Rattle.flight_samples.proofs.read.SampleReader.read.Goals as goal

pub returns-in-Some-clause-read : goal.returns-in-Some-clause-read
returns-in-Some-clause-read c =
    let columns = columns_of c.args.columns.now in
    reads columns columns (Ok c.in-Some.sample) refl c.in-Some.ensures tt

pub returns-in-Some-clause-told : goal.returns-in-Some-clause-told
returns-in-Some-clause-told c =
    let columns = columns_of c.args.columns.now in
    tells columns columns (Ok c.in-Some.sample) refl c.in-Some.ensures tt
