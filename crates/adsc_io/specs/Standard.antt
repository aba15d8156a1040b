-- What a clause reads of the adapters over readers and writers of the standard library.
use Rattle.std.specs.Prelude.{ℕ}
use Rattle.adsc_io.specs.declared.standard.StdSource.{StdSource}
use Rattle.adsc_io.specs.declared.standard.StdSink.{StdSink}

-- the reader that it reads from
abbrev pub source_reader : {R : Type 0} → StdSource R → R
source_reader source = source.input

-- its count of faults
abbrev pub source_faults : {R : Type 0} → StdSource R → ℕ
source_faults source = source.faults

-- the writer that it writes to
abbrev pub sink_writer : {W : Type 0} → StdSink W → W
sink_writer sink = sink.output

-- its count of faults
abbrev pub sink_faults : {W : Type 0} → StdSink W → ℕ
sink_faults sink = sink.faults
