-- What the sink over standard output shows.
use Rattle.std.specs.Prelude.{ℕ, List, Option}
use Rattle.std.specs.Io.Buffered.{writer_buffer, writer_contents}
use Rattle.csv_tables.specs.declared.streams.StdoutSink.{StdoutSink}

-- the bytes that it has taken: those handed on, and then those gathered
abbrev pub taken_of : {W : Type 0} → (W → Option (List ℕ)) → StdoutSink W → Option (List ℕ)
taken_of contents s = writer_contents contents s.writer

-- the bytes that it has taken and not yet handed on
abbrev pub gathered_of : {W : Type 0} → StdoutSink W → List ℕ
gathered_of s = writer_buffer s.writer

-- how many writes failed
abbrev pub faults_of : {W : Type 0} → StdoutSink W → ℕ
faults_of s = s.faults
