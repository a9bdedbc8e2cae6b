-- Writing to standard output and standard error.
use Rattle.std.specs.Prelude.{◌≡◌, ◌⊎◌, ℕ, List, Option}
use Rattle.std.specs.Io.KnownBytes.{Appends}
use Rattle.byte_sink.specs.Sinks.{one_more, AppendsPrefix}
use Rattle.oscip_run.specs.declared.stream.Stream.{Stream}

-- Below, taken gives the bytes that a stream's sink took, and old and new are the stream before and after a text is written.

-- the sink took all of the text, and the count of failures is unchanged
abbrev pub WritesAll : {S : Type 0} → (S → Option (List ℕ)) → Stream S → Stream S → List ℕ → Type 0
WritesAll taken old new text = Appends (taken old.sink) (taken new.sink) text × (new.failures ≡ old.failures)

-- the sink took a prefix of the text, and the count of failures is one more
abbrev pub WritesPrefix : {S : Type 0} → (S → Option (List ℕ)) → Stream S → Stream S → List ℕ → Type 0
WritesPrefix taken old new text = AppendsPrefix (taken old.sink) (taken new.sink) text × (new.failures ≡ one_more old.failures)

-- the sink took all of the text, or it took a prefix and a failure is counted
abbrev pub Writes : {S : Type 0} → (S → Option (List ℕ)) → Stream S → Stream S → List ℕ → Type 0
Writes taken old new text = WritesAll taken old new text ⊎ WritesPrefix taken old new text
