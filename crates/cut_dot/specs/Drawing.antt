-- What a sink has after a picture is written.
use Rattle.std.specs.Prelude.{◌⊎◌, ℕ, List, Option, Result, Ok, Err}
use Rattle.std.specs.Io.KnownBytes.{Appends, Keeps}
use Rattle.byte_sink.specs.Sinks.{AppendsPrefix}
use Rattle.byte_sink.specs.declared.sink.SinkFault.{SinkFault}
use Rattle.byte_sink.specs.declared.sink.SinkFault.TheVariants.{Memory, Device}
use Rattle.cut_net.specs.declared.priced.Priced.{Priced}
use Rattle.cut_net.specs.Network.{Network}
use Rattle.cut_net.specs.AnswerClaim.{AnswerClaim}
use Rattle.cut_dot.specs.Pictures.{IsPicture, IsPictureByFlow}

-- the sink took the whole of a text with the property `Is`
abbrev pub WritesPicture : (List ℕ → Type 0) → Option (List ℕ) → Option (List ℕ) → Type 0
WritesPicture Is old new = (text : List ℕ) × Is text × Appends old new text

-- the sink took a prefix of a text with the property `Is`
abbrev pub WritesPicturePrefix : (List ℕ → Type 0) → Option (List ℕ) → Option (List ℕ) → Type 0
WritesPicturePrefix Is old new = (text : List ℕ) × Is text × AppendsPrefix old new text

-- with Ok the sink took the whole of a text with the property `Is`; with an error it took a prefix of such a text, or with Memory possibly
-- nothing
abbrev pub IsDrawingOf : (List ℕ → Type 0) → Option (List ℕ) → Option (List ℕ) → Result (Unit {0}) SinkFault → Type 0
IsDrawingOf Is old new (Ok _) = WritesPicture Is old new
IsDrawingOf Is old new (Err Device) = WritesPicturePrefix Is old new
IsDrawingOf Is old new (Err Memory) = Keeps old new ⊎ WritesPicturePrefix Is old new

-- with Ok the sink took the whole picture of a cut, with an error at most a prefix of it
abbrev pub IsDrawing : Network → ℕ → ℕ → List Priced → List Priced → Option (List ℕ) → Option (List ℕ) → Result (Unit {0}) SinkFault → Type 0
IsDrawing net a b printed flow old new result = IsDrawingOf (IsPicture net a b printed flow) old new result

-- with Ok the sink took the whole picture by flow, with an error at most a prefix of it
abbrev pub IsFlowDrawing : Network → ℕ → ℕ → AnswerClaim → Option (List ℕ) → Option (List ℕ) → Result (Unit {0}) SinkFault → Type 0
IsFlowDrawing net a b claim old new result = IsDrawingOf (IsPictureByFlow net a b claim) old new result
