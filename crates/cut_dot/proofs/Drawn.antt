-- Writing a picture's text satisfies the definition of a drawing.
use Rattle.std.proofs.Common.{ℕ, List, Option, Result, Ok, Err, inr}
use Rattle.byte_sink.specs.Sinks.{Writes}
use Rattle.byte_sink.specs.declared.sink.SinkFault.{SinkFault}
use Rattle.byte_sink.specs.declared.sink.SinkFault.TheVariants as sink
use Rattle.cut_dot.specs.Drawing.{IsDrawingOf}

pub drawn : (Is : List ℕ → Type 0) (text : List ℕ) (old new : Option (List ℕ)) (result : Result (Unit {0}) SinkFault) → Is text → Writes old new result text → IsDrawingOf Is old new result
drawn Is text old new (Ok done) is writes = (text, is, writes)
drawn Is text old new (Err sink.Memory) is writes = inr (text, is, writes)
drawn Is text old new (Err sink.Device) is writes = (text, is, writes)
