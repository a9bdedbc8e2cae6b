-- The contracts of lower crates imply the definition of a run that prints where a module uses another.
use Rattle.std.proofs.Common.{ℕ, List, Option, Err, map, refl, inr}
use Rattle.byte_sink.specs.declared.sink.SinkFault.{SinkFault}
use Rattle.byte_sink.specs.declared.sink.SinkFault.TheVariants as sink
use Rattle.byte_sink.specs.Sinks.{AppendsPrefix}
use Rattle.texts.specs.Places.{Style}
use Rattle.index_store.specs.Lines.{location_lines}
use Rattle.oscip_run.specs.CrossingRuns.{location_in_file, IsCrossingsRun, IsUsesText}
use Rattle.oscip_run.specs.Faults.{of_sink}
use Rattle.source_tree.specs.Crossings.{AreUses}
use Rattle.source_tree.specs.declared.crossing.Span.{Span}
use Rattle.source_tree.specs.declared.source.Source.{Source}

pub uses_text : (style : Style) (sources : List Source) (m n path : List ℕ) (spans : List Span) → AreUses sources m n path spans → IsUsesText style sources m n (location_lines style (map (location_in_file path) spans))
uses_text style sources m n path spans uses = record { path = path; spans = spans; uses = uses; lines = refl }

-- a sink that failed
pub error_prefix : (style : Style) (sources : List Source) (m n text : List ℕ) (old new : Option (List ℕ)) (fault : SinkFault) → IsUsesText style sources m n text → AppendsPrefix old new text → IsCrossingsRun style sources m n old new (Err (of_sink fault))
error_prefix style sources m n text old new sink.Memory is front = inr (text, is, front)
error_prefix style sources m n text old new sink.Device is front = (text, is, front)
