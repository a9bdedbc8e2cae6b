-- A writer of an index to a sink.
use Rattle.std.specs.Prelude.{◌≡◌, IfNone, Option, Some, Result, Ok, Err}
use Rattle.byte_sink.specs.declared.sink.SinkFault.{SinkFault}
use Rattle.scip_index.specs.declared.writer.Stage.{Stage}

-- a writer as contracts describe it: its stage, and the error that it has returned, if any
pub record WriterState : Type 0 where
  pub stage : Stage
  pub error : Option SinkFault

-- the writer is at the stage that a call requires, or has failed
abbrev pub MayCall : WriterState → Stage → Type 0
MayCall w stage = IfNone w.error (w.stage ≡ stage)

-- the writer after a write: at the next stage, or with the error of the write
abbrev pub after_write : {T : Type 0} → WriterState → Result T SinkFault → Stage → WriterState
after_write w (Ok x) next = record { stage = next; error = w.error }
after_write w (Err fault) next = record { stage = w.stage; error = Some fault }
