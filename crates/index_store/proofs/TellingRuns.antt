-- The contracts of lower crates imply the definition of a run that writes a text.
use Rattle.std.proofs.Common.{◌≡◌, ℕ, List, Option, Err, inl, inr}
use Rattle.std.proofs.KnownBytes.{Keeps-refl}
use Rattle.byte_sink.specs.declared.sink.SinkFault.{SinkFault}
use Rattle.byte_sink.specs.declared.sink.SinkFault.TheVariants as sink
use Rattle.byte_sink.specs.Sinks.{AppendsPrefix}
use Rattle.scip_index.specs.Meaning.{Means}
use Rattle.scip_index.specs.Plain.{IndexModel}
use Rattle.index_store.specs.declared.query_fault.QueryFault.{QueryFault}
use Rattle.index_store.specs.declared.query_fault.QueryFault.TheVariants.{Wire, NoDocument, Device, Memory}
use Rattle.index_store.specs.QueryRuns.{IsRejectedIndex}
use Rattle.index_store.specs.declared.fault.StoreFault.{StoreFault}
use Rattle.index_store.specs.declared.fault.StoreFault.TheVariants as store
use Rattle.index_store.specs.declared.location.Position.{Position}
use Rattle.index_store.specs.Direct.{IsSymbolLookup}
use Rattle.index_store.specs.Faults.{of_sink, of_store}
use Rattle.index_store.specs.Queries.{HasPath}
use Rattle.index_store.specs.OutputRuns.{IsOutputRun, IsOutput}

module _ (Has : IndexModel → Type 0) (IsText : IndexModel → List ℕ → Type 0) (bytes : List ℕ) where
  -- bytes that mean no index
  pub refused : (known : Option (List ℕ)) (fault : QueryFault) → IsRejectedIndex bytes fault → IsOutputRun Has IsText bytes known known (Err fault)
  refused known (Wire fault) h = (h, Keeps-refl known)
  refused known NoDocument h = absurd h
  refused known Device h = absurd h
  refused known Memory h = inl (Keeps-refl known)

  -- a document that none is
  pub lacking : (known : Option (List ℕ)) (index : IndexModel) (fault : QueryFault) → Means bytes index → fault ≡ NoDocument → (Has index → ⊥) → IsOutputRun Has IsText bytes known known (Err fault)
  lacking known index fault means is lacks = rw is ((index, means, lacks), Keeps-refl known)

  -- a position that stands in no document
  pub lacking_symbol : (known : Option (List ℕ)) (index : IndexModel) (path : List ℕ) (at : Position) (fault : StoreFault) → Means bytes index → (Has index → HasPath index path) → IsSymbolLookup index path at (Err fault)
      → IsOutputRun Has IsText bytes known known (Err (of_store fault))
  lacking_symbol known index path at store.NoDocument means has lacks = ((index, means, λ (h : Has index). lacks (has h)), Keeps-refl known)
  lacking_symbol known index path at store.Memory means has lacks = inl (Keeps-refl known)

  -- a sink that failed
  pub told_front : (old new : Option (List ℕ)) (text : List ℕ) (fault : SinkFault) → IsOutput Has IsText bytes text → AppendsPrefix old new text → IsOutputRun Has IsText bytes old new (Err (of_sink fault))
  told_front old new text sink.Memory told front = inr (text, told, front)
  told_front old new text sink.Device told front = (text, told, front)
