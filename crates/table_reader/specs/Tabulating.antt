-- Relations between the result of a parsing function and the entries that it appends.
use Rattle.std.specs.Prelude.{◌≡◌, false, List, Result, Ok, Err}
use Rattle.ob_scan.specs.declared.token.Token.{Token}
use Rattle.ob_tree.specs.TreeEvents.{Events}
use Rattle.ob_grammar.specs.declared.cursor.Cursor.{Cursor}
use Rattle.ob_grammar.specs.declared.stop.Stop.{Stop}
use Rattle.ob_grammar.specs.Combinators.{Read, ReadError}
use Rattle.ob_grammar.specs.ParsesAs.{Fails, remaining}
use Rattle.module_table.specs.declared.builder.TableBuilder.{TableBuilder}
use Rattle.module_table.specs.declared.builder.Context.{Context}
use Rattle.module_table.specs.TableStages.{Stage, stage_of, after}
use Rattle.module_table.specs.Parts.{Fragment}

-- some tree has these events, and `step` for this tree leads from the old stage of the builder to the new one; the tree exists only in
-- proofs
pub record HasTree {T : Type 0} (events_of : T → Events) (step : T → Stage → Stage) (out : Events) (old new : TableBuilder) : Type 0 where
  pub tree : T
  pub has_events : events_of tree ≡ out
  pub comes : stage_of new ≡ step tree (stage_of old)

-- unless an allocation of the new builder failed: none of the old builder failed; and `step`, for some tree with the events `out`, leads
-- from the old builder's stage to the new one's
abbrev pub AppendsTreeEntries : {T : Type 0} → (T → Events) → (T → Stage → Stage) → Events → TableBuilder → TableBuilder → Type 0
AppendsTreeEntries events_of step out old new = new.failed ≡ false → (old.failed ≡ false) × HasTree events_of step out old new

-- the reader returns the events up to the cursor `rest`; unless an allocation failed, the entries of a tree with these events are appended
pub record HasAppendedEntries {T : Type 0} (ts : List Token) (events_of : T → Events) (step : T → Stage → Stage) (old new : TableBuilder) (rest : Cursor) (read : Read) : Type 0 where
  pub out : Events
  pub is_read : read ≡ Ok (out, remaining ts rest)
  pub tabulates : AppendsTreeEntries events_of step out old new

-- with `Ok` the parser stops at the cursor where the grammar's reader stops, and exactly the entries of what it read are appended, unless
-- an allocation failed; with `Err` the reader fails for the same reason, or an allocation failed
abbrev pub AppendsEntriesBy : {T : Type 0} → List Token → (T → Events) → (T → Stage → Stage) → TableBuilder → TableBuilder → Result Cursor Stop → Read → Type 0
AppendsEntriesBy ts events_of step old new (Ok rest) read = HasAppendedEntries ts events_of step old new rest read
AppendsEntriesBy ts events_of step old new (Err e) read = Fails ts e read

-- `AppendsEntriesBy`, with the step that appends the entries of the fragment `piece x` for the parsed tree x
abbrev pub AppendsEntries : {T : Type 0} → List Token → (T → Events) → (T → Fragment) → Context → TableBuilder → TableBuilder → Result Cursor Stop → Read → Type 0
AppendsEntries ts events_of piece context old new result read = AppendsEntriesBy ts events_of (λ x. after (piece x) context) old new result read

-- the reader's result is the events of all tokens; unless an allocation failed, the entries of a tree with these events are appended
pub record HasAppendedModuleEntries {T : Type 0} (events_of : T → Events) (step : T → Stage → Stage) (old new : TableBuilder) (read : Result Events ReadError) : Type 0 where
  pub out : Events
  pub is_read : read ≡ Ok out
  pub tabulates : AppendsTreeEntries events_of step out old new

-- with `Ok` the reader reads all tokens, and their entries are appended, unless an allocation failed; with `Err` the reader fails for the
-- same reason, or an allocation failed
abbrev pub AppendsModuleEntries : {T : Type 0} → List Token → (T → Events) → (T → Stage → Stage) → TableBuilder → TableBuilder → Result (Unit {0}) Stop → Result Events ReadError → Type 0
AppendsModuleEntries ts events_of step old new (Ok u) read = HasAppendedModuleEntries events_of step old new read
AppendsModuleEntries ts events_of step old new (Err e) read = Fails ts e read
