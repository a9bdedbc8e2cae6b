-- The path is inserted, and then the occurrences are added one after another.
use Rattle.std.proofs.Common.{◌++◌, ◌∷◌, [], List, map, take, take_all, subst}
use Rattle.std.specs.String.{string_bytes}
use Rattle.std.proofs.lemmas.List.{append-nil}
use Rattle.scip_index.specs.declared.index.Occurrence.{Occurrence}
use Rattle.scip_index.specs.Plain.{occurrence_model}
use Rattle.index_store.specs.Queries.{PlacedOccurrence, occurrence_at}
use Rattle.index_store.specs.Stores.{tables_of, Keeps}
use Rattle.index_store.specs.Tables.{rows_in, texts_in}
use Rattle.index_store.proofs.StoreLemmas.{entered_number, entered_whole, path_entered, some_more}
use Rattle.index_store.proofs.TableLemmas.{number_there}
use Rattle.index_store.proofs.builder.StoreBuilder.add_document.Goals as goal

pub loop-occurrence-init : goal.loop-occurrence-init
loop-occurrence-init c =
    let name = string_bytes c.args.document.now.relative_path in
    let old = tables_of c.args.self.now in
    let entered = rw c.as_str.ensures.value at c.in_ok-path.ensures in
    let ps = texts_in c.find_or_insert.new.self in
    let cs = rows_in c.find_or_insert.new.self in
    let whole = c.requires.whole in (
      record { of_paths = entered_whole old.paths old.coverings name ps cs c.in_ok-path.path whole.of_paths entered; of_symbols = whole.of_symbols },
      entered_number old.paths old.coverings name ps cs c.in_ok-path.path whole.of_paths entered,
      λ paths found k. rw (append-nil found) (path_entered paths found old name ps cs c.in_ok-path.path whole k entered),
    )

pub add_occurrence-requires-clause-within : goal.add_occurrence-requires-clause-within
add_occurrence-requires-clause-within c = (number_there (texts_in c.loop-occurrence.self.by_path) (string_bytes c.args.document.now.relative_path) c.in_ok-path.path c.loop-occurrence.invariant.1).0

pub loop-occurrence-preserved : goal.loop-occurrence-preserved
loop-occurrence-preserved c =
    let name = string_bytes c.args.document.now.relative_path in
    let items = c.args.document.now.occurrences.items in
    let k = c.loop-occurrence.occurrence-index in
    let at = c.loop-occurrence.invariant.1 in (
      c.in_ok-add_occurrence.ensures.whole,
      rw c.in_ok-add_occurrence.ensures.paths at,
      λ paths found retained. subst (λ (fs : List PlacedOccurrence). Keeps (paths ++ name ∷ []) fs (tables_of c.add_occurrence.new.self)) (some_more found name items k c.occurrence-item.result (rw c.deref-occurrence-items.ensures.value at c.loop-occurrence-test.true) (rw c.deref-occurrence-items.ensures.value at c.occurrence-item.is))
          (c.in_ok-add_occurrence.ensures.retained (paths ++ name ∷ []) (found ++ map (occurrence_at name) (map occurrence_model (take k items))) name (c.loop-occurrence.invariant.2 paths found retained) at),
    )

pub returns-clause-whole : goal.returns-clause-whole
returns-clause-whole c = c.loop-occurrence.invariant.0

pub returns-clause-retained : goal.returns-clause-retained
returns-clause-retained c paths found retained =
    let name = string_bytes c.args.document.now.relative_path in
    let all = take_all c.loop-occurrence.occurrence-index c.args.document.now.occurrences.items (rw c.deref-occurrence-items.ensures.value at c.loop-occurrence-test.false) in
    subst (λ (os : List Occurrence). Keeps (paths ++ name ∷ []) (found ++ map (occurrence_at name) (map occurrence_model os)) (tables_of c.loop-occurrence.self)) all (c.loop-occurrence.invariant.2 paths found retained)
