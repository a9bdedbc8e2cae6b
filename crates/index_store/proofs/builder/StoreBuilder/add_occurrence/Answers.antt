-- The tables after one more occurrence.
use Rattle.std.proofs.Common.{sym}
use Rattle.scip_index.specs.Plain.{occurrence_model}
use Rattle.index_store.specs.Queries.{occurrence_at}
use Rattle.index_store.specs.Stores.{tables_of}
use Rattle.index_store.proofs.StoreLemmas.{passed_over}
use Rattle.index_store.proofs.builder.StoreBuilder.add_occurrence.Goals as goal

pub returns-in-None-clause-retained : goal.returns-in-None-clause-retained
returns-in-None-clause-retained c paths found name k at =
    passed_over paths found (tables_of c.args.self.now) (occurrence_at name (occurrence_model c.args.occurrence.now)) k (rw c.as_slice.ensures.value at (sym c.in-None.ensures))

pub returns-in-Some-clause-retained : goal.returns-in-Some-clause-retained
returns-in-Some-clause-retained c paths found name k at =
    c.add_symbol_entry.ensures.retained paths found (occurrence_at name (occurrence_model c.args.occurrence.now)) k at (record {
      placed = rw c.as_slice.ensures.value at (sym c.in-Some.ensures);
      defines = c.is_definition.ensures;
      named = sym c.as_str.ensures.value;
    })
