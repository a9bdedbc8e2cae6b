-- The entries of the path are the occurrences that may cover a position in its documents.
use Rattle.std.proofs.Common.{◌<◌, length, Some, None, sym, subst, arith}
use Rattle.std.specs.Prelude.{All}
use Rattle.index_store.specs.declared.row.PathEntry.{PathEntry}
use Rattle.index_store.specs.Stores.{tables_in, IsStoreOf}
use Rattle.index_store.specs.Tables.{rows_at, texts_in}
use Rattle.index_store.proofs.AskedLemmas.{nearest_here, nearest_is}
use Rattle.index_store.proofs.TableLemmas.{number_there, text_lacking, under_number}
use Rattle.index_store.proofs.store.Store.symbol_at.Goals as goal

pub returns-in-None : goal.returns-in-None
returns-in-None c = record {
  exact = λ index store has.
      let retained = subst (IsStoreOf index) (sym c.self.view_is) store in
      text_lacking (texts_in c.self.inside.by_path) c.args.path.now (sym c.in-None.ensures) ((retained.named c.args.path.now).1 has);
}

pub rows-requires : goal.rows-requires
rows-requires c =
    let l = (number_there (texts_in c.self.inside.by_path) c.args.path.now c.in-Some.number (sym c.in-Some.ensures)).0 in
    let e = c.self.invariant.whole.of_paths in
    record { within = omega (arith, l, e) }

pub text-requires : goal.text-requires
text-requires c =
    let t = tables_in c.self.inside.by_path c.self.inside.by_symbol in
    let i = c.self.invariant in
    let rows = subst (All (λ (x : PathEntry). x.symbol < length t.symbols)) (under_number t.paths t.coverings c.args.path.now c.in-Some.number i.whole.of_paths (sym c.in-Some.ensures)) (i.invariants.symbols_valid c.args.path.now) in
    record { within = nearest_is (λ (x : PathEntry). x.symbol < length t.symbols) c.args.at None (rows_at t.coverings c.in-Some.number) c.in-Some-nearest_entry.covering (λ b e. absurd cc) rows (rw c.rows.ensures at (sym c.in-Some-nearest_entry.ensures)) }

pub returns-in-None-nearest_entry : goal.returns-in-None-nearest_entry
returns-in-None-nearest_entry c = record {
  exact = λ index store.
      let t = tables_in c.self.inside.by_path c.self.inside.by_symbol in
      nearest_here index t c.args.path.now c.args.at c.in-Some.number None c.self.invariant.whole (subst (IsStoreOf index) (sym c.self.view_is) store) (sym c.in-Some.ensures) (rw c.rows.ensures at c.in-None-nearest_entry.ensures);
}

pub returns-in-Some-nearest_entry : goal.returns-in-Some-nearest_entry
returns-in-Some-nearest_entry c = record {
  exact = λ index store.
      let t = tables_in c.self.inside.by_path c.self.inside.by_symbol in
      let h = nearest_here index t c.args.path.now c.args.at c.in-Some.number (Some c.in-Some-nearest_entry.covering) c.self.invariant.whole (subst (IsStoreOf index) (sym c.self.view_is) store) (sym c.in-Some.ensures) (rw c.rows.ensures at c.in-Some-nearest_entry.ensures) in
      rw c.text.ensures h;
}
