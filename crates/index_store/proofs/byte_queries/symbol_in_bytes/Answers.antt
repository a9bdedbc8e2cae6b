use Rattle.std.proofs.Common.{◌∙◌, Some, None, sym}
use Rattle.index_store.specs.Direct.{symbol_span_model}
use Rattle.index_store.proofs.DirectLaws.{path_lacking, path_there, symbol_there}
use Rattle.index_store.proofs.byte_queries.symbol_in_bytes.Goals as goal

pub returns-then-not-found : goal.returns-then-not-found
returns-then-not-found c = record {
  exact = λ index means. path_lacking c.args.bytes.now c.args.path.now index means (sym c.in_ok-found.ensures.has ∙ c.if-not-found.true);
}

pub returns-in-None : goal.returns-in-None
returns-in-None c = record {
  exact = λ index means. (
    path_there c.args.bytes.now c.args.path.now index means (sym c.in_ok-found.ensures.has ∙ c.if-not-found.false),
    symbol_there c.args.bytes.now c.args.path.now c.args.at None index means (rw c.in-None.is at c.in_ok-found.ensures.nearest),
  );
}

pub returns-in-Some : goal.returns-in-Some
returns-in-Some c = record {
  exact = λ index means. (
    path_there c.args.bytes.now c.args.path.now index means (sym c.in_ok-found.ensures.has ∙ c.if-not-found.false),
    symbol_there c.args.bytes.now c.args.path.now c.args.at (Some (symbol_span_model c.in-Some.symbol_span)) index means (rw c.in-Some.is at c.in_ok-found.ensures.nearest),
  );
}
