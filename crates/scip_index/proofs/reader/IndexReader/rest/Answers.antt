use Rattle.std.proofs.lemmas.Result.{err_from_is_err_and}
use Rattle.scip_index.proofs.StreamingLaws.{none-then}
use Rattle.scip_index.proofs.reader.IndexReader.rest.Goals as goal

pub returns-in_err-read_rest-clause-exact : goal.returns-in_err-read_rest-clause-exact
returns-in_err-read_rest-clause-exact c =
    let r = c.self.inside in
    let q = err_from_is_err_and c.from_residual.result c.from_residual.ensures.1 in
    rw (q.1, q.2, ← c.self.view_is) (none-then r.error _ _ c.self.invariant (λ k. c.in_err-read_rest.ensures.err r.bytes.now k.0 k.1))

pub returns-clause-exact : goal.returns-clause-exact
returns-clause-exact c =
    let r = c.self.inside in
    rw (← c.self.view_is) (none-then r.error _ _ c.self.invariant (λ k. c.in_ok-read_rest.ensures.read r.bytes.now k.0 k.1))
