use Rattle.std.proofs.Common.{◌≡◌, ◌∷◌, [], ℕ, refl, sym, ◌∙◌, append_assoc, rules}
use Rattle.std.specs.Global.{Vec}
use Rattle.std.specs.Vec.Iter.{into_iter_items}
use Rattle.std.proofs.lemmas.List.{nil_from_length}
use Rattle.std.proofs.lemmas.Result.{err_from_is_err_and}
use Rattle.index_run.proofs.InRow.{all_put, front_put, one_put}
use Rattle.index_run.proofs.records.write_records.Goals as goal

pub returns-in_err-write_fully-clause-writes : goal.returns-in_err-write_fully-clause-writes
returns-in_err-write_fully-clause-writes g c =
    let at = c.loop-record in
    let p = err_from_is_err_and c.from_residual.result c.from_residual.ensures.1 in
    rw p.1
    (front_put (λ (row : Vec ℕ). row.items) _ _ at.yielded at.invariant.taken c.args.records.items _ (at.invariant.whole ∙ c.into_iter-record-iterator.ensures.into_iter_gives.0) _ refl _ c.in-Some.record _ c.in-Some.ensures.steps.0
    (rw c.deref.ensures.value at c.in_err-write_fully.ensures.writes))

pub loop-record-preserved : goal.loop-record-preserved
loop-record-preserved g c =
    let at = c.loop-record in
    let steps : into_iter_items at.record-iterator ≡ c.in-Some.record ∷ into_iter_items c.next.new.self = c.in-Some.ensures.steps.0 in
    record {
      taken = one_put (λ (row : Vec ℕ). row.items) _ _ at.yielded at.invariant.taken _ c.in-Some.record (rw c.deref.ensures.value at c.in_ok-write_fully.ensures.writes);
      failures = search rules;
      whole = append_assoc at.yielded (c.in-Some.record ∷ []) _ ∙ rw (← steps) at.invariant.whole;
    }

pub returns-clause-writes : goal.returns-clause-writes
returns-clause-writes g c =
    let at = c.loop-record in
    all_put (λ (row : Vec ℕ). row.items) _ _ at.yielded at.invariant.taken c.args.records.items _ (at.invariant.whole ∙ c.into_iter-record-iterator.ensures.into_iter_gives.0) _ refl
    (nil_from_length _ (sym at.record-iterator.rest.ok.0 ∙ c.in-None.ensures.steps.0))
