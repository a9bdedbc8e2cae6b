use Rattle.std.proofs.Common.{sym, ◌∙◌, arith}
use Rattle.std.proofs.lemmas.Bool.{eqb-true}
use Rattle.proto_wire.specs.Messages.{payload_record}
use Rattle.scip_index.specs.Meaning.{occurrence_fault}
use Rattle.scip_index.proofs.CleanOccurrences.{clean_before, clean_end, clean_further, when_no_fault}
use Rattle.scip_index.proofs.checked_messages.is_simple_valid_rest.Goals as goal

pub returns-then-is_empty : goal.returns-then-is_empty
returns-then-is_empty c e = c.loop.invariant.clean (clean_end occurrence_fault _ _ (eqb-true _ _ (sym c.if-is_empty.ensures)))

pub loop-preserved : goal.loop-preserved
loop-preserved c =
    let p = payload_record c.in-Some.wire c.in-Some.payload.now in
    let numbers = when_no_fault c.check_numbers.result (sym c.is_err.ensures.value ∙ c.if-is_err.false) c.check_numbers.ensures.clean in
    record {
      clean = λ clean. c.loop.invariant.clean (clean_before occurrence_fault _ _ _ _ p c.in-Some.ensures.first (clean_further p (omega (arith, c.if-wire-lt3.false)) numbers) clean);
      within = c.in-Some.ensures.within ∙ c.loop.invariant.within;
    }
