use Rattle.std.proofs.Common.{◌++◌, [], arith, rules, subst, List}
use Rattle.std.specs.String.{string_bytes}
use Rattle.std.proofs.lemmas.List.{take_all}
use Rattle.std.proofs.lemmas.Result.{err_from_is_err_and}
use Rattle.texts.specs.Places.{style_of}
use Rattle.source_tree.specs.TreeFaults.{tree_fault_text}
use Rattle.source_tree.specs.declared.tree_fault.TreeFault.{TreeFault}
use Rattle.byte_sink.specs.Sinks.{AppendsPrefix}
use Rattle.byte_sink.specs.Pieces.{WritesAllBut}
use Rattle.byte_sink.proofs.Joining.{front_joined, joined, lines, lines_around, lines_more, puts_then}
use Rattle.oscip_run.specs.FaultRuns.{escaped_line}
use Rattle.oscip_run.proofs.faults.write_lines.Goals as goal

pub returns-in_err-write_line-clause-writes : goal.returns-in_err-write_line-clause-writes
returns-in_err-write_line-clause-writes g c =
    let p = err_from_is_err_and c.from_residual.result c.from_residual.ensures.1 in
    let around = lines_around (tree_fault_text (style_of c.args.style)) escaped_line c.args.faults.now c.loop-fault.fault-index c.fault-item.result c.loop-fault-test.true in
    let error_prefix = subst (λ (fault : TreeFault). AppendsPrefix (g.S.Sink.taken c.loop-fault.sink) (g.S.Sink.taken c.write_line.new.sink) (string_bytes c.loop-fault.text ++ escaped_line (tree_fault_text (style_of c.args.style) fault))) c.fault-item.is c.in_err-write_line.ensures.error_prefix in
    rw p.1 (front_joined _ _ _ [] _ _ _ _ _ around c.loop-fault.invariant.gathered error_prefix)

pub loop-fault-preserved : goal.loop-fault-preserved
loop-fault-preserved g c =
    let more = lines_more (tree_fault_text (style_of c.args.style)) escaped_line c.args.faults.now c.loop-fault.fault-index c.fault-item.result c.loop-fault-test.true in
    let gathered = subst (λ (fault : TreeFault). WritesAllBut (g.S.Sink.taken c.loop-fault.sink) (g.S.Sink.taken c.write_line.new.sink) (string_bytes c.loop-fault.text ++ escaped_line (tree_fault_text (style_of c.args.style) fault)) (string_bytes c.write_line.new.text)) c.fault-item.is c.in_ok-write_line.ensures.gathered in
    record {
      gathered = joined _ _ _ [] _ _ _ _ _ more c.loop-fault.invariant.gathered gathered;
      failures = search rules;
    }

pub returns-clause-writes : goal.returns-clause-writes
returns-clause-writes g c =
    let whole = take_all c.loop-fault.fault-index c.args.faults.now (omega arith) in
    let all = subst (λ (faults : List TreeFault). WritesAllBut (g.S.Sink.taken c.args.sink.now) (g.S.Sink.taken c.loop-fault.sink) (lines (tree_fault_text (style_of c.args.style)) escaped_line faults) (string_bytes c.loop-fault.text)) whole c.loop-fault.invariant.gathered in
    puts_then _ _ _ _ (string_bytes c.loop-fault.text) c.write_fully.result all (rw c.as_bytes.ensures.value at c.write_fully.ensures.writes)
