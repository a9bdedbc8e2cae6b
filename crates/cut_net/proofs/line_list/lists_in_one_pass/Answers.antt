use Rattle.std.proofs.Common.{refl}
use Rattle.cut_net.proofs.Ahead.{repeat_said}
use Rattle.cut_net.proofs.line_list.lists_in_one_pass.Goals as goal

pub returns-then-branch-clause-fault : goal.returns-then-branch-clause-fault
returns-then-branch-clause-fault c = repeat_said c.args.bytes.now c.in-RepeatedImport.line c.fill_with_seed.new.list (c.in-RepeatedImport.ensures.twice c.in-RepeatedImport.line refl) (c.in_ok-has_distinct_imports_by_sorting-in-RepeatedImport.ensures c.if-branch.true)
