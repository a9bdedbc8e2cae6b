use Rattle.std.proofs.Common.{◌≤◌, ◌+◌, arith}
use Rattle.ob_scan.proofs.LinesPassed.{lines_pass, passed_on}
use Rattle.ob_scan.proofs.line_ends.skip_within_line.Goals as goal

pub returns-then-passed-lt-LANES-clause-passed : goal.returns-then-passed-lt-LANES-clause-passed
returns-then-passed-lt-LANES-clause-passed c =
    let room : c.lanes.at + 16 ≤ c.args.end = omega (arith, c.lanes-test.true, c.lanes.invariant.1) in
    let here = lines_pass c.args.bytes.now c.lanes.at c.lanes_before_line_end-passed.result (omega (arith, room, c.requires.within)) c.lanes_before_line_end-passed.ensures in
    passed_on c.args.bytes.now c.args.from c.lanes.at _ c.lanes.invariant.2 here.1

pub lanes-preserved : goal.lanes-preserved
lanes-preserved c =
    let room : c.lanes.at + 16 ≤ c.args.end = omega (arith, c.lanes-test.true, c.lanes.invariant.1) in
    let here = lines_pass c.args.bytes.now c.lanes.at c.lanes_before_line_end-passed.result (omega (arith, room, c.requires.within)) c.lanes_before_line_end-passed.ensures in
    (omega (arith, c.lanes.invariant.0), omega (arith, room, here.0), passed_on c.args.bytes.now c.args.from c.lanes.at _ c.lanes.invariant.2 here.1)
