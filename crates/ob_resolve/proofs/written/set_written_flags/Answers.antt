use Rattle.std.proofs.Common.{◌+◌, ◌∷◌, [], length, drop, get_or, false, refl}
use Rattle.std.proofs.lemmas.List.{drop_more}
use Rattle.module_table.specs.Tables.{rows_in}
use Rattle.ob_targets.specs.Targets.{writes}
use Rattle.ob_resolve.proofs.WrittenNames.{AreWritten, begun, stepped, done, drop_past}
use Rattle.ob_resolve.proofs.written.set_written_flags.Goals as goal

pub loop-designator-init : goal.loop-designator-init
loop-designator-init c = begun _ _ _ c.args.written.now refl c.requires

pub loop-designator-preserved : goal.loop-designator-preserved
loop-designator-preserved c =
    let has = writes (rows_in c.args.table.now) in
    let all = c.designators-designators.result.now in
    let count = length c.args.written.now in
    let i = c.loop-designator.designator-index in
    let d = get_or all i (record { head = 0; block = 0; is_written = false }) in
    let before : AreWritten has all count (d ∷ drop (i + 1) all) c.loop-designator.written = rw (drop_more all i (record { head = 0; block = 0; is_written = false }) c.loop-designator-test.true) at c.loop-designator.invariant in
    rw c.set_flag.ensures (stepped has all count d (drop (i + 1) all) c.loop-designator.written c.written_name-name.result c.written_name-name.ensures before)

pub returns : goal.returns
returns c =
    let has = writes (rows_in c.args.table.now) in
    let all = c.designators-designators.result.now in
    let count = length c.args.written.now in
    let after : AreWritten has all count [] c.loop-designator.written = rw (drop_past all c.loop-designator.designator-index c.loop-designator-test.false) at c.loop-designator.invariant in
    λ k l. rw (← c.designators-designators.ensures) (done has all count c.loop-designator.written after k l)
