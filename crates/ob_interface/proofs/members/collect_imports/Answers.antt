-- One import item after another.
use Rattle.std.proofs.Common.{map, refl}
use Rattle.ob_interface.specs.Interfaces.{imported_of}
use Rattle.ob_interface.specs.Texts.{import_in}
use Rattle.ob_interface.proofs.Growing.{all_told, grown_none, grown_twice, map_told}
use Rattle.ob_interface.proofs.members.collect_imports.Goals as goal

pub loop-i-init : goal.loop-i-init
loop-i-init c = record { grown = grown_none _; decode = λ more. rw c.new-rows.ensures.items refl }

pub loop-i-preserved : goal.loop-i-preserved
loop-i-preserved c =
    let h = imported_of c.args.source.now.bytes.now c.args.source.now.tokens.now in
    record {
      grown = grown_twice c.loop-i.invariant.grown c.in_ok-row.ensures.grown;
      decode = rw c.in_ok-push.ensures.items (map_told import_in h _ _ _ c.args.imports.now c.loop-i.i _ _ c.loop-i.invariant.decode c.in_ok-row.ensures.grown c.in_ok-row.ensures.decoded c.loop-i-test.true);
    }

pub returns-clause-grown : goal.returns-clause-grown
returns-clause-grown c = c.loop-i.invariant.grown

pub returns-clause-decode : goal.returns-clause-decode
returns-clause-decode c = all_told import_in _ _ (map (imported_of c.args.source.now.bytes.now c.args.source.now.tokens.now)) c.args.imports.now c.loop-i.i c.loop-i.invariant.decode c.loop-i-test.false
