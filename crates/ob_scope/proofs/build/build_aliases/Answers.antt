-- One more alias.
use Rattle.std.proofs.Common.{refl}
use Rattle.std.proofs.lemmas.Option.{slice_get-get_or}
use Rattle.ob_scan.specs.Texts.{text_at}
use Rattle.ob_scope.proofs.Assembling.{aliases_more}
use Rattle.ob_scope.proofs.build.build_aliases.Goals as goal

pub loop-i-preserved : goal.loop-i-preserved
loop-i-preserved c =
    rw c.in_ok-push.ensures.items
    (aliases_more (text_at c.args.text.now.bytes.now c.args.text.now.tokens.now) c.args.members.now c.args.counts.now c.args.imports.now c.loop-i.i _ _ c.loop-i.aliases.items c.loop-i.invariant
    (slice_get-get_or c.args.imports.now c.loop-i.i _ c.loop-i-test.true)
    (record { alias = refl; imported = c.in_ok-string.ensures; uses = c.alias_use_count.ensures }))
