use Rattle.std.proofs.Common.{◌+◌, map, rules, subst, sym, take}
use Rattle.glob.specs.Exclusions.{AreGlobs}
use Rattle.glob.proofs.Excluding.{globs_more}
use Rattle.glob.proofs.exclusion.parse_globs.Goals as goal

pub loop-pattern-preserved : goal.loop-pattern-preserved
loop-pattern-preserved c =
    subst (λ z. AreGlobs (map (λ p. p.now) (take (c.loop-pattern.pattern-index + 1) c.args.patterns.now)) z) (sym c.in_ok-push.ensures.items)
    (globs_more c.args.patterns.now c.loop-pattern.globs.items c.loop-pattern.pattern-index _ c.in_ok-new.field-0 (search rules) c.loop-pattern.invariant c.in_ok-new.ensures)
