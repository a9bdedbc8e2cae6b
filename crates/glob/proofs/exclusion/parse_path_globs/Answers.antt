use Rattle.std.proofs.Common.{◌≡◌, ◌∙◌, ◌+◌, ap, map, rules, subst, sym, take}
use Rattle.std.specs.String.{string_bytes}
use Rattle.std.proofs.lemmas.List.{take_all}
use Rattle.glob.specs.Exclusions.{names_of, AreRead, Excludes, ExcludesBy}
use Rattle.std.specs.Prelude.{◌↔◌}
use Rattle.glob.proofs.Excluding.{none_read, read_more}
use Rattle.glob.proofs.exclusion.parse_path_globs.Goals as goal

pub loop-pattern-preserved : goal.loop-pattern-preserved
loop-pattern-preserved c =
    subst (λ z. AreRead (map string_bytes (take (c.loop-pattern.pattern-index + 1) c.args.patterns.now)) z) (sym c.in_ok-push.ensures.items)
    (read_more c.args.patterns.now c.loop-pattern.globs.items c.loop-pattern.pattern-index c.pattern-item.result c.in_ok-new.field-0 (search rules) c.loop-pattern.invariant
    (λ path. subst (λ z. Excludes z path ↔ ExcludesBy c.in_ok-new.field-0 (names_of path)) (c.as_bytes.ensures.value ∙ ap string_bytes c.pattern-item.is) (c.in_ok-new.ensures path)))

pub returns : goal.returns
returns c = subst (λ z. AreRead (map string_bytes z) c.loop-pattern.globs.items) (take_all c.loop-pattern.pattern-index c.args.patterns.now c.loop-pattern-test.false) c.loop-pattern.invariant
