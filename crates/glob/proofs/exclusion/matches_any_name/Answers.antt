use Rattle.std.proofs.Common.{map, rules, tests, subst, sym}
use Rattle.std.specs.Prelude.{Contains}
use Rattle.std.proofs.lemmas.List.{take_all}
use Rattle.glob.specs.Globs.{Fits}
use Rattle.glob.proofs.Excluding.{in_names, none_more}
use Rattle.glob.proofs.PiecesAfterStar.{no, yes}
use Rattle.glob.proofs.exclusion.matches_any_name.Goals as goal

pub returns-then-matches : goal.returns-then-matches
returns-then-matches c = yes (_, in_names c.args.names.now c.loop-name.name-index _ (search rules), c.matches.ensures.0 (search rules))

pub loop-name-preserved : goal.loop-name-preserved
loop-name-preserved c =
    none_more (λ name. Fits c.args.glob.now name) c.args.names.now c.loop-name.name-index _ (search rules) c.loop-name.invariant (λ fits. let yes = c.matches.ensures.1 fits in absurd (search rules))

pub returns : goal.returns
returns c =
    no (λ (name, has, fits). c.loop-name.invariant name (subst (λ z. Contains (map (λ n. n.now) z) name) (sym (take_all c.loop-name.name-index c.args.names.now (search rules))) has) fits)
