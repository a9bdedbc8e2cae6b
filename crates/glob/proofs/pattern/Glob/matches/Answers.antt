use Rattle.std.proofs.Common.{None, Some, rules, tests}
use Rattle.std.proofs.lemmas.Bool.Decides.{Decides-eqb}
use Rattle.std.proofs.lemmas.Slice.Eq.{strip_prefix_is}
use Rattle.glob.proofs.PiecesAfterStar.{no}
use Rattle.glob.proofs.Patterns.{with_none, with_some_pieces}
use Rattle.glob.proofs.pattern.Glob.matches.Goals as goal

pub returns-in_default : goal.returns-in_default
returns-in_default c =
    let other = strip_prefix_is Decides-eqb c.args.name.now c.args.self.now.first.now None c.in_default.ensures.cases in
    no (λ (rest, e, f). other rest e)

pub returns-in-None : goal.returns-in-None
returns-in-None c =
    let same = strip_prefix_is Decides-eqb c.args.name.now c.args.self.now.first.now (Some c.in-Some.rest) c.in-Some.ensures.cases in
    with_none c.args.self.now c.args.name.now c.in-Some.rest.now c.is_empty.result same c.in-None.is (search (rules, tests))

pub returns-in-Some-after_star : goal.returns-in-Some-after_star
returns-in-Some-after_star c =
    let same = strip_prefix_is Decides-eqb c.args.name.now c.args.self.now.first.now (Some c.in-Some.rest) c.in-Some.ensures.cases in
    with_some_pieces c.args.self.now c.args.name.now c.in-Some.rest.now c.in-Some-after_star.after_star c.matches.result same c.in-Some-after_star.is c.matches.ensures
