use Rattle.std.proofs.Common.{[]}
use Rattle.std.proofs.lemmas.Result.{err_from_is_err_and}
use Rattle.byte_sink.proofs.Joining.{no_front}
use Rattle.cut_rules.proofs.Judging.{searched_rule}
use Rattle.cut_rules.proofs.Violations.{none_between}
use Rattle.cut_rules.proofs.verdict.RuleChecker.write_rule.Goals as goal

pub returns-in_default-clause-prefix : goal.returns-in_default-clause-prefix
returns-in_default-clause-prefix g c = λ files pieces elements. (0, [], none_between c.args.self.now.net.now files pieces c.args.rule.line 0, no_front _ _)

pub write_imports-requires-clause-judged : goal.write_imports-requires-clause-judged
write_imports-requires-clause-judged g c =
    let (files, pieces, elements) = c.requires.judged in
    (files, pieces, elements, searched_rule c.args.self.now.net.now c.invariants.ensures.network files pieces c.args.self.now.rules.now elements c.args.rule c.requires.rule c.args.graph.now c.requires.graph c.in-Ok.search c.in-Ok.ensures)

pub returns-in_err-any-clause-prefix : goal.returns-in_err-any-clause-prefix
returns-in_err-any-clause-prefix g c =
    let p = err_from_is_err_and c.from_residual.result c.from_residual.ensures.1 in
    rw p.1 (λ files pieces elements.
    c.in_err-any.ensures.prefix files pieces elements (searched_rule c.args.self.now.net.now c.invariants.ensures.network files pieces c.args.self.now.rules.now elements c.args.rule c.requires.rule c.args.graph.now c.requires.graph c.in-Ok.search c.in-Ok.ensures))

pub returns-clause-written : goal.returns-clause-written
returns-clause-written g c = λ files pieces elements.
    c.in_ok-any.ensures.written files pieces elements (searched_rule c.args.self.now.net.now c.invariants.ensures.network files pieces c.args.self.now.rules.now elements c.args.rule c.requires.rule c.args.graph.now c.requires.graph c.in-Ok.search c.in-Ok.ensures)
