use Rattle.std.proofs.Common.{refl}
use Rattle.std.proofs.lemmas.Result.{err_from_is_err_and}
use Rattle.texts.specs.Places.{style_of}
use Rattle.cut_rules.specs.RuleLines.{pieces_of}
use Rattle.oscip_run.specs.RuleRuns.{AreThese}
use Rattle.oscip_run.specs.Runs.{IsNeverRejected}
use Rattle.oscip_run.proofs.RuleRuns.{refused_rules, stopped, written}
use Rattle.oscip_run.proofs.rule_check.write_rules_verdict.Goals as goal

pub returns-in_err-rules-clause-run : goal.returns-in_err-rules-clause-run
returns-in_err-rules-clause-run g c =
    let p = err_from_is_err_and c.from_residual.result c.from_residual.ensures.1 in
    let tree = c.args.tree.now in
    rw (p.1, p.2) (refused_rules (AreThese tree.net.now tree.files.now tree.sites.now) IsNeverRejected (style_of c.args.style) c.args.rules.now tree.net.now tree.files.now tree.sites.now (refl, refl, refl) _ _ c.in_err-rules.ensures.fault)

pub returns-in_err-write_verdict-clause-run : goal.returns-in_err-write_verdict-clause-run
returns-in_err-write_verdict-clause-run g c =
    let p = err_from_is_err_and c.from_residual-in_err-write_verdict.result c.from_residual-in_err-write_verdict.ensures.1 in
    let are = c.in_ok-rules.ensures.rules in
    let tree = c.args.tree.now in
    rw (p.1, p.2)
    (stopped (AreThese tree.net.now tree.files.now tree.sites.now) IsNeverRejected (style_of c.args.style) c.args.rules.now tree.net.now tree.files.now tree.sites.now (refl, refl, refl) _ _ c.in_ok-rules.rules _ are
    (c.in_err-write_verdict.ensures.prefix tree.files.now (pieces_of c.args.rules.now) are))

pub returns-clause-run : goal.returns-clause-run
returns-clause-run g c =
    let are = c.in_ok-rules.ensures.rules in
    let tree = c.args.tree.now in
    written (AreThese tree.net.now tree.files.now tree.sites.now) IsNeverRejected (style_of c.args.style) c.args.rules.now tree.net.now tree.files.now tree.sites.now (refl, refl, refl) _ _ c.in_ok-rules.rules _ are
    (c.in_ok-write_verdict.ensures.exact tree.files.now (pieces_of c.args.rules.now) are)
