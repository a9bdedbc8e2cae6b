use Rattle.std.proofs.lemmas.Result.{err_from_is_err_and}
use Rattle.std.specs.String.{string_bytes}
use Rattle.std.specs.Prelude.{option_copied}
use Rattle.oscip_run.specs.Runs.{IsNetOfText, IsRejectedText}
use Rattle.oscip_run.specs.PricedInputs.{IsNetOfPricedText, IsRejectedPricedText}
use Rattle.oscip_run.proofs.JobRuns.{refused_cut, refused_reach, why_of}
use Rattle.oscip_run.proofs.run.answer_net_question.Goals as goal

pub returns-in_err-cut_net_bytes-in-Cut-clause-run : goal.returns-in_err-cut_net_bytes-in-Cut-clause-run
returns-in_err-cut_net_bytes-in-Cut-clause-run g c =
    let p = err_from_is_err_and c.from_residual.result c.from_residual.ensures.1 in
    rw (c.in-Cut.is, p.1, p.2) (refused_cut (IsNetOfPricedText c.args.network.now (option_copied c.args.prices)) (IsRejectedPricedText c.args.network.now (option_copied c.args.prices)) _ _ _ _ _ _ _ c.as_str-from.ensures.value c.as_str-to.ensures.value c.in_err-cut_net_bytes-in-Cut.ensures.run)

pub returns-in-Why-clause-run : goal.returns-in-Why-clause-run
returns-in-Why-clause-run g c =
    rw c.in-Why.is (why_of (IsNetOfText c.args.network.now) (IsRejectedText c.args.network.now) _ _ _ _ _ _ _ c.as_str-first.ensures.value c.as_str-last.ensures.value c.write_net_shortest_path.ensures.run)

pub returns-in_err-list_reachable_in_net-in-Reach-clause-run : goal.returns-in_err-list_reachable_in_net-in-Reach-clause-run
returns-in_err-list_reachable_in_net-in-Reach-clause-run g c =
    let p = err_from_is_err_and c.from_residual-in_err-list_reachable_in_net-in-Reach.result c.from_residual-in_err-list_reachable_in_net-in-Reach.ensures.1 in
    rw (c.in-Reach.is, p.1, p.2) (refused_reach (IsNetOfText c.args.network.now) (IsRejectedText c.args.network.now) c.as_str-module.result.now (string_bytes c.in-Reach.reaching.module) c.in-Reach.reaching.direction (g.S.Sink.taken c.args.sink.now)
    (g.S.Sink.taken c.list_reachable_in_net.new.sink) _ c.as_str-module.ensures.value c.in_err-list_reachable_in_net-in-Reach.ensures.run)
