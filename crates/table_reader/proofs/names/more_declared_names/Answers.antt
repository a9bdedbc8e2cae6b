use Rattle.std.proofs.Common.{sym, ap, ◌∙◌}
use Rattle.ob_scan.specs.declared.kind.Kind.TheVariants as kinds
use Rattle.table_rules.specs.Types.{identdef_rows}
use Rattle.ob_grammar.specs.ParsesAs.{skipped}
use Rattle.ob_grammar.proofs.Repetitions.{declared_names}
use Rattle.table_reader.proofs.Lists.{behind_token, repeat_begun, repeat_shorter, repeat_behind, repeat_failed, repeat_done}
use Rattle.table_reader.proofs.names.more_declared_names.Goals as goal

pub more-init : goal.more-init
more-init c = (repeat_begun c.args.tokens.now declared_names (behind_token identdef_rows) c.args.context _ c.args.input, c.requires)

pub more-smaller : goal.more-smaller
more-smaller c =
    repeat_shorter c.args.tokens.now declared_names identdef_rows c.args.context _ _ c.more.here c.in-Some.following c.in-Ok.next (sym c.accept.ensures.read ∙ ap (skipped c.args.tokens.now kinds.Comma) c.in-Some.is) c.in-Ok.ensures.effect

pub more-preserved : goal.more-preserved
more-preserved c = (repeat_behind c.args.tokens.now declared_names identdef_rows c.args.context _ _ _ _ c.args.input c.more.here c.in-Some.following c.in-Ok.next (sym c.accept.ensures.read ∙ ap (skipped c.args.tokens.now kinds.Comma) c.in-Some.is) c.more.invariant.0 c.advance.ensures.stage c.in-Ok.ensures.effect, c.in-Ok.ensures.number)

pub returns-in-Err-clause-effect : goal.returns-in-Err-clause-effect
returns-in-Err-clause-effect c =
    repeat_failed c.args.tokens.now declared_names (behind_token identdef_rows) c.args.context c.in-Err.stop _ _ c.args.input c.more.here c.in-Some.following (sym c.accept.ensures.read ∙ ap (skipped c.args.tokens.now kinds.Comma) c.in-Some.is) c.more.invariant.0 c.in-Err.ensures.effect

pub returns-clause-effect : goal.returns-clause-effect
returns-clause-effect c =
    repeat_done c.args.tokens.now declared_names (behind_token identdef_rows) c.args.context _ _ c.args.input c.more.here (sym c.accept.ensures.read ∙ ap (skipped c.args.tokens.now kinds.Comma) c.in_default.is) c.more.invariant.0
