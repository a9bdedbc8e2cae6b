use Rattle.std.proofs.Common.{Ok, sym, ap, ◌∙◌}
use Rattle.ob_scan.specs.declared.kind.Kind.TheVariants as kinds
use Rattle.ob_grammar.specs.declared.cursor.Cursor.{Cursor}
use Rattle.ob_grammar.specs.ParsesAs.{remaining, skipped}
use Rattle.table_reader.proofs.LabelTrees.{lone_told, dotted_told, dotted_failed}
use Rattle.table_reader.proofs.uses.qualident_after.Goals as goal

pub returns-in-None-clause-effect : goal.returns-in-None-clause-effect
returns-in-None-clause-effect c = lone_told c.args.tokens.now c.args.context c.args.head _ _ c.args.input (sym c.accept.ensures.read ∙ ap (skipped c.args.tokens.now kinds.Dot) c.in-None.is) c.append_use.ensures.stage

pub returns-in-Ok-clause-effect : goal.returns-in-Ok-clause-effect
returns-in-Ok-clause-effect c =
    dotted_told c.args.tokens.now c.args.context c.args.head c.in-Ok.field-0-0 _ _ _ _ c.args.input c.in-Some.rest c.advance_token.result (sym c.accept.ensures.read ∙ ap (skipped c.args.tokens.now kinds.Dot) c.in-Some.is)
    (c.in-Ok.ensures.read ∙ ap (λ (i : Cursor). Ok (c.in-Ok.field-0-0, remaining c.args.tokens.now i)) (sym c.advance_token.ensures.cursor)) c.append_use-in-Some.ensures.stage c.advance.ensures.stage c.advance_token.ensures.stage

pub returns-in-Err-clause-effect : goal.returns-in-Err-clause-effect
returns-in-Err-clause-effect c =
    dotted_failed c.args.tokens.now c.args.head c.in-Err.stop c.args.input c.in-Some.rest (sym c.accept.ensures.read ∙ ap (skipped c.args.tokens.now kinds.Dot) c.in-Some.is) c.in-Err.ensures.read
