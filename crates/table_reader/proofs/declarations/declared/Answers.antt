use Rattle.std.proofs.Common.{sym, ◌∙◌}
use Rattle.ob_tree.specs.TreeEvents.{construct}
use Rattle.module_table.specs.Parts.{declaring}
use Rattle.ob_grammar.specs.Combinators.{node}
use Rattle.ob_grammar.specs.ReadModules.{is_identifier}
use Rattle.ob_grammar.proofs.Loops.{has_begun, has_not_begun}
use Rattle.table_reader.specs.DeclarationShapes.{ended_rows}
use Rattle.ob_grammar.proofs.Repetitions.{declarations}
use Rattle.table_reader.proofs.Lists.{repeat_begun, repeat_shorter, repeat_more, repeat_failed, repeat_done}
use Rattle.table_reader.proofs.declarations.declared.Goals as goal

pub more-init : goal.more-init
more-init g c = (repeat_begun c.args.source.now.tokens.now (declarations (node g.D.Declaration.production (g.D.Declaration.read c.args.depth)) (g.met.D.Declaration.shortens c.args.depth) (λ x. construct g.D.Declaration.production (g.D.Declaration.events x))) (ended_rows (λ x. declaring c.args.decl_kind (g.D.Declaration.effect x))) c.args.context _ c.args.input, c.requires)

pub more-smaller : goal.more-smaller
more-smaller g c =
    repeat_shorter c.args.source.now.tokens.now (declarations (node g.D.Declaration.production (g.D.Declaration.read c.args.depth)) (g.met.D.Declaration.shortens c.args.depth) (λ x. construct g.D.Declaration.production (g.D.Declaration.events x))) (ended_rows (λ x. declaring c.args.decl_kind (g.D.Declaration.effect x)))
    c.args.context _ _ c.more.here c.more.here c.in-Ok.next (has_begun is_identifier _ (sym c.begins_declaration.ensures ∙ c.more-test.true)) c.in-Ok.ensures.effect

pub more-preserved : goal.more-preserved
more-preserved g c = (repeat_more c.args.source.now.tokens.now (declarations (node g.D.Declaration.production (g.D.Declaration.read c.args.depth)) (g.met.D.Declaration.shortens c.args.depth) (λ x. construct g.D.Declaration.production (g.D.Declaration.events x))) (ended_rows (λ x. declaring c.args.decl_kind (g.D.Declaration.effect x))) c.args.context _ _ _ c.args.input c.more.here c.more.here c.in-Ok.next (has_begun is_identifier _ (sym c.begins_declaration.ensures ∙ c.more-test.true)) c.more.invariant.0 c.in-Ok.ensures.effect, c.in-Ok.ensures.number)

pub returns-in-Err-clause-effect : goal.returns-in-Err-clause-effect
returns-in-Err-clause-effect g c =
    repeat_failed c.args.source.now.tokens.now (declarations (node g.D.Declaration.production (g.D.Declaration.read c.args.depth)) (g.met.D.Declaration.shortens c.args.depth) (λ x. construct g.D.Declaration.production (g.D.Declaration.events x))) (ended_rows (λ x. declaring c.args.decl_kind (g.D.Declaration.effect x)))
    c.args.context c.in-Err.stop _ _ c.args.input c.more.here c.more.here (has_begun is_identifier _ (sym c.begins_declaration.ensures ∙ c.more-test.true)) c.more.invariant.0 c.in-Err.ensures.effect

pub returns-clause-effect : goal.returns-clause-effect
returns-clause-effect g c =
    repeat_done c.args.source.now.tokens.now (declarations (node g.D.Declaration.production (g.D.Declaration.read c.args.depth)) (g.met.D.Declaration.shortens c.args.depth) (λ x. construct g.D.Declaration.production (g.D.Declaration.events x))) (ended_rows (λ x. declaring c.args.decl_kind (g.D.Declaration.effect x)))
    c.args.context _ _ c.args.input c.more.here (has_not_begun is_identifier _ (sym c.begins_declaration.ensures ∙ c.more-test.false)) c.more.invariant.0
