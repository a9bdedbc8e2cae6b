use Rattle.std.proofs.Common.{refl}
use Rattle.ob_tree.specs.Types.{type_events}
use Rattle.table_rules.specs.Types.{type_rows}
use Rattle.ob_grammar.specs.ReadTypes.{type_at}
use Rattle.table_reader.proofs.SectionTrees.{equal_told}
use Rattle.table_reader.proofs.declarations.TypeDeclDeclaration.parts.Goals as goal

pub returns-in-Ok-expect_word-clause-effect : goal.returns-in-Ok-expect_word-clause-effect
returns-in-Ok-expect_word-clause-effect c =
    equal_told c.args.source.now.tokens.now type_events type_rows (type_at c.args.depth) _ _ (λ i x. record { name = i; type_expr = x }) (λ i x. refl) (λ i x. refl)
    c.args.context _ _ _ _ c.args.input c.in-Ok.here c.in-Ok-expect_word.here _ c.in-Ok.ensures.effect c.in-Ok-expect_word.ensures.effect c.type_expression.ensures.effect
