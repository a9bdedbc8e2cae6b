use Rattle.std.proofs.Common.{sym, ap, ◌∙◌}
use Rattle.ob_tree.specs.TreeEvents.{construct}
use Rattle.module_table.specs.Parts.{declaring}
use Rattle.ob_grammar.specs.ParsesAs.{skipped}
use Rattle.ob_grammar.specs.Combinators.{node}
use Rattle.table_reader.proofs.SectionTrees.{section_absent, section_told}
use Rattle.table_reader.proofs.declarations.declaration_section.Goals as goal

pub returns-in-None-clause-effect : goal.returns-in-None-clause-effect
returns-in-None-clause-effect g c =
    section_absent c.args.source.now.tokens.now (λ x. construct g.D.Declaration.production (g.D.Declaration.events x)) (λ x. declaring c.args.decl_kind (g.D.Declaration.effect x)) c.args.keyword (node g.D.Declaration.production (g.D.Declaration.read c.args.depth))
    c.args.context _ c.args.input (sym c.accept.ensures.read ∙ ap (skipped c.args.source.now.tokens.now c.args.keyword) c.in-None.is)

pub returns-in-Some-clause-effect : goal.returns-in-Some-clause-effect
returns-in-Some-clause-effect g c =
    section_told c.args.source.now.tokens.now (λ x. construct g.D.Declaration.production (g.D.Declaration.events x)) (λ x. declaring c.args.decl_kind (g.D.Declaration.effect x)) c.args.keyword (node g.D.Declaration.production (g.D.Declaration.read c.args.depth))
    c.args.context _ _ _ c.args.input c.in-Some.rest _ (sym c.accept.ensures.read ∙ ap (skipped c.args.source.now.tokens.now c.args.keyword) c.in-Some.is) c.advance.ensures.stage c.declared.ensures.effect
