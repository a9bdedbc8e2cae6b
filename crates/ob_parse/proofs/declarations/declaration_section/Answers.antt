use Rattle.std.proofs.Common.{sym, ◌++◌}
use Rattle.ob_scan.specs.declared.kind.Kind.TheVariants as kinds
use Rattle.ob_tree.specs.TreeEvents.{each, word}
use Rattle.ob_grammar.specs.Combinators.{accept_at}
use Rattle.ob_grammar.specs.ReadModules.{section_with}
use Rattle.ob_grammar.proofs.Somes.{gives_some}
use Rattle.ob_parse.proofs.declarations.declaration_section.Goals as goal

pub returns-in-Some : goal.returns-in-Some
unfolding section_with
returns-in-Some g c = gives_some c.args.tokens.now c.declared.result (λ v. each (λ d. g.D.Declaration.shown d ++ word kinds.Semicolon) v.items) c.wrap_in_some.result (accept_at c.args.keyword) _ _ _ c.wrap_in_some.ensures (sym c.in-Some.ensures.read) c.declared.ensures
