use Rattle.std.proofs.Common.{None, refl, sym, ap, ◌∙◌}
use Rattle.ob_scan.specs.declared.kind.Kind.TheVariants as kinds
use Rattle.table_rules.specs.Declaring.{imports_rows}
use Rattle.module_table.specs.TableStages.{after}
use Rattle.module_table.specs.Parts.{if_present}
use Rattle.module_table.proofs.Steps.{after_nothing}
use Rattle.ob_grammar.specs.Combinators.{accept_at}
use Rattle.ob_grammar.specs.ParsesAs.{skipped}
use Rattle.ob_grammar.specs.ReadModules.{imports_at}
use Rattle.table_reader.specs.DeclarationShapes.{imports_events}
use Rattle.table_reader.proofs.Combine.{told_absent}
use Rattle.table_reader.proofs.ModuleTrees.{imports_told}
use Rattle.table_reader.proofs.modules.imports.Goals as goal

pub returns-in-None-clause-effect : goal.returns-in-None-clause-effect
unfolding imports_at
returns-in-None-clause-effect c =
    told_absent c.args.tokens.now imports_events (λ x. after (if_present imports_rows x) c.args.context) None (accept_at kinds.Import) _ _ c.args.input refl (λ s. after_nothing c.args.context s) (sym c.accept.ensures.read ∙ ap (skipped c.args.tokens.now kinds.Import) c.in-None.is)

pub returns-in-Some-clause-effect : goal.returns-in-Some-clause-effect
returns-in-Some-clause-effect c =
    imports_told c.args.tokens.now c.args.context _ _ _ c.args.input c.in-Some.rest _ (sym c.accept.ensures.read ∙ ap (skipped c.args.tokens.now kinds.Import) c.in-Some.is) c.advance.ensures.stage c.imports_and_semicolon.ensures.effect
