use Rattle.std.proofs.Common.{[], ◌∷◌, Ok, sym, ap, ◌∙◌, arith}
use Rattle.ob_tree.specs.declared.expression.Literal.TheVariants as literals
use Rattle.ob_tree.specs.declared.token.Leaf.TheVariants as leafs
use Rattle.ob_tree.specs.declared.statement.Label.TheVariants as labels
use Rattle.ob_tree.specs.TreeEvents.{Value}
use Rattle.ob_tree.proofs.StatementLayers as events
use Rattle.table_rules.proofs.StatementLayers as effect
use Rattle.ob_grammar.specs.declared.cursor.Cursor.{Cursor}
use Rattle.ob_grammar.specs.ParsesAs.{remaining}
use Rattle.ob_grammar.specs.ReadStatements.{case_label_at}
use Rattle.table_reader.proofs.LabelTrees.{label_seen, value_told, name_told}
use Rattle.ob_grammar.proofs.Lookaheads.{leaf_stands, value_stands}
use Rattle.table_reader.proofs.labels.label.Goals as goal

pub returns-in-Some-Name-default-clause-effect : goal.returns-in-Some-Name-default-clause-effect
returns-in-Some-Name-default-clause-effect c =
    let e = leaf_stands c.args.tokens.now _ c.args.input c.in-Some-Name-default.rest _ (leafs.Name c.in-Some-Name-default.number) c.in-Some-Name-default.is c.in-Some-Name-default.field-0-0-is c.next.ensures.read in
    name_told c.args.tokens.now c.args.context _ _ _ _ _ (label_seen _ _ e) c.qualident_after.ensures.effect

pub returns-in-Some-Value-Integer-default-default-clause-effect : goal.returns-in-Some-Value-Integer-default-default-clause-effect
returns-in-Some-Value-Integer-default-default-clause-effect c =
    let at = c.in-Some-Value-Integer-default-default in
    let e = value_stands c.args.tokens.now _ c.args.input at.rest _ _ literals.Integer at.field-0-0-1 at.is at.field-0-0-is at.field-0-0-0-is c.next.ensures.read in
    value_told c.args.tokens.now c.args.context _ _ c.advance_token.result (case_label_at (remaining c.args.tokens.now c.args.input)) (Value literals.Integer at.field-0-0-1 ∷ []) (labels.Integer at.field-0-0-1)
    (label_seen _ _ e ∙ ap (λ (i : Cursor). Ok (Value literals.Integer at.field-0-0-1 ∷ [], remaining c.args.tokens.now i)) (sym c.advance_token.ensures.cursor))
    (events.integer_label at.field-0-0-1) (effect.integer_label at.field-0-0-1) c.advance_token.ensures.stage

pub returns-in-Some-Value-Text-default-default-clause-effect : goal.returns-in-Some-Value-Text-default-default-clause-effect
returns-in-Some-Value-Text-default-default-clause-effect c =
    let at = c.in-Some-Value-Text-default-default in
    let advanced = c.advance_token-in-Some-Value-Text-default-default in
    let e = value_stands c.args.tokens.now _ c.args.input at.rest _ _ literals.Text at.field-0-0-1 at.is at.field-0-0-is at.field-0-0-0-is c.next.ensures.read in
    value_told c.args.tokens.now c.args.context _ _ advanced.result (case_label_at (remaining c.args.tokens.now c.args.input)) (Value literals.Text at.field-0-0-1 ∷ []) (labels.Text at.field-0-0-1)
    (label_seen _ _ e ∙ ap (λ (i : Cursor). Ok (Value literals.Text at.field-0-0-1 ∷ [], remaining c.args.tokens.now i)) (sym advanced.ensures.cursor))
    (events.text_label at.field-0-0-1) (effect.text_label at.field-0-0-1) advanced.ensures.stage

pub returns-in_default-clause-effect : goal.returns-in_default-clause-effect
unfolding case_label_at
returns-in_default-clause-effect c = grind arith

pub returns-in_default-2-clause-effect : goal.returns-in_default-2-clause-effect
unfolding case_label_at
returns-in_default-2-clause-effect c = grind arith

pub returns-in_default-3-clause-effect : goal.returns-in_default-3-clause-effect
unfolding case_label_at
returns-in_default-3-clause-effect c = grind arith
