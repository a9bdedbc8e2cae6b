-- The content of a line is added to the builder.
use Rattle.std.proofs.Common.{◌≡◌, ◌∙◌, ◌+◌, ℕ, List, Some, refl, sym, ap, subst}
use Rattle.cut_rules.specs.declared.line.Line.{Line}
use Rattle.cut_rules.specs.LineReading.{line_content, rule_line_of, selector_content}
use Rattle.cut_rules.specs.RuleLines.{RuleLine, Adds, Allow, IsPieceAt, Restricts, States}
use Rattle.cut_rules.specs.Rules.{BadLine}
use Rattle.cut_rules.specs.Names.{names_in}
use Rattle.cut_rules.proofs.LineLaws.{idle_says, line_takes}
use Rattle.cut_rules.proofs.FaultLaws.{bad_line, idle_line}
use Rattle.cut_rules.proofs.DraftLaws.{allowed_same, made, pairs_same, rules_same, stale_same, table_same}
use Rattle.cut_rules.proofs.builder.RulesBuilder.take.Goals as goal

-- the line of a piece states what was read
stated : (pieces : List (List ℕ)) (line : ℕ) (piece : List ℕ) (l : RuleLine) → IsPieceAt pieces line piece → rule_line_of piece ≡ Some l → States pieces line l
stated pieces line piece l at e = record { piece = piece; at = at; spelled = line_takes piece l e }

pub returns-then-is_empty_or_comment : goal.returns-then-is_empty_or_comment
returns-then-is_empty_or_comment c = λ pieces at t.
    let context = c.args.context.now in
    let net = context.net.now in
    let files = context.files.now in
    let sets = names_in context.names.now.sets.keys in
    let piece = c.args.piece.now in
    let idle = sym c.is_empty_or_comment.ensures ∙ c.if-is_empty_or_comment.true in
    let here : IsPieceAt pieces (t.place + 1) piece = subst (λ (n : ℕ). IsPieceAt pieces n piece) t.number at in
    let none : (l : RuleLine) → States pieces (t.place + 1) l → ⊥ = λ l. idle_says pieces (t.place + 1) piece l here idle in
    made net files sets pieces context.line (t.place + 1) t.number _ (idle_line net files pieces t.place context.line t.number t.built.sound piece at idle)
    (table_same net files sets pieces t.place c.args.self.now.table (λ s selector. none (Adds s selector)) t.built.table)
    (rules_same net files sets pieces t.place c.args.self.now.rules.items (λ kind x y. none (Restricts kind x y)) t.built.rules)
    (allowed_same net files sets pieces t.place c.args.self.now.allowed.items (λ m n. none (Allow m n)) t.built.allowed)
    (stale_same net files sets pieces t.place c.args.self.now.stale.items (λ m n is. none (Allow m n) is.0) t.built.stale)
    (pairs_same net files sets pieces t.place c.args.self.now.pairs (λ key. key.0.now) (λ key. key.1.now) (λ m n. none (Allow m n)) t.built.pairs)

pub returns-in-None : goal.returns-in-None
returns-in-None c = λ pieces at t.
    let context = c.args.context.now in (
      context.line,
      BadLine,
      bad_line context.net.now context.files.now pieces t.place context.line t.number t.built.sound c.args.piece.now at (sym c.is_empty_or_comment.ensures ∙ c.if-is_empty_or_comment.false) (sym c.in-None.ensures),
      refl,
    )

pub add-requires-clause-stated : goal.add-requires-clause-stated
add-requires-clause-stated c =
    let (pieces, at, t) = c.requires.present in
    (pieces, (t, stated pieces c.args.context.now.line c.args.piece.now (Adds c.in-Some-Adds.set.now (selector_content c.in-Some-Adds.selector)) at (sym c.in-Some-Adds.ensures ∙ ap (λ (l : Line). Some (line_content l)) c.in-Some-Adds.field-0-is)))

pub add_rule-requires : goal.add_rule-requires
add_rule-requires c =
    let (pieces, at, t) = c.requires.present in
    (pieces, (t, stated pieces c.args.context.now.line c.args.piece.now (Restricts c.in-Some-Restricts.kind c.in-Some-Restricts.first.now c.in-Some-Restricts.second.now) at (sym c.in-Some-Restricts.ensures ∙ ap (λ (l : Line). Some (line_content l)) c.in-Some-Restricts.field-0-is)))

pub allow-requires : goal.allow-requires
allow-requires c =
    let (pieces, at, t) = c.requires.present in
    (pieces, (t, stated pieces c.args.context.now.line c.args.piece.now (Allow c.in-Some-Allow.importer.now c.in-Some-Allow.imported.now) at (sym c.in-Some-Allow.ensures ∙ ap (λ (l : Line). Some (line_content l)) c.in-Some-Allow.field-0-is)))

pub returns-in-Some-Adds : goal.returns-in-Some-Adds
returns-in-Some-Adds c = λ pieces at t.
    c.add.ensures pieces (t, stated pieces c.args.context.now.line c.args.piece.now (Adds c.in-Some-Adds.set.now (selector_content c.in-Some-Adds.selector)) at (sym c.in-Some-Adds.ensures ∙ ap (λ (l : Line). Some (line_content l)) c.in-Some-Adds.field-0-is))

pub returns-in-Some-Restricts : goal.returns-in-Some-Restricts
returns-in-Some-Restricts c = λ pieces at t.
    c.add_rule.ensures pieces (t, stated pieces c.args.context.now.line c.args.piece.now (Restricts c.in-Some-Restricts.kind c.in-Some-Restricts.first.now c.in-Some-Restricts.second.now) at (sym c.in-Some-Restricts.ensures ∙ ap (λ (l : Line). Some (line_content l)) c.in-Some-Restricts.field-0-is))

pub returns-in-Some-Allow : goal.returns-in-Some-Allow
returns-in-Some-Allow c = λ pieces at t.
    c.allow.ensures pieces (t, stated pieces c.args.context.now.line c.args.piece.now (Allow c.in-Some-Allow.importer.now c.in-Some-Allow.imported.now) at (sym c.in-Some-Allow.ensures ∙ ap (λ (l : Line). Some (line_content l)) c.in-Some-Allow.field-0-is))
