-- A line that is a rule.
use Rattle.std.proofs.Common.{◌∙◌, ◌+◌, ◌<◌, ◌≤◌, ℕ, length, map, Err, inl, inr, sym, ap, subst, refl, arith}
use Rattle.std.proofs.lemmas.List.{length-map}
use Rattle.std.proofs.lemmas.Result.{err_from_is_err_and}
use Rattle.cut_rules.specs.declared.fault.RulesFault.{RulesFault}
use Rattle.cut_rules.specs.declared.rule.Rule.{Rule}
use Rattle.cut_rules.specs.RuleLines.{Adds, Allow, Restricts, States}
use Rattle.cut_rules.specs.Rules.{NoSuchModule, TooMany, IsRule}
use Rattle.cut_rules.specs.Builders.{AreRules}
use Rattle.cut_rules.specs.Names.{names_in}
use Rattle.cut_rules.proofs.LineLaws.{says_one}
use Rattle.cut_rules.proofs.LineLists.{few_before, many_before, rule_lines, rules_few}
use Rattle.cut_rules.proofs.FaultLaws.{right_line, rule_many, rule_right, unknown_first, unless_map, wrong_line}
use Rattle.cut_rules.proofs.FaultLaws.{known_name, unknown_name}
use Rattle.cut_rules.proofs.DraftLaws.{allowed_same, made, pairs_same, refused, rules_added, stale_same, table_same}
use Rattle.cut_rules.proofs.builder.RulesBuilder.add_rule.Goals as goal

pub number_of-requires : goal.number_of-requires
number_of-requires c = let (pieces, (t, says)) = c.requires in (pieces, t.names)

pub number_of-requires-2 : goal.number_of-requires-2
number_of-requires-2 c = let (pieces, (t, says)) = c.requires in (pieces, t.names)

pub returns-in_err-first : goal.returns-in_err-first
returns-in_err-first c = λ pieces (t, says).
    let context = c.args.context.now in
    let net = context.net.now in
    let files = context.files.now in
    let fault = c.in_err-first.field-0.0 in
    let x = c.args.first.now in
    let y = c.args.second.now in
    let noted = t.names.sets.noted context.line c.args.kind x y (rules_few net (names_in context.names.now.sets.keys) pieces t.place context.line c.args.self.now.rules.items t.built.rules t.number) says in
    let given = err_from_is_err_and c.from_residual.result c.from_residual.ensures.1 in
    refused net files (names_in context.names.now.sets.keys) pieces context.line fault c.from_residual.result _ (given.1 ∙ ap (λ (e : RulesFault). Err e) given.2)
    (unless_map fault (λ (is, none). (
      context.line,
      NoSuchModule x,
      wrong_line net files pieces t.place context.line t.number t.built.sound (Restricts c.args.kind x y) (NoSuchModule x) says (inl (refl, unknown_name net files pieces x (none pieces t.names noted.0))) (unknown_first net files pieces context.line c.args.kind x x y),
      is,
    )) c.in_err-first.ensures.none)

pub returns-in_err-second : goal.returns-in_err-second
returns-in_err-second c = λ pieces (t, says).
    let context = c.args.context.now in
    let net = context.net.now in
    let files = context.files.now in
    let fault = c.in_err-second.field-0.0 in
    let x = c.args.first.now in
    let y = c.args.second.now in
    let noted = t.names.sets.noted context.line c.args.kind x y (rules_few net (names_in context.names.now.sets.keys) pieces t.place context.line c.args.self.now.rules.items t.built.rules t.number) says in
    let given = err_from_is_err_and c.from_residual-in_err-second.result c.from_residual-in_err-second.ensures.1 in
    refused net files (names_in context.names.now.sets.keys) pieces context.line fault c.from_residual-in_err-second.result _ (given.1 ∙ ap (λ (e : RulesFault). Err e) given.2)
    (unless_map fault (λ (is, none). (
      context.line,
      NoSuchModule y,
      wrong_line net files pieces t.place context.line t.number t.built.sound (Restricts c.args.kind x y) (NoSuchModule y) says
          (inr (refl, unknown_name net files pieces y (none pieces t.names noted.1), known_name net files pieces x (c.in_ok-first.ensures.known pieces t.names))) (unknown_first net files pieces context.line c.args.kind y x y),
      is,
    )) c.in_err-second.ensures.none)

pub returns-then-len-ge-MOST_LINES : goal.returns-then-len-ge-MOST_LINES
returns-then-len-ge-MOST_LINES c = λ pieces (t, says).
    let context = c.args.context.now in
    let net = context.net.now in
    let files = context.files.now in
    let sets = names_in context.names.now.sets.keys in
    let x = c.args.first.now in
    let y = c.args.second.now in
    let rules = c.args.self.now.rules.items in
    let lines = map (λ (r : Rule). r.line) rules in
    let long = length-map rules (λ (r : Rule). r.line) in
    let few = t.built.rules.few in
    let many : 4096 ≤ length rules = (let e = c.len.ensures in let le = c.if-len-ge-MOST_LINES.true in omega arith) in
    let before = many_before (IsRule pieces) t.place lines (rule_lines net sets pieces t.place rules t.built.rules) context.line t.number (omega arith) (omega arith) in (
      context.line,
      TooMany,
      wrong_line net files pieces t.place context.line t.number t.built.sound (Restricts c.args.kind x y) TooMany says before
          (rule_many net files pieces context.line c.args.kind x y (known_name net files pieces x (c.in_ok-first.ensures.known pieces t.names)) (known_name net files pieces y (c.in_ok-second.ensures.known pieces t.names))),
      refl,
    )

pub returns : goal.returns
returns c = λ pieces (t, says).
    let context = c.args.context.now in
    let net = context.net.now in
    let files = context.files.now in
    let sets = names_in context.names.now.sets.keys in
    let kind = c.args.kind in
    let x = c.args.first.now in
    let y = c.args.second.now in
    let rules = c.args.self.now.rules.items in
    let rule : Rule = record { line = context.line; kind = kind; first = c.in_ok-first.first; second = c.in_ok-second.second } in
    let long = length-map rules (λ (r : Rule). r.line) in
    let few : length rules < 4096 = (let e = c.len.ensures in let lt = c.if-len-ge-MOST_LINES.false in omega arith) in
    let here : States pieces (t.place + 1) (Restricts kind x y) = subst (λ (n : ℕ). States pieces n (Restricts kind x y)) t.number says in
    made net files sets pieces context.line (t.place + 1) t.number _
    (right_line net files pieces t.place context.line t.number t.built.sound (Restricts kind x y) says
    (rule_right net files pieces context.line kind x y (known_name net files pieces x (c.in_ok-first.ensures.known pieces t.names)) (known_name net files pieces y (c.in_ok-second.ensures.known pieces t.names))
    (few_before (IsRule pieces) t.place (map (λ (r : Rule). r.line) rules) (rule_lines net sets pieces t.place rules t.built.rules) context.line t.number (omega arith))))
    (table_same net files sets pieces t.place c.args.self.now.table (λ s selector also. let e = says_one pieces (t.place + 1) (Adds s selector) (Restricts kind x y) also here in cc) t.built.table)
    (subst (AreRules net sets pieces (t.place + 1)) (sym c.in_ok-push.ensures.items) (rules_added net files sets pieces t.place rules rule x y here t.number c.in_ok-first.ensures.found c.in_ok-second.ensures.found few t.built.rules))
    (allowed_same net files sets pieces t.place c.args.self.now.allowed.items (λ m n also. let e = says_one pieces (t.place + 1) (Allow m n) (Restricts kind x y) also here in cc) t.built.allowed)
    (stale_same net files sets pieces t.place c.args.self.now.stale.items (λ m n also. let e = says_one pieces (t.place + 1) (Allow m n) (Restricts kind x y) also.0 here in cc) t.built.stale)
    (pairs_same net files sets pieces t.place c.args.self.now.pairs (λ key. key.0.now) (λ key. key.1.now) (λ m n also. let e = says_one pieces (t.place + 1) (Allow m n) (Restricts kind x y) also here in cc) t.built.pairs)
