-- A line that adds modules to a set.
use Rattle.std.proofs.Common.{◌∙◌, ◌+◌, ◌≤◌, ℕ, Err, refl, sym, ap, subst, arith}
use Rattle.std.proofs.lemmas.Bool.{false≢true}
use Rattle.std.proofs.lemmas.Result.{err_from_is_err_and}
use Rattle.cut_rules.specs.declared.fault.RulesFault.{RulesFault}
use Rattle.cut_rules.specs.LineReading.{selector_content}
use Rattle.cut_rules.specs.RuleLines.{Adds, Allow, Restricts, States}
use Rattle.cut_rules.specs.Rules.{SetIsModule, TooMany, empty_selection_fault}
use Rattle.cut_rules.specs.Names.{names_in}
use Rattle.cut_rules.proofs.LineLaws.{says_one}
use Rattle.cut_rules.proofs.AddLaws.{empty, many, right}
use Rattle.cut_rules.proofs.FaultLaws.{empty_first, right_line, set_is_module, unless, unless_map, wrong_line}
use Rattle.cut_rules.proofs.Numbers.{no_module, within}
use Rattle.cut_rules.proofs.DraftLaws.{allowed_same, made, pairs_same, refused, rules_same, stale_same, table_added}
use Rattle.cut_rules.proofs.builder.RulesBuilder.add.Goals as goal

pub set_index-requires : goal.set_index-requires
set_index-requires c = let (pieces, (t, says)) = c.requires.stated in (pieces, t.names)

pub add-requires-clause-set : goal.add-requires-clause-set
add-requires-clause-set c = let (pieces, (t, says)) = c.requires.stated in within (names_in c.args.context.now.names.now.sets.keys) c.args.set.now c.in_ok-place.place _ c.in_ok-place.ensures.right.1 t.built.table.size

pub add-requires-clause-table : goal.add-requires-clause-table
add-requires-clause-table c = let (pieces, (t, says)) = c.requires.stated in record { sized = t.built.table.sized; names = t.names.modules }

pub returns-in_err-place : goal.returns-in_err-place
returns-in_err-place c = λ pieces (t, says).
    let context = c.args.context.now in
    let net = context.net.now in
    let files = context.files.now in
    let s = c.args.set.now in
    let selector = selector_content c.args.selector in
    let fault = c.in_err-place.field-0.0 in
    let given = err_from_is_err_and c.from_residual.result c.from_residual.ensures.1 in
    refused net files (names_in context.names.now.sets.keys) pieces context.line fault c.from_residual.result _ (given.1 ∙ ap (λ (e : RulesFault). Err e) given.2)
    (unless_map fault (λ (is_module, is). (
      context.line,
      SetIsModule s,
      wrong_line net files pieces t.place context.line t.number t.built.sound (Adds s selector) (SetIsModule s) says (refl, is_module) (set_is_module net files pieces context.line s selector),
      is,
    )) c.in_err-place.ensures.wrong)

pub returns-then-not-branch : goal.returns-then-not-branch
returns-then-not-branch c = λ pieces (t, says).
    let context = c.args.context.now in
    let net = context.net.now in
    let files = context.files.now in
    let s = c.args.set.now in
    let selector = selector_content c.args.selector in
    let apart = no_module net s c.in_ok-place.ensures.right.0 in
    let is = c.in_ok-add.ensures in
    unless c.in_ok-empty_selection_fault.field-0 (
      context.line,
      empty_selection_fault s selector,
      wrong_line net files pieces t.place context.line t.number t.built.sound (Adds s selector) (empty_selection_fault s selector) says
          (empty net files (names_in context.names.now.sets.keys) pieces t.place context.line t.number c.args.self.now.table c.add.new.self t.built.table s apart selector (λ any. let e = is.any_is.1 any in false≢true (sym c.if-not-branch.true ∙ e))) (empty_first net files pieces context.line s selector apart),
      c.in_ok-empty_selection_fault.ensures,
    )

pub returns-then-self-gt-MOST_LINES : goal.returns-then-self-gt-MOST_LINES
returns-then-self-gt-MOST_LINES c = λ pieces (t, says).
    let context = c.args.context.now in
    let net = context.net.now in
    let files = context.files.now in
    let s = c.args.set.now in
    let selector = selector_content c.args.selector in
    let apart = no_module net s c.in_ok-place.ensures.right.0 in
    let wrong = many net files (names_in context.names.now.sets.keys) pieces t.place context.line t.number c.args.self.now.table c.add.new.self t.built.table s apart c.in_ok-place.place selector c.in_ok-add.field-0 c.in_ok-add.ensures c.if-not-branch.false (omega arith) in (
      context.line,
      TooMany,
      wrong_line net files pieces t.place context.line t.number t.built.sound (Adds s selector) TooMany says wrong.0 wrong.1,
      refl,
    )

pub returns : goal.returns
returns c = λ pieces (t, says).
    let context = c.args.context.now in
    let net = context.net.now in
    let files = context.files.now in
    let sets = names_in context.names.now.sets.keys in
    let s = c.args.set.now in
    let selector = selector_content c.args.selector in
    let apart = no_module net s c.in_ok-place.ensures.right.0 in
    let few : c.add.new.self.patterns ≤ 4096 = omega arith in
    let here : States pieces (t.place + 1) (Adds s selector) = subst (λ (n : ℕ). States pieces n (Adds s selector)) t.number says in
    made net files sets pieces context.line (t.place + 1) t.number _
    (right_line net files pieces t.place context.line t.number t.built.sound (Adds s selector) says
    (right net files sets pieces t.place context.line t.number c.args.self.now.table c.add.new.self t.built.table s apart c.in_ok-place.place selector c.in_ok-add.field-0 c.in_ok-add.ensures c.if-not-branch.false few))
    (table_added net files sets pieces t.place c.args.self.now.table c.add.new.self s c.in_ok-place.place selector c.in_ok-add.field-0 here c.in_ok-place.ensures.right c.in_ok-add.ensures few t.built.table)
    (rules_same net files sets pieces t.place c.args.self.now.rules.items (λ kind x y also. let e = says_one pieces (t.place + 1) (Restricts kind x y) (Adds s selector) also here in cc) t.built.rules)
    (allowed_same net files sets pieces t.place c.args.self.now.allowed.items (λ m n also. let e = says_one pieces (t.place + 1) (Allow m n) (Adds s selector) also here in cc) t.built.allowed)
    (stale_same net files sets pieces t.place c.args.self.now.stale.items (λ m n also. let e = says_one pieces (t.place + 1) (Allow m n) (Adds s selector) also.0 here in cc) t.built.stale)
    (pairs_same net files sets pieces t.place c.args.self.now.pairs (λ key. key.0.now) (λ key. key.1.now) (λ m n also. let e = says_one pieces (t.place + 1) (Allow m n) (Adds s selector) also here in cc) t.built.pairs)
