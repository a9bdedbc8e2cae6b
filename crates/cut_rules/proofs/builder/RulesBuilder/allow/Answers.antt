-- A line that allows an import.
use Rattle.std.proofs.Common.{◌≡◌, ◌∙◌, ◌+◌, ℕ, Bool, true, false, not, List, Some, refl, sym, ap₂, subst, arith}
use Rattle.std.proofs.lemmas.Bool.{false≢true}
use Rattle.cut_net.proofs.Noting.{absent_is}
use Rattle.cut_rules.specs.RuleLines.{Adds, Allow, Restricts, States}
use Rattle.cut_rules.specs.Rules.{TwiceAllowed}
use Rattle.cut_rules.specs.Builders.{AreStale}
use Rattle.cut_rules.specs.Names.{names_in}
use Rattle.cut_rules.proofs.LineLaws.{says_one}
use Rattle.cut_rules.proofs.FaultLaws.{allow_right, right_line, twice_first, wrong_line}
use Rattle.cut_rules.proofs.PairLaws.{pairs_added}
use Rattle.cut_rules.proofs.DraftLaws.{allowed_added, allowed_other, fresh, made, rules_same, stale_added, stale_same, table_same}
use Rattle.cut_rules.proofs.builder.RulesBuilder.allow.Goals as goal

-- whether a key is new
is_new : (added seen : Bool) → added ≡ not seen → added ≡ true → seen ≡ false
is_new added true e f = absurd (false≢true (sym e ∙ f))
is_new added false e f = refl

is_old : (added seen : Bool) → added ≡ not seen → added ≡ false → seen ≡ true
is_old added true e f = refl
is_old added false e f = absurd (false≢true (sym f ∙ e))

pub returns-then-not-branch : goal.returns-then-not-branch
returns-then-not-branch c = λ pieces (t, says).
    let context = c.args.context.now in
    let net = context.net.now in
    let files = context.files.now in
    let m = c.args.importer.now in
    let n = c.args.imported.now in
    let (before, le, earlier) = (t.built.pairs m n).0 (is_old c.in_ok-insert.field-0 _ c.in_ok-insert.ensures.added c.if-not-branch.true) in
    let number = t.number in (
      context.line,
      TwiceAllowed m n,
      wrong_line net files pieces t.place context.line t.number t.built.sound (Allow m n) (TwiceAllowed m n) says (refl, refl, before, omega arith, earlier) (twice_first net files pieces context.line m n),
      ap₂ (λ (a b : List ℕ). Some (context.line, TwiceAllowed a b)) c.in_ok-from_str.ensures.ok c.in_ok-from_str-2.ensures.ok,
    )

pub returns-in_default : goal.returns-in_default
returns-in_default c = λ pieces (t, says).
    let context = c.args.context.now in
    let net = context.net.now in
    let files = context.files.now in
    let sets = names_in context.names.now.sets.keys in
    let m = c.args.importer.now in
    let n = c.args.imported.now in
    let here : States pieces (t.place + 1) (Allow m n) = subst (λ (l : ℕ). States pieces l (Allow m n)) t.number says in
    let lacks = absent_is c.find_import_number.result c.find_import_number.ensures.none c.in_default.not-Some in
    let unseen = is_new c.in_ok-insert.field-0 _ c.in_ok-insert.ensures.added c.if-not-branch.false in
    let number = t.number in
    made net files sets pieces context.line (t.place + 1) t.number _
    (right_line net files pieces t.place context.line t.number t.built.sound (Allow m n) says
    (allow_right net files pieces context.line m n (λ before less also. let seen = (t.built.pairs m n).1 (before, omega arith, also) in false≢true (sym unseen ∙ seen))))
    (table_same net files sets pieces t.place c.args.self.now.table (λ s selector also. let e = says_one pieces (t.place + 1) (Adds s selector) (Allow m n) also here in cc) t.built.table)
    (rules_same net files sets pieces t.place c.args.self.now.rules.items (λ kind x y also. let e = says_one pieces (t.place + 1) (Restricts kind x y) (Allow m n) also here in cc) t.built.rules)
    (allowed_other net files sets pieces t.place m n here c.args.self.now.allowed.items lacks t.built.allowed)
    (subst (AreStale net pieces (t.place + 1)) (sym c.in_ok-push.ensures.items)
    (stale_added net files sets pieces t.place m n here c.args.self.now.stale.items (record { line = context.line; importer = c.args.importer; imported = c.args.imported }) t.number refl refl lacks t.built.stale))
    (pairs_added (λ key. key.0.now) (λ key. key.1.now) pieces t.place c.args.self.now.pairs c.insert.new.self (c.args.importer, c.args.imported) c.in_ok-insert.ensures.keys here t.built.pairs)

pub returns : goal.returns
returns c = λ pieces (t, says).
    let context = c.args.context.now in
    let net = context.net.now in
    let files = context.files.now in
    let sets = names_in context.names.now.sets.keys in
    let m = c.args.importer.now in
    let n = c.args.imported.now in
    let here : States pieces (t.place + 1) (Allow m n) = subst (λ (l : ℕ). States pieces l (Allow m n)) t.number says in
    let found = c.in-Some.ensures.found in
    let unseen = is_new c.in_ok-insert.field-0 _ c.in_ok-insert.ensures.added c.if-not-branch.false in
    let number = t.number in
    made net files sets pieces context.line (t.place + 1) t.number _
    (right_line net files pieces t.place context.line t.number t.built.sound (Allow m n) says
    (allow_right net files pieces context.line m n (λ before less also. let seen = (t.built.pairs m n).1 (before, omega arith, also) in false≢true (sym unseen ∙ seen))))
    (table_same net files sets pieces t.place c.args.self.now.table (λ s selector also. let e = says_one pieces (t.place + 1) (Adds s selector) (Allow m n) also here in cc) t.built.table)
    (rules_same net files sets pieces t.place c.args.self.now.rules.items (λ kind x y also. let e = says_one pieces (t.place + 1) (Restricts kind x y) (Allow m n) also here in cc) t.built.rules)
    (allowed_added net files sets pieces t.place m n here c.invariants.ensures.network c.args.self.now.allowed.items c.in-Some.number found.0 found.1 t.built.allowed)
    (stale_same net files sets pieces t.place c.args.self.now.stale.items (fresh net files sets pieces t.place m n here c.in-Some.number found.0 found.1) t.built.stale)
    (pairs_added (λ key. key.0.now) (λ key. key.1.now) pieces t.place c.args.self.now.pairs c.insert.new.self (c.args.importer, c.args.imported) c.in_ok-insert.ensures.keys here t.built.pairs)
