use Rattle.std.proofs.Common.{◌≡◌, ◌+◌, ◌∙◌, ◌++◌, [], List, Some, length, get_or, refl, sym, ap, subst, arith, append-nil}
use Rattle.std.specs.Prelude.{Contains, slice_get}
use Rattle.std.specs.List.{flat_map}
use Rattle.std.specs.String.{string_bytes}
use Rattle.byte_sink.specs.Pieces.{WritesAllBut}
use Rattle.cut_rules.specs.declared.verdict.Lines.{Lines}
use Rattle.cut_rules.specs.Judged.{AreViolationsBelow}
use Rattle.std.proofs.lemmas.List.Elements.{Contains-get_or}
use Rattle.std.proofs.lemmas.Option.{slice_get-get_or}
use Rattle.std.proofs.lemmas.Result.{err_from_is_err_and}
use Rattle.texts.specs.Places.{writer_style}
use Rattle.cut_rules.specs.declared.rule.Rule.{Rule}
use Rattle.cut_rules.specs.Verdicts.{violation_line}
use Rattle.cut_rules.proofs.Judging.{repeated_rule}
use Rattle.cut_rules.proofs.RuleOrder.{no_rule, bound_next, bound_start, gap, none_of_rule, past_all}
use Rattle.cut_rules.proofs.Violations.{all_below, any_more, below_more, first_of_all, none_below}
use Rattle.cut_rules.proofs.Writing.{front_more_of, front_of_list, puts_more, puts_none}
use Rattle.cut_rules.proofs.verdict.RuleChecker.write_rules.Goals as goal
use Rattle.cut_rules.proofs.verdict.RuleChecker.write_rules.Goals.{then-not-is_repeated+in_ok-any, else-not-is_repeated}

pub loop-rule-init : goal.loop-rule-init
loop-rule-init g c = record {
  style = refl;
  written = λ files pieces elements. (
    0,
    [],
    bound_start c.args.self.now.rules.now.rules.items,
    none_below c.args.self.now.net.now files pieces,
    refl,
    puts_none (violation_line (writer_style c.args.lines.now.places) c.args.self.now.net.now c.args.self.now.sites.now) (string_bytes c.args.lines.now.text) _,
  );
  failures = refl;
}

pub returns-in_err-any-clause-prefix : goal.returns-in_err-any-clause-prefix
returns-in_err-any-clause-prefix g c =
    let p = err_from_is_err_and c.from_residual.result c.from_residual.ensures.1 in
    rw p.1 (λ files pieces elements whole are_whole.
    let net = c.args.self.now.net.now in
    let rules = c.args.self.now.rules.now in
    let sites = c.args.self.now.sites.now in
    let items = c.as_slice-rule-items.result.now in
    let k = c.loop-rule.rule-index in
    let r = get_or items k no_rule in
    let at : slice_get rules.rules.items k ≡ Some r = subst (λ (l : List Rule). slice_get l k ≡ Some r) c.as_slice-rule-items.ensures.value (slice_get-get_or items k no_rule c.loop-rule-test.true) in
    let (bound, first, is_bound, below, any, writes) = c.loop-rule.invariant.written files pieces elements in
    let (high, more, second, front) = c.in_err-any.ensures.prefix files pieces elements in
    let above = is_bound.after k r (omega arith) at in
    let (rest, e) = first_of_all net files pieces bound r.line high first more whole (gap net files pieces rules elements k bound r at is_bound) above below second are_whole in
    front_of_list (violation_line (writer_style c.args.lines.now.places) net sites) (string_bytes c.args.lines.now.text) _ _ (first ++ more) rest whole e
    (front_more_of net sites (writer_style c.args.lines.now.places) (writer_style c.loop-rule.lines.places) c.loop-rule.invariant.style (string_bytes c.args.lines.now.text) _ _ _ first more (string_bytes c.loop-rule.lines.text) writes front))

pub loop-rule-preserved : goal.loop-rule-preserved
loop-rule-preserved g c =
    let net = c.args.self.now.net.now in
    let rules = c.args.self.now.rules.now in
    let sites = c.args.self.now.sites.now in
    let items = c.as_slice-rule-items.result.now in
    let k = c.loop-rule.rule-index in
    let lt = c.loop-rule-test.true in
    let r = get_or items k no_rule in
    let value = c.as_slice-rule-items.ensures.value in
    let at : slice_get rules.rules.items k ≡ Some r = subst (λ (l : List Rule). slice_get l k ≡ Some r) value (slice_get-get_or items k no_rule lt) in
    let style = writer_style c.args.lines.now.places in
    let text = string_bytes c.args.lines.now.text in
    let inv = c.loop-rule.invariant in
    elim c.if-not-is_repeated.branch [
      | then-not-is_repeated+in_ok-any w ↦ record {
        style = ap (λ (l : Lines). writer_style l.places) w.lines-is ∙ w.in_ok-any.ensures.style ∙ inv.style;
        written = λ files pieces elements.
            let (bound, first, is_bound, below, any, writes) = inv.written files pieces elements in
            let (more, second, found, gathered) = w.in_ok-any.ensures.written files pieces elements in
            let above = is_bound.after k r (omega arith) at in
            let both = puts_more net sites style (writer_style c.loop-rule.lines.places) inv.style text _ _ _ first more (string_bytes c.loop-rule.lines.text) (string_bytes w.write_rule.new.lines.text) writes gathered in (
              r.line + 1,
              first ++ more,
              bound_next rules.rules.items elements.rules.ascending k bound r at is_bound,
              below_more net files pieces bound r.line first more (gap net files pieces rules elements k bound r at is_bound) above below second,
              w.any-is ∙ any_more first more _ _ any found,
              subst (λ (l : Lines). WritesAllBut (g.S.Sink.taken c.args.sink.now) (g.S.Sink.taken c.if-not-is_repeated.sink) (text ++ flat_map (violation_line style net sites) (first ++ more)) (string_bytes l.text)) (sym w.lines-is)
                  (subst (λ (s : g.row.S.Denot). WritesAllBut (g.S.Sink.taken c.args.sink.now) (g.S.Sink.taken s) (text ++ flat_map (violation_line style net sites) (first ++ more)) (string_bytes w.write_rule.new.lines.text)) (sym w.sink-is) both),
            );
        failures = ap g.S.Sink.failures w.sink-is ∙ w.in_ok-any.ensures.failures ∙ inv.failures;
      }
      | else-not-is_repeated w ↦ record {
        style = ap (λ (l : Lines). writer_style l.places) w.lines-is ∙ inv.style;
        written = λ files pieces elements.
            let (bound, first, is_bound, below, any, writes) = inv.written files pieces elements in
            let above = is_bound.after k r (omega arith) at in
            let has : Contains rules.rules.items r = subst (λ (l : List Rule). Contains l r) value (Contains-get_or items k no_rule lt) in
            let none = none_of_rule net files pieces r.line (length net.imports) (λ j path breaks. repeated_rule net c.invariants.ensures.network files pieces rules elements r has (w.if-not-is_repeated.ensures.0 refl) _ _ path breaks.forbidden) in
            let more = below_more net files pieces bound r.line first [] (gap net files pieces rules elements k bound r at is_bound) above below none in (
              r.line + 1,
              first,
              bound_next rules.rules.items elements.rules.ascending k bound r at is_bound,
              subst (AreViolationsBelow net files pieces (r.line + 1)) (append-nil first) more,
              w.any-is ∙ any,
              subst (λ (l : Lines). WritesAllBut (g.S.Sink.taken c.args.sink.now) (g.S.Sink.taken c.if-not-is_repeated.sink) (text ++ flat_map (violation_line style net sites) first) (string_bytes l.text)) (sym w.lines-is)
                  (subst (λ (s : g.row.S.Denot). WritesAllBut (g.S.Sink.taken c.args.sink.now) (g.S.Sink.taken s) (text ++ flat_map (violation_line style net sites) first) (string_bytes c.loop-rule.lines.text)) (sym w.sink-is) writes),
            );
        failures = ap g.S.Sink.failures w.sink-is ∙ inv.failures;
      }
    ]

pub returns-clause-written : goal.returns-clause-written
returns-clause-written g c = λ files pieces elements.
    let list = c.args.self.now.rules.now.rules.items in
    let value = c.as_slice-rule-items.ensures.value in
    let size = ap length value in
    let past = c.loop-rule-test.false in
    let (bound, first, is_bound, below, any, writes) = c.loop-rule.invariant.written files pieces elements in
    (first, all_below c.args.self.now.net.now files pieces bound first (past_all c.args.self.now.net.now files pieces c.args.self.now.rules.now elements c.loop-rule.rule-index bound (omega arith) is_bound) below, any, writes)
