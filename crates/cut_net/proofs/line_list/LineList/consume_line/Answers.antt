use Rattle.std.proofs.Common.{subst, sym}
use Rattle.std.specs.Prelude.{List}
use Rattle.std.proofs.lemmas.Result.{IfOk-weaker, IfErr-weaker}
use Rattle.cut_net.specs.NetList.{IsList}
use Rattle.cut_net.specs.NetReading.{line_content}
use Rattle.cut_net.specs.NetText.{NetLine}
use Rattle.cut_net.proofs.Ahead.{line_goes_on, line_repeats}
use Rattle.cut_net.proofs.line_list.LineList.consume_line.Goals as goal
use Rattle.cut_net.proofs.line_list.LineList.consume_line.Goals.{else-near-text-via-then-near-text+else-not-has_distinct_imports, else-near-text-via-else-near-text}

pub returns-in-Ok-clause-goes_on : goal.returns-in-Ok-clause-goes_on
returns-in-Ok-clause-goes_on c before h =
    let good = c.in-Some-parse_first_line_within.ensures.good in
    line_goes_on c.args.text.now c.in-Some-parse_first_line_within.rest.now before (line_content c.in-Some-parse_first_line_within.line) c.add.new.self good c.in-Some-parse_first_line_within.ensures.text (c.in-Ok.ensures.listed before h good)

pub returns-in-Err-clause-twice : goal.returns-in-Err-clause-twice
returns-in-Err-clause-twice c is before h =
    let good = c.in-Some-parse_first_line_within.ensures.good in
    line_repeats c.args.text.now c.in-Some-parse_first_line_within.rest.now before (line_content c.in-Some-parse_first_line_within.line) c.add.new.self good c.in-Some-parse_first_line_within.ensures.text (c.in-Err.ensures.twice is before h)

pub returns-clause-goes_on : goal.returns-clause-goes_on
returns-clause-goes_on c = IfOk-weaker c.consume_first.result _ _ (λ rest goes before was. goes before (kept before was)) c.consume_first.ensures.goes_on
  where
    kept : (before : List NetLine) → IsList before c.args.self.now → IsList before c.else-near-text.self
    kept before was = elim c.else-near-text.branch [
      | else-near-text-via-then-near-text+else-not-has_distinct_imports w ↦ subst (IsList before) (sym w.self-is) (w.has_distinct_imports.ensures before was)
      | else-near-text-via-else-near-text w ↦ subst (IsList before) (sym w.self-is) was
    ]

pub returns-clause-twice : goal.returns-clause-twice
returns-clause-twice c = IfErr-weaker c.consume_first.result _ _ (λ stop changes is before was. changes is before (kept before was)) c.consume_first.ensures.twice
  where
    kept : (before : List NetLine) → IsList before c.args.self.now → IsList before c.else-near-text.self
    kept before was = elim c.else-near-text.branch [
      | else-near-text-via-then-near-text+else-not-has_distinct_imports w ↦ subst (IsList before) (sym w.self-is) (w.has_distinct_imports.ensures before was)
      | else-near-text-via-else-near-text w ↦ subst (IsList before) (sym w.self-is) was
    ]
