use Rattle.std.proofs.Common.{◌+◌, ◌∙◌, ℕ, sym, ap, arith}
use Rattle.std.proofs.lemmas.Result.{err_from_is_err_and}
use Rattle.cut_report.specs.Builders.{builder_state_of}
use Rattle.cut_report.proofs.TextSteps.{cut_length, fails, goes_on, told_at_end}
use Rattle.cut_report.proofs.reader.read_lines.Goals as goal

pub loop-line-preserved : goal.loop-line-preserved
loop-line-preserved c =
    let (text, e, claim) = c.in-Some.ensures.line in
    let p = goes_on c.args.net.now c.args.bytes.now (builder_state_of c.loop-line.builder) (builder_state_of c.in_ok-builder.builder) c.loop-line.rest.now text c.in-Some.after.now c.requires c.loop-line.invariant.prefix e (c.in_ok-builder.ensures text claim) in
    record {
      prefix = p.0;
      count = ap (λ (n : ℕ). n + 1) c.loop-line.invariant.count ∙ sym p.1;
      room = omega (arith, cut_length c.loop-line.rest.now text c.in-Some.after.now e);
    }

pub loop-line-smaller : goal.loop-line-smaller
loop-line-smaller c =
    let (text, e, claim) = c.in-Some.ensures.line in
    omega (arith, cut_length c.loop-line.rest.now text c.in-Some.after.now e)

pub returns-in_err-builder : goal.returns-in_err-builder
returns-in_err-builder c =
    let (text, e, claim) = c.in-Some.ensures.line in
    let p = err_from_is_err_and c.from_residual.result c.from_residual.ensures.1 in
    rw (p.1, p.2) (fails c.args.net.now c.args.bytes.now (builder_state_of c.loop-line.builder) c.loop-line.rest.now text c.in-Some.after.now (c.loop-line.before + 1) c.in_err-builder.field-0.0 c.requires c.loop-line.invariant.prefix e
    (ap (λ (n : ℕ). n + 1) c.loop-line.invariant.count) (c.in_err-builder.ensures text claim))

pub returns : goal.returns
returns c =
    told_at_end c.args.net.now c.args.bytes.now (builder_state_of c.loop-line.builder) c.loop-line.before c.loop-line.rest.now c.finish.result c.requires c.loop-line.invariant.prefix c.in_default.ensures.none c.loop-line.invariant.count
    c.finish.ensures.report c.finish.ensures.fault
