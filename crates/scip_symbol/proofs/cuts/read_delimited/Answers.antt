use Rattle.std.proofs.Common.{rules, sym, arith}
use Rattle.std.specs.String.{string_bytes}
use Rattle.scip_symbol.proofs.Ends.{runs_out, ends_here, goes_on, cut_shorter}
use Rattle.scip_symbol.proofs.cuts.read_delimited.Goals as goal

pub returns-in_default-strip_char : goal.returns-in_default-strip_char
returns-in_default-strip_char c =
    rw c.in_ok-push_str.ensures.bytes
    (sym (ends_here c.args.delimiter c.args.text.now (string_bytes c.loop-front.part) c.loop-front.rest.now c.in-Some.front.now c.in-Some.after.now c.loop-front.invariant.ends (sym c.in-Some.ensures) (sym c.in_default-strip_char.ensures)))

pub loop-front-smaller : goal.loop-front-smaller
loop-front-smaller c =
    omega (arith, cut_shorter c.args.delimiter c.loop-front.rest.now c.in-Some.front.now c.in-Some.after.now c.in-Some-strip_char.more.now (sym c.in-Some.ensures) (sym c.in-Some-strip_char.ensures))

pub loop-front-preserved : goal.loop-front-preserved
loop-front-preserved c = record {
  text = search rules;
  ends =
      rw (c.in_ok-push.ensures.bytes, c.in_ok-push.ensures.ascii c.requires, c.in_ok-push_str.ensures.bytes)
      (goes_on c.args.delimiter c.args.text.now (string_bytes c.loop-front.part) c.loop-front.rest.now c.in-Some.front.now c.in-Some.after.now c.in-Some-strip_char.more.now c.loop-front.invariant.ends (sym c.in-Some.ensures) (sym c.in-Some-strip_char.ensures));
}

pub returns : goal.returns
returns c = sym (runs_out c.args.delimiter c.args.text.now (string_bytes c.loop-front.part) c.loop-front.rest.now c.loop-front.invariant.ends (sym c.in_default.ensures))
