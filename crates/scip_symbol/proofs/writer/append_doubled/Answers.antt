use Rattle.std.proofs.Common.{rules, sym, arith}
use Rattle.std.specs.String.{string_bytes}
use Rattle.scip_symbol.proofs.Ends.{cut_length}
use Rattle.scip_symbol.proofs.Doubled.{put_all, put_more, put_on_ok}
use Rattle.scip_symbol.proofs.writer.append_doubled.Goals as goal

pub loop-front-smaller : goal.loop-front-smaller
loop-front-smaller c = omega (arith, cut_length c.args.delimiter c.loop-front.rest.now (c.in-Some.front.now, c.in-Some.after.now) (sym c.in-Some.ensures))

pub loop-front-preserved : goal.loop-front-preserved
loop-front-preserved c = record {
  text = search rules;
  put =
      rw (c.in_ok-push-2.ensures.bytes, c.in_ok-push.ensures.bytes, c.in_ok-push.ensures.ascii c.requires, c.in_ok-push_str.ensures.bytes)
      (put_more c.args.delimiter (string_bytes c.args.out.now) (string_bytes c.loop-front.out) c.args.text.now c.loop-front.rest.now c.in-Some.front.now c.in-Some.after.now c.loop-front.invariant.put (sym c.in-Some.ensures));
}

pub returns : goal.returns
returns c =
    put_on_ok c.push_str-2.result (string_bytes c.push_str-2.new.self) (string_bytes c.loop-front.out) c.loop-front.rest.now _ c.push_str-2.ensures.bytes
    (put_all c.args.delimiter (string_bytes c.args.out.now) (string_bytes c.loop-front.out) c.args.text.now c.loop-front.rest.now c.loop-front.invariant.put (sym c.in_default.ensures))
