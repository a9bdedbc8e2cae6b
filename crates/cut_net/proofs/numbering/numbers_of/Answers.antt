use Rattle.std.proofs.Common.{◌∙◌, arith}
use Rattle.cut_net.proofs.Networks.{known_moved, numbers_more}
use Rattle.cut_net.proofs.numbering.numbers_of.Goals as goal

pub number_by_guess-requires-clause-known : goal.number_by_guess-requires-clause-known
number_by_guess-requires-clause-known c = rw c.as_str-name.ensures.value (known_moved c.args.old.now c.args.names.now c.loop-name.name-index c.name-item.result c.requires.same c.loop-name-test.true c.name-item.is)

pub loop-name-preserved : goal.loop-name-preserved
loop-name-preserved c =
    let size = c.loop-name.invariant.size in
    let longer = c.in_ok-push.ensures.len in
    let ok = c.loop-name.numbers.ok.0 in
    record {
      size = omega arith;
      numbers = rw c.in_ok-push.ensures.items (numbers_more c.args.old.now c.args.names.now c.loop-name.numbers.items c.number_by_guess.result c.loop-name.name-index c.name-item.result c.loop-name.invariant.numbers
          (omega arith) c.loop-name-test.true c.name-item.is c.number_by_guess.ensures.within (c.number_by_guess.ensures.place ∙ c.as_str-name.ensures.value));
    }
