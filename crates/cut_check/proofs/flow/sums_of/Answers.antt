use Rattle.std.proofs.Common.{◌<◌, ◌∙◌, length, arith, subst, get_or}
use Rattle.std.proofs.lemmas.List.{take_all}
use Rattle.cut_net.specs.declared.priced.Priced.{Priced}
use Rattle.cut_check.specs.Sums.{AreSums}
use Rattle.cut_check.specs.Reaching.{any}
use Rattle.cut_check.proofs.Adding.{adding_fits, adding_most, adding_more, from_in, to_in}
use Rattle.cut_check.proofs.flow.sums_of.Goals as goal

pub add_to_sum-requires-clause-index : goal.add_to_sum-requires-clause-index
add_to_sum-requires-clause-index c =
    let h = to_in c.args.imports.now c.args.modules c.loop-k.k c.requires.between c.loop-k-test.true in
    omega arith

pub add_to_sum-requires-clause-fits : goal.add_to_sum-requires-clause-fits
add_to_sum-requires-clause-fits c =
    let few = c.requires.few in
    adding_fits c.loop-k.into.items c.loop-k.k c.unwrap_or-amount.result (omega (arith, c.loop-k-test.true)) c.unwrap_or-amount.type_inv c.loop-k.invariant.into_most _

pub add_to_sum-requires-in-loop-k-clause-index : goal.add_to_sum-requires-in-loop-k-clause-index
add_to_sum-requires-in-loop-k-clause-index c =
    let h = from_in c.args.imports.now c.args.modules c.loop-k.k c.requires.between c.loop-k-test.true in
    omega arith

pub add_to_sum-requires-in-loop-k-clause-fits : goal.add_to_sum-requires-in-loop-k-clause-fits
add_to_sum-requires-in-loop-k-clause-fits c =
    let few = c.requires.few in
    adding_fits c.loop-k.out.items c.loop-k.k c.unwrap_or-amount.result (omega (arith, c.loop-k-test.true)) c.unwrap_or-amount.type_inv c.loop-k.invariant.out_most _

pub loop-k-preserved : goal.loop-k-preserved
loop-k-preserved c =
    let imports = c.args.imports.now in
    let k = c.loop-k.k in
    let in_k = c.loop-k-test.true in
    let x = c.unwrap_or-amount.result in
    let amount = c.unwrap_or-amount.ensures in
    let to_h = to_in imports c.args.modules k c.requires.between in_k in
    let from_h = from_in imports c.args.modules k c.requires.between in_k in
    let into_ok = c.loop-k.into.ok.0 in
    let out_ok = c.loop-k.out.ok.0 in
    let into_size = c.loop-k.invariant.into_size in
    let out_size = c.loop-k.invariant.out_size in
    let to_in_sums : (get_or imports k any).to < length c.loop-k.into.items = omega arith in
    let from_in_sums : (get_or imports k any).from < length c.loop-k.out.items = omega arith in
    record {
      into_size = c.add_to_sum.ensures.size ∙ into_size;
      out_size = c.add_to_sum-in-loop-k.ensures.size ∙ out_size;
      into_most = rw c.add_to_sum.ensures.items (adding_most c.loop-k.into.items k x c.unwrap_or-amount.type_inv c.loop-k.invariant.into_most _ to_in_sums);
      out_most = rw c.add_to_sum-in-loop-k.ensures.items (adding_most c.loop-k.out.items k x c.unwrap_or-amount.type_inv c.loop-k.invariant.out_most _ from_in_sums);
      sums = λ flow are.
          let so_far = c.loop-k.invariant.sums flow are in
          let x_is = amount ∙ are k any in_k in
          record {
            into_is = rw c.add_to_sum.ensures.items (adding_more imports k any in_k c.loop-k.into.items x (λ (i : Priced). i.to) flow c.args.modules so_far.into_is x_is to_in_sums);
            out_is = rw c.add_to_sum-in-loop-k.ensures.items (adding_more imports k any in_k c.loop-k.out.items x (λ (i : Priced). i.from) flow c.args.modules so_far.out_is x_is from_in_sums);
          };
    }

pub returns-clause-sums : goal.returns-clause-sums
returns-clause-sums c flow are =
    let past = c.loop-k-test.false in
    subst (λ v. AreSums v flow c.args.modules c.loop-k.into.items c.loop-k.out.items) (take_all c.loop-k.k c.args.imports.now past) (c.loop-k.invariant.sums flow are)
