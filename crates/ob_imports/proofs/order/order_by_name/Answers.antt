-- The numbers of the sorted pairs.
use Rattle.std.proofs.Common.{◌∙◌, ap, map}
use Rattle.std.proofs.lemmas.Result.{IfOk-weaker}
use Rattle.ob_imports.specs.Names.{texts}
use Rattle.ob_imports.proofs.NameOrder.{is_by_name}
use Rattle.ob_imports.proofs.order.order_by_name.Goals as goal

pub returns : goal.returns
returns c = IfOk-weaker c.pair_numbers.result _ _ (λ order is.
    is_by_name (texts c.args.names.now) c.in_ok-pairs.pairs.items c.sort_unstable.new.self.items order.items c.requires.once c.in_ok-pairs.ensures.names c.in_ok-pairs.ensures.numbers
    c.sort_unstable.ensures.permutation c.sort_unstable.ensures.sorted (is ∙ ap (map (λ p. p.1)) c.as_slice.ensures.value)) c.pair_numbers.ensures
