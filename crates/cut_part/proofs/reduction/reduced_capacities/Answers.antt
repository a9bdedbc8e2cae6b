use Rattle.std.proofs.Common.{◌∙◌, List, length, subst}
use Rattle.cut_net.specs.declared.priced.Priced.{Priced}
use Rattle.cut_part.specs.WeightSums.{ReducesTo}
use Rattle.cut_part.proofs.WeightSums.{narrows_twice}
use Rattle.cut_part.proofs.reduction.reduced_capacities.Goals as goal

pub returns : goal.returns
returns c =
    let m = c.args.modules in
    let imports = c.args.imports.now in
    let a = c.args.from in
    let b = c.args.to in
    let back = c.reduce_backward.new.self in
    let forth = c.reduce_forward.new.self in
    let size = c.in_ok-weight_sums.ensures.size in
    let first : ReducesTo m imports back.imports.items a b =
    subst (λ n. ReducesTo n imports back.imports.items a b) size
    (subst (λ (was : List Priced). ReducesTo (length c.in_ok-weight_sums.weight_sums.leaving.items) was back.imports.items a b) c.in_ok-weight_sums.ensures.imports c.reduce_backward.ensures.narrows) in
    let second : ReducesTo m back.imports.items forth.imports.items a b =
    subst (λ n. ReducesTo n back.imports.items forth.imports.items a b) (c.reduce_backward.ensures.size.0 ∙ size) c.reduce_forward.ensures.narrows in
    narrows_twice m imports back.imports.items forth.imports.items a b first second
