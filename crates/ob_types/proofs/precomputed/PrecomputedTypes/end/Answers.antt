use Rattle.std.proofs.Common.{sym, ◌∙◌, ◌≡◌}
use Rattle.ob_types.specs.declared.nodes.Node.TheVariants as nodes
use Rattle.ob_types.proofs.Lending.{end_told, no_end_told}
use Rattle.ob_types.proofs.precomputed.PrecomputedTypes.end.Goals as goal

pub returns-in-None : goal.returns-in-None
returns-in-None c =
    let v = c.self.invariant.tree in
    let same = c.self.invariant.reached ∙ c.self.view_is in
    let d = c.in-Other-default-default-eq0.declaration in
    let is : c.args.node ≡ nodes.Other c.in-Other-default-default-eq0.reached d 0 = cc in
    let ends = c.self.invariant.ends_are.each c.in_ok-number.number d c.in_ok-ends.field-0.now (sym c.in_ok-ends.ensures.value) in
    no_end_told c.args.here.now.view v c.args.self.now same c.requires c.args.pointers c.args.node c.in-Other-default-default-eq0.reached c.in_ok-number.number d is (c.in_ok-number.ensures v same) (c.in-None.ensures v c.in_ok-number.number d ends)

pub returns-in_ok-node_in_reached-in-Some : goal.returns-in_ok-node_in_reached-in-Some
returns-in_ok-node_in_reached-in-Some c =
    let v = c.self.invariant.tree in
    let same = c.self.invariant.reached ∙ c.self.view_is in
    let d = c.in-Other-default-default-eq0.declaration in
    let is : c.args.node ≡ nodes.Other c.in-Other-default-default-eq0.reached d 0 = cc in
    let ends = c.self.invariant.ends_are.each c.in_ok-number.number d c.in_ok-ends.field-0.now (sym c.in_ok-ends.ensures.value) in
    end_told c.args.here.now.view v c.args.self.now same c.requires c.args.pointers c.args.node c.in-Other-default-default-eq0.reached c.in_ok-number.number d is (c.in_ok-number.ensures v same) _ _ (c.in-Some.ensures v c.in_ok-number.number d ends) (c.in_ok-node_in_reached-in-Some.ensures v same)
