use Rattle.std.proofs.Common.{◌≡◌, ◌<◌, ◌≤◌, ◌+◌, true, length, map, get_or, set, nat_lt, ap, ◌∙◌, sym, arith}
use Rattle.std.proofs.lemmas.Bool.Decides.{nat_tests}
use Rattle.std.proofs.lemmas.List.{get_or_read, length-map}
use Rattle.cut_preflow.proofs.Exchanging.{arranged_written, members_more, members_same, places_written}
use Rattle.cut_preflow.proofs.node_set.NodeSet.insert.Goals as goal

pub returns-then-at-self : goal.returns-then-at-self
returns-then-at-self c =
    let position = c.self.inside.position in
    let size = c.self.inside.size in
    let node = c.args.node in
    let within : node < length position.items = omega (arith, c.requires, ap length c.self.view_is, length-map position.items (λ p. nat_lt p size)) in
    let at : c.index-at.result.now ≡ get_or position.items node 0 = get_or_read position.items node c.index-at.result.now within c.index-at.ensures 0 in
    let past : size ≤ get_or position.items node 0 = omega (arith, at, c.if-at-self.true) in
    ap (map (λ p. nat_lt p (size + 1))) (places_written position _ c.swap_nodes.new.position c.index-at.result.now size node (sym c.self.inside.position.ok.0) c.swap_nodes.ensures.position c.as_mut_slice-then-at-self.ensures.value at)
    ∙ members_more c.self.inside.order.items position.items node size c.self.invariant.inverse within past
    ∙ ap (λ m. set m node true) c.self.view_is

pub returns-else-at-self : goal.returns-else-at-self
returns-else-at-self c =
    let position = c.self.inside.position.items in
    let size = c.self.inside.size in
    let node = c.args.node in
    let within : node < length position = omega (arith, c.requires, ap length c.self.view_is, length-map position (λ p. nat_lt p size)) in
    let at : c.index-at.result.now ≡ get_or position node 0 = get_or_read position node c.index-at.result.now within c.index-at.ensures 0 in
    let low : get_or position node 0 < size = omega (arith, at, c.if-at-self.false) in
    sym c.self.view_is ∙ members_same position node size true within (grind (arith, nat_tests)) ∙ ap (λ m. set m node true) c.self.view_is

pub index-at-requires : goal.index-at-requires
index-at-requires c =
    let position = c.self.inside.position in
    omega (arith, c.requires, ap length c.self.view_is, length-map position.items (λ p. nat_lt p c.self.inside.size), position.ok.0)

pub swap_nodes-requires-clause-inverse : goal.swap_nodes-requires-clause-inverse
swap_nodes-requires-clause-inverse c = rw (c.as_mut_slice.ensures.value, c.as_mut_slice-then-at-self.ensures.value) c.self.invariant.inverse

pub swap_nodes-requires-clause-first : goal.swap_nodes-requires-clause-first
swap_nodes-requires-clause-first c =
    let position = c.self.inside.position in
    let size = c.self.inside.size in
    let node = c.args.node in
    let within : node < length position.items = omega (arith, c.requires, ap length c.self.view_is, length-map position.items (λ p. nat_lt p size)) in
    let at : c.index-at.result.now ≡ get_or position.items node 0 = get_or_read position.items node c.index-at.result.now within c.index-at.ensures 0 in
    let low = c.self.invariant.inverse.positions node within in
    omega (arith, ap length c.as_mut_slice.ensures.value, at, low)

pub swap_nodes-requires-clause-second : goal.swap_nodes-requires-clause-second
swap_nodes-requires-clause-second c =
    let position = c.self.inside.position in
    let size = c.self.inside.size in
    let node = c.args.node in
    let within : node < length position.items = omega (arith, c.requires, ap length c.self.view_is, length-map position.items (λ p. nat_lt p size)) in
    let at : c.index-at.result.now ≡ get_or position.items node 0 = get_or_read position.items node c.index-at.result.now within c.index-at.ensures 0 in
    let low = c.self.invariant.inverse.positions node within in
    omega (arith, ap length c.as_mut_slice.ensures.value, at, low, c.if-at-self.true)

pub invariant_of-self : goal.invariant_of-self
invariant_of-self c =
    let order = c.self.inside.order in
    let position = c.self.inside.position in
    let size = c.self.inside.size in
    let node = c.args.node in
    let within : node < length position.items = omega (arith, c.requires, ap length c.self.view_is, length-map position.items (λ p. nat_lt p size)) in
    let at : c.index-at.result.now ≡ get_or position.items node 0 = get_or_read position.items node c.index-at.result.now within c.index-at.ensures 0 in
    let low = c.self.invariant.inverse.positions node within in
    let is = c.self.invariant in
    arranged_written order position c.swap_nodes.new.order c.swap_nodes.new.position c.as_mut_slice-then-at-self.result.now c.index-at.result.now (size) (size + 1)
    (sym order.ok.0) (sym position.ok.0) is.inverse.lengths is.few c.as_mut_slice-then-at-self.ensures.value c.swap_nodes.ensures.position c.swap_nodes.ensures.inverse
    (omega (arith, at, low, is.inverse.lengths, is.within, c.if-at-self.true))
