use Rattle.std.proofs.Common.{◌≡◌, ◌<◌, ◌-◌, false, length, map, get_or, nat_lt, ap, ◌∙◌, sym, arith}
use Rattle.std.proofs.lemmas.List.{get_or_read}
use Rattle.cut_preflow.proofs.Exchanging.{none_of_none, has_placed}
use Rattle.cut_preflow.proofs.node_set.NodeSet.any_member.Goals as goal

pub returns-then-self-eq0-clause-none : goal.returns-then-self-eq0-clause-none
returns-then-self-eq0-clause-none c _ v =
    ap (λ m. get_or m v false) (sym c.self.view_is) ∙ none_of_none c.self.inside.position.items c.self.inside.size v c.if-self-eq0.true

pub returns-clause-some : goal.returns-clause-some
returns-clause-some c =
    let order = c.self.inside.order.items in
    let position = c.self.inside.position.items in
    let size = c.self.inside.size in
    let low : size - 1 < length order = omega (arith, c.self.invariant.within, c.self.invariant.inverse.lengths, c.if-self-eq0.false) in
    let is : c.index.result.now ≡ get_or order (size - 1) 0 = get_or_read order (size - 1) c.index.result.now low c.index.ensures 0 in
    ap (λ m. get_or m c.index.result.now false) (sym c.self.view_is)
    ∙ ap (λ v. get_or (map (λ p. nat_lt p size) position) v false) is
    ∙ has_placed order position (size - 1) size c.self.invariant.inverse low (omega (arith, c.if-self-eq0.false))
