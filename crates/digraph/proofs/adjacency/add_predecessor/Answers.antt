use Rattle.std.proofs.Common.{◌∙◌, ℕ, ◌++◌, [], ◌∷◌, List, set, sym, ap, arith}
use Rattle.std.specs.Global.{Vec}
use Rattle.std.proofs.lemmas.List.{map-set, get_or-map}
use Rattle.digraph.specs.Marks.{lists}
use Rattle.digraph.proofs.adjacency.add_predecessor.Goals as goal

pub returns-clause-rows : goal.returns-clause-rows
returns-clause-rows c =
    let rows = c.args.predecessors.now.items in
    let to = c.args.edge.to in
    let ok = c.args.predecessors.now.ok.0 in
    let asked = c.requires in
    let items : Vec ℕ → List ℕ = λ r. r.items in
    map-set items rows to c.push.new.self
    ∙ ap (λ v. set (lists rows) to v) (c.in_ok-push.ensures.items ∙ ap (λ v. v ++ c.args.edge.from ∷ []) (ap items c.index_mut.ensures.value ∙ sym (get_or-map items rows to _ [] (omega arith))))
