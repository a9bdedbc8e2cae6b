use Rattle.std.proofs.Common.{◌∙◌, ℕ, ◌++◌, [], ◌∷◌, List, set, sym, ap, arith}
use Rattle.std.specs.Global.{Vec}
use Rattle.std.proofs.lemmas.List.{map-set, get_or-map}
use Rattle.work_board.specs.Graphs.{lists}
use Rattle.work_board.proofs.graph.append_at.Goals as goal

pub returns-clause-rows : goal.returns-clause-rows
returns-clause-rows c =
    let rows = c.args.rows.now.items in
    let at = c.args.place in
    let ok = c.args.rows.now.ok.0 in
    let asked = c.requires in
    let items : Vec ℕ → List ℕ = λ r. r.items in
    map-set items rows at c.push.new.self
    ∙ ap (λ v. set (lists rows) at v) (c.in_ok-push.ensures.items ∙ ap (λ v. v ++ c.args.by ∷ []) (ap items c.index_mut.ensures.value ∙ sym (get_or-map items rows at _ [] (omega arith))))
