use Rattle.std.proofs.Common.{◌∙◌, ◌≡◌, ◌<◌, ◌++◌, [], ◌∷◌, List, length, set, sym, ap, arith}
use Rattle.std.specs.Global.{Vec}
use Rattle.std.proofs.lemmas.List.{map-set, get_or-map, length-map}
use Rattle.index_store.proofs.table.StringTable.push.Goals as goal

pub returns-clause-rows : goal.returns-clause-rows
returns-clause-rows g c =
    let A = g.row.T.Denot in
    let rows = c.args.self.now.rows.items in
    let n = c.args.number in
    let items : Vec A → List A = λ r. r.items in
    let inside : n < length rows = (let e = length-map rows items in let l = c.requires.within in omega (arith, e, l)) in
    map-set items rows n c.push.new.self
    ∙ ap (λ v. set (Rattle.std.proofs.Common.map items rows) n v) (c.in_ok-push.ensures.items ∙ ap (λ v. v ++ c.args.row ∷ []) (ap items c.index_mut.ensures.value ∙ sym (get_or-map items rows n _ [] inside)))
