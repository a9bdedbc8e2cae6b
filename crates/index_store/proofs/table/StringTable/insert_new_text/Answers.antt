use Rattle.std.proofs.Common.{List, [], ◌∷◌, ◌++◌, ap, map, ◌∙◌, arith}
use Rattle.std.specs.Global.{Vec}
use Rattle.std.proofs.lemmas.List.{length-map, map_push}
use Rattle.index_store.proofs.table.StringTable.insert_new_text.Goals as goal

pub returns-clause-rows : goal.returns-clause-rows
returns-clause-rows g c =
    let A = g.row.T.Denot in
    let rows = c.args.self.now.rows.items in
    let items : Vec A → List A = λ r. r.items in
    ap (map items) c.in_ok-push.ensures.items ∙ map_push items rows _ ∙ ap (λ (r : List A). map items rows ++ r ∷ []) c.new.ensures.items

pub returns-clause-texts : goal.returns-clause-texts
returns-clause-texts g c = c.in_ok-add_text.ensures

pub returns-clause-last : goal.returns-clause-last
returns-clause-last g c =
    let A = g.row.T.Denot in
    let items : Vec A → List A = λ r. r.items in
    let size = length-map c.args.self.now.rows.items items in
    let as_many = c.requires.as_many in
    let ok = c.args.self.now.rows.ok in
    omega arith
