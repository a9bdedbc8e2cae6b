use Rattle.std.proofs.Common.{◌≡◌, ◌<◌, ℕ, Bool, true, List, length, set, sym, ap, ◌∙◌, subst, arith}
use Rattle.std.specs.Prelude.{Vec, ◌↔◌}
use Rattle.std.specs.declared.alloc.Global.{Global}
use Rattle.std.proofs.lemmas.List.{get_or-set_same, get_or-set_other, length-map, map-set}
use Rattle.work_board.specs.Graphs.{lists, list_at}
use Rattle.work_board.specs.Marks.{marked, IsReachedBy}
use Rattle.work_board.proofs.Marking.{restored, row_of}
use Rattle.work_board.proofs.flags.replace_reached_flags.Goals as goal

-- the flags that are stored
store : (c : goal.After-reached-1) → c.swap.new.y.items ≡ c.set_reached_flags.new.flags
store c =
    let size : length c.set_reached_flags.new.flags ≡ length c.args.spare.now.items = c.set_reached_flags.auto.flags ∙ ap length c.as_mut_slice.ensures.value in
    ap (λ r. r.items) c.swap.ensures.y_after ∙ restored c.args.spare.now.len c.set_reached_flags.new.flags c.args.spare.now.items size c.args.spare.now.ok.0

rows : (c : goal.After-reached-1) → lists (set c.args.reached.now.items c.args.place c.swap.new.y) ≡ set (lists c.args.reached.now.items) c.args.place c.set_reached_flags.new.flags
rows c = map-set (λ r. r.items) c.args.reached.now.items c.args.place c.swap.new.y ∙ ap (set (lists c.args.reached.now.items) c.args.place) (store c)

here : (c : goal.After-reached-1) → list_at (lists (set c.args.reached.now.items c.args.place c.swap.new.y)) c.args.place ≡ c.set_reached_flags.new.flags
here c =
    let l : length (lists c.args.reached.now.items) ≡ length c.args.reached.now.items = length-map c.args.reached.now.items (λ r. r.items) in
    let ok = c.args.reached.now.ok.0 in
    let lt = c.requires.place in
    ap (λ rs. list_at rs c.args.place) (rows c) ∙ get_or-set_same (lists c.args.reached.now.items) c.args.place c.set_reached_flags.new.flags _ (omega arith)

-- the flags that are swapped out
out : (c : goal.After-reached-1) → c.swap.new.x.items ≡ list_at (lists c.args.reached.now.items) c.args.place
out c =
    let ok = c.args.reached.now.ok.0 in
    let lt = c.requires.place in
    ap (λ r. r.items) (c.swap.ensures.x_after ∙ c.index_mut.ensures.value) ∙ sym (row_of c.args.reached.now.items c.args.place c.index_mut.result.now (omega arith))

pub returns-clause-others : goal.returns-clause-others
returns-clause-others c = λ n other. ap (λ rs. list_at rs n) (rows c) ∙ get_or-set_other (lists c.args.reached.now.items) c.args.place n c.set_reached_flags.new.flags _ other

filled : (c : goal.After-reached-1) (v : ℕ) → v < length c.as_mut_slice.result.now
    → (marked (list_at (lists (set c.args.reached.now.items c.args.place c.swap.new.y)) c.args.place) v ≡ true) ↔ IsReachedBy (lists c.args.reached.now.items) c.args.row.now v
filled c v lt =
    let P : List (Vec Bool Global) → Type 0 = λ rs. (marked c.set_reached_flags.new.flags v ≡ true) ↔ IsReachedBy (lists rs) c.args.row.now v in
    let met : P c.args.reached.now.items = subst P c.as_slice.ensures.value (c.set_reached_flags.ensures v lt) in
    let Q : List Bool → Type 0 = λ r. (marked r v ≡ true) ↔ IsReachedBy (lists c.args.reached.now.items) c.args.row.now v in
    subst Q (sym (here c)) met

pub returns-clause-filled : goal.returns-clause-filled
returns-clause-filled c = λ v lt. let l = c.as_mut_slice.ensures.len in filled c v (omega arith)

pub returns-clause-long : goal.returns-clause-long
returns-clause-long c = ap length (here c) ∙ c.set_reached_flags.auto.flags ∙ c.as_mut_slice.ensures.len

pub returns-clause-spare : goal.returns-clause-spare
returns-clause-spare c =
    c.swap.new.x.ok.0 ∙ ap length (out c) ∙ c.requires.width c.args.place c.requires.place
