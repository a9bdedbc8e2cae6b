use Rattle.std.proofs.Common.{◌∙◌, ℕ, List, ap}
use Rattle.cut_part.specs.Marks.{claim_in_net}
use Rattle.cut_net.specs.Answers.{cut_claim}
use Rattle.cut_solve.proofs.Parted.{ends_there, lines_between, told_whole}
use Rattle.cut_solve.proofs.solving.solve_subnetwork.Goals as goal

pub solve_reduced-requires-after_bounds : goal.solve_reduced-requires-after_bounds
solve_reduced-requires-after_bounds g c κs within =
    let net = c.args.net.now in
    let part = c.in_ok-part.part in
    ends_there net c.args.ends.0 c.args.ends.1 part.marks.items part.numbers.items part.new_numbers.items part.net c.in_ok-part.ensures c.requires c.index.result.now c.index-2.result.now c.index.ensures c.index-2.ensures

pub renumbered_cut-requires : goal.renumbered_cut-requires
renumbered_cut-requires g c =
    let part = c.in_ok-part.part in
    let cut = c.in_ok-cut.cut in
    let lines = lines_between c.args.net.now c.args.ends.0 c.args.ends.1 part.marks.items part.numbers.items part.new_numbers.items part.net c.in_ok-part.ensures c.requires
    c.index.result.now c.index-2.result.now cut.imports.items cut.weight cut.flow.items c.in_ok-cut.ensures.answer in
    rw c.deref.ensures.value (record { imports = lines.0; flow = lines.1 })

pub returns : goal.returns
returns g c =
    let part = c.in_ok-part.part in
    let cut = c.in_ok-cut.ensures in
    let claim = cut_claim c.in_ok-cut.cut in
    let same = c.in_ok-whole.ensures ∙ ap (λ (numbers : List ℕ). claim_in_net numbers claim) c.deref.ensures.value in
    let told = told_whole c.args.net.now c.args.ends.0 c.args.ends.1 part.marks.items part.numbers.items part.new_numbers.items part.net c.in_ok-part.ensures c.requires
    c.index.result.now c.index-2.result.now c.index.ensures c.index-2.ensures claim (cut_claim c.in_ok-whole.whole) same cut.answer cut.cheapest in
    record { answer = told.0; cheapest = told.1 }
