use Rattle.std.proofs.Common.{◌≡◌, ◌∙◌, arith}
use Rattle.std.proofs.lemmas.List.{get_or_default}
use Rattle.cut_net.specs.Network.{missing_item}
use Rattle.cut_part.specs.CapacityReduction.{import_in}
use Rattle.cut_part.proofs.WeightSums.{from_in, lowered_tallies, to_in, weight_enters, weight_leaves}
use Rattle.cut_part.proofs.reduction.WeightSums.reduce.Goals as goal

pub subtract_from_sum-requires-clause-place : goal.subtract_from_sum-requires-clause-place
subtract_from_sum-requires-clause-place c =
    let t = c.args.self.now in
    let is : c.index-import.result.now ≡ import_in t.imports.items c.args.number = c.index-import.ensures ∙ get_or_default t.imports.items c.args.number c.index-import.result.now missing_item c.requires.number in
    let h = from_in t.imports.items t.leaving.items t.entering.items c.requires.weight_sums c.args.number c.requires.number in
    let ok = c.args.self.now.leaving.ok.0 in
    rw is (omega arith)

pub subtract_from_sum-requires-clause-fits : goal.subtract_from_sum-requires-clause-fits
subtract_from_sum-requires-clause-fits c =
    let t = c.args.self.now in
    let is : c.index-import.result.now ≡ import_in t.imports.items c.args.number = c.index-import.ensures ∙ get_or_default t.imports.items c.args.number c.index-import.result.now missing_item c.requires.number in
    let h = weight_leaves t.imports.items t.leaving.items t.entering.items c.requires.weight_sums c.args.number c.requires.number in
    rw is (omega arith)

pub subtract_from_sum-requires-2-clause-place : goal.subtract_from_sum-requires-2-clause-place
subtract_from_sum-requires-2-clause-place c =
    let t = c.args.self.now in
    let is : c.index-import.result.now ≡ import_in t.imports.items c.args.number = c.index-import.ensures ∙ get_or_default t.imports.items c.args.number c.index-import.result.now missing_item c.requires.number in
    let h = to_in t.imports.items t.leaving.items t.entering.items c.requires.weight_sums c.args.number c.requires.number in
    let sizes = c.requires.weight_sums.sizes in
    let ok = c.args.self.now.entering.ok.0 in
    rw is (omega arith)

pub subtract_from_sum-requires-2-clause-fits : goal.subtract_from_sum-requires-2-clause-fits
subtract_from_sum-requires-2-clause-fits c =
    let t = c.args.self.now in
    let is : c.index-import.result.now ≡ import_in t.imports.items c.args.number = c.index-import.ensures ∙ get_or_default t.imports.items c.args.number c.index-import.result.now missing_item c.requires.number in
    let h = weight_enters t.imports.items t.leaving.items t.entering.items c.requires.weight_sums c.args.number c.requires.number in
    rw is (omega arith)

pub returns-clause-weight_sums : goal.returns-clause-weight_sums
returns-clause-weight_sums c =
    let t = c.args.self.now in
    let is : c.index-import.result.now ≡ import_in t.imports.items c.args.number = c.index-import.ensures ∙ get_or_default t.imports.items c.args.number c.index-import.result.now missing_item c.requires.number in
    rw (c.subtract_from_sum.ensures.items, c.subtract_from_sum-2.ensures.items, is)
    (lowered_tallies t.imports.items t.leaving.items t.entering.items c.requires.weight_sums c.args.number c.requires.number c.args.amount c.requires.below)
