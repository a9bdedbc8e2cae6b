use Rattle.std.proofs.Common.{◌≡◌, ◌∙◌, refl, sym, subst, length, get_or, arith, List}
use Rattle.std.proofs.lemmas.List.{get_or_default}
use Rattle.cut_net.specs.declared.priced.Priced.{Priced}
use Rattle.cut_net.specs.Network.{missing_item}
use Rattle.cut_part.specs.CapacityReduction.{import_in}
use Rattle.cut_part.specs.WeightSums.{IsReducedWeight, ReducesTo}
use Rattle.cut_part.proofs.WeightSums.{narrows_out, from_in}
use Rattle.cut_part.proofs.reduction.WeightSums.reduce_to_inflow.Goals as goal

pub index-requires : goal.index-requires
index-requires c =
    let t = c.args.self.now in
    let is : c.index-import.result.now ≡ import_in t.imports.items c.args.number = c.index-import.ensures ∙ get_or_default t.imports.items c.args.number c.index-import.result.now missing_item c.requires.number in
    let h = from_in t.imports.items t.leaving.items t.entering.items c.requires.weight_sums c.args.number c.requires.number in
    let sizes = c.requires.weight_sums.sizes in
    let ok = c.args.self.now.entering.ok.0 in
    rw is (omega arith)

pub returns-then-import-from-clause-narrows : goal.returns-then-import-from-clause-narrows
returns-then-import-from-clause-narrows c =
    let t = c.args.self.now in
    let is : c.index-import.result.now ≡ import_in t.imports.items c.args.number = c.index-import.ensures ∙ get_or_default t.imports.items c.args.number c.index-import.result.now missing_item c.requires.number in
    let h = from_in t.imports.items t.leaving.items t.entering.items c.requires.weight_sums c.args.number c.requires.number in
    let i = import_in t.imports.items c.args.number in
    let sum : c.index.result.now ≡ get_or t.entering.items i.from 0 = c.index.ensures ∙ subst (λ (j : Priced). get_or t.entering.items c.index-import.result.now.from c.index.result.now ≡ get_or t.entering.items j.from c.index.result.now) is refl ∙ get_or_default t.entering.items i.from c.index.result.now 0 (let sizes = c.requires.weight_sums.sizes in omega arith) in
    let room : IsReducedWeight i.amount c.reduced_weight-room.result (get_or t.entering.items i.from 0) = rw (is, sum) at c.reduced_weight-room.ensures in
    let not_b : i.from ≡ c.args.from → ⊥ = rw is at c.if-import-from.true in
    subst (λ (new : List Priced). ReducesTo (length t.leaving.items) t.imports.items new c.args.from c.args.to) (sym c.reduce.ensures.imports)
    (narrows_out t.imports.items t.leaving.items t.entering.items c.requires.weight_sums c.args.number c.requires.number c.args.from c.args.to c.reduced_weight-room.result c.requires.ends.0 c.requires.ends.1 not_b room)
