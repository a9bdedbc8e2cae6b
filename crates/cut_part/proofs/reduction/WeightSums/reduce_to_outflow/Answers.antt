use Rattle.std.proofs.Common.{◌≡◌, ◌∙◌, refl, sym, subst, length, get_or, arith, List}
use Rattle.std.proofs.lemmas.List.{get_or_default}
use Rattle.cut_net.specs.declared.priced.Priced.{Priced}
use Rattle.cut_net.specs.Network.{missing_item}
use Rattle.cut_part.specs.CapacityReduction.{import_in}
use Rattle.cut_part.specs.WeightSums.{IsReducedWeight, ReducesTo}
use Rattle.cut_part.proofs.WeightSums.{narrows_into, to_in}
use Rattle.cut_part.proofs.reduction.WeightSums.reduce_to_outflow.Goals as goal

pub index-requires : goal.index-requires
index-requires c =
    let t = c.args.self.now in
    let is : c.index-import.result.now ≡ import_in t.imports.items c.args.number = c.index-import.ensures ∙ get_or_default t.imports.items c.args.number c.index-import.result.now missing_item c.requires.number in
    let h = to_in t.imports.items t.leaving.items t.entering.items c.requires.weight_sums c.args.number c.requires.number in
    let ok = c.args.self.now.leaving.ok.0 in
    rw is (omega arith)

pub returns-then-import-to-clause-narrows : goal.returns-then-import-to-clause-narrows
returns-then-import-to-clause-narrows c =
    let t = c.args.self.now in
    let is : c.index-import.result.now ≡ import_in t.imports.items c.args.number = c.index-import.ensures ∙ get_or_default t.imports.items c.args.number c.index-import.result.now missing_item c.requires.number in
    let h = to_in t.imports.items t.leaving.items t.entering.items c.requires.weight_sums c.args.number c.requires.number in
    let i = import_in t.imports.items c.args.number in
    let sum : c.index.result.now ≡ get_or t.leaving.items i.to 0 = c.index.ensures ∙ subst (λ (j : Priced). get_or t.leaving.items c.index-import.result.now.to c.index.result.now ≡ get_or t.leaving.items j.to c.index.result.now) is refl ∙ get_or_default t.leaving.items i.to c.index.result.now 0 h in
    let room : IsReducedWeight i.amount c.reduced_weight-room.result (get_or t.leaving.items i.to 0) = rw (is, sum) at c.reduced_weight-room.ensures in
    let not_b : i.to ≡ c.args.to → ⊥ = rw is at c.if-import-to.true in
    subst (λ (new : List Priced). ReducesTo (length t.leaving.items) t.imports.items new c.args.from c.args.to) (sym c.reduce.ensures.imports)
    (narrows_into t.imports.items t.leaving.items t.entering.items c.requires.weight_sums c.args.number c.requires.number c.args.from c.args.to c.reduced_weight-room.result c.requires.ends.0 c.requires.ends.1 not_b room)
