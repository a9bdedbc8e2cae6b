-- The file of the first name, and its scopes.
use Rattle.std.proofs.Common.{◌≡◌, ◌∙◌, ℕ, true, false, Option, Some, None, refl, sym, ap, arith}
use Rattle.std.specs.Prelude.{not, slice_get}
use Rattle.std.specs.Option.{is_some}
use Rattle.std.proofs.lemmas.Option.{slice_get-get_or}
use Rattle.std.proofs.lemmas.Result.{IfErr-weaker, IfOk-weaker}
use Rattle.source_tree.proofs.CrossedTrees.{crossed_at, crossed_no_imported, crossed_fault, within_scopes, within_sources}
use Rattle.source_tree.proofs.crossing.uses_in_tree.Goals as goal

is_none : (o : Option ℕ) → is_some o ≡ false → None ≡ o
is_none None e = refl
is_none (Some x) e = absurd (let f : true ≡ false = e in cc)

is_node : (o : Option ℕ) → is_some o ≡ true → (w : ℕ) × (Some w ≡ o)
is_node None e = absurd (let f : false ≡ true = e in cc)
is_node (Some x) e = (x, refl)

pub returns-then-is_none-clause-crossed : goal.returns-then-is_none-clause-crossed
returns-then-is_none-clause-crossed c =
    let none = is_none c.node_of.result (c.is_none.ensures ∙ ap not c.if-is_none.true) in
    crossed_no_imported c.args.sources.now c.args.tree.now c.requires c.args.from.now c.args.to.now c.in-Some.importer c.in-Some.ensures.found (none ∙ c.node_of.ensures)

pub bounds-sources-importer : goal.bounds-sources-importer
bounds-sources-importer c = within_sources c.args.sources.now c.args.tree.now c.requires c.args.from.now c.args.to.now c.in-Some.importer c.in-Some.ensures.found

pub index-requires : goal.index-requires
index-requires c =
    let within = within_scopes c.args.sources.now c.args.tree.now c.requires c.args.from.now c.args.to.now c.in-Some.importer c.in-Some.ensures.found in
    omega arith

pub returns-clause-crossed : goal.returns-clause-crossed
returns-clause-crossed c =
    let of = c.requires in
    let v = c.in-Some.importer in
    let found = c.in-Some.ensures.found in
    let node = is_node c.node_of.result (c.is_none.ensures ∙ ap not c.if-is_none.false) in
    let in_sources = within_sources c.args.sources.now c.args.tree.now of c.args.from.now c.args.to.now v found in
    let in_scopes = within_scopes c.args.sources.now c.args.tree.now of c.args.from.now c.args.to.now v found in
    let source = c.index-sources-importer.result in
    let s = c.index.result.now in
    let at_source : slice_get c.args.sources.now v ≡ Some source = slice_get-get_or c.args.sources.now v source in_sources ∙ ap Some (sym c.index-sources-importer.is) in
    let at_scopes : slice_get c.args.tree.now.scopes.items v ≡ Some s = slice_get-get_or c.args.tree.now.scopes.items v s in_scopes ∙ ap Some (sym c.index.ensures) in
    IfOk-weaker c.uses_in_file.result _ _ (λ crossed h. crossed_at c.args.sources.now c.args.tree.now of c.args.from.now c.args.to.now v node.0 source s crossed found (node.1 ∙ c.node_of.ensures) at_source at_scopes h)
    c.uses_in_file.ensures.places

pub returns-clause-fault : goal.returns-clause-fault
returns-clause-fault c =
    let of = c.requires in
    let v = c.in-Some.importer in
    let in_sources = within_sources c.args.sources.now c.args.tree.now of c.args.from.now c.args.to.now v c.in-Some.ensures.found in
    IfErr-weaker c.uses_in_file.result _ _ (λ fault h. crossed_fault c.args.sources.now c.args.tree.now of c.args.from.now c.args.to.now v c.index-sources-importer.result fault in_sources c.index-sources-importer.is h)
    c.uses_in_file.ensures.fault
