use Rattle.std.proofs.Common.{◌≡◌, length, ◌∙◌, ◌++◌, ◌∷◌, [], ℕ, List, sym, ap, subst, arith, rules}
use Rattle.std.proofs.lemmas.List.{get_or_default, nil_from_length}
use Rattle.cut_net.specs.WellFormed.{AreBetween}
use Rattle.cut_net.specs.Network.{missing_item}
use Rattle.cut_net.specs.declared.priced.Priced.{Priced}
use Rattle.residual_graph.proofs.Following.{last_low}
use Rattle.cut_part.specs.CapacityReduction.{import_in}
use Rattle.cut_part.specs.Reach.{AreImportLists, IsSpreading}
use Rattle.cut_part.proofs.Reaching.{spread, spreading_starts}
use Rattle.cut_part.proofs.reach.mark_reachable.Goals as goal

pub link_by_key-requires-clause-known : goal.link_by_key-requires-clause-known
link_by_key-requires-clause-known c x list has gives =
    let low = (c.requires.between x has).0 in
    let is : list ≡ x.from = search rules in
    omega arith

pub loop-importer-init : goal.loop-importer-init
loop-importer-init c =
    let placed : c.push.new.self.items ≡ c.args.start ∷ [] = c.in_ok-push.ensures.items ∙ ap (λ (v : List ℕ). v ++ c.args.start ∷ []) c.new-waiting.ensures.items in
    record {
      size = c.in_ok-marks.ensures.len;
      spreading = rw (placed, c.in_ok-marks.ensures.items_if_clones_equal (λ y same. same)) (spreading_starts c.args.imports.now c.args.start c.args.modules c.requires.start);
    }

pub flag_imported-requires-clause-between : goal.flag_imported-requires-clause-between
flag_imported-requires-clause-between c = subst (AreBetween c.args.imports.now) (sym c.loop-importer.invariant.size) c.requires.between

pub flag_imported-requires-clause-linked : goal.flag_imported-requires-clause-linked
flag_imported-requires-clause-linked c =
    let imports = c.args.imports.now in
    let t = c.in_ok-linked.linked in
    let linked = c.in_ok-linked.ensures (λ k. (import_in imports k).from) (λ k x list l here gives.
    let is : list ≡ x.from = search rules in
    is ∙ ap (λ (i : Priced). i.from) (sym (get_or_default imports k missing_item x l ∙ here))) in
    subst (λ (n : ℕ). AreImportLists imports n t.last.items t.before.items (length imports)) (sym c.loop-importer.invariant.size) linked

pub flag_imported-requires-clause-importer : goal.flag_imported-requires-clause-importer
flag_imported-requires-clause-importer c =
    let popped : c.loop-importer.waiting.items ≡ c.pop.new.self.items ++ c.in-Some.importer ∷ [] = rw c.in-Some.is at c.pop.ensures.items in
    let ok = c.loop-importer.marks.ok.0 in
    let within = last_low c.loop-importer.marks.items c.loop-importer.waiting.items _ _ c.loop-importer.invariant.spreading.spread.waits popped in
    omega arith

pub returns-clause-mark_reachable : goal.returns-clause-mark_reachable
returns-clause-mark_reachable c =
    let none = rw c.in_default.is at c.pop.ensures.cases in
    let ok = c.loop-importer.waiting.ok.0 in
    let empty : c.loop-importer.waiting.items ≡ [] = nil_from_length _ (omega arith) in
    spread c.args.imports.now c.args.start c.loop-importer.marks.items (subst (IsSpreading c.args.imports.now c.args.start c.loop-importer.marks.items) empty c.loop-importer.invariant.spreading)
