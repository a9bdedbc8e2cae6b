use Rattle.std.proofs.Common.{ℕ, ◌<◌, ◌≡◌, ◌∙◌, Some, length, get_or, sym, subst, arith}
use Rattle.std.specs.Prelude.{All}
use Rattle.std.proofs.lemmas.List.{get_or_default}
use Rattle.std.proofs.lemmas.List.Elements.{All-pop}
use Rattle.cut_net.specs.WellFormed.{AreBetween}
use Rattle.cut_part.proofs.order.topological_imports.Goals as goal

pub remove_imports-requires-clause-between : goal.remove_imports-requires-clause-between
remove_imports-requires-clause-between c = subst (AreBetween c.args.imports.now) (sym c.loop.invariant.entering) c.requires.between

pub remove_imports-requires-clause-end : goal.remove_imports-requires-clause-end
remove_imports-requires-clause-end c =
    let ends = c.in_ok-counted.counted.ends.items in
    let size = c.in_ok-counted.ensures.ends.0 in
    let ok = c.in_ok-counted.counted.ends.ok.0 in
    let low = (All-pop (λ m. m < c.args.modules) _ _ (Some c.in-Some.importer) c.in-Some.ensures.items c.loop.invariant.free).1 in
    let in_ends : c.in-Some.importer < length ends = omega arith in
    let is : c.index-in-loop.result.now ≡ get_or ends c.in-Some.importer 0 = c.index-in-loop.ensures ∙ get_or_default ends c.in-Some.importer c.index-in-loop.result.now 0 in_ends in
    rw is (c.in_ok-counted.ensures.ends.1 c.in-Some.importer 0 in_ends)

pub remove_imports-requires-clause-free : goal.remove_imports-requires-clause-free
remove_imports-requires-clause-free c =
    subst (λ (n : ℕ). All (λ m. m < n) c.pop.new.self.items) (sym c.loop.invariant.entering)
    (All-pop (λ m. m < c.args.modules) _ _ (Some c.in-Some.importer) c.in-Some.ensures.items c.loop.invariant.free).0
