use Rattle.std.proofs.Common.{sym, ◌∙◌}
use Rattle.type_graph.specs.Memoized.{by_hash}
use Rattle.type_graph.proofs.memo.MemoTable.get_from_tree.Goals as goal

pub returns-then-eq : goal.returns-then-eq
returns-then-eq g c = by_hash c.hash_of.result c.in_ok-of.field-0.now.0 (sym c.in_ok-of.ensures.value) (sym c.eq.ensures ∙ c.if-eq.true)
