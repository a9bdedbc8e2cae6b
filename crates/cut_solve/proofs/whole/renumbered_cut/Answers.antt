use Rattle.std.proofs.Common.{List, length, subst, sym}
use Rattle.cut_net.specs.declared.priced.Priced.{Priced}
use Rattle.cut_net.specs.WellFormed.{AreBetween}
use Rattle.cut_solve.proofs.whole.renumbered_cut.Goals as goal

pub renumbered_imports-requires : goal.renumbered_imports-requires
renumbered_imports-requires c = subst (λ (lines : List Priced). AreBetween lines (length c.args.numbers.now)) (sym c.deref.ensures.value) c.requires.imports

pub renumbered_imports-requires-2 : goal.renumbered_imports-requires-2
renumbered_imports-requires-2 c = subst (λ (lines : List Priced). AreBetween lines (length c.args.numbers.now)) (sym c.deref-2.ensures.value) c.requires.flow
