use Rattle.std.proofs.Common.{◌≡◌, ◌++◌, map}
use Rattle.std.specs.List.{flat_map}
use Rattle.ob_board.specs.Unresolved.{unresolved_model}
use Rattle.ob_board.proofs.unresolved_list.concatenate_rows.Given as goal

abbrev pub invariant-loop-found : goal.invariant-loop-found
invariant-loop-found g l = map unresolved_model l.rows.items ++ flat_map (λ f. f.rows) l.found-iterator.rest.items ≡ flat_map (λ f. f.rows) l.fn.all.items
