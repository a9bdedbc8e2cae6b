use Rattle.std.proofs.Common.{◌≡◌, ℕ}
use Rattle.std.specs.Prelude.{take, IsSome}
use Rattle.std.specs.List.{filter}
use Rattle.ob_interface.specs.Interfaces.{is_part_by, module_level_by}
use Rattle.ob_interface.proofs.type_exprs.module_level_parts.Given as goal

abbrev pub invariant-loop-i : goal.invariant-loop-i
invariant-loop-i l = (k : ℕ) → IsSome (module_level_by l.decl_groups k) → filter (is_part_by k) l.own.items ≡ filter (is_part_by k) (take l.i l.parts)
