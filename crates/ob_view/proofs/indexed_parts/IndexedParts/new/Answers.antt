-- The index is the result of its function.
use Rattle.std.proofs.Common.{refl}
use Rattle.ob_view.proofs.indexed_parts.IndexedParts.new.Goals as goal

pub invariant_of-result : goal.invariant_of-result
invariant_of-result c = record {
  in_text = c.requires.in_text;
  bounded = record { imports = c.rows_are_bounded.ensures.imports; reached = c.requires.module_numbers };
  imported_modules_exact = c.in_ok-imported_modules.ensures;
}

pub returns : goal.returns
returns c = refl
