use Rattle.std.proofs.Common.{arith}
use Rattle.module_table.specs.declared.rows.Import.{Import}
use Rattle.ob_resolve.proofs.Within.{place_fits}
use Rattle.ob_resolve.proofs.identifier_reference.item_number.Goals as goal

pub overflow_cast-result : goal.overflow_cast-result
overflow_cast-result c = omega (arith, place_fits (λ (i : Import). i.alias) c.args.imports.now c.args.position _ _ c.requires.ascend c.requires.within c.element_fits.fits)
