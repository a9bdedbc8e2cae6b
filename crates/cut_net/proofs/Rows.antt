-- Worked rows, as bytes: lines of a network.
use Rattle.std.proofs.Common.{◌≡◌, refl, arith}
use Rattle.std.specs.Prelude.{codes}
use Rattle.std.specs.Fmt.{decimal}
use Rattle.std.proofs.lemmas.Fmt.{decimal_digit}
use Rattle.cut_net.specs.NetText.{net_line, Module, Import}

two : decimal 2 ≡ codes "2"
two = decimal_digit 2 (omega arith)

import_line : net_line (Import (codes "A") (codes "M") 2) ≡ codes "import A M 2"
import_line = simp two

module_line : net_line (Module (codes "A")) ≡ codes "module A"
module_line = refl
