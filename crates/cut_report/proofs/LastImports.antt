-- The last of a list of imports.
use Rattle.std.proofs.Common.{◌≡◌, ◌-◌, List, [], ◌∷◌, length, Some, None, refl, arith}
use Rattle.std.specs.Prelude.{slice_get}
use Rattle.cut_net.specs.declared.priced.Priced.{Priced}
use Rattle.cut_report.specs.Builders.{last_import}

at_end : (p : Priced) (ps : List Priced) → slice_get (p ∷ ps) (length ps) ≡ last_import (Some p) ps
at_end p [] = refl
at_end p (q ∷ ps) = at_end q ps

pub last_is : (ps : List Priced) → slice_get ps (length ps - 1) ≡ last_import None ps
last_is [] = refl
last_is (p ∷ ps) = let n : length (p ∷ ps) - 1 ≡ length ps = omega arith in rw n (at_end p ps)
