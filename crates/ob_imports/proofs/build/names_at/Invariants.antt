use Rattle.std.proofs.Common.{◌≡◌, [], get_or, map, take}
use Rattle.ob_imports.specs.Names.{names_by, texts}
use Rattle.ob_imports.proofs.build.names_at.Given as goal

abbrev pub invariant-loop-place : goal.invariant-loop-place
invariant-loop-place l = texts l.named.items ≡ map (λ r. get_or (names_by (texts l.names) l.order) r []) (take l.place-index l.places)
