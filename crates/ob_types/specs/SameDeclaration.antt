-- Equality of type declarations.
use Rattle.std.specs.Prelude.{◌==◌, ◌&&◌, Bool, false}
use Rattle.ob_types.specs.declared.nodes.Named.{Named}
use Rattle.ob_types.specs.declared.nodes.Named.TheVariants as named

-- whether the two are the same type declaration: of the module itself with the same token, or of a reached module with the same two indexes
unfoldable pub same : Named → Named → Bool
same (named.Own a) (named.Own b) = a == b
same (named.Own a) (named.Other i d) = false
same (named.Other i d) (named.Own b) = false
same (named.Other i d) (named.Other j e) = i == j && d == e
