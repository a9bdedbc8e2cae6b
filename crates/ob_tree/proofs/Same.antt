-- Equality of kinds.
use Rattle.std.proofs.Common.{◌≡◌, true, refl}
use denote.Enum.Bare.{same_true, true_same}
use Rattle.ob_scan.specs.contracts.kind.Kind.{the_type}
use Rattle.ob_scan.specs.declared.kind.Kind.{Kind}
use Rattle.ob_tree.specs.Leaves.{kind_eq}

pub same_is : (j k : Kind) → kind_eq j k ≡ true → j ≡ k
same_is j k e = same_true the_type _ j k e

pub is_same : (k : Kind) → kind_eq k k ≡ true
is_same k = true_same the_type k k refl
