-- The derived `==` of type declarations is `same`.
use Rattle.std.proofs.Common.{◌≡◌, refl}
use Rattle.ob_types.specs.contracts.nodes.NamedPartialEq.TheImpl as derived
use Rattle.ob_types.specs.declared.nodes.Named.{Named}
use Rattle.ob_types.specs.declared.nodes.Named.TheVariants as named
use Rattle.ob_types.specs.SameDeclaration.{same}

pub eq-same : (a b : Named) → (derived.eq-value).it a b ≡ same a b
unfolding same
eq-same (named.Own a) (named.Own b) = refl
eq-same (named.Own a) (named.Other i d) = refl
eq-same (named.Other i d) (named.Own b) = refl
eq-same (named.Other i d) (named.Other j e) = refl

pub eq_is_same : (derived.eq-value).it ≡ same
eq_is_same = λ i. λ a b. eq-same a b i
