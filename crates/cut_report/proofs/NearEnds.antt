-- The modules of an import that a network has, and of their names.
use Rattle.std.proofs.Common.{◌≡◌, ℕ, ◌<◌, List, length, get_or, Some, subst}
use Rattle.std.specs.Prelude.{Contains}
use Rattle.std.proofs.lemmas.List.{get_or_default}
use Rattle.cut_net.specs.declared.priced.Priced.{Priced}
use Rattle.cut_net.specs.Network.{Network, index_of, name_of, missing_item}
use Rattle.cut_net.specs.WellFormed.{IsNetwork}
use Rattle.cut_net.proofs.Places.{index_again}
use Rattle.cut_report.proofs.NameOrder.{apart}

pub ends_low : (net : Network) (imports : List Priced) (k : ℕ) → IsNetwork net → imports ≡ net.imports → k < length imports →
    ((get_or imports k missing_item).from < length net.names) × ((get_or imports k missing_item).to < length net.names)
ends_low net imports k w is low = w.between (get_or imports k missing_item)
    (subst (λ v. Contains v (get_or imports k missing_item)) is (k, low, get_or_default imports k (get_or imports k missing_item) missing_item low))

pub number_is : (net : Network) (i : ℕ) (name : List ℕ) → IsNetwork net → i < length net.names → name_of net i ≡ name → index_of net name ≡ Some i
number_is net i name w low is = subst (λ n. index_of net n ≡ Some i) is (index_again net i (apart net.names w.names_ascend) low)
