-- The first index of a name.
use Rattle.std.proofs.Common.{◌≡◌, ℕ, ◌<◌, List, [], length, get_or, Some, map, refl, arith}
use Rattle.std.specs.List.{position, position_or_len}
use Rattle.std.proofs.lemmas.Bool.{ltb-true, lt-ltb, false_from_ne_true}
use Rattle.std.proofs.lemmas.Option.{cond_some}
use Rattle.std.proofs.lemmas.Slice.Eq.{bytes_eq-Decides}
use Rattle.std.proofs.lemmas.List.Sums.{passes_at_first, position_or_len_is}
use Rattle.digraph.proofs.Names.{position-map}
use Rattle.cut_net.specs.Network.{Network, name_of, index_of}
use Rattle.cut_net.proofs.Search.{AreApart}
use Rattle.std.specs.Str.{bytes_eq}
use Rattle.std.specs.String.{string_bytes}
use Rattle.std.specs.Prelude.{String}

pub position_named : {Z : Type 0} (name : List ℕ) (names : List (String Z)) → position (λ x. bytes_eq x name) (map string_bytes names) ≡ position (λ x. bytes_eq (string_bytes x) name) names
position_named name names = position-map (λ x. bytes_eq x name) string_bytes names

pub index_takes : (net : Network) (name : List ℕ) (i : ℕ) → index_of net name ≡ Some i → (i < length net.names) × (name_of net i ≡ name)
index_takes net name i e =
    let p = cond_some _ _ _ e in
    let lt : position_or_len (λ x. bytes_eq x name) net.names < length net.names = ltb-true _ _ p.0 in
    let same = (bytes_eq-Decides (get_or net.names (position_or_len (λ x. bytes_eq x name) net.names) []) name).0 (passes_at_first (λ x. bytes_eq x name) net.names [] lt) in
    (rw (← p.1) lt, rw (← p.1) same)

pub index_again : (net : Network) (i : ℕ) → AreApart net.names → i < length net.names → index_of net (name_of net i) ≡ Some i
index_again net i apart lt =
    let name = name_of net i in
    let place : position_or_len (λ x. bytes_eq x name) net.names ≡ i =
    position_or_len_is (λ x. bytes_eq x name) net.names i [] (omega arith)
    (λ k below. false_from_ne_true _ (λ e. apart k i below lt ((bytes_eq-Decides (get_or net.names k []) name).0 e)))
    (λ _. (bytes_eq-Decides name name).1 refl) in
    rw (place, lt-ltb _ _ lt) refl
