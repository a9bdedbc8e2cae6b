-- Modules in order of their numbers are in order of their names.
use Rattle.std.proofs.Common.{◌≡◌, ℕ, ◌<◌, false, eqb, ltb, ne_eqb, eq-eqb, List, [], length, get_or, Some, refl, sym, ap, subst, ◌∙◌, arith, inl, inr, Ordering}
use Rattle.std.specs.Str.{bytes_eq}
use Rattle.std.specs.Ordering.{nat_cmp, is_lt, ordering_reverse}
use Rattle.std.specs.Cmp.Lexicographic.{slice_cmp}
use Rattle.std.specs.declared.cmp.Ordering.TheVariants.{Less, Equal, Greater}
use Rattle.std.proofs.lemmas.Bool.{cases_order, lt-ltb, le-ltb, false_from_ne_true}
use Rattle.std.proofs.lemmas.Cmp.{nat_list_cmp_total}
use Rattle.std.proofs.lemmas.List.{get_or_default}
use Rattle.std.proofs.lemmas.Map.Keys.{Less-from_sorted}
use Rattle.std.proofs.lemmas.Slice.Eq.{bytes_eq-Decides}
use Rattle.cut_net.specs.declared.priced.Priced.{Priced}
use Rattle.cut_net.specs.Network.{Network, name_of, index_of}
use Rattle.cut_net.specs.Lines.{comes_before}
use Rattle.cut_net.specs.WellFormed.{AreNamesInOrder}
use Rattle.cut_report.specs.ReportLines.{IsModuleName, pair_is_before}
use Rattle.cut_net.proofs.Search.{AreApart}
use Rattle.cut_net.proofs.Places.{index_takes, index_again}

-- a name isn't below itself
itself : (name : List ℕ) (o : Ordering) → slice_cmp nat_cmp name name ≡ o → is_lt o ≡ false
itself name Less e =
    let other = nat_list_cmp_total.antisymm name name in
    let bad : Less ≡ Greater = sym e ∙ other ∙ ap ordering_reverse e in
    cc
itself name Equal e = refl
itself name Greater e = refl

above : (a b : List ℕ) → slice_cmp nat_cmp b a ≡ Less → is_lt (slice_cmp nat_cmp a b) ≡ false
above a b e = rw (nat_list_cmp_total.antisymm a b, e) refl

less_is : (net : Network) (i j : ℕ) → AreNamesInOrder net.names → i < length net.names → j < length net.names → is_lt (slice_cmp nat_cmp (name_of net i) (name_of net j)) ≡ ltb i j
less_is net i j h lt1 lt2 =
    elim (cases_order i j) [
      | inl same ↦ rw (← same, le-ltb i i (omega arith)) (itself (name_of net i) _ refl)
      | inr (inl below) ↦ rw (lt-ltb i j below, Less-from_sorted (slice_cmp nat_cmp) net.names i j [] h below lt2) refl
      | inr (inr over) ↦ rw (le-ltb i j (omega arith)) (above (name_of net i) (name_of net j) (Less-from_sorted (slice_cmp nat_cmp) net.names j i [] h over lt1))
    ]

-- no name occurs twice
pub apart : (names : List (List ℕ)) → AreNamesInOrder names → AreApart names
apart names h i j below lt e =
    let less = Less-from_sorted (slice_cmp nat_cmp) names i j [] h below lt in
    let one : slice_cmp nat_cmp (get_or names j []) (get_or names j []) ≡ Less = rw e at less in
    let other = nat_list_cmp_total.antisymm (get_or names j []) (get_or names j []) in
    let bad : Less ≡ Greater = sym one ∙ other ∙ ap ordering_reverse one in
    cc

same_is : (net : Network) (i j : ℕ) → AreNamesInOrder net.names → i < length net.names → j < length net.names → bytes_eq (name_of net i) (name_of net j) ≡ eqb i j
same_is net i j h lt1 lt2 =
    elim (cases_order i j) [
      | inl same ↦ rw (← same, eq-eqb i i refl) ((bytes_eq-Decides (name_of net i) (name_of net i)).1 refl)
      | inr (inl below) ↦ rw (ne_eqb i j (omega arith)) (false_from_ne_true _ (λ e. apart net.names h i j below lt2 ((bytes_eq-Decides (name_of net i) (name_of net j)).0 e)))
      | inr (inr over) ↦ rw (ne_eqb i j (omega arith)) (false_from_ne_true _ (λ e. apart net.names h j i over lt1 (sym ((bytes_eq-Decides (name_of net i) (name_of net j)).0 e))))
    ]

-- the modules are those of the network
pub record AreIn (net : Network) (p : Priced) : Type 0 where
  pub from : p.from < length net.names
  pub to : p.to < length net.names

pub before_is : (net : Network) (p q : Priced) → AreNamesInOrder net.names → AreIn net p → AreIn net q
    → pair_is_before (name_of net p.from) (name_of net p.to) (name_of net q.from) (name_of net q.to) ≡ comes_before p q
before_is net p q h a b =
    rw (less_is net p.from q.from h a.from b.from, same_is net p.from q.from h a.from b.from, less_is net p.to q.to h a.to b.to) refl

-- the network has a name that it has a number for
pub known_from_index : (net : Network) (name : List ℕ) (i : ℕ) → index_of net name ≡ Some i → IsModuleName net name
known_from_index net name i e =
    let p = index_takes net name i e in
    (i, p.0, get_or_default net.names i name [] p.0 ∙ p.1)

pub name_known : (net : Network) (i : ℕ) → i < length net.names → IsModuleName net (name_of net i)
name_known net i lt = (i, lt, get_or_default net.names i (name_of net i) [] lt)

pub index_from_known : (net : Network) (name : List ℕ) → AreNamesInOrder net.names → IsModuleName net name → (i : ℕ) × (index_of net name ≡ Some i)
index_from_known net name h k =
    let same : name_of net k.0 ≡ name = sym (get_or_default net.names k.0 name [] k.1) ∙ k.2 in
    (k.0, subst (λ (n : List ℕ). index_of net n ≡ Some k.0) same (index_again net k.0 (apart net.names h) k.1))
