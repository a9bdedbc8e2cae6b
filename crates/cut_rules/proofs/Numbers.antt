-- Numbers of names.
use Rattle.std.proofs.Common.{◌≡◌, ℕ, ◌+◌, ◌<◌, inl, inr, true, false, not, Bool, List, [], length, get_or, Option, Some, None, refl, sym, ap, ◌∙◌, arith}
use Rattle.std.specs.Prelude.{◌↔◌, Contains, IfSome, is_some, option_map}
use Rattle.std.specs.List.{position_or_len}
use Rattle.std.specs.Str.{bytes_eq}
use Rattle.std.proofs.lemmas.Bool.{cases_lt, lt-ltb}
use Rattle.std.proofs.lemmas.List.{get_or_default}
use Rattle.std.proofs.lemmas.List.Sums.{fails_before_first}
use Rattle.std.proofs.lemmas.Slice.Eq.{bytes_eq-Decides}
use Rattle.texts.proofs.FieldCuts.{some_is}
use Rattle.digraph.specs.Marks.{marked}
use Rattle.cut_net.specs.Network.{Network, index_of, name_of, unpinned}
use Rattle.cut_net.specs.WellFormed.{IsNetwork}
use Rattle.cut_net.proofs.Noting.{names_apart}
use Rattle.cut_net.proofs.Places.{index_again, index_takes}
use Rattle.cut_rules.specs.declared.names.Names.{Names}
use Rattle.cut_rules.specs.Names.{index_among, names_in, AreNames, IsDeclaredName, IsKnownName}
use Rattle.cut_rules.specs.Builders.{number_by, number_of}

-- ---- names

module _ (net : Network) (name : List ℕ) where
  pub is_module : (i : ℕ) → index_of net name ≡ Some i → Contains net.names name
  is_module i e = let p = index_takes net name i e in (i, p.0, sym (get_or_default net.names i [] name p.0) ∙ p.1)

  pub no_module : index_of net name ≡ None → Contains net.names name → ⊥
  no_module e (k, lt, is) =
      let test : List ℕ → Bool = λ x. bytes_eq x name in
      elim (cases_lt (position_or_len test net.names) (length net.names)) [
        | inl below ↦ let some : Some (position_or_len test net.names) ≡ None = rw (lt-ltb _ _ below) at e in cc
        | inr above ↦
            let fails : bytes_eq (get_or net.names k name) name ≡ false = fails_before_first test net.names k name (omega arith) in
            let passes : bytes_eq (get_or net.names k name) name ≡ true = (bytes_eq-Decides (get_or net.names k name) name).1 is in
            let e : true ≡ false = sym passes ∙ fails in cc
      ]

-- whether there is one, by the tests
pub some_there : (o : Option ℕ) → is_some o ≡ true → (i : ℕ) × (o ≡ Some i)
some_there (Some i) e = (i, refl)
some_there None e = cc

pub not_none : (o : Option ℕ) (none : Bool) → is_some o ≡ not none → none ≡ false → is_some o ≡ true
not_none o none e some = e ∙ ap not some

pub none_there_by : (o : Option ℕ) → is_some o ≡ false → o ≡ None
none_there_by (Some i) e = cc
none_there_by None e = refl

pub no_some : (o : Option ℕ) → ((i : ℕ) → o ≡ Some i → ⊥) → o ≡ None
no_some (Some i) h = absurd (h i refl)
no_some None h = refl

-- ---- numbers of names

module _ (net : Network) (sets : List (List ℕ)) (name : List ℕ) where
  abbrev place : Option ℕ
  place = index_of (unpinned sets []) name

  pub number_behind : index_of net name ≡ None → number_of net sets name ≡ option_map (λ k. length net.names + k) place
  number_behind none = ap (λ (o : Option ℕ). number_by (length net.names) o place) none

  pub number_module : (i : ℕ) → index_of net name ≡ Some i → number_of net sets name ≡ Some i
  number_module i e = ap (λ (o : Option ℕ). number_by (length net.names) o place) e

  pub set_numbered : (k : ℕ) → index_of net name ≡ None → place ≡ Some k → number_of net sets name ≡ Some (length net.names + k)
  set_numbered k none present = number_behind none ∙ ap (option_map (λ k. length net.names + k)) present

  -- a set has an index
  pub set_placed : Contains sets name → place ≡ None → ⊥
  set_placed has missing = no_module (unpinned sets []) name missing has

-- the index of a set is that of one of as many
pub within : {X : Type 0} (sets : List (List ℕ)) (name : List ℕ) (place : Option ℕ) (xs : List X) → index_of (unpinned sets []) name ≡ place → length xs ≡ length sets → IfSome place (λ s. s < length xs)
within sets name (Some s) xs e long = let took = index_takes (unpinned sets []) name s e in omega arith
within sets name None xs e long = tt

-- a name that is no module's has no number
pub not_there : (net : Network) (name : List ℕ) → (Contains net.names name → ⊥) → index_of net name ≡ None
not_there net name apart = by (index_of net name) refl
  where
    by : (o : Option ℕ) → index_of net name ≡ o → o ≡ None
    by (Some i) e = absurd (apart (is_module net name i e))
    by None e = refl

-- ---- what rules name

module _ (net : Network) (pieces : List (List ℕ)) (names : Names) (elements : AreNames net pieces names) (name : List ℕ) where
  -- a module's index among the names is its number
  pub module_index : (o : Option ℕ) → o ≡ index_among names.modules.keys name → index_of net name ≡ o
  module_index o e = ap (λ (ns : List (List ℕ)). index_of (unpinned ns []) name) (sym elements.modules) ∙ sym e

  pub set_apart : (k : ℕ) → index_among names.sets.keys name ≡ Some k → index_of net name ≡ None
  set_apart k e = not_there net name (elements.sets.apart name (is_module (unpinned (names_in names.sets.keys) []) name k e))

  -- one with a mark is the name of a set
  pub set_known : (k : ℕ) → index_among names.sets.keys name ≡ Some k → marked names.declared.items k ≡ true → IsDeclaredName net pieces name
  set_known k e is = inr ((elements.declared.elements name k e).0 is)

  -- one without a mark isn't, if it was noted
  pub unknown : index_of net name ≡ None → ((k : ℕ) → index_among names.sets.keys name ≡ Some k → marked names.declared.items k ≡ false) → IsKnownName net names.sets.keys name → IsDeclaredName net pieces name → ⊥
  unknown none missing (inl here) known = no_module net name none here
  unknown none missing (inr here) (inl own) = no_module net name none own
  unknown none missing (inr here) (inr set) = by (index_among names.sets.keys name) refl
    where
      by : (o : Option ℕ) → index_among names.sets.keys name ≡ o → ⊥
      by (Some k) e = let bad : true ≡ false = sym ((elements.declared.elements name k e).1 set) ∙ missing k e in cc
      by None e = set_placed net (names_in names.sets.keys) name here e

-- a number is that of one name
pub number_once : (net : Network) (sets : List (List ℕ)) (x y : List ℕ) (k : ℕ) → number_of net sets x ≡ Some k → number_of net sets y ≡ Some k → x ≡ y
number_once net sets x y k a b = by (index_of net x) (index_of net y) (index_of (unpinned sets []) x) (index_of (unpinned sets []) y) refl refl refl refl a b
  where
    names : List (List ℕ)
    names = net.names

    by : (m n p q : Option ℕ) → index_of net x ≡ m → index_of net y ≡ n → index_of (unpinned sets []) x ≡ p → index_of (unpinned sets []) y ≡ q → number_by (length net.names) m p ≡ Some k → number_by (length net.names) n q ≡ Some k → x ≡ y
    by (Some m) (Some n) p q em en ep eq a b =
        let same : m ≡ n = some_is m k a ∙ sym (some_is n k b) in
        sym (index_takes net x m em).1 ∙ ap (name_of net) same ∙ (index_takes net y n en).1
    by (Some m) None p (Some j) em en ep eq a b =
        let low = (index_takes net x m em).0 in
        let e = some_is m k a in let f = some_is (length net.names + j) k b in
        absurd (omega arith)
    by (Some m) None p None em en ep eq a b = absurd cc
    by None (Some n) (Some i) q em en ep eq a b =
        let low = (index_takes net y n en).0 in
        let e = some_is n k b in let f = some_is (length net.names + i) k a in
        absurd (omega arith)
    by None (Some n) None q em en ep eq a b = absurd cc
    by None None (Some i) (Some j) em en ep eq a b =
        let e = some_is (length net.names + i) k a in let f = some_is (length net.names + j) k b in
        let same : i ≡ j = omega arith in
        sym (index_takes (unpinned sets []) x i ep).1 ∙ ap (name_of (unpinned sets [])) same ∙ (index_takes (unpinned sets []) y j eq).1
    by None None None q em en ep eq a b = absurd cc
    by None None (Some i) None em en ep eq a b = absurd cc

-- a module's number is that of its name alone
module _ (net : Network) (network : IsNetwork net) (sets : List (List ℕ)) where
  abbrev nodes : ℕ
  nodes = length net.names

  -- the module of a name has its number
  pub named_at : (m : ℕ) → m < nodes → index_of net (name_of net m) ≡ Some m
  named_at m low = index_again net m (names_apart net.names network.names_ascend) low

  pub own_number : (x : List ℕ) (number m : ℕ) → m < nodes → number_of net sets x ≡ Some number → (number ≡ m) ↔ (name_of net m ≡ x)
  own_number x number m low is = by (index_of net x) (index_of (unpinned sets []) x) refl refl is
    where
      by : (o p : Option ℕ) → index_of net x ≡ o → index_of (unpinned sets []) x ≡ p → number_by nodes o p ≡ Some number → (number ≡ m) ↔ (name_of net m ≡ x)
      by (Some i) p e f is =
          let same : i ≡ number = some_is i number is in
          let took = index_takes net x i e in (
            λ own. ap (name_of net) (sym own ∙ sym same) ∙ took.1,
            λ named.
                let again : Some m ≡ Some i = sym (index_again net m (names_apart net.names network.names_ascend) low) ∙ ap (index_of net) named ∙ e in
                sym same ∙ sym (some_is m i again),
          )
      by None (Some k) e f is =
          let at : nodes + k ≡ number = some_is (nodes + k) number is in (
            λ own. absurd (omega arith),
            λ named. absurd (let again : Some m ≡ None = sym (index_again net m (names_apart net.names network.names_ascend) low) ∙ ap (index_of net) named ∙ e in cc),
          )
      by None None e f is = absurd cc

-- a module is one of the names
pub is_name_of : (net : Network) (name : List ℕ) (m : ℕ) → m < length net.names → name_of net m ≡ name → Contains net.names name
is_name_of net name m low e = (m, low, sym (get_or_default net.names m [] name low) ∙ e)

pub has_number : (net : Network) (name : List ℕ) → Contains net.names name → (m : ℕ) × (m < length net.names) × (name_of net m ≡ name)
has_number net name (m, low, e) = (m, low, get_or_default net.names m [] name low ∙ e)
