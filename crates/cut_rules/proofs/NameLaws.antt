-- Names in tables, and the lines that declare them.
use Rattle.std.proofs.Common.{◌≡◌, ℕ, ◌+◌, ◌<◌, ◌≤◌, ◌⊎◌, inl, inr, Bool, true, false, cond, not, List, [], ◌∷◌, ◌++◌, length, get_or, set, take, get_or-take, length-take, Some, None, refl, sym, ap, ◌∙◌, subst, arith}
use Rattle.std.specs.Prelude.{◌↔◌, Contains}
use Rattle.std.specs.List.{list_any, position, prefix_len}
use Rattle.std.specs.Str.{bytes_eq}
use Rattle.std.proofs.lemmas.Bool.{cases_Bool, cases_eq, cases_lt, false≢true, or_cases}
use Rattle.std.proofs.lemmas.List.{get_or-set_other, get_or-set_same, get_or_default, length-map, length-set, map_push, take_more}
use Rattle.std.proofs.lemmas.List.Elements.{Contains-append_left, Contains-push, Contains-push_cases}
use Rattle.std.proofs.lemmas.Option.{option_and_then_some}
use Rattle.std.specs.Prelude.{option_and_then}
use Rattle.std.proofs.lemmas.Slice.Eq.{bytes_eq-Decides}
use Rattle.digraph.specs.Marks.{marked}
use Rattle.digraph.proofs.Members.{first_member, later_member}
use Rattle.digraph.proofs.Names.{position-map}
use Rattle.indexmap.specs.IndexSet.{insert_key}
use Rattle.text_hash.specs.declared.name.Name.{Name}
use Rattle.texts.proofs.FieldCuts.{some_is}
use Rattle.cut_net.specs.Network.{Network, index_of, name_of, unpinned}
use Rattle.cut_net.specs.WellFormed.{IsNetwork}
use Rattle.cut_net.proofs.Places.{index_takes}
use Rattle.cut_rules.specs.declared.rule.RuleKind.{RuleKind}
use Rattle.cut_rules.specs.RuleLines.{RuleLine, Adds, Allow, Restricts, IsPieceAt, States}
use Rattle.cut_rules.specs.LineReading.{names_of_rule, rule_line_of, rule_of, set_of}
use Rattle.cut_rules.specs.Rules.{IsRule}
use Rattle.cut_rules.specs.Names.{index_among, names_in, AreDeclared, IsWithinRuleLimit, AreLinesOf, AreRuleNames, IsKnownName}
use Rattle.cut_rules.specs.Builders.{IsSetWithin}
use Rattle.cut_rules.proofs.LineLaws.{line_again, line_takes}
use Rattle.cut_rules.proofs.LineLists.{lines_push, lines_same, not_few}
use Rattle.cut_rules.proofs.Numbers.{named_at}
use Rattle.cut_rules.proofs.Pieces.{all_sets, says_here, says_low, sets_next, spelled_here}

none_is : {A : Type 0} {a : A} → Some a ≡ None → ⊥
none_is e = cc

-- ---- the index of a name

symmetric : (a b : List ℕ) → bytes_eq a b ≡ bytes_eq b a
symmetric a b = elim (cases_Bool (bytes_eq a b)) [
  | inl same ↦ same ∙ sym ((bytes_eq-Decides b a).1 (sym ((bytes_eq-Decides a b).0 same)))
  | inr differs ↦ elim (cases_Bool (bytes_eq b a)) [
    | inl same ↦ absurd (let bad : true ≡ false = sym ((bytes_eq-Decides a b).1 (sym ((bytes_eq-Decides b a).0 same))) ∙ differs in cc)
    | inr also ↦ differs ∙ sym also
  ]
]

prefix_len_same : (name : List ℕ) (xs : List (List ℕ)) → prefix_len (λ x. not (bytes_eq name x)) xs ≡ prefix_len (λ x. not (bytes_eq x name)) xs
prefix_len_same name [] = refl
prefix_len_same name (x ∷ xs) = rw (symmetric name x) (ap (λ (n : ℕ). cond (not (bytes_eq x name)) (1 + n) 0) (prefix_len_same name xs))

-- the test of a table takes its two names the other way round
pub index_is : (names : List Name) (name : List ℕ) → position (λ (n : Name). bytes_eq name n.bytes.now) names ≡ index_among names name
index_is names name = sym (position-map (bytes_eq name) (λ (n : Name). n.bytes.now) names) ∙ rw (prefix_len_same name (names_in names)) refl

-- ---- a name that is added

-- whether two keys are equal
abbrev pub same_name : Name → Name → Bool
same_name a b = bytes_eq a.bytes.now b.bytes.now

any_name : (name : List ℕ) (names : List Name) → list_any (λ (n : Name). bytes_eq name n.bytes.now) names ≡ true → Contains (names_in names) name
any_name name [] e = absurd (false≢true e)
any_name name (n ∷ names) e = elim (or_cases _ _ e) [
  | inl here ↦ first_member n.bytes.now (names_in names) name (sym ((bytes_eq-Decides name n.bytes.now).0 here))
  | inr later ↦ later_member n.bytes.now (names_in names) name (any_name name names later)
]

module _ (old new : List Name) (key : Name) (is : new ≡ insert_key same_name old key) where
  pub inserted : (new ≡ old) × Contains (names_in old) key.bytes.now ⊎ (names_in new ≡ names_in old ++ key.bytes.now ∷ [])
  inserted = elim (cases_Bool (list_any (same_name key) old)) [
    | inl present ↦ inl (is ∙ rw present refl, any_name key.bytes.now old present)
    | inr absent ↦ inr (ap names_in is ∙ rw absent (map_push (λ (n : Name). n.bytes.now) old key))
  ]

  pub insert_keeps : (x : List ℕ) → Contains (names_in old) x → Contains (names_in new) x
  insert_keeps x has = elim inserted [
    | inl (same, present) ↦ subst (λ (ks : List Name). Contains (names_in ks) x) (sym same) has
    | inr more ↦ rw more (Contains-append_left (names_in old) (key.bytes.now ∷ []) x has)
  ]

  pub insert_adds : Contains (names_in new) key.bytes.now
  insert_adds = elim inserted [
    | inl (same, present) ↦ subst (λ (ks : List Name). Contains (names_in ks) key.bytes.now) (sym same) present
    | inr more ↦ rw more (Contains-push (names_in old) key.bytes.now)
  ]

  pub insert_only : (x : List ℕ) → Contains (names_in new) x → Contains (names_in old) x ⊎ (key.bytes.now ≡ x)
  insert_only x has = elim inserted [
    | inl (same, present) ↦ inl (subst (λ (ks : List Name). Contains (names_in ks) x) same has)
    | inr more ↦ Contains-push_cases (names_in old) key.bytes.now x (rw more at has)
  ]

-- the next module
pub module_added : (net : Network) → IsNetwork net → (node : ℕ) → node < length net.names → (old new : List Name) (key : Name) → key.bytes.now ≡ name_of net node → new ≡ insert_key same_name old key → names_in old ≡ take node net.names → names_in new ≡ take (node + 1) net.names
module_added net network node low old new key named is before = elim (inserted old new key is) [
  | inl (same, present) ↦
      let (k, lt, at) = subst (λ (ns : List (List ℕ)). Contains ns key.bytes.now) before present in
      let short = length-take node net.names in
      let less : k < node = omega arith in
      let here : name_of net k ≡ name_of net node = sym (get_or-take node net.names k [] less) ∙ get_or_default (take node net.names) k [] key.bytes.now lt ∙ at ∙ named in
      let e : k ≡ node = some_is k node (sym (named_at net network [] k (omega arith)) ∙ ap (index_of net) here ∙ named_at net network [] node low) in
      absurd (omega arith)
  | inr more ↦ more ∙ ap (λ (ns : List (List ℕ)). ns ++ key.bytes.now ∷ []) before ∙ ap (λ (x : List ℕ). take node net.names ++ x ∷ []) named ∙ sym (take_more net.names node [] low)
]

-- ---- the names in rules

-- the first lines name these in rules
pub record AreNotedWithin (net : Network) (pieces : List (List ℕ)) (count : ℕ) (names : List Name) : Type 0 where
  pub noted : (line : ℕ) (kind : RuleKind) (x y : List ℕ) → line ≤ count → IsWithinRuleLimit pieces line → States pieces line (Restricts kind x y) → IsKnownName net names x × IsKnownName net names y
  pub apart : (x : List ℕ) → Contains (names_in names) x → Contains net.names x → ⊥

pub none_noted : (net : Network) (pieces : List (List ℕ)) → AreNotedWithin net pieces 0 []
none_noted net pieces = record {
  noted = λ line kind x y le few says. absurd (let low = (says_low pieces line (Restricts kind x y) says).0 in omega arith);
  apart = λ x (k, lt, is). absurd (omega arith);
}

pub all_noted : (net : Network) (pieces : List (List ℕ)) (count : ℕ) (names : List Name) → count ≡ length pieces → AreNotedWithin net pieces count names → AreRuleNames net pieces names
all_noted net pieces count names all elements = record {
  noted = λ line kind x y few says. elements.noted line kind x y (let high = (says_low pieces line (Restricts kind x y) says).1 in omega arith) few says;
  apart = elements.apart;
}

module _ (pieces : List (List ℕ)) (count : ℕ) (piece : List ℕ) (at : IsPieceAt pieces (count + 1) piece) where
  of_rule : (x y : List ℕ) (l : RuleLine) → States pieces (count + 1) l → names_of_rule l ≡ Some (x, y) → IsRule pieces (count + 1)
  of_rule x y (Adds t selector) says e = absurd cc
  of_rule x y (Restricts kind u v) says e = (kind, u, v, says)
  of_rule x y (Allow m n) says e = absurd cc

  rule_here : (x y : List ℕ) → rule_of piece ≡ Some (x, y) → IsRule pieces (count + 1)
  unfolding rule_of
  rule_here x y e = option_and_then_some names_of_rule (rule_line_of piece) (x, y) e (λ l h e. of_rule x y l (says_here pieces count piece at l (line_takes piece l h)) e)

  rule_there : (kind : RuleKind) (x y : List ℕ) → States pieces (count + 1) (Restricts kind x y) → rule_of piece ≡ Some (x, y)
  unfolding rule_of
  rule_there kind x y says = ap (option_and_then names_of_rule) (line_again piece (Restricts kind x y) (spelled_here pieces count piece at (Restricts kind x y) says))

  -- a line that is a rule
  pub rule_counted : (x y : List ℕ) (lines : List ℕ) → rule_of piece ≡ Some (x, y) → AreLinesOf (IsRule pieces) count lines → AreLinesOf (IsRule pieces) (count + 1) (lines ++ (count + 1) ∷ [])
  rule_counted x y lines e elements = lines_push (IsRule pieces) count lines elements (rule_here x y e)

  pub rule_noted : (net : Network) (x y : List ℕ) (lines : List ℕ) (old new : List Name) → rule_of piece ≡ Some (x, y) → AreLinesOf (IsRule pieces) count lines → ((z : List ℕ) → Contains (names_in old) z → Contains (names_in new) z)
      → (length lines ≤ 4096 → IsKnownName net new x × IsKnownName net new y) → ((z : List ℕ) → Contains (names_in new) z → Contains (names_in old) z ⊎ (Contains net.names z → ⊥)) → AreNotedWithin net pieces count old → AreNotedWithin net pieces (count + 1) new
  rule_noted net x y lines old new e elements retained noted apart was = record {
    noted = λ line kind u v le few says. elim (cases_eq line (count + 1)) [
      | inl here ↦
          let same = some_is (x, y) (u, v) (sym e ∙ rule_there kind u v (subst (λ (l : ℕ). States pieces l (Restricts kind u v)) here says)) in
          let first : x ≡ u = ap (λ (p : List ℕ × List ℕ). p.0) same in
          let second : y ≡ v = ap (λ (p : List ℕ × List ℕ). p.1) same in
          let both = noted (low line here few) in
          (subst (IsKnownName net new) first both.0, subst (IsKnownName net new) second both.1)
      | inr ne ↦ let both = was.noted line kind u v (omega (arith, ne)) few says in (on u both.0, on v both.1)
    ];
    apart = λ z has own. elim (apart z has) [ inl before ↦ was.apart z before own | inr none ↦ none own ];
  }
    where
      low : (line : ℕ) → line ≡ count + 1 → IsWithinRuleLimit pieces line → length lines ≤ 4096
      low line here few = elim (cases_lt 4096 (length lines)) [ inl many ↦ absurd (not_few pieces count lines elements many line here few) | inr le ↦ le ]

      on : (z : List ℕ) → IsKnownName net old z → IsKnownName net new z
      on z (inl own) = inl own
      on z (inr has) = inr (retained z has)

  -- a line that is none
  no_rule_here : rule_of piece ≡ None → IsRule pieces (count + 1) → ⊥
  no_rule_here none (kind, x, y, says) = none_is (sym (rule_there kind x y says) ∙ none)

  pub others_counted : (lines : List ℕ) → rule_of piece ≡ None → AreLinesOf (IsRule pieces) count lines → AreLinesOf (IsRule pieces) (count + 1) lines
  others_counted lines none elements = lines_same (IsRule pieces) count lines elements (no_rule_here none)

  pub others_noted : (net : Network) (names : List Name) → rule_of piece ≡ None → AreNotedWithin net pieces count names → AreNotedWithin net pieces (count + 1) names
  others_noted net names none was = record {
    noted = λ line kind x y le few says. elim (cases_eq line (count + 1)) [
      | inl here ↦ absurd (no_rule_here none (kind, x, y, subst (λ (l : ℕ). States pieces l (Restricts kind x y)) here says))
      | inr ne ↦ was.noted line kind x y (omega (arith, ne)) few says
    ];
    apart = was.apart;
  }

-- ---- names of sets

-- a name is flagged exactly if one of the first lines adds modules to the set of this name
pub record AreDeclaredWithin (pieces : List (List ℕ)) (count : ℕ) (names : List Name) (declared : List Bool) : Type 0 where
  pub size : length declared ≡ length names
  pub elements : (x : List ℕ) (k : ℕ) → index_among names x ≡ Some k → (marked declared k ≡ true) ↔ IsSetWithin pieces count x

module _ (pieces : List (List ℕ)) (count : ℕ) (piece : List ℕ) (at : IsPieceAt pieces (count + 1) piece) (names : List Name) (declared : List Bool) (was : AreDeclaredWithin pieces count names declared) where
  pub declared_more : (place : ℕ) → place < length names → (x : List ℕ) → set_of piece ≡ Some x → index_among names x ≡ Some place → AreDeclaredWithin pieces (count + 1) names (set declared place true)
  declared_more place low x here index = record {
    size = length-set declared place true ∙ was.size;
    elements = λ y k present.
        let next = sets_next pieces count piece at y in
        elim (cases_eq k place) [
          | inl e ↦
              let same : x ≡ y = sym (index_takes (unpinned (names_in names) []) x place index).1 ∙ ap (λ (j : ℕ). get_or (names_in names) j []) (sym e) ∙ (index_takes (unpinned (names_in names) []) y k present).1 in
              let size = was.size in (
                λ is. next.1 (inr (here ∙ ap (λ (z : List ℕ). Some z) same)),
                λ within. ap (marked (set declared place true)) e ∙ get_or-set_same declared place true false (omega arith),
              )
          | inr ne ↦
              let other : marked (set declared place true) k ≡ marked declared k = get_or-set_other declared place k true false ne in (
                λ is. next.1 (inl ((was.elements y k present).0 (sym other ∙ is))),
                λ within. other ∙ (was.elements y k present).1 (elim (next.0 within) [
                  | inl before ↦ before
                  | inr e ↦
                      let same : x ≡ y = some_is x y (sym here ∙ e) in
                      absurd (ne (some_is k place (sym present ∙ ap (index_among names) (sym same) ∙ index)))
                ]),
              )
        ];
  }

  pub declared_same : ((x : List ℕ) (k : ℕ) → set_of piece ≡ Some x → index_among names x ≡ Some k → marked declared k ≡ true) → AreDeclaredWithin pieces (count + 1) names declared
  declared_same known = record {
    size = was.size;
    elements = λ y k present.
        let next = sets_next pieces count piece at y in (
          λ is. next.1 (inl ((was.elements y k present).0 is)),
          λ within. elim (next.0 within) [ inl before ↦ (was.elements y k present).1 before | inr e ↦ known y k e present ],
        );
  }

-- where all have marks, or the text ends
pub declared_early : (pieces : List (List ℕ)) (count : ℕ) (names : List Name) (declared : List Bool) → ((k : ℕ) → k < length declared → marked declared k ≡ true) → AreDeclaredWithin pieces count names declared → AreDeclared pieces names declared
declared_early pieces count names declared all was = record {
  size = was.size;
  elements = λ x k present. (
    λ is. let (line, le, selector, says) = (was.elements x k present).0 is in (line, selector, says),
    λ set.
        let low = (index_takes (unpinned (names_in names) []) x k present).0 in
        let long = length-map names (λ (n : Name). n.bytes.now) in
        let size = was.size in
        all k (omega arith),
  );
}

pub declared_all : (pieces : List (List ℕ)) (count : ℕ) (names : List Name) (declared : List Bool) → count ≡ length pieces → AreDeclaredWithin pieces count names declared → AreDeclared pieces names declared
declared_all pieces count names declared end was = record {
  size = was.size;
  elements = λ x k present.
      let all = all_sets pieces x in
      let own = was.elements x k present in (
        λ is. all.0 (subst (λ (n : ℕ). IsSetWithin pieces n x) end (own.0 is)),
        λ set. own.1 (subst (λ (n : ℕ). IsSetWithin pieces n x) (sym end) (all.1 set)),
      );
}
