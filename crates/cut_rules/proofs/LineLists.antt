-- The first lines with a property, and how many these are.
use Rattle.std.proofs.Common.{◌≡◌, ℕ, ◌+◌, ◌<◌, ◌≤◌, inl, inr, false, List, [], ◌∷◌, ◌++◌, length, map, get_or, sym, subst, arith}
use Rattle.std.specs.Prelude.{AllPairs, Contains, nat_eq}
use Rattle.std.proofs.lemmas.Bool.{cases_eq, eqb-true, false_from_ne_true}
use Rattle.std.proofs.lemmas.Bool.Decides.{Decides-eqb}
use Rattle.std.proofs.lemmas.Cmp.{nat_eq_equiv}
use Rattle.std.proofs.lemmas.Map.Keys.{IsDistinct-from_apart}
use Rattle.std.proofs.lemmas.Map.Made.{is_member-Decides, length-le_from_is_member}
use Rattle.std.proofs.lemmas.List.{get_or-map, length-map}
use Rattle.std.proofs.lemmas.List.Elements.{Contains-append_left, Contains-get_or, Contains-push, Contains-push_cases}
use Rattle.std.proofs.lemmas.List.Quantifiers.{all_pairs_push}
use Rattle.digraph.proofs.Members.{from_map, in_map, no_member}
use Rattle.cut_net.specs.Network.{Network}
use Rattle.cut_rules.specs.declared.rule.Rule.{Rule}
use Rattle.cut_rules.specs.RuleLines.{Restricts, States}
use Rattle.cut_rules.specs.Builders.{AreRules}
use Rattle.cut_rules.specs.Names.{IsWithinRuleLimit, AreLinesOf}
use Rattle.cut_rules.specs.Rules.{IsOverLimit, IsRule}

pub no_lines : (P : ℕ → Type 0) → ((l : ℕ) → P l → 0 < l) → AreLinesOf P 0 []
no_lines P low = record {
  each = λ l has. no_member l has;
  all = λ l le p. absurd (let lt = low l p in omega arith);
  ascending = λ i j d lt l. absurd (omega arith);
}

eqb_apart : (a b : ℕ) → a < b → nat_eq a b ≡ false
eqb_apart a b less = false_from_ne_true _ (λ e. let same = eqb-true a b e in omega arith)

-- a list of ascending numbers of which each is in another one is no longer
no_longer : (xs ys : List ℕ) → AllPairs (λ i j. i < j) xs → ((n : ℕ) → Contains xs n → Contains ys n) → length xs ≤ length ys
no_longer xs ys up each =
    length-le_from_is_member nat_eq_equiv xs ys (IsDistinct-from_apart nat_eq xs (λ i j d lt l. let less = up i j d lt l in eqb_apart (get_or xs i d) (get_or xs j d) less))
    (λ q has. (is_member-Decides Decides-eqb ys q).1 (each q ((is_member-Decides Decides-eqb xs q).0 has)))

module _ (P : ℕ → Type 0) (count : ℕ) (lines : List ℕ) (elements : AreLinesOf P count lines) where
  pub lines_push : P (count + 1) → AreLinesOf P (count + 1) (lines ++ (count + 1) ∷ [])
  lines_push p = record {
    each = λ l has. elim (Contains-push_cases lines (count + 1) l has) [
      | inl old ↦ let own = elements.each l old in let le = own.0 in (omega arith, own.1)
      | inr same ↦ (omega arith, subst P same p)
    ];
    all = λ l le q. elim (cases_eq l (count + 1)) [
      | inl e ↦ subst (Contains (lines ++ (count + 1) ∷ [])) (sym e) (Contains-push lines (count + 1))
      | inr ne ↦ Contains-append_left lines ((count + 1) ∷ []) l (elements.all l (omega (arith, ne)) q)
    ];
    ascending = all_pairs_push (λ (i j : ℕ). i < j) lines (count + 1) elements.ascending (λ k d lt. let le = (elements.each (get_or lines k d) (Contains-get_or lines k d lt)).0 in omega arith);
  }

  pub lines_same : (P (count + 1) → ⊥) → AreLinesOf P (count + 1) lines
  lines_same none = record {
    each = λ l has. let own = elements.each l has in let le = own.0 in (omega arith, own.1);
    all = λ l le p. elim (cases_eq l (count + 1)) [
      | inl e ↦ absurd (none (subst P e p))
      | inr ne ↦ elements.all l (omega (arith, ne)) p
    ];
    ascending = elements.ascending;
  }

  -- so many are too many
  pub many_before : (line : ℕ) → line ≡ count + 1 → 4096 ≤ length lines → length lines ≤ 4096 → IsOverLimit P line
  many_before line number many few = record {
    lines = lines;
    many = omega arith;
    ascending = elements.ascending;
    each = λ l has. let own = elements.each l has in let le = own.0 in (omega arith, own.1);
  }

  -- fewer are not
  pub few_before : (line : ℕ) → line ≡ count + 1 → length lines < 4096 → IsOverLimit P line → ⊥
  few_before line number few m =
      let le = no_longer m.lines lines m.ascending (λ l has. let own = m.each l has in let less = own.0 in elements.all l (omega arith) own.1) in
      let size = m.many in
      omega arith

-- the lines of rules
pub rule_lines : (net : Network) (sets pieces : List (List ℕ)) (count : ℕ) (rules : List Rule) → AreRules net sets pieces count rules → AreLinesOf (IsRule pieces) count (map (λ (r : Rule). r.line) rules)
rule_lines net sets pieces count rules elements = record {
  each = λ l has.
      let (r, present, is) = from_map (λ (r : Rule). r.line) rules l has in
      let own = elements.each r present in
      let le = own.0 in
      (omega arith, (r.kind, own.1.0, own.1.1, subst (λ (n : ℕ). States pieces n (Restricts r.kind own.1.0 own.1.1)) is own.1.2));
  all = λ l le (kind, x, y, says).
      let own = elements.all l kind x y le says in
      subst (Contains (map (λ (r : Rule). r.line) rules)) own.2 (in_map (λ (r : Rule). r.line) rules own.0 own.1);
  ascending = lines_ascend rules elements.ascending;
}
  where
    lines_ascend : (rs : List Rule) → AllPairs (λ (r s : Rule). r.line < s.line) rs → AllPairs (λ i j. i < j) (map (λ (r : Rule). r.line) rs)
    lines_ascend [] up i j d lt l = absurd (omega arith)
    lines_ascend (r ∷ rs) up i j d lt l =
        let long = length-map (r ∷ rs) (λ (r : Rule). r.line) in
        rw (get_or-map (λ (r : Rule). r.line) (r ∷ rs) i r d (omega arith), get_or-map (λ (r : Rule). r.line) (r ∷ rs) j r d (omega arith)) (up i j r lt (omega arith))

-- the rules before the line of the next one are few as long as the builder has few
pub rules_few : (net : Network) (sets pieces : List (List ℕ)) (count line : ℕ) (rules : List Rule) → AreRules net sets pieces count rules → line ≡ count + 1 → IsWithinRuleLimit pieces line
rules_few net sets pieces count line rules elements number = record {
  count = count;
  number = number;
  lines = map (λ (r : Rule). r.line) rules;
  elements = rule_lines net sets pieces count rules elements;
  few = (let long = length-map rules (λ (r : Rule). r.line) in let few = elements.few in omega arith);
}

-- so many rules aren't few
pub not_few : (pieces : List (List ℕ)) (count : ℕ) (lines : List ℕ) → AreLinesOf (IsRule pieces) count lines → 4096 < length lines → (line : ℕ) → line ≡ count + 1 → IsWithinRuleLimit pieces line → ⊥
not_few pieces count lines elements many line number few =
    let e = few.number in
    let same : few.count ≡ count = omega arith in
    let le = no_longer lines few.lines elements.ascending (λ l has. let own = elements.each l has in few.elements.all l (let low = own.0 in omega arith) own.1) in
    let most = few.few in
    omega arith
