-- The builder after one more line.
use Rattle.std.proofs.Common.{◌≡◌, ℕ, ◌+◌, ◌<◌, ◌≤◌, ◌⊎◌, inl, inr, true, false, Bool, List, [], ◌∷◌, ◌++◌, length, get_or, set, Option, Some, None, Result, Err, refl, sym, ap, ◌∙◌, subst, arith}
use Rattle.std.specs.Prelude.{◌↔◌, option_map}
use Rattle.std.specs.BTreeSet.{BTreeSet}
use Rattle.std.proofs.lemmas.Bool.{cases_eq}
use Rattle.std.proofs.lemmas.List.{get_or-set_other, get_or-set_same, length-set, length_push}
use Rattle.std.proofs.lemmas.List.Elements.{Contains-append_left, Contains-get_or, Contains-push, Contains-push_cases}
use Rattle.std.proofs.lemmas.List.Quantifiers.{all_pairs_push}
use Rattle.digraph.specs.Marks.{marked}
use Rattle.texts.proofs.FieldCuts.{some_is}
use Rattle.cut_net.specs.Network.{Network, name_of, missing_item}
use Rattle.cut_net.specs.Prices.{is_named}
use Rattle.cut_net.specs.WellFormed.{IsNetwork}
use Rattle.cut_net.proofs.Noting.{named_is, named_true, same_place}
use Rattle.cut_rules.specs.declared.builder.RulesBuilder.{RulesBuilder}
use Rattle.cut_rules.specs.declared.fault.RulesFault.{RulesFault}
use Rattle.cut_rules.specs.declared.file.File.{File}
use Rattle.cut_rules.specs.declared.rule.Rule.{Rule}
use Rattle.cut_rules.specs.declared.rule.RuleKind.{RuleKind}
use Rattle.cut_rules.specs.declared.rule.StaleAllow.{StaleAllow}
use Rattle.cut_rules.specs.declared.table.SetTable.{SetTable}
use Rattle.cut_rules.specs.RuleLines.{Selector, Module, Folder, Named, Tree, Adds, Restricts, Allow, States}
use Rattle.cut_rules.specs.Rules.{HasFault, HasPattern, IsStale, LacksImport, LineFault, Selects}
use Rattle.cut_rules.specs.Faults.{IsRefusal, UnlessMemory}
use Rattle.cut_rules.specs.Names.{AreLinesOf}
use Rattle.cut_rules.specs.Builders.{number_of, pattern_count, AreAllowed, ArePairs, AreRules, AreStale, IsAddedWithin, IsAddition, HasLines, IsRuleOf, IsSetIndex, IsTable, IsLineOutcome}
use Rattle.cut_rules.proofs.LineLaws.{says_one}
use Rattle.cut_rules.proofs.LineLists.{lines_push, lines_same}
use Rattle.cut_rules.proofs.Numbers.{number_behind, number_once, set_numbered}
use Rattle.cut_rules.proofs.Pieces.{within_next}

module _ (net : Network) (files : List File) (sets pieces : List (List ℕ)) (count : ℕ) where
  abbrev next : ℕ
  next = count + 1

  added_next : (x : List ℕ) (m : ℕ) → IsAddedWithin net files pieces next x m ↔ (IsAddedWithin net files pieces count x m ⊎ ((selector : Selector) × States pieces next (Adds x selector) × Selects net files selector m))
  added_next x m =
      let both = within_next (λ (l : ℕ). (selector : Selector) × States pieces l (Adds x selector) × Selects net files selector m) count in (
        λ (line, le, selector, says, is). elim (both.0 (line, le, (selector, says, is))) [
          | inl (l, low, own) ↦ inl (l, low, own.0, own.1, own.2)
          | inr own ↦ inr own
        ],
        λ either. elim either [
          | inl (line, le, selector, says, is) ↦ (line, omega arith, selector, says, is)
          | inr (selector, says, is) ↦ (next, omega arith, selector, says, is)
        ],
      )

  -- ---- a line that doesn't concern them

  pub table_same : (table : SetTable) → ((s : List ℕ) (selector : Selector) → States pieces next (Adds s selector) → ⊥) → IsTable net files sets pieces count table → IsTable net files sets pieces next table
  table_same table none is = record {
    elements = λ x number m low named.
        let more = added_next x m in (
          λ has. more.1 (inl ((is.elements x number m low named).0 has)),
          λ within. (is.elements x number m low named).1 (elim (more.0 within) [ inl old ↦ old | inr (selector, says, own) ↦ absurd (none x selector says) ]),
        );
    patterns = let (lines, of, long) = is.patterns in (lines, lines_same (HasPattern pieces) count lines of (λ (s, pattern, says). none s (Named pattern) says), long);
    few = is.few;
    modules = is.modules;
    size = is.size;
    sized = is.sized;
  }

  pub rules_same : (rules : List Rule) → ((kind : RuleKind) (x y : List ℕ) → States pieces next (Restricts kind x y) → ⊥) → AreRules net sets pieces count rules → AreRules net sets pieces next rules
  rules_same rules none elements = record {
    each = λ r has. let own = elements.each r has in let le = own.0 in (omega arith, own.1);
    all = λ line kind x y le says. elim (cases_eq line next) [
      | inl e ↦ absurd (none kind x y (subst (λ (n : ℕ). States pieces n (Restricts kind x y)) e says))
      | inr ne ↦ elements.all line kind x y (omega (arith, ne)) says
    ];
    ascending = elements.ascending;
    few = elements.few;
  }

  pub allowed_same : (allowed : List Bool) → ((m n : List ℕ) → States pieces next (Allow m n) → ⊥) → AreAllowed net pieces count allowed → AreAllowed net pieces next allowed
  allowed_same allowed none elements = record {
    size = elements.size;
    elements = λ k lt.
        let both = within_next (λ (l : ℕ). States pieces l (Allow (name_of net (get_or net.imports k missing_item).from) (name_of net (get_or net.imports k missing_item).to))) count in (
          λ e. both.1 (inl ((elements.elements k lt).0 e)),
          λ within. (elements.elements k lt).1 (elim (both.0 within) [ inl old ↦ old | inr says ↦ absurd (none _ _ says) ]),
        );
  }

  pub stale_same : (stale : List StaleAllow) → ((m n : List ℕ) → IsStale net pieces next m n → ⊥) → AreStale net pieces count stale → AreStale net pieces next stale
  stale_same stale none elements = record {
    each = λ s has. let own = elements.each s has in let le = own.0 in (omega arith, own.1);
    all = λ line m n le is. elim (cases_eq line next) [
      | inl e ↦ absurd (none m n (subst (λ (l : ℕ). IsStale net pieces l m n) e is))
      | inr ne ↦ elements.all line m n (omega (arith, ne)) is
    ];
    ascending = elements.ascending;
  }

  pub pairs_same : {K : Type 0} (keys : BTreeSet K) (first second : K → List ℕ) → ((m n : List ℕ) → States pieces next (Allow m n) → ⊥) → ArePairs keys first second pieces count → ArePairs keys first second pieces next
  pairs_same keys first second none elements m n =
      let both = within_next (λ (l : ℕ). States pieces l (Allow m n)) count in (
        λ e. both.1 (inl ((elements m n).0 e)),
        λ within. (elements m n).1 (elim (both.0 within) [ inl old ↦ old | inr says ↦ absurd (none m n says) ]),
      )

  -- ---- a line that adds modules to a set

  pub table_added : (old new : SetTable) (s : List ℕ) (place : Option ℕ) (selector : Selector) (any : Bool) → States pieces next (Adds s selector) → IsSetIndex net sets s place → IsAddition net files old place selector any new → new.patterns ≤ 4096
      → IsTable net files sets pieces count old → IsTable net files sets pieces next new
  table_added old new s place selector any says (no_module, place_is) is few table = record {
    elements = λ x k m low named.
        let more = added_next x m in
        let was = table.elements x k m low named in (
          λ (t, number, has). more.1 (elim ((is.added t m low).0 has) [
            | inl before ↦ inl (was.0 (t, number ∙ ap (λ (n : ℕ). n + t) is.modules, before))
            | inr (same, own) ↦
                let e : s ≡ x = number_once net sets s x k (set_numbered net sets s t no_module (place_is ∙ same) ∙ ap (λ (n : ℕ). Some n) (sym (number_is t number))) named in
                inr (selector, subst (λ (t : List ℕ). States pieces next (Adds t selector)) e says, own)
          ]),
          λ within. elim (more.0 within) [
            | inl before ↦ let (t, number, has) = was.1 before in (t, number ∙ ap (λ (n : ℕ). n + t) (sym is.modules), (is.added t m low).1 (inl has))
            | inr (other, also, own) ↦
                let e = says_one pieces next (Adds x other) (Adds s selector) also says in
                let set_is : x ≡ s = cc in
                let selector_is : other ≡ selector = cc in
                let numbered : option_map (λ t. length net.names + t) place ≡ Some k = ap (option_map (λ t. length net.names + t)) (sym place_is) ∙ sym (number_behind net sets s no_module) ∙ ap (number_of net sets) (sym set_is) ∙ named in
                let (t, place_at, number) = placed place numbered in
                (t, (let modules = table.modules in let same = is.modules in omega arith), (is.added t m low).1 (inr (place_at, subst (λ (u : Selector). Selects net files u m) selector_is own)))
          ],
        );
    patterns = pattern_lines selector says is.patterns;
    few = few;
    modules = is.modules ∙ table.modules;
    size = is.count ∙ table.size;
    sized = is.sized _ table.sized;
  }
    where
      number_is : {k : ℕ} (t : ℕ) → k ≡ new.modules + t → k ≡ length net.names + t
      number_is t number = number ∙ ap (λ (n : ℕ). n + t) (is.modules ∙ table.modules)

      placed : {k : ℕ} (o : Option ℕ) → option_map (λ t. length net.names + t) o ≡ Some k → (t : ℕ) × (o ≡ Some t) × (length net.names + t ≡ k)
      placed {k} (Some t) e = (t, refl, some_is (length net.names + t) k e)
      placed None e = absurd cc

      none_here : (t : Selector) → States pieces next (Adds s t) → ((pattern : List ℕ) → t ≡ Named pattern → ⊥) → HasPattern pieces next → ⊥
      none_here t here apart (x, pattern, also) = let e = says_one pieces next (Adds s t) (Adds x (Named pattern)) here also in apart pattern cc

      pattern_lines : (t : Selector) → States pieces next (Adds s t) → new.patterns ≡ old.patterns + pattern_count t → (lines : List ℕ) × AreLinesOf (HasPattern pieces) next lines × (length lines ≡ new.patterns)
      pattern_lines (Module m) here sum = let (lines, of, long) = table.patterns in (lines, lines_same (HasPattern pieces) count lines of (none_here (Module m) here (λ pattern e. cc)), omega arith)
      pattern_lines (Folder path) here sum = let (lines, of, long) = table.patterns in (lines, lines_same (HasPattern pieces) count lines of (none_here (Folder path) here (λ pattern e. cc)), omega arith)
      pattern_lines (Named pattern) here sum =
          let (lines, of, long) = table.patterns in
          let more = length_push lines next in
          (lines ++ next ∷ [], lines_push (HasPattern pieces) count lines of (s, pattern, here), omega arith)
      pattern_lines Tree here sum = let (lines, of, long) = table.patterns in (lines, lines_same (HasPattern pieces) count lines of (none_here Tree here (λ pattern e. cc)), omega arith)

  -- ---- a rule

  pub rules_added : (rules : List Rule) (rule : Rule) (x y : List ℕ) → States pieces next (Restricts rule.kind x y) → rule.line ≡ next → number_of net sets x ≡ Some rule.first → number_of net sets y ≡ Some rule.second → length rules < 4096
      → AreRules net sets pieces count rules → AreRules net sets pieces next (rules ++ rule ∷ [])
  rules_added rules rule x y says line first second few elements = record {
    each = λ r has. elim (Contains-push_cases rules rule r has) [
      | inl old ↦ let own = elements.each r old in let le = own.0 in (omega arith, own.1)
      | inr same ↦ subst (λ (r : Rule). (r.line ≤ next) × IsRuleOf net sets pieces r) same (omega arith, (x, y, subst (λ (n : ℕ). States pieces n (Restricts rule.kind x y)) (sym line) says, first, second))
    ];
    all = λ l kind m n le also. elim (cases_eq l next) [
      | inl e ↦ (rule, Contains-push rules rule, line ∙ sym e)
      | inr ne ↦ let old = elements.all l kind m n (omega (arith, ne)) also in (old.0, Contains-append_left rules (rule ∷ []) old.0 old.1, old.2)
    ];
    ascending = all_pairs_push (λ (r s : Rule). r.line < s.line) rules rule elements.ascending (λ k d lt. let le = (elements.each (get_or rules k d) (Contains-get_or rules k d lt)).0 in omega arith);
    few = (let long = length_push rules rule in omega arith);
  }

  -- ---- an allowed import

  module _ (m n : List ℕ) (says : States pieces next (Allow m n)) where
    same_names : (k l : List ℕ) → States pieces next (Allow k l) → (k ≡ m) × (l ≡ n)
    same_names k l also = let e = says_one pieces next (Allow k l) (Allow m n) also says in (cc, cc)

    pub allowed_added : IsNetwork net → (allowed : List Bool) (number : ℕ) → number < length net.imports → is_named net m n (get_or net.imports number missing_item) ≡ true → AreAllowed net pieces count allowed
        → AreAllowed net pieces next (set allowed number true)
    allowed_added network allowed number low named elements = record {
      size = length-set allowed number true ∙ elements.size;
      elements = λ k lt. elim (cases_eq k number) [
        | inl e ↦ (
          λ _. (next, omega arith, subst (λ (j : ℕ). States pieces next (Allow (name_of net (get_or net.imports j missing_item).from) (name_of net (get_or net.imports j missing_item).to))) (sym e) here),
          λ _. let size = elements.size in ap (marked (set allowed number true)) e ∙ get_or-set_same allowed number true false (omega arith),
        )
        | inr ne ↦
            let other : marked (set allowed number true) k ≡ marked allowed k = get_or-set_other allowed number k true false ne in
            let both = within_next (λ (l : ℕ). States pieces l (Allow (name_of net (get_or net.imports k missing_item).from) (name_of net (get_or net.imports k missing_item).to))) count in (
              λ e. both.1 (inl ((elements.elements k lt).0 (sym other ∙ e))),
              λ within. other ∙ (elements.elements k lt).1 (elim (both.0 within) [ inl old ↦ old | inr also ↦ absurd (ne (once k lt also)) ]),
            )
      ];
    }
      where
        present : (m ≡ name_of net (get_or net.imports number missing_item).from) × (n ≡ name_of net (get_or net.imports number missing_item).to)
        present = named_is net m n (get_or net.imports number missing_item) named

        here : States pieces next (Allow (name_of net (get_or net.imports number missing_item).from) (name_of net (get_or net.imports number missing_item).to))
        here = subst (λ (x : List ℕ). States pieces next (Allow x (name_of net (get_or net.imports number missing_item).to))) present.0 (subst (λ (y : List ℕ). States pieces next (Allow m y)) present.1 says)

        once : (k : ℕ) → k < length net.imports → States pieces next (Allow (name_of net (get_or net.imports k missing_item).from) (name_of net (get_or net.imports k missing_item).to)) → k ≡ number
        once k lt also =
            let (first, second) = same_names _ _ also in
            same_place net network k number m n lt low (named_true net m n (get_or net.imports k missing_item) (sym first) (sym second)) named

    -- an import that the network has isn't stale
    pub fresh : (number : ℕ) → number < length net.imports → is_named net m n (get_or net.imports number missing_item) ≡ true → (k l : List ℕ) → IsStale net pieces next k l → ⊥
    fresh number low named k l (also, lacks) =
        let (first, second) = same_names k l also in
        lacks (get_or net.imports number missing_item) (Contains-get_or net.imports number missing_item low)
        (subst (λ (x : List ℕ). is_named net x l (get_or net.imports number missing_item) ≡ true) (sym first) (subst (λ (y : List ℕ). is_named net m y (get_or net.imports number missing_item) ≡ true) (sym second) named))

    -- an import that the network lacks has no flag
    pub allowed_other : (allowed : List Bool) → LacksImport net m n → AreAllowed net pieces count allowed → AreAllowed net pieces next allowed
    allowed_other allowed lacks elements = record {
      size = elements.size;
      elements = λ k lt.
          let i = get_or net.imports k missing_item in
          let both = within_next (λ (l : ℕ). States pieces l (Allow (name_of net i.from) (name_of net i.to))) count in (
            λ e. both.1 (inl ((elements.elements k lt).0 e)),
            λ within. (elements.elements k lt).1 (elim (both.0 within) [
              | inl old ↦ old
              | inr also ↦
                  let (first, second) = same_names _ _ also in
                  absurd (lacks i (Contains-get_or net.imports k missing_item lt) (named_true net m n i (sym first) (sym second)))
            ]),
          );
    }

    pub stale_added : (stale : List StaleAllow) (s : StaleAllow) → s.line ≡ next → s.importer.now ≡ m → s.imported.now ≡ n → LacksImport net m n → AreStale net pieces count stale → AreStale net pieces next (stale ++ s ∷ [])
    stale_added stale s line importer imported lacks elements = record {
      each = λ t has. elim (Contains-push_cases stale s t has) [
        | inl old ↦ let own = elements.each t old in let le = own.0 in (omega arith, own.1)
        | inr same ↦ subst (λ (t : StaleAllow). (t.line ≤ next) × IsStale net pieces t.line t.importer.now t.imported.now) same (
          omega arith,
          subst (λ (l : ℕ). IsStale net pieces l s.importer.now s.imported.now) (sym line)
              (subst (λ (x : List ℕ). IsStale net pieces next x s.imported.now) (sym importer) (subst (λ (y : List ℕ). IsStale net pieces next m y) (sym imported) (says, lacks))),
        )
      ];
      all = λ l x y le is. elim (cases_eq l next) [
        | inl e ↦ (s, Contains-push stale s, line ∙ sym e)
        | inr ne ↦ let old = elements.all l x y (omega (arith, ne)) is in (old.0, Contains-append_left stale (s ∷ []) old.0 old.1, old.2)
      ];
      ascending = all_pairs_push (λ (t u : StaleAllow). t.line < u.line) stale s elements.ascending (λ k d lt. let le = (elements.each (get_or stale k d) (Contains-get_or stale k d lt)).0 in omega arith);
    }

-- ---- what came of a line

module _ (net : Network) (files : List File) (sets pieces : List (List ℕ)) where
  pub made : (line n : ℕ) → line ≡ n → (builder : RulesBuilder) → ((l : ℕ) (fault : LineFault) → l ≤ line → HasFault net files pieces l fault → ⊥) → IsTable net files sets pieces n builder.table → AreRules net sets pieces n builder.rules.items
      → AreAllowed net pieces n builder.allowed.items → AreStale net pieces n builder.stale.items → ArePairs builder.pairs (λ key. key.0.now) (λ key. key.1.now) pieces n → HasLines net files sets pieces line builder
  made line n e builder sound table rules allowed stale pairs = record {
    sound = sound;
    table = subst (λ (m : ℕ). IsTable net files sets pieces m builder.table) (sym e) table;
    rules = subst (λ (m : ℕ). AreRules net sets pieces m builder.rules.items) (sym e) rules;
    allowed = subst (λ (m : ℕ). AreAllowed net pieces m builder.allowed.items) (sym e) allowed;
    stale = subst (λ (m : ℕ). AreStale net pieces m builder.stale.items) (sym e) stale;
    pairs = subst (λ (m : ℕ). ArePairs builder.pairs (λ key. key.0.now) (λ key. key.1.now) pieces m) (sym e) pairs;
  }

  pub refused : (line : ℕ) (fault : RulesFault) (result : Result (Unit {0}) RulesFault) (builder : RulesBuilder) → result ≡ Err fault → UnlessMemory fault (IsRefusal net files pieces fault) → IsLineOutcome net files sets pieces line result builder
  refused line fault result builder is u = rw is u
