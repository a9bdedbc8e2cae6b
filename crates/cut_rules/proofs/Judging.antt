-- The search for a rule finds the paths that its line forbids.
use Rattle.std.proofs.Common.{◌≡◌, ◌∙◌, ℕ, ◌+◌, ◌<◌, ◌⊎◌, inl, inr, true, false, List, [], ◌∷◌, length, get_or, Option, Some, None, refl, sym, ap, subst, arith}
use Rattle.std.specs.Prelude.{◌↔◌, All, Contains}
use Rattle.std.proofs.lemmas.Bool.{cases_Bool}
use Rattle.std.proofs.lemmas.List.{get_or_default}
use Rattle.std.proofs.lemmas.List.Elements.{All-contains, Contains-get_or}
use Rattle.digraph.specs.declared.edge.Edge.{Edge}
use Rattle.digraph.specs.declared.graph.Graph.{Graph}
use Rattle.digraph.specs.Chains.{IsChain}
use Rattle.digraph.specs.Edges.{Leads}
use Rattle.digraph.specs.Marks.{marked}
use Rattle.digraph.proofs.Members.{first_member, first_or_later, no_member}
use Rattle.texts.proofs.FieldCuts.{some_is}
use Rattle.cut_net.specs.declared.priced.Priced.{Priced}
use Rattle.cut_net.specs.Lines.{edge_of}
use Rattle.cut_net.specs.Network.{Network, index_of, name_of, missing_item, unpinned}
use Rattle.cut_net.specs.WellFormed.{IsNetwork}
use Rattle.cut_net.proofs.Places.{index_takes}
use Rattle.cut_rules.specs.declared.file.File.{File}
use Rattle.cut_rules.specs.declared.reading.Rules.{Rules}
use Rattle.cut_rules.specs.declared.rule.Rule.{Rule}
use Rattle.cut_rules.specs.declared.rule.RuleKind.{RuleKind}
use Rattle.cut_rules.specs.declared.rule.RuleKind.TheVariants as kinds
use Rattle.cut_rules.specs.declared.rule_search.RuleSearch.{RuleSearch}
use Rattle.cut_rules.specs.RuleLines.{Allow, May, Restricts, States}
use Rattle.cut_rules.specs.Rules.{IsUnallowedImport, IsIn}
use Rattle.cut_rules.specs.Builders.{number_by, number_of}
use Rattle.cut_rules.specs.Judged.{IsBarredBy, IsCountedGraph, IsFirstRule, IsDenoted, IsForbiddenByMay, IsRepeated, IsRuleSearch, IsSearchFor, IsTargetBy}
use Rattle.cut_rules.specs.Names.{names_in}
use Rattle.cut_rules.specs.Outcomes.{AreRulesOf}
use Rattle.digraph.specs.ShortestPaths.{IsPathAround}
use Rattle.cut_rules.specs.Verdicts.{ByForbid, ByForbidImport, ByMay, IsEntryPath, IsFirstMay, IsForbidden}
use Rattle.cut_rules.proofs.LineLaws.{says_one}
use Rattle.cut_rules.proofs.MemberLaws.{members_are}
use Rattle.cut_rules.proofs.Pieces.{says_low}

pub chain_to : (G H : ℕ → ℕ → Type 0) → ((a b : ℕ) → G a b → H a b) → (m : ℕ) (more : List ℕ) (b : ℕ) → IsChain G m more b → IsChain H m more b
chain_to G H over m [] b e = e
chain_to G H over m (n ∷ more) b (step, rest) = (over m n step, chain_to G H over n more b rest)

-- where each node that is led to is low, so is each of a path after its first
pub low_chain : (G : ℕ → ℕ → Type 0) (count : ℕ) → ((a b : ℕ) → G a b → b < count) → (m : ℕ) (more : List ℕ) (b : ℕ) → IsChain G m more b → (v : ℕ) → Contains more v → v < count
low_chain G count low m [] b e v has = no_member v has
low_chain G count low m (n ∷ more) b (step, rest) v has = elim (first_or_later n more v has) [
  | inl same ↦ subst (λ (u : ℕ). u < count) same (low m n step)
  | inr later ↦ low_chain G count low n more b rest v later
]

module _ (net : Network) (network : IsNetwork net) (files : List File) (pieces : List (List ℕ)) (rules : Rules) (elements : AreRulesOf net files pieces rules) where
  abbrev nodes : ℕ
  nodes = length net.names

  abbrev sets : List (List ℕ)
  sets = names_in rules.names.sets.keys

  -- ---- imports that count

  module _ (graph : Graph) (of : IsCountedGraph net rules graph) where
    pub counts : (m n : ℕ) → Leads graph.edges.now m n → IsUnallowedImport net pieces m n
    counts m n leads =
        let (k, lt, free, is) = (of.counted (record { from = m; to = n })).0 leads in
        let i = get_or net.imports k missing_item in (
          i,
          Contains-get_or net.imports k missing_item lt,
          ap (λ (p : Edge). p.from) is,
          ap (λ (p : Edge). p.to) is,
          λ (line, says).
              let present = (elements.allowed.elements k lt).1 (line, (says_low pieces line _ says).1, says) in
              let e : true ≡ false = sym present ∙ free in cc,
        )

    pub counted_back : (m n : ℕ) → IsUnallowedImport net pieces m n → Leads graph.edges.now m n
    counted_back m n (i, (k, lt, is), from, to, free) =
        let here : get_or net.imports k missing_item ≡ i = get_or_default net.imports k missing_item i lt ∙ is in
        (of.counted (record { from = m; to = n })).1 (
          k,
          lt,
          elim (cases_Bool (marked rules.allowed.items k)) [
            | inl taken ↦
                let (line, le, says) = (elements.allowed.elements k lt).0 taken in
                absurd (free (line, subst (λ (j : Priced). States pieces line (Allow (name_of net j.from) (name_of net j.to))) here says))
            | inr no_mark ↦ no_mark
          ],
          ap edge_of here ∙ (λ k. record { from = from k; to = to k }),
        )

  low_count : (m n : ℕ) → IsUnallowedImport net pieces m n → n < nodes
  low_count m n (i, has, from, to, free) = subst (λ (v : ℕ). v < nodes) to (network.between i has).1

  low_source : (m n : ℕ) → IsUnallowedImport net pieces m n → m < nodes
  low_source m n (i, has, from, to, free) = subst (λ (v : ℕ). v < nodes) from (network.between i has).0

  -- ---- modules of names

  -- a number is that of a module, or of a set after all modules
  number_cases : (x : List ℕ) (number : ℕ) → number_of net sets x ≡ Some number → (index_of net x ≡ Some number) ⊎ ((k : ℕ) × (nodes + k ≡ number) × (index_of (unpinned sets []) x ≡ Some k))
  number_cases x number is = by (index_of net x) (index_of (unpinned sets []) x) refl refl is
    where
      by : (o p : Option ℕ) → index_of net x ≡ o → index_of (unpinned sets []) x ≡ p → number_by nodes o p ≡ Some number → (index_of net x ≡ Some number) ⊎ ((k : ℕ) × (nodes + k ≡ number) × (index_of (unpinned sets []) x ≡ Some k))
      by (Some i) p e f is = inl (e ∙ is)
      by None (Some k) e f is = inr (k, some_is (nodes + k) number is, f)
      by None None e f is = absurd cc

  -- a number is that of one name
  one_name : (x y : List ℕ) (number : ℕ) → number_of net sets x ≡ Some number → number_of net sets y ≡ Some number → x ≡ y
  one_name x y number of_x of_y = elim (number_cases x number of_x) [
    | inl e ↦ elim (number_cases y number of_y) [
      | inl f ↦ sym (index_takes net x number e).1 ∙ (index_takes net y number f).1
      | inr set ↦ absurd (let low = (index_takes net x number e).0 in let at = set.1 in omega arith)
    ]
    | inr own ↦ elim (number_cases y number of_y) [
      | inl f ↦ absurd (let low = (index_takes net y number f).0 in let at = own.1 in omega arith)
      | inr set ↦
          let first = own.1 in
          let second = set.1 in
          let same : own.0 ≡ set.0 = omega arith in
          sym (index_takes (unpinned sets []) x own.0 own.2).1 ∙ ap (name_of (unpinned sets [])) same ∙ (index_takes (unpinned sets []) y set.0 set.2).1
    ]
  ]

  pub is_in : (x : List ℕ) (number m : ℕ) → m < nodes → number_of net sets x ≡ Some number → IsDenoted rules number m ↔ IsIn net files pieces x m
  is_in x number m low is = members_are net network files pieces rules elements x number m is low

  -- ---- rules

  -- a line that restricts is that of a rule
  rule_of : (line : ℕ) (kind : RuleKind) (x y : List ℕ) → States pieces line (Restricts kind x y) → (r : Rule) × Contains rules.rules.items r × (r.line ≡ line) × (r.kind ≡ kind) × (number_of net sets x ≡ Some r.first) × (number_of net sets y ≡ Some r.second)
  rule_of line kind x y says =
      let (r, has, at) = elements.rules.all line kind x y (says_low pieces line _ says).1 says in
      let (le, (u, v, own, first, second)) = elements.rules.each r has in
      let one : Restricts r.kind u v ≡ Restricts kind x y = says_one pieces line (Restricts r.kind u v) (Restricts kind x y) (subst (λ (n : ℕ). States pieces n (Restricts r.kind u v)) at own) says in
      let kind_is : r.kind ≡ kind = cc in
      let x_is : u ≡ x = cc in
      let y_is : v ≡ y = cc in
      (r, has, at, kind_is, subst (λ (n : List ℕ). number_of net sets n ≡ Some r.first) x_is first, subst (λ (n : List ℕ). number_of net sets n ≡ Some r.second) y_is second)

  module _ (r : Rule) (x y : List ℕ) (says : States pieces r.line (Restricts r.kind x y)) (first : number_of net sets x ≡ Some r.first) (second : number_of net sets y ≡ Some r.second) where
    -- another line of the rule's number says the same
    same_line : (kind : RuleKind) (u v : List ℕ) → States pieces r.line (Restricts kind u v) → (r.kind ≡ kind) × (x ≡ u) × (y ≡ v)
    same_line kind u v other =
        let one : Restricts r.kind x y ≡ Restricts kind u v = says_one pieces r.line (Restricts r.kind x y) (Restricts kind u v) says other in
        (cc, cc, cc)

    outsider : (n : ℕ) → n < nodes → IsForbiddenByMay rules r.first n → (IsIn net files pieces x n → ⊥) × ((other : ℕ) (v : List ℕ) → States pieces other (May x v) → IsIn net files pieces v n → ⊥)
    outsider n low (own, others) = (
      λ is. own ((is_in x r.first n low first).1 is),
      λ other v line is.
          let (s, has, at, kind, of_x, of_v) = rule_of other kinds.May x v line in
          others s has (kind, some_is s.first r.first (sym of_x ∙ first)) ((is_in v s.second n low of_v).1 is),
    )

    outsider_back : (n : ℕ) → n < nodes → (IsIn net files pieces x n → ⊥) → ((other : ℕ) (v : List ℕ) → States pieces other (May x v) → IsIn net files pieces v n → ⊥) → IsForbiddenByMay rules r.first n
    outsider_back n low own others = (
      λ named. own ((is_in x r.first n low first).0 named),
      λ s has (kind, same) named.
          let (le, (u, v, line, of_u, of_v)) = elements.rules.each s has in
          let x_is : u ≡ x = one_name u x r.first (of_u ∙ ap Some same) first in
          let may : States pieces s.line (May x v) = subst (λ (k : RuleKind). States pieces s.line (Restricts k x v)) kind (subst (λ (n : List ℕ). States pieces s.line (Restricts s.kind n v)) x_is line) in
          others s.line v may ((is_in v s.second n low of_v).0 named),
    )

    first_may : r.kind ≡ kinds.May → (IsRepeated rules.rules.items r → ⊥) → IsFirstMay pieces r.line x
    first_may kind not_repeated = record {
      target = y;
      says = subst (λ (k : RuleKind). States pieces r.line (Restricts k x y)) kind says;
      first = λ before v less line.
          let (s, has, at, own, of_x, of_v) = rule_of before kinds.May x v line in
          not_repeated (kind, s, has, omega arith, (own, some_is s.first r.first (sym of_x ∙ first)));
    }

    -- a later `may` of the same name forbids nothing
    pub repeated_none : IsRepeated rules.rules.items r → (m n : ℕ) (path : List ℕ) → IsForbidden net files pieces r.line m n path → ⊥
    repeated_none (kind, s, has, less, (own, same)) m n path (ByForbid u v line target free) = let e = same_line kinds.Forbid u v line in let f : kinds.May ≡ kinds.Forbid = sym kind ∙ e.0 in cc
    repeated_none (kind, s, has, less, (own, same)) m n path (ByForbidImport u v line source target is) = let e = same_line kinds.ForbidImport u v line in let f : kinds.May ≡ kinds.ForbidImport = sym kind ∙ e.0 in cc
    repeated_none (kind, s, has, less, (own, same)) m n path (ByMay u may source outside others is) =
        let (le, (w, v, line, of_w, of_v)) = elements.rules.each s has in
        let x_is : x ≡ u = (same_line kinds.May u may.target may.says).1 in
        let w_is : w ≡ u = one_name w x r.first (of_w ∙ ap Some same) first ∙ x_is in
        may.first s.line v less (subst (λ (k : RuleKind). States pieces s.line (Restricts k u v)) own (subst (λ (n : List ℕ). States pieces s.line (Restricts s.kind n v)) w_is line))

    module _ (graph : Graph) (of : IsCountedGraph net rules graph) (found : RuleSearch) (is : IsRuleSearch rules nodes graph.edges.now r found) where
      abbrev Edges : ℕ → ℕ → Type 0
      Edges = Leads graph.edges.now

      low_lead : (a b : ℕ) → Edges a b → b < nodes
      low_lead a b leads = low_count a b (counts graph of a b leads)

      pub path_within : (m : ℕ) (path : List ℕ) → IsPathAround Edges is.starts is.barrier m path → All (λ v. v < nodes) path
      path_within m [] none = absurd none
      path_within m (start ∷ more) (source, chain, free) = λ k d lt.
          let has = Contains-get_or (start ∷ more) k d lt in
          elim (first_or_later start more (get_or (start ∷ more) k d) has) [
            | inl same ↦ subst (λ (v : ℕ). v < nodes) same (is.starts_within start source)
            | inr later ↦ low_chain Edges nodes low_lead start more m chain (get_or (start ∷ more) k d) later
          ]

      source_is : (v : ℕ) → Contains is.starts v → IsIn net files pieces x v
      source_is v has = let low = is.starts_within v has in (is_in x r.first v low first).0 ((is.starts_are v low).0 has)

      source_back : (v : ℕ) → v < nodes → IsIn net files pieces x v → Contains is.starts v
      source_back v low named = (is.starts_are v low).1 ((is_in x r.first v low first).1 named)

      -- a path whose modules after the first are all barred has one module
      alone : ((v : ℕ) → v < nodes → marked is.barrier v ≡ true) → (m : ℕ) (path : List ℕ) → IsPathAround Edges is.starts is.barrier m path → (path ≡ m ∷ []) × IsIn net files pieces x m
      alone all m [] none = absurd none
      alone all m (start ∷ []) (source, e, free) = (ap (λ (v : ℕ). v ∷ []) e, subst (λ (v : ℕ). IsIn net files pieces x v) e (source_is start source))
      alone all m (start ∷ n ∷ more) (source, (step, rest), free) = absurd (
          let low = low_lead start n step in
          let e : true ≡ false = sym (all n low) ∙ All-contains (λ (v : ℕ). marked is.barrier v ≡ false) (n ∷ more) n free (first_member n more n refl) in
          cc)

      alone_back : (m : ℕ) (path : List ℕ) → m < nodes → path ≡ m ∷ [] → IsIn net files pieces x m → IsPathAround Edges is.starts is.barrier m path
      alone_back m path low e named = subst (IsPathAround Edges is.starts is.barrier m) (sym e) (source_back m low named, refl, λ k d lt. absurd (omega arith))

      entry_to : ((v : ℕ) → v < nodes → IsIn net files pieces y v → marked is.barrier v ≡ true) → (m : ℕ) (path : List ℕ) → IsPathAround Edges is.starts is.barrier m path → IsEntryPath (IsUnallowedImport net pieces) (IsIn net files pieces x) (IsIn net files pieces y) m path
      entry_to bars m [] none = absurd none
      entry_to bars m (start ∷ more) (source, chain, free) = (
        source_is start source,
        chain_to Edges (IsUnallowedImport net pieces) (counts graph of) start more m chain,
        λ v has named.
            let low = low_chain Edges nodes low_lead start more m chain v has in
            let e : true ≡ false = sym (bars v low named) ∙ All-contains (λ (u : ℕ). marked is.barrier u ≡ false) more v free has in
            cc,
      )

      entry_back : ((v : ℕ) → v < nodes → marked is.barrier v ≡ true → IsIn net files pieces y v) → (m : ℕ) → m < nodes → (path : List ℕ) → IsEntryPath (IsUnallowedImport net pieces) (IsIn net files pieces x) (IsIn net files pieces y) m path → IsPathAround Edges is.starts is.barrier m path
      entry_back bars m low [] none = absurd none
      entry_back bars m low (start ∷ more) (source, chain, free) = (
        source_back start (low_start more chain) source,
        chain_to (IsUnallowedImport net pieces) Edges (counted_back graph of) start more m chain,
        λ k d lt.
            let v = get_or more k d in
            let has = Contains-get_or more k d lt in
            elim (cases_Bool (marked is.barrier v)) [
              | inl barred ↦ absurd (free v has (bars v (low_chain (IsUnallowedImport net pieces) nodes low_count start more m chain v has) barred))
              | inr no_mark ↦ no_mark
            ],
      )
        where
          low_start : (more : List ℕ) → IsChain (IsUnallowedImport net pieces) start more m → start < nodes
          low_start [] e = subst (λ (v : ℕ). v < nodes) (sym e) low
          low_start (n ∷ more) (step, rest) = low_source start n step

      -- ---- by the kind of the rule

      forbidden_to : (IsRepeated rules.rules.items r → ⊥) → (kind : RuleKind) → r.kind ≡ kind → ((v : ℕ) → v < nodes → (marked is.barrier v ≡ true) ↔ IsBarredBy rules r kind v) → ((v : ℕ) → v < nodes → (marked found.targets.items v ≡ true) ↔ IsTargetBy rules r kind v)
          → (m n : ℕ) (path : List ℕ) → m < nodes → n < nodes → IsPathAround Edges is.starts is.barrier m path → marked found.targets.items n ≡ true → IsForbidden net files pieces r.line m n path
      forbidden_to new kinds.Forbid e bars targets m n path low high around target =
          ByForbid x y (subst (λ (k : RuleKind). States pieces r.line (Restricts k x y)) e says) ((is_in y r.second n high second).0 ((targets n high).0 target))
          (entry_to (λ v low named. (bars v low).1 ((is_in y r.second v low second).1 named)) m path around)
      forbidden_to new kinds.ForbidImport e bars targets m n path low high around target =
          let (only, source) = alone (λ v low. (bars v low).1 tt) m path around in
          ByForbidImport x y (subst (λ (k : RuleKind). States pieces r.line (Restricts k x y)) e says) source ((is_in y r.second n high second).0 ((targets n high).0 target)) only
      forbidden_to new kinds.May e bars targets m n path low high around target =
          let (only, source) = alone (λ v low. (bars v low).1 tt) m path around in
          let (outside, others) = outsider n high ((targets n high).0 target) in
          ByMay x (first_may e new) source outside others only

      forbidden_back : (kind : RuleKind) → r.kind ≡ kind → ((v : ℕ) → v < nodes → (marked is.barrier v ≡ true) ↔ IsBarredBy rules r kind v) → ((v : ℕ) → v < nodes → (marked found.targets.items v ≡ true) ↔ IsTargetBy rules r kind v)
          → (m n : ℕ) (path : List ℕ) → m < nodes → n < nodes → IsForbidden net files pieces r.line m n path → IsPathAround Edges is.starts is.barrier m path × (marked found.targets.items n ≡ true)
      forbidden_back kinds.Forbid e bars targets m n path low high (ByForbid u v line target free) =
          let (k, same_x, same_y) = same_line kinds.Forbid u v line in
          let target_is : IsIn net files pieces y n = subst (λ (w : List ℕ). IsIn net files pieces w n) (sym same_y) target in
          let entry : IsEntryPath (IsUnallowedImport net pieces) (IsIn net files pieces x) (IsIn net files pieces y) m path =
          subst (λ (w : List ℕ). IsEntryPath (IsUnallowedImport net pieces) (IsIn net files pieces w) (IsIn net files pieces y) m path) (sym same_x)
          (subst (λ (w : List ℕ). IsEntryPath (IsUnallowedImport net pieces) (IsIn net files pieces u) (IsIn net files pieces w) m path) (sym same_y) free) in
          (entry_back (λ w low barred. (is_in y r.second w low second).0 ((bars w low).0 barred)) m low path entry, (targets n high).1 ((is_in y r.second n high second).1 target_is))
      forbidden_back kinds.ForbidImport e bars targets m n path low high (ByForbid u v line target free) = absurd (let k = (same_line kinds.Forbid u v line).0 in let f : kinds.ForbidImport ≡ kinds.Forbid = sym e ∙ k in cc)
      forbidden_back kinds.May e bars targets m n path low high (ByForbid u v line target free) = absurd (let k = (same_line kinds.Forbid u v line).0 in let f : kinds.May ≡ kinds.Forbid = sym e ∙ k in cc)
      forbidden_back kinds.Forbid e bars targets m n path low high (ByForbidImport u v line source target only) = absurd (let k = (same_line kinds.ForbidImport u v line).0 in let f : kinds.Forbid ≡ kinds.ForbidImport = sym e ∙ k in cc)
      forbidden_back kinds.ForbidImport e bars targets m n path low high (ByForbidImport u v line source target only) =
          let (k, same_x, same_y) = same_line kinds.ForbidImport u v line in
          let target_is : IsIn net files pieces y n = subst (λ (w : List ℕ). IsIn net files pieces w n) (sym same_y) target in
          let source_of : IsIn net files pieces x m = subst (λ (w : List ℕ). IsIn net files pieces w m) (sym same_x) source in
          (alone_back m path low only source_of, (targets n high).1 ((is_in y r.second n high second).1 target_is))
      forbidden_back kinds.May e bars targets m n path low high (ByForbidImport u v line source target only) = absurd (let k = (same_line kinds.ForbidImport u v line).0 in let f : kinds.May ≡ kinds.ForbidImport = sym e ∙ k in cc)
      forbidden_back kinds.Forbid e bars targets m n path low high (ByMay u may source outside others only) = absurd (let k = (same_line kinds.May u may.target may.says).0 in let f : kinds.Forbid ≡ kinds.May = sym e ∙ k in cc)
      forbidden_back kinds.ForbidImport e bars targets m n path low high (ByMay u may source outside others only) = absurd (let k = (same_line kinds.May u may.target may.says).0 in let f : kinds.ForbidImport ≡ kinds.May = sym e ∙ k in cc)
      forbidden_back kinds.May e bars targets m n path low high (ByMay u may source outside others only) =
          let same_x = (same_line kinds.May u may.target may.says).1 in
          let source_of : IsIn net files pieces x m = subst (λ (w : List ℕ). IsIn net files pieces w m) (sym same_x) source in
          let outside_of : IsIn net files pieces x n → ⊥ = λ named. outside (subst (λ (w : List ℕ). IsIn net files pieces w n) same_x named) in
          let others_of : (other : ℕ) (v : List ℕ) → States pieces other (May x v) → IsIn net files pieces v n → ⊥ = λ other v line named. others other v (subst (λ (w : List ℕ). States pieces other (May w v)) same_x line) named in
          (alone_back m path low only source_of, (targets n high).1 (outsider_back n high outside_of others_of))

      pub searched : (IsRepeated rules.rules.items r → ⊥) → IsSearchFor net files pieces r.line found
      searched new = record {
        edges = graph.edges.now;
        starts = is.starts;
        barrier = is.barrier;
        search = is.search;
        within = path_within;
        size = is.size;
        forbidden = λ m n path low high. (
          λ (around, target). forbidden_to new r.kind refl is.barrier_are is.targets_are m n path low high around target,
          forbidden_back r.kind refl is.barrier_are is.targets_are m n path low high,
        );
      }

  -- of one of the rules
  pub searched_rule : (r : Rule) → IsFirstRule rules.rules.items r → (graph : Graph) (of : IsCountedGraph net rules graph) (found : RuleSearch) → IsRuleSearch rules nodes graph.edges.now r found → IsSearchFor net files pieces r.line found
  searched_rule r (has, new) graph of found is =
      let (le, (x, y, says, first, second)) = elements.rules.each r has in
      searched r x y says first second graph of found is new

  pub repeated_rule : (r : Rule) → Contains rules.rules.items r → IsRepeated rules.rules.items r → (m n : ℕ) (path : List ℕ) → IsForbidden net files pieces r.line m n path → ⊥
  repeated_rule r has repeated m n path forbidden =
      let (le, (x, y, says, first, second)) = elements.rules.each r has in
      repeated_none r x y says first second repeated m n path forbidden
