-- The scopes, assembled from the meanings and counts of all uses.
use Rattle.std.proofs.Common.{◌≡◌, ℕ, ◌+◌, ◌<◌, ◌≤◌, inl, inr, List, [], ◌∷◌, ◌++◌, length, map, take, Some, sym, ap, ◌∙◌, subst, arith, length-append}
use Rattle.std.specs.Prelude.{slice_get, slice_index, Contains}
use Rattle.std.specs.Str.{IsUtf8}
use Rattle.std.proofs.lemmas.List.{length-map, take_all}
use Rattle.std.proofs.lemmas.Option.{slice_get_within}
use Rattle.ob_scan.specs.declared.token.Token.{Token}
use Rattle.ob_scan.specs.Texts.{text_at, token_at}
use Rattle.module_table.specs.declared.rows.Import.{Import}
use Rattle.module_table.specs.declared.rows.Used.{Used}
use Rattle.module_table.specs.Parts.{Rows}
use Rattle.scopes.specs.declared.meaning.Resolution.{Resolution}
use Rattle.scopes.specs.declared.members.Member.{Member}
use Rattle.scopes.specs.declared.module_scopes.Alias.{Alias}
use Rattle.scopes.specs.Members.{members_of}
use Rattle.scopes.specs.Scope.{IsFirstDuplicate, HasNoDuplicates}
use Rattle.scopes.specs.QualifiedUses.{Counts, HasUses, IsQualifiedBy}
use Rattle.scopes.specs.IdentifierNames.{AreNames}
use Rattle.module_table.specs.Order.{AreRowsSorted, IsIncreasingBy}
use Rattle.scopes.specs.ScopesInvariant.{alias_of, meaning_of, AreValidScopes}
use Rattle.ob_scope.specs.MemberIndex.{AreFirstDuplicates}
use Rattle.ob_scope.specs.Found.{AreAliasesOf, AreCounted, AreMeant, AreTexts, IsAliasOf, IsCountOf, MeansBefore}
use Rattle.scopes.specs.Weights.{uses_of_all}
use Rattle.scopes.specs.Scoped.{AliasUses, AreAliases, AreScopes, IsAlias, Meaning, MeansBy, ModuleScopes}
use Rattle.ob_scope.specs.Faults.{IsDuplicateAt}
use Rattle.scopes.proofs.Counting.{counts-none}
use Rattle.module_table.proofs.Elements.{contains_of, contains_slice, map_ascend, of_contains, of_slice, slice_contains, slice_there, some_one}
use Rattle.ob_scope.proofs.Finding.{get_push}
use Rattle.scopes.proofs.Meanings.{means-member}
use Rattle.ob_scope.proofs.Names.{are_texts}
use Rattle.ob_scope.proofs.Placing.{Place_of, place_of_number, At, Nowhere}
use Rattle.ob_scope.proofs.Weighing.{uses_within}

-- one more alias
pub aliases_more : (name : ℕ → List ℕ) (members : List Member) (counts : List ℕ) (imports : List Import) (k : ℕ) (item : Import) (a : Alias) (aliases : List Alias) →
    AreAliasesOf name members counts imports k aliases → slice_get imports k ≡ Some item → IsAliasOf name members counts item a → AreAliasesOf name members counts imports (k + 1) (aliases ++ a ∷ [])
aliases_more name members counts imports k item a aliases are at is = record {
  as_many = length-append aliases (a ∷ []) ∙ ap (λ n. n + 1) are.as_many;
  each = λ i other b e f. elim (get_push aliases a b i f) [
    | inl old ↦ are.each i other b e old
    | inr last ↦ (
        let same : item ≡ other = some_one item other (sym at ∙ ap (slice_get imports) (sym (last.0 ∙ are.as_many)) ∙ e) in
        subst (λ (x : Import). IsAliasOf name members counts x b) same (subst (λ (x : Alias). IsAliasOf name members counts item x) last.1 is))
  ];
}

module _ (name : ℕ → List ℕ) (r : Rows) where
  abbrev members : List Member
  members = members_of r

  abbrev AreAllMeant : List Resolution → Type 0
  AreAllMeant rows = AreMeant name r.blocks members r.uses (length r.uses) rows

  abbrev AreAllCounted : List ℕ → Type 0
  AreAllCounted counts = AreCounted name r.blocks members r.uses (length r.uses) counts

  -- ---- the aliases

  -- the count of an alias is that of its member, or 0 without a member
  uses_by : (counts : List ℕ) (alias n : ℕ) → AreAllCounted counts → IsCountOf members counts alias n → HasUses name r alias n
  uses_by counts alias n c is = by (place_of_number members alias)
    where
      by : Place_of members alias → HasUses name r alias n
      by (At i m there number) =
          let all : take (length r.uses) r.uses ≡ r.uses = take_all (length r.uses) r.uses (omega arith) in
          let counted : Counts (IsQualifiedBy name r.blocks members m.number) (take (length r.uses) r.uses) (slice_index counts i) = c.each i m there in
          let here : Counts (IsQualifiedBy name r.blocks members alias) r.uses (slice_index counts i) =
          subst (λ (k : ℕ). Counts (IsQualifiedBy name r.blocks members k) r.uses (slice_index counts i)) number (subst (λ (us : List Used). Counts (IsQualifiedBy name r.blocks members m.number) us (slice_index counts i)) all counted) in
          subst (λ (k : ℕ). HasUses name r alias k) (sym (is.declared i m there number)) here
      by (Nowhere none) =
          subst (λ (k : ℕ). HasUses name r alias k) (sym (is.undeclared none))
          (counts-none (IsQualifiedBy name r.blocks members alias) r.uses (λ u q.
          let p = slice_contains members q.declared (means-member name r.blocks members u q.declared q.means) in
          none p.0 q.declared p.1 q.is_alias))

  are_aliases : (counts : List ℕ) (aliases : List Alias) → AreTexts name members r.imports → AreAllCounted counts → AreAliasesOf name members counts r.imports (length r.imports) aliases
      → AreAliases name r (map alias_of aliases)
  are_aliases counts aliases texts c are = record {
    as_many = length-map aliases alias_of ∙ are.as_many;
    each = λ i item b e f.
        (let w = of_slice alias_of aliases i b f in
        let h = are.each i item w.0 e w.1 in
        subst (λ (x : AliasUses). IsAlias name r item x) w.2 (record {
          alias = h.alias;
          imported = h.imported (texts.imported item (contains_slice r.imports i item e));
          uses = uses_by counts item.alias w.0.uses c h.uses;
        }));
  }

  -- the aliases have the numbers of their items
  ascend_aliases : (aliases : List AliasUses) → IsIncreasingBy (λ (m : Import). m.alias) r.imports → AreAliases name r aliases → IsIncreasingBy (λ (a : AliasUses). a.alias) aliases
  ascend_aliases aliases up are i j x y below p q =
      let long : length aliases ≡ length r.imports = are.as_many in
      let v = slice_there r.imports i (let s = slice_get_within aliases i x p in omega (arith, s)) in
      let w = slice_there r.imports j (let s = slice_get_within aliases j y q in omega (arith, s)) in
      let h : v.0.alias < w.0.alias = up i j v.0 w.0 below v.1 w.1 in
      omega (arith, (are.each i v.0 x v.1 p).alias, (are.each j w.0 y w.1 q).alias)

  -- ---- the meanings

  means_by : (used declared : ℕ) → MeansBefore name r.blocks members r.uses (length r.uses) used declared → MeansBy name r used declared
  means_by used declared m = record {
    use_row = m.use_row;
    is_use = contains_slice r.uses m.place m.use_row m.there;
    of_use = m.of_use;
    named_declaration = m.named_declaration;
    means = m.means;
    of_declared = m.of_declared;
  }

  before_by : (used declared : ℕ) → MeansBy name r used declared → MeansBefore name r.blocks members r.uses (length r.uses) used declared
  before_by used declared m =
      let p = slice_contains r.uses m.use_row m.is_use in
      record {
        place = p.0;
        below = slice_get_within r.uses p.0 m.use_row p.1;
        use_row = m.use_row;
        there = p.1;
        of_use = m.of_use;
        named_declaration = m.named_declaration;
        means = m.means;
        of_declared = m.of_declared;
      }

  meaning_there : (rows : List Resolution) (used declared : ℕ) → AreAllMeant rows → Contains (map meaning_of rows) (record { used = used; declared = declared }) → MeansBy name r used declared
  meaning_there rows used declared a h =
      let p = of_contains meaning_of rows (record { used = used; declared = declared }) h in
      means_by used declared
      (subst (λ (n : ℕ). MeansBefore name r.blocks members r.uses (length r.uses) used n) (ap (λ (m : Meaning). m.declared) p.3)
      (subst (λ (n : ℕ). MeansBefore name r.blocks members r.uses (length r.uses) n p.1.declared) (ap (λ (m : Meaning). m.used) p.3) (a.sound p.0 p.1 p.2)))

  there_meaning : (rows : List Resolution) (used declared : ℕ) → AreAllMeant rows → MeansBy name r used declared → Contains (map meaning_of rows) (record { used = used; declared = declared })
  there_meaning rows used declared a h =
      let p = a.all used declared (before_by used declared h) in
      contains_of meaning_of rows p.0 (record { used = used; declared = declared }) p.1

-- the scopes of the entries
pub are_scopes : (bytes : List ℕ) (ts : List Token) (r : Rows) (counts : List ℕ) (text : List ℕ) (rows : List Resolution) (aliases : List Alias) → AreRowsSorted r → AreNames (text_at bytes ts) r
    → HasNoDuplicates (text_at bytes ts) (members_of r) → AreAllMeant (text_at bytes ts) r rows → AreAllCounted (text_at bytes ts) r counts
    → AreAliasesOf (text_at bytes ts) (members_of r) counts r.imports (length r.imports) aliases → (IsUtf8 (text_at bytes ts 1) → text ≡ text_at bytes ts 1)
    → AreScopes bytes ts r (record { name = text; meanings = map meaning_of rows; aliases = map alias_of aliases })
are_scopes bytes ts r counts text rows aliases ordered named once meant c are is =
    let name = text_at bytes ts in
    let texts = are_texts name r named in
    let aliased = are_aliases name r counts aliases texts c are in
    record {
      once = once;
      named = named;
      name = is texts.first;
      meanings = λ used declared. (meaning_there name r rows used declared meant, there_meaning name r rows used declared meant);
      ordered = map_ascend meaning_of (λ (m : Meaning). m.used) rows meant.ordered;
      aliased = aliased;
      aliases_ordered = ascend_aliases name r (map alias_of aliases) ordered.imports aliased;
    }

-- these scopes satisfy the invariant
pub are_kept : (bytes : List ℕ) (ts : List Token) (r : Rows) (s : ModuleScopes) → length r.uses ≤ 16777216 → AreScopes bytes ts r s → AreValidScopes s
are_kept bytes ts r s few a = record {
  meanings_ascend = a.ordered;
  aliases_ascend = a.aliases_ordered;
  few = (let h : uses_of_all s.aliases ≤ length r.uses = uses_within (text_at bytes ts) r s.aliases a.once a.aliases_ordered a.aliased in omega (arith, h, few));
}

-- the scopes, from the list of the members
pub are_scopes_by : (bytes : List ℕ) (ts : List Token) (r : Rows) (ms : List Member) (counts : List ℕ) (text : List ℕ) (rows : List Resolution) (aliases : List Alias) → ms ≡ members_of r → AreRowsSorted r → AreNames (text_at bytes ts) r
    → HasNoDuplicates (text_at bytes ts) ms → AreMeant (text_at bytes ts) r.blocks ms r.uses (length r.uses) rows → AreCounted (text_at bytes ts) r.blocks ms r.uses (length r.uses) counts
    → AreAliasesOf (text_at bytes ts) ms counts r.imports (length r.imports) aliases → (IsUtf8 (text_at bytes ts 1) → text ≡ text_at bytes ts 1)
    → AreScopes bytes ts r (record { name = text; meanings = map meaning_of rows; aliases = map alias_of aliases })
are_scopes_by bytes ts r ms counts text rows aliases e ordered named once meant c are is =
    let name = text_at bytes ts in
    are_scopes bytes ts r counts text rows aliases ordered named
    (subst (HasNoDuplicates name) e once)
    (subst (λ (xs : List Member). AreMeant name r.blocks xs r.uses (length r.uses) rows) e meant)
    (subst (λ (xs : List Member). AreCounted name r.blocks xs r.uses (length r.uses) counts) e c)
    (subst (λ (xs : List Member). AreAliasesOf name xs counts r.imports (length r.imports) aliases) e are)
    is

-- two identifiers with one name
pub is_twice : (bytes : List ℕ) (ts : List Token) (ms : List Member) (r : Rows) (f s first second : ℕ) (text : List ℕ) → ms ≡ members_of r → (h : AreFirstDuplicates (text_at bytes ts) ms f s) → AreNames (text_at bytes ts) r
    → (IsUtf8 (text_at bytes ts h.first.number) → text ≡ text_at bytes ts h.first.number) → first ≡ (token_at ts h.first.number).start → second ≡ (token_at ts h.second.number).start
    → IsDuplicateAt bytes ts r h.first h.second text first second
is_twice bytes ts ms r f s first second text e h named is a b = record {
  is_first = subst (λ (xs : List Member). IsFirstDuplicate (text_at bytes ts) xs h.first h.second) e h.twice;
  named = is ((are_texts (text_at bytes ts) r named).declared h.first (subst (λ (xs : List Member). Contains xs h.first) e (contains_slice ms f h.first h.at_first)));
  first_at = a;
  second_at = b;
}
