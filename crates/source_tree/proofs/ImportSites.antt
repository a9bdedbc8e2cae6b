-- The sites of imports, by the import items of files.
use Rattle.std.proofs.Common.{◌≡◌, ◌≢◌, ◌∙◌, ◌+◌, ◌<◌, ◌≤◌, ℕ, zero, suc, true, List, [], ◌∷◌, ◌++◌, length, length-append, map, get_or, set, take, Some, Ok, refl, sym, ap, subst, inl, inr, arith, get_or-set_other, get_or-set_same}
use Rattle.std.specs.Prelude.{◌⊎◌, Contains, Vec, option_map, slice_get}
use Rattle.std.specs.declared.alloc.Global.{Global}
use Rattle.std.proofs.lemmas.Bool.{cases_eq}
use Rattle.std.proofs.lemmas.List.{length-map, take_more}
use Rattle.std.proofs.lemmas.List.Elements.{Contains-get_or}
use Rattle.std.proofs.lemmas.Option.{get_or_from_slice_get, same_Some, slice_get-get_or, slice_get-map, slice_get_within}
use Rattle.digraph.proofs.Members.{from_map}
use Rattle.cut_net.specs.declared.priced.Priced.{Priced}
use Rattle.cut_net.specs.Network.{Network, name_of, missing_item}
use Rattle.cut_net.specs.Prices.{is_named}
use Rattle.cut_net.specs.WellFormed.{IsNetwork}
use Rattle.cut_net.proofs.Noting.{map_some_is, named_is, named_true, same_place}
use Rattle.table_rules.specs.Declaring.{rows_of}
use Rattle.ob_grammar.specs.Parsed.{IsTheTree}
use Rattle.module_table.specs.Parts.{Rows}
use Rattle.module_table.specs.declared.rows.Import.{Import}
use Rattle.ob_scan.specs.declared.line_column.Position.{Position}
use Rattle.ob_scan.specs.declared.token.Token.{Token}
use Rattle.ob_scan.specs.Spelling.{IsOutcome, Spells}
use Rattle.ob_scan.proofs.Outcomes.{spelled_once}
use Rattle.scopes.specs.ScopesInvariant.{alias_of}
use Rattle.scopes.specs.declared.module_scopes.Alias.{Alias}
use Rattle.scopes.specs.Scoped.{AliasUses, ModuleScopes}
use Rattle.ob_tree.specs.declared.declaration.Module.{Module}
use Rattle.source_tree.specs.Files.{AreAllOf}
use Rattle.source_tree.specs.Located.{no_site, AreItemPositions, AreSitesOf, HasLocated, IsFirstFrom, HasSite, IsImportPosition, IsItemPosition, IsLocated, IsNotFrom, IsSetFrom, IsSiteFrom}
use Rattle.source_tree.specs.TreeReading.{AreFilesRead, AreScopesOf, HasScopes}
use Rattle.source_tree.specs.Trees.{names, rows, IsNetOfTree, ModuleFile}
use Rattle.source_tree.specs.declared.import_sites.ImportSite.{ImportSite}
use Rattle.source_tree.specs.declared.import_sites.LocatedScopes.{LocatedScopes}
use Rattle.source_tree.specs.declared.source.Source.{Source}
use Rattle.source_tree.proofs.SameFiles.{import_over, one_rows}
use Rattle.source_tree.proofs.TreeFiles.{at_item, each_joined, there}
use Rattle.source_tree.proofs.TreeNet.{index_or_len}

-- ---- one import item more

module _ (net : Network) (is : IsNetwork net) (f : ℕ) (s : ModuleScopes) (items : List Position) (low : ℕ) (alias : AliasUses) (there : slice_get s.aliases low ≡ Some alias) where
  abbrev import_at : ℕ → Priced
  import_at k = get_or net.imports k missing_item

  -- the item names no import of the module, and those after it are inspected
  first_more : (n : List ℕ) (at : Position) → (alias.imported ≡ n → ⊥) → IsFirstFrom (low + 1) s.aliases items n at → IsFirstFrom low s.aliases items n at
  first_more n at not_here h = record {
    index = h.index;
    above = (let a = h.above in omega arith);
    alias = h.alias;
    there = h.there;
    named = h.named;
    first = λ before other least less at_before named. elim (cases_eq before low) [
      | inl e ↦ not_here (ap (λ (a : AliasUses). a.imported) (same_Some alias other (sym there ∙ ap (slice_get s.aliases) (sym e) ∙ at_before)) ∙ named)
      | inr ne ↦ h.first before other (omega (arith, ne)) less at_before named
    ];
    listed = h.listed;
  }

  not_more : (i : Priced) → ((name_of net i.from ≡ s.name) → alias.imported ≡ name_of net i.to → ⊥) → IsNotFrom (low + 1) net s i → IsNotFrom low net s i
  not_more i not_here none from j other least at_j named = elim (cases_eq j low) [
    | inl e ↦ not_here from (ap (λ (a : AliasUses). a.imported) (same_Some alias other (sym there ∙ ap (slice_get s.aliases) (sym e) ∙ at_j)) ∙ named)
    | inr ne ↦ none from j other (omega (arith, ne)) at_j named
  ]

  -- an import that the item doesn't name
  pub set_other : (i : Priced) (old new : ImportSite) → ((name_of net i.from ≡ s.name) → alias.imported ≡ name_of net i.to → ⊥) → IsSetFrom (low + 1) net f s items i old new → IsSetFrom low net f s items i old new
  set_other i old new not_here (inl (file, from, first)) = inl (file, from, first_more (name_of net i.to) new.position (not_here from) first)
  set_other i old new not_here (inr (same, none)) = inr (same, not_more i not_here none)

  -- the item names no import of the network
  pub set_none : ((i : Priced) → Contains net.imports i → is_named net s.name alias.imported i ≡ true → ⊥) → (olds news : List ImportSite) →
      ((k : ℕ) → k < length net.imports → IsSetFrom (low + 1) net f s items (import_at k) (get_or olds k no_site) (get_or news k no_site)) →
      (k : ℕ) → k < length net.imports → IsSetFrom low net f s items (import_at k) (get_or olds k no_site) (get_or news k no_site)
  set_none no_import olds news so_far k lt =
      set_other (import_at k) _ _ (λ from to. no_import (import_at k) (Contains-get_or net.imports k missing_item lt) (named_true net s.name alias.imported (import_at k) (sym from) to)) (so_far k lt)

  -- it names this one
  pub set_one : (number : ℕ) (at : Position) → number < length net.imports → is_named net s.name alias.imported (import_at number) ≡ true → slice_get items low ≡ Some at → (olds news : List ImportSite) → length news ≡ length net.imports →
      ((k : ℕ) → k < length net.imports → IsSetFrom (low + 1) net f s items (import_at k) (get_or olds k no_site) (get_or news k no_site)) →
      (k : ℕ) → k < length net.imports → IsSetFrom low net f s items (import_at k) (get_or olds k no_site) (get_or (set news number (record { file = f; position = at })) k no_site)
  set_one number at inside named listed olds news size so_far k lt = elim (cases_eq k number) [
    | inl e ↦
        let takes = named_is net s.name alias.imported (import_at number) named in
        let site : ImportSite = record { file = f; position = at } in
        let here : IsSiteFrom low net f s items (import_at number) site = (
          refl,
          sym takes.0,
          record { index = low; above = omega arith; alias = alias; there = there; named = takes.1; first = λ before other least less at_before also. absurd (omega arith); listed = listed },
        ) in
        let located_message : get_or (set news number site) number no_site ≡ site = get_or-set_same news number site no_site (omega arith) in
        inl (subst (λ (j : ℕ). IsSiteFrom low net f s items (import_at j) (get_or (set news number site) j no_site)) (sym e) (subst (IsSiteFrom low net f s items (import_at number)) (sym located_message) here))
    | inr ne ↦
        let kept = get_or-set_other news number k (record { file = f; position = at }) no_site ne in
        subst (IsSetFrom low net f s items (import_at k) (get_or olds k no_site)) (sym kept)
        (set_other (import_at k) _ _ (λ from to. ne (same_place net is k number s.name alias.imported lt inside (named_true net s.name alias.imported (import_at k) (sym from) to) named)) (so_far k lt))
  ]

-- past the last item none names an import
pub set_past : (net : Network) (f : ℕ) (s : ModuleScopes) (items : List Position) (low : ℕ) (i : Priced) (site : ImportSite) → length s.aliases ≤ low → IsSetFrom low net f s items i site site
set_past net f s items low i site past = inr (refl, λ from j alias least at named. let within = slice_get_within s.aliases j alias at in omega arith)

-- ---- one file more

module _ (net : Network) (ss : List ModuleScopes) (items : List (Vec Position Global)) (count : ℕ) (s : ModuleScopes) (v : Vec Position Global) (at : slice_get ss count ≡ Some s) (at_items : slice_get items count ≡ Some v) where
  pub found_more : (i : Priced) (old new : ImportSite) → HasSite net ss items count i old → IsSetFrom 0 net count s v.items i old new → HasSite net ss items (count + 1) i new
  found_more i old new before (inl (file, from, first)) =
      inl (s, v, ap (slice_get ss) file ∙ at, ap (slice_get items) file ∙ at_items, (refl, from, first))
  found_more i old new (inl found) (inr (same, none)) =
      subst (λ (site : ImportSite). HasSite net ss items (count + 1) i site) (sym same) (inl found)
  found_more i old new (inr absent) (inr (same, none)) = inr (λ f other less there. elim (cases_eq f count) [
    | inl e ↦ subst (λ (t : ModuleScopes). IsNotFrom 0 net t i) (same_Some s other (sym at ∙ ap (slice_get ss) (sym e) ∙ there)) none
    | inr ne ↦ absent f other (omega (arith, ne)) there
  ])

-- no file yet
pub none_found : (net : Network) (ss : List ModuleScopes) (items : List (Vec Position Global)) (i : Priced) (site : ImportSite) → HasSite net ss items 0 i site
none_found net ss items i site = inr (λ f s less at. absurd (omega arith))

-- ---- import items of a file

pub positions_next : (bytes : List ℕ) (ts : List Token) (items : List Import) (k : ℕ) (d : Import) (at : Position) (ps : List Position) → k < length items → IsItemPosition bytes ts (get_or items k d) at → AreItemPositions bytes ts (take k items) ps → AreItemPositions bytes ts (take (k + 1) items) (ps ++ at ∷ [])
positions_next bytes ts items k d at ps lt here so_far =
    subst (λ (l : List Import). AreItemPositions bytes ts l (ps ++ at ∷ [])) (sym (take_more items k d lt)) (record {
      as_many = length-append ps (at ∷ []) ∙ ap (λ (n : ℕ). n + 1) so_far.as_many ∙ sym (length-append (take k items) (get_or items k d ∷ []));
      each = each_joined (IsItemPosition bytes ts) (take k items) (get_or items k d ∷ []) ps (at ∷ []) so_far.as_many so_far.each one;
    })
  where
    one : (j : ℕ) (item : Import) (p : Position) → slice_get (get_or items k d ∷ []) j ≡ Some item → slice_get (at ∷ []) j ≡ Some p → IsItemPosition bytes ts item p
    one zero item p e f = subst (λ (x : Import). IsItemPosition bytes ts x p) (same_Some (get_or items k d) item e) (subst (IsItemPosition bytes ts (get_or items k d)) (same_Some at p f) here)
    one (suc j) item p e f = absurd cc

-- the positions that one reading of a file gives are those of the file
pub has_located : (source : Source) (ts : List Token) (tree : Module) (rows_are : Rows) → IsOutcome source.bytes.items (Ok ts) → IsTheTree source.bytes.items ts tree → rows_are ≡ rows_of tree → (l : LocatedScopes) → HasScopes source l.scopes
    → AreItemPositions source.bytes.items ts rows_are.imports l.items.items → HasLocated source l
has_located source ts tree rows_are spelled is_tree same l (file, accepted, scoped) positions =
    let spells : Spells source.bytes.items file.tokens = subst (λ (bs : List ℕ). Spells bs file.tokens) accepted.bytes_are accepted.reads.1 in
    let tokens : ts ≡ file.tokens = spelled_once source.bytes.items ts file.tokens spelled.1 spells in
    let from_source : rows_are ≡ rows file = same ∙ one_rows source.bytes.items ts file.tokens tree file.tree spelled.1 spells is_tree.tree.derived accepted.is_tree.tree.derived in (
      file,
      accepted,
      record {
        scopes = scoped;
        items = subst (λ (bs : List ℕ). AreItemPositions bs file.tokens (rows file).imports l.items.items) (sym accepted.bytes_are)
            (subst (λ (us : List Token). AreItemPositions source.bytes.items us (rows file).imports l.items.items) tokens
            (subst (λ (r : Rows). AreItemPositions source.bytes.items ts r.imports l.items.items) from_source positions));
      },
    )

-- ---- the files of a tree

map_at : {X Y : Type 0} (f : X → Y) (xs : List X) (i : ℕ) (y : Y) → slice_get (map f xs) i ≡ Some y → (x : X) × (slice_get xs i ≡ Some x) × (f x ≡ y)
map_at f xs i y e =
    let both = sym (slice_get-map f xs i) ∙ e in
    let (x, at) = map_some_is f (slice_get xs i) y both in
    (x, at, same_Some (f x) y (ap (option_map f) (sym at) ∙ both))

module _ (sources : List Source) (files : List ModuleFile) (located : List LocatedScopes) (read : AreAllOf IsLocated sources files located) where
  abbrev pub scopes_of : List ModuleScopes
  scopes_of = map (λ (l : LocatedScopes). l.scopes) located

  abbrev pub items_of : List (Vec Position Global)
  items_of = map (λ (l : LocatedScopes). l.items) located

  pub scopes_read : AreFilesRead sources files scopes_of
  scopes_read = record {
    accepted = read.accepted;
    as_many = length-map located (λ (l : LocatedScopes). l.scopes) ∙ read.as_many;
    each = λ i file s at_file at_s. let (l, at, same) = map_at (λ (l : LocatedScopes). l.scopes) located i s at_s in subst (AreScopesOf file) same (read.each i file l at_file at).scopes;
  }

  -- the file of this number, with its scopes and positions
  file_at : (f : ℕ) (s : ModuleScopes) (v : Vec Position Global) → slice_get scopes_of f ≡ Some s → slice_get items_of f ≡ Some v → (file : ModuleFile) × (slice_get files f ≡ Some file) × AreScopesOf file s × AreItemPositions file.bytes file.tokens (rows file).imports v.items
  file_at f s v at_s at_v =
      let (l, at, same) = map_at (λ (l : LocatedScopes). l.scopes) located f s at_s in
      let (m, at_m, same_v) = map_at (λ (l : LocatedScopes). l.items) located f v at_v in
      let one : m ≡ l = same_Some m l (sym at_m ∙ at) in
      let within = slice_get_within located f l at in
      let many = read.as_many in
      let (file, at_file) = there files f (omega arith) in
      let is = read.each f file l at_file at in
      (file, at_file, subst (AreScopesOf file) same is.scopes, subst (λ (w : Vec Position Global). AreItemPositions file.bytes file.tokens (rows file).imports w.items) (ap (λ (x : LocatedScopes). x.items) (sym one) ∙ same_v) is.items)

  pub sizes : (f : ℕ) (s : ModuleScopes) (v : Vec Position Global) → slice_get scopes_of f ≡ Some s → slice_get items_of f ≡ Some v → length v.items ≡ length s.aliases
  sizes f s v at_s at_v = let (file, at, scoped, positions) = file_at f s v at_s at_v in positions.as_many ∙ sym scoped.aliased.as_many

  pub sizes_by : (ss : List ModuleScopes) (vs : List (Vec Position Global)) → ss ≡ scopes_of → vs ≡ items_of → (f : ℕ) (s : ModuleScopes) (v : Vec Position Global) → slice_get ss f ≡ Some s → slice_get vs f ≡ Some v → length v.items ≡ length s.aliases
  sizes_by ss vs e g f s v at_s at_v = sizes f s v (subst (λ (l : List ModuleScopes). slice_get l f ≡ Some s) e at_s) (subst (λ (l : List (Vec Position Global)). slice_get l f ≡ Some v) g at_v)

  module _ (net : Network) (is_net : IsNetOfTree sources net) where
    -- an import is named by an item of some file
    not_absent : (i : Priced) → Contains net.imports i → ((f : ℕ) (s : ModuleScopes) → f < length scopes_of → slice_get scopes_of f ≡ Some s → IsNotFrom 0 net s i) → ⊥
    not_absent i has absent =
        let ends = is_net.between i has in
        let own = (is_net.listed i ends.0 ends.1).0 has in
        let h = import_over sources is_net.files files is_net.is_tree.accepted read.accepted (name_of net i.from) (name_of net i.to) i.amount own in
        let (f, at_file) = index_or_len files h.importer h.is_of_tree in
        let within = slice_get_within files f h.importer at_file in
        let many = read.as_many in
        let long = length-map located (λ (l : LocatedScopes). l.scopes) in
        let (s, at_s) = there scopes_of f (omega arith) in
        let scoped = scopes_read.each f h.importer s at_file at_s in
        let (item, in_rows, names_it) = from_map (λ (x : Import). names h.importer x.imported) (rows h.importer).imports (name_of net i.to) h.imports in
        let (j, at_item) = index_or_len (rows h.importer).imports item in_rows in
        let inside = slice_get_within (rows h.importer).imports j item at_item in
        let same = scoped.aliased.as_many in
        let (alias, at_alias) = there s.aliases j (omega arith) in
        absent f s (omega arith) at_s (sym h.named ∙ sym scoped.name) j alias (omega arith) at_alias ((scoped.aliased.each j item alias at_item at_alias).imported ∙ names_it)

    -- the position of the first alias is that of the first item
    first_item : (file : ModuleFile) (s : ModuleScopes) (items : List Position) (n : List ℕ) (at : Position) → AreScopesOf file s → AreItemPositions file.bytes file.tokens (rows file).imports items → IsFirstFrom 0 s.aliases items n at → IsImportPosition file n at
    first_item file s items n at scoped positions h =
        let many = scoped.aliased.as_many in
        let inside = slice_get_within s.aliases h.index h.alias h.there in
        let (item, at_item) = there (rows file).imports h.index (omega arith) in
        let is = scoped.aliased.each h.index item h.alias at_item h.there in
        record {
          index = h.index;
          item = item;
          listed = at_item;
          named = sym is.imported ∙ h.named;
          first = λ before other less at_other named.
              let low = slice_get_within (rows file).imports before other at_other in
              let (alias, at_alias) = there s.aliases before (omega arith) in
              h.first before alias (omega arith) less at_alias ((scoped.aliased.each before other alias at_other at_alias).imported ∙ named);
          position = positions.each h.index item at at_item h.listed;
        }

    pub sites_are : (sites : List ImportSite) → length sites ≡ length net.imports → ((k : ℕ) → k < length net.imports → HasSite net scopes_of items_of (length scopes_of) (get_or net.imports k missing_item) (get_or sites k no_site)) → AreSitesOf sources net sites
    sites_are sites size found = record {
      files = files;
      accepted = read.accepted;
      as_many = size;
      each = λ k i site at_net at_site.
          let low = slice_get_within net.imports k i at_net in
          let is : get_or net.imports k missing_item ≡ i = get_or_from_slice_get net.imports k i missing_item at_net in
          let site_is : get_or sites k no_site ≡ site = get_or_from_slice_get sites k site no_site at_site in
          let here = subst (HasSite net scopes_of items_of (length scopes_of) i) site_is (subst (λ (p : Priced). HasSite net scopes_of items_of (length scopes_of) p (get_or sites k no_site)) is (found k low)) in
          by i site (subst (Contains net.imports) is (Contains-get_or net.imports k missing_item low)) here;
    }
      where
        by : (i : Priced) (site : ImportSite) → Contains net.imports i → HasSite net scopes_of items_of (length scopes_of) i site → (file : ModuleFile) × (slice_get files site.file ≡ Some file) × (names file 1 ≡ name_of net i.from) × IsImportPosition file (name_of net i.to) site.position
        by i site has (inr absent) = absurd (not_absent i has absent)
        by i site has (inl (s, v, at_s, at_v, (same, from, first))) =
            let (file, at_file, scoped, positions) = file_at site.file s v at_s at_v in
            (file, at_file, sym scoped.name ∙ sym from, first_item file s v.items (name_of net i.to) site.position scoped positions first)

    pub sites_by : (ss : List ModuleScopes) (vs : List (Vec Position Global)) → ss ≡ scopes_of → vs ≡ items_of → (sites : List ImportSite) → length sites ≡ length net.imports
        → ((k : ℕ) → k < length net.imports → HasSite net ss vs (length ss) (get_or net.imports k missing_item) (get_or sites k no_site)) → AreSitesOf sources net sites
    sites_by ss vs e f sites size found = sites_are sites size (λ k lt.
        subst (λ (ws : List (Vec Position Global)). HasSite net scopes_of ws (length scopes_of) (get_or net.imports k missing_item) (get_or sites k no_site)) f
        (subst (λ (rs : List ModuleScopes). HasSite net rs vs (length rs) (get_or net.imports k missing_item) (get_or sites k no_site)) e (found k lt)))

-- the alias of an entry
pub alias_at : (rows : List Alias) (aliases : List AliasUses) (i : ℕ) (row : Alias) → map alias_of rows ≡ aliases → i < length rows → row ≡ get_or rows i row → slice_get aliases i ≡ Some (alias_of row)
alias_at rows aliases i row all lt is = subst (λ (xs : List AliasUses). slice_get xs i ≡ Some (alias_of row)) all (slice_get-map alias_of rows i ∙ ap (option_map alias_of) (at_item rows i row lt is))
