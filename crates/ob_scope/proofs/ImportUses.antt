-- The uses that cross an import: their list and their number.
use Rattle.std.proofs.Common.{◌≡◌, ℕ, ◌+◌, ◌<◌, ◌≤◌, List, [], ◌∷◌, ◌++◌, length, get_or, take, Some, refl, sym, ap, ap₂, ◌∙◌, subst, arith}
use Rattle.std.specs.Prelude.{Contains}
use Rattle.std.proofs.lemmas.List.{take_all, take_more}
use Rattle.std.proofs.lemmas.Option.{slice_get_within, slice_get-get_or}
use Rattle.ob_scan.specs.declared.token.Token.{Token}
use Rattle.ob_scan.specs.Texts.{text_at}
use Rattle.module_table.specs.declared.rows.Import.{Import}
use Rattle.module_table.specs.declared.rows.Used.{Used}
use Rattle.module_table.specs.declared.rows.DeclKind.TheVariants as decl_kinds
use Rattle.module_table.specs.Parts.{Rows}
use Rattle.ob_scope.specs.declared.crossing_uses.Crossing.{Crossing}
use Rattle.scopes.specs.declared.members.Member.{Member}
use Rattle.scopes.specs.QualifiedUses.{Counts, Crosses, HasWeight, none, one_more, other}
use Rattle.ob_scope.specs.Crossings.{no_use, crossing, other_use, AreCrossings, AreScopesOf, IsImportAt, IsOfUse}
use Rattle.scopes.specs.Aliases.{IsAliasFor}
use Rattle.scopes.specs.Members.{members_of}
use Rattle.scopes.specs.Scope.{ResolvesTo}
use Rattle.scopes.specs.Scoped.{AliasUses, IsAlias, ModuleScopes}
use Rattle.module_table.proofs.Around.{ascend_one}
use Rattle.module_table.proofs.Elements.{contains_slice, slice_contains, slice_there}
use Rattle.scopes.proofs.Meanings.{means-member, means_once}
use Rattle.ob_scope.proofs.Placing.{members_ascend}

---- the crossing of one use

module _ (bytes : List ℕ) (ts : List Token) (rows : Rows) (members : List Member) (s : ModuleScopes) (k : AreScopesOf bytes ts rows members s) (imported : List ℕ) (u : Used) (is_use : Contains rows.uses u) where
  -- the meaning of the use in the scopes
  meant : (declared : ℕ) → Contains s.meanings (record { used = u.number; declared = declared }) → (d : Member) × ResolvesTo (text_at bytes ts) rows.blocks (members_of rows) u d × (d.number ≡ declared)
  meant declared has =
      let m = (k.scopes.meanings u.number declared).0 has in
      let same : m.use_row ≡ u = ascend_one (λ (v : Used). v.number) rows.uses m.use_row u k.ordered.uses m.is_use is_use m.of_use in
      (m.named_declaration, subst (λ (v : Used). ResolvesTo (text_at bytes ts) rows.blocks (members_of rows) v m.named_declaration) same m.means, m.of_declared)

  -- the import item of an alias
  item_of : (row : AliasUses) → Contains s.aliases row → (item : Import) × Contains rows.imports item × IsAlias (text_at bytes ts) rows item row
  item_of row has =
      let p = slice_contains s.aliases row has in
      let within = slice_get_within s.aliases p.0 row p.1 in
      let long : length s.aliases ≡ length rows.imports = k.scopes.aliased.as_many in
      let q = slice_there rows.imports p.0 (omega arith) in
      (q.0, contains_slice rows.imports p.0 q.0 q.1, k.scopes.aliased.each p.0 q.0 row q.1 p.1)

  -- the alias of an import item
  row_of : (item : Import) → Contains rows.imports item → (row : AliasUses) × Contains s.aliases row × IsAlias (text_at bytes ts) rows item row
  row_of item has =
      let p = slice_contains rows.imports item has in
      let within = slice_get_within rows.imports p.0 item p.1 in
      let long : length s.aliases ≡ length rows.imports = k.scopes.aliased.as_many in
      let q = slice_there s.aliases p.0 (omega arith) in
      (q.0, contains_slice s.aliases p.0 q.0 q.1, k.scopes.aliased.each p.0 item q.0 p.1 q.1)

  -- a member that is declared as an import
  import_is : (d : Member) → Contains (members_of rows) d → IsImportAt members d.number → d.decl_kind ≡ decl_kinds.Import
  import_is d has i =
      let there : Contains (members_of rows) i.member = subst (λ (ds : List Member). Contains ds i.member) k.declared i.is_member in
      let same : i.member ≡ d = ascend_one (λ (m : Member). m.number) (members_of rows) i.member d (members_ascend rows.decl_groups rows.declared k.ordered.declared) there has i.declared in
      ap (λ (m : Member). m.decl_kind) (sym same) ∙ i.an_import

  pub crosses_by : (last declared : ℕ) → u.member ≡ Some last → Contains s.meanings (record { used = u.number; declared = declared }) → IsAliasFor s declared imported → IsImportAt members declared
      → Crosses (text_at bytes ts) rows imported u
  crosses_by last declared dotted has alias i =
      let (d, means, number) = meant declared has in
      let (item, is_item, is) = item_of alias.row alias.is_row in
      let in_rows = means-member (text_at bytes ts) rows.blocks (members_of rows) u d means in
      record {
        item = item;
        is_item = is_item;
        of = sym is.imported ∙ alias.of;
        qualified = record {
          qualified = rw dotted refl;
          declared = d;
          means = means;
          is_alias = number ∙ sym alias.declared ∙ is.alias;
          of_import = import_is d in_rows (subst (IsImportAt members) (sym number) i);
        };
      }

  pub alias_back : (declared : ℕ) → Contains s.meanings (record { used = u.number; declared = declared }) → Crosses (text_at bytes ts) rows imported u → IsAliasFor s declared imported
  alias_back declared has c =
      let (d, means, number) = meant declared has in
      let (row, is_row, is) = row_of c.item c.is_item in
      let same : d ≡ c.qualified.declared = means_once (text_at bytes ts) rows.blocks (members_of rows) u d c.qualified.declared k.scopes.once means c.qualified.means in
      record { row = row; is_row = is_row; declared = is.alias ∙ sym c.qualified.is_alias ∙ ap (λ (m : Member). m.number) (sym same) ∙ number; of = is.imported ∙ c.of }

  pub import_back : (declared : ℕ) → Contains s.meanings (record { used = u.number; declared = declared }) → Crosses (text_at bytes ts) rows imported u → IsImportAt members declared
  import_back declared has c =
      let (d, means, number) = meant declared has in
      let same : d ≡ c.qualified.declared = means_once (text_at bytes ts) rows.blocks (members_of rows) u d c.qualified.declared k.scopes.once means c.qualified.means in
      record {
        member = d;
        is_member = subst (λ (ds : List Member). Contains ds d) (sym k.declared) (means-member (text_at bytes ts) rows.blocks (members_of rows) u d means);
        declared = number;
        an_import = ap (λ (m : Member). m.decl_kind) same ∙ c.qualified.of_import;
      }

  -- a use that means nothing crosses to nothing
  pub none_crosses : ((declared : ℕ) → Contains s.meanings (record { used = u.number; declared = declared }) → ⊥) → Crosses (text_at bytes ts) rows imported u → ⊥
  none_crosses nothing c =
      let d = c.qualified.declared in
      nothing d.number ((k.scopes.meanings u.number d.number).1 (record { use_row = u; is_use = is_use; of_use = refl; named_declaration = d; means = c.qualified.means; of_declared = refl }))

-- ---- all uses

pub item_contained : (us vs : List Used) (i : ℕ) (d : Used) → us ≡ vs → i < length us → Contains vs (get_or us i d)
item_contained us vs i d same within = subst (λ (xs : List Used). Contains xs (get_or us i d)) same (contains_slice us i (get_or us i d) (slice_get-get_or us i d within))

module _ (name : ℕ → List ℕ) (rows : Rows) (imported : List ℕ) where
  crossings_more : (us : List Used) (cs : List Crossing) (u : Used) (c : Crossing) → AreCrossings name rows imported us cs → Crosses name rows imported u → IsOfUse u c → AreCrossings name rows imported (us ++ u ∷ []) (cs ++ c ∷ [])
  crossings_more [] cs u c no_use p o = crossing p o no_use
  crossings_more (v ∷ us) cs u c (crossing {cs = ds} q r h) p o = crossing q r (crossings_more us ds u c h p o)
  crossings_more (v ∷ us) cs u c (other_use q h) p o = other_use q (crossings_more us cs u c h p o)

  crossings_same : (us : List Used) (cs : List Crossing) (u : Used) → AreCrossings name rows imported us cs → (Crosses name rows imported u → ⊥) → AreCrossings name rows imported (us ++ u ∷ []) cs
  crossings_same [] cs u no_use p = other_use p no_use
  crossings_same (v ∷ us) cs u (crossing {cs = ds} q r h) p = crossing q r (crossings_same us ds u h p)
  crossings_same (v ∷ us) cs u (other_use q h) p = other_use q (crossings_same us cs u h p)

  pub crossings_next : (us : List Used) (cs : List Crossing) (i : ℕ) (d : Used) (c : Crossing) → i < length us → AreCrossings name rows imported (take i us) cs
      → Crosses name rows imported (get_or us i d) → IsOfUse (get_or us i d) c → AreCrossings name rows imported (take (i + 1) us) (cs ++ c ∷ [])
  crossings_next us cs i d c within before p o = rw (take_more us i d within) (crossings_more (take i us) cs (get_or us i d) c before p o)

  pub crossings_skip : (us : List Used) (cs : List Crossing) (i : ℕ) (d : Used) → i < length us → AreCrossings name rows imported (take i us) cs
      → (Crosses name rows imported (get_or us i d) → ⊥) → AreCrossings name rows imported (take (i + 1) us) cs
  crossings_skip us cs i d within before p = rw (take_more us i d within) (crossings_same (take i us) cs (get_or us i d) before p)

  pub crossings_all : (us vs : List Used) (cs : List Crossing) (i : ℕ) → us ≡ vs → length us ≤ i → AreCrossings name rows imported (take i us) cs → AreCrossings name rows imported vs cs
  crossings_all us vs cs i same past h = subst (λ (xs : List Used). AreCrossings name rows imported xs cs) (take_all i us past ∙ same) h

  -- the number of crossings
  crossings_count : (us : List Used) (cs : List Crossing) → AreCrossings name rows imported us cs → Counts (Crosses name rows imported) us (length cs)
  crossings_count [] cs no_use = none
  crossings_count (u ∷ us) cs (crossing {cs = ds} p o h) = one_more p (crossings_count us ds h)
  crossings_count (u ∷ us) cs (other_use p h) = other p (crossings_count us cs h)

  pub crossings_weigh : (cs : List Crossing) → AreCrossings name rows imported rows.uses cs → HasWeight name rows imported (length cs)
  crossings_weigh cs h = crossings_count rows.uses cs h

  one_of_use : (u : Used) (c d : Crossing) → IsOfUse u c → IsOfUse u d → c ≡ d
  one_of_use u c d p q = λ k. record { first = (p.first ∙ sym q.first) k; last = same k }
    where
      same : c.last ≡ d.last
      same = let e : Some c.last ≡ Some d.last = sym p.last ∙ q.last in cc

  pub crossings_once : (us : List Used) (cs ds : List Crossing) → AreCrossings name rows imported us cs → AreCrossings name rows imported us ds → cs ≡ ds
  crossings_once [] cs ds no_use no_use = refl
  crossings_once (u ∷ us) cs ds (crossing {c = c} {cs = x} p o h) (crossing {c = d} {cs = y} q r g) = ap₂ (λ (a : Crossing) (rest : List Crossing). a ∷ rest) (one_of_use u c d o r) (crossings_once us x y h g)
  crossings_once (u ∷ us) cs ds (crossing p o h) (other_use q g) = absurd (q p)
  crossings_once (u ∷ us) cs ds (other_use p h) (crossing q r g) = absurd (p q)
  crossings_once (u ∷ us) cs ds (other_use p h) (other_use q g) = crossings_once us cs ds h g
