-- The result of a look-up by an index, as part of the interface.
use Rattle.std.proofs.Common.{◌≡◌, ℕ, List, map, Bool, Option, Some, None, refl, sym, ap, ◌∙◌, subst}
use Rattle.std.specs.Prelude.{Contains, IfSome, IfNone, position, slice_get}
use Rattle.std.specs.Option.{option_and_then, option_map}
use Rattle.std.specs.Str.{bytes_eq}
use Rattle.std.proofs.lemmas.Option.{slice_get-map}
use Rattle.ob_interface.specs.declared.rows.DeclarationRow.{DeclarationRow}
use Rattle.ob_interface.specs.declared.rows.ImportRow.{ImportRow}
use Rattle.ob_interface.specs.declared.rows.NameIndexEntry.{NameIndexEntry}
use Rattle.ob_interface.specs.declared.rows.Rows.{Rows}
use Rattle.ob_interface.specs.Interfaces.{Base, Imported}
use Rattle.ob_interface.specs.Orders.{Key, name_key, index_by_name, fits_alias, fits_base}
use Rattle.ob_interface.specs.Placed.{base_named, declaration_at, module_named}
use Rattle.ob_interface.specs.IndexEntries.{IsSmallestIndex, Indexes}
use Rattle.ob_interface.specs.RowValues.{type_expr_in, interface_in}
use Rattle.ob_interface.specs.Texts.{base_in, declaration_in, import_in, text_in}
use Rattle.ob_interface.proofs.Ranks.{find_first, first_fit}

-- the index over a buffer that is equal to this one
pub named_fit : {X : Type 0} (fits : Key → X → Bool) (xs : List X) (es : List NameIndexEntry) (old text : List ℕ) (k : Key) (r : Option ℕ) → text ≡ old → Indexes (name_key old) index_by_name fits xs es → IfSome r (IsSmallestIndex (name_key text) index_by_name es k)
    → IfNone r ((e : NameIndexEntry) → Contains es e → name_key text e ≡ k → ⊥) → r ≡ position (fits k) xs
named_fit fits xs es old text k r same x some none =
    first_fit (name_key old) index_by_name fits xs es x k r (subst (λ (t : List ℕ). IfSome r (IsSmallestIndex (name_key t) index_by_name es k)) same some)
    (subst (λ (t : List ℕ). IfNone r ((e : NameIndexEntry) → Contains es e → name_key t e ≡ k → ⊥)) same none)

map_twice : {X Y Z : Type 0} (f : X → Y) (g : Y → Z) (o : Option X) → option_map g (option_map f o) ≡ option_map (λ x. g (f x)) o
map_twice f g None = refl
map_twice f g (Some x) = refl

-- the decoded entry with an index
told_at : {X Y Z : Type 0} (f : X → Y) (g : Y → Z) (xs : List X) (o : Option ℕ) → option_map g (option_and_then (slice_get (map f xs)) o) ≡ option_and_then (λ p. option_map (λ x. g (f x)) (slice_get xs p)) o
told_at f g xs None = refl
told_at f g xs (Some p) = ap (option_map g) (slice_get-map f xs p) ∙ map_twice f g (slice_get xs p)

-- the module of an alias, by the index of its import item
pub module_told : (rows : Rows) (alias : List ℕ) (o : Option ℕ) → o ≡ position (fits_alias (None, alias)) (interface_in rows).imports
    → option_and_then (λ (p : ℕ). option_map (λ (r : ImportRow). text_in rows.text.items r.imported) (slice_get rows.imports.items p)) o ≡ module_named (interface_in rows) alias
module_told rows alias o e =
    sym (told_at (import_in rows.text.items) (λ (i : Imported). i.module_name) rows.imports.items o)
    ∙ ap (λ (v : Option ℕ). option_map (λ (i : Imported). i.module_name) (option_and_then (slice_get (map (import_in rows.text.items) rows.imports.items)) v)) e
    ∙ ap (option_map (λ (i : Imported). i.module_name)) (sym (find_first (λ (i : Imported). bytes_eq i.alias alias) (map (import_in rows.text.items) rows.imports.items)))

map_itself : {X : Type 0} (o : Option X) → option_map (λ x. x) o ≡ o
map_itself None = refl
map_itself (Some x) = refl

-- the base of a record, by its index
pub base_told_at : (rows : Rows) (k : ℕ) (o : Option ℕ) → o ≡ position (fits_base k) (interface_in rows).bases
    → option_and_then (λ (p : ℕ). option_map (base_in rows.text.items) (slice_get rows.bases.items p)) o ≡ base_named (interface_in rows) k
base_told_at rows k o e =
    sym (told_at (base_in rows.text.items) (λ (b : Base). b) rows.bases.items o)
    ∙ ap (λ (v : Option ℕ). option_map (λ (b : Base). b) (option_and_then (slice_get (map (base_in rows.text.items) rows.bases.items)) v)) e
    ∙ map_itself _
    ∙ sym (find_first (fits_base k) (map (base_in rows.text.items) rows.bases.items))

-- the declaration with an index
pub declaration_told_at : (rows : Rows) (p : ℕ) (o : Option DeclarationRow) → o ≡ slice_get rows.declarations.items p → option_map (declaration_in (type_expr_in rows.text.items rows.parts.items) rows.text.items) o ≡ declaration_at (interface_in rows) p
declaration_told_at rows p o e =
    let exact = declaration_in (type_expr_in rows.text.items rows.parts.items) rows.text.items in
    ap (option_map exact) e ∙ sym (slice_get-map exact rows.declarations.items p)
