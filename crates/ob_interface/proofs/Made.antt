-- The index entries of the lists index the interface that the lists represent.
use Rattle.std.proofs.Common.{◌≡◌, ℕ, suc, List, [], ◌∷◌, Bool, true, false, Option, Some, None, refl, sym, ap, ◌∙◌, subst, eqb}
use Rattle.std.specs.Prelude.{IsPermutation, nat_eq, ◌&&◌, length, slice_get, slice_range, ◌-◌, map}
use Rattle.std.specs.Option.{option_eq, option_map, is_none}
use Rattle.std.proofs.lemmas.Slice.Eq.{bytes_eq-Decides}
use Rattle.std.proofs.lemmas.Bool.{eqb-true, eq-eqb}
use Rattle.std.proofs.lemmas.Option.{slice_get-map}
use Rattle.ob_interface.specs.declared.rows.BaseRow.{BaseRow}
use Rattle.ob_interface.specs.declared.rows.DeclarationRow.{DeclarationRow}
use Rattle.ob_interface.specs.declared.rows.ImportRow.{ImportRow}
use Rattle.ob_interface.specs.declared.rows.NameIndexEntry.{NameIndexEntry}
use Rattle.ob_interface.specs.declared.rows.PartRow.{PartRow}
use Rattle.ob_interface.specs.declared.rows.RecordIndexEntry.{RecordIndexEntry}
use Rattle.ob_interface.specs.declared.rows.Rows.{Rows}
use Rattle.ob_interface.specs.declared.rows.RowPart.{RowPart}
use Rattle.ob_interface.specs.declared.rows.RowPart.TheVariants as row_parts
use Rattle.ob_interface.specs.Orders.{name_key, index_by_name, record_key, index_by_record, declaration_entry, alias_entry, base_entry, owner_entry, owner_by, record_token_of_part, last_part, fits_name, fits_alias, fits_base, AreByName}
use Rattle.ob_interface.specs.Placed.{holds, is_record}
use Rattle.ob_interface.specs.IndexEntries.{Indexes, entries_from}
use Rattle.ob_interface.specs.RowValues.{type_expr_in, interface_in}
use Rattle.ob_interface.specs.Texts.{base_in, declaration_in, import_in, part_row_in, text_in}
use Rattle.ob_interface.proofs.Ranks.{indexed}

length_map : {X Y : Type 0} (f : X → Y) (xs : List X) → length (map f xs) ≡ length xs
length_map f [] = refl
length_map f (x ∷ xs) = ap (λ (n : ℕ). suc n) (length_map f xs)

pub same_option : (o : Option ℕ) → option_eq nat_eq o o ≡ true
same_option None = refl
same_option (Some x) = eq-eqb x x refl

pub option_is : (a b : Option ℕ) → option_eq nat_eq a b ≡ true → a ≡ b
option_is None None e = refl
option_is None (Some y) e = cc
option_is (Some x) None e = cc
option_is (Some x) (Some y) e = ap (λ (v : ℕ). Some v) (eqb-true x y e)

pub left : (a b : Bool) → (a && b) ≡ true → a ≡ true
left true b e = refl
left false b e = cc

pub right : (a b : Bool) → (a && b) ≡ true → b ≡ true
right true b e = e
right false b e = cc

pub both_true : (a b : Bool) → a ≡ true → b ≡ true → (a && b) ≡ true
both_true true b e f = f
both_true false b e f = cc

none_is : (o : Option ℕ) → is_none o ≡ true → None ≡ o
none_is None e = refl
none_is (Some x) e = cc

abbrev is_told : ℕ → Option ℕ → Bool
is_told k None = false
is_told k (Some r) = eqb r k

inside : {E : Type 0} (x e : E) → Some x ≡ Some e → x ≡ e
inside x e h = cc

-- the declarations by record and name
pub members_indexed : (rows : Rows) (t : List ℕ) (ds : List DeclarationRow) (es : List NameIndexEntry) → t ≡ rows.text.items → ds ≡ rows.declarations.items → AreByName t es → IsPermutation (entries_from declaration_entry 0 ds) es
    → AreByName rows.text.items es × Indexes (name_key rows.text.items) index_by_name fits_name (interface_in rows).declarations es
members_indexed rows t ds es p q sorted same = (
  subst (λ (v : List ℕ). AreByName v es) p sorted,
  indexed (name_key rows.text.items) index_by_name fits_name declaration_entry (declaration_in (type_expr_in rows.text.items rows.parts.items) rows.text.items) rows.declarations.items es (record {
    at = λ y n e h. sym (ap index_by_name (inside _ e h));
    own = λ y n e h. ap (λ (v : NameIndexEntry). fits_name (name_key rows.text.items v) (declaration_in (type_expr_in rows.text.items rows.parts.items) rows.text.items y)) (sym (inside _ e h))
        ∙ both_true _ _ (same_option y.«record») ((bytes_eq-Decides (text_in rows.text.items y.name) (text_in rows.text.items y.name)).1 refl);
    only = λ k y n h. (record { «record» = y.«record»; name = y.name; index = n }, refl, (λ i. (option_is y.«record» k.0 (left _ _ h) i, (bytes_eq-Decides (text_in rows.text.items y.name) k.1).0 (right _ _ h) i)));
  }) (subst (λ (v : List DeclarationRow). IsPermutation (entries_from declaration_entry 0 v) es) q same),
)

-- the import items by alias
pub aliases_indexed : (rows : Rows) (t : List ℕ) (ds : List ImportRow) (es : List NameIndexEntry) → t ≡ rows.text.items → ds ≡ rows.imports.items → AreByName t es → IsPermutation (entries_from alias_entry 0 ds) es
    → AreByName rows.text.items es × Indexes (name_key rows.text.items) index_by_name fits_alias (interface_in rows).imports es
aliases_indexed rows t ds es p q sorted same = (
  subst (λ (v : List ℕ). AreByName v es) p sorted,
  indexed (name_key rows.text.items) index_by_name fits_alias alias_entry (import_in rows.text.items) rows.imports.items es (record {
    at = λ y n e h. sym (ap index_by_name (inside _ e h));
    own = λ y n e h. ap (λ (v : NameIndexEntry). fits_alias (name_key rows.text.items v) (import_in rows.text.items y)) (sym (inside _ e h)) ∙ (bytes_eq-Decides (text_in rows.text.items y.alias) (text_in rows.text.items y.alias)).1 refl;
    only = λ k y n h. (record { «record» = None; name = y.alias; index = n }, refl, (λ i. (none_is k.0 (left _ _ h) i, (bytes_eq-Decides (text_in rows.text.items y.alias) k.1).0 (right _ _ h) i)));
  }) (subst (λ (v : List ImportRow). IsPermutation (entries_from alias_entry 0 v) es) q same),
)

-- the bases by record
pub bases_indexed : (rows : Rows) (ds : List BaseRow) (es : List RecordIndexEntry) → ds ≡ rows.bases.items → IsPermutation (entries_from base_entry 0 ds) es → Indexes record_key index_by_record fits_base (interface_in rows).bases es
bases_indexed rows ds es q same =
    indexed record_key index_by_record fits_base base_entry (base_in rows.text.items) rows.bases.items es (record {
      at = λ y n e h. sym (ap index_by_record (inside _ e h));
      own = λ y n e h. ap (λ (v : RecordIndexEntry). fits_base (record_key v) (base_in rows.text.items y)) (sym (inside _ e h)) ∙ eq-eqb y.«record» y.«record» refl;
      only = λ k y n h. (record { «record» = y.«record»; index = n }, refl, eqb-true y.«record» k h);
    }) (subst (λ (v : List BaseRow). IsPermutation (entries_from base_entry 0 v) es) q same)

-- the record of a component stays when the component is decoded
row_tells : (t : List ℕ) (k : ℕ) (b : ℕ) (p : RowPart) → is_record k (Some (part_row_in t (record { declared_by = b; part = p }))) ≡ is_told k (record_token_of_part (Some (record { declared_by = b; part = p })))
row_tells t k b row_parts.Array = refl
row_tells t k b row_parts.Pointer = refl
row_tells t k b (row_parts.Record r) = refl
row_tells t k b row_parts.Procedure = refl
row_tells t k b (row_parts.Named s n) = refl

part_tells : (t : List ℕ) (k : ℕ) (o : Option PartRow) → is_record k (option_map (part_row_in t) o) ≡ is_told k (record_token_of_part o)
part_tells t k None = refl
part_tells t k (Some p) = row_tells t k p.declared_by p.part

-- the type expression of a declaration ends in the record of its last component
owner_tells : (rows : Rows) (k : ℕ) (y : DeclarationRow) → holds k (declaration_in (type_expr_in rows.text.items rows.parts.items) rows.text.items y) ≡ is_told k (record_token_of_part (last_part rows.parts.items y))
owner_tells rows k y =
    let ps = slice_range rows.parts.items y.first_part y.parts_end in
    ap (λ (n : ℕ). is_record k (slice_get (map (part_row_in rows.text.items) ps) (n - 1))) (length_map (part_row_in rows.text.items) ps)
    ∙ ap (is_record k) (slice_get-map (part_row_in rows.text.items) ps (length ps - 1)) ∙ part_tells rows.text.items k (slice_get ps (length ps - 1))

owner_place_of : (p : ℕ) (o : Option ℕ) (e : RecordIndexEntry) → owner_by p o ≡ Some e → index_by_record e ≡ p
owner_place_of p None e h = cc
owner_place_of p (Some k) e h = sym (ap index_by_record (inside _ e h))

owner_told : (p : ℕ) (o : Option ℕ) (e : RecordIndexEntry) → owner_by p o ≡ Some e → is_told (record_key e) o ≡ true
owner_told p None e h = cc
owner_told p (Some k) e h = eq-eqb k (record_key e) (ap record_key (inside _ e h))

owner_only : (p k : ℕ) (o : Option ℕ) → is_told k o ≡ true → (e : RecordIndexEntry) × (owner_by p o ≡ Some e) × (record_key e ≡ k)
owner_only p k None h = cc
owner_only p k (Some r) h = (record { «record» = r; index = p }, refl, eqb-true r k h)

-- the declarations by the record in which they end
pub owners_indexed : (rows : Rows) (ps : List PartRow) (ds : List DeclarationRow) (es : List RecordIndexEntry) → ps ≡ rows.parts.items → ds ≡ rows.declarations.items → IsPermutation (entries_from (owner_entry ps) 0 ds) es
    → Indexes record_key index_by_record holds (interface_in rows).declarations es
owners_indexed rows ps ds es p q same =
    indexed record_key index_by_record holds (owner_entry rows.parts.items) (declaration_in (type_expr_in rows.text.items rows.parts.items) rows.text.items) rows.declarations.items es (record {
      at = λ y n e h. owner_place_of n (record_token_of_part (last_part rows.parts.items y)) e h;
      own = λ y n e h. owner_tells rows (record_key e) y ∙ owner_told n (record_token_of_part (last_part rows.parts.items y)) e h;
      only = λ k y n h. owner_only n k (record_token_of_part (last_part rows.parts.items y)) (sym (owner_tells rows k y) ∙ h);
    }) (subst (λ (v : List PartRow). IsPermutation (entries_from (owner_entry v) 0 rows.declarations.items) es) p (subst (λ (v : List DeclarationRow). IsPermutation (entries_from (owner_entry ps) 0 v) es) q same))
