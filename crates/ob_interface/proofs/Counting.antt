-- Bounds on the number of entries.
use Rattle.std.proofs.Common.{◌≡◌, ℕ, suc, ◌≤◌, ◌^◌, List, [], ◌∷◌, length, map, Option, Some, None, subst, sym, arith}
use Rattle.std.proofs.lemmas.List.{length-map}
use Rattle.std.specs.List.{cons_option, filter_map}
use Rattle.ob_scan.specs.declared.token.Token.{Token}
use Rattle.module_table.specs.Order.{HasBoundedRows}
use Rattle.module_table.specs.Parts.{Rows as TableRows}
use Rattle.ob_interface.specs.declared.rows.Rows.{Rows}
use Rattle.ob_interface.specs.Interfaces.{base_of, declaration_of, imported_of, interface_of, ModuleInterface}
use Rattle.ob_interface.specs.RowValues.{type_expr_in, interface_in, HasBoundedLists}
use Rattle.ob_interface.specs.Texts.{base_in, declaration_in, import_in}

longer : {Y : Type 0} (o : Option Y) (ys : List Y) (n : ℕ) → length ys ≤ n → length (cons_option o ys) ≤ suc n
longer None ys n l = omega (arith, l)
longer (Some y) ys n l = omega (arith, l)

fewer : {X Y : Type 0} (f : X → Option Y) (xs : List X) → length (filter_map f xs) ≤ length xs
fewer f [] = omega arith
fewer f (x ∷ xs) = longer (f x) (filter_map f xs) (length xs) (fewer f xs)

within : {X Y : Type 0} (f : X → Option Y) (xs : List X) (n : ℕ) → length xs ≤ n → length (filter_map f xs) ≤ n
within f xs n l = omega (arith, fewer f xs, l)

of_map : {X Y : Type 0} (f : X → Y) (xs : List X) (n : ℕ) → length (map f xs) ≤ n → length xs ≤ n
of_map f xs n l = omega (arith, length-map xs f, l)

to_map : {X Y : Type 0} (f : X → Y) (xs : List X) (n : ℕ) → length xs ≤ n → length (map f xs) ≤ n
to_map f xs n l = omega (arith, length-map xs f, l)

-- the interface of a table with bounded lists has bounded lists
pub few_seen : (rows : Rows) (bytes : List ℕ) (ts : List Token) (t : TableRows) → interface_in rows ≡ interface_of bytes ts t → HasBoundedRows t → HasBoundedLists rows
few_seen rows bytes ts t e few = record {
  declarations = of_map (declaration_in (type_expr_in rows.text.items rows.parts.items) rows.text.items) rows.declarations.items (2 ^ 32)
      (subst (λ (i : ModuleInterface). length i.declarations ≤ 2 ^ 32) (sym e) (within (declaration_of bytes ts t) t.declared (2 ^ 32) few.declared));
  bases = of_map (base_in rows.text.items) rows.bases.items (2 ^ 32) (subst (λ (i : ModuleInterface). length i.bases ≤ 2 ^ 32) (sym e) (within (base_of bytes ts t.decl_groups) t.records (2 ^ 32) few.records));
  imports = of_map (import_in rows.text.items) rows.imports.items (2 ^ 32) (subst (λ (i : ModuleInterface). length i.imports ≤ 2 ^ 32) (sym e) (to_map (imported_of bytes ts) t.imports (2 ^ 32) few.imports));
}
