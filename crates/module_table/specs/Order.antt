-- The order of the lists of a table, by token numbers.
use Rattle.std.specs.Prelude.{◌≡◌, ℕ, ◌<◌, ◌≤◌, ◌^◌, List, length, slice_get, Some}
use Rattle.module_table.specs.declared.rows.DeclGroup.{DeclGroup}
use Rattle.module_table.specs.declared.rows.Declared.{Declared}
use Rattle.module_table.specs.declared.rows.Used.{Used}
use Rattle.module_table.specs.declared.rows.Block.{Block}
use Rattle.module_table.specs.declared.rows.Import.{Import}
use Rattle.module_table.specs.declared.rows.TypePart.{TypePart}
use Rattle.module_table.specs.declared.rows.Record.{Record}
use Rattle.module_table.specs.declared.rows.Designator.{Designator}
use Rattle.module_table.specs.declared.rows.Selector.{Selector}
use Rattle.module_table.specs.declared.rows.End.{End}
use Rattle.module_table.specs.Parts.{Rows}

-- the keys are strictly increasing
abbrev pub IsIncreasingBy : {X : Type 0} → (X → ℕ) → List X → Type 0
IsIncreasingBy {X} n xs = (i j : ℕ) (x y : X) → i < j → slice_get xs i ≡ Some x → slice_get xs j ≡ Some y → n x < n y

-- the keys never decrease, so entries with equal keys are adjacent
abbrev pub IsMonotoneBy : {X : Type 0} → (X → ℕ) → List X → Type 0
IsMonotoneBy {X} n xs = (i j : ℕ) (x y : X) → i < j → slice_get xs i ≡ Some x → slice_get xs j ≡ Some y → n x ≤ n y

-- the entry at index i has the key k
pub record IsIndexBy {X : Type 0} (n : X → ℕ) (xs : List X) (k i : ℕ) : Type 0 where
  pub element : X
  pub there : slice_get xs i ≡ Some element
  pub has : n element ≡ k

-- no entry has the key k
abbrev pub HasNoneBy : {X : Type 0} → (X → ℕ) → List X → ℕ → Type 0
HasNoneBy {X} n xs k = (i : ℕ) (x : X) → slice_get xs i ≡ Some x → n x ≡ k → ⊥

-- each list is sorted by token number; the components of one type expression are adjacent, and so are the selectors of one designator
pub record AreRowsSorted (r : Rows) : Type 0 where
  pub decl_groups : IsIncreasingBy (λ (x : DeclGroup). x.first) r.decl_groups
  pub declared : IsIncreasingBy (λ (x : Declared). x.number) r.declared
  pub uses : IsIncreasingBy (λ (x : Used). x.number) r.uses
  pub blocks : IsIncreasingBy (λ (x : Block). x.first) r.blocks
  pub imports : IsIncreasingBy (λ (x : Import). x.alias) r.imports
  pub parts : IsIncreasingBy (λ (x : TypePart). x.number) r.parts
  pub forms : IsMonotoneBy (λ (x : TypePart). x.declared_by) r.parts
  pub records : IsIncreasingBy (λ (x : Record). x.number) r.records
  pub designators : IsIncreasingBy (λ (x : Designator). x.head) r.designators
  pub selectors : IsMonotoneBy (λ (x : Selector). x.of) r.selectors
  pub ends : IsIncreasingBy (λ (x : End). x.number) r.ends

-- the lists of declared identifiers, import items and records have at most 2^32 entries each
pub record HasBoundedRows (r : Rows) : Type 0 where
  pub declared : length r.declared ≤ 2 ^ 32
  pub imports : length r.imports ≤ 2 ^ 32
  pub records : length r.records ≤ 2 ^ 32
