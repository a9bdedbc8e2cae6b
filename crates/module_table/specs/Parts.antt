-- What fragments of a tree declare and use: for each fragment its number of tokens, and its entries as a function of its context and
-- first token.
use Rattle.std.specs.Prelude.{ℕ, ◌+◌, ◌-◌, List, [], ◌∷◌, ◌++◌, Bool, false, if◌then◌else◌, Option, Some, None}
use Rattle.module_table.specs.declared.rows.DeclKind.{DeclKind}
use Rattle.module_table.specs.declared.rows.DeclKind.TheVariants as decl_kinds
use Rattle.module_table.specs.declared.rows.DeclGroup.{DeclGroup}
use Rattle.module_table.specs.declared.rows.Declared.{Declared}
use Rattle.module_table.specs.declared.rows.Used.{Used}
use Rattle.module_table.specs.declared.rows.Block.{Block}
use Rattle.module_table.specs.declared.rows.Import.{Import}
use Rattle.module_table.specs.declared.rows.TypePart.{TypePart}
use Rattle.module_table.specs.declared.rows.Record.{Record}
use Rattle.module_table.specs.declared.rows.Designator.{Designator}
use Rattle.module_table.specs.declared.rows.Selector.{Selector}
use Rattle.module_table.specs.declared.rows.End.{End}
use Rattle.module_table.specs.declared.builder.Context.{Context}

-- the lists of a table, each in the order of the tokens
pub record Rows : Type 0 where
  pub decl_groups : List DeclGroup
  pub declared : List Declared
  pub uses : List Used
  pub blocks : List Block
  pub imports : List Import
  pub parts : List TypePart
  pub records : List Record
  pub designators : List Designator
  pub selectors : List Selector
  pub ends : List End

-- the empty lists
unfoldable pub no_rows : Rows
no_rows = record { decl_groups = []; declared = []; uses = []; blocks = []; imports = []; parts = []; records = []; designators = []; selectors = []; ends = [] }

-- the entries of two consecutive fragments
unfoldable pub joined : Rows → Rows → Rows
joined a b = record {
  decl_groups = a.decl_groups ++ b.decl_groups;
  declared = a.declared ++ b.declared;
  uses = a.uses ++ b.uses;
  blocks = a.blocks ++ b.blocks;
  imports = a.imports ++ b.imports;
  parts = a.parts ++ b.parts;
  records = a.records ++ b.records;
  designators = a.designators ++ b.designators;
  selectors = a.selectors ++ b.selectors;
  ends = a.ends ++ b.ends;
}

-- a fragment of a tree: its number of tokens, and its entries by its context and the number of its first token
pub record Fragment : Type 0 where
  pub width : ℕ
  pub rows : Context → ℕ → Rows

-- the empty fragment
unfoldable pub nothing : Fragment
nothing = record { width = 0; rows = λ c k. no_rows }

-- one token without an entry
unfoldable pub token : Fragment
token = record { width = 1; rows = λ c k. no_rows }

-- two consecutive fragments
unfoldable pub both : Fragment → Fragment → Fragment
both p q = record { width = p.width + q.width; rows = λ c k. joined (p.rows c k) (q.rows c (k + p.width)) }

-- a fragment preceded by entries of its own; `own` maps the context and the first token to these entries
unfoldable pub with_rows : (Context → ℕ → Rows) → Fragment → Fragment
with_rows own p = record { width = p.width; rows = λ c k. joined (own c k) (p.rows c k) }

-- a fragment in a changed context
unfoldable pub within : (Context → ℕ → Context) → Fragment → Fragment
within around p = record { width = p.width; rows = λ c k. p.rows (around c k) k }

-- an optional fragment
abbrev pub if_present : {X : Type 0} → (X → Fragment) → Option X → Fragment
if_present f None = nothing
if_present f (Some x) = f x

-- a fragment that is present if the flag is set
abbrev pub if_true : Bool → Fragment → Fragment
if_true b p = if b then p else nothing

-- the fragments of all elements, in order
abbrev pub each : {X : Type 0} → (X → Fragment) → List X → Fragment
each f [] = nothing
each f (x ∷ xs) = both (f x) (each f xs)

-- ---- tables with entries in one list alone

abbrev pub one_decl_group : DeclGroup → Rows
one_decl_group x = record { decl_groups = x ∷ []; declared = []; uses = []; blocks = []; imports = []; parts = []; records = []; designators = []; selectors = []; ends = [] }

abbrev pub one_declared : Declared → Rows
one_declared x = record { decl_groups = []; declared = x ∷ []; uses = []; blocks = []; imports = []; parts = []; records = []; designators = []; selectors = []; ends = [] }

abbrev pub one_used : Used → Rows
one_used x = record { decl_groups = []; declared = []; uses = x ∷ []; blocks = []; imports = []; parts = []; records = []; designators = []; selectors = []; ends = [] }

abbrev pub one_block : Block → Rows
one_block x = record { decl_groups = []; declared = []; uses = []; blocks = x ∷ []; imports = []; parts = []; records = []; designators = []; selectors = []; ends = [] }

abbrev pub one_import : Import → Rows
one_import x = record { decl_groups = []; declared = []; uses = []; blocks = []; imports = x ∷ []; parts = []; records = []; designators = []; selectors = []; ends = [] }

abbrev pub one_part : TypePart → Rows
one_part x = record { decl_groups = []; declared = []; uses = []; blocks = []; imports = []; parts = x ∷ []; records = []; designators = []; selectors = []; ends = [] }

abbrev pub one_record : Record → Rows
one_record x = record { decl_groups = []; declared = []; uses = []; blocks = []; imports = []; parts = []; records = x ∷ []; designators = []; selectors = []; ends = [] }

abbrev pub one_designator : Designator → Rows
one_designator x = record { decl_groups = []; declared = []; uses = []; blocks = []; imports = []; parts = []; records = []; designators = x ∷ []; selectors = []; ends = [] }

abbrev pub these_selectors : List Selector → Rows
these_selectors xs = record { decl_groups = []; declared = []; uses = []; blocks = []; imports = []; parts = []; records = []; designators = []; selectors = xs; ends = [] }

abbrev pub one_end : End → Rows
one_end x = record { decl_groups = []; declared = []; uses = []; blocks = []; imports = []; parts = []; records = []; designators = []; selectors = []; ends = x ∷ [] }

-- ---- declaration groups

-- the record of a declaration group: the innermost one for fields, none for any other kind
abbrev pub record_for : DeclKind → ℕ → Option ℕ
record_for decl_kinds.Import r = None
record_for decl_kinds.Constant r = None
record_for decl_kinds.Type r = None
record_for decl_kinds.Variable r = None
record_for decl_kinds.Procedure r = None
record_for decl_kinds.Parameter r = None
record_for decl_kinds.Field r = Some r

-- the entry of a declaration group of this kind, from its first to its last token
abbrev pub decl_group : DeclKind → Context → ℕ → ℕ → DeclGroup
decl_group decl_kind c k last = record { decl_kind = decl_kind; first = k; last = last; block = c.block; of_record = record_for decl_kind c.of_record }

-- the context inside a declaration group that begins at token k
abbrev pub declaring_at : Context → ℕ → Context
declaring_at c k = record { block = c.block; decl_group = k; of_record = c.of_record; is_target = false }

-- a fragment that is a declaration group of this kind: its entry, and the entries inside it
unfoldable pub declaring : DeclKind → Fragment → Fragment
declaring decl_kind p = record {
  width = p.width;
  rows = λ c k. joined (one_decl_group (decl_group decl_kind c k (k + p.width - 1))) (p.rows (declaring_at c k) k);
}

-- the context inside a block that begins at token k
abbrev pub in_block : Context → ℕ → Context
in_block c k = record { block = k; decl_group = c.decl_group; of_record = c.of_record; is_target = c.is_target }

-- a fragment that opens a block
abbrev pub opens_block : Fragment → Fragment
opens_block p = with_rows (λ c k. one_block (record { first = k; outer = c.block })) (within in_block p)
