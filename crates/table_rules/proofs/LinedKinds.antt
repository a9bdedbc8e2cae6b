-- One kind of entries: the entries at one token contribute at most one of them.
use Rattle.std.proofs.Common.{◌≡◌, ℕ, suc, ◌+◌, List, [], ◌∷◌, ◌++◌, refl}
use Rattle.module_table.specs.declared.rows.DeclGroup.{DeclGroup}
use Rattle.module_table.specs.declared.rows.Declared.{Declared}
use Rattle.module_table.specs.declared.rows.Used.{Used}
use Rattle.module_table.specs.declared.rows.Block.{Block as BlockRow}
use Rattle.module_table.specs.declared.rows.Import.{Import}
use Rattle.module_table.specs.declared.rows.TypePart.{TypePart}
use Rattle.module_table.specs.declared.rows.Record.{Record as RecordRow}
use Rattle.module_table.specs.declared.rows.Designator.{Designator}
use Rattle.module_table.specs.declared.rows.Selector.{Selector as SelectorRow}
use Rattle.module_table.specs.declared.rows.End.{End}
use Rattle.module_table.specs.Parts.{Rows, no_rows, joined, one_decl_group, one_declared, one_used, one_block, one_import, one_part, one_record, one_designator, these_selectors, one_end}
use Rattle.table_rules.proofs.Lined.{Lined, lined_none, lined_one, lined_same}

-- selectors of one designator
unfoldable pub AllOf : ℕ → List SelectorRow → Type 0
AllOf k [] = Unit {0}
AllOf k (s ∷ ss) = (s.of ≡ k) × AllOf k ss

-- a list of the entries, with the number of each entry and the bound that it gives to the next one, sorted at each token
pub record Kind (X : Type 0) : Type 0 where
  pub number : X → ℕ
  pub next : ℕ → ℕ
  pub of : Rows → List X
  pub none : of no_rows ≡ []
  pub join : (a b : Rows) → of (joined a b) ≡ of a ++ of b
  pub used : (k : ℕ) (u : Used) → u.number ≡ k → Lined number next k (k + 1) (of (one_used u))
  pub declared : (k : ℕ) (r : Declared) → r.number ≡ k → Lined number next k (k + 1) (of (one_declared r))
  pub decl_group : (k : ℕ) (by : DeclGroup) → by.first ≡ k → Lined number next k (k + 1) (of (one_decl_group by))
  pub part : (k : ℕ) (p : TypePart) → p.number ≡ k → Lined number next k (k + 1) (of (one_part p))
  pub end : (k : ℕ) (e : End) → e.number ≡ k → Lined number next k (k + 1) (of (one_end e))
  pub variable : (k : ℕ) (d : Designator) (u : Used) → d.head ≡ k → u.number ≡ k → Lined number next k (k + 1) (of (one_designator d) ++ of (one_used u))
  pub designator : (k : ℕ) (d : Designator) (ss : List SelectorRow) (u : Used) → d.head ≡ k → AllOf k ss → u.number ≡ k → Lined number next k (k + 1) (of (one_designator d) ++ (of (these_selectors ss) ++ of (one_used u)))
  pub declares : (k : ℕ) (by : DeclGroup) (r : Declared) → by.first ≡ k → r.number ≡ k → Lined number next k (k + 1) (of (one_decl_group by) ++ of (one_declared r))
  pub imports : (k : ℕ) (by : DeclGroup) (i : Import) (r : Declared) → by.first ≡ k → i.alias ≡ k → r.number ≡ k → Lined number next k (k + 1) (of (one_decl_group by) ++ (of (one_import i) ++ of (one_declared r)))
  pub procedure : (k : ℕ) (by : DeclGroup) (b : BlockRow) → by.first ≡ k → b.first ≡ k → Lined number next k (k + 1) (of (one_decl_group by) ++ of (one_block b))
  pub named : (k : ℕ) (p : TypePart) (u : Used) → p.number ≡ k → u.number ≡ k → Lined number next k (k + 1) (of (one_part p) ++ of (one_used u))
  pub holds : (k : ℕ) (p : TypePart) (r2 : RecordRow) → p.number ≡ k → r2.number ≡ k → Lined number next k (k + 1) (of (one_part p) ++ of (one_record r2))
  pub opens : (k : ℕ) (p : TypePart) (b : BlockRow) → p.number ≡ k → b.first ≡ k → Lined number next k (k + 1) (of (one_part p) ++ of (one_block b))

pub selectors_lined : (k : ℕ) (ss : List SelectorRow) → AllOf k ss → Lined (λ (s : SelectorRow). s.of) (λ i. i) k (k + 1) (ss ++ [])
unfolding AllOf
selectors_lined k [] a = lined_none (λ (s : SelectorRow). s.of) (λ i. i) k
selectors_lined k (s ∷ ss) a = lined_same (λ (x : SelectorRow). x.of) k s (ss ++ []) a.0 (selectors_lined k ss a.1)

unfoldable pub declarers_kind : Kind DeclGroup
unfolding no_rows joined
declarers_kind = record {
  number = λ (x : DeclGroup). x.first;
  next = suc;
  of = λ (rows : Rows). rows.decl_groups;
  none = refl;
  join = λ a b. refl;
  used = λ k u h0. lined_none (λ (x : DeclGroup). x.first) suc k;
  declared = λ k r h0. lined_none (λ (x : DeclGroup). x.first) suc k;
  decl_group = λ k by h0. lined_one (λ (x : DeclGroup). x.first) k by h0;
  part = λ k p h0. lined_none (λ (x : DeclGroup). x.first) suc k;
  end = λ k e h0. lined_none (λ (x : DeclGroup). x.first) suc k;
  variable = λ k d u h0 h1. lined_none (λ (x : DeclGroup). x.first) suc k;
  designator = λ k d ss u h0 h1 h2. lined_none (λ (x : DeclGroup). x.first) suc k;
  declares = λ k by r h0 h1. lined_one (λ (x : DeclGroup). x.first) k by h0;
  imports = λ k by i r h0 h1 h2. lined_one (λ (x : DeclGroup). x.first) k by h0;
  procedure = λ k by b h0 h1. lined_one (λ (x : DeclGroup). x.first) k by h0;
  named = λ k p u h0 h1. lined_none (λ (x : DeclGroup). x.first) suc k;
  holds = λ k p r2 h0 h1. lined_none (λ (x : DeclGroup). x.first) suc k;
  opens = λ k p b h0 h1. lined_none (λ (x : DeclGroup). x.first) suc k;
}

unfoldable pub declared_kind : Kind Declared
unfolding no_rows joined
declared_kind = record {
  number = λ (x : Declared). x.number;
  next = suc;
  of = λ (rows : Rows). rows.declared;
  none = refl;
  join = λ a b. refl;
  used = λ k u h0. lined_none (λ (x : Declared). x.number) suc k;
  declared = λ k r h0. lined_one (λ (x : Declared). x.number) k r h0;
  decl_group = λ k by h0. lined_none (λ (x : Declared). x.number) suc k;
  part = λ k p h0. lined_none (λ (x : Declared). x.number) suc k;
  end = λ k e h0. lined_none (λ (x : Declared). x.number) suc k;
  variable = λ k d u h0 h1. lined_none (λ (x : Declared). x.number) suc k;
  designator = λ k d ss u h0 h1 h2. lined_none (λ (x : Declared). x.number) suc k;
  declares = λ k by r h0 h1. lined_one (λ (x : Declared). x.number) k r h1;
  imports = λ k by i r h0 h1 h2. lined_one (λ (x : Declared). x.number) k r h2;
  procedure = λ k by b h0 h1. lined_none (λ (x : Declared). x.number) suc k;
  named = λ k p u h0 h1. lined_none (λ (x : Declared). x.number) suc k;
  holds = λ k p r2 h0 h1. lined_none (λ (x : Declared). x.number) suc k;
  opens = λ k p b h0 h1. lined_none (λ (x : Declared). x.number) suc k;
}

unfoldable pub uses_kind : Kind Used
unfolding no_rows joined
uses_kind = record {
  number = λ (x : Used). x.number;
  next = suc;
  of = λ (rows : Rows). rows.uses;
  none = refl;
  join = λ a b. refl;
  used = λ k u h0. lined_one (λ (x : Used). x.number) k u h0;
  declared = λ k r h0. lined_none (λ (x : Used). x.number) suc k;
  decl_group = λ k by h0. lined_none (λ (x : Used). x.number) suc k;
  part = λ k p h0. lined_none (λ (x : Used). x.number) suc k;
  end = λ k e h0. lined_none (λ (x : Used). x.number) suc k;
  variable = λ k d u h0 h1. lined_one (λ (x : Used). x.number) k u h1;
  designator = λ k d ss u h0 h1 h2. lined_one (λ (x : Used). x.number) k u h2;
  declares = λ k by r h0 h1. lined_none (λ (x : Used). x.number) suc k;
  imports = λ k by i r h0 h1 h2. lined_none (λ (x : Used). x.number) suc k;
  procedure = λ k by b h0 h1. lined_none (λ (x : Used). x.number) suc k;
  named = λ k p u h0 h1. lined_one (λ (x : Used). x.number) k u h1;
  holds = λ k p r2 h0 h1. lined_none (λ (x : Used). x.number) suc k;
  opens = λ k p b h0 h1. lined_none (λ (x : Used). x.number) suc k;
}

unfoldable pub blocks_kind : Kind BlockRow
unfolding no_rows joined
blocks_kind = record {
  number = λ (x : BlockRow). x.first;
  next = suc;
  of = λ (rows : Rows). rows.blocks;
  none = refl;
  join = λ a b. refl;
  used = λ k u h0. lined_none (λ (x : BlockRow). x.first) suc k;
  declared = λ k r h0. lined_none (λ (x : BlockRow). x.first) suc k;
  decl_group = λ k by h0. lined_none (λ (x : BlockRow). x.first) suc k;
  part = λ k p h0. lined_none (λ (x : BlockRow). x.first) suc k;
  end = λ k e h0. lined_none (λ (x : BlockRow). x.first) suc k;
  variable = λ k d u h0 h1. lined_none (λ (x : BlockRow). x.first) suc k;
  designator = λ k d ss u h0 h1 h2. lined_none (λ (x : BlockRow). x.first) suc k;
  declares = λ k by r h0 h1. lined_none (λ (x : BlockRow). x.first) suc k;
  imports = λ k by i r h0 h1 h2. lined_none (λ (x : BlockRow). x.first) suc k;
  procedure = λ k by b h0 h1. lined_one (λ (x : BlockRow). x.first) k b h1;
  named = λ k p u h0 h1. lined_none (λ (x : BlockRow). x.first) suc k;
  holds = λ k p r2 h0 h1. lined_none (λ (x : BlockRow). x.first) suc k;
  opens = λ k p b h0 h1. lined_one (λ (x : BlockRow). x.first) k b h1;
}

unfoldable pub imports_kind : Kind Import
unfolding no_rows joined
imports_kind = record {
  number = λ (x : Import). x.alias;
  next = suc;
  of = λ (rows : Rows). rows.imports;
  none = refl;
  join = λ a b. refl;
  used = λ k u h0. lined_none (λ (x : Import). x.alias) suc k;
  declared = λ k r h0. lined_none (λ (x : Import). x.alias) suc k;
  decl_group = λ k by h0. lined_none (λ (x : Import). x.alias) suc k;
  part = λ k p h0. lined_none (λ (x : Import). x.alias) suc k;
  end = λ k e h0. lined_none (λ (x : Import). x.alias) suc k;
  variable = λ k d u h0 h1. lined_none (λ (x : Import). x.alias) suc k;
  designator = λ k d ss u h0 h1 h2. lined_none (λ (x : Import). x.alias) suc k;
  declares = λ k by r h0 h1. lined_none (λ (x : Import). x.alias) suc k;
  imports = λ k by i r h0 h1 h2. lined_one (λ (x : Import). x.alias) k i h1;
  procedure = λ k by b h0 h1. lined_none (λ (x : Import). x.alias) suc k;
  named = λ k p u h0 h1. lined_none (λ (x : Import). x.alias) suc k;
  holds = λ k p r2 h0 h1. lined_none (λ (x : Import). x.alias) suc k;
  opens = λ k p b h0 h1. lined_none (λ (x : Import). x.alias) suc k;
}

unfoldable pub parts_kind : Kind TypePart
unfolding no_rows joined
parts_kind = record {
  number = λ (x : TypePart). x.number;
  next = suc;
  of = λ (rows : Rows). rows.parts;
  none = refl;
  join = λ a b. refl;
  used = λ k u h0. lined_none (λ (x : TypePart). x.number) suc k;
  declared = λ k r h0. lined_none (λ (x : TypePart). x.number) suc k;
  decl_group = λ k by h0. lined_none (λ (x : TypePart). x.number) suc k;
  part = λ k p h0. lined_one (λ (x : TypePart). x.number) k p h0;
  end = λ k e h0. lined_none (λ (x : TypePart). x.number) suc k;
  variable = λ k d u h0 h1. lined_none (λ (x : TypePart). x.number) suc k;
  designator = λ k d ss u h0 h1 h2. lined_none (λ (x : TypePart). x.number) suc k;
  declares = λ k by r h0 h1. lined_none (λ (x : TypePart). x.number) suc k;
  imports = λ k by i r h0 h1 h2. lined_none (λ (x : TypePart). x.number) suc k;
  procedure = λ k by b h0 h1. lined_none (λ (x : TypePart). x.number) suc k;
  named = λ k p u h0 h1. lined_one (λ (x : TypePart). x.number) k p h0;
  holds = λ k p r2 h0 h1. lined_one (λ (x : TypePart). x.number) k p h0;
  opens = λ k p b h0 h1. lined_one (λ (x : TypePart). x.number) k p h0;
}

unfoldable pub records_kind : Kind RecordRow
unfolding no_rows joined
records_kind = record {
  number = λ (x : RecordRow). x.number;
  next = suc;
  of = λ (rows : Rows). rows.records;
  none = refl;
  join = λ a b. refl;
  used = λ k u h0. lined_none (λ (x : RecordRow). x.number) suc k;
  declared = λ k r h0. lined_none (λ (x : RecordRow). x.number) suc k;
  decl_group = λ k by h0. lined_none (λ (x : RecordRow). x.number) suc k;
  part = λ k p h0. lined_none (λ (x : RecordRow). x.number) suc k;
  end = λ k e h0. lined_none (λ (x : RecordRow). x.number) suc k;
  variable = λ k d u h0 h1. lined_none (λ (x : RecordRow). x.number) suc k;
  designator = λ k d ss u h0 h1 h2. lined_none (λ (x : RecordRow). x.number) suc k;
  declares = λ k by r h0 h1. lined_none (λ (x : RecordRow). x.number) suc k;
  imports = λ k by i r h0 h1 h2. lined_none (λ (x : RecordRow). x.number) suc k;
  procedure = λ k by b h0 h1. lined_none (λ (x : RecordRow). x.number) suc k;
  named = λ k p u h0 h1. lined_none (λ (x : RecordRow). x.number) suc k;
  holds = λ k p r2 h0 h1. lined_one (λ (x : RecordRow). x.number) k r2 h1;
  opens = λ k p b h0 h1. lined_none (λ (x : RecordRow). x.number) suc k;
}

unfoldable pub designators_kind : Kind Designator
unfolding no_rows joined
designators_kind = record {
  number = λ (x : Designator). x.head;
  next = suc;
  of = λ (rows : Rows). rows.designators;
  none = refl;
  join = λ a b. refl;
  used = λ k u h0. lined_none (λ (x : Designator). x.head) suc k;
  declared = λ k r h0. lined_none (λ (x : Designator). x.head) suc k;
  decl_group = λ k by h0. lined_none (λ (x : Designator). x.head) suc k;
  part = λ k p h0. lined_none (λ (x : Designator). x.head) suc k;
  end = λ k e h0. lined_none (λ (x : Designator). x.head) suc k;
  variable = λ k d u h0 h1. lined_one (λ (x : Designator). x.head) k d h0;
  designator = λ k d ss u h0 h1 h2. lined_one (λ (x : Designator). x.head) k d h0;
  declares = λ k by r h0 h1. lined_none (λ (x : Designator). x.head) suc k;
  imports = λ k by i r h0 h1 h2. lined_none (λ (x : Designator). x.head) suc k;
  procedure = λ k by b h0 h1. lined_none (λ (x : Designator). x.head) suc k;
  named = λ k p u h0 h1. lined_none (λ (x : Designator). x.head) suc k;
  holds = λ k p r2 h0 h1. lined_none (λ (x : Designator). x.head) suc k;
  opens = λ k p b h0 h1. lined_none (λ (x : Designator). x.head) suc k;
}

unfoldable pub ends_kind : Kind End
unfolding no_rows joined
ends_kind = record {
  number = λ (x : End). x.number;
  next = suc;
  of = λ (rows : Rows). rows.ends;
  none = refl;
  join = λ a b. refl;
  used = λ k u h0. lined_none (λ (x : End). x.number) suc k;
  declared = λ k r h0. lined_none (λ (x : End). x.number) suc k;
  decl_group = λ k by h0. lined_none (λ (x : End). x.number) suc k;
  part = λ k p h0. lined_none (λ (x : End). x.number) suc k;
  end = λ k e h0. lined_one (λ (x : End). x.number) k e h0;
  variable = λ k d u h0 h1. lined_none (λ (x : End). x.number) suc k;
  designator = λ k d ss u h0 h1 h2. lined_none (λ (x : End). x.number) suc k;
  declares = λ k by r h0 h1. lined_none (λ (x : End). x.number) suc k;
  imports = λ k by i r h0 h1 h2. lined_none (λ (x : End). x.number) suc k;
  procedure = λ k by b h0 h1. lined_none (λ (x : End). x.number) suc k;
  named = λ k p u h0 h1. lined_none (λ (x : End). x.number) suc k;
  holds = λ k p r2 h0 h1. lined_none (λ (x : End). x.number) suc k;
  opens = λ k p b h0 h1. lined_none (λ (x : End). x.number) suc k;
}

unfoldable pub selectors_kind : Kind SelectorRow
unfolding no_rows joined
selectors_kind = record {
  number = λ (x : SelectorRow). x.of;
  next = λ i. i;
  of = λ (rows : Rows). rows.selectors;
  none = refl;
  join = λ a b. refl;
  used = λ k u h0. lined_none (λ (x : SelectorRow). x.of) (λ i. i) k;
  declared = λ k r h0. lined_none (λ (x : SelectorRow). x.of) (λ i. i) k;
  decl_group = λ k by h0. lined_none (λ (x : SelectorRow). x.of) (λ i. i) k;
  part = λ k p h0. lined_none (λ (x : SelectorRow). x.of) (λ i. i) k;
  end = λ k e h0. lined_none (λ (x : SelectorRow). x.of) (λ i. i) k;
  variable = λ k d u h0 h1. lined_none (λ (x : SelectorRow). x.of) (λ i. i) k;
  designator = λ k d ss u h0 h1 h2. selectors_lined k ss h1;
  declares = λ k by r h0 h1. lined_none (λ (x : SelectorRow). x.of) (λ i. i) k;
  imports = λ k by i r h0 h1 h2. lined_none (λ (x : SelectorRow). x.of) (λ i. i) k;
  procedure = λ k by b h0 h1. lined_none (λ (x : SelectorRow). x.of) (λ i. i) k;
  named = λ k p u h0 h1. lined_none (λ (x : SelectorRow). x.of) (λ i. i) k;
  holds = λ k p r2 h0 h1. lined_none (λ (x : SelectorRow). x.of) (λ i. i) k;
  opens = λ k p b h0 h1. lined_none (λ (x : SelectorRow). x.of) (λ i. i) k;
}
