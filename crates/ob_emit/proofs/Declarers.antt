-- The declaration groups of identifiers, as the table's look-ups find them.
use Rattle.std.proofs.Common.{◌≡◌, ℕ, Option, Some, None, false, refl, sym, ap, ◌∙◌}
use Rattle.std.specs.Prelude.{◌==◌, find, not}
use Rattle.module_table.specs.declared.rows.Declared.{Declared}
use Rattle.module_table.specs.declared.rows.DeclGroup.{DeclGroup}
use Rattle.module_table.specs.Parts.{Rows}
use Rattle.ob_view.specs.World.{World, declared_at, decl_group_from, decl_group_of}
use Rattle.ob_emit.specs.Symbols.{is_local}

-- the declaration group that was found, and the identifier
abbrev pub IsDeclarer : Rows → ℕ → Option DeclGroup → Type 0
IsDeclarer rows first o = o ≡ find (λ (by : DeclGroup). by.first == first) rows.decl_groups

abbrev pub IsDeclared : Rows → ℕ → Option Declared → Type 0
IsDeclared rows k o = o ≡ find (λ (d : Declared). d.number == k) rows.declared

found_from : (w : World) (rows : Rows) (first : ℕ) (o : Option DeclGroup) → rows ≡ w.rows → IsDeclarer rows first o → decl_group_from w first ≡ o
unfolding decl_group_from
found_from w rows first o same is = sym (is ∙ ap (λ (r : Rows). find (λ (by : DeclGroup). by.first == first) r.decl_groups) same)

found_at : (w : World) (rows : Rows) (k : ℕ) (o : Option Declared) → rows ≡ w.rows → IsDeclared rows k o → declared_at w k ≡ o
unfolding declared_at
found_at w rows k o same is = sym (is ∙ ap (λ (r : Rows). find (λ (d : Declared). d.number == k) r.declared) same)

pub local_some : (w : World) (rows : Rows) (d : Declared) (by : DeclGroup) (o : Option DeclGroup) → rows ≡ w.rows → IsDeclarer rows d.declared_by o → o ≡ Some by → not (by.block == 0) ≡ is_local w d
local_some w rows d by o same is e = let f : decl_group_from w d.declared_by ≡ Some by = found_from w rows d.declared_by o same is ∙ e in rw f refl

pub local_none : (w : World) (rows : Rows) (d : Declared) (o : Option DeclGroup) → rows ≡ w.rows → IsDeclarer rows d.declared_by o → o ≡ None → false ≡ is_local w d
local_none w rows d o same is e = let f : decl_group_from w d.declared_by ≡ None = found_from w rows d.declared_by o same is ∙ e in rw f refl

pub declarer_none : (w : World) (rows : Rows) (k : ℕ) (o : Option Declared) → rows ≡ w.rows → IsDeclared rows k o → o ≡ None → None ≡ decl_group_of w k
unfolding decl_group_of
declarer_none w rows k o same is e = let f : declared_at w k ≡ None = found_at w rows k o same is ∙ e in rw f refl

pub declarer_some : (w : World) (rows others : Rows) (k : ℕ) (d : Declared) (o : Option Declared) (p : Option DeclGroup) → rows ≡ w.rows → IsDeclared rows k o → o ≡ Some d
    → others ≡ w.rows → IsDeclarer others d.declared_by p → p ≡ decl_group_of w k
unfolding decl_group_of
declarer_some w rows others k d o p same is e same_too found =
    let f : declared_at w k ≡ Some d = found_at w rows k o same is ∙ e in
    rw f (sym (found_from w others d.declared_by p same_too found))
