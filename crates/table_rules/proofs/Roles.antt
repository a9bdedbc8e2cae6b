-- The roles of the tokens that entries name.
use Rattle.std.proofs.Common.{◌≡◌, ℕ, zero, suc, ◌+◌, ◌⊎◌, inl, inr, List, [], ◌∷◌, ◌++◌, Option, Some, None, sym, ap, ◌∙◌, subst, arith}
use Rattle.std.specs.Prelude.{Contains}
use Rattle.ob_tree.specs.declared.role.Role.{Role}
use Rattle.ob_tree.specs.declared.role.Role.TheVariants.{Declares, Aliases, Imports, Uses, Completes, Selects, Names, Repeats}
use Rattle.ob_tree.specs.TreeEvents.{Events, Begins, Ends, Identifier, Value, Word}
use Rattle.module_table.specs.declared.rows.Declared.{Declared}
use Rattle.module_table.specs.declared.rows.End.{End}
use Rattle.module_table.specs.declared.rows.Import.{Import}
use Rattle.module_table.specs.declared.rows.Selector.{Selector}
use Rattle.module_table.specs.declared.rows.Step.TheVariants as steps
use Rattle.module_table.specs.declared.rows.Used.{Used}
use Rattle.module_table.specs.Parts.{Rows, no_rows, joined, these_selectors}
use Rattle.table_rules.proofs.Mirrored.{width_of}

-- roles that entries don't distinguish have a common role
abbrev pub common_role : Role → Role
common_role (Declares is_exported) = Aliases
common_role Aliases = Aliases
common_role Imports = Imports
common_role Uses = Uses
common_role Completes = Selects
common_role Selects = Selects
common_role Names = Names
common_role (Repeats n) = Repeats 0

-- the role of the token at this index, if it is an identifier
abbrev pub role_at : Events → ℕ → Option Role
role_at [] i = None
role_at (Begins c n ∷ ms) i = role_at ms i
role_at (Ends c ∷ ms) i = role_at ms i
role_at (Identifier r n ∷ ms) zero = Some (common_role r)
role_at (Identifier r n ∷ ms) (suc i) = role_at ms i
role_at (Value l n ∷ ms) zero = None
role_at (Value l n ∷ ms) (suc i) = role_at ms i
role_at (Word w ∷ ms) zero = None
role_at (Word w ∷ ms) (suc i) = role_at ms i

role_first : (a b : Events) (i : ℕ) (r : Role) → role_at a i ≡ Some r → role_at (a ++ b) i ≡ Some r
role_first [] b i r e = absurd cc
role_first (Begins c n ∷ ms) b i r e = role_first ms b i r e
role_first (Ends c ∷ ms) b i r e = role_first ms b i r e
role_first (Identifier s n ∷ ms) b zero r e = e
role_first (Identifier s n ∷ ms) b (suc i) r e = role_first ms b i r e
role_first (Value l n ∷ ms) b zero r e = absurd cc
role_first (Value l n ∷ ms) b (suc i) r e = role_first ms b i r e
role_first (Word w ∷ ms) b zero r e = absurd cc
role_first (Word w ∷ ms) b (suc i) r e = role_first ms b i r e

role_second : (a b : Events) (i j : ℕ) → j ≡ width_of a + i → role_at (a ++ b) j ≡ role_at b i
role_second [] b i j e = ap (role_at b) (omega (arith, e))
role_second (Begins c n ∷ ms) b i j e = role_second ms b i j e
role_second (Ends c ∷ ms) b i j e = role_second ms b i j e
role_second (Identifier r n ∷ ms) b i zero e = absurd (omega (arith, e))
role_second (Identifier r n ∷ ms) b i (suc j) e = role_second ms b i j (omega (arith, e))
role_second (Value l n ∷ ms) b i zero e = absurd (omega (arith, e))
role_second (Value l n ∷ ms) b i (suc j) e = role_second ms b i j (omega (arith, e))
role_second (Word w ∷ ms) b i zero e = absurd (omega (arith, e))
role_second (Word w ∷ ms) b i (suc j) e = role_second ms b i j (omega (arith, e))

-- the token of number n is an identifier of this role, if the first token has number k
abbrev pub HasRole : ℕ → Events → Role → ℕ → Type 0
HasRole k o r n = (i : ℕ) × (k + i ≡ n) × (role_at o i ≡ Some r)

-- P holds of each element, by recursion
abbrev pub Each : {X : Type 0} → (X → Type 0) → List X → Type 0
Each P [] = Unit {0}
Each P (x ∷ xs) = P x × Each P xs

each_both : {X : Type 0} (P : X → Type 0) (xs ys : List X) → Each P xs → Each P ys → Each P (xs ++ ys)
each_both P [] ys f g = g
each_both P (x ∷ xs) ys f g = (f.0, each_both P xs ys f.1 g)

each_split : {X : Type 0} (P : X → Type 0) (xs ys : List X) → Each P (xs ++ ys) → Each P xs × Each P ys
each_split P [] ys f = (tt, f)
each_split P (x ∷ xs) ys f = let r = each_split P xs ys f.1 in ((f.0, r.0), r.1)

each_all : {X : Type 0} (P Q : X → Type 0) (xs : List X) → ((x : X) → P x → Q x) → Each P xs → Each Q xs
each_all P Q [] w f = tt
each_all P Q (x ∷ xs) w f = (w x f.0, each_all P Q xs w f.1)

pub each_one : {X : Type 0} (P : X → Type 0) (xs : List X) (x : X) → Each P xs → Contains xs x → P x
each_one P [] x f (i, l, e) = absurd (omega arith)
each_one P (y ∷ ys) x f (zero, l, e) = subst P e f.0
each_one P (y ∷ ys) x f (suc i, l, e) = each_one P ys x f.1 (i, omega arith, e)

-- P holds of each token that an entry names, and the token's role; an import item without := names its alias alone
abbrev pub OfImport : (Role → ℕ → Type 0) → Import → Type 0
OfImport P i = P Aliases i.alias × ((i.alias ≡ i.imported) ⊎ P Imports i.imported)

abbrev pub OfDeclared : (Role → ℕ → Type 0) → Declared → Type 0
OfDeclared P d = P Aliases d.number

abbrev pub OfEnd : (Role → ℕ → Type 0) → End → Type 0
OfEnd P e = P (Repeats 0) e.number

abbrev pub OfUse : (Role → ℕ → Type 0) → Used → Type 0
OfUse P u = P Uses u.number × ((n : ℕ) → u.member ≡ Some n → P Selects n)

abbrev pub OfSelector : (Role → ℕ → Type 0) → Selector → Type 0
OfSelector P s = (n : ℕ) → s.step ≡ steps.Field n → P Selects n

-- P holds of each token that entries name, and the token's role
abbrev pub HaveRoles : (Role → ℕ → Type 0) → Rows → Type 0
HaveRoles P r = Each (OfImport P) r.imports × Each (OfDeclared P) r.declared × Each (OfEnd P) r.ends × Each (OfUse P) r.uses × Each (OfSelector P) r.selectors

pub roles_joined : (P : Role → ℕ → Type 0) (a b : Rows) → HaveRoles P a → HaveRoles P b → HaveRoles P (joined a b)
unfolding joined
roles_joined P a b f g = (
  each_both (OfImport P) a.imports b.imports f.0 g.0,
  each_both (OfDeclared P) a.declared b.declared f.1 g.1,
  each_both (OfEnd P) a.ends b.ends f.2 g.2,
  each_both (OfUse P) a.uses b.uses f.3 g.3,
  each_both (OfSelector P) a.selectors b.selectors f.4 g.4,
)

pub roles_split : (P : Role → ℕ → Type 0) (a b : Rows) → HaveRoles P (joined a b) → HaveRoles P a × HaveRoles P b
unfolding joined
roles_split P a b f =
    let i = each_split (OfImport P) a.imports b.imports f.0 in
    let d = each_split (OfDeclared P) a.declared b.declared f.1 in
    let e = each_split (OfEnd P) a.ends b.ends f.2 in
    let u = each_split (OfUse P) a.uses b.uses f.3 in
    let s = each_split (OfSelector P) a.selectors b.selectors f.4 in
    ((i.0, d.0, e.0, u.0, s.0), (i.1, d.1, e.1, u.1, s.1))

roles_mapped : (P Q : Role → ℕ → Type 0) (r : Rows) → ((role : Role) (n : ℕ) → P role n → Q role n) → HaveRoles P r → HaveRoles Q r
roles_mapped P Q r w f = (
  each_all (OfImport P) (OfImport Q) r.imports (λ i h. (w Aliases i.alias h.0, elim h.1 [ inl same ↦ inl same | inr role ↦ inr (w Imports i.imported role) ])) f.0,
  each_all (OfDeclared P) (OfDeclared Q) r.declared (λ d h. w Aliases d.number h) f.1,
  each_all (OfEnd P) (OfEnd Q) r.ends (λ e h. w (Repeats 0) e.number h) f.2,
  each_all (OfUse P) (OfUse Q) r.uses (λ u h. (w Uses u.number h.0, λ n e. w Selects n (h.1 n e))) f.3,
  each_all (OfSelector P) (OfSelector Q) r.selectors (λ s h n e. w Selects n (h n e)) f.4,
)

-- entries that name no token
abbrev pub naming_rows : Rows → Rows
naming_rows r = record { decl_groups = []; declared = r.declared; uses = r.uses; blocks = []; imports = r.imports; parts = []; records = []; designators = []; selectors = r.selectors; ends = r.ends }

abbrev pub NameNothing : Rows → Type 0
NameNothing r = naming_rows r ≡ these_selectors []

pub roles_of_none : (P : Role → ℕ → Type 0) → HaveRoles P no_rows
unfolding no_rows
roles_of_none P = (tt, tt, tt, tt, tt)

pub roles_of_unnamed : (P : Role → ℕ → Type 0) (r : Rows) → NameNothing r → HaveRoles P r
roles_of_unnamed P r e = subst (HaveRoles P) (sym e) (tt, tt, tt, tt, tt)

-- the tokens of the first of two event sequences, and of the second
pub roles_first : (k : ℕ) (a b : Events) (r : Rows) → HaveRoles (HasRole k a) r → HaveRoles (HasRole k (a ++ b)) r
roles_first k a b r f = roles_mapped (HasRole k a) (HasRole k (a ++ b)) r (λ role n h. (h.0, h.1, role_first a b h.0 role h.2)) f

pub roles_second : (k w : ℕ) (a b : Events) (r : Rows) → w ≡ width_of a → HaveRoles (HasRole (k + w) b) r → HaveRoles (HasRole k (a ++ b)) r
roles_second k w a b r e f = roles_mapped (HasRole (k + w) b) (HasRole k (a ++ b)) r (λ role n h. (
  w + h.0,
  (let g : k + w + h.0 ≡ n = h.1 in omega (arith, g)),
  role_second a b h.0 (w + h.0) (omega (arith, e)) ∙ h.2,
)) f

-- tokens after a first identifier
pub roles_later : (k n : ℕ) (r : Role) (o : Events) (rows : Rows) → HaveRoles (HasRole (k + 1) o) rows → HaveRoles (HasRole k (Identifier r n ∷ o)) rows
roles_later k n r o rows f = roles_mapped (HasRole (k + 1) o) (HasRole k (Identifier r n ∷ o)) rows (λ role j h. (suc h.0, (let g : k + 1 + h.0 ≡ j = h.1 in omega (arith, g)), h.2)) f
