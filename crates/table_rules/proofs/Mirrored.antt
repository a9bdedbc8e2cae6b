-- A piece and an event sequence of one part of a tree: as many tokens, and the same places of what is declared and looked up.
use Rattle.std.proofs.Common.{◌≡◌, ℕ, suc, ◌+◌, Bool, List, [], ◌∷◌, ◌++◌, map, Option, refl, sym, ap, ap₂, ◌∙◌, append-nil, arith}
use Rattle.std.proofs.lemmas.List.{map-append}
use Rattle.ob_scan.specs.declared.kind.Kind.{Kind}
use Rattle.ob_tree.specs.Constructs.{Construct}
use Rattle.ob_tree.specs.declared.expression.Literal.{Literal}
use Rattle.ob_tree.specs.declared.role.Role.{Role}
use Rattle.ob_tree.specs.declared.role.Role.TheVariants.{Declares, Aliases, Imports, Uses, Completes, Selects, Names, Repeats}
use Rattle.ob_tree.specs.TreeEvents.{Events, Begins, Ends, Identifier, Value, Word, construct, word}
use Rattle.module_table.specs.declared.rows.Declared.{Declared}
use Rattle.module_table.specs.declared.rows.Used.{Used}
use Rattle.module_table.specs.declared.rows.DeclKind.{DeclKind}
use Rattle.module_table.specs.declared.builder.Context.{Context}
use Rattle.module_table.specs.Parts.{Fragment, Rows, no_rows, joined, nothing, token, both, with_rows, within, declaring}
use Rattle.table_rules.specs.Expressions.{used}
use Rattle.table_rules.specs.Types.{declared_row}

-- how many tokens an event sequence has
abbrev pub width_of : Events → ℕ
width_of [] = 0
width_of (Begins c n ∷ ms) = width_of ms
width_of (Ends c ∷ ms) = width_of ms
width_of (Identifier r n ∷ ms) = suc (width_of ms)
width_of (Value k n ∷ ms) = suc (width_of ms)
width_of (Word k ∷ ms) = suc (width_of ms)

-- the places of what it declares, and of what it looks up, if its first token has this one
abbrev pub declares_at : ℕ → Events → List ℕ
declares_at k [] = []
declares_at k (Begins c n ∷ ms) = declares_at k ms
declares_at k (Ends c ∷ ms) = declares_at k ms
declares_at k (Identifier (Declares is_exported) n ∷ ms) = k ∷ declares_at (suc k) ms
declares_at k (Identifier Aliases n ∷ ms) = k ∷ declares_at (suc k) ms
declares_at k (Identifier Imports n ∷ ms) = declares_at (suc k) ms
declares_at k (Identifier Uses n ∷ ms) = declares_at (suc k) ms
declares_at k (Identifier Completes n ∷ ms) = declares_at (suc k) ms
declares_at k (Identifier Selects n ∷ ms) = declares_at (suc k) ms
declares_at k (Identifier Names n ∷ ms) = declares_at (suc k) ms
declares_at k (Identifier (Repeats r) n ∷ ms) = declares_at (suc k) ms
declares_at k (Value l n ∷ ms) = declares_at (suc k) ms
declares_at k (Word w ∷ ms) = declares_at (suc k) ms

abbrev pub uses_at : ℕ → Events → List ℕ
uses_at k [] = []
uses_at k (Begins c n ∷ ms) = uses_at k ms
uses_at k (Ends c ∷ ms) = uses_at k ms
uses_at k (Identifier Uses n ∷ ms) = k ∷ uses_at (suc k) ms
uses_at k (Identifier (Declares is_exported) n ∷ ms) = uses_at (suc k) ms
uses_at k (Identifier Aliases n ∷ ms) = uses_at (suc k) ms
uses_at k (Identifier Imports n ∷ ms) = uses_at (suc k) ms
uses_at k (Identifier Completes n ∷ ms) = uses_at (suc k) ms
uses_at k (Identifier Selects n ∷ ms) = uses_at (suc k) ms
uses_at k (Identifier Names n ∷ ms) = uses_at (suc k) ms
uses_at k (Identifier (Repeats r) n ∷ ms) = uses_at (suc k) ms
uses_at k (Value l n ∷ ms) = uses_at (suc k) ms
uses_at k (Word w ∷ ms) = uses_at (suc k) ms

-- ---- event sequences after each other

pub width_both : (a b : Events) → width_of (a ++ b) ≡ width_of a + width_of b
width_both [] b = omega arith
width_both (Begins c n ∷ ms) b = width_both ms b
width_both (Ends c ∷ ms) b = width_both ms b
width_both (Identifier r n ∷ ms) b = let e : width_of (ms ++ b) ≡ width_of ms + width_of b = width_both ms b in omega arith
width_both (Value k n ∷ ms) b = let e : width_of (ms ++ b) ≡ width_of ms + width_of b = width_both ms b in omega arith
width_both (Word k ∷ ms) b = let e : width_of (ms ++ b) ≡ width_of ms + width_of b = width_both ms b in omega arith

moved : (f : ℕ → List ℕ) (k w : ℕ) → f (suc k + w) ≡ f (k + suc w)
moved f k w = ap f (omega arith)

declares_both : (k : ℕ) (a b : Events) → declares_at k (a ++ b) ≡ declares_at k a ++ declares_at (k + width_of a) b
declares_both k [] b = ap (λ (n : ℕ). declares_at n b) (omega arith)
declares_both k (Begins c n ∷ ms) b = declares_both k ms b
declares_both k (Ends c ∷ ms) b = declares_both k ms b
declares_both k (Identifier (Declares is_exported) n ∷ ms) b = ap (λ (ns : List ℕ). k ∷ ns) (declares_both (suc k) ms b ∙ ap (λ (ns : List ℕ). declares_at (suc k) ms ++ ns) (moved (λ n. declares_at n b) k (width_of ms)))
declares_both k (Identifier Aliases n ∷ ms) b = ap (λ (ns : List ℕ). k ∷ ns) (declares_both (suc k) ms b ∙ ap (λ (ns : List ℕ). declares_at (suc k) ms ++ ns) (moved (λ n. declares_at n b) k (width_of ms)))
declares_both k (Identifier Imports n ∷ ms) b = declares_both (suc k) ms b ∙ ap (λ (ns : List ℕ). declares_at (suc k) ms ++ ns) (moved (λ n. declares_at n b) k (width_of ms))
declares_both k (Identifier Uses n ∷ ms) b = declares_both (suc k) ms b ∙ ap (λ (ns : List ℕ). declares_at (suc k) ms ++ ns) (moved (λ n. declares_at n b) k (width_of ms))
declares_both k (Identifier Completes n ∷ ms) b = declares_both (suc k) ms b ∙ ap (λ (ns : List ℕ). declares_at (suc k) ms ++ ns) (moved (λ n. declares_at n b) k (width_of ms))
declares_both k (Identifier Selects n ∷ ms) b = declares_both (suc k) ms b ∙ ap (λ (ns : List ℕ). declares_at (suc k) ms ++ ns) (moved (λ n. declares_at n b) k (width_of ms))
declares_both k (Identifier Names n ∷ ms) b = declares_both (suc k) ms b ∙ ap (λ (ns : List ℕ). declares_at (suc k) ms ++ ns) (moved (λ n. declares_at n b) k (width_of ms))
declares_both k (Identifier (Repeats r) n ∷ ms) b = declares_both (suc k) ms b ∙ ap (λ (ns : List ℕ). declares_at (suc k) ms ++ ns) (moved (λ n. declares_at n b) k (width_of ms))
declares_both k (Value l n ∷ ms) b = declares_both (suc k) ms b ∙ ap (λ (ns : List ℕ). declares_at (suc k) ms ++ ns) (moved (λ n. declares_at n b) k (width_of ms))
declares_both k (Word w ∷ ms) b = declares_both (suc k) ms b ∙ ap (λ (ns : List ℕ). declares_at (suc k) ms ++ ns) (moved (λ n. declares_at n b) k (width_of ms))

uses_both : (k : ℕ) (a b : Events) → uses_at k (a ++ b) ≡ uses_at k a ++ uses_at (k + width_of a) b
uses_both k [] b = ap (λ (n : ℕ). uses_at n b) (omega arith)
uses_both k (Begins c n ∷ ms) b = uses_both k ms b
uses_both k (Ends c ∷ ms) b = uses_both k ms b
uses_both k (Identifier Uses n ∷ ms) b = ap (λ (ns : List ℕ). k ∷ ns) (uses_both (suc k) ms b ∙ ap (λ (ns : List ℕ). uses_at (suc k) ms ++ ns) (moved (λ n. uses_at n b) k (width_of ms)))
uses_both k (Identifier (Declares is_exported) n ∷ ms) b = uses_both (suc k) ms b ∙ ap (λ (ns : List ℕ). uses_at (suc k) ms ++ ns) (moved (λ n. uses_at n b) k (width_of ms))
uses_both k (Identifier Aliases n ∷ ms) b = uses_both (suc k) ms b ∙ ap (λ (ns : List ℕ). uses_at (suc k) ms ++ ns) (moved (λ n. uses_at n b) k (width_of ms))
uses_both k (Identifier Imports n ∷ ms) b = uses_both (suc k) ms b ∙ ap (λ (ns : List ℕ). uses_at (suc k) ms ++ ns) (moved (λ n. uses_at n b) k (width_of ms))
uses_both k (Identifier Completes n ∷ ms) b = uses_both (suc k) ms b ∙ ap (λ (ns : List ℕ). uses_at (suc k) ms ++ ns) (moved (λ n. uses_at n b) k (width_of ms))
uses_both k (Identifier Selects n ∷ ms) b = uses_both (suc k) ms b ∙ ap (λ (ns : List ℕ). uses_at (suc k) ms ++ ns) (moved (λ n. uses_at n b) k (width_of ms))
uses_both k (Identifier Names n ∷ ms) b = uses_both (suc k) ms b ∙ ap (λ (ns : List ℕ). uses_at (suc k) ms ++ ns) (moved (λ n. uses_at n b) k (width_of ms))
uses_both k (Identifier (Repeats r) n ∷ ms) b = uses_both (suc k) ms b ∙ ap (λ (ns : List ℕ). uses_at (suc k) ms ++ ns) (moved (λ n. uses_at n b) k (width_of ms))
uses_both k (Value l n ∷ ms) b = uses_both (suc k) ms b ∙ ap (λ (ns : List ℕ). uses_at (suc k) ms ++ ns) (moved (λ n. uses_at n b) k (width_of ms))
uses_both k (Word w ∷ ms) b = uses_both (suc k) ms b ∙ ap (λ (ns : List ℕ). uses_at (suc k) ms ++ ns) (moved (λ n. uses_at n b) k (width_of ms))

-- ---- pieces and event sequences

abbrev pub declared_numbers : Rows → List ℕ
declared_numbers r = map (λ (d : Declared). d.number) r.declared

abbrev pub used_numbers : Rows → List ℕ
used_numbers r = map (λ (u : Used). u.number) r.uses

pub record Mirrors (p : Fragment) (o : Events) : Type 0 where
  pub width : p.width ≡ width_of o
  pub declares : (c : Context) (k : ℕ) → declared_numbers (p.rows c k) ≡ declares_at k o
  pub uses : (c : Context) (k : ℕ) → used_numbers (p.rows c k) ≡ uses_at k o

pub m-nothing : Mirrors nothing []
unfolding nothing no_rows
m-nothing = record { width = refl; declares = λ c k. refl; uses = λ c k. refl }

pub m-word : (w : Kind) → Mirrors token (word w)
unfolding token no_rows
m-word w = record { width = refl; declares = λ c k. refl; uses = λ c k. refl }

pub m-value : (l : Literal) (n : ℕ) → Mirrors token (Value l n ∷ [])
unfolding token no_rows
m-value l n = record { width = refl; declares = λ c k. refl; uses = λ c k. refl }

-- an identifier that neither declares nor uses
pub m-name : (r : Role) (n : ℕ) → ((k : ℕ) → [] ≡ declares_at k (Identifier r n ∷ [])) → ((k : ℕ) → [] ≡ uses_at k (Identifier r n ∷ [])) → Mirrors token (Identifier r n ∷ [])
unfolding token no_rows
m-name r n d u = record { width = refl; declares = λ c k. d k; uses = λ c k. u k }

pub m-both : {p q : Fragment} {a b : Events} → Mirrors p a → Mirrors q b → Mirrors (both p q) (a ++ b)
unfolding both joined
m-both {p} {q} {a} {b} f g = record {
  width = let e = width_both a b in let x = f.width in let y = g.width in omega (arith, e, x, y);
  declares = λ c k.
      map-append (λ (d : Declared). d.number) (p.rows c k).declared (q.rows c (k + p.width)).declared
      ∙ ap₂ (λ (xs ys : List ℕ). xs ++ ys) (f.declares c k) (g.declares c (k + p.width) ∙ ap (λ (w : ℕ). declares_at (k + w) b) f.width)
      ∙ sym (declares_both k a b);
  uses = λ c k.
      map-append (λ (u : Used). u.number) (p.rows c k).uses (q.rows c (k + p.width)).uses
      ∙ ap₂ (λ (xs ys : List ℕ). xs ++ ys) (f.uses c k) (g.uses c (k + p.width) ∙ ap (λ (w : ℕ). uses_at (k + w) b) f.width)
      ∙ sym (uses_both k a b);
}

-- if a construct ends there is no token
pub m-held : (x : Construct) {p : Fragment} {o : Events} → Mirrors p o → Mirrors p (construct x o)
unfolding construct
m-held x {p} {o} f = record {
  width = let e = width_both o (Ends x ∷ []) in let w = f.width in omega (arith, e, w);
  declares = λ c k. f.declares c k ∙ sym (declares_both k o (Ends x ∷ []) ∙ append-nil (declares_at k o));
  uses = λ c k. f.uses c k ∙ sym (uses_both k o (Ends x ∷ []) ∙ append-nil (uses_at k o));
}

-- entries of its own that neither declare nor look up
pub m-with_rows : (own : Context → ℕ → Rows) {p : Fragment} {o : Events} → ((c : Context) (k : ℕ) → declared_numbers (own c k) ≡ []) → ((c : Context) (k : ℕ) → used_numbers (own c k) ≡ []) →
    Mirrors p o → Mirrors (with_rows own p) o
unfolding with_rows joined
m-with_rows own {p} {o} d u f = record {
  width = f.width;
  declares = λ c k. map-append (λ (d : Declared). d.number) (own c k).declared (p.rows c k).declared ∙ ap₂ (λ (xs ys : List ℕ). xs ++ ys) (d c k) (f.declares c k);
  uses = λ c k. map-append (λ (u : Used). u.number) (own c k).uses (p.rows c k).uses ∙ ap₂ (λ (xs ys : List ℕ). xs ++ ys) (u c k) (f.uses c k);
}

pub m-within : (around : Context → ℕ → Context) {p : Fragment} {o : Events} → Mirrors p o → Mirrors (within around p) o
unfolding within
m-within around f = record { width = f.width; declares = λ c k. f.declares (around c k) k; uses = λ c k. f.uses (around c k) k }

pub m-declaring : (decl_kind : DeclKind) {p : Fragment} {o : Events} → Mirrors p o → Mirrors (declaring decl_kind p) o
unfolding declaring joined
m-declaring decl_kind f = record { width = f.width; declares = λ c k. f.declares _ k; uses = λ c k. f.uses _ k }

pub m-use : (member : Option ℕ) (n : ℕ) → Mirrors (used member) (Identifier Uses n ∷ [])
unfolding with_rows token joined no_rows
m-use member n = record { width = refl; declares = λ c k. refl; uses = λ c k. refl }

pub m-declared : (is_exported : Bool) (n : ℕ) → Mirrors (with_rows (declared_row is_exported) token) (Identifier (Declares is_exported) n ∷ [])
unfolding with_rows token joined no_rows
m-declared is_exported n = record { width = refl; declares = λ c k. refl; uses = λ c k. refl }

later : (f : ℕ → List ℕ) (k : ℕ) → f (k + 1) ≡ f (suc k)
later f k = ap f (omega arith)

-- what an identifier of this role declares is itself, and it uses nothing
pub record IsDeclaring (r : Role) : Type 0 where
  pub itself : (k n : ℕ) (o : Events) → k ∷ declares_at (suc k) o ≡ declares_at k (Identifier r n ∷ o)
  pub no_use : (k n : ℕ) (o : Events) → uses_at (suc k) o ≡ uses_at k (Identifier r n ∷ o)

pub declares_it : (is_exported : Bool) → IsDeclaring (Declares is_exported)
declares_it is_exported = record { itself = λ k n o. refl; no_use = λ k n o. refl }

pub aliases_it : IsDeclaring Aliases
aliases_it = record { itself = λ k n o. refl; no_use = λ k n o. refl }

-- a first token with entries of its own, which declares an identifier, or looks one up
pub m-first_declares : (own : Context → ℕ → Rows) {p : Fragment} {o : Events} {r : Role} → IsDeclaring r → (n : ℕ) → ((c : Context) (k : ℕ) → declared_numbers (own c k) ≡ k ∷ []) → ((c : Context) (k : ℕ) → used_numbers (own c k) ≡ []) →
    Mirrors p o → Mirrors (with_rows own (both token p)) (Identifier r n ∷ o)
unfolding with_rows both token joined no_rows
m-first_declares own {p} {o} {r} role n d u f = record {
  width = let w = f.width in omega (arith, w);
  declares = λ c k. map-append (λ (d : Declared). d.number) (own c k).declared (p.rows c (k + 1)).declared
      ∙ ap₂ (λ (xs ys : List ℕ). xs ++ ys) (d c k) (f.declares c (k + 1) ∙ later (λ (n : ℕ). declares_at n o) k) ∙ role.itself k n o;
  uses = λ c k. map-append (λ (u : Used). u.number) (own c k).uses (p.rows c (k + 1)).uses
      ∙ ap₂ (λ (xs ys : List ℕ). xs ++ ys) (u c k) (f.uses c (k + 1) ∙ later (λ (n : ℕ). uses_at n o) k) ∙ role.no_use k n o;
}

pub m-first_uses : (own : Context → ℕ → Rows) {p : Fragment} {o : Events} (n : ℕ) → ((c : Context) (k : ℕ) → declared_numbers (own c k) ≡ []) → ((c : Context) (k : ℕ) → used_numbers (own c k) ≡ k ∷ []) →
    Mirrors p o → Mirrors (with_rows own (both token p)) (Identifier Uses n ∷ o)
unfolding with_rows both token joined no_rows
m-first_uses own {p} {o} n d u f = record {
  width = let w = f.width in omega (arith, w);
  declares = λ c k. map-append (λ (d : Declared). d.number) (own c k).declared (p.rows c (k + 1)).declared
      ∙ ap₂ (λ (xs ys : List ℕ). xs ++ ys) (d c k) (f.declares c (k + 1) ∙ later (λ (n : ℕ). declares_at n o) k);
  uses = λ c k. map-append (λ (u : Used). u.number) (own c k).uses (p.rows c (k + 1)).uses
      ∙ ap₂ (λ (xs ys : List ℕ). xs ++ ys) (u c k) (f.uses c (k + 1) ∙ later (λ (n : ℕ). uses_at n o) k);
}
