-- From the tokens of a whole text to its one tree.
use Rattle.std.proofs.Common.{◌≡◌, ℕ, List, Some, Result, Ok, length, map, sym, ap, subst, ◌∙◌}
use Rattle.std.specs.Prelude.{slice_get}
use Rattle.std.specs.List.{All}
use Rattle.std.proofs.lemmas.List.{length-map}
use Rattle.ob_scan.specs.declared.kind.Kind.TheVariants.{Ident}
use Rattle.ob_scan.specs.declared.token.Token.{Token}
use Rattle.ob_tree.specs.declared.declaration.Module.{Module}
use Rattle.ob_tree.specs.Declaring.{module_events}
use Rattle.ob_tree.specs.Derives.{Derives, end_names_in}
use Rattle.ob_tree.specs.TreeEvents.{Events}
use Rattle.ob_grammar.specs.Ends.{AreTokenNumbers}
use Rattle.ob_grammar.specs.Combinators.{ReadError}
use Rattle.ob_grammar.specs.Parsed.{IsEndFault, IsFirstWrong, IsOneTree, IsRightEnd, IsTheTree, kinds_of, read_as_module}
use Rattle.ob_grammar.proofs.OneTree.{endings_are_known, tree_is_unique}
use Rattle.module_table.specs.Parts.{Rows}
use Rattle.module_table.specs.Trees.{AreTreeRows}
use Rattle.table_rules.specs.Declaring.{rows_of}
use Rattle.table_rules.specs.Naming.{ending_of}

-- an event sequence that was read
abbrev read_as : Events → Result Events ReadError
read_as o = Ok o

-- the one tree of some tokens, with these entries
pub record Whole (us : List Token) (rows : Rows) : Type 0 where
  pub of : Module
  pub tree : IsOneTree us of
  pub rows_are : rows ≡ rows_of of
  pub endings_are : map ending_of rows.ends ≡ end_names_in (module_events of)
  pub in_range : All (AreTokenNumbers us) (map ending_of rows.ends)

-- a module whose event sequence was read is the tree of the tokens
pub whole_tree : (us : List Token) (out : Events) (rows : Rows) (m : Module) → read_as_module us ≡ Ok out → module_events m ≡ out → rows ≡ rows_of m →
    (Derives (kinds_of us) m → map ending_of (rows_of m).ends ≡ end_names_in (module_events m)) → Whole us rows
whole_tree us out rows m read has_events are law =
    let as_read = read ∙ ap read_as (sym has_events) in
    let one = tree_is_unique us m as_read in
    let collect_end_names = ap (λ (r : Rows). map ending_of r.ends) are ∙ law one.derived in
    record {
      of = m;
      tree = one;
      rows_are = are;
      endings_are = collect_end_names;
      in_range = subst (All (AreTokenNumbers us)) (sym collect_end_names) (endings_are_known us (module_events m) as_read);
    }

-- if its names after END are right
pub right_tree : (bytes : List ℕ) (us ts : List Token) (rows : Rows) (w : Whole us rows) → us ≡ ts → All (IsRightEnd bytes us) (map ending_of rows.ends) → IsTheTree bytes ts w.of
right_tree bytes us ts rows w e right =
    subst (λ (vs : List Token). IsTheTree bytes vs w.of) e (record { tree = w.tree; ended = subst (All (IsRightEnd bytes us)) w.endings_are right })

-- if one is wrong
pub wrong_tree : (bytes : List ℕ) (us ts : List Token) (rows : Rows) (at : ℕ) → Whole us rows → us ≡ ts → IsFirstWrong bytes us (map ending_of rows.ends) at → IsEndFault bytes ts at
wrong_tree bytes us ts rows at w e wrong =
    subst (λ (vs : List Token). IsEndFault bytes vs at) e (record { of = w.of; tree = w.tree; first = subst (λ (es : List (ℕ × ℕ)). IsFirstWrong bytes us es at) w.endings_are wrong })

-- the entries of a tree of tokens, with other names for the entries
pub tree_rows_as : (ts : List Token) (r : Rows) (m : Module) → r ≡ rows_of m → AreTreeRows (λ k. slice_get (kinds_of ts) k ≡ Some Ident) (length (kinds_of ts)) (rows_of m) → AreTreeRows (λ k. slice_get (kinds_of ts) k ≡ Some Ident) (length ts) r
tree_rows_as ts r m e h =
    subst (AreTreeRows (λ k. slice_get (kinds_of ts) k ≡ Some Ident) (length ts)) (sym e)
    (subst (λ (n : ℕ). AreTreeRows (λ k. slice_get (kinds_of ts) k ≡ Some Ident) n (rows_of m)) (length-map ts (λ (t : Token). t.kind)) h)
