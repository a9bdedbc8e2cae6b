-- Two runs on a tree write equal bytes.
use Rattle.std.proofs.Common.{◌≡◌, ℕ, List, ◌++◌, Option, Some, None, sym, ap, ◌∙◌}
use Rattle.std.specs.Prelude.{codes}
use Rattle.hex.specs.Hex.{encode_lower}
use Rattle.ob_board.proofs.OneIndex.{index_is_unique, unresolved_list_is_unique}
use Rattle.texts.specs.Places.{Style}
use Rattle.index_run.specs.IndexRuns.{unresolved_lines, IsHexText, IsIndexText, IsUnresolvedText, WritesText}
use Rattle.source_tree.specs.declared.source.Source.{Source}
use Rattle.scip_index.specs.Written.{written}

pub puts_same : (IsText : List ℕ → Type 0) → ((text other : List ℕ) → IsText text → IsText other → text ≡ other) → (before : List ℕ) (new other : Option (List ℕ))
    → WritesText IsText (Some before) new → WritesText IsText (Some before) other → new ≡ other
puts_same IsText one before None other (t, is, bad) b = absurd bad
puts_same IsText one before (Some xs) None a (u, is, bad) = absurd bad
puts_same IsText one before (Some xs) (Some ys) (t, is_t, e) (u, is_u, f) = ap Some (e ∙ ap (λ (z : List ℕ). before ++ z) (one t u is_t is_u) ∙ sym f)

module _ (sources : List Source) where
  pub index_once : (package_name root text other : List ℕ) → IsIndexText sources package_name root text → IsIndexText sources package_name root other → text ≡ other
  index_once package_name root text other a b = a.text_is ∙ ap written (index_is_unique sources package_name root a.index b.index a.is_index b.is_index) ∙ sym b.text_is

  pub hex_once : (package_name root text other : List ℕ) → IsHexText sources package_name root text → IsHexText sources package_name root other → text ≡ other
  hex_once package_name root text other a b =
      a.text_is ∙ ap (λ (bytes : List ℕ). encode_lower bytes ++ codes "\n") (index_once package_name root a.bytes b.bytes a.is_index b.is_index) ∙ sym b.text_is

  pub unresolved_once : (style : Style) (text other : List ℕ) → IsUnresolvedText style sources text → IsUnresolvedText style sources other → text ≡ other
  unresolved_once style text other a b = a.text_is ∙ ap (unresolved_lines style) (unresolved_list_is_unique sources a.rows b.rows a.are_rows b.are_rows) ∙ sym b.text_is
