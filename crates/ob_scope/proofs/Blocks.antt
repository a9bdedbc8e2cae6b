-- A block by the index of its entry.
use Rattle.std.proofs.Common.{◌≡◌, ℕ, ◌<◌, ◌≤◌, List, get_or, sym, ap, ◌∙◌, arith}
use Rattle.std.proofs.lemmas.Option.{get_or_from_slice_get}
use Rattle.module_table.specs.declared.rows.Block.{Block}
use Rattle.module_table.specs.Order.{IsIncreasingBy, HasNoneBy, IsIndexBy}
use Rattle.module_table.specs.Blocks.{IsDirectlyIn}
use Rattle.module_table.proofs.Around.{ascend_one}
use Rattle.module_table.proofs.Elements.{contains_slice, slice_contains}

module _ (blocks : List Block) where
  row_there : (at b : ℕ) (d : Block) (f : IsIndexBy (λ (x : Block). x.first) blocks b at) → f.element ≡ get_or blocks at d
  row_there at b d f = sym (get_or_from_slice_get blocks at f.element d f.there)

  pub directly_in : (at b : ℕ) (d : Block) → IsIndexBy (λ (x : Block). x.first) blocks b at → (get_or blocks at d).outer < b → IsDirectlyIn blocks b (get_or blocks at d).outer
  directly_in at b d f behind = record {
    row = f.element;
    is_row = contains_slice blocks at f.element f.there;
    first = f.has;
    outer = ap (λ (x : Block). x.outer) (row_there at b d f);
    behind = behind;
  }

  -- a block without an entry, and one whose entry names no block that begins before it
  pub in_none : (b : ℕ) → HasNoneBy (λ (x : Block). x.first) blocks b → (c : ℕ) → IsDirectlyIn blocks b c → ⊥
  in_none b none c p = let at = slice_contains blocks p.row p.is_row in none at.0 p.row at.1 p.first

  pub in_none_before : IsIncreasingBy (λ (x : Block). x.first) blocks → (at b : ℕ) (d : Block) → IsIndexBy (λ (x : Block). x.first) blocks b at → b ≤ (get_or blocks at d).outer → (c : ℕ) → IsDirectlyIn blocks b c → ⊥
  in_none_before up at b d f behind c p =
      let same : p.row ≡ f.element = ascend_one (λ (x : Block). x.first) blocks p.row f.element up p.is_row (contains_slice blocks at f.element f.there) (p.first ∙ sym f.has) in
      let outer : c ≡ (get_or blocks at d).outer = sym p.outer ∙ ap (λ (x : Block). x.outer) (same ∙ row_there at b d f) in
      omega (arith, outer, behind, p.behind)
