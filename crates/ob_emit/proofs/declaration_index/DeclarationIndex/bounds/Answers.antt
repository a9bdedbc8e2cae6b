-- The stored indices around the token.
use Rattle.std.proofs.Common.{◌+◌, ◌/◌, ℕ, refl, sym, ap, ◌∙◌, List, arith}
use Rattle.std.specs.Prelude.{slice_get}
use Rattle.std.proofs.lemmas.Option.{slice_get_read}
use Rattle.ob_emit.proofs.RowsMarked.{high_behind, low_before}
use Rattle.ob_emit.proofs.declaration_index.DeclarationIndex.bounds.Goals as goal

pub returns-clause-before : goal.returns-clause-before
returns-clause-before c =
    let it = c.args.self.now in
    let n = c.args.number in
    let at = slice_get_read c.deref.result.now _ (n / 16) c.in_ok-low.field-0.now refl c.in_ok-low.ensures.lookup.3.0 c.in_ok-low.ensures.lookup.1 in
    low_before it.declared.now it.firsts.items n (n / 16) c.in_ok-low.field-0.now it.boundaries (omega arith) (ap (λ (xs : List ℕ). slice_get xs (n / 16)) (sym c.deref.ensures.value) ∙ at)

pub returns-clause-after : goal.returns-clause-after
returns-clause-after c =
    let it = c.args.self.now in
    let n = c.args.number in
    let m = n / 16 + 1 in
    let at = slice_get_read c.deref-2.result.now _ m c.in_ok-high.field-0.now refl c.in_ok-high.ensures.lookup.3.0 c.in_ok-high.ensures.lookup.1 in
    high_behind it.declared.now it.firsts.items n m c.in_ok-high.field-0.now it.boundaries (omega arith) (ap (λ (xs : List ℕ). slice_get xs m) (sym c.deref-2.ensures.value) ∙ at)
