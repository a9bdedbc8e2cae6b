-- Two uses of one number in one block.
use Rattle.std.proofs.Common.{◌≡◌, ℕ, List, sym, ap, ◌∙◌}
use Rattle.module_table.specs.declared.rows.Block.{Block}
use Rattle.module_table.specs.declared.rows.Used.{Used}
use Rattle.scopes.specs.declared.members.Member.{Member}
use Rattle.scopes.specs.Scope.{IsVisible, Resolves, ResolvesToNothing}

module _ (name : ℕ → List ℕ) (blocks : List Block) (ds : List Member) where
  -- the declarations visible at two uses with equal numbers in one block are equal
  seen-as : (v w : Used) → v.block ≡ w.block → v.number ≡ w.number → (b : ℕ) (d : Member) → IsVisible name blocks ds w b d → IsVisible name blocks ds v b d
  seen-as v w block number b d t = record {
    declared = t.declared;
    placed = t.placed;
    named = t.named ∙ ap name (sym number);
    before = rw number t.before;
    around = rw block t.around;
  }

  pub resolves-as : (v w : Used) (d : Member) → v.block ≡ w.block → v.number ≡ w.number → Resolves name blocks ds w d → Resolves name blocks ds v d
  resolves-as v w d block number r = record {
    block = r.block;
    seen = seen-as v w block number r.block d r.seen;
    innermost = λ b e t. r.innermost b e (seen-as w v (sym block) (sym number) b e t);
  }

  pub nothing-as : (v w : Used) → v.block ≡ w.block → v.number ≡ w.number → ResolvesToNothing name blocks ds w → ResolvesToNothing name blocks ds v
  nothing-as v w block number none b d t = none b d (seen-as w v (sym block) (sym number) b d t)
