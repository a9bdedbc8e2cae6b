-- One more declaration with precomputed ends.
use Rattle.std.proofs.Common.{◌≡◌, ℕ, Bool, true, false, cond, Option, Some, refl, sym, ◌∙◌, subst}
use Rattle.std.specs.BTreeMap.{get, is_at, BTreeMap}
use Rattle.std.specs.Cmp.{Equal-is}
use Rattle.std.specs.Ordering.{nat_cmp}
use Rattle.std.proofs.lemmas.Map.Lookups.{exact_pairs, exact_unsigned}
use Rattle.type_graph.specs.Link.{IsTypeEnd}
use Rattle.ob_types.specs.declared.nodes.Node.{Node}
use Rattle.ob_types.specs.declared.precomputed.TypeEnds.{TypeEnds}
use Rattle.ob_types.specs.PrecomputedEnds.{key_cmp, AreAllEndsOf, AreEndsOf}
use Rattle.ob_types.specs.Shapes.{shape}
use Rattle.ob_view.specs.World.{World}

-- the table stores the ends of one more declaration
pub one_more : (w : World) (i d : ℕ) (ends : TypeEnds) (before after : BTreeMap (ℕ × ℕ) TypeEnds) → ((k : ℕ × ℕ) → get key_cmp after k ≡ cond (is_at (key_cmp (i, d)) k) (Some ends) (get key_cmp before k)) → AreEndsOf w i d ends → AreAllEndsOf w before → AreAllEndsOf w after
one_more w i d ends before after adds more are = record { each = λ j e listed is. (at j e listed (is_at (key_cmp (i, d)) (j, e)) refl (sym (adds (j, e)) ∙ is)) }
  where
    at : (j e : ℕ) (listed : TypeEnds) (b : Bool) → is_at (key_cmp (i, d)) (j, e) ≡ b → cond b (Some ends) (get key_cmp before (j, e)) ≡ Some listed → AreEndsOf w j e listed
    at j e listed false f is = are.each j e listed is
    at j e listed true f is =
        let same : ends ≡ listed = cc in
        let one : (i, d) ≡ (j, e) = exact_pairs nat_cmp nat_cmp exact_unsigned exact_unsigned (i, d) (j, e) ((Equal-is (key_cmp (i, d) (j, e))).0 f) in
        subst (λ (k : ℕ × ℕ). AreEndsOf w k.0 k.1 listed) one (subst (AreEndsOf w i d) same more)

-- the end of a type in a world and at a node that are equal to these
pub end_moved : (w v : World) (pointers : Bool) (n m : Node) (end : Option Node) → v ≡ w → n ≡ m → IsTypeEnd (shape v) pointers n end → IsTypeEnd (shape w) pointers m end
end_moved w v pointers n m end same is h = subst (λ (x : World). IsTypeEnd (shape x) pointers m end) same (subst (λ (x : Node). IsTypeEnd (shape v) pointers x end) is h)
