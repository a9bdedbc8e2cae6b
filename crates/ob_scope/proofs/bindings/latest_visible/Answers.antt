-- A member whose block has ended is replaced by the candidate before it.
use Rattle.std.proofs.Common.{◌≡◌, ℕ, ◌<◌, List, Option, Some, None, length, get_or, false, true, sym, ap, ◌∙◌, subst, arith}
use Rattle.std.specs.Prelude.{IfSome, Contains}
use Rattle.std.proofs.lemmas.Bool.{false≢true}
use Rattle.std.proofs.lemmas.Option.{get_or_from_slice_get}
use Rattle.scopes.specs.declared.members.Member.{Member}
use Rattle.scopes.specs.declared.members.Scope.{Scope}
use Rattle.ob_scope.specs.Visibility.{IsIn, IsOpenScope, IsStart}
use Rattle.ob_scope.proofs.Sighting.{start_back}
use Rattle.ob_scope.proofs.bindings.latest_visible.Goals as goal

below : (o : Option ℕ) (k : ℕ) → ((h : ℕ) → o ≡ Some h → h < k) → IfSome o (λ h. h < k)
below None k f = tt
below (Some h) k f = f h Rattle.std.proofs.Common.refl

place_is : (members : List Member) (i b : ℕ) (d : Member) → IsIn members i b → (get_or members i d).place ≡ Rattle.scopes.specs.declared.members.Scope.TheVariants.Block b
place_is members i b d p = ap (λ (m : Member). m.place) (get_or_from_slice_get members i p.member d p.there) ∙ p.placed

ended : (members : List Member) (stack : List ℕ) (i : ℕ) (d : Member) → (IsOpenScope stack (get_or members i d).place → ⊥) → (b : ℕ) → IsIn members i b → Contains stack b → ⊥
ended members stack i d closed b p has = closed (subst (λ (x : Scope). IsOpenScope stack x) (sym (place_is members i b d p)) has)

pub loop-at-preserved : goal.loop-at-preserved
loop-at-preserved c = record {
  within = (
      let inside : c.in-Some.i < length c.args.members.now = subst (λ (o : Option ℕ). IfSome o (λ i. i < length c.args.members.now)) c.in-Some.is c.loop-at.invariant.within in
      below _ _ (λ h e. (let l = c.requires.falls c.in-Some.i h e in omega arith)));
  start = λ blocks numbers watermark j n latest seen from.
      start_back blocks c.args.members.now numbers c.args.stack.now watermark j latest c.args.earlier.now seen n c.in-Some.i
      (subst (λ (o : Option ℕ). IsStart c.args.members.now numbers c.args.stack.now j n o) c.in-Some.is (c.loop-at.invariant.start blocks numbers watermark j n latest seen from))
      (ended c.args.members.now c.args.stack.now c.in-Some.i _ (λ h. false≢true (sym c.if-is_open.false ∙ c.is_open.ensures.no h)));
}
