-- The walk over names in token order, from name to name.
use Rattle.std.proofs.Common.{◌≡◌, ℕ, ◌+◌, ◌<◌, ◌≤◌, inl, inr, List, length, get_or, Some, refl, sym, subst, arith}
use Rattle.std.specs.Prelude.{slice_get}
use Rattle.std.proofs.lemmas.Bool.{cases_lt}
use Rattle.std.proofs.lemmas.Option.{slice_get-get_or}
use Rattle.module_table.specs.declared.rows.Block.{Block}
use Rattle.module_table.specs.declared.rows.Used.{Used}
use Rattle.module_table.specs.Blocks.{itself}
use Rattle.module_table.specs.Order.{IsIncreasingBy}
use Rattle.scopes.specs.declared.members.Member.{Member}
use Rattle.scopes.specs.declared.members.Scope.TheVariants as locations
use Rattle.ob_scope.specs.declared.scope_stack.ScopeStack.{ScopeStack}
use Rattle.ob_scope.specs.declared.bindings.Bindings.{Bindings}
use Rattle.ob_scope.specs.Visibility.{Enters, IsOpen}
use Rattle.ob_scope.specs.WalkOrder.{AreContiguous, IsNameIn, IsOnWalk, IsPassed, MayEnter, last, member, none}
use Rattle.module_table.proofs.Elements.{contains_slice}
use Rattle.ob_scope.proofs.Opening.{around_open}

module _ (blocks : List Block) (members : List Member) (uses : List Used) (together : AreContiguous blocks members uses) where
  -- the name is neither after the token nor after the members
  abbrev Before : ℕ → ℕ → ℕ → Type 0
  Before next token m = (n : ℕ) → n ≤ token → ((k : ℕ) (x : Member) → next ≤ k → slice_get members k ≡ Some x → n ≤ x.number) → n ≤ m

  may_by : (stack : List ℕ) (watermark next token m d : ℕ) → IsIncreasingBy (λ (b : Block). b.first) blocks → IsOpen blocks stack watermark → IsPassed members uses stack watermark next token → IsNameIn members uses m d → Before next token m → MayEnter blocks stack watermark d
  may_by stack watermark next token m d sorted opens (none e) here bound = λ b a. inr (omega arith)
  may_by stack watermark next token m d sorted opens (last n c name top less le ahead) here bound = λ b a. elim (cases_lt b watermark) [
    | inl below ↦ inl (around_open blocks stack opens.chain sorted b c top (together.between n m b c d name here (omega arith) (bound n le ahead) a))
    | inr above ↦ inr above
  ]

  since_below : (stack : List ℕ) (watermark next token m d : ℕ) → IsPassed members uses stack watermark next token → IsNameIn members uses m d → Before next token m → watermark < m
  since_below stack watermark next token m d (none e) here bound = let l = together.behind m d d here (itself refl) in omega arith
  since_below stack watermark next token m d (last n c name top less le ahead) here bound = let l : n ≤ m = bound n le ahead in omega arith

  fresh_below : (old new : List ℕ) (since watermark next token m d : ℕ) → IsPassed members uses old since next token → IsNameIn members uses m d → Before next token m → Enters blocks d old since new watermark → watermark < m
  fresh_below old new since watermark next token m d p here bound e = elim e.last [
    | inl same ↦ (let l : since < m = since_below old since next token m d p here bound in omega arith)
    | inr now ↦ (let l = together.behind m d d here (itself refl) in omega arith)
  ]

module _ (blocks : List Block) (members : List Member) (uses : List Used) (s : Bindings) (token : ℕ) (walk : IsOnWalk blocks members uses s token) where
  abbrev stack : List ℕ
  stack = s.«open».stack.items

  abbrev watermark : ℕ
  watermark = s.«open».watermark

  -- the next member
  module _ (d : Member) (block : ℕ) (within : s.next < length members) (placed : (get_or members s.next d).place ≡ locations.Block block) where
    at : slice_get members s.next ≡ Some (get_or members s.next d)
    at = slice_get-get_or members s.next d within

    name : IsNameIn members uses (get_or members s.next d).number block
    name = member (get_or members s.next d) (contains_slice members s.next (get_or members s.next d) at) placed refl

    bound : (n : ℕ) → n ≤ token → ((k : ℕ) (x : Member) → s.next ≤ k → slice_get members k ≡ Some x → n ≤ x.number) → n ≤ (get_or members s.next d).number
    bound n le ahead = ahead s.next (get_or members s.next d) (omega arith) at

    pub may_member : IsIncreasingBy (λ (b : Block). b.first) blocks → IsOpen blocks s.«open».stack.items s.«open».watermark → MayEnter blocks s.«open».stack.items s.«open».watermark block
    may_member sorted opens = may_by blocks members uses walk.together stack watermark s.next token (get_or members s.next d).number block sorted opens walk.passed name bound

    pub way_bound : (t : Bindings) (scope_stack : ScopeStack) → IsIncreasingBy (λ (m : Member). m.number) members → ((m : Member) → slice_get members s.next ≡ Some m → m.number ≤ token) → Enters blocks block s.«open».stack.items s.«open».watermark scope_stack.stack.items scope_stack.watermark
        → t.«open» ≡ scope_stack → t.next ≡ s.next + 1 → IsOnWalk blocks members uses t token
    way_bound t scope_stack up cursor e is_open is_next = record {
      together = walk.together;
      passed = subst (λ (o : ScopeStack). IsPassed members uses o.stack.items o.watermark t.next token) (sym is_open)
          (subst (λ (j : ℕ). IsPassed members uses scope_stack.stack.items scope_stack.watermark j token) (sym is_next)
          (last (get_or members s.next d).number block name e.innermost
          (fresh_below blocks members uses walk.together stack scope_stack.stack.items watermark scope_stack.watermark s.next token (get_or members s.next d).number block walk.passed name bound e)
          (cursor (get_or members s.next d) at)
          (λ k m le there. (let l : (get_or members s.next d).number < m.number = up s.next k (get_or members s.next d) m (omega arith) at there in omega arith))));
    }

  pub way_field : (t : Bindings) → t.«open» ≡ s.«open» → t.next ≡ s.next + 1 → IsOnWalk blocks members uses t token
  way_field t is_open is_next = record {
    together = walk.together;
    passed = subst (λ (o : ScopeStack). IsPassed members uses o.stack.items o.watermark t.next token) (sym is_open)
        (subst (λ (j : ℕ). IsPassed members uses s.«open».stack.items s.«open».watermark j token) (sym is_next) (later walk.passed));
  }
    where
      later : IsPassed members uses s.«open».stack.items s.«open».watermark s.next token → IsPassed members uses s.«open».stack.items s.«open».watermark (s.next + 1) token
      later (none e) = none e
      later (last n c name top less le ahead) = last n c name top less le (λ k m l there. ahead k m (omega arith) there)

  -- a use at the token
  module _ (block : ℕ) (here : IsNameIn members uses token block) where
    pub may_use : IsIncreasingBy (λ (b : Block). b.first) blocks → IsOpen blocks s.«open».stack.items s.«open».watermark → MayEnter blocks s.«open».stack.items s.«open».watermark block
    may_use sorted opens = may_by blocks members uses walk.together stack watermark s.next token token block sorted opens walk.passed here (λ n le ahead. le)

    pub way_used : (t : Bindings) (scope_stack : ScopeStack) (later : ℕ) → token ≤ later → ((k : ℕ) (m : Member) → s.next ≤ k → slice_get members k ≡ Some m → token ≤ m.number) → Enters blocks block s.«open».stack.items s.«open».watermark scope_stack.stack.items scope_stack.watermark
        → t.«open» ≡ scope_stack → t.next ≡ s.next → IsOnWalk blocks members uses t later
    way_used t scope_stack later le behind e is_open is_next = record {
      together = walk.together;
      passed = subst (λ (o : ScopeStack). IsPassed members uses o.stack.items o.watermark t.next later) (sym is_open)
          (subst (λ (j : ℕ). IsPassed members uses scope_stack.stack.items scope_stack.watermark j later) (sym is_next)
          (last token block here e.innermost (fresh_below blocks members uses walk.together stack scope_stack.stack.items watermark scope_stack.watermark s.next token token block walk.passed here (λ n l ahead. l) e) le behind));
    }

-- before the first name
pub way_begun : (blocks : List Block) (members : List Member) (uses : List Used) (s : Bindings) (token : ℕ) → AreContiguous blocks members uses → s.«open».watermark ≡ 0 → IsOnWalk blocks members uses s token
way_begun blocks members uses s token t e = record { together = t; passed = none e }
