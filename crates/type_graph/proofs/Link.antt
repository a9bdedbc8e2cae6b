-- Types that lead to others.
use Rattle.std.specs.Prelude.{IfSome}
use Rattle.std.proofs.Common.{[], ◌≡◌, ℕ, zero, suc, ◌+◌, List, Bool, true, false, cond, Option, Some, None, refl, sym, ap, ◌∙◌, subst, arith, ◌⊎◌, inl, inr, ◌-◌, ◌*◌, ◌^◌, ◌<◌}
use Rattle.std.proofs.Math.Nat.{mul_comm}
use Rattle.std.proofs.lemmas.Nat.{mul-add-lt}
use Rattle.std.specs.List.{All, list_any}
use Rattle.std.proofs.lemmas.List.Elements.{All-push}
use Rattle.std.proofs.lemmas.List.Folds.{Any-from_list_any}
use Rattle.type_graph.specs.declared.memo.MemoTable.{MemoTable}
use Rattle.type_graph.specs.declared.shape.Shape.{Shape}
use Rattle.type_graph.specs.declared.shape.Shape.TheVariants as shapes
use Rattle.type_graph.specs.Link.{successor, ends, on, AreEnded, AreTypeEnds, IsTypeEnd, IsTypeEndOf, TypeLeads, TypeLeadsTo}
use Rattle.type_graph.specs.Memoized.{IsMemoized, Adds}
use Rattle.type_graph.specs.Progress.{marked, unmarked, IsVisited}

-- fewer declarations are left, whatever the depth
fewer : (k j h x y : ℕ) → k < j → x < h → k * h + x < j * h + y
fewer k j h x y l m =
    let s : k * h + x < h * j = mul-add-lt k h x j l m in
    let t : h * j ≡ j * h = mul_comm h j in
    omega (arith, s, t)

-- so each name makes the measure smaller
pub passed_less : (before after h x y : ℕ) → before < after → after < 2 ^ 65 → x < h → (2 ^ 65 - after) * h + x < (2 ^ 65 - before) * h + y
passed_less before after h x y progresses few deep = fewer (2 ^ 65 - after) (2 ^ 65 - before) h x y (omega (arith, progresses, few)) deep

module _ {N D R : Type 0} (shape : N → Shape N D R) (pointers : Bool) where
  -- a type leads to one, in one number of steps
  pub leads_once : (j k : ℕ) (n x y : N) → TypeLeads shape pointers j n x → TypeLeads shape pointers k n y → (j ≡ k) × (x ≡ y)
  leads_once j k n x y (ends e) (ends f) = (refl, refl)
  leads_once j k n x y (ends e) (on {m = m} f q) = absurd (let g : None ≡ Some m = sym e ∙ f in cc)
  leads_once j k n x y (on {m = m} e p) (ends f) = absurd (let g : None ≡ Some m = sym f ∙ e in cc)
  leads_once j k n x y (on {k = i} {m = u} e p) (on {k = l} {m = v} f q) =
      let g : Some u ≡ Some v = sym e ∙ f in
      let h : u ≡ v = cc in
      let r = leads_once i l u x y p (subst (λ (w : N). TypeLeads shape pointers l w y) (sym h) q) in
      (ap suc r.0, r.1)

  pub leads_to_once : (n x y : N) → TypeLeadsTo shape pointers n x → TypeLeadsTo shape pointers n y → x ≡ y
  leads_to_once n x y p q = (leads_once p.steps q.steps n x y p.leads q.leads).1

  -- k steps from one type to another
  pub data Passes : ℕ → N → N → Type 0 where
    none : {n : N} → Passes zero n n
    more : {k : ℕ} {n m last : N} → Passes k n m → successor pointers (shape m) ≡ Some last → Passes (suc k) n last

  -- what the last leads to the first leads to
  back : (s k : ℕ) (n m last : N) → Passes s n m → TypeLeads shape pointers k m last → TypeLeadsTo shape pointers n last
  back s k n m last none l = record { steps = k; leads = l }
  back s k n m last (more {k = j} {m = x} p e) l = back j (suc k) n x last p (on e l)

  -- the remaining steps, k fewer
  pub record Rest (s k : ℕ) (m last : N) : Type 0 where
    pub steps : ℕ
    pub leads : TypeLeads shape pointers steps m last
    pub fewer : steps + s ≡ k

  rest_of : (j k : ℕ) (x m last : N) → successor pointers (shape x) ≡ Some m → TypeLeads shape pointers k x last → Rest 1 k m last
  rest_of j k x m last e (ends f) = absurd (let g : None ≡ Some m = sym f ∙ e in cc)
  rest_of j k x m last e (on {k = i} {m = y} f l) =
      let g : Some y ≡ Some m = sym f ∙ e in
      let h : y ≡ m = cc in
      record { steps = i; leads = subst (λ (w : N). TypeLeads shape pointers i w last) h l; fewer = omega arith }

  pub forth : (s k : ℕ) (n m last : N) → Passes s n m → TypeLeads shape pointers k n last → Rest s k m last
  forth s k n m last none l = record { steps = k; leads = l; fewer = omega arith }
  forth s k n m last (more {k = j} {m = x} p e) l =
      let f = forth j k n x last p l in
      let g = rest_of j f.steps x m last e f.leads in
      let a : f.steps + j ≡ k = f.fewer in
      let b : g.steps + 1 ≡ f.steps = g.fewer in
      record { steps = g.steps; leads = g.leads; fewer = omega (arith, a, b) }

  -- a type on a cycle has no end
  round : (s : ℕ) (n last : N) → Passes (suc s) n n → TypeLeadsTo shape pointers n last → ⊥
  round s n last p l =
      let r = forth (suc s) l.steps n n last p l.leads in
      let a : r.steps + suc s ≡ l.steps = r.fewer in
      let b : r.steps ≡ l.steps = (leads_once r.steps l.steps n last last r.leads l.leads).0 in
      omega (arith, a, b)

  pub round_end : (s : ℕ) (n : N) → Passes (suc s) n n → IsTypeEnd shape pointers n None
  round_end s n p = record { some = tt; none = λ last l. round s n last p l }

  pub here_end : (n : N) → successor pointers (shape n) ≡ None → IsTypeEnd shape pointers n (Some n)
  here_end n e = record { some = record { steps = zero; leads = ends e }; none = tt }

  -- the end of a type to which this one leads is its end
  pub same_end : (s : ℕ) (n m : N) (end : Option N) → Passes s n m → IsTypeEnd shape pointers m end → IsTypeEnd shape pointers n end
  same_end s n m (Some last) p e = record { some = back s e.some.steps n m last p e.some.leads; none = tt }
  same_end s n m None p e = record { some = tt; none = λ last l. (let r = forth s l.steps n m last p l.leads in e.none last (record { steps = r.steps; leads = r.leads })) }

  module _ (same : D → D → Bool) (named : (n m x y : N) (c d : D) → shape n ≡ shapes.Named c x → shape m ≡ shapes.Named d y → same c d ≡ true → x ≡ y) where
    -- a declaration was visited on the way to this type
    pub record IsBehind (node : N) (d : D) : Type 0 where
      pub of : N
      pub next : N
      pub is : shape of ≡ shapes.Named d next
      pub steps : ℕ
      pub passes : Passes steps next node

    -- a walk from the first type has come to the second, and passed these declarations
    pub record Walks (from node : N) (visited : List D) : Type 0 where
      pub steps : ℕ
      pub passes : Passes steps from node
      pub each : All (IsBehind node) visited

    pub walks_nowhere : (from : N) (visited : List D) → visited ≡ [] → Walks from from visited
    walks_nowhere from visited e = record { steps = zero; passes = none; each = subst (λ (ds : List D). All (IsBehind from) ds) (sym e) (λ k d l. absurd (omega (arith, l))) }

    behind_on : (node next : N) → successor pointers (shape node) ≡ Some next → (d : D) → IsBehind node d → IsBehind next d
    behind_on node next e d p = record { of = p.of; next = p.next; is = p.is; steps = suc p.steps; passes = more p.passes e }

    -- one pointer more
    pub walks_on : (from node next : N) (visited : List D) → successor pointers (shape node) ≡ Some next → Walks from node visited → Walks from next visited
    walks_on from node next visited e w = record { steps = suc w.steps; passes = more w.passes e; each = λ k d l. behind_on node next e _ (w.each k d l) }

    -- one name more
    pub walks_through : (from node next : N) (before after : List D) (d : D) → shape node ≡ shapes.Named d next → IsVisited d before after → Walks from node before → Walks from next after
    walks_through from node next before after d is (marked e) w =
        let led : successor pointers (shape node) ≡ Some next = ap (successor pointers) is in
        let here : IsBehind next d = record { of = node; next = next; is = is; steps = zero; passes = none } in
        record {
          steps = suc w.steps;
          passes = more w.passes led;
          each = subst (λ (ds : List D). All (IsBehind next) ds) (sym e) (All-push (IsBehind next) before d (λ k c l. behind_on node next led _ (w.each k c l)) here);
        }
    walks_through from node next before after d is (unmarked e) w =
        subst (λ (ds : List D). Walks from next ds) (sym e) (walks_on from node next before (ap (successor pointers) is) w)

    passed_ends : (node : N) (end : Option N) → IsTypeEnd shape pointers node end → (d : D) → IsBehind node d → IsTypeEndOf shape pointers same end d
    passed_ends node end e d p c n m is_same is =
        let one : p.next ≡ m = named p.of n p.next m d c p.is is is_same in
        subst (λ (x : N). IsTypeEnd shape pointers x end) one (same_end p.steps p.next node end p.passes e)

    -- the end of the last type is the end of all visited declarations
    pub ended : (from node : N) (visited : List D) (end : Option N) → Walks from node visited → IsTypeEnd shape pointers node end → AreEnded shape pointers same from visited end
    ended from node visited end w e = record { is = same_end w.steps from node end w.passes e; each = λ k d l. passed_ends node end e _ (w.each k d l) }

    -- a type that leads no further
    pub ended_here : (from node : N) (visited : List D) → successor pointers (shape node) ≡ None → Walks from node visited → AreEnded shape pointers same from visited (Some node)
    ended_here from node visited e w = ended from node visited (Some node) w (here_end node e)

    -- a name whose declaration is memoized
    pub ended_kept : (memo : MemoTable D (Option N)) (from node next : N) (visited : List D) (d : D) (o : Option (Option N)) (end : Option N) → AreTypeEnds shape pointers same memo → shape node ≡ shapes.Named d next →
        o ≡ Some end → IfSome o (IsMemoized same memo d) → Walks from node visited → AreEnded shape pointers same from visited end
    ended_kept memo from node next visited d o end are e is listed w =
        let there : IsMemoized same memo d end = subst (λ (v : Option (Option N)). IfSome v (IsMemoized same memo d)) is listed in
        ended from node visited end w (same_end 1 node next end (more none (ap (successor pointers) e)) (are.each d end there node next e))

    -- a declaration that the walk arrives at again
    pub ended_again : (from node next : N) (visited : List D) (d : D) → shape node ≡ shapes.Named d next → list_any (same d) visited ≡ true → Walks from node visited → AreEnded shape pointers same from visited None
    ended_again from node next visited d e among w =
        let a = Any-from_list_any (same d) visited among in
        let p : IsBehind node a.1 = subst (IsBehind node) a.3 (w.each a.0 a.1 a.2) in
        let one : next ≡ p.next = named node p.of next p.next d a.1 e p.is a.4 in
        let led : successor pointers (shape node) ≡ Some next = ap (successor pointers) e in
        let goes_round : Passes (suc p.steps) next next = subst (λ (x : N). Passes (suc p.steps) x next) (sym one) (more p.passes led) in
        ended from node visited None w (same_end 1 node next None (more none led) (round_end p.steps next goes_round))

  -- the table stores the end of one more declaration, or nothing
  pub keeps_more : (same : D → D → Bool) (old new : MemoTable D (Option N)) (d : D) (end : Option N) → AreTypeEnds shape pointers same old → Adds same d end old new → IsTypeEndOf shape pointers same end d → AreTypeEnds shape pointers same new
  keeps_more same old new d end are adds is = record { each = λ c memo listed. at c memo (adds c memo listed) }
    where
      at : (c : D) (memo : Option N) → IsMemoized same old c memo ⊎ ((same d c ≡ true) × (end ≡ memo)) → (n m : N) → shape n ≡ shapes.Named c m → IsTypeEnd shape pointers m memo
      at c memo (inl listed) n m h = are.each c memo listed n m h
      at c memo (inr one) n m h = subst (λ (o : Option N). IsTypeEnd shape pointers m o) one.1 (is c n m one.0 h)

  pub keeps_none : (same : D → D → Bool) (memo : MemoTable D (Option N)) → ((d : D) (end : Option N) → IsMemoized same memo d end → ⊥) → AreTypeEnds shape pointers same memo
  keeps_none same memo empty = record { each = λ d end listed. absurd (empty d end listed) }

-- one of these four shapes leads no further
pub no_further : {N D R : Type 0} (pointers : Bool) (s : Shape N D R) → (((x : N) × s ≡ shapes.Array x) ⊎ (((x : R) × s ≡ shapes.Record x) ⊎ ((s ≡ shapes.Procedure) ⊎ (s ≡ shapes.Unknown)))) → successor pointers s ≡ None
no_further pointers s (inl a) = ap (successor pointers) a.1
no_further pointers s (inr (inl a)) = ap (successor pointers) a.1
no_further pointers s (inr (inr (inl a))) = ap (successor pointers) a
no_further pointers s (inr (inr (inr a))) = ap (successor pointers) a

-- a pointer is no step either if pointers aren't followed
pub not_followed : {N D R : Type 0} (pointers : Bool) (s : Shape N D R) (m : N) → pointers ≡ false → s ≡ shapes.Pointer m → successor pointers s ≡ None
not_followed pointers s m e is = ap (successor pointers) is ∙ ap (λ (b : Bool). cond b (Some m) None) e

pub followed : {N D R : Type 0} (pointers : Bool) (s : Shape N D R) (m : N) → pointers ≡ true → s ≡ shapes.Pointer m → successor pointers s ≡ Some m
followed pointers s m e is = ap (successor pointers) is ∙ ap (λ (b : Bool). cond b (Some m) None) e
