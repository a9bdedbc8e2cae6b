-- Two graphs with equal edge relations have equal cycles.
use Rattle.std.proofs.Common.{ℕ, List, [], ◌∷◌, Bool}
use Rattle.std.specs.Prelude.{◌↔◌}
use Rattle.digraph.specs.Chains.{IsAcyclic, IsChain}
use Rattle.digraph.specs.Cycle.{ClosesAt, EachLeadsToMember, IsCycleCore, IsSmallestSuccessor, IsWalk, IsCanonicalCycle}

abbrev pub AreSame : (ℕ → ℕ → Type 0) → (ℕ → ℕ → Type 0) → Type 0
AreSame G H = (m n : ℕ) → G m n ↔ H m n

each_as : (G H : ℕ → ℕ → Type 0) → ((m n : ℕ) → G m n → H m n) → (s : ℕ → Bool) → EachLeadsToMember G s → EachLeadsToMember H s
each_as G H to s each v h = let w = each v h in (w.0, to v w.0 w.1, w.2)

module _ (G H : ℕ → ℕ → Type 0) (same : AreSame G H) where
  endless_as : (s : ℕ → Bool) → IsCycleCore G s → IsCycleCore H s
  endless_as s k = record {
    each = each_as G H (λ m n. (same m n).0) s k.each;
    greatest = λ t each. k.greatest t (each_as H G (λ m n. (same m n).1) t each);
  }

  next_as : (s : ℕ → Bool) (v w : ℕ) → IsSmallestSuccessor G s v w → IsSmallestSuccessor H s v w
  next_as s v w n = record {
    leads = (same v w).0 n.leads;
    member = n.member;
    least = λ u leads. n.least u ((same v u).1 leads);
  }

  walk_as : (s : ℕ → Bool) (walk : List ℕ) → IsWalk G s walk → IsWalk H s walk
  walk_as s walk w = record {
    begins = w.begins;
    goes_on = λ k l. next_as s _ _ (w.goes_on k l);
    once = w.once;
  }

  back_as : (s : ℕ → Bool) (walk : List ℕ) (place : ℕ) → ClosesAt G s walk place → ClosesAt H s walk place
  back_as s walk place c = record {
    walked = walk_as s walk c.walked;
    place = c.place;
    back = λ n e. next_as s _ _ (c.back n e);
  }

  pub names_as : (cycle : List ℕ) → IsCanonicalCycle G cycle → IsCanonicalCycle H cycle
  names_as cycle c = record {
    core_nodes = c.core_nodes;
    is_core = endless_as c.core_nodes c.is_core;
    walk = c.walk;
    place = c.place;
    closes_at = back_as c.core_nodes c.walk c.place c.closes_at;
    rotated = c.rotated;
  }

  pub chain_as : (m : ℕ) (more : List ℕ) (b : ℕ) → IsChain H m more b → IsChain G m more b
  chain_as m [] b e = e
  chain_as m (n ∷ more) b c = ((same m n).1 c.0, chain_as n more b c.1)

  pub acyclic_as : IsAcyclic G → IsAcyclic H
  acyclic_as none m n leads (more, chain) = none m n ((same m n).1 leads) (more, chain_as n more m chain)
