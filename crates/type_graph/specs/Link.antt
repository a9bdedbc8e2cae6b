-- The end of a type: the type that it denotes through names, and through pointers too if `pointers` is true.
use Rattle.std.specs.Prelude.{◌≡◌, ℕ, zero, suc, List, Bool, true, Option, Some, None, if◌then◌else◌, IfSome, IfNone}
use Rattle.std.specs.List.{All}
use Rattle.type_graph.specs.declared.memo.MemoTable.{MemoTable}
use Rattle.type_graph.specs.declared.shape.Shape.{Shape}
use Rattle.type_graph.specs.declared.shape.Shape.TheVariants as shapes
use Rattle.type_graph.specs.Memoized.{IsMemoized}

-- one step: the type that a name denotes, or the target of a pointer if pointers are followed
abbrev pub successor : {N D R : Type 0} → Bool → Shape N D R → Option N
successor pointers (shapes.Array n) = None
successor pointers (shapes.Pointer n) = if pointers then Some n else None
successor pointers (shapes.Record r) = None
successor pointers shapes.Procedure = None
successor pointers (shapes.Named d n) = Some n
successor pointers shapes.Unknown = None

module _ {N D R : Type 0} (shape : N → Shape N D R) (pointers : Bool) where
  -- from a type in k steps to a type without a further step
  pub data TypeLeads : ℕ → N → N → Type 0 where
    ends : {n : N} → successor pointers (shape n) ≡ None → TypeLeads zero n n
    on : {k : ℕ} {n m last : N} → successor pointers (shape n) ≡ Some m → TypeLeads k m last → TypeLeads (suc k) n last

  -- from a type in any number of steps to a type without a further step
  pub record TypeLeadsTo (n last : N) : Type 0 where
    pub steps : ℕ
    pub leads : TypeLeads steps n last

  -- the type at which the steps end, or none if they form a cycle
  pub record IsTypeEnd (n : N) (end : Option N) : Type 0 where
    pub some : IfSome end (TypeLeadsTo n)
    pub none : IfNone end ((last : N) → TypeLeadsTo n last → ⊥)

  module _ (same : D → D → Bool) where
    -- the end of the type that a declaration gives, for every declaration equal to this one
    abbrev pub IsTypeEndOf : Option N → D → Type 0
    IsTypeEndOf end d = (c : D) (n m : N) → same d c ≡ true → shape n ≡ shapes.Named c m → IsTypeEnd m end

    -- `end` is the end of the type n, and also of the types that the declarations in the list `visited` give
    pub record AreEnded (n : N) (visited : List D) (end : Option N) : Type 0 where
      pub is : IsTypeEnd n end
      pub each : All (IsTypeEndOf end) visited

    -- each memoized end is the end of the type that its declaration gives
    pub record AreTypeEnds (memo : MemoTable D (Option N)) : Type 0 where
      pub each : (d : D) (end : Option N) → IsMemoized same memo d end → (n m : N) → shape n ≡ shapes.Named d m → IsTypeEnd m end
