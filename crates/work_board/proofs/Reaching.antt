-- The modules that a claimed module reaches.
use Rattle.std.proofs.Common.{◌≡◌, ◌<◌, ℕ, Bool, true, false, List, [], ◌∷◌, length, refl, sym, ap, ◌∙◌, subst, arith, inl, inr}
use Rattle.std.specs.Prelude.{◌↔◌, Option, slice_index}
use Rattle.work_board.specs.declared.state.State.{State}
use Rattle.work_board.specs.declared.state.State.TheVariants.{Waiting}
use Rattle.std.specs.List.{flat_map}
use Rattle.work_board.specs.Graphs.{list_at, IsChain, IsGraph, IsNameOrder, ImportsModule, Modules, Reaches}
use Rattle.work_board.specs.Cores.{has_entry, is_claimed, share_at, AreShares}
use Rattle.work_board.specs.Marks.{marked, IsReachedBy}
use Rattle.work_board.specs.Keeping.{state_at, taken, IsValidBoard}
use Rattle.work_board.proofs.Claiming.{claimed_is, core_of, stated_within, told_delivered, told_zero}
use Rattle.work_board.proofs.Counting.{open_zero}
use Rattle.work_board.proofs.Delivering.{member_below}

module _ {E : Type 0} (is_of : List ℕ → E → Type 0) (g : Modules) (waiting : List ℕ) (states : List State) (reached : List (List Bool)) (spare : List Bool) (entries : List (Option E)) (kept : IsValidBoard is_of g waiting states reached spare entries) where
  pub taken_zero : (n : ℕ) → taken (state_at states n) ≡ true → (n < length g.names) × (slice_index waiting n ≡ 0)
  taken_zero n is_claimed_or_delivered =
      let waits : (state_at states n ≡ Waiting) → ⊥ = λ (e : state_at states n ≡ Waiting). let f : taken (state_at states n) ≡ false = ap taken e in cc in
      let within : n < length states = stated_within states n waits in
      let size = kept.states_size in
      (omega arith, told_zero (state_at states n) (slice_index waiting n) (has_entry entries n) (kept.fits_state n (omega arith)) waits)

  imports_of : (n : ℕ) → n < length g.names → slice_index waiting n ≡ 0 → (w : ℕ) → ImportsModule g.imports n w → has_entry entries w ≡ true
  imports_of n below zero w h = open_zero entries (list_at g.imports n) (sym (kept.count_open n below) ∙ zero) w h

  entry_taken : IsGraph g → (m w : ℕ) → ImportsModule g.imports m w → has_entry entries w ≡ true → taken (state_at states w) ≡ true
  entry_taken graph m w leads there =
      ap taken (told_delivered (state_at states w) (slice_index waiting w) (has_entry entries w) (kept.fits_state w (member_below g graph m w leads)) there)

  chain_there : IsGraph g → (n v : ℕ) (more : List ℕ) → taken (state_at states n) ≡ true → IsChain g.imports n more v → has_entry entries v ≡ true
  chain_there graph n v [] is_claimed_or_delivered leads = let z = taken_zero n is_claimed_or_delivered in imports_of n z.0 z.1 v leads
  chain_there graph n v (w ∷ more) is_claimed_or_delivered chain =
      let z = taken_zero n is_claimed_or_delivered in
      chain_there graph w v more (entry_taken graph n w chain.0 (imports_of n z.0 z.1 w chain.0)) chain.1

  pub reaches_there : IsGraph g → (abandoned : Bool) (n v : ℕ) → is_claimed (core_of entries states abandoned) n ≡ true → Reaches g.imports n v → has_entry entries v ≡ true
  reaches_there graph abandoned n v claimed r =
      chain_there graph n v r.0 (sym (claimed_is is_of g waiting states reached spare entries kept abandoned n) ∙ claimed) r.1

  -- the flags of an import that is delivered
  import_marks : IsGraph g → (n : ℕ) → n < length g.names → slice_index waiting n ≡ 0 → (w : ℕ) → ImportsModule g.imports n w → (v : ℕ) → v < length g.names
      → (marked (list_at reached w) v ≡ true) ↔ Reaches g.imports w v
  import_marks graph n below zero w leads v lt =
      kept.flags w v (member_below g graph n w leads) lt (entry_taken graph n w leads (imports_of n below zero w leads))

  from_chain : IsGraph g → (n : ℕ) → n < length g.names → slice_index waiting n ≡ 0 → (v : ℕ) → v < length g.names → (more : List ℕ) → IsChain g.imports n more v → IsReachedBy reached (list_at g.imports n) v
  from_chain graph n below zero v lt [] leads = (v, leads, inl refl)
  from_chain graph n below zero v lt (w ∷ more) chain = (w, chain.0, inr ((import_marks graph n below zero w chain.0 v lt).1 (more, chain.1)))

  -- the flags of a module without undelivered imports
  pub meets : IsGraph g → (n : ℕ) → n < length g.names → slice_index waiting n ≡ 0 → (v : ℕ) → v < length g.names → IsReachedBy reached (list_at g.imports n) v ↔ Reaches g.imports n v
  meets graph n below zero v lt = (
    (λ met. elim met.2 [
      | inl same ↦ let P : ℕ → Type 0 = ImportsModule g.imports n in ([], subst P same met.1)
      | inr mark ↦
          let r = (import_marks graph n below zero met.0 met.1 v lt).0 mark in
          (met.0 ∷ r.0, (met.1, r.1))
    ]),
    (λ r. from_chain graph n below zero v lt r.0 r.1),
  )

  -- the shared parts that the flags of a claimed module select
  pub shares_told : {X : Type 0} (f : E → X) → IsGraph g → (abandoned : Bool) (n : ℕ) → taken (state_at states n) ≡ true → (order : List ℕ) → IsNameOrder g.names order → (parts : List X) → parts ≡ flat_map (share_at f (list_at reached n) entries) order
      → AreShares f g (core_of entries states abandoned) n parts
  shares_told f graph abandoned n is_claimed_or_delivered order by_name parts are =
      let z = taken_zero n is_claimed_or_delivered in
      let size = kept.entries_size in
      record {
        order = order;
        by_name = by_name;
        flags = list_at reached n;
        reached = λ v lt. kept.flags n v z.0 (omega arith) is_claimed_or_delivered;
        there = λ v r. chain_there graph n v r.0 is_claimed_or_delivered r.1;
        parts_are = are;
      }
