-- A scheduler with one more claimed module.
use Rattle.std.proofs.Common.{◌≡◌, ◌<◌, ℕ, Bool, true, List, length, set, sym, ap, ◌∙◌, subst, arith, inl, inr}
use Rattle.std.specs.Prelude.{◌↔◌, Option, slice_index}
use Rattle.std.proofs.lemmas.Bool.{cases_eq}
use Rattle.std.proofs.lemmas.List.{get_or-set_same, get_or-set_other, length-set}
use Rattle.work_board.specs.declared.state.State.{State}
use Rattle.work_board.specs.declared.state.State.TheVariants.{Waiting, Free, Claimed}
use Rattle.work_board.specs.Graphs.{list_at, IsGraph, Modules}
use Rattle.work_board.specs.Cores.{has_entry}
use Rattle.work_board.specs.Marks.{marked, IsReachedBy}
use Rattle.work_board.specs.Keeping.{state_at, taken, IsValidBoard, IsStateOf}
use Rattle.work_board.proofs.Claiming.{told_zero}
use Rattle.work_board.proofs.Reaching.{meets}

module _ {E : Type 0} (is_of : List ℕ → E → Type 0) (g : Modules) (waiting : List ℕ) (states : List State) (reached : List (List Bool)) (spare : List Bool) (entries : List (Option E)) (kept : IsValidBoard is_of g waiting states reached spare entries) (n : ℕ) (within : n < length states) (free : state_at states n ≡ Free) where
  below : n < length g.names
  below = let size = kept.states_size in omega arith

  none_open : slice_index waiting n ≡ 0
  none_open = told_zero (state_at states n) (slice_index waiting n) (has_entry entries n) (kept.fits_state n below) (λ (f : state_at states n ≡ Waiting). cc)

  told_held : IsStateOf Claimed (slice_index waiting n) (has_entry entries n)
  told_held = subst (λ (s : State). IsStateOf s (slice_index waiting n) (has_entry entries n)) free (kept.fits_state n below)

  held_here : state_at (set states n Claimed) n ≡ Claimed
  held_here = get_or-set_same states n Claimed Waiting within

  held_away : (m : ℕ) → (m ≡ n → ⊥) → state_at (set states n Claimed) m ≡ state_at states m
  held_away m other = get_or-set_other states n m Claimed Waiting other

  pub held_kept : IsGraph g → (reached' : List (List Bool)) (spare' : List Bool)
      → length reached' ≡ length reached → length spare' ≡ length spare
      → ((m : ℕ) → (m ≡ n → ⊥) → list_at reached' m ≡ list_at reached m)
      → ((v : ℕ) → v < length spare → (marked (list_at reached' n) v ≡ true) ↔ IsReachedBy reached (list_at g.imports n) v)
      → length (list_at reached' n) ≡ length spare
      → IsValidBoard is_of g waiting (set states n Claimed) reached' spare' entries
  held_kept graph reached' spare' r_size p_size others filled long = record {
    entries_size = kept.entries_size;
    waiting_size = kept.waiting_size;
    states_size = length-set states n Claimed ∙ kept.states_size;
    reached_size = r_size ∙ kept.reached_size;
    spare_size = p_size ∙ kept.spare_size;
    width = λ m lt. elim (cases_eq m n) [
      | inl same ↦ ap (λ k. length (list_at reached' k)) same ∙ long ∙ kept.spare_size
      | inr other ↦ ap length (others m other) ∙ kept.width m lt
    ];
    count_open = kept.count_open;
    fits_state = λ m lt. elim (cases_eq m n) [
      | inl same ↦ rw (same, held_here) told_held
      | inr other ↦ rw (held_away m other) (kept.fits_state m lt)
    ];
    own = kept.own;
    flags = λ m v lt lv is_claimed_or_delivered. elim (cases_eq m n) [
      | inl same ↦
          let size = kept.spare_size in
          let met = filled v (omega arith) in
          let reaches = meets is_of g waiting states reached spare entries kept graph n below none_open v lv in
          rw same ((λ mark. reaches.0 (met.0 mark)), (λ chain. met.1 (reaches.1 chain)))
      | inr other ↦
          let before : taken (state_at states m) ≡ true = sym (ap taken (held_away m other)) ∙ is_claimed_or_delivered in
          rw (others m other) (kept.flags m v lt lv before)
    ];
  }
