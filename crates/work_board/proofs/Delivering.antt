-- A scheduler with one more entry.
use Rattle.std.proofs.Common.{◌≡◌, ◌<◌, ◌≤◌, ◌+◌, ℕ, zero, suc, Bool, true, false, List, length, map, set, refl, sym, ap, ◌∙◌, subst, arith, inl, inr}
use Rattle.std.specs.Prelude.{Option, None, Some, is_some, slice_index}
use Rattle.std.proofs.lemmas.Bool.{cases_eq}
use Rattle.std.proofs.lemmas.List.{ext_get_or, get_or-set_same, get_or-set_other, length-map, length-set}
use Rattle.std.proofs.Math.ListN.{get_or-map}
use Rattle.work_board.specs.declared.state.State.{State}
use Rattle.work_board.specs.declared.state.State.TheVariants.{Waiting, Free, Claimed, Delivered}
use Rattle.work_board.specs.Graphs.{list_at, occurrences_in, IsGraph, ImportsModule, Modules}
use Rattle.work_board.specs.Cores.{entry_at, has_entry}
use Rattle.work_board.specs.Keeping.{state_after_delivery, state_at, taken, IsFit, IsValidBoard, IsStateOf}
use Rattle.work_board.proofs.Claiming.{told_zero, told_none}
use Rattle.work_board.proofs.Counting.{open_delivered}

pub told_freed : (s : State) (k less : ℕ) (there : Bool) → IsStateOf s k there → less ≤ k → IsStateOf (state_after_delivery s less) less there
told_freed Waiting k zero there fits_state le = (refl, fits_state.1)
told_freed Waiting k (suc less) there fits_state le = (omega arith, fits_state.1)
told_freed Free k less there fits_state le = let z = fits_state.0 in (omega arith, fits_state.1)
told_freed Claimed k less there fits_state le = let z = fits_state.0 in (omega arith, fits_state.1)
told_freed Delivered k less there fits_state le = let z = fits_state.0 in (omega arith, fits_state.1)

pub told_fit : (s : State) (k : ℕ) (there : Bool) → IsStateOf s k there → IsFit s k
told_fit Waiting k there fits_state = fits_state.0
told_fit Free k there fits_state = fits_state.0
told_fit Claimed k there fits_state = fits_state.0
told_fit Delivered k there fits_state = fits_state.0

pub taken_freed : (s : State) (k : ℕ) → taken (state_after_delivery s k) ≡ taken s
taken_freed Waiting zero = refl
taken_freed Waiting (suc k) = refl
taken_freed Free k = refl
taken_freed Claimed k = refl
taken_freed Delivered k = refl

pub member_below : (g : Modules) → IsGraph g → (m w : ℕ) → ImportsModule g.imports m w → w < length g.names
member_below g graph m w (k, lt, e) = let P : ℕ → Type 0 = λ x. x < length g.names in subst P e (graph.within m k w lt)

module _ {E : Type 0} (is_of : List ℕ → E → Type 0) (g : Modules) (waiting : List ℕ) (states : List State) (reached : List (List Bool)) (spare : List Bool) (entries : List (Option E)) (kept : IsValidBoard is_of g waiting states reached spare entries) (n : ℕ) (e : E) (within : n < length states) (at_n : state_at states n ≡ Claimed) where
  below : n < length g.names
  below = let size = kept.states_size in omega arith

  entries_below : n < length entries
  entries_below = let size = kept.entries_size in let b = below in omega arith

  pub none_open : slice_index waiting n ≡ 0
  none_open = told_zero (state_at states n) (slice_index waiting n) (has_entry entries n) (kept.fits_state n below) (λ (f : state_at states n ≡ Waiting). cc)

  pub none_there : has_entry entries n ≡ false
  none_there = told_none (state_at states n) (slice_index waiting n) (has_entry entries n) (kept.fits_state n below) (λ (f : state_at states n ≡ Delivered). cc)

  new_there : has_entry (set entries n (Some e)) n ≡ true
  new_there = ap is_some (get_or-set_same entries n (Some e) None entries_below)

  old_there : (m : ℕ) → (m ≡ n → ⊥) → has_entry (set entries n (Some e)) m ≡ has_entry entries m
  old_there m other = ap is_some (get_or-set_other entries n m (Some e) None other)

  taken_same : (waiting' : List ℕ) (states' : List State)
      → ((m : ℕ) → m < length waiting → state_at states' m ≡ state_after_delivery (state_at (set states n Delivered) m) (slice_index waiting' m))
      → (m : ℕ) → m < length waiting → taken (state_at states' m) ≡ taken (state_at states m)
  taken_same waiting' states' fits_state m lt =
      ap taken (fits_state m lt) ∙ taken_freed (state_at (set states n Delivered) m) (slice_index waiting' m) ∙ (elim (cases_eq m n) [
        | inl same ↦ ap (λ k. taken (state_at (set states n Delivered) k)) same ∙ ap taken (get_or-set_same states n Delivered Waiting within) ∙ sym (ap taken at_n) ∙ sym (ap (λ k. taken (state_at states k)) same)
        | inr other ↦ ap taken (get_or-set_other states n m Delivered Waiting other)
      ])

  pub claimed_same : (waiting' : List ℕ) (states' : List State) → length states' ≡ length states
      → ((m : ℕ) → m < length waiting → state_at states' m ≡ state_after_delivery (state_at (set states n Delivered) m) (slice_index waiting' m))
      → map taken states' ≡ map taken states
  claimed_same waiting' states' size fits_state =
      ext_get_or false (map taken states') (map taken states) (length-map states' taken ∙ size ∙ sym (length-map states taken)) (λ m lt.
      let l = length-map states' taken in
      let a = kept.states_size in
      let b = kept.waiting_size in
      get_or-map taken states' m Waiting ∙ taken_same waiting' states' fits_state m (omega arith) ∙ sym (get_or-map taken states m Waiting))

  pub delivered_kept : (waiting' : List ℕ) (states' : List State) (importers : List ℕ)
      → length waiting' ≡ length waiting → length states' ≡ length states
      → ((m : ℕ) → occurrences_in m importers ≡ occurrences_in n (list_at g.imports m))
      → ((m : ℕ) → m < length waiting → slice_index waiting' m + occurrences_in m importers ≡ slice_index waiting m)
      → ((m : ℕ) → m < length waiting → state_at states' m ≡ state_after_delivery (state_at (set states n Delivered) m) (slice_index waiting' m))
      → is_of (list_at g.names n) e
      → IsValidBoard is_of g waiting' states' reached spare (set entries n (Some e))
  delivered_kept waiting' states' importers w_size s_size transposed counts tells own = record {
    entries_size = length-set entries n (Some e) ∙ kept.entries_size;
    waiting_size = w_size ∙ kept.waiting_size;
    states_size = s_size ∙ kept.states_size;
    reached_size = kept.reached_size;
    spare_size = kept.spare_size;
    width = kept.width;
    count_open = λ m lt.
        let a = open_delivered entries n e (list_at g.imports m) entries_below none_there in
        let b = kept.count_open m lt in
        let size = kept.waiting_size in
        omega (arith, a, b, counts m (omega arith), transposed m);
    fits_state = λ m lt.
        let size = kept.waiting_size in
        let count = counts m (omega arith) in
        let tell = tells m (omega arith) in
        elim (cases_eq m n) [
          | inl same ↦
              let at_m : state_at states' m ≡ state_after_delivery Delivered (slice_index waiting' m) = tell ∙ ap (λ k. state_after_delivery (state_at (set states n Delivered) k) (slice_index waiting' m)) same ∙ ap (λ s. state_after_delivery s (slice_index waiting' m)) (get_or-set_same states n Delivered Waiting within) in
              let zero_m : slice_index waiting m ≡ 0 = ap (slice_index waiting) same ∙ none_open in
              let there_m : has_entry (set entries n (Some e)) m ≡ true = ap (has_entry (set entries n (Some e))) same ∙ new_there in
              let z : slice_index waiting' m ≡ 0 = omega arith in
              rw (at_m, there_m) (z, refl)
          | inr other ↦
              let at_m : state_at states' m ≡ state_after_delivery (state_at states m) (slice_index waiting' m) = tell ∙ ap (λ s. state_after_delivery s (slice_index waiting' m)) (get_or-set_other states n m Delivered Waiting other) in
              let le : slice_index waiting' m ≤ slice_index waiting m = omega arith in
              rw (at_m, old_there m other) (told_freed (state_at states m) (slice_index waiting m) (slice_index waiting' m) (has_entry entries m) (kept.fits_state m lt) le)
        ];
    own = λ m f is. elim (cases_eq m n) [
      | inl same ↦
          let store : entry_at (set entries n (Some e)) m ≡ Some e = ap (entry_at (set entries n (Some e))) same ∙ get_or-set_same entries n (Some e) None entries_below in
          let equal : e ≡ f = cc in
          let P : E → Type 0 = is_of (list_at g.names m) in
          subst P equal (rw same own)
      | inr other ↦ kept.own m f (sym (get_or-set_other entries n m (Some e) None other) ∙ is)
    ];
    flags = λ m v lt lv is_claimed_or_delivered.
        let size = kept.waiting_size in
        kept.flags m v lt lv (sym (taken_same waiting' states' tells m (omega arith)) ∙ is_claimed_or_delivered);
  }

  pub fits : (m : ℕ) → m < length waiting → IsFit (state_at (set states n Delivered) m) (slice_index waiting m)
  fits m lt =
      let size = kept.waiting_size in
      elim (cases_eq m n) [
        | inl same ↦ rw (same, get_or-set_same states n Delivered Waiting within) none_open
        | inr other ↦ rw (get_or-set_other states n m Delivered Waiting other) (told_fit (state_at states m) (slice_index waiting m) (has_entry entries m) (kept.fits_state m (omega arith)))
      ]

  pub counted : (importers : List ℕ) → ((m : ℕ) → occurrences_in m importers ≡ occurrences_in n (list_at g.imports m)) → (m : ℕ) → m < length waiting → occurrences_in m importers ≤ slice_index waiting m
  counted importers transposed m lt =
      let size = kept.waiting_size in
      let a = open_delivered entries n e (list_at g.imports m) entries_below none_there in
      omega (arith, a, kept.count_open m (omega arith), transposed m)
