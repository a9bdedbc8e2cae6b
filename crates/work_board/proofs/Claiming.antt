-- What the states of a scheduler imply for its core.
use Rattle.std.proofs.Common.{◌≡◌, ◌<◌, ℕ, Bool, true, false, List, length, map, set, refl, sym, ap, ◌∙◌, arith, inl, inr}
use Rattle.std.specs.Prelude.{Option, slice_index}
use Rattle.std.proofs.lemmas.Bool.{cases_lt}
use Rattle.std.proofs.Math.ListN.{get_or-map}
use Rattle.std.proofs.lemmas.List.{get_or_past}
use Rattle.work_board.specs.declared.state.State.{State}
use Rattle.work_board.specs.declared.state.State.TheVariants.{Waiting, Free, Claimed, Delivered}
use Rattle.work_board.specs.declared.claim.Claim.{Claim}
use Rattle.work_board.specs.declared.claim.Claim.TheVariants.{Finished, Module, Later}
use Rattle.work_board.specs.Graphs.{list_at, Modules}
use Rattle.work_board.specs.Cores.{has_entry, is_claimed, Core, IsClaim, IsOver, IsReady}
use Rattle.work_board.specs.Keeping.{undelivered_count, state_at, taken, IsValidBoard, IsChosenClaim, IsStateOf}
use Rattle.work_board.proofs.Counting.{open_zero, open_none}

abbrev pub core_of : {E : Type 0} → List (Option E) → List State → Bool → Core E
core_of entries states abandoned = record { entries = entries; claimed = map taken states; abandoned = abandoned }

pub told_free : (s : State) (k : ℕ) (there : Bool) → IsStateOf s k there → taken s ≡ false → k ≡ 0 → s ≡ Free
told_free Waiting k there fits_state is_not zero = absurd (omega arith)
told_free Free k there fits_state is_not zero = refl
told_free Claimed k there fits_state is_not zero = cc
told_free Delivered k there fits_state is_not zero = cc

pub told_delivered : (s : State) (k : ℕ) (there : Bool) → IsStateOf s k there → there ≡ true → s ≡ Delivered
told_delivered Waiting k there fits_state is_so = cc
told_delivered Free k there fits_state is_so = cc
told_delivered Claimed k there fits_state is_so = cc
told_delivered Delivered k there fits_state is_so = refl

pub told_there : (s : State) (k : ℕ) (there : Bool) → IsStateOf s k there → s ≡ Delivered → there ≡ true
told_there Waiting k there fits_state is_so = cc
told_there Free k there fits_state is_so = cc
told_there Claimed k there fits_state is_so = cc
told_there Delivered k there fits_state is_so = fits_state.1

pub told_none : (s : State) (k : ℕ) (there : Bool) → IsStateOf s k there → (s ≡ Delivered → ⊥) → there ≡ false
told_none Waiting k there fits_state is_not = fits_state.1
told_none Free k there fits_state is_not = fits_state.1
told_none Claimed k there fits_state is_not = fits_state.1
told_none Delivered k there fits_state is_not = absurd (is_not refl)

pub told_zero : (s : State) (k : ℕ) (there : Bool) → IsStateOf s k there → (s ≡ Waiting → ⊥) → k ≡ 0
told_zero Waiting k there fits_state is_not = absurd (is_not refl)
told_zero Free k there fits_state is_not = fits_state.0
told_zero Claimed k there fits_state is_not = fits_state.0
told_zero Delivered k there fits_state is_not = fits_state.0

pub told_claimed : (s : State) (k : ℕ) (there : Bool) → IsStateOf s k there → taken s ≡ true → there ≡ false → s ≡ Claimed
told_claimed Waiting k there fits_state is_so is_not = cc
told_claimed Free k there fits_state is_so is_not = cc
told_claimed Claimed k there fits_state is_so is_not = refl
told_claimed Delivered k there fits_state is_so is_not = cc

pub stated_within : (states : List State) (n : ℕ) → (state_at states n ≡ Waiting → ⊥) → n < length states
stated_within states n is_not = elim (cases_lt n (length states)) [ inl lt ↦ lt | inr le ↦ absurd (is_not (get_or_past states n Waiting le)) ]

module _ {E : Type 0} (is_of : List ℕ → E → Type 0) (g : Modules) (waiting : List ℕ) (states : List State) (reached : List (List Bool)) (spare : List Bool) (entries : List (Option E)) (kept : IsValidBoard is_of g waiting states reached spare entries) where
  pub claimed_is : (abandoned : Bool) (n : ℕ) → is_claimed (core_of entries states abandoned) n ≡ taken (state_at states n)
  claimed_is abandoned n = get_or-map taken states n Waiting

  -- a claimed module that isn't delivered
  pub claimed_state : (abandoned : Bool) (n : ℕ) → is_claimed (core_of entries states abandoned) n ≡ true → has_entry entries n ≡ false → (n < length states) × (state_at states n ≡ Claimed)
  claimed_state abandoned n claimed none =
      let is_claimed_or_delivered : taken (state_at states n) ≡ true = sym (claimed_is abandoned n) ∙ claimed in
      let within : n < length states = stated_within states n (λ (e : state_at states n ≡ Waiting). let f : taken (state_at states n) ≡ false = ap taken e in cc) in
      let size = kept.states_size in
      (within, told_claimed (state_at states n) (slice_index waiting n) (has_entry entries n) (kept.fits_state n (omega arith)) is_claimed_or_delivered none)

  pub claimed_core : (abandoned : Bool) (n : ℕ) → state_at states n ≡ Claimed → (is_claimed (core_of entries states abandoned) n ≡ true) × (has_entry entries n ≡ false)
  claimed_core abandoned n at_n =
      let within : n < length states = stated_within states n (λ (e : state_at states n ≡ Waiting). cc) in
      let size = kept.states_size in
      (claimed_is abandoned n ∙ ap taken at_n, told_none (state_at states n) (slice_index waiting n) (has_entry entries n) (kept.fits_state n (omega arith)) (λ (e : state_at states n ≡ Delivered). cc))

  pub free_ready : (abandoned : Bool) (n : ℕ) → n < length states → state_at states n ≡ Free → IsReady g.imports (core_of entries states abandoned) n
  free_ready abandoned n lt free =
      let size = kept.states_size in
      let below : n < length g.names = omega arith in
      let zero : slice_index waiting n ≡ 0 = told_zero (state_at states n) (slice_index waiting n) (has_entry entries n) (kept.fits_state n below) (λ (e : state_at states n ≡ Waiting). cc) in
      let none : undelivered_count entries (list_at g.imports n) ≡ 0 = sym (kept.count_open n below) ∙ zero in
      let other = kept.entries_size in
      record {
        within = omega arith;
        unclaimed = claimed_is abandoned n ∙ ap taken free;
        imported = λ w h. open_zero entries (list_at g.imports n) none w h;
      }

  pub ready_free : (abandoned : Bool) (n : ℕ) → IsReady g.imports (core_of entries states abandoned) n → (n < length states) × (state_at states n ≡ Free)
  ready_free abandoned n ready =
      let size = kept.states_size in
      let other = kept.entries_size in
      let within = ready.within in
      let below : n < length g.names = omega arith in
      let none : undelivered_count entries (list_at g.imports n) ≡ 0 = open_none entries (list_at g.imports n) ready.imported in
      (omega arith, told_free (state_at states n) (slice_index waiting n) (has_entry entries n) (kept.fits_state n below) (sym (claimed_is abandoned n) ∙ ready.unclaimed) (kept.count_open n below ∙ none))

  pub not_over : (abandoned : Bool) → abandoned ≡ false → (n : ℕ) → n < length states → (state_at states n ≡ Delivered → ⊥) → IsOver (core_of entries states abandoned) → ⊥
  not_over abandoned going n lt is_not over =
      let size = kept.states_size in
      let other = kept.entries_size in
      let below : n < length g.names = omega arith in
      elim over [
        | inl is_so ↦ cc
        | inr all ↦ is_not (told_delivered (state_at states n) (slice_index waiting n) (has_entry entries n) (kept.fits_state n below) (all n (omega arith)))
      ]

  pub claims_other : (abandoned : Bool) → abandoned ≡ false → (claim : Claim) → IsChosenClaim states claim → ((n : ℕ) → claim ≡ Module n → ⊥)
      → IsClaim g.imports (core_of entries states abandoned) claim (core_of entries states abandoned)
  claims_other abandoned going Finished choose_claim other =
      let size = kept.states_size in
      let same = kept.entries_size in (
        inr (λ n lt. told_there (state_at states n) (slice_index waiting n) (has_entry entries n) (kept.fits_state n (omega arith)) (choose_claim n (omega arith))),
        refl,
      )
  claims_other abandoned going Later choose_claim other = (
    not_over abandoned going choose_claim.1.0 choose_claim.1.1 choose_claim.1.2,
    (λ m ready. let f = ready_free abandoned m ready in choose_claim.0 m f.0 f.1),
    refl,
  )
  claims_other abandoned going (Module n) choose_claim other = absurd (other n refl)

  pub claims_module : (abandoned : Bool) → abandoned ≡ false → (n : ℕ) → IsChosenClaim states (Module n) → (core : Core E)
      → core ≡ record (core_of entries states abandoned) { claimed = set (map taken states) n true } → IsClaim g.imports (core_of entries states abandoned) (Module n) core
  claims_module abandoned going n choose_claim core is = (
    not_over abandoned going n choose_claim.0 (λ (e : state_at states n ≡ Delivered). let f : state_at states n ≡ Free = choose_claim.1 in cc),
    free_ready abandoned n choose_claim.0 choose_claim.1,
    (λ m ready. let f = ready_free abandoned m ready in elim (cases_lt m n) [ inl lt ↦ absurd (choose_claim.2 m lt f.1) | inr le ↦ le ]),
    is,
  )
