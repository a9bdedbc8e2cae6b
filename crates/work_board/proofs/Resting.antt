-- A scheduler after `take_back`, when no worker is left.
use Rattle.std.proofs.Common.{◌≡◌, ℕ, Bool, true, false, List, length, map, refl, sym, ap, ◌∙◌, arith}
use Rattle.std.specs.Prelude.{Option, None, is_some, slice_index}
use Rattle.std.proofs.lemmas.List.{ext_get_or, length-map}
use Rattle.std.proofs.Math.ListN.{get_or-map}
use Rattle.work_board.specs.declared.state.State.{State}
use Rattle.work_board.specs.declared.state.State.TheVariants.{Waiting, Free, Claimed, Delivered}
use Rattle.work_board.specs.Graphs.{Modules}
use Rattle.work_board.specs.Cores.{has_entry, with_claims_released, Core, IsIdle}
use Rattle.work_board.specs.Keeping.{state_after_release, state_at, taken, IsValidBoard, IsStateOf}

pub told_let_go : (s : State) (k : ℕ) (there : Bool) → IsStateOf s k there → IsStateOf (state_after_release s) k there
told_let_go Waiting k there fits_state = fits_state
told_let_go Free k there fits_state = fits_state
told_let_go Claimed k there fits_state = fits_state
told_let_go Delivered k there fits_state = fits_state

taken_let_go : (s : State) (k : ℕ) (there : Bool) → IsStateOf s k there → taken (state_after_release s) ≡ there
taken_let_go Waiting k there fits_state = sym fits_state.1
taken_let_go Free k there fits_state = sym fits_state.1
taken_let_go Claimed k there fits_state = sym fits_state.1
taken_let_go Delivered k there fits_state = sym fits_state.1

-- a module that is still claimed or delivered was so before
taken_before : (s : State) → taken (state_after_release s) ≡ true → taken s ≡ true
taken_before Waiting is_so = cc
taken_before Free is_so = cc
taken_before Claimed is_so = refl
taken_before Delivered is_so = refl

pub state_let_go : (states : List State) (n : ℕ) → state_at (map state_after_release states) n ≡ state_after_release (state_at states n)
state_let_go states n = get_or-map state_after_release states n Waiting

-- a module that is claimed after `take_back` is delivered
pub back_idle : {E : Type 0} (c : Core E) → IsIdle (with_claims_released c)
back_idle c n claimed = sym (get_or-map is_some c.entries n None) ∙ claimed

module _ {E : Type 0} (is_of : List ℕ → E → Type 0) (g : Modules) (waiting : List ℕ) (states : List State) (reached : List (List Bool)) (spare : List Bool) (entries : List (Option E)) (kept : IsValidBoard is_of g waiting states reached spare entries) where
  pub back_kept : IsValidBoard is_of g waiting (map state_after_release states) reached spare entries
  back_kept = record {
    entries_size = kept.entries_size;
    waiting_size = kept.waiting_size;
    states_size = length-map states state_after_release ∙ kept.states_size;
    reached_size = kept.reached_size;
    spare_size = kept.spare_size;
    width = kept.width;
    count_open = kept.count_open;
    fits_state = λ m lt. rw (state_let_go states m) (told_let_go (state_at states m) (slice_index waiting m) (has_entry entries m) (kept.fits_state m lt));
    own = kept.own;
    flags = λ m v lt lv is_claimed_or_delivered. kept.flags m v lt lv (taken_before (state_at states m) (ap taken (sym (state_let_go states m)) ∙ is_claimed_or_delivered));
  }

  pub back_claimed : map taken (map state_after_release states) ≡ map is_some entries
  back_claimed =
      let sizes : length states ≡ length entries = kept.states_size ∙ sym kept.entries_size in
      let l = length-map states state_after_release in
      let t = length-map (map state_after_release states) taken in
      let e = length-map entries is_some in
      ext_get_or false (map taken (map state_after_release states)) (map is_some entries) (omega arith) (λ m lt.
      let size = kept.states_size in
      get_or-map taken (map state_after_release states) m Waiting ∙ ap taken (state_let_go states m)
      ∙ taken_let_go (state_at states m) (slice_index waiting m) (has_entry entries m) (kept.fits_state m (omega arith))
      ∙ sym (get_or-map is_some entries m None))
