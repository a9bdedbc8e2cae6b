-- A new scheduler.
use Rattle.std.proofs.Common.{◌≡◌, ◌<◌, ℕ, zero, suc, Bool, false, List, [], ◌∷◌, length, map, refl, sym, ap, ◌∙◌, arith, inl, inr, get_or}
use Rattle.std.specs.Prelude.{Option, None, is_some, slice_index, replicate}
use Rattle.std.proofs.lemmas.Bool.{cases_lt}
use Rattle.std.proofs.lemmas.List.{get_or-replicate, get_or_past, length-replicate, length-map, get_or-map}
use Rattle.work_board.specs.declared.state.State.TheVariants.{Waiting}
use Rattle.work_board.specs.Graphs.{list_at, Modules}
use Rattle.work_board.specs.Cores.{entry_at, has_entry, Core}
use Rattle.work_board.specs.Keeping.{state_after_delivery, undelivered_count, state_at, taken, IsValidBoard, IsStateOf}

pub constant : {X : Type 0} (count i : ℕ) (x : X) → get_or (replicate count x) i x ≡ x
constant count i x =
    elim (cases_lt i count) [
      | inl lt ↦ get_or-replicate count i x x lt
      | inr le ↦ get_or_past (replicate count x) i x (let l = length-replicate count x in omega arith)
    ]

pub nothing : (E : Type 0) (count i : ℕ) → entry_at {E = E} (replicate count None) i ≡ None
nothing E count i = constant {X = Option E} count i None

pub none_yet : (E : Type 0) (count i : ℕ) → has_entry {E = E} (replicate count None) i ≡ false
none_yet E count i = ap is_some (nothing E count i)

pub all_open : (E : Type 0) (count : ℕ) (row : List ℕ) → undelivered_count {E = E} (replicate count None) row ≡ length row
all_open E count [] = refl
all_open E count (w ∷ row) = let rest = all_open E count row in let e = none_yet E count w in rw e (omega arith)

pub first_told : (k : ℕ) → IsStateOf (state_after_delivery Waiting k) k false
first_told zero = (refl, refl)
first_told (suc k) = (omega arith, refl)

pub first_taken : (k : ℕ) → taken (state_after_delivery Waiting k) ≡ false
first_taken zero = refl
first_taken (suc k) = refl

pub first_claimed : (counts : List ℕ) → map taken (map (state_after_delivery Waiting) counts) ≡ replicate (length counts) false
first_claimed [] = refl
first_claimed (k ∷ counts) = ap (λ b. b ∷ map taken (map (state_after_delivery Waiting) counts)) (first_taken k) ∙ ap (λ r. false ∷ r) (first_claimed counts)

pub core_same : {E : Type 0} (es fs : List (Option E)) (cs ds : List Bool) (a : Bool) → es ≡ fs → cs ≡ ds
    → let c : Core E = record { entries = es; claimed = cs; abandoned = a } in c ≡ record { entries = fs; claimed = ds; abandoned = a }
core_same {E = E} es fs cs ds a p q =
    ap (λ (x : List (Option E)). record { entries = x; claimed = cs; abandoned = a }) p ∙ ap (λ (x : List Bool). record { entries = fs; claimed = x; abandoned = a }) q

pub opened : {E : Type 0} (is_of : List ℕ → E → Type 0) (g : Modules) (counts : List ℕ) → length counts ≡ length g.names
    → ((m : ℕ) → m < length g.names → slice_index counts m ≡ length (list_at g.imports m)) → length g.imports ≡ length g.names
    → IsValidBoard is_of g counts (map (state_after_delivery Waiting) counts) (replicate (length g.names) (replicate (length g.names) false)) (replicate (length g.names) false) (replicate (length g.names) None)
opened {E = E} is_of g counts size counted rows =
    let n = length g.names in
    let at : (m : ℕ) → m < n → state_at (map (state_after_delivery Waiting) counts) m ≡ state_after_delivery Waiting (slice_index counts m) = λ m lt. get_or-map (state_after_delivery Waiting) counts m 0 Waiting (omega arith) in
    let row : (m : ℕ) → m < n → list_at (replicate n (replicate n false)) m ≡ replicate n false = λ m lt. get_or-replicate n m (replicate n false) [] lt in
    record {
      entries_size = length-replicate n None;
      waiting_size = size;
      states_size = length-map counts (state_after_delivery Waiting) ∙ size;
      reached_size = length-replicate n (replicate n false);
      spare_size = length-replicate n false;
      width = λ m lt. ap length (row m lt) ∙ length-replicate n false;
      count_open = λ m lt. counted m lt ∙ sym (all_open E n (list_at g.imports m));
      fits_state = λ m lt. rw (at m lt, none_yet E n m) (first_told (slice_index counts m));
      own = λ m e is. let nothing_m = nothing E n m in cc;
      flags = λ m v lt lv is_claimed_or_delivered.
          let f : taken (state_at (map (state_after_delivery Waiting) counts) m) ≡ false = ap taken (at m lt) ∙ first_taken (slice_index counts m) in
          cc;
    }
