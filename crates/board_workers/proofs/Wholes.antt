-- Lists of entries, some of which are missing.
use Rattle.std.proofs.Common.{set, ◌≡◌, ◌<◌, ℕ, List, length, map, sym, ap, ◌∙◌, get_or, arith}
use Rattle.std.specs.Prelude.{Option, None, Some, Bool, false, cond, count_by, is_none, is_some, not}
use Rattle.std.proofs.lemmas.List.Sums.{sum_by-set}
use Rattle.std.proofs.lemmas.List.{get_or-map, length-map}
use Rattle.work_board.specs.Graphs.{Modules}
use Rattle.work_board.specs.Cores.{has_entry, AreModuleEntries}
use Rattle.board_workers.specs.Parts.{AreEntries}

pub entries_from : {E : Type 0} (is_of : List ℕ → E → Type 0) (g : Modules) (entries : List E) (gathered : List (Option E)) → map Some entries ≡ gathered
    → length gathered ≡ length g.names → AreModuleEntries is_of g.names gathered → AreEntries is_of g entries
entries_from is_of g entries gathered same size own = record {
  size = sym (length-map entries Some) ∙ ap length same ∙ size;
  own = λ n d lt. own n (get_or entries n d) (sym (ap (λ es. get_or es n None) same) ∙ get_or-map Some entries n d None lt);
}

-- with one more entry, one fewer is missing
pub fewer_missing : {E : Type 0} (entries : List (Option E)) (n : ℕ) (e : E) → n < length entries → has_entry entries n ≡ false
    → count_by is_none (set entries n (Some e)) < count_by is_none entries
fewer_missing entries n e lt none =
    let s = sum_by-set (λ o. cond (is_none o) 1 0) entries n (Some e) None lt in
    let count : Bool → ℕ = λ b. cond (not b) 1 0 in
    let one : count (is_some (get_or entries n None)) ≡ 1 = ap count none in
    omega (arith, s, one)
