-- Lists of flags.
use Rattle.std.proofs.Common.{◌≡◌, ◌<◌, ◌+◌, ℕ, Bool, true, false, List, [], ◌∷◌, ◌++◌, length, take, drop, set, refl, sym, ap, ◌∙◌, arith, inl, inr, get_or}
use Rattle.std.specs.Prelude.{◌⊎◌, ◌↔◌, ◌||◌, Vec}
use Rattle.std.specs.declared.alloc.Global.{Global}
use Rattle.std.proofs.lemmas.Bool.{cases_eq}
use Rattle.std.proofs.lemmas.List.{append-nil, drop_all, get_or-map, get_or-set_same, get_or-set_other, take_all, take_more}
use Rattle.std.proofs.lemmas.List.Elements.{Contains-append_cases, Contains-append_left, Contains-append_right}
use Rattle.work_board.specs.Graphs.{lists, list_at}
use Rattle.work_board.specs.Marks.{marked, IsReachedBy}
use Rattle.work_board.proofs.Members.{one_member}

pub row_of : {X : Type 0} (rows : List (Vec X Global)) (n : ℕ) (d : Vec X Global) → n < length rows → list_at (lists rows) n ≡ (get_or rows n d).items
row_of rows n d lt = get_or-map (λ r. r.items) rows n d [] lt

pub restored : {X : Type 0} (len : ℕ) (new old : List X) → length new ≡ length old → len ≡ length old → take len (new ++ drop (length new) old) ≡ new
restored len new old same long =
    let none : drop (length new) old ≡ [] = drop_all (length new) old (omega arith) in
    rw (none, append-nil new) (take_all len new (omega arith))

-- one more module is added
pub met_more : (reached : List (List Bool)) (row : List ℕ) (i : ℕ) → i < length row → (w : ℕ) → get_or row i 0 ≡ w → (v : ℕ)
    → IsReachedBy reached (take (i + 1) row) v ↔ (IsReachedBy reached (take i row) v ⊎ ((w ≡ v) ⊎ (marked (list_at reached w) v ≡ true)))
met_more reached row i lt w is v =
    let more : take (i + 1) row ≡ take i row ++ w ∷ [] = take_more row i 0 lt ∙ ap (λ x. take i row ++ x ∷ []) is in
    rw more (
      (λ met. elim (Contains-append_cases (take i row) (w ∷ []) met.0 met.1) [
        | inl before ↦ inl (met.0, before, met.2)
        | inr here ↦ inr (let e : w ≡ met.0 = one_member w met.0 here in rw e met.2)
      ]),
      (λ either. elim either [
        | inl met ↦ (met.0, Contains-append_left (take i row) (w ∷ []) met.0 met.1, met.2)
        | inr new ↦ (w, Contains-append_right (take i row) (w ∷ []) w (0, omega arith, refl), new)
      ]),
    )

pub or_true : (a b : Bool) → ((a || b) ≡ true) ↔ ((a ≡ true) ⊎ (b ≡ true))
or_true true b = ((λ e. inl refl), (λ e. refl))
or_true false b = ((λ e. inr e), (λ e. elim e [ inl f ↦ cc | inr f ↦ f ]))

pub marked_set : (flags : List Bool) (w v : ℕ) → w < length flags → (marked (set flags w true) v ≡ true) ↔ ((w ≡ v) ⊎ (marked flags v ≡ true))
marked_set flags w v lt =
    elim (cases_eq v w) [
      | inl same ↦ ((λ e. inl (sym same)), (λ e. ap (marked (set flags w true)) same ∙ get_or-set_same flags w true false lt))
      | inr other ↦
          let old : marked (set flags w true) v ≡ marked flags v = get_or-set_other flags w v true false other in
          ((λ e. inr (sym old ∙ e)), (λ e. elim e [ inl same ↦ absurd (other (sym same)) | inr f ↦ old ∙ f ]))
    ]
