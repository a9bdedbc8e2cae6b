use Rattle.std.proofs.Common.{◌≡◌, ◌+◌, ◌++◌, ◌∷◌, [], List, ℕ, map, take, sym, ap, ◌∙◌, subst}
use Rattle.std.specs.Prelude.{slice_index}
use Rattle.std.specs.Arc.{arc_value}
use Rattle.std.specs.String.{string_bytes}
use Rattle.std.proofs.lemmas.List.{map-append, take_more}
use Rattle.ob_board.specs.Unresolved.{unresolved_model, AreUnresolvedRows, IsUnresolvedAt, UnresolvedModel}
use Rattle.ob_board.proofs.Rowing.{rows_more}
use Rattle.ob_board.proofs.rows.locate_all_unresolved.Goals as goal

pub loop-number-preserved : goal.loop-number-preserved
loop-number-preserved c =
    let path = c.args.path.now in
    let same : string_bytes (arc_value c.in_ok-shared.shared) ≡ path = ap string_bytes c.in_ok-shared.ensures.ok ∙ c.in_ok-from_str.ensures.ok in
    let bytes = c.args.bytes.now in
    let ts = c.args.tokens.now in
    let ks = c.args.numbers.now in
    let i = c.loop-number.number-index in
    let row = unresolved_model c.in_ok-locate_unresolved.field-0 in
    let before = map unresolved_model c.loop-number.rows.items in
    let more : take (i + 1) ks ≡ take i ks ++ slice_index ks i ∷ [] = take_more ks i 0 c.loop-number-test.true in
    let pushed : map unresolved_model c.push.new.self.items ≡ before ++ row ∷ [] =
    ap (map unresolved_model) c.in_ok-push.ensures.items ∙ map-append unresolved_model c.loop-number.rows.items (c.in_ok-locate_unresolved.field-0 ∷ []) in
    subst (λ (rows : List UnresolvedModel). AreUnresolvedRows path bytes ts (take (i + 1) ks) rows) (sym pushed)
    (subst (λ (xs : List ℕ). AreUnresolvedRows path bytes ts xs (before ++ row ∷ [])) (sym more)
    (rows_more path bytes ts (take i ks) before (slice_index ks i) row c.loop-number.invariant (subst (λ (p : List ℕ). IsUnresolvedAt p bytes ts (slice_index ks i) row) same c.in_ok-locate_unresolved.ensures)))
