-- One symbol string more.
use Rattle.std.proofs.Common.{◌≡◌, ℕ, List, length, map, get_or, false, Some, sym, ap, ◌∙◌, subst, arith}
use Rattle.std.specs.Prelude.{slice_get}
use Rattle.std.specs.Option.{option_map}
use Rattle.std.specs.String.{string_bytes}
use Rattle.std.proofs.lemmas.List.{map_push}
use Rattle.std.proofs.lemmas.Option.{slice_get-get_or}
use Rattle.module_table.specs.declared.rows.Declared.{Declared}
use Rattle.module_table.specs.Parts.{Rows}
use Rattle.ob_emit.specs.StoredTexts.{AreDeclaredTexts}
use Rattle.ob_emit.proofs.Texting.{before_local, before_none, before_other}
use Rattle.ob_emit.proofs.target_texts.declared_texts.Goals as goal
use Rattle.ob_emit.proofs.target_texts.declared_texts.Goals.{then-local, else-local}

pub loop-row-preserved : goal.loop-row-preserved
loop-row-preserved c =
    let w = c.args.view.now in
    let rows = c.declared-declared.result.now in
    let n = c.loop-row.row-index in
    let row : Declared = get_or rows n (record { number = 0; exported = false; declared_by = 0 }) in
    let same : rows ≡ w.rows.declared = c.declared-declared.ensures ∙ ap (λ (r : Rows). r.declared) c.table.ensures in
    let at : slice_get w.rows.declared n ≡ Some row = subst (λ (xs : List Declared). slice_get xs n ≡ Some row) same (slice_get-get_or rows n _ c.loop-row-test.true) in
    let made = map (option_map string_bytes) c.loop-row.texts.items in
    let text = option_map string_bytes c.in_ok-text.text in
    rw (c.in_ok-push.ensures.items, map_push (option_map string_bytes) c.loop-row.texts.items c.in_ok-text.text) (
    elim c.if-local.branch [
      | then-local w' ↦
          rw w'.locals-is
          (before_local w c.args.prefix.now n c.loop-row.locals made row text c.loop-row.invariant at (λ p f. c.in_ok-text.ensures p n f c.loop-row.invariant.counted) (sym c.is_local-local.ensures ∙ w'.if-local.true))
      | else-local w' ↦
          rw w'.locals-is
          (before_other w c.args.prefix.now n c.loop-row.locals made row text c.loop-row.invariant at (λ p f. c.in_ok-text.ensures p n f c.loop-row.invariant.counted) (sym c.is_local-local.ensures ∙ w'.if-local.false))
    ])

pub returns : goal.returns
returns c = λ p f.
    let w = c.args.view.now in
    let same : c.declared-declared.result.now ≡ w.rows.declared = c.declared-declared.ensures ∙ ap (λ (r : Rows). r.declared) c.table.ensures in
    let all : c.loop-row.row-index ≡ length w.rows.declared = omega (arith, ap length same, c.loop-row-test.false, c.loop-row.auto.row-index-end) in
    subst (λ (n : ℕ). AreDeclaredTexts w p n (map (option_map string_bytes) c.loop-row.texts.items)) all (c.loop-row.invariant.each p f)

pub loop-row-init : goal.loop-row-init
loop-row-init c = rw c.in_ok-texts.ensures.items (before_none c.args.view.now c.args.prefix.now)
