use Rattle.std.proofs.Common.{List, ℕ, subst, sym}
use Rattle.std.proofs.lemmas.Result.{err_from_is_err_and}
use Rattle.scip_symbol.specs.SymbolTexts.{SymbolText}
use Rattle.scip_symbol.specs.Views.{symbol_model}
use Rattle.scip_symbol.proofs.Answered.{UnlessMemory-from}
use Rattle.scip_symbol.proofs.WriteLaws.{symbol_text}
use Rattle.scip_symbol.proofs.writer.check_and_write.Goals as goal

pub returns-in_err-check_writable : goal.returns-in_err-check_writable
returns-in_err-check_writable c =
    let p = err_from_is_err_and c.from_residual.result c.from_residual.ensures.1 in
    rw (p.1, p.2) (UnlessMemory-from c.in_err-check_writable.field-0.0 c.in_err-check_writable.ensures.refused)

pub returns : goal.returns
returns c = (
  subst (λ (text : List ℕ). SymbolText (symbol_model c.args.symbol.now) text) (sym c.in_ok-canonical_symbol_text.ensures) (symbol_text c.args.symbol.now c.in_ok-check_writable.ensures.fits),
  c.in_ok-canonical_symbol_text.ensures,
)
