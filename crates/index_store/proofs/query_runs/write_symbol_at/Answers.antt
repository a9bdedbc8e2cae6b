use Rattle.std.proofs.Common.{◌++◌, Some, None, [], codes, refl}
use Rattle.std.proofs.KnownBytes.{Appends-nil}
use Rattle.std.proofs.lemmas.Result.{err_from_is_err_and}
use Rattle.texts.specs.Escapes.{escaped}
use Rattle.index_store.proofs.SymbolLaws.{symbol_at_text}
use Rattle.index_store.proofs.TellingRuns.{lacking_symbol, told_front}
use Rattle.index_store.proofs.query_runs.write_symbol_at.Goals as goal

pub returns-in_err-symbol-clause-run : goal.returns-in_err-symbol-clause-run
returns-in_err-symbol-clause-run g c index means =
    let p = err_from_is_err_and c.from_residual.result c.from_residual.ensures.1 in
    rw (p.1, p.2) (lacking_symbol _ _ _ _ index c.args.path.now c.args.at c.in_err-symbol.field-0.0 means (λ has. has) (c.in_err-symbol.ensures.exact index means))

pub returns-in_default-clause-run : goal.returns-in_default-clause-run
returns-in_default-clause-run g c index means =
    let found = rw c.in_default.is at (c.in_ok-symbol.ensures.exact index means) in
    ([], record { index = index; means = means; has = found.0; text_is = (None, found.1, refl) }, Appends-nil _)

pub symbol_line-requires : goal.symbol_line-requires
symbol_line-requires g c =
    let found = rw c.in-Some.is at (c.in_ok-symbol.ensures.exact c.requires.means.0 c.requires.means.1) in
    record { text = symbol_at_text c.args.bytes.now c.args.path.now c.in-Some.symbol.now c.args.at c.requires.means.0 c.requires.means.1 found.1 }

pub returns-in_err-write_fully-clause-run : goal.returns-in_err-write_fully-clause-run
returns-in_err-write_fully-clause-run g c index means =
    let p = err_from_is_err_and c.from_residual-in_err-write_fully.result c.from_residual-in_err-write_fully.ensures.1 in
    let found = rw c.in-Some.is at (c.in_ok-symbol.ensures.exact index means) in
    rw (p.1, p.2) (told_front _ _ _ _ _ (escaped c.in-Some.symbol.now ++ codes "\n") _
    (record { index = index; means = means; has = found.0; text_is = (Some c.in-Some.symbol.now, found.1, refl) }) (rw (c.as_bytes.ensures.value, c.in_ok-line.ensures) at c.in_err-write_fully.ensures.writes))

pub returns-clause-run : goal.returns-clause-run
returns-clause-run g c index means =
    let found = rw c.in-Some.is at (c.in_ok-symbol.ensures.exact index means) in (
      escaped c.in-Some.symbol.now ++ codes "\n",
      record { index = index; means = means; has = found.0; text_is = (Some c.in-Some.symbol.now, found.1, refl) },
      rw (c.as_bytes.ensures.value, c.in_ok-line.ensures) at c.in_ok-write_fully.ensures.writes,
    )
