use Rattle.std.proofs.Common.{◌≡◌, ◌++◌, ℕ, List, codes, ap, sym, subst, ◌∙◌}
use Rattle.std.proofs.lemmas.Result.{err_from_is_err_and}
use Rattle.std.specs.String.{string_bytes}
use Rattle.hex.specs.Hex.{encode_lower}
use Rattle.index_run.specs.IndexRuns.{IsHexText, IsIndexText}
use Rattle.index_run.proofs.IndexRuns.{error_prefix, hex_text}
use Rattle.index_run.proofs.indexing.index_hex_to.Goals as goal

pub returns-in_err-hex_line-clause-run : goal.returns-in_err-hex_line-clause-run
returns-in_err-hex_line-clause-run g c =
    let p = err_from_is_err_and c.from_residual-in_err-hex_line.result c.from_residual-in_err-hex_line.ensures.1 in
    let package_name = string_bytes c.args.options.now.package in
    let root = string_bytes c.args.options.now.root in
    let made = c.in_ok-index_to.ensures.run in
    let same : c.as_slice.result.now ≡ made.0 = c.as_slice.ensures.value ∙ made.2 ∙ ap (λ (t : List ℕ). t ++ made.0) c.new-bytes.ensures.items in
    let is = subst (IsIndexText c.args.sources.now package_name root) (sym same) made.1 in
    rw (p.1, p.2) (error_prefix c.args.sources.now (IsHexText c.args.sources.now package_name root) (encode_lower c.as_slice.result.now ++ codes "\n") (g.S.Sink.taken c.args.sink.now) (g.S.Sink.taken c.hex_line.new.sink) _
    (hex_text c.args.sources.now package_name root c.as_slice.result.now is) c.in_err-hex_line.ensures.writes)
