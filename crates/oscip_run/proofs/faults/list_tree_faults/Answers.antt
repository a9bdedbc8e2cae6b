use Rattle.std.proofs.Common.{◌≡◌, ℕ, List, [], true, false, length, codes, ap, sym, subst, rules}
use Rattle.std.specs.Io.KnownBytes.{Appends}
use Rattle.std.proofs.lemmas.List.{nil_from_length}
use Rattle.std.proofs.lemmas.Result.{err_from_is_err_and}
use Rattle.byte_sink.specs.Sinks.{AppendsPrefix}
use Rattle.texts.specs.Places.{style_of}
use Rattle.oscip_run.specs.FaultRuns.{fault_lines}
use Rattle.source_tree.specs.declared.tree_fault.TreeFault.{TreeFault}
use Rattle.oscip_run.proofs.FaultRuns.{accepted, error_prefix, refused}
use Rattle.oscip_run.proofs.faults.list_tree_faults.Goals as goal

pub returns-in_err-write_fully-clause-run : goal.returns-in_err-write_fully-clause-run
returns-in_err-write_fully-clause-run g c =
    let p = err_from_is_err_and c.from_residual-in_err-write_fully.result c.from_residual-in_err-write_fully.ensures.1 in
    let long : length c.in_ok-faults.faults.items ≡ 0 = search rules in
    rw (p.1, p.2) (error_prefix (style_of c.args.style) c.args.sources.now (codes "yes\n") true _ _ _ (accepted (style_of c.args.style) c.args.sources.now c.in_ok-faults.faults.items (nil_from_length _ long) c.in_ok-faults.ensures) c.in_err-write_fully.ensures.writes)

pub returns-then-is_empty-clause-run : goal.returns-then-is_empty-clause-run
returns-then-is_empty-clause-run g c =
    let long : length c.in_ok-faults.faults.items ≡ 0 = search rules in
    (codes "yes\n", accepted (style_of c.args.style) c.args.sources.now c.in_ok-faults.faults.items (nil_from_length _ long) c.in_ok-faults.ensures, c.in_ok-write_fully.ensures.writes)

pub returns-in_err-write_lines-clause-run : goal.returns-in_err-write_lines-clause-run
returns-in_err-write_lines-clause-run g c =
    let p = err_from_is_err_and c.from_residual-in_err-write_lines.result c.from_residual-in_err-write_lines.ensures.1 in
    let faults = c.in_ok-faults.faults.items in
    let some : faults ≡ [] → ⊥ = λ none. (let long = ap (length {A = TreeFault}) none in let is = c.if-is_empty.false in absurd (search rules)) in
    rw (p.1, p.2) (error_prefix (style_of c.args.style) c.args.sources.now (fault_lines (style_of c.args.style) faults) false _ _ _ (refused (style_of c.args.style) c.args.sources.now faults some c.in_ok-faults.ensures)
    (subst (λ (told : List TreeFault). AppendsPrefix (g.S.Sink.taken c.args.sink.now) (g.S.Sink.taken c.write_lines.new.sink) (fault_lines (style_of c.args.style) told)) c.as_slice.ensures.value c.in_err-write_lines.ensures.writes))

pub returns-clause-run : goal.returns-clause-run
returns-clause-run g c =
    let faults = c.in_ok-faults.faults.items in
    let some : faults ≡ [] → ⊥ = λ none. (let long = ap (length {A = TreeFault}) none in let is = c.if-is_empty.false in absurd (search rules)) in (
      fault_lines (style_of c.args.style) faults,
      refused (style_of c.args.style) c.args.sources.now faults some c.in_ok-faults.ensures,
      subst (λ (told : List TreeFault). Appends (g.S.Sink.taken c.args.sink.now) (g.S.Sink.taken c.write_lines.new.sink) (fault_lines (style_of c.args.style) told)) c.as_slice.ensures.value c.in_ok-write_lines.ensures.writes,
    )
