use Rattle.std.proofs.Common.{sym}
use Rattle.std.proofs.lemmas.Result.{err_from_is_err_and}
use Rattle.scip_symbol.specs.Views.{descriptor_models}
use Rattle.scip_symbol.specs.Reading.{parts_model}
use Rattle.scip_symbol.proofs.Answered.{UnlessMemory-weaker, some_from_length, none_from_length}
use Rattle.scip_symbol.proofs.PartLaws.{parts_ok, parts_err}
use Rattle.scip_symbol.proofs.GlobalLaws.{nothing_behind, wrong_refused, global_text, rest_within}
use Rattle.scip_symbol.proofs.reader.read_global_symbol.Goals as goal

pub returns-in_err-parts : goal.returns-in_err-parts
returns-in_err-parts c =
    let p = err_from_is_err_and c.from_residual.result c.from_residual.ensures.1 in
    rw (p.1, p.2)
    (UnlessMemory-weaker c.in_err-parts.field-0.0 c.in_err-parts.ensures (parts_err c.args.text.now c.in_err-parts.field-0.0 c.requires.part c.requires.not_local))

pub returns-then-is_empty : goal.returns-then-is_empty
returns-then-is_empty c =
    let r = parts_ok c.args.text.now (parts_model c.in_ok-parts.parts, c.in_ok-parts.rest.now) c.requires.part c.requires.not_local c.in_ok-parts.ensures in
    nothing_behind c.args.text.now (parts_model c.in_ok-parts.parts, c.in_ok-parts.rest.now) r (none_from_length c.in_ok-parts.rest.now (sym c.if-is_empty.ensures))

pub read_descriptors-requires : goal.read_descriptors-requires
read_descriptors-requires c =
    let r = parts_ok c.args.text.now (parts_model c.in_ok-parts.parts, c.in_ok-parts.rest.now) c.requires.part c.requires.not_local c.in_ok-parts.ensures in
    rest_within c.args.text.now (parts_model c.in_ok-parts.parts, c.in_ok-parts.rest.now) r

pub returns-in_err-descriptors : goal.returns-in_err-descriptors
returns-in_err-descriptors c =
    let r = parts_ok c.args.text.now (parts_model c.in_ok-parts.parts, c.in_ok-parts.rest.now) c.requires.part c.requires.not_local c.in_ok-parts.ensures in
    let p = err_from_is_err_and c.from_residual-in_err-descriptors.result c.from_residual-in_err-descriptors.ensures.1 in
    rw (p.1, p.2)
    (UnlessMemory-weaker c.in_err-descriptors.field-0.0 c.in_err-descriptors.ensures (wrong_refused c.args.text.now (parts_model c.in_ok-parts.parts, c.in_ok-parts.rest.now) c.in_err-descriptors.field-0.0 r))

pub returns : goal.returns
returns c =
    let r = parts_ok c.args.text.now (parts_model c.in_ok-parts.parts, c.in_ok-parts.rest.now) c.requires.part c.requires.not_local c.in_ok-parts.ensures in
    global_text c.args.text.now (parts_model c.in_ok-parts.parts, c.in_ok-parts.rest.now) (descriptor_models c.in_ok-descriptors.descriptors.items) r (some_from_length c.in_ok-parts.rest.now (sym c.if-is_empty.ensures)) c.in_ok-descriptors.ensures
