use Rattle.std.proofs.Common.{arith, length, ◌≤◌, sym}
use Rattle.ob_interface.specs.Views.{declaration_value}
use Rattle.ob_types.proofs.Telling.{declaration_more, module_told, past, stay_on}
use Rattle.ob_types.proofs.listed.append_module_fields.Goals as goal

pub loop-index-preserved : goal.loop-index-preserved
loop-index-preserved c =
    let tells = c.in_ok-append_if_exported_field-in-Some.ensures in
    let at = c.loop-index in
    record {
      stay = stay_on c.args.fields.now.items at.fields.items c.append_if_exported_field.new.fields.items at.invariant.stay tells.stay;
      listed = declaration_more c.args.reached c.args.«module».now at.index (declaration_value c.in-Some.declaration) at.fields.items c.append_if_exported_field.new.fields.items (sym c.in-Some.ensures) at.invariant.listed tells;
    }

pub returns-in-None : goal.returns-in-None
returns-in-None c =
    module_told c.args.reached c.args.«module».now c.loop-index.index c.args.fields.now.items c.loop-index.fields.items c.loop-index.invariant.stay c.loop-index.invariant.listed
    (past c.args.«module».now.declarations c.loop-index.index (sym c.in-None.ensures))

pub returns : goal.returns
returns c =
    let m = c.args.«module».now in
    let all : length m.declarations ≤ c.loop-index.index = omega (arith, c.declaration_count-index-end.ensures.count, c.loop-index-test.false) in
    module_told c.args.reached m c.loop-index.index c.args.fields.now.items c.loop-index.fields.items c.loop-index.invariant.stay c.loop-index.invariant.listed all
