use Rattle.std.proofs.Common.{◌∙◌, ℕ, List, Some, sym, ap}
use Rattle.cut_rules.specs.Rules.{SetIsModule}
use Rattle.cut_rules.proofs.Numbers.{is_module, module_index, not_none, set_apart, some_there}
use Rattle.cut_rules.proofs.builder.LineContext.set_index.Goals as goal

pub returns-in-Some-clause-right : goal.returns-in-Some-clause-right
returns-in-Some-clause-right c =
    let context = c.args.self.now in
    let (pieces, names) = c.requires in
    let present = sym (rw c.as_bytes.ensures.value at c.name_index.ensures.place) ∙ c.in-Some.is in
    (set_apart context.net.now pieces context.names.now names c.args.set.now c.in-Some.place present, present)

pub returns-clause-wrong : goal.returns-clause-wrong
returns-clause-wrong c =
    let context = c.args.self.now in
    let (pieces, names) = c.requires in
    let present = some_there c.name_index-2.result (not_none c.name_index-2.result c.is_none.result c.is_none.ensures c.if-is_none.false) in (
      is_module context.net.now c.args.set.now present.0 (module_index context.net.now pieces context.names.now names c.args.set.now c.name_index-2.result (rw c.as_bytes-2.ensures.value at c.name_index-2.ensures.place) ∙ present.1),
      ap (λ (t : List ℕ). Some (context.line, SetIsModule t)) c.in_ok-from_str.ensures.ok,
    )
