use Rattle.std.proofs.Common.{◌+◌, ◌∙◌, ℕ, List, Some, inl, sym, ap}
use Rattle.cut_rules.specs.Rules.{NoSuchModule}
use Rattle.cut_rules.specs.Names.{names_in}
use Rattle.cut_rules.proofs.Numbers.{is_module, module_index, no_some, number_module, set_apart, set_known, set_numbered, unknown}
use Rattle.cut_rules.proofs.builder.LineContext.number_of.Goals as goal

pub declared_set_index-requires : goal.declared_set_index-requires
declared_set_index-requires c = let (pieces, names) = c.requires in names.declared.size

pub returns-in-Some-clause-found : goal.returns-in-Some-clause-found
returns-in-Some-clause-found c =
    let context = c.args.self.now in
    let (pieces, names) = c.requires in
    number_module context.net.now (names_in context.names.now.sets.keys) c.args.name.now c.in-Some.module
    (module_index context.net.now pieces context.names.now names c.args.name.now c.name_index.result (rw c.as_bytes.ensures.value at c.name_index.ensures.place) ∙ c.in-Some.is)

pub returns-in-Some-clause-known : goal.returns-in-Some-clause-known
returns-in-Some-clause-known c pieces names =
    let context = c.args.self.now in
    inl (is_module context.net.now c.args.name.now c.in-Some.module
    (module_index context.net.now pieces context.names.now names c.args.name.now c.name_index.result (rw c.as_bytes.ensures.value at c.name_index.ensures.place) ∙ c.in-Some.is))

pub returns-in-Some-declared_set_index-clause-found : goal.returns-in-Some-declared_set_index-clause-found
returns-in-Some-declared_set_index-clause-found c =
    let context = c.args.self.now in
    let (pieces, names) = c.requires in
    let set = c.in-Some-declared_set_index.set in
    let (present, is) = c.in-Some-declared_set_index.ensures.found in
    set_numbered context.net.now (names_in context.names.now.sets.keys) c.args.name.now set (set_apart context.net.now pieces context.names.now names c.args.name.now set present) present ∙ ap (λ (n : ℕ). Some (n + set)) (sym c.nodes.ensures)

pub returns-in-Some-declared_set_index-clause-known : goal.returns-in-Some-declared_set_index-clause-known
returns-in-Some-declared_set_index-clause-known c pieces names =
    let context = c.args.self.now in
    let (present, is) = c.in-Some-declared_set_index.ensures.found in
    set_known context.net.now pieces context.names.now names c.args.name.now c.in-Some-declared_set_index.set present is

pub returns-clause-none : goal.returns-clause-none
returns-clause-none c =
    let context = c.args.self.now in (
      ap (λ (t : List ℕ). Some (context.line, NoSuchModule t)) c.in_ok-from_str.ensures.ok,
      λ pieces names.
          unknown context.net.now pieces context.names.now names c.args.name.now
          (module_index context.net.now pieces context.names.now names c.args.name.now c.name_index.result (rw c.as_bytes.ensures.value at c.name_index.ensures.place) ∙ no_some c.name_index.result c.in_default.not-Some)
          c.in_default-declared_set_index.ensures.none,
    )
