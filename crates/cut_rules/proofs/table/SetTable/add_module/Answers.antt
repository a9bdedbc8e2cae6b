use Rattle.std.proofs.Common.{◌∙◌, ◌+◌, ℕ, List, [], length, refl, sym, ap, arith}
use Rattle.cut_net.specs.Network.{index_of, unpinned}
use Rattle.cut_net.proofs.Places.{index_takes}
use Rattle.cut_rules.specs.RuleLines.{Module}
use Rattle.cut_rules.proofs.TableLaws.{module_addition, no_module_selected, nothing_added}
use Rattle.cut_rules.proofs.table.SetTable.add_module.Goals as goal

pub returns-in_default : goal.returns-in_default
returns-in_default c =
    let net = c.args.context.now.net.now in
    let files = c.args.context.now.files.now in
    let place = rw c.as_bytes.ensures.value at c.name_index.ensures.place in
    nothing_added net files c.args.self.now c.args.set (Module c.args.text.now) refl
    (no_module_selected net c.invariants.ensures.network files c.args.text.now (ap (λ (ns : List (List ℕ)). index_of (unpinned ns []) c.args.text.now) (sym c.requires.table.names) ∙ sym place ∙ c.in_default.is))

pub add_range-requires-clause-sized : goal.add_range-requires-clause-sized
add_range-requires-clause-sized c =
    let net = c.args.context.now.net.now in
    let place = rw c.as_bytes.ensures.value at c.name_index.ensures.place in
    let low = (index_takes net c.args.text.now c.in-Some.number (ap (λ (ns : List (List ℕ)). index_of (unpinned ns []) c.args.text.now) (sym c.requires.table.names) ∙ sym place ∙ c.in-Some.is)).0 in
    (length c.args.context.now.files.now + length net.names, c.requires.table.sized, omega arith)

pub returns : goal.returns
returns c =
    let net = c.args.context.now.net.now in
    let files = c.args.context.now.files.now in
    let place = rw c.as_bytes.ensures.value at c.name_index.ensures.place in
    let is = c.add_range.ensures in
    module_addition net files c.args.self.now c.add_range.new.self c.args.set _ _ c.add_range.result is.sets is.any is.patterns is.modules is.count is.sized c.invariants.ensures.network c.args.text.now c.in-Some.number
    (ap (λ (ns : List (List ℕ)). index_of (unpinned ns []) c.args.text.now) (sym c.requires.table.names) ∙ sym place ∙ c.in-Some.is) refl refl
