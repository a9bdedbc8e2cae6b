use Rattle.std.proofs.Common.{◌≡◌, ◌+◌, ◌<◌, ◌≤◌, ℕ, length, Some, sym, ap, subst, refl, arith}
use Rattle.std.specs.Prelude.{◌↔◌, slice_get}
use Rattle.cut_rules.specs.declared.file.File.{File}
use Rattle.cut_rules.specs.RuleLines.{Selector, Folder, Tree}
use Rattle.cut_rules.specs.LineReading.{selector_content}
use Rattle.cut_rules.specs.Rules.{IsBelow}
use Rattle.cut_rules.specs.Builders.{IsAddition}
use Rattle.cut_rules.proofs.Pieces.{get_low}
use Rattle.cut_rules.proofs.TableLaws.{files_addition}
use Rattle.cut_rules.proofs.table.SetTable.add.Goals as goal

pub add_range-requires-clause-sized : goal.add_range-requires-clause-sized
add_range-requires-clause-sized c =
    let within = c.in_ok-from-in-Folder.ensures.within in
    (length c.args.context.now.files.now + length c.args.context.now.net.now.names, c.requires.table.sized, omega arith)

pub add_range-requires-in-Tree-clause-sized : goal.add_range-requires-in-Tree-clause-sized
add_range-requires-in-Tree-clause-sized c = (length c.args.context.now.files.now + length c.args.context.now.net.now.names, c.requires.table.sized, omega arith)

pub returns-in_ok-from-in-Folder : goal.returns-in_ok-from-in-Folder
returns-in_ok-from-in-Folder c =
    let net = c.args.context.now.net.now in
    let files = c.args.context.now.files.now in
    let path = c.in-Folder.path.now in
    let span = c.in_ok-from-in-Folder in
    let elements = rw c.as_bytes.ensures.value at span.ensures.elements in
    let is = c.add_range.ensures in
    subst (λ (t : Selector). IsAddition net files c.args.self.now c.args.set t c.add_range.result c.add_range.new.self) (sym (ap selector_content c.in-Folder.is))
    (files_addition net files c.args.self.now c.add_range.new.self c.args.set span.from span.to c.add_range.result is.sets is.any is.patterns is.modules is.count is.sized (Folder path) (IsBelow path) (λ m own. own) (λ m own. own) refl span.ensures.within elements)

pub returns-in-Tree : goal.returns-in-Tree
returns-in-Tree c =
    let net = c.args.context.now.net.now in
    let files = c.args.context.now.files.now in
    let elements : (k : ℕ) (f : File) → slice_get files k ≡ Some f → ((0 ≤ k) × (k < length files)) ↔ Unit {0} = λ k f at. let lt = get_low files k f at in ((λ in_span. tt), (λ u. (omega arith, lt))) in
    let is = c.add_range-in-Tree.ensures in
    subst (λ (t : Selector). IsAddition net files c.args.self.now c.args.set t c.add_range-in-Tree.result c.add_range-in-Tree.new.self) (sym (ap selector_content c.in-Tree.is))
    (files_addition net files c.args.self.now c.add_range-in-Tree.new.self c.args.set 0 (length files) c.add_range-in-Tree.result is.sets is.any is.patterns is.modules is.count is.sized Tree (λ path. Unit {0}) (λ m own. own) (λ m own. own) refl (omega arith) elements)
