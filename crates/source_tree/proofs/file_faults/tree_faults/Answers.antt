use Rattle.std.proofs.Common.{◌≡◌, ◌∙◌, List, length, ap, sym, subst, rules}
use Rattle.std.proofs.lemmas.List.{nil_from_length}
use Rattle.scopes.specs.Scoped.{ModuleScopes}
use Rattle.source_tree.specs.FileFaults.{accepted_in, ArePartitionedFiles}
use Rattle.source_tree.specs.TreeReading.{AreFilesRead}
use Rattle.source_tree.specs.declared.tree_fault.TreeFault.{TreeFault}
use Rattle.source_tree.proofs.FileFaults.{parted, read_by, told_of_files}
use Rattle.source_tree.proofs.file_faults.tree_faults.Goals as goal

pub import_faults-requires : goal.import_faults-requires
import_faults-requires g c =
    let sources = c.args.sources.now in
    let verdicts = c.in_ok-verdicts.verdicts.items in
    let long : length c.in_ok-scopes.field-0.faults.items ≡ 0 = search rules in
    let none = sym c.in_ok-scopes.ensures.faults ∙ nil_from_length c.in_ok-scopes.field-0.faults.items long in
    let (files, read) = read_by sources verdicts c.in_ok-verdicts.ensures none in
    (files, subst (λ (scopes : List ModuleScopes). AreFilesRead sources files scopes) (sym c.in_ok-scopes.ensures.scopes ∙ sym c.as_slice.ensures.value) read)

pub returns : goal.returns
returns g c =
    let sources = c.args.sources.now in
    let verdicts = c.in_ok-verdicts.verdicts.items in
    let faults = c.in_ok-scopes.field-0.faults.items in
    told_of_files sources (accepted_in sources verdicts) faults (λ none. let long = ap (length {A = TreeFault}) none in let some = c.if-is_empty.false in absurd (search rules))
    (subst (λ (message : List TreeFault). ArePartitionedFiles sources (accepted_in sources verdicts) message) (sym c.in_ok-scopes.ensures.faults) (parted sources verdicts c.in_ok-verdicts.ensures))
