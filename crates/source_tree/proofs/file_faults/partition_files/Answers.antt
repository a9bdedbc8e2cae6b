use Rattle.std.proofs.Common.{◌≡◌, ◌∙◌, List, ap, length, sym, subst}
use Rattle.source_tree.specs.FileFaults.{accepted_in, faults_in, ArePartitionedFiles, AreVerdicts, Verdict}
use Rattle.source_tree.specs.Sources.{ArePathsInOrder}
use Rattle.source_tree.specs.declared.source.Source.{Source}
use Rattle.source_tree.specs.declared.tree_fault.TreeFault.{TreeFault}
use Rattle.source_tree.proofs.FileFaults.{accepted_in_order, as_many_verdicts, parted}
use Rattle.source_tree.proofs.file_faults.partition_files.Goals as goal

pub select_accepted-requires : goal.select_accepted-requires
select_accepted-requires g c =
    ap (length {A = Verdict}) c.as_slice-2.ensures.value ∙ as_many_verdicts c.args.sources.items c.in_ok-verdicts.verdicts.items (subst (λ (sources : List Source). AreVerdicts sources c.in_ok-verdicts.verdicts.items) c.as_slice.ensures.value c.in_ok-verdicts.ensures)

pub returns-clause-parted : goal.returns-clause-parted
returns-clause-parted g c =
    let sources = c.args.sources.items in
    let verdicts = c.in_ok-verdicts.verdicts.items in
    let own = subst (λ (files : List Source). AreVerdicts files verdicts) c.as_slice.ensures.value c.in_ok-verdicts.ensures in
    let accepted : c.in_ok-accepted.accepted.items ≡ accepted_in sources verdicts = c.in_ok-accepted.ensures ∙ ap (accepted_in sources) c.as_slice-2.ensures.value in
    subst (λ (files : List Source). ArePartitionedFiles sources files c.in_ok-faults.field-0.faults.items) (sym accepted)
    (subst (λ (faults : List TreeFault). ArePartitionedFiles sources (accepted_in sources verdicts) faults) (sym c.in_ok-faults.ensures.faults) (parted sources verdicts own))

pub returns-clause-order : goal.returns-clause-order
returns-clause-order g c = λ up.
    let sources = c.args.sources.items in
    let verdicts = c.in_ok-verdicts.verdicts.items in
    let own = subst (λ (files : List Source). AreVerdicts files verdicts) c.as_slice.ensures.value c.in_ok-verdicts.ensures in
    let accepted : c.in_ok-accepted.accepted.items ≡ accepted_in sources verdicts = c.in_ok-accepted.ensures ∙ ap (accepted_in sources) c.as_slice-2.ensures.value in
    subst (λ (files : List Source). ArePathsInOrder files) (sym accepted) (accepted_in_order sources (accepted_in sources verdicts) (faults_in verdicts) (parted sources verdicts own) up)
