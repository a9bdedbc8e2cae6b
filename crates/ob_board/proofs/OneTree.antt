-- Two readings of a tree give equal files, and the interfaces that a module reaches are one list.
use Rattle.std.proofs.Common.{◌≡◌, ℕ, List, map, sym, ◌∙◌, subst, arith}
use Rattle.std.proofs.lemmas.Option.{slice_get_within}
use Rattle.ob_interface.specs.Interfaces.{ModuleInterface}
use Rattle.ob_scan.proofs.Outcomes.{spelled_once}
use Rattle.ob_scan.specs.Spelling.{Spells}
use Rattle.source_tree.proofs.SameFiles.{one_rows}
use Rattle.source_tree.proofs.TreeFiles.{same_maps, there}
use Rattle.source_tree.specs.Trees.{rows, AreAccepted, IsAccepted, ModuleFile}
use Rattle.source_tree.specs.declared.source.Source.{Source}
use Rattle.ob_board.specs.Reached.{file_model, AreReachedInterfaces, FileModel}
use Rattle.ob_board.proofs.ByName.{one_by_name}

same_seen : (s : Source) (a b : ModuleFile) → IsAccepted s a → IsAccepted s b → file_model a ≡ file_model b
same_seen s a b h k =
    let bytes : a.bytes ≡ b.bytes = h.bytes_are ∙ sym k.bytes_are in
    let spells : Spells a.bytes b.tokens = subst (λ (bs : List ℕ). Spells bs b.tokens) (sym bytes) k.reads.1 in
    let tokens : a.tokens ≡ b.tokens = spelled_once a.bytes a.tokens b.tokens h.reads.1 spells in
    let table : rows a ≡ rows b = one_rows a.bytes a.tokens b.tokens a.tree b.tree h.reads.1 spells h.is_tree.tree.derived k.is_tree.tree.derived in
    λ i. record { path = (h.path_is ∙ sym k.path_is) i; bytes = bytes i; tokens = tokens i; rows = table i }

pub tree_is_unique : (sources : List Source) (files others : List ModuleFile) → AreAccepted sources files → AreAccepted sources others → map file_model files ≡ map file_model others
tree_is_unique sources files others a b =
    same_maps file_model file_model files others (a.as_many ∙ sym b.as_many) (λ i file other at_file at_other.
    let within = slice_get_within files i file at_file in
    let many = a.as_many in
    let (s, at) = there sources i (omega arith) in
    same_seen s file other (a.each i s file at at_file) (b.each i s other at at_other))

-- ---- what a module reaches

pub one_reached : (files : List FileModel) (m : List ℕ) (reached others : List ModuleInterface) → AreReachedInterfaces files m reached → AreReachedInterfaces files m others → reached ≡ others
one_reached files m reached others a b =
    one_by_name reached others a.by_name b.by_name (λ i has. (b.exact i).1 ((a.exact i).0 has)) (λ i has. (a.exact i).1 ((b.exact i).0 has))
