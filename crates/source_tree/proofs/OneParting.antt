-- The errors of a tree are determined by the tree.
use Rattle.std.proofs.Common.{◌≡◌, ℕ, zero, suc, List, [], ◌∷◌, map, Some, refl, sym, ap, ap₂, ◌∙◌, subst, arith}
use Rattle.std.specs.Prelude.{◌↔◌, slice_get}
use Rattle.std.proofs.lemmas.Option.{slice_get_within}
use Rattle.std.proofs.lemmas.Bool.{false≢true}
use Rattle.texts.specs.Places.{Style}
use Rattle.source_tree.specs.FileFaults.{ArePartitionedFiles, AreTreeFaults, HasFileFault, IsAcceptedSource, no_file, sound, faulty, of_files, of_imports, of_nothing}
use Rattle.source_tree.specs.TreeFaults.{tree_fault_text}
use Rattle.source_tree.specs.Trees.{AreAccepted, IsAccepted, IsFirstFault, IsTree, IsTreeFault, ModuleFile}
use Rattle.source_tree.specs.declared.source.Source.{Source}
use Rattle.source_tree.specs.declared.tree_fault.TreeFault.{TreeFault}
use Rattle.source_tree.specs.declared.tree_fault.TreeFault.TheVariants as faults
use Rattle.source_tree.proofs.NoTreeFault.{no_file_fault, no_graph_fault}
use Rattle.source_tree.proofs.OneTreeFault.{one_file_fault, one_graph_fault}
use Rattle.source_tree.proofs.TreeFiles.{there, Each}

-- no file is both accepted and has an error of its own
not_both : (s : Source) (fault : TreeFault) → IsAcceptedSource s → HasFileFault s fault → ⊥
not_both s fault (file, ok) (known, own) = false≢true (sym known ∙ no_file_fault s file fault ok own)

-- the accepted files are determined
pub one_accepted : (sources accepted others : List Source) (faults more : List TreeFault) → ArePartitionedFiles sources accepted faults → ArePartitionedFiles sources others more → accepted ≡ others
one_accepted _ _ _ _ _ no_file no_file = refl
one_accepted (s ∷ sources) _ _ _ _ (sound is p) (sound also q) = ap (λ (xs : List Source). s ∷ xs) (one_accepted sources _ _ _ _ p q)
one_accepted _ _ _ _ _ (sound is p) (faulty own q) = absurd (not_both _ _ is own)
one_accepted _ _ _ _ _ (faulty own p) (sound is q) = absurd (not_both _ _ is own)
one_accepted (s ∷ sources) _ _ _ _ (faulty own p) (faulty also q) = one_accepted sources _ _ _ _ p q

-- and so are the messages for the others
pub one_told : (style : Style) (sources accepted others : List Source) (faults more : List TreeFault) → ArePartitionedFiles sources accepted faults → ArePartitionedFiles sources others more →
    map (tree_fault_text style) faults ≡ map (tree_fault_text style) more
one_told style _ _ _ _ _ no_file no_file = refl
one_told style _ _ _ _ _ (sound is p) (sound also q) = one_told style _ _ _ _ _ p q
one_told style _ _ _ _ _ (sound is p) (faulty own q) = absurd (not_both _ _ is own)
one_told style _ _ _ _ _ (faulty own p) (sound is q) = absurd (not_both _ _ is own)
one_told style (s ∷ sources) _ _ (fault ∷ faults) (other ∷ more) (faulty (known, own) p) (faulty (sure, also) q) =
    ap₂ (λ (t : List ℕ) (ts : List (List ℕ)). t ∷ ts) (one_file_fault style s fault other known sure own also) (one_told style sources _ _ faults more p q)

-- no accepted file has an error
none_faulty : (sources accepted : List Source) (faults : List TreeFault) → ((i : ℕ) (s : Source) → slice_get sources i ≡ Some s → IsAcceptedSource s) → ArePartitionedFiles sources accepted faults → faults ≡ []
none_faulty _ _ _ ok no_file = refl
none_faulty (s ∷ sources) _ _ ok (sound is p) = none_faulty sources _ _ (λ i t e. ok (suc i) t e) p
none_faulty (s ∷ sources) _ _ ok (faulty own p) = absurd (not_both s _ (ok zero s refl) own)

no_own_fault : (sources accepted : List Source) (files : List ModuleFile) (faults : List TreeFault) → AreAccepted sources files → ArePartitionedFiles sources accepted faults → faults ≡ []
no_own_fault sources accepted files faults ok p = none_faulty sources accepted faults (λ i s at.
    let within = slice_get_within sources i s at in
    let many = ok.as_many in
    let (file, at_file) = there files i (omega arith) in
    (file, ok.each i s file at at_file)) p

-- the messages for all errors of a tree are determined
pub fault_list_is_unique : (style : Style) (sources : List Source) (faults more : List TreeFault) → AreTreeFaults sources faults → AreTreeFaults sources more → map (tree_fault_text style) faults ≡ map (tree_fault_text style) more
fault_list_is_unique style sources faults more (of_files p) (of_files q) = one_told style sources _ _ faults more p q
fault_list_is_unique style sources faults more (of_files p) (of_imports g) = let none : faults ≡ [] = no_own_fault sources _ g.files faults g.accepted p in absurd cc
fault_list_is_unique style sources faults more (of_files p) (of_nothing tree) = let none : faults ≡ [] = no_own_fault sources _ _ faults tree.accepted p in absurd cc
fault_list_is_unique style sources faults more (of_imports g) (of_files q) = let none : more ≡ [] = no_own_fault sources _ g.files more g.accepted q in absurd cc
fault_list_is_unique style sources faults more (of_imports g) (of_imports k) = ap (λ (t : List ℕ). t ∷ []) (one_graph_fault style sources _ _ g k)
fault_list_is_unique style sources faults more (of_imports g) (of_nothing tree) = absurd (no_graph_fault sources _ _ tree g)
fault_list_is_unique style sources faults more (of_nothing tree) (of_files q) = let none : more ≡ [] = no_own_fault sources _ _ more tree.accepted q in absurd cc
fault_list_is_unique style sources faults more (of_nothing tree) (of_imports g) = absurd (no_graph_fault sources _ _ tree g)
fault_list_is_unique style sources faults more (of_nothing tree) (of_nothing other) = refl

-- the list of errors is empty exactly for an accepted tree
pub nothing_told : (sources : List Source) (faults : List TreeFault) → AreTreeFaults sources faults → faults ≡ [] ↔ ((files : List ModuleFile) × IsTree sources files)
nothing_told sources faults (of_files p) = (λ e. absurd cc, λ (files, tree). no_own_fault sources _ files faults tree.accepted p)
nothing_told sources faults (of_imports g) = (λ e. absurd cc, λ (files, tree). absurd (no_graph_fault sources files _ tree g))
nothing_told sources faults (of_nothing tree) = (λ e. (_, tree), λ _. refl)

---- the first error

each_first : {X Y : Type 0} (P : X → Y → Type 0) (x : X) (xs : List X) (y : Y) (ys : List Y) → P x y → Each P xs ys → Each P (x ∷ xs) (y ∷ ys)
each_first {X} {Y} P x xs y ys here h zero u v p q = let same_x : x ≡ u = cc in let same_y : y ≡ v = cc in subst (λ (w : X). P w v) same_x (subst (λ (w : Y). P x w) same_y here)
each_first P x xs y ys here h (suc i) u v p q = h i u v p q

first_parted : (sources accepted : List Source) (fault : TreeFault) (faults : List TreeFault) → ArePartitionedFiles sources accepted (fault ∷ faults) → IsFirstFault sources fault
first_parted [] _ fault faults p = elim p [ ]
first_parted (s ∷ sources) _ fault faults (sound (file, ok) p) =
    let rest = first_parted sources _ fault faults p in
    record {
      before = s ∷ rest.before;
      source = rest.source;
      after = rest.after;
      split = ap (λ (xs : List Source). s ∷ xs) rest.split;
      files_before = file ∷ rest.files_before;
      accepted_before = record { as_many = ap suc rest.accepted_before.as_many; each = each_first IsAccepted s rest.before file rest.files_before ok rest.accepted_before.each };
      has_fault = rest.has_fault;
    }
first_parted (s ∷ sources) _ fault faults (faulty (known, own) p) = record {
  before = [];
  source = s;
  after = sources;
  split = refl;
  files_before = [];
  accepted_before = record { as_many = refl; each = λ i t file p q. absurd cc };
  has_fault = own;
}

of_tree : (sources : List Source) (fault : TreeFault) → IsFirstFault sources fault → IsTreeFault sources fault
of_tree sources (faults.Scan path at fault) h = h
of_tree sources (faults.Parse path at fault) h = h
of_tree sources (faults.Scope path at fault) h = h
of_tree sources (faults.Graph fault) h = absurd h.has_fault
of_tree sources faults.Memory h = tt

-- it is the error of the tree
pub first_is_fault : (sources : List Source) (fault : TreeFault) (more : List TreeFault) → AreTreeFaults sources (fault ∷ more) → IsTreeFault sources fault
first_is_fault sources fault more (of_files p) = of_tree sources fault (first_parted sources _ fault more p)
first_is_fault sources fault more (of_imports g) = g
