-- Files that are checked independently of the other files.
use Rattle.std.proofs.Common.{◌≡◌, ℕ, zero, suc, ◌+◌, ◌<◌, false, List, [], ◌∷◌, ◌++◌, length, get_or, take, refl, sym, ap, ◌∙◌, subst, append_assoc, arith}
use Rattle.std.specs.Prelude.{Result, Ok, Err, Vec}
use Rattle.std.specs.Cmp.Lexicographic.{slice_cmp, nat_list_cmp_total}
use Rattle.std.specs.List.{AllByRecursion}
use Rattle.std.specs.List.Sorted.{IsStrictlySortedBy}
use Rattle.std.specs.Ordering.{nat_cmp}
use Rattle.std.specs.String.{string_bytes}
use Rattle.std.specs.declared.cmp.Ordering.TheVariants.{Less}
use Rattle.std.specs.declared.alloc.AllocError.{AllocError}
use Rattle.std.specs.declared.alloc.Global.{Global}
use Rattle.std.proofs.lemmas.Bool.{false≢true}
use Rattle.std.proofs.lemmas.List.{append-nil}
use Rattle.std.proofs.lemmas.Map.Keys.{sorted_from_all_adjacent, sorted_head, sorted_tail, Less-from_sorted}
use Rattle.ob_imports.specs.declared.fault.GraphFault.{GraphFault}
use Rattle.ob_imports.specs.declared.fault.GraphFault.TheVariants as graphs
use Rattle.ob_imports.specs.Outcomes.{IsGraphOutcome, UnlessMemory}
use Rattle.source_tree.specs.Files.{AreOfChunks}
use Rattle.source_tree.specs.Sources.{paths_of, ArePathsInOrder}
use Rattle.source_tree.specs.FileFaults.{accepted_in, faults_in, scopes_in, ReadsVerdicts, ArePartitionedFiles, AreTreeFaults, AreVerdicts, IsVerdict, Verdict, no_file, sound, faulty, of_files}
use Rattle.source_tree.specs.TreeFaults.{graph_out_of_memory}
use Rattle.source_tree.specs.TreeReading.{AreFilesRead, AreScopesOf}
use Rattle.source_tree.specs.Trees.{files_of, AreAccepted, IsGraphFault, ModuleFile}
use Rattle.source_tree.specs.declared.source.Source.{Source}
use Rattle.source_tree.specs.declared.tree_fault.TreeFault.{TreeFault}
use Rattle.source_tree.proofs.ReadFiles.{all_joined, all_none, all_one}
use Rattle.source_tree.proofs.TreeFiles.{at_item, take_at}

-- ---- verdicts, one after the other

pub verdicts_joined : (xs ys : List Source) (vs ws : List Verdict) → AreVerdicts xs vs → AreVerdicts ys ws → AreVerdicts (xs ++ ys) (vs ++ ws)
verdicts_joined [] ys [] ws p q = q
verdicts_joined [] ys (v ∷ vs) ws p q = absurd p
verdicts_joined (s ∷ xs) ys [] ws p q = absurd p
verdicts_joined (s ∷ xs) ys (v ∷ vs) ws (here, p) q = (here, verdicts_joined xs ys vs ws p q)

-- one more file
pub verdict_next : (sources : List Source) (i : ℕ) (source : Source) (all : List Verdict) (v : Verdict) → i < length sources → source ≡ get_or sources i source → AreVerdicts (take i sources) all →
    IsVerdict source v → AreVerdicts (take (i + 1) sources) (all ++ v ∷ [])
verdict_next sources i source all v l is before here =
    subst (λ (front : List Source). AreVerdicts front (all ++ v ∷ [])) (sym (take_at sources i source (at_item sources i source l is)))
    (verdicts_joined (take i sources) (source ∷ []) all (v ∷ []) before (here, tt))

pub as_many_verdicts : (sources : List Source) (vs : List Verdict) → AreVerdicts sources vs → length vs ≡ length sources
as_many_verdicts [] [] h = refl
as_many_verdicts [] (v ∷ vs) h = absurd h
as_many_verdicts (s ∷ sources) [] h = absurd h
as_many_verdicts (s ∷ sources) (v ∷ vs) (here, h) = ap suc (as_many_verdicts sources vs h)

-- ---- chunks

-- the files before a chunk have their verdicts, and the rest is there
pub record HaveVerdictsBefore (sources : List Source) (all : List Verdict) (answers : List (Result (Vec Verdict Global) AllocError)) : Type 0 where
  pub front : List Source
  pub rest : List Source
  pub whole : sources ≡ front ++ rest
  pub are : AreVerdicts front all
  pub pieces : AreOfChunks ReadsVerdicts rest answers

pub verdicts_before : (sources : List Source) (answers : List (Result (Vec Verdict Global) AllocError)) → AreOfChunks ReadsVerdicts sources answers → HaveVerdictsBefore sources [] answers
verdicts_before sources answers pieces = record { front = []; rest = sources; whole = refl; are = tt; pieces = pieces }

pub verdicts_of_piece : (sources : List Source) (all : List Verdict) (more : Vec Verdict Global) (answers : List (Result (Vec Verdict Global) AllocError)) → HaveVerdictsBefore sources all (Ok more ∷ answers) →
    HaveVerdictsBefore sources (all ++ more.items) answers
verdicts_of_piece sources all more answers h =
    let (piece, rest, split, are, pieces) = h.pieces in
    record {
      front = h.front ++ piece;
      rest = rest;
      whole = h.whole ∙ ap (λ (xs : List Source). h.front ++ xs) split ∙ sym (append_assoc h.front piece rest);
      are = verdicts_joined h.front piece all more.items h.are are;
      pieces = pieces;
    }

pub verdicts_of_all : (sources : List Source) (all : List Verdict) → HaveVerdictsBefore sources all [] → AreVerdicts sources all
verdicts_of_all sources all h =
    let whole : sources ≡ h.front = h.whole ∙ ap (λ (xs : List Source). h.front ++ xs) h.pieces ∙ append-nil h.front in
    subst (λ (xs : List Source). AreVerdicts xs all) (sym whole) h.are

---- what the verdicts imply

-- the files that the verdicts accept
pub parted : (sources : List Source) (vs : List Verdict) → AreVerdicts sources vs → ArePartitionedFiles sources (accepted_in sources vs) (faults_in vs)
parted [] [] h = no_file
parted [] (v ∷ vs) h = absurd h
parted (s ∷ sources) [] h = absurd h
parted (s ∷ sources) (Ok scopes ∷ vs) ((file, accepted, are), h) = sound (file, accepted) (parted sources vs h)
parted (s ∷ sources) (Err fault ∷ vs) (own, h) = faulty own (parted sources vs h)

-- if some file has an error, the errors of the files are the errors of the tree
pub told_of_files : (sources accepted : List Source) (faults : List TreeFault) → (faults ≡ [] → ⊥) → ArePartitionedFiles sources accepted faults → AreTreeFaults sources faults
told_of_files sources accepted [] some p = absurd (some refl)
told_of_files sources accepted (fault ∷ faults) some p = of_files p

-- if no verdict is an error, all files are read
pub read_by : (sources : List Source) (vs : List Verdict) → AreVerdicts sources vs → faults_in vs ≡ [] → (files : List ModuleFile) × AreFilesRead sources files (scopes_in vs)
read_by [] [] h e = ([], all_none AreScopesOf)
read_by [] (v ∷ vs) h e = absurd h
read_by (s ∷ sources) [] h e = absurd h
read_by (s ∷ sources) (Ok scopes ∷ vs) ((file, accepted, are), h) e =
    let (files, read) = read_by sources vs h e in
    (file ∷ files, all_joined AreScopesOf (s ∷ []) sources (file ∷ []) files (scopes ∷ []) (scopes_in vs) (all_one AreScopesOf s file scopes accepted are) read)
read_by (s ∷ sources) (Err fault ∷ vs) h e = absurd cc

-- an error of the imports of accepted files
pub graph_fault_of : (sources : List Source) (files : List ModuleFile) (fault : GraphFault) → AreAccepted sources files → graph_out_of_memory fault ≡ false →
    UnlessMemory fault (λ refusal. IsGraphOutcome (files_of files) (Err refusal)) → IsGraphFault sources fault
graph_fault_of sources files (graphs.TwoModules name first second) accepted known h = record { files = files; accepted = accepted; refusal = _; said = refl; is_outcome = h }
graph_fault_of sources files (graphs.Cycle names) accepted known h = record { files = files; accepted = accepted; refusal = _; said = refl; is_outcome = h }
graph_fault_of sources files graphs.TooMany accepted known h = record { files = files; accepted = accepted; refusal = _; said = refl; is_outcome = h }
graph_fault_of sources files graphs.Memory accepted known h = absurd (false≢true (sym known))

-- ---- the order

-- a path before strictly increasing paths is below each of them
first_below : (path : List ℕ) (paths : List (List ℕ)) → AllByRecursion (λ other. slice_cmp nat_cmp path other ≡ Less) paths → IsStrictlySortedBy (slice_cmp nat_cmp) paths →
    IsStrictlySortedBy (slice_cmp nat_cmp) (path ∷ paths)
first_below path paths below up = sorted_from_all_adjacent nat_list_cmp_total (path ∷ paths) [] (next paths below up)
  where
    next : (ps : List (List ℕ)) → AllByRecursion (λ other. slice_cmp nat_cmp path other ≡ Less) ps → IsStrictlySortedBy (slice_cmp nat_cmp) ps →
        (k : ℕ) → k + 1 < length (path ∷ ps) → slice_cmp nat_cmp (get_or (path ∷ ps) k []) (get_or (path ∷ ps) (k + 1) []) ≡ Less
    next [] h s k l = absurd (omega arith)
    next (p ∷ ps) h s zero l = h.0
    next (p ∷ ps) h s (suc k) l =
        let same : suc k + 1 ≡ suc (k + 1) = omega arith in
        rw same (Less-from_sorted (slice_cmp nat_cmp) (p ∷ ps) k (k + 1) [] s (omega arith) (omega arith))

-- what holds of the paths of all files holds of those of the accepted ones
paths_among : (P : List ℕ → Type 0) (sources accepted : List Source) (faults : List TreeFault) → ArePartitionedFiles sources accepted faults → AllByRecursion P (paths_of sources) → AllByRecursion P (paths_of accepted)
paths_among P _ _ _ no_file h = h
paths_among P _ _ _ (sound is p) (here, h) = (here, paths_among P _ _ _ p h)
paths_among P _ _ _ (faulty own p) (here, h) = paths_among P _ _ _ p h

-- if all files are sorted by path, so are the accepted ones
pub accepted_in_order : (sources accepted : List Source) (faults : List TreeFault) → ArePartitionedFiles sources accepted faults → ArePathsInOrder sources → ArePathsInOrder accepted
accepted_in_order _ _ _ no_file up = up
accepted_in_order (s ∷ sources) _ _ (sound is p) up =
    first_below (string_bytes s.path) _ (paths_among _ sources _ _ p (sorted_head (slice_cmp nat_cmp) (string_bytes s.path) (paths_of sources) up))
    (accepted_in_order sources _ _ p (sorted_tail (slice_cmp nat_cmp) (string_bytes s.path) (paths_of sources) up))
accepted_in_order (s ∷ sources) _ _ (faulty own p) up = accepted_in_order sources _ _ p (sorted_tail (slice_cmp nat_cmp) (string_bytes s.path) (paths_of sources) up)
