-- An accepted tree has no error but a failed allocation.
use Rattle.std.proofs.Common.{◌≡◌, ℕ, true, List, ◌∷◌, ◌++◌, length, Some, Ok, Err, refl, sym, ap, ◌∙◌, subst, length-append, arith}
use Rattle.std.specs.Prelude.{slice_get}
use Rattle.std.proofs.Math.Seq.{get_or-append_seam}
use Rattle.std.proofs.lemmas.Option.{slice_get-get_or}
use Rattle.ob_imports.specs.declared.fault.GraphFault.{GraphFault}
use Rattle.ob_imports.specs.Files.{File}
use Rattle.ob_imports.specs.Outcomes.{IsGraphOutcome}
use Rattle.ob_imports.proofs.OneOutcome.{outcome_is_unique}
use Rattle.ob_scan.specs.declared.fault.ScanFault.{ScanFault}
use Rattle.ob_scan.specs.declared.fault.ScanFault.TheVariants as scans
use Rattle.ob_scan.specs.declared.token.Token.{Token}
use Rattle.ob_scan.specs.Spelling.{IsOutcome}
use Rattle.ob_scan.proofs.Outcomes.{outcome_once, spelled_once}
use Rattle.ob_scan.specs.Texts.{text_at}
use Rattle.ob_tree.specs.declared.declaration.Module.{Module}
use Rattle.ob_grammar.specs.declared.fault.ParseFault.{ParseFault}
use Rattle.ob_grammar.specs.declared.fault.ParseFault.TheVariants as parses
use Rattle.ob_grammar.specs.Parsed.{IsFaultOf, IsTheTree}
use Rattle.ob_grammar.proofs.OneTree.{no_fault}
use Rattle.table_rules.specs.Declaring.{rows_of}
use Rattle.module_table.specs.Parts.{Rows}
use Rattle.ob_scope.specs.declared.fault.ScopeFault.{ScopeFault}
use Rattle.ob_scope.specs.declared.fault.ScopeFault.TheVariants as scopes
use Rattle.scopes.specs.Members.{members_of}
use Rattle.scopes.specs.Scope.{HasNoDuplicates}
use Rattle.ob_scope.specs.Faults.{IsScopeFault}
use Rattle.scopes.proofs.Meanings.{no_first}
use Rattle.source_tree.specs.TreeFaults.{is_out_of_memory}
use Rattle.source_tree.specs.Trees.{files_of, rows, AreAccepted, HasParseFault, HasScanFault, HasScopeFault, IsAccepted, IsFileFault, IsFirstFault, IsGraphFault, IsTree, IsTreeFault, ModuleFile}
use Rattle.source_tree.specs.declared.source.Source.{Source}
use Rattle.source_tree.specs.declared.tree_fault.TreeFault.{TreeFault}
use Rattle.source_tree.specs.declared.tree_fault.TreeFault.TheVariants as faults
use Rattle.source_tree.proofs.SameFiles.{one_rows, same_files}
use Rattle.source_tree.proofs.TreeFiles.{there}

-- ---- one file

no_other : (bytes : List ℕ) (ts : List Token) (fault : ScanFault) → IsOutcome bytes (Ok ts) → IsOutcome bytes (Err fault) → ⊥
no_other bytes ts fault h k = let e = outcome_once bytes (Ok ts) (Err fault) h k in absurd cc

-- bytes that have tokens have no scanner error
pub no_scan_fault : (bytes : List ℕ) (ts : List Token) (fault : ScanFault) → IsOutcome bytes (Ok ts) → HasScanFault fault bytes → fault ≡ scans.Memory
no_scan_fault bytes ts (scans.BadByte at) h f = absurd (no_other bytes ts (scans.BadByte at) h f)
no_scan_fault bytes ts (scans.BadNumber at) h f = absurd (no_other bytes ts (scans.BadNumber at) h f)
no_scan_fault bytes ts (scans.OpenString at) h f = absurd (no_other bytes ts (scans.OpenString at) h f)
no_scan_fault bytes ts (scans.OpenComment at) h f = absurd (no_other bytes ts (scans.OpenComment at) h f)
no_scan_fault bytes ts scans.TooLong h f = absurd (no_other bytes ts scans.TooLong h f)
no_scan_fault bytes ts scans.Memory h f = refl

-- tokens that have a syntax tree have no parser error
pub no_parse_fault : (bytes : List ℕ) (ts : List Token) (m : Module) (fault : ParseFault) → IsOutcome bytes (Ok ts) → IsTheTree bytes ts m → HasParseFault fault bytes → fault ≡ parses.Memory
no_parse_fault bytes ts m fault h tree (us, reads, f) =
    no_fault bytes ts m fault tree (subst (λ (vs : List Token). IsFaultOf bytes vs fault) (spelled_once bytes us ts reads.1 h.1) f)

-- names that are declared once are not declared twice
no_twice : (bytes : List ℕ) (ts : List Token) (r : Rows) (fault : ScopeFault) → HasNoDuplicates (text_at bytes ts) (members_of r) → IsScopeFault bytes ts r fault → fault ≡ scopes.Memory
no_twice bytes ts r (scopes.Twice name first second) once (d, e, block, located_message, h) = absurd (no_first (text_at bytes ts) (members_of r) d e once h.is_first)
no_twice bytes ts r (scopes.TwiceField name first second) once (d, e, token, located_message, h) = absurd (no_first (text_at bytes ts) (members_of r) d e once h.is_first)
no_twice bytes ts r scopes.Memory once h = refl

-- an error of names belongs to the tokens and the tree of the file
pub scope_fault_of : (bytes : List ℕ) (ts : List Token) (m : Module) (fault : ScopeFault) → IsOutcome bytes (Ok ts) → IsTheTree bytes ts m → HasScopeFault fault bytes → IsScopeFault bytes ts (rows_of m) fault
scope_fault_of bytes ts m fault h tree (us, n, reads, other, f) =
    let tokens : us ≡ ts = spelled_once bytes us ts reads.1 h.1 in
    let listed : rows_of n ≡ rows_of m = one_rows bytes us ts n m reads.1 h.1 other.tree.derived tree.tree.derived in
    subst (λ (r : Rows). IsScopeFault bytes ts r fault) listed (subst (λ (vs : List Token). IsScopeFault bytes vs (rows_of n) fault) tokens f)

pub no_file_fault : (s : Source) (file : ModuleFile) (fault : TreeFault) → IsAccepted s file → IsFileFault s fault → is_out_of_memory fault ≡ true
no_file_fault s file fault ok h = go fault h
  where
    reads : IsOutcome s.bytes.items (Ok file.tokens)
    reads = subst (λ (bs : List ℕ). IsOutcome bs (Ok file.tokens)) ok.bytes_are ok.reads

    tree : IsTheTree s.bytes.items file.tokens file.tree
    tree = subst (λ (bs : List ℕ). IsTheTree bs file.tokens file.tree) ok.bytes_are ok.is_tree

    once : HasNoDuplicates (text_at s.bytes.items file.tokens) (members_of (rows file))
    once = subst (λ (bs : List ℕ). HasNoDuplicates (text_at bs file.tokens) (members_of (rows file))) ok.bytes_are ok.once

    go : (fault : TreeFault) → IsFileFault s fault → is_out_of_memory fault ≡ true
    go (faults.Scan path at fault) (known, h) = absurd (known (no_scan_fault s.bytes.items file.tokens fault reads h.has_fault))
    go (faults.Parse path at fault) (known, h) = absurd (known (no_parse_fault s.bytes.items file.tokens file.tree fault reads tree h.has_fault))
    go (faults.Scope path at fault) (known, h) =
        absurd (known (no_twice s.bytes.items file.tokens (rows file) fault once (scope_fault_of s.bytes.items file.tokens file.tree fault reads tree h.has_fault)))
    go (faults.Graph fault) h = absurd h
    go faults.Memory h = refl

-- ---- all files

pub at_seam : {X : Type 0} (before after : List X) (x : X) → slice_get (before ++ x ∷ after) (length before) ≡ Some x
at_seam before after x =
    let long = length-append before (x ∷ after) in
    slice_get-get_or (before ++ x ∷ after) (length before) x (omega arith) ∙ ap Some (get_or-append_seam before x after x)

pub no_first_fault : (sources : List Source) (files : List ModuleFile) (fault : TreeFault) → AreAccepted sources files → IsFirstFault sources fault → is_out_of_memory fault ≡ true
no_first_fault sources files fault ok f =
    let at : slice_get sources (length f.before) ≡ Some f.source = subst (λ (ss : List Source). slice_get ss (length f.before) ≡ Some f.source) (sym f.split) (at_seam f.before f.after f.source) in
    let many : length sources ≡ length (f.before ++ f.source ∷ f.after) = ap length f.split in
    let long = length-append f.before (f.source ∷ f.after) in
    let as_many = ok.as_many in
    let (file, at_file) = there files (length f.before) (omega arith) in
    no_file_fault f.source file fault (ok.each (length f.before) f.source file at at_file) f.has_fault

-- the imports of an accepted tree aren't rejected
pub no_graph_fault : (sources : List Source) (files : List ModuleFile) (fault : GraphFault) → IsTree sources files → IsGraphFault sources fault → ⊥
no_graph_fault sources files fault tree f =
    let same : files_of f.files ≡ files_of files = same_files sources f.files files f.accepted tree.accepted in
    let outcome : IsGraphOutcome (files_of files) (Err f.refusal) = subst (λ (fs : List File). IsGraphOutcome fs (Err f.refusal)) same f.is_outcome in
    let e = outcome_is_unique (files_of files) (Ok tree.graph) (Err f.refusal) (tree.kept, tree.acyclic) outcome in
    absurd cc

pub no_tree_fault : (sources : List Source) (files : List ModuleFile) (fault : TreeFault) → IsTree sources files → IsTreeFault sources fault → is_out_of_memory fault ≡ true
no_tree_fault sources files (faults.Scan path at fault) tree h = no_first_fault sources files (faults.Scan path at fault) tree.accepted h
no_tree_fault sources files (faults.Parse path at fault) tree h = no_first_fault sources files (faults.Parse path at fault) tree.accepted h
no_tree_fault sources files (faults.Scope path at fault) tree h = no_first_fault sources files (faults.Scope path at fault) tree.accepted h
no_tree_fault sources files (faults.Graph fault) tree h = absurd (no_graph_fault sources files fault tree h)
no_tree_fault sources files faults.Memory tree h = refl
