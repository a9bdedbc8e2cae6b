-- The files of a tree and the parts of its modules.
use Rattle.std.proofs.Common.{◌≡◌, ℕ, zero, suc, List, [], ◌∷◌, length, map, Some, Ok, refl, sym, ap, ◌∙◌, subst, arith}
use Rattle.std.specs.Prelude.{slice_get, Box}
use Rattle.std.specs.Arc.{arc_value}
use Rattle.std.specs.declared.alloc.Global.{Global}
use Rattle.std.proofs.lemmas.Option.{slice_get_within}
use Rattle.ob_imports.specs.Files.{File}
use Rattle.ob_imports.specs.Graphs.{ImportGraph}
use Rattle.ob_imports.specs.Outcomes.{AreFilesOfGraph}
use Rattle.ob_interface.specs.Interfaces.{interface_of}
use Rattle.ob_scan.specs.Spelling.{IsOutcome}
use Rattle.scopes.specs.Scoped.{AreScopes}
use Rattle.source_tree.specs.Trees.{files_of as files_told, file_of as file_told, IsAccepted, ModuleFile}
use Rattle.source_tree.specs.Parts.{ArePartsOf, AreAllParts}
use Rattle.source_tree.specs.declared.parts.ModuleParts.{ModuleParts}
use Rattle.source_tree.specs.declared.source.Source.{Source}
use Rattle.source_tree.proofs.TreeFiles.{there}
use Rattle.ob_board.specs.Reached.{files_of, file_model, FileModel}
use Rattle.ob_board.specs.SourceParts.{file_models, file_model_in, AreSourcesRead}

is_read : (s : Source) (file : ModuleFile) (parts : ModuleParts) → IsAccepted s file → ArePartsOf file parts → file_model_in s parts ≡ file_model file
is_read s file parts accepted output_is = λ k. record { path = sym accepted.path_is k; bytes = sym accepted.bytes_are k; tokens = output_is.tokens_are k; rows = output_is.table_is k }

-- the files that the parts describe are the files that were read
seen_files : (sources : List Source) (modules : List (Box ModuleParts Global)) (files : List ModuleFile) → length files ≡ length sources → length modules ≡ length files
    → ((k : ℕ) (s : Source) (file : ModuleFile) (m : Box ModuleParts Global) → slice_get sources k ≡ Some s → slice_get files k ≡ Some file → slice_get modules k ≡ Some m → file_model_in s m.value ≡ file_model file)
    → file_models sources modules ≡ map file_model files
seen_files [] modules [] p q each = refl
seen_files [] modules (f ∷ files) p q each = absurd (omega arith)
seen_files (s ∷ sources) modules [] p q each = absurd (omega arith)
seen_files (s ∷ sources) [] (f ∷ files) p q each = absurd (omega arith)
seen_files (s ∷ sources) (m ∷ modules) (f ∷ files) p q each =
    let rest = seen_files sources modules files (omega arith) (omega arith) (λ k a b c at_a at_b at_c. each (suc k) a b c at_a at_b at_c) in
    let first = each zero s f m refl refl refl in
    ap (λ (x : FileModel). x ∷ file_models sources modules) first ∙ ap (λ (xs : List FileModel). file_model f ∷ xs) rest

told_seen : (files : List ModuleFile) → files_of (map file_model files) ≡ files_told files
told_seen [] = refl
told_seen (f ∷ files) = ap (λ (fs : List File). file_told f ∷ fs) (told_seen files)

module _ (sources : List Source) (files : List ModuleFile) (modules : List (Box ModuleParts Global)) (all : AreAllParts sources files modules) where
  pub seen_are : file_models sources modules ≡ map file_model files
  seen_are = seen_files sources modules files all.accepted.as_many all.as_many (λ k s file m at_s at_f at_m. is_read s file m.value (all.accepted.each k s file at_s at_f) (all.each k file m at_f at_m))

  pub parts_seen : (g : ImportGraph) → AreFilesOfGraph (files_told files) g → AreSourcesRead sources modules g
  parts_seen g kept = record {
    as_many = all.as_many ∙ all.accepted.as_many;
    each = λ k s m at_s at_m.
        let within = slice_get_within sources k s at_s in
        let many = all.accepted.as_many in
        let (file, at_f) = there files k (omega arith) in
        let accepted = all.accepted.each k s file at_s at_f in
        let output_is = all.each k file m at_f at_m in
        let same = is_read s file m.value accepted output_is in
        let P : FileModel → Type 0 = λ x. IsOutcome x.bytes (Ok x.tokens) in
        let Q : FileModel → Type 0 = λ x. AreScopes x.bytes x.tokens x.rows m.value.scopes in
        let R : FileModel → Type 0 = λ x. arc_value m.value.interface ≡ interface_of x.bytes x.tokens x.rows in
        record {
          reads = subst P (sym same) accepted.reads;
          scopes = subst Q (sym same) output_is.scopes_are;
          interface = subst R (sym same) output_is.interface_is;
        };
    kept = subst (λ (fs : List File). AreFilesOfGraph fs g) (sym (ap files_of seen_are ∙ told_seen files)) kept;
  }
