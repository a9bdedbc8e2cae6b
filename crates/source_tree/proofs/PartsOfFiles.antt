-- The parts of files' modules.
use Rattle.std.proofs.Common.{◌≡◌, List, map, Some, sym, ap, ◌∙◌, subst, arith}
use Rattle.std.specs.Prelude.{option_map, Box}
use Rattle.std.specs.declared.alloc.Global.{Global}
use Rattle.std.proofs.lemmas.List.{length-map}
use Rattle.std.proofs.lemmas.Option.{slice_get-map, slice_get_within}
use Rattle.source_tree.specs.Trees.{ModuleFile}
use Rattle.source_tree.specs.TreeReading.{AreFilesRead, AreScopesOf}
use Rattle.source_tree.specs.Parts.{AreAllParts}
use Rattle.source_tree.specs.declared.parts.ModuleParts.{ModuleParts}
use Rattle.source_tree.specs.declared.source.Source.{Source}
use Rattle.source_tree.proofs.TreeFiles.{there}

-- the scopes of the files are among their parts
pub parts_read : (sources : List Source) (files : List ModuleFile) (all : List (Box ModuleParts Global)) → AreAllParts sources files all → AreFilesRead sources files (map (λ (b : Box ModuleParts Global). b.value.scopes) all)
parts_read sources files all are = record {
  accepted = are.accepted;
  as_many = length-map all (λ (b : Box ModuleParts Global). b.value.scopes) ∙ are.as_many;
  each = λ i file s at_file at_s.
      let within = slice_get_within files i file at_file in
      let many = are.as_many in
      let (parts, at) = there all i (omega arith) in
      let same : Some parts.value.scopes ≡ Some s = sym (slice_get-map (λ (b : Box ModuleParts Global). b.value.scopes) all i ∙ ap (option_map (λ (b : Box ModuleParts Global). b.value.scopes)) at) ∙ at_s in
      let equal : parts.value.scopes ≡ s = cc in
      subst (AreScopesOf file) equal (are.each i file parts at_file at).scopes_are;
}
