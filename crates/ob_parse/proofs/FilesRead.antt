-- The modules that are read from files, from the parts of the modules and their syntax trees.
use Rattle.std.proofs.Common.{◌≡◌, ℕ, zero, suc, ◌+◌, ◌<◌, ◌≤◌, List, [], ◌∷◌, ◌++◌, length, get_or, take, drop, Some, Ok, refl, sym, ap, ◌∙◌, subst, length-append, arith}
use Rattle.std.specs.Prelude.{slice_get, Box}
use Rattle.std.specs.declared.alloc.Global.{Global}
use Rattle.std.proofs.lemmas.List.{length-drop, take_all}
use Rattle.std.proofs.lemmas.Option.{slice_get_within}
use Rattle.table_rules.specs.Declaring.{rows_of}
use Rattle.ob_interface.specs.Interfaces.{interface_of}
use Rattle.ob_grammar.specs.Parsed.{IsTheTree}
use Rattle.module_table.specs.Parts.{Rows}
use Rattle.ob_scan.specs.declared.token.Token.{Token}
use Rattle.ob_scan.specs.Spelling.{IsOutcome}
use Rattle.scopes.specs.Members.{members_of}
use Rattle.scopes.specs.Scope.{HasNoDuplicates}
use Rattle.scopes.specs.Scoped.{AreScopes}
use Rattle.ob_tree.specs.declared.declaration.Module.{Module}
use Rattle.source_tree.specs.Files.{AreAllOf}
use Rattle.source_tree.specs.Trees.{names, rows, IsAccepted, IsFileFault, IsTreeFault, ModuleFile}
use Rattle.source_tree.specs.Parts.{AreAllParts, ArePartsOf, HasParts}
use Rattle.ob_parse.specs.Readings.{AreAllRead, HasReading, IsReadOf}
use Rattle.source_tree.specs.declared.parts.ModuleParts.{ModuleParts}
use Rattle.ob_parse.specs.declared.reading.ParsedModule.{ParsedModule}
use Rattle.source_tree.specs.declared.source.Source.{Source}
use Rattle.source_tree.specs.declared.tree_fault.TreeFault.{TreeFault}
use Rattle.source_tree.proofs.ReadFiles.{all_next, all_none, first_fault, of_tree}
use Rattle.source_tree.proofs.SameFiles.{one_rows}
use Rattle.source_tree.proofs.TreeFiles.{at_item, there}

-- the tokens among the parts of a file spell it
pub tokens_spell : (source : Source) (parts : Box ModuleParts Global) → HasParts source parts → IsOutcome source.bytes.items (Ok parts.value.tokens)
tokens_spell source parts (file, accepted, of) =
    subst (λ (bytes : List ℕ). IsOutcome bytes (Ok parts.value.tokens)) accepted.bytes_are (subst (λ (ts : List Token). IsOutcome file.bytes (Ok ts)) (sym of.tokens_are) accepted.reads)

-- with any syntax tree of its text, the file is accepted and has the same parts
pub with_tree : (source : Source) (parts : Box ModuleParts Global) (tree : Module) → HasParts source parts → IsTheTree source.bytes.items parts.value.tokens tree →
    (file : ModuleFile) × IsAccepted source file × ArePartsOf file parts.value × (tree ≡ file.tree)
with_tree source parts tree (file, accepted, of) is =
    let here : IsTheTree file.bytes file.tokens tree =
    subst (λ (bytes : List ℕ). IsTheTree bytes file.tokens tree) (sym accepted.bytes_are) (subst (λ (ts : List Token). IsTheTree source.bytes.items ts tree) of.tokens_are is) in
    let same : rows file ≡ rows_of tree =
    one_rows file.bytes file.tokens file.tokens file.tree tree accepted.reads.1 accepted.reads.1 accepted.is_tree.tree.derived here.tree.derived in (
      record { path = file.path; bytes = file.bytes; tokens = file.tokens; tree = tree },
      record {
        path_is = accepted.path_is;
        bytes_are = accepted.bytes_are;
        reads = accepted.reads;
        is_tree = here;
        once = subst (λ (r : Rows). HasNoDuplicates (names file) (members_of r)) same accepted.once;
      },
      record {
        tokens_are = of.tokens_are;
        table_is = of.table_is ∙ same;
        scopes_are = subst (λ (r : Rows). AreScopes file.bytes file.tokens r parts.value.scopes) same of.scopes_are;
        interface_is = of.interface_is ∙ ap (λ (r : Rows). interface_of file.bytes file.tokens r) same;
      },
      refl,
    )

-- the rest of a list after an index begins with the element at the index
front_of : {X : Type 0} (xs : List X) (i : ℕ) (x : X) (rest : List X) → x ∷ rest ≡ drop i xs → (slice_get xs i ≡ Some x) × (rest ≡ drop (suc i) xs)
front_of [] zero x rest e = absurd cc
front_of [] (suc i) x rest e = absurd cc
front_of (y ∷ ys) zero x rest e = (cc, cc)
front_of (y ∷ ys) (suc i) x rest e = front_of ys i x rest e

-- the first files have been read, and the parts of the others are there
pub record AreReadTo (sources : List Source) (modules : List (Box ModuleParts Global)) (all : List ParsedModule) (rest : List (Box ModuleParts Global)) : Type 0 where
  pub before : (files : List ModuleFile) × AreAllOf IsReadOf (take (length all) sources) files all
  pub rest_are : rest ≡ drop (length all) modules

pub none_read : (sources : List Source) (modules : List (Box ModuleParts Global)) → AreReadTo sources modules [] modules
none_read sources modules = record { before = ([], all_none IsReadOf); rest_are = refl }

module _ (sources : List Source) (modules : List (Box ModuleParts Global)) (given : (files : List ModuleFile) × AreAllParts sources files modules) where
  as_many : length modules ≡ length sources
  as_many = given.1.as_many ∙ given.1.accepted.as_many

  module _ (all : List ParsedModule) (parts : Box ModuleParts Global) (rest : List (Box ModuleParts Global)) (to : AreReadTo sources modules all (parts ∷ rest)) where
    pub next_within : length all < length sources
    next_within =
        let lt = slice_get_within modules (length all) parts (front_of modules (length all) parts rest to.rest_are).0 in
        let many = as_many in
        omega arith

    module _ (source : Source) (is : source ≡ get_or sources (length all) source) where
      pub next_parts : HasParts source parts
      next_parts =
          let at_source = at_item sources (length all) source next_within is in
          let lt = next_within in
          let many = given.1.accepted.as_many in
          let (file, at) = there given.0 (length all) (omega arith) in
          (file, given.1.accepted.each (length all) source file at_source at, given.1.each (length all) file parts at (front_of modules (length all) parts rest to.rest_are).0)

      pub next_read : (read : ParsedModule) → HasReading source read → AreReadTo sources modules (all ++ read ∷ []) rest
      next_read read of =
          let longer : length (all ++ read ∷ []) ≡ length all + 1 = length-append all (read ∷ []) in
          let one : suc (length all) ≡ length (all ++ read ∷ []) = omega arith in
          record {
            before = subst (λ (n : ℕ). (files : List ModuleFile) × AreAllOf IsReadOf (take n sources) files (all ++ read ∷ [])) (sym longer)
                (all_next IsReadOf sources (length all) source all read next_within is to.before of);
            rest_are = (front_of modules (length all) parts rest to.rest_are).1 ∙ ap (λ (n : ℕ). drop n modules) one;
          }

      pub next_fault : (fault : TreeFault) → IsFileFault source fault → IsTreeFault sources fault
      next_fault fault h = of_tree sources fault (first_fault sources (length all) source to.before.0 fault next_within is to.before.1.accepted h)

  -- at the end all have been read
  pub all_were_read : (all : List ParsedModule) → AreReadTo sources modules all [] → (files : List ModuleFile) × AreAllRead sources files all
  all_were_read all to =
      let left : length (drop (length all) modules) ≡ 0 = ap length (sym to.rest_are) in
      let dropped = length-drop (length all) modules in
      let many = as_many in
      let long : length sources ≤ length all = omega arith in
      subst (λ (xs : List Source). (files : List ModuleFile) × AreAllOf IsReadOf xs files all) (take_all (length all) sources long) to.before
