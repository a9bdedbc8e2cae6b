-- What a run that indexes a tree reads and writes.
use Rattle.std.specs.Prelude.{◌≡◌, ◌⊎◌, ℕ, List, ◌++◌, Option, Result, Ok, Err, codes}
use Rattle.std.specs.Io.KnownBytes.{Appends, Keeps}
use Rattle.std.specs.List.{flat_map}
use Rattle.std.specs.String.{string_bytes}
use Rattle.byte_sink.specs.Sinks.{AppendsPrefix}
use Rattle.hex.specs.Hex.{encode_lower}
use Rattle.ob_board.specs.Indexes.{IsIndex}
use Rattle.ob_board.specs.Unresolved.{AreUnresolved, UnresolvedModel}
use Rattle.oscip_job.specs.declared.job.IndexRequest.{IndexRequest}
use Rattle.oscip_job.specs.declared.job.Output.{Output}
use Rattle.oscip_job.specs.declared.job.Output.TheVariants as outputs
use Rattle.oscip_run.specs.Runs.{IsRejectedTree}
use Rattle.oscip_run.specs.declared.fault.RunFault.{RunFault}
use Rattle.oscip_run.specs.declared.fault.RunFault.TheVariants.{CannotRead, CannotWrite, Tree, Net, Price, Rules, Report, Solve, Query, Device, Memory}
use Rattle.source_tree.specs.declared.source.Source.{Source}
use Rattle.scip_index.specs.Plain.{IndexModel}
use Rattle.scip_index.specs.Written.{written}
use Rattle.texts.specs.Places.{location_text, Style}

-- the bytes are the written form of the index of the tree, with this package and root
pub record IsIndexText (sources : List Source) (package_name root text : List ℕ) : Type 0 where
  pub index : IndexModel
  pub is_index : IsIndex sources package_name root index
  pub text_is : text ≡ written index

-- the text is the line of hexadecimal digits of the index's written form
pub record IsHexText (sources : List Source) (package_name root text : List ℕ) : Type 0 where
  pub bytes : List ℕ
  pub is_index : IsIndexText sources package_name root bytes
  pub text_is : text ≡ encode_lower bytes ++ codes "\n"

-- the line PATH:LINE:COL NAME of an unresolved identifier: the location where it begins, in this style, and its name
abbrev pub unresolved_line : Style → UnresolvedModel → List ℕ
unresolved_line style row = location_text style row.path row.line row.column ++ codes " " ++ row.name ++ codes "\n"

-- a line for each unresolved identifier, in their order
abbrev pub unresolved_lines : Style → List UnresolvedModel → List ℕ
unresolved_lines style rows = flat_map (unresolved_line style) rows

-- the text has exactly the lines of the tree's unresolved identifiers
pub record IsUnresolvedText (style : Style) (sources : List Source) (text : List ℕ) : Type 0 where
  pub rows : List UnresolvedModel
  pub are_rows : AreUnresolved sources rows
  pub text_is : text ≡ unresolved_lines style rows

-- the sink took all of a text for which IsText holds
abbrev pub WritesText : (List ℕ → Type 0) → Option (List ℕ) → Option (List ℕ) → Type 0
WritesText IsText old new = (text : List ℕ) × IsText text × Appends old new text

-- the sink took a prefix of a text for which IsText holds
abbrev pub WritesTextPrefix : (List ℕ → Type 0) → Option (List ℕ) → Option (List ℕ) → Type 0
WritesTextPrefix IsText old new = (text : List ℕ) × IsText text × AppendsPrefix old new text

-- a run that writes a text for which IsText holds: a rejected tree leaves the sink unchanged, and Device or Memory leave it with at most a
-- prefix
abbrev pub IsTextRun : List Source → (List ℕ → Type 0) → Option (List ℕ) → Option (List ℕ) → Result (Unit {0}) RunFault → Type 0
IsTextRun sources IsText old new (Ok _) = WritesText IsText old new
IsTextRun sources IsText old new (Err (CannotRead path)) = ⊥
IsTextRun sources IsText old new (Err (CannotWrite path)) = ⊥
IsTextRun sources IsText old new (Err (Tree fault)) = IsRejectedTree sources (Tree fault) × Keeps old new
IsTextRun sources IsText old new (Err (Net fault)) = ⊥
IsTextRun sources IsText old new (Err (Price fault)) = ⊥
IsTextRun sources IsText old new (Err (Report fault)) = ⊥
IsTextRun sources IsText old new (Err (Solve fault)) = ⊥
IsTextRun sources IsText old new (Err (Rules fault)) = ⊥
IsTextRun sources IsText old new (Err (Query fault)) = ⊥
IsTextRun sources IsText old new (Err Device) = WritesTextPrefix IsText old new
IsTextRun sources IsText old new (Err Memory) = Keeps old new ⊎ WritesTextPrefix IsText old new

-- a run that writes the index of a tree
abbrev pub IsIndexRun : List Source → List ℕ → List ℕ → Option (List ℕ) → Option (List ℕ) → Result (Unit {0}) RunFault → Type 0
IsIndexRun sources package_name root = IsTextRun sources (IsIndexText sources package_name root)

-- a run that writes the index of a tree as a line of hexadecimal digits
abbrev pub IsHexRun : List Source → List ℕ → List ℕ → Option (List ℕ) → Option (List ℕ) → Result (Unit {0}) RunFault → Type 0
IsHexRun sources package_name root = IsTextRun sources (IsHexText sources package_name root)

-- a run that lists the unresolved identifiers of a tree
abbrev pub IsUnresolvedRun : Style → List Source → Option (List ℕ) → Option (List ℕ) → Result (Unit {0}) RunFault → Type 0
IsUnresolvedRun style sources = IsTextRun sources (IsUnresolvedText style sources)

-- a run that writes the index to this output: as bytes if the output is a file, as a line of hexadecimal digits if it is standard output
abbrev pub IsRunTo : Output → List Source → List ℕ → List ℕ → Option (List ℕ) → Option (List ℕ) → Result (Unit {0}) RunFault → Type 0
IsRunTo (outputs.File path) = IsIndexRun
IsRunTo outputs.Hex = IsHexRun

-- a run that makes the index of a request, with the package, root and output of the request
abbrev pub IsIndexingRun : List Source → IndexRequest → Option (List ℕ) → Option (List ℕ) → Result (Unit {0}) RunFault → Type 0
IsIndexingRun sources it old new result = IsRunTo it.output sources (string_bytes it.package) (string_bytes it.root) old new result
