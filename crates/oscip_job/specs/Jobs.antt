-- The command line as clap parses it, and the job that its arguments give. A row is an argument that clap found with its values.
use Rattle.std.specs.Prelude.{◌≡◌, ◌≢◌, ◌↔◌, ◌⊎◌, ◌++◌, ◌+◌, ◌<◌, ◌≤◌, ◌^◌, ℕ, Bool, List, [], ◌∷◌, Option, Some, None, codes, map, nat_eq, option_map, pos, slice_get, String, true, false}
use Rattle.std.specs.declared.alloc.Global.{Global}
use Rattle.std.specs.List.{starts_with}
use Rattle.std.specs.Option.{unwrap_or}
use Rattle.std.specs.Str.Parse.{digits_value, without_leading_plus, IsNumeral}
use Rattle.std.specs.String.{string_bytes}
use Rattle.clap.specs.Words.{App, Row, Text, all_of, first_of, one_of, new_app, new_rule, with_rule, with_subcommand}
use Rattle.clap.specs.Walk.{Rule}
use Rattle.clap.specs.declared.builder.action.ArgAction.TheVariants as actions
use Rattle.clap.specs.declared.builder.value_parser.ValueParser.TheVariants as parsers
use Rattle.oscip_job.specs.declared.job.Job.{Job}
use Rattle.oscip_job.specs.declared.job.Job.TheVariants.{Tree, Network, Ask, Index, Unresolved}
use Rattle.oscip_job.specs.declared.job.AskedSymbol.{AskedSymbol}
use Rattle.oscip_job.specs.declared.job.AskedSymbol.TheVariants.{At, Named}
use Rattle.oscip_job.specs.declared.job.CutRequest.{CutRequest}
use Rattle.oscip_job.specs.declared.job.Direction.{Direction}
use Rattle.oscip_job.specs.declared.job.Direction.TheVariants.{Imported, Importing}
use Rattle.oscip_job.specs.declared.job.PictureRequest.{PictureRequest}
use Rattle.oscip_job.specs.declared.job.IndexQuestion.{IndexQuestion}
use Rattle.oscip_job.specs.declared.job.IndexQuestion.TheVariants.{PlacesOf, SymbolAt, Symbols}
use Rattle.oscip_job.specs.declared.job.IndexRequest.{IndexRequest}
use Rattle.oscip_job.specs.declared.job.NetQuestion.{NetQuestion}
use Rattle.oscip_job.specs.declared.job.NetQuestion.TheVariants.{Cut, Check, Dot, Why, Reach}
use Rattle.oscip_job.specs.declared.job.Output.{Output}
use Rattle.oscip_job.specs.declared.job.Output.TheVariants as outputs
use Rattle.oscip_job.specs.declared.job.Places.{Places}
use Rattle.oscip_job.specs.declared.job.Places.TheVariants.{Definitions, References}
use Rattle.oscip_job.specs.declared.job.Position.{Position}
use Rattle.oscip_job.specs.declared.job.ReachRequest.{ReachRequest}
use Rattle.oscip_job.specs.declared.job.ReportInput.{ReportInput}
use Rattle.oscip_job.specs.declared.job.SourceTree.{SourceTree}
use Rattle.oscip_job.specs.declared.job.TreeQuestion.{TreeQuestion}
use Rattle.oscip_job.specs.declared.job.TreeQuestion.TheVariants.{OfNet, Crossings, Net, Rules, Faults, Modules}
use Rattle.oscip_job.specs.declared.job.TwoNames.{TwoNames}

-- a required argument
abbrev pub required_rule : Text → Rule
required_rule id = record (new_rule id) { required = true }

-- the command with the arguments A and B added
abbrev pub with_modules : App → App
with_modules app = with_rule (with_rule app (required_rule (codes "A"))) (required_rule (codes "B"))

-- the option --workers N: a number from 1 to 64, by default 4
abbrev pub workers_rule : Rule
workers_rule = record (new_rule (codes "workers")) {
  long = Some (codes "workers");
  value_names = 1;
  parser = Some (parsers.Signed (pos 1) (pos 64));
  defaults = codes "4" ∷ [];
}

-- the command with the option --workers N
abbrev pub with_workers : App → App
with_workers app = with_rule app workers_rule

-- the option --prices FILE
abbrev pub prices_rule : Rule
prices_rule = record (new_rule (codes "prices")) { long = Some (codes "prices"); value_names = 1 }

-- the command with the option --prices FILE
abbrev pub with_prices : App → App
with_prices app = with_rule app prices_rule

-- a flag: an option without a value
abbrev pub flag_rule : Text → Rule
flag_rule id = record (new_rule id) { long = Some id; action = Some actions.SetTrue }

-- the option --exclude PATTERN, which may be given any number of times
abbrev pub exclude_rule : Rule
exclude_rule = record (new_rule (codes "exclude")) { long = Some (codes "exclude"); value_names = 1; action = Some actions.Append }

-- the command with the flag --editor
abbrev pub with_editor : App → App
with_editor app = with_rule app (flag_rule (codes "editor"))

-- the command with the options [--exclude PATTERN].. [--editor] added
abbrev pub with_walk_options : App → App
with_walk_options app = with_editor (with_rule app exclude_rule)

-- the command with the options [--exclude PATTERN].. [--editor] [--skip-faults] added
abbrev pub with_tree_options : App → App
with_tree_options app = with_rule (with_walk_options app) (flag_rule (codes "skip-faults"))

-- Below, a command on a folder has the options of with_tree_options as well; faults has those of with_walk_options.

-- the command `cut [--workers N] [--prices FILE] DIR A B`, with the options of with_tree_options
abbrev pub cut_app : App
cut_app = with_tree_options (with_prices (with_workers (with_modules (with_rule (new_app (codes "cut")) (required_rule (codes "DIR"))))))

-- the command `check [--prices FILE] DIR REPORT`, with the options of with_tree_options
abbrev pub check_app : App
check_app = with_tree_options (with_prices (with_rule (with_rule (new_app (codes "check")) (required_rule (codes "DIR"))) (required_rule (codes "REPORT"))))

-- the command `crossings DIR M N`, with the options of with_tree_options
abbrev pub crossings_app : App
crossings_app = with_tree_options (with_rule (with_rule (with_rule (new_app (codes "crossings")) (required_rule (codes "DIR"))) (required_rule (codes "M"))) (required_rule (codes "N")))

-- the command `net DIR`, with the options of with_tree_options
abbrev pub net_app : App
net_app = with_tree_options (with_rule (new_app (codes "net")) (required_rule (codes "DIR")))

-- the command `rules DIR FILE`, with the options of with_tree_options
abbrev pub rules_app : App
rules_app = with_tree_options (with_rule (with_rule (new_app (codes "rules")) (required_rule (codes "DIR"))) (required_rule (codes "FILE")))

-- the command `faults DIR`, with the options of with_walk_options
abbrev pub faults_app : App
faults_app = with_walk_options (with_rule (new_app (codes "faults")) (required_rule (codes "DIR")))

-- the command `why DIR A B`, with the options of with_tree_options
abbrev pub why_app : App
why_app = with_tree_options (with_modules (with_rule (new_app (codes "why")) (required_rule (codes "DIR"))))

-- the command with the flag and the argument [--back] M added
abbrev pub with_reach_arguments : App → App
with_reach_arguments app = with_rule (with_rule app (required_rule (codes "M"))) (flag_rule (codes "back"))

-- the command `reach [--back] DIR M`, with the options of with_tree_options
abbrev pub reach_app : App
reach_app = with_tree_options (with_reach_arguments (with_rule (new_app (codes "reach")) (required_rule (codes "DIR"))))

-- the command `reach-net [--back] FILE M`
abbrev pub reach_net_app : App
reach_net_app = with_reach_arguments (with_rule (new_app (codes "reach-net")) (required_rule (codes "FILE")))

-- the command `modules DIR`, with the options of with_tree_options
abbrev pub modules_app : App
modules_app = with_tree_options (with_rule (new_app (codes "modules")) (required_rule (codes "DIR")))

-- the command `cut-net [--workers N] [--prices FILE] FILE A B`
abbrev pub cut_net_app : App
cut_net_app = with_prices (with_workers (with_modules (with_rule (new_app (codes "cut-net")) (required_rule (codes "FILE")))))

-- the command `check-net [--prices FILE] FILE REPORT`
abbrev pub check_net_app : App
check_net_app = with_prices (with_rule (with_rule (new_app (codes "check-net")) (required_rule (codes "FILE"))) (required_rule (codes "REPORT")))

-- the command `why-net FILE A B`
abbrev pub why_net_app : App
why_net_app = with_modules (with_rule (new_app (codes "why-net")) (required_rule (codes "FILE")))

-- the command with the flag --flow
abbrev pub with_flow : App → App
with_flow app = with_rule app (flag_rule (codes "flow"))

-- the command `dot [--flow] [--prices FILE] DIR REPORT`, with the options of with_tree_options
abbrev pub dot_app : App
dot_app = with_tree_options (with_flow (with_prices (with_rule (with_rule (new_app (codes "dot")) (required_rule (codes "DIR"))) (required_rule (codes "REPORT")))))

-- the command `dot-net [--flow] [--prices FILE] FILE REPORT`
abbrev pub dot_net_app : App
dot_net_app = with_flow (with_prices (with_rule (with_rule (new_app (codes "dot-net")) (required_rule (codes "FILE"))) (required_rule (codes "REPORT"))))

-- an argument whose value is a number from 0 to 2147483647, required if the flag is true
abbrev pub number_rule : Bool → Text → Rule
number_rule required id = record (new_rule id) { required = required; parser = Some (parsers.Signed (pos 0) (pos 2147483647)) }

-- the command with the arguments PATH LINE COL added, which are required if the flag is true
abbrev pub with_position : Bool → App → App
with_position required app =
    with_rule (with_rule (with_rule app (record (new_rule (codes "PATH")) { required = required })) (number_rule required (codes "LINE"))) (number_rule required (codes "COL"))

-- the command of this name with the required argument INDEX
abbrev pub index_question_app : Text → App
index_question_app name = with_rule (new_app name) (required_rule (codes "INDEX"))

-- the option --symbol TEXT
abbrev pub symbol_rule : Rule
symbol_rule = record (new_rule (codes "symbol")) { long = Some (codes "symbol"); value_names = 1 }

-- the command of this name with the arguments [--symbol TEXT] [--editor] INDEX [PATH] [LINE] [COL]
abbrev pub asking_app : Text → App
asking_app name = with_editor (with_rule (with_position false (index_question_app name)) symbol_rule)

-- the command `def [--symbol TEXT] [--editor] INDEX [PATH] [LINE] [COL]`
abbrev pub def_app : App
def_app = asking_app (codes "def")

-- the command `refs [--symbol TEXT] [--editor] INDEX [PATH] [LINE] [COL]`
abbrev pub refs_app : App
refs_app = asking_app (codes "refs")

-- the command `symbol [--editor] INDEX PATH LINE COL`
abbrev pub symbol_app : App
symbol_app = with_editor (with_position true (index_question_app (codes "symbol")))

-- the command `symbols [--editor] INDEX [PATH]`
abbrev pub symbols_app : App
symbols_app = with_editor (with_rule (index_question_app (codes "symbols")) (new_rule (codes "PATH")))

-- the command with the argument and the flag [OUT] [--hex] added
abbrev pub with_output : App → App
with_output app = with_rule (with_rule app (new_rule (codes "OUT"))) (flag_rule (codes "hex"))

-- an option whose value is a text, by default the empty one
abbrev pub text_rule : Text → Rule
text_rule id = record (new_rule id) { long = Some id; value_names = 1; defaults = [] ∷ [] }

-- the command with the options [--package TEXT] [--root TEXT] [--workers N] [--atomic] added
abbrev pub with_index_options : App → App
with_index_options app = with_rule (with_workers (with_rule (with_rule app (text_rule (codes "package"))) (text_rule (codes "root")))) (flag_rule (codes "atomic"))

-- the command `index [--hex] [--package TEXT] [--root TEXT] [--workers N] [--atomic] DIR [OUT]`, with the options of with_tree_options
abbrev pub index_app : App
index_app = with_tree_options (with_index_options (with_output (with_rule (new_app (codes "index")) (required_rule (codes "DIR")))))

-- the command `unresolved DIR`, with the options of with_tree_options
abbrev pub unresolved_app : App
unresolved_app = with_tree_options (with_rule (new_app (codes "unresolved")) (required_rule (codes "DIR")))

-- the program without its commands; it has a version, and requires a command
abbrev pub program_app : App
program_app = record (new_app (codes "oscip")) { top = record (new_app (codes "oscip")).top { subcommand_required = true; has_version = true } }

-- the program with the commands cut, check and crossings
abbrev pub with_tree_commands : App → App
with_tree_commands app = with_subcommand (with_subcommand (with_subcommand app cut_app.top) check_app.top) crossings_app.top

-- the program with the commands net, why and rules
abbrev pub with_import_commands : App → App
with_import_commands app = with_subcommand (with_subcommand (with_subcommand app net_app.top) why_app.top) rules_app.top

-- the program with the commands cut-net, check-net and why-net
abbrev pub with_net_commands : App → App
with_net_commands app = with_subcommand (with_subcommand (with_subcommand app cut_net_app.top) check_net_app.top) why_net_app.top

-- the program with the commands modules, reach and reach-net
abbrev pub with_list_commands : App → App
with_list_commands app = with_subcommand (with_subcommand (with_subcommand app modules_app.top) reach_app.top) reach_net_app.top

-- the program with the commands dot and dot-net
abbrev pub with_picture_commands : App → App
with_picture_commands app = with_subcommand (with_subcommand app dot_app.top) dot_net_app.top

-- the program with the commands def and refs
abbrev pub with_location_commands : App → App
with_location_commands app = with_subcommand (with_subcommand app def_app.top) refs_app.top

-- the program with the commands symbol and symbols
abbrev pub with_symbol_commands : App → App
with_symbol_commands app = with_subcommand (with_subcommand app symbol_app.top) symbols_app.top

-- the program with the commands index, unresolved and faults
abbrev pub with_index_commands : App → App
with_index_commands app = with_subcommand (with_subcommand (with_subcommand app index_app.top) unresolved_app.top) faults_app.top

-- the program with all its commands
abbrev pub oscip : App
oscip = with_index_commands (with_symbol_commands (with_location_commands (with_picture_commands (with_list_commands (with_net_commands (with_import_commands (with_tree_commands program_app)))))))

-- this text is the first value that clap found for the argument
abbrev pub Finds : List Row → Text → Text → Type 0
Finds rows id text = first_of id rows ≡ Some text

-- the text is the one that clap found for the argument; there is none if the argument wasn't given
abbrev pub MayFind : List Row → Text → Option (String Global) → Type 0
MayFind rows id text = first_of id rows ≡ option_map string_bytes text

-- this is the number that clap found for the argument: decimal digits, with an optional plus before them
abbrev pub FindsNumber : List Row → Text → ℕ → Type 0
FindsNumber rows id n =
    (text : Text) × (one_of id rows ≡ Some text) × IsNumeral 10 (without_leading_plus text) × (n ≡ digits_value 10 (without_leading_plus text))

-- the number of workers is 1 to 64
abbrev pub IsWorkerCount : ℕ → Type 0
IsWorkerCount workers = (1 ≤ workers) × (workers ≤ 64)

-- if clap found a number below 2^32 for the argument, it is between these bounds
abbrev pub NamesWithin : Text → ℕ → ℕ → List Row → Type 0
NamesWithin id least most rows = (n : ℕ) → n < 2 ^ 32 → FindsNumber rows id n → (least ≤ n) × (n ≤ most)

-- if clap found a number for --workers, it is from 1 to 64
abbrev pub HasWorkersInRange : List Row → Type 0
HasWorkersInRange rows = NamesWithin (codes "workers") 1 64 rows

-- if clap found numbers for LINE and COL, they are from 0 to 2147483647
abbrev pub NamesPosition : List Row → Type 0
NamesPosition rows = NamesWithin (codes "LINE") 0 2147483647 rows × NamesWithin (codes "COL") 0 2147483647 rows

-- the numbers that clap found for --workers, LINE and COL are in range
abbrev pub NamesNumbers : List Row → Type 0
NamesNumbers rows = HasWorkersInRange rows × NamesPosition rows

-- the flag was given
abbrev pub IsPresent : List Row → Text → Type 0
IsPresent rows id = Finds rows id (codes "true")

-- the number, counted from 0, of an argument that counts from 1 with --editor and from 0 without it
abbrev pub FindsFromZero : List Row → Text → ℕ → Type 0
FindsFromZero rows id n = (IsPresent rows (codes "editor") × FindsNumber rows id (n + 1)) ⊎ ((IsPresent rows (codes "editor") → ⊥) × FindsNumber rows id n)

-- the position has the values of PATH, LINE and COL
abbrev pub FindsPosition : List Row → Position → Type 0
FindsPosition rows at =
    Finds rows (codes "PATH") (string_bytes at.path) × FindsFromZero rows (codes "LINE") at.line × FindsFromZero rows (codes "COL") at.column

-- the argument wasn't given
abbrev pub LacksValue : List Row → Text → Type 0
LacksValue rows id = first_of id rows ≡ None

-- the symbol has the values of the arguments: a position if --symbol wasn't given, or the text of --symbol if neither LINE nor COL was
-- given
abbrev pub HasAskedSymbol : List Row → AskedSymbol → Type 0
HasAskedSymbol rows (At position) = LacksValue rows (codes "symbol") × FindsPosition rows position
HasAskedSymbol rows (Named symbol path) =
    Finds rows (codes "symbol") (string_bytes symbol) × MayFind rows (codes "PATH") path × LacksValue rows (codes "LINE") × LacksValue rows (codes "COL")

-- the question about an index has the values of its arguments
abbrev pub HasIndexQuestion : List Row → IndexQuestion → Type 0
HasIndexQuestion rows (PlacesOf places symbol) = HasAskedSymbol rows symbol
HasIndexQuestion rows (SymbolAt position) = FindsPosition rows position
HasIndexQuestion rows (Symbols path) = MayFind rows (codes "PATH") path

-- the output is standard output if --hex is given and neither OUT nor --atomic is, or the file OUT if --hex isn't given
abbrev pub HasOutput : List Row → Output → Type 0
HasOutput rows outputs.Hex = IsPresent rows (codes "hex") × LacksValue rows (codes "OUT") × (IsPresent rows (codes "atomic") → ⊥)
HasOutput rows (outputs.File path) = (IsPresent rows (codes "hex") → ⊥) × Finds rows (codes "OUT") (string_bytes path)

-- the texts that clap found for the argument, none if it wasn't given
abbrev pub FindsAll : List Row → Text → List Text → Type 0
FindsAll rows id found = unwrap_or (all_of id rows) [] ≡ found

-- the tree has the values of its arguments
abbrev pub HasTree : List Row → SourceTree → Type 0
HasTree rows tree =
    Finds rows (codes "DIR") (string_bytes tree.folder) × FindsAll rows (codes "exclude") (map string_bytes tree.excluded.items)
    × (tree.skips_faults ≡ true ↔ IsPresent rows (codes "skip-faults")) × (tree.for_editor ≡ true ↔ IsPresent rows (codes "editor"))

-- --atomic was given, or --skip-faults, which implies it
abbrev pub AsksForAtomic : List Row → Type 0
AsksForAtomic rows = IsPresent rows (codes "atomic") ⊎ IsPresent rows (codes "skip-faults")

-- the request for an index has the values of its arguments
abbrev pub HasIndexRequest : List Row → IndexRequest → Type 0
HasIndexRequest rows it =
    HasTree rows it.tree × HasOutput rows it.output × Finds rows (codes "package") (string_bytes it.package)
    × Finds rows (codes "root") (string_bytes it.root) × FindsNumber rows (codes "workers") it.workers × (it.is_atomic ≡ true ↔ AsksForAtomic rows)

-- the two names are the values of these arguments
abbrev pub HasTwoNames : List Row → Text → Text → TwoNames → Type 0
HasTwoNames rows first second names = Finds rows first (string_bytes names.from) × Finds rows second (string_bytes names.to)

-- the request for a cut has the values of its arguments
abbrev pub HasCutRequest : List Row → CutRequest → Type 0
HasCutRequest rows it =
    Finds rows (codes "A") (string_bytes it.from) × Finds rows (codes "B") (string_bytes it.to)
    × FindsNumber rows (codes "workers") it.workers × MayFind rows (codes "prices") it.prices

-- the report and its prices are the values of their arguments
abbrev pub HasReportInput : List Row → ReportInput → Type 0
HasReportInput rows it = Finds rows (codes "REPORT") (string_bytes it.report) × MayFind rows (codes "prices") it.prices

-- the request for a picture has the values of its arguments, and is by flow if and only if --flow was given
abbrev pub HasPictureRequest : List Row → PictureRequest → Type 0
HasPictureRequest rows it = HasReportInput rows it.reported × (it.by_flow ≡ true ↔ IsPresent rows (codes "flow"))

-- the direction is against the imports if and only if --back was given
abbrev pub HasDirection : List Row → Direction → Type 0
HasDirection rows Imported = IsPresent rows (codes "back") → ⊥
HasDirection rows Importing = IsPresent rows (codes "back")

-- the request for reached modules has the values of its arguments
abbrev pub HasReachRequest : List Row → ReachRequest → Type 0
HasReachRequest rows it = Finds rows (codes "M") (string_bytes it.module) × HasDirection rows it.direction

-- the question about a network has the values of its arguments
abbrev pub HasNetQuestion : List Row → NetQuestion → Type 0
HasNetQuestion rows (Cut cutting) = HasCutRequest rows cutting
HasNetQuestion rows (Check reported) = HasReportInput rows reported
HasNetQuestion rows (Dot drawing) = HasPictureRequest rows drawing
HasNetQuestion rows (Why names) = HasTwoNames rows (codes "A") (codes "B") names
HasNetQuestion rows (Reach reaching) = HasReachRequest rows reaching

-- the question about a tree has the values of its arguments
abbrev pub HasTreeQuestion : List Row → TreeQuestion → Type 0
HasTreeQuestion rows (OfNet question) = HasNetQuestion rows question
HasTreeQuestion rows (Crossings names) = HasTwoNames rows (codes "M") (codes "N") names
HasTreeQuestion rows Net = Unit {0}
HasTreeQuestion rows (Rules rules) = Finds rows (codes "FILE") (string_bytes rules)
HasTreeQuestion rows Faults = Unit {0}
HasTreeQuestion rows Modules = Unit {0}

-- the job has the values of its arguments
abbrev pub HasValues : List Row → Job → Type 0
HasValues rows (Tree tree question) = HasTree rows tree × HasTreeQuestion rows question
HasValues rows (Network network question) = Finds rows (codes "FILE") (string_bytes network) × HasNetQuestion rows question
HasValues rows (Ask index question for_editor) =
    Finds rows (codes "INDEX") (string_bytes index) × HasIndexQuestion rows question × (for_editor ≡ true ↔ IsPresent rows (codes "editor"))
HasValues rows (Index indexing) = HasIndexRequest rows indexing
HasValues rows (Unresolved tree) = HasTree rows tree

-- the name of the command that asks this question about the network of a tree
abbrev pub net_question_name : NetQuestion → Text
net_question_name (Cut cutting) = codes "cut"
net_question_name (Check reported) = codes "check"
net_question_name (Dot drawing) = codes "dot"
net_question_name (Why names) = codes "why"
net_question_name (Reach reaching) = codes "reach"

-- the name of the command that asks this question about a tree
abbrev pub tree_question_name : TreeQuestion → Text
tree_question_name (OfNet question) = net_question_name question
tree_question_name (Crossings names) = codes "crossings"
tree_question_name Net = codes "net"
tree_question_name (Rules rules) = codes "rules"
tree_question_name Faults = codes "faults"
tree_question_name Modules = codes "modules"

-- the name of the command that returns the occurrences of this kind
abbrev pub asking_name : Places → Text
asking_name Definitions = codes "def"
asking_name References = codes "refs"

-- the name of the command that asks this question about an index
abbrev pub index_question_name : IndexQuestion → Text
index_question_name (PlacesOf places symbol) = asking_name places
index_question_name (SymbolAt position) = codes "symbol"
index_question_name (Symbols path) = codes "symbols"

-- the name of the job's command
abbrev pub command_name : Job → Text
command_name (Tree tree question) = tree_question_name question
command_name (Network network question) = net_question_name question ++ codes "-net"
command_name (Ask index question for_editor) = index_question_name question
command_name (Index indexing) = codes "index"
command_name (Unresolved tree) = codes "unresolved"

-- the job is that of the command that clap found, and has the values that clap found for the arguments
abbrev pub HasCommandAndValues : Option (Text × List Row) → Job → Type 0
HasCommandAndValues None job = ⊥
HasCommandAndValues (Some found) job = (found.0 ≡ command_name job) × HasValues found.1 job

-- a question about a network that has a number of workers has 1 to 64 of them
abbrev pub HasNetWorkers : NetQuestion → Type 0
HasNetWorkers (Cut cutting) = IsWorkerCount cutting.workers
HasNetWorkers (Check reported) = Unit {0}
HasNetWorkers (Dot drawing) = Unit {0}
HasNetWorkers (Why names) = Unit {0}
HasNetWorkers (Reach reaching) = Unit {0}

-- if the question about a tree has a number of workers, it is from 1 to 64
abbrev pub HasTreeWorkers : TreeQuestion → Type 0
HasTreeWorkers (OfNet question) = HasNetWorkers question
HasTreeWorkers (Crossings names) = Unit {0}
HasTreeWorkers Net = Unit {0}
HasTreeWorkers (Rules rules) = Unit {0}
HasTreeWorkers Faults = Unit {0}
HasTreeWorkers Modules = Unit {0}

-- if the job has a number of workers, it is from 1 to 64
abbrev pub HasWorkers : Job → Type 0
HasWorkers (Tree tree question) = HasTreeWorkers question
HasWorkers (Network network question) = HasNetWorkers question
HasWorkers (Ask index question for_editor) = Unit {0}
HasWorkers (Index indexing) = IsWorkerCount indexing.workers
HasWorkers (Unresolved tree) = Unit {0}

-- the position's line and column are at most 2147483647
abbrev pub IsWithin : Position → Type 0
IsWithin at = (at.line ≤ 2147483647) × (at.column ≤ 2147483647)

-- the line and column of a symbol that is given by a position are at most 2147483647
abbrev pub HasSymbolPosition : AskedSymbol → Type 0
HasSymbolPosition (At position) = IsWithin position
HasSymbolPosition (Named symbol path) = Unit {0}

-- the line and column of a question about an index that has a position are at most 2147483647
abbrev pub HasIndexPosition : IndexQuestion → Type 0
HasIndexPosition (PlacesOf places symbol) = HasSymbolPosition symbol
HasIndexPosition (SymbolAt position) = IsWithin position
HasIndexPosition (Symbols path) = Unit {0}

-- the line and column of a job that has a position are at most 2147483647
abbrev pub HasPosition : Job → Type 0
HasPosition (Tree tree question) = Unit {0}
HasPosition (Network network question) = Unit {0}
HasPosition (Ask index question for_editor) = HasIndexPosition question
HasPosition (Index indexing) = Unit {0}
HasPosition (Unresolved tree) = Unit {0}

-- whether the text begins with `local `, and so is that of a symbol that belongs to one document
abbrev pub is_local : Text → Bool
is_local text = starts_with nat_eq text (codes "local ")

-- a local symbol that is given by its text has the path of its document
abbrev pub HasSymbolPath : AskedSymbol → Type 0
HasSymbolPath (At position) = Unit {0}
HasSymbolPath (Named symbol path) = is_local (string_bytes symbol) ≡ true → path ≢ None

-- a local symbol that the question gives by its text has the path of its document
abbrev pub HasIndexPath : IndexQuestion → Type 0
HasIndexPath (PlacesOf places symbol) = HasSymbolPath symbol
HasIndexPath (SymbolAt position) = Unit {0}
HasIndexPath (Symbols path) = Unit {0}

-- a local symbol that the job gives by its text has the path of its document
abbrev pub HasPath : Job → Type 0
HasPath (Tree tree question) = Unit {0}
HasPath (Network network question) = Unit {0}
HasPath (Ask index question for_editor) = HasIndexPath question
HasPath (Index indexing) = Unit {0}
HasPath (Unresolved tree) = Unit {0}

-- a symbol that is given by its text has a text that isn't empty
abbrev pub HasSymbolText : AskedSymbol → Type 0
HasSymbolText (At position) = Unit {0}
HasSymbolText (Named symbol path) = string_bytes symbol ≢ []

-- a symbol that the question gives by its text has a text that isn't empty
abbrev pub HasIndexText : IndexQuestion → Type 0
HasIndexText (PlacesOf places symbol) = HasSymbolText symbol
HasIndexText (SymbolAt position) = Unit {0}
HasIndexText (Symbols path) = Unit {0}

-- a symbol that the job gives by its text has a text that isn't empty
abbrev pub HasText : Job → Type 0
HasText (Tree tree question) = Unit {0}
HasText (Network network question) = Unit {0}
HasText (Ask index question for_editor) = HasIndexText question
HasText (Index indexing) = Unit {0}
HasText (Unresolved tree) = Unit {0}

-- a valid package in a symbol: it isn't a full stop and doesn't begin with a space
abbrev pub IsPackage : Text → Type 0
IsPackage text = (text ≢ codes ".") × (slice_get text 0 ≢ Some 32)

-- if the job makes an index, its package isn't `.` and doesn't begin with a space
abbrev pub HasPackage : Job → Type 0
HasPackage (Tree tree question) = Unit {0}
HasPackage (Network network question) = Unit {0}
HasPackage (Ask index question for_editor) = Unit {0}
HasPackage (Index indexing) = IsPackage (string_bytes indexing.package)
HasPackage (Unresolved tree) = Unit {0}

-- the job has the command and the values that clap found, and its numbers, package, path and symbol are valid
abbrev pub IsJobOf : Option (Text × List Row) → Job → Type 0
IsJobOf found job = HasCommandAndValues found job × HasWorkers job × HasPosition job × HasPackage job × HasPath job × HasText job

-- ---- intermediate results

-- the question about a network is that of the command with this name, has its values, and has a valid number of workers
abbrev pub IsNetQuestionOf : Text → List Row → NetQuestion → Type 0
IsNetQuestionOf name rows question = (name ≡ net_question_name question) × HasNetQuestion rows question × HasNetWorkers question

-- the question about a tree is that of the command with this name, has its values, and has a valid number of workers
abbrev pub IsTreeQuestionOf : Text → List Row → TreeQuestion → Type 0
IsTreeQuestionOf name rows question = (name ≡ tree_question_name question) × HasTreeQuestion rows question × HasTreeWorkers question

-- the question about an index is that of the command with this name, has its values, and has a valid position, path and text
abbrev pub IsIndexQuestionOf : Text → List Row → IndexQuestion → Type 0
IsIndexQuestionOf name rows question =
    (name ≡ index_question_name question) × HasIndexQuestion rows question × HasIndexPosition question × HasIndexPath question × HasIndexText question
