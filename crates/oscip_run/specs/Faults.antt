-- The conversion of faults of other crates to those of a run, the texts of faults, and their exit statuses.
use Rattle.std.specs.Prelude.{ℕ, Bool, true, false, List, [], ◌++◌, codes, if◌then◌else◌}
use Rattle.std.specs.List.{flat_map}
use Rattle.std.specs.Fmt.{decimal}
use Rattle.std.specs.String.{string_bytes}
use Rattle.cut_net.specs.Network.{texts}
use Rattle.cut_net.specs.declared.fault.NetFault.{NetFault}
use Rattle.cut_net.specs.declared.fault.NetFault.TheVariants as net
use Rattle.cut_net.specs.declared.price_fault.PriceFault.{PriceFault}
use Rattle.cut_net.specs.declared.price_fault.PriceFault.TheVariants as price
use Rattle.cut_rules.specs.declared.fault.RulesFault.{RulesFault}
use Rattle.cut_rules.specs.declared.fault.RulesFault.TheVariants as rules
use Rattle.cut_report.specs.declared.fault.ReportFault.{ReportFault}
use Rattle.cut_report.specs.declared.fault.ReportFault.TheVariants as report
use Rattle.byte_sink.specs.declared.sink.SinkFault.{SinkFault}
use Rattle.byte_sink.specs.declared.sink.SinkFault.TheVariants as sink
use Rattle.cut_solve.specs.declared.fault.SolveFault.{SolveFault}
use Rattle.cut_solve.specs.declared.fault.SolveFault.TheVariants as solve
use Rattle.oscip_run.specs.declared.fault.RunFault.{RunFault}
use Rattle.index_store.specs.Faults.{query_fault_text, query_status}
use Rattle.index_store.specs.declared.query_fault.QueryFault.{QueryFault}
use Rattle.index_store.specs.declared.query_fault.QueryFault.TheVariants as query
use Rattle.oscip_run.specs.declared.fault.RunFault.TheVariants.{CannotRead, CannotWrite, Tree, Net, Price, Rules, Report, Solve, Query, Device, Memory}
use Rattle.texts.specs.Places.{Style}
use Rattle.source_tree.specs.declared.tree_fault.TreeFault.{TreeFault}
use Rattle.source_tree.specs.TreeFaults.{after_space, tree_fault_text, is_out_of_memory}

-- the fault of a run for a fault of a tree: Memory for each fault that states a failed allocation
abbrev pub of_tree : TreeFault → RunFault
of_tree fault = if is_out_of_memory fault then Memory else Tree fault

-- the fault of a run for a fault of a network
abbrev pub of_net : NetFault → RunFault
of_net (net.BadLine line) = Net (net.BadLine line)
of_net (net.TwiceImport line) = Net (net.TwiceImport line)
of_net (net.Cycle names) = Net (net.Cycle names)
of_net net.WeightOverflow = Net net.WeightOverflow
of_net (net.TooMany line) = Net (net.TooMany line)
of_net net.Memory = Memory

-- the fault of a run for a fault of prices
abbrev pub of_price : PriceFault → RunFault
of_price (price.BadLine line) = Price (price.BadLine line)
of_price (price.NoSuchImport line) = Price (price.NoSuchImport line)
of_price (price.TwicePrice line) = Price (price.TwicePrice line)
of_price price.PriceOverflow = Price price.PriceOverflow
of_price price.Memory = Memory

-- the fault of a run for a fault of rules
abbrev pub of_rules : RulesFault → RunFault
of_rules (rules.BadLine line) = Rules (rules.BadLine line)
of_rules (rules.SetIsModule line name) = Rules (rules.SetIsModule line name)
of_rules (rules.NoSuchModule line name) = Rules (rules.NoSuchModule line name)
of_rules (rules.TwiceAllowed line importer imported) = Rules (rules.TwiceAllowed line importer imported)
of_rules (rules.EmptySet line text) = Rules (rules.EmptySet line text)
of_rules (rules.TooMany line) = Rules (rules.TooMany line)
of_rules rules.Memory = Memory

-- the fault of a run for a fault of a report, with one Device for each failed device
abbrev pub of_report : ReportFault → RunFault
of_report (report.BadLine line) = Report (report.BadLine line)
of_report (report.UnknownName line) = Report (report.UnknownName line)
of_report (report.Order line) = Report (report.Order line)
of_report report.NoEnd = Report report.NoEnd
of_report report.Device = Device
of_report report.Memory = Memory

-- the fault of a run for a fault of the solver
abbrev pub of_solve : SolveFault → RunFault
of_solve solve.SameModule = Solve solve.SameModule
of_solve (solve.NoSuchModule name) = Solve (solve.NoSuchModule name)
of_solve solve.Memory = Memory

-- the fault of a run for a fault of a query
abbrev pub of_query : QueryFault → RunFault
of_query (query.Wire fault) = Query (query.Wire fault)
of_query query.NoDocument = Query query.NoDocument
of_query query.Device = Device
of_query query.Memory = Memory

-- the fault of a run for a fault of a sink
abbrev pub of_sink : SinkFault → RunFault
of_sink sink.Memory = Memory
of_sink sink.Device = Device

-- the text of a fault of a network
abbrev pub net_fault_text : NetFault → List ℕ
net_fault_text (net.BadLine line) = decimal line ++ codes ": BadLine"
net_fault_text (net.TwiceImport line) = decimal line ++ codes ": TwiceImport"
net_fault_text (net.Cycle names) = codes "Cycle" ++ flat_map after_space (texts names.items)
net_fault_text net.WeightOverflow = codes "WeightOverflow"
net_fault_text (net.TooMany line) = decimal line ++ codes ": TooMany"
net_fault_text net.Memory = codes "Memory"

-- the text of a fault of prices
abbrev pub price_fault_text : PriceFault → List ℕ
price_fault_text (price.BadLine line) = decimal line ++ codes ": BadLine"
price_fault_text (price.NoSuchImport line) = decimal line ++ codes ": NoSuchImport"
price_fault_text (price.TwicePrice line) = decimal line ++ codes ": TwicePrice"
price_fault_text price.PriceOverflow = codes "PriceOverflow"
price_fault_text price.Memory = codes "Memory"

-- the text of a fault of rules
abbrev pub rules_fault_text : RulesFault → List ℕ
rules_fault_text (rules.BadLine line) = decimal line ++ codes ": BadLine"
rules_fault_text (rules.SetIsModule line name) = decimal line ++ (codes ": SetIsModule " ++ string_bytes name)
rules_fault_text (rules.NoSuchModule line name) = decimal line ++ (codes ": NoSuchModule " ++ string_bytes name)
rules_fault_text (rules.TwiceAllowed line importer imported) = decimal line ++ (codes ": TwiceAllowed " ++ (string_bytes importer ++ (codes " " ++ string_bytes imported)))
rules_fault_text (rules.EmptySet line text) = decimal line ++ (codes ": EmptySet " ++ string_bytes text)
rules_fault_text (rules.TooMany line) = decimal line ++ codes ": TooMany"
rules_fault_text rules.Memory = codes "Memory"

-- the name, path or pattern at the end of the text of a fault of rules; empty if the text has none there
abbrev pub last_rules_name : RulesFault → List ℕ
last_rules_name (rules.BadLine line) = []
last_rules_name (rules.SetIsModule line name) = string_bytes name
last_rules_name (rules.NoSuchModule line name) = string_bytes name
last_rules_name (rules.TwiceAllowed line importer imported) = string_bytes imported
last_rules_name (rules.EmptySet line text) = string_bytes text
last_rules_name (rules.TooMany line) = []
last_rules_name rules.Memory = []

-- the text of a fault of a report
abbrev pub report_fault_text : ReportFault → List ℕ
report_fault_text (report.BadLine line) = decimal line ++ codes ": BadLine"
report_fault_text (report.UnknownName line) = decimal line ++ codes ": UnknownName"
report_fault_text (report.Order line) = decimal line ++ codes ": Order"
report_fault_text report.NoEnd = codes "NoEnd"
report_fault_text report.Device = codes "cannot write"
report_fault_text report.Memory = codes "Memory"

-- the text of a fault of the solver
abbrev pub solve_fault_text : SolveFault → List ℕ
solve_fault_text solve.SameModule = codes "SameModule"
solve_fault_text (solve.NoSuchModule name) = codes "NoSuchModule " ++ string_bytes name
solve_fault_text solve.Memory = codes "Memory"

-- the text of a fault, with locations in files of a tree in this style
abbrev pub fault_text : Style → RunFault → List ℕ
fault_text style (CannotRead path) = codes "cannot read " ++ string_bytes path
fault_text style (CannotWrite path) = codes "cannot write " ++ string_bytes path
fault_text style (Tree fault) = tree_fault_text style fault
fault_text style (Net fault) = net_fault_text fault
fault_text style (Price fault) = price_fault_text fault
fault_text style (Report fault) = report_fault_text fault
fault_text style (Solve fault) = solve_fault_text fault
fault_text style (Rules fault) = rules_fault_text fault
fault_text style (Query fault) = query_fault_text fault
fault_text style Device = codes "cannot write"
fault_text style Memory = codes "Memory"

-- the name at the end of the text of a fault, if that name may have as many bytes as the input; otherwise empty
abbrev pub last_name : RunFault → List ℕ
last_name (CannotRead path) = []
last_name (CannotWrite path) = []
last_name (Tree fault) = []
last_name (Net fault) = []
last_name (Price fault) = []
last_name (Report fault) = []
last_name (Solve fault) = []
last_name (Rules fault) = last_rules_name fault
last_name (Query fault) = []
last_name Device = []
last_name Memory = []

-- the status of a fault of a network: 1 for rejected input, 4 for memory
abbrev pub net_status : NetFault → ℕ
net_status (net.BadLine line) = 1
net_status (net.TwiceImport line) = 1
net_status (net.Cycle names) = 1
net_status net.WeightOverflow = 1
net_status (net.TooMany line) = 1
net_status net.Memory = 4

-- the status of a fault of prices: 1 for rejected input, 4 for memory
abbrev pub price_status : PriceFault → ℕ
price_status (price.BadLine line) = 1
price_status (price.NoSuchImport line) = 1
price_status (price.TwicePrice line) = 1
price_status price.PriceOverflow = 1
price_status price.Memory = 4

-- the status of a fault of rules: 1 for rejected input, 4 for memory
abbrev pub rules_status : RulesFault → ℕ
rules_status (rules.BadLine line) = 1
rules_status (rules.SetIsModule line name) = 1
rules_status (rules.NoSuchModule line name) = 1
rules_status (rules.TwiceAllowed line importer imported) = 1
rules_status (rules.EmptySet line text) = 1
rules_status (rules.TooMany line) = 1
rules_status rules.Memory = 4

-- the status of a fault of a report: 1 for rejected input, 3 for a device, 4 for memory
abbrev pub report_status : ReportFault → ℕ
report_status (report.BadLine line) = 1
report_status (report.UnknownName line) = 1
report_status (report.Order line) = 1
report_status report.NoEnd = 1
report_status report.Device = 3
report_status report.Memory = 4

-- the status of a fault of the solver: 1 for rejected names, 4 for memory
abbrev pub solve_status : SolveFault → ℕ
solve_status solve.SameModule = 1
solve_status (solve.NoSuchModule name) = 1
solve_status solve.Memory = 4

-- the status of a fault of a tree: 1 for rejected input, 4 for memory
abbrev pub tree_status : TreeFault → ℕ
tree_status fault = if is_out_of_memory fault then 4 else 1

-- the status of a fault: 1 for rejected input, 3 for a file or a device, 4 for memory
abbrev pub status_number : RunFault → ℕ
status_number (CannotRead path) = 3
status_number (CannotWrite path) = 3
status_number (Tree fault) = tree_status fault
status_number (Net fault) = net_status fault
status_number (Price fault) = price_status fault
status_number (Report fault) = report_status fault
status_number (Solve fault) = solve_status fault
status_number (Rules fault) = rules_status fault
status_number (Query fault) = query_status fault
status_number Device = 3
status_number Memory = 4

-- whether the fault is Device, that of a failed sink
abbrev pub is_device : RunFault → Bool
is_device (CannotRead path) = false
is_device (CannotWrite path) = false
is_device (Tree fault) = false
is_device (Net fault) = false
is_device (Price fault) = false
is_device (Report fault) = false
is_device (Solve fault) = false
is_device (Rules fault) = false
is_device (Query fault) = false
is_device Device = true
is_device Memory = false

-- the fault states that a file or a folder can't be read, or that memory ran out
abbrev pub IsReadFault : RunFault → Type 0
IsReadFault (CannotRead path) = Unit {0}
IsReadFault (CannotWrite path) = ⊥
IsReadFault (Tree fault) = ⊥
IsReadFault (Net fault) = ⊥
IsReadFault (Price fault) = ⊥
IsReadFault (Report fault) = ⊥
IsReadFault (Solve fault) = ⊥
IsReadFault (Rules fault) = ⊥
IsReadFault (Query fault) = ⊥
IsReadFault Device = ⊥
IsReadFault Memory = Unit {0}
