use Rattle.std.proofs.Common.{length}
use Rattle.std.specs.String.{string_bytes}
use Rattle.std.proofs.lemmas.List.{length-map}
use Rattle.cut_net.specs.Network.{texts}
use Rattle.cut_net.specs.WellFormed.{AreBetween}
use Rattle.cut_net.proofs.Networks.{ends_once, few_moved, few_moved_names, net_is}
use Rattle.cut_net.proofs.numbering.sorted_names_and_imports.Goals as goal

pub numbered_imports-requires-clause-few : goal.numbered_imports-requires-clause-few
numbered_imports-requires-clause-few c =
    let same = rw c.as_slice.ensures.keys at c.in_ok-names.ensures.same in
    rw c.as_slice-2.ensures.value (few_moved_names _ _ same c.requires.built.1.few_names)

pub returns-clause-is_net : goal.returns-clause-is_net
returns-clause-is_net c lines h =
    let same = rw c.as_slice.ensures.keys at c.in_ok-names.ensures.same in
    let listed = rw c.as_slice-2.ensures.value at c.in_ok-imports.ensures.listed in
    let between : AreBetween c.in_ok-imports.imports.items (length (texts c.in_ok-names.names.items)) = rw (length-map c.in_ok-names.names.items string_bytes) (rw c.as_slice-2.ensures.value at c.in_ok-imports.ensures.between) in
    net_is lines _ _ _ c.in_ok-imports.imports.items h listed _ c.in_ok-names.ensures.ascending same between c.sort_imports.ensures.same
    (c.sort_imports.ensures.ascending (ends_once lines _ _ _ _ h listed))

pub returns-clause-few_names : goal.returns-clause-few_names
returns-clause-few_names c =
    let same = rw c.as_slice.ensures.keys at c.in_ok-names.ensures.same in
    few_moved_names _ _ same c.requires.built.1.few_names

pub returns-clause-few_imports : goal.returns-clause-few_imports
returns-clause-few_imports c =
    let (lines, h) = c.requires.built in
    let listed = rw c.as_slice-2.ensures.value at c.in_ok-imports.ensures.listed in
    few_moved lines _ _ _ c.in_ok-imports.imports.items h listed _ c.sort_imports.ensures.same
