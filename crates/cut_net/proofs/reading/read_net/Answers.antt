use Rattle.std.proofs.Common.{◌≤◌, length}
use Rattle.std.specs.String.{string_bytes}
use Rattle.std.proofs.lemmas.List.{length-map}
use Rattle.cut_net.specs.Network.{texts}
use Rattle.cut_net.specs.NetReading.{net_of}
use Rattle.cut_net.proofs.Answered.{between_as, keeps_all}
use Rattle.cut_net.proofs.reading.read_net.Goals as goal

pub names_on_cycle-requires-clause-between : goal.names_on_cycle-requires-clause-between
names_on_cycle-requires-clause-between c =
    let long = length-map c.in_ok-names.names.items string_bytes in
    rw (c.as_slice-2.ensures.value, c.as_slice-3.ensures.value) (between_as _ _ _ long c.in_ok-names.ensures.text.is_net.between)

pub from_parts-requires : goal.from_parts-requires
from_parts-requires c =
    let long = length-map c.in_ok-names.names.items string_bytes in
    let fits = rw c.as_slice.ensures.value at (c.total_weight_fits.ensures.0 c.if-not-total_weight_fits.false) in
    let acyclic = rw c.as_slice-3.ensures.value at (rw c.in-None.is at c.in_ok-names_on_cycle.ensures.none) in
    let few : length (texts c.in_ok-names.names.items) ≤ 8192 = rw long c.in_ok-names.ensures.few_names in
    keeps_all c.args.bytes.now _ c.in_ok-names.ensures.text few c.in_ok-names.ensures.few_imports fits acyclic

pub returns-in-None : goal.returns-in-None
returns-in-None c =
    let fits = rw c.as_slice.ensures.value at (c.total_weight_fits.ensures.0 c.if-not-total_weight_fits.false) in
    let acyclic = rw c.as_slice-3.ensures.value at (rw c.in-None.is at c.in_ok-names_on_cycle.ensures.none) in
    rw c.from_parts.ensures (c.in_ok-names.ensures.text, fits, acyclic)

pub returns-in-Some : goal.returns-in-Some
returns-in-Some c =
    let fits = rw c.as_slice.ensures.value at (c.total_weight_fits.ensures.0 c.if-not-total_weight_fits.false) in
    let (cycle, named, are) = rw (c.as_slice-2.ensures.value, c.as_slice-3.ensures.value) at (rw c.in-Some.is at c.in_ok-names_on_cycle.ensures.named) in
    record {
      net = net_of c.in_ok-names.names.items c.in_ok-names.imports.items;
      text = c.in_ok-names.ensures.text;
      fits = fits;
      cycle = cycle;
      is_cycle = named;
      are_names = are;
    }
