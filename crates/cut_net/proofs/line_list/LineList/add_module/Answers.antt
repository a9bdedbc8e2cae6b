use Rattle.std.proofs.Common.{◌≤◌, length, arith}
use Rattle.std.specs.String.{string_bytes}
use Rattle.std.proofs.lemmas.List.{length-map}
use Rattle.cut_net.specs.Network.{texts}
use Rattle.cut_net.specs.NetReading.{with_name}
use Rattle.cut_net.proofs.Listed.{listed_module}
use Rattle.cut_net.proofs.line_list.LineList.add_module.Goals as goal

pub returns-clause-listed : goal.returns-clause-listed
returns-clause-listed c before h good =
    let long = length-map c.intern.new.names.keys string_bytes in
    let len = c.len.ensures.len in
    let few : length (with_name (texts c.args.self.now.names.keys) c.args.name.now) ≤ 8192 = rw (← c.in_ok-intern.ensures.names) (omega arith) in
    rw c.in_ok-intern.ensures.names (listed_module before _ _ h c.args.name.now good few)
