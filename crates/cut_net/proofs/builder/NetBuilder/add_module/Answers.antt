use Rattle.std.proofs.Common.{◌≤◌, ◌<◌, length, arith}
use Rattle.std.proofs.lemmas.List.{length-map}
use Rattle.std.specs.String.{string_bytes}
use Rattle.cut_net.specs.Network.{texts}
use Rattle.cut_net.specs.NetReading.{with_name}
use Rattle.cut_net.proofs.Tables.{tables_module, many_module}
use Rattle.cut_net.proofs.builder.NetBuilder.add_module.Goals as goal

pub returns-then-len-gt-MOST_NAMES : goal.returns-then-len-gt-MOST_NAMES
returns-then-len-gt-MOST_NAMES c before h good =
    let long = length-map c.intern_name.new.names.keys string_bytes in
    let many : 8192 < length (with_name (texts c.args.self.now.names.keys) c.args.name.now) = rw (← c.in_ok-intern_name.ensures.names) (omega arith) in
    many_module before _ _ h c.args.name.now good many

pub returns : goal.returns
returns c before h good =
    let long = length-map c.intern_name.new.names.keys string_bytes in
    let few : length (with_name (texts c.args.self.now.names.keys) c.args.name.now) ≤ 8192 = rw (← c.in_ok-intern_name.ensures.names) (omega arith) in
    rw c.in_ok-intern_name.ensures.names (tables_module before _ _ h c.args.name.now good few)
