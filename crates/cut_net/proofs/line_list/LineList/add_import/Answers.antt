use Rattle.std.proofs.Common.{arith}
use Rattle.std.proofs.lemmas.List.{length-map}
use Rattle.std.specs.String.{string_bytes}
use Rattle.cut_net.proofs.Listed.{listed_import, listed_twice}
use Rattle.cut_net.proofs.Tables.{are_ends}
use Rattle.cut_net.proofs.line_list.LineList.add_import.Goals as goal

pub returns-then-find_or_insert-clause-twice : goal.returns-then-find_or_insert-clause-twice
returns-then-find_or_insert-clause-twice c stop before h =
    let from = c.in_ok-from.ensures in
    let to = c.in_ok-to.ensures in
    let ends = are_ends _ _ _ _ _ _ _ from.names from.within from.place to.names to.within to.place in
    listed_twice before _ _ _ _ _ _ c.args.weight _ _ h ends (rw c.deref.ensures.value at (c.find_or_insert.ensures c.if-find_or_insert.true))

pub returns-clause-listed : goal.returns-clause-listed
returns-clause-listed c before h good =
    let from = c.in_ok-from.ensures in
    let to = c.in_ok-to.ensures in
    let ends = are_ends _ _ _ _ _ _ _ from.names from.within from.place to.names to.within to.place in
    let long = length-map c.intern-2.new.names.keys string_bytes in
    let len = c.len.ensures.len in
    let ok = c.args.self.now.imports.ok.0 in
    rw c.in_ok-push.ensures.items (listed_import before _ _ h _ _ _ _ c.args.weight _ _ ends good (omega arith) (omega arith))
