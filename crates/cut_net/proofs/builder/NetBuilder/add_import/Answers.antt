use Rattle.std.proofs.Common.{length, arith, ap, ◌∙◌}
use Rattle.std.proofs.lemmas.List.{length-map, length_push}
use Rattle.std.specs.String.{string_bytes}
use Rattle.cut_net.proofs.Tables.{are_ends, adds_twice, adds_import, adds_name, adds_one}
use Rattle.cut_net.proofs.builder.NetBuilder.add_import.Goals as goal
use Rattle.cut_net.proofs.builder.NetBuilder.add_import.Goals.{then-len-gt-MOST_NAMES-via-then-len-gt-MOST_NAMES, then-len-gt-MOST_NAMES-via-else-len-gt-MOST_NAMES+then-len-gt-MOST_IMPORTS}

pub returns-then-branch : goal.returns-then-branch
returns-then-branch c before h good =
    let from = c.in_ok-from.ensures in
    let to = c.in_ok-to.ensures in
    let ends = are_ends _ _ _ _ _ _ _ from.names from.within from.place to.names to.within to.place in
    adds_twice before _ _ _ _ h _ _ c.args.weight _ _ ends (c.in_ok-insert_import.ensures.present c.if-branch.true)

pub returns-then-len-gt-MOST_NAMES : goal.returns-then-len-gt-MOST_NAMES
returns-then-len-gt-MOST_NAMES c before h good =
    let from = c.in_ok-from.ensures in
    let to = c.in_ok-to.ensures in
    let ends = are_ends _ _ _ _ _ _ _ from.names from.within from.place to.names to.within to.place in
    let absent = c.in_ok-insert_import.ensures.absent c.if-branch.false in
    let last = c.in_ok-insert_import.ensures.last c.if-branch.false in
    let long = length-map c.intern_name-2.new.names.keys string_bytes in
    let more = ap length last ∙ length_push c.args.self.now.imports.entries ((c.in_ok-from.from, c.in_ok-to.to), c.args.weight) in
    elim c.then-len-gt-MOST_NAMES.branch [
      | then-len-gt-MOST_NAMES-via-then-len-gt-MOST_NAMES w ↦ adds_name before _ _ _ _ h _ _ c.args.weight _ _ ends absent (omega arith)
      | then-len-gt-MOST_NAMES-via-else-len-gt-MOST_NAMES+then-len-gt-MOST_IMPORTS w ↦ adds_one before _ _ _ _ h _ _ c.args.weight _ _ ends absent (omega arith)
    ]

pub returns : goal.returns
returns c before h good =
    let from = c.in_ok-from.ensures in
    let to = c.in_ok-to.ensures in
    let ends = are_ends _ _ _ _ _ _ _ from.names from.within from.place to.names to.within to.place in
    let absent = c.in_ok-insert_import.ensures.absent c.if-branch.false in
    let last = c.in_ok-insert_import.ensures.last c.if-branch.false in
    let long = length-map c.intern_name-2.new.names.keys string_bytes in
    let more = ap length last ∙ length_push c.args.self.now.imports.entries ((c.in_ok-from.from, c.in_ok-to.to), c.args.weight) in
    rw last (adds_import before _ _ _ _ h _ _ c.args.weight _ _ ends absent good (omega arith) (omega arith))
