-- The names of the files' modules, and the external names that they import.
use Rattle.std.proofs.Common.{◌≡◌, ◌+◌, ◌++◌, length, refl, arith}
use Rattle.std.specs.String.{string_bytes}
use Rattle.std.proofs.lemmas.List.{length-append, length-map}
use Rattle.ob_imports.specs.Files.{files_of}
use Rattle.ob_imports.specs.Names.{texts}
use Rattle.ob_imports.specs.Numbering.{all_lacked}
use Rattle.ob_imports.proofs.Nodes.{are_nodes, together_apart}
use Rattle.ob_imports.proofs.names.collect_node_names.Goals as goal

pub append_names-requires : goal.append_names-requires
append_names-requires c =
    let files = files_of c.args.parsed.now in
    let keys = texts c.in_ok-table.table.keys in
    rw c.as_slice.ensures.value (together_apart files keys (all_lacked keys files) (texts c.in_ok-others.others.items) c.in_ok-table.ensures refl
    c.in_ok-others.ensures.ascending c.in_ok-others.ensures.same c.requires.differ)

pub returns-then-len-gt-MAX_NODES-clause-many : goal.returns-then-len-gt-MAX_NODES-clause-many
returns-then-len-gt-MAX_NODES-clause-many c =
    let files = files_of c.args.parsed.now in
    let keys = texts c.in_ok-table.table.keys in
    let others = texts c.in_ok-others.others.items in
    let long : length others ≡ length c.in_ok-others.others.items = length-map c.in_ok-others.others.items string_bytes in
    let both : length (keys ++ others) ≡ length keys + length others = length-append keys others in
    record {
      are_files = c.requires;
      names = keys ++ others;
      nodes = are_nodes files keys (all_lacked keys files) others c.in_ok-table.ensures refl c.in_ok-others.ensures.ascending c.in_ok-others.ensures.same (keys ++ others) refl;
      many = (let l = c.len.ensures in let more = c.if-len-gt-MAX_NODES.true in omega arith);
    }

pub returns-then-len-gt-MAX_NODES-2-clause-many : goal.returns-then-len-gt-MAX_NODES-2-clause-many
returns-then-len-gt-MAX_NODES-2-clause-many c =
    let files = files_of c.args.parsed.now in
    let keys = texts c.in_ok-table.table.keys in
    let named = texts c.append_names.new.table.keys in
    let long : length named ≡ length c.append_names.new.table.keys = length-map c.append_names.new.table.keys string_bytes in
    record {
      are_files = c.requires;
      names = named;
      nodes =
          are_nodes files keys (all_lacked keys files) (texts c.in_ok-others.others.items) c.in_ok-table.ensures refl
          c.in_ok-others.ensures.ascending c.in_ok-others.ensures.same named (rw c.as_slice.ensures.value at c.in_ok-append_names.ensures);
      many = (let l = c.len-2.ensures.len in let more = c.if-len-gt-MAX_NODES-2.true in omega arith);
    }

pub returns-clause-named : goal.returns-clause-named
returns-clause-named c =
    let files = files_of c.args.parsed.now in
    let keys = texts c.in_ok-table.table.keys in
    are_nodes files keys (all_lacked keys files) (texts c.in_ok-others.others.items) c.in_ok-table.ensures refl
    c.in_ok-others.ensures.ascending c.in_ok-others.ensures.same (texts c.append_names.new.table.keys) (rw c.as_slice.ensures.value at c.in_ok-append_names.ensures)
