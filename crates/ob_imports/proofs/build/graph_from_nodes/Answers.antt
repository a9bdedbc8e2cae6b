-- The names and the edges of files with distinct module names.
use Rattle.std.proofs.Common.{◌≡◌, length, inr, sym, arith}
use Rattle.std.specs.String.{string_bytes}
use Rattle.std.proofs.lemmas.List.{length-map}
use Rattle.ob_imports.specs.Files.{file_of, files_of}
use Rattle.ob_imports.specs.Graphs.{graph_with}
use Rattle.ob_imports.specs.Names.{texts}
use Rattle.ob_imports.proofs.Nodes.{nodes_apart, nodes_known}
use Rattle.ob_imports.proofs.build.graph_from_nodes.Goals as goal

pub import_edges-requires-clause-once : goal.import_edges-requires-clause-once
import_edges-requires-clause-once c = nodes_apart (files_of c.args.parsed.now) (texts c.args.names.keys) c.requires.files.differ c.requires.nodes

pub import_edges-requires-clause-known : goal.import_edges-requires-clause-known
import_edges-requires-clause-known c = nodes_known (files_of c.args.parsed.now) (texts c.args.names.keys) c.requires.nodes

pub returns-then-len-gt-MAX_IMPORTS : goal.returns-then-len-gt-MAX_IMPORTS
returns-then-len-gt-MAX_IMPORTS c =
    let count = length-map c.args.parsed.now file_of in
    let long : length (texts c.args.names.keys) ≡ length c.args.names.keys = length-map c.args.names.keys string_bytes in
    let ok = c.in_ok-pairs.pairs.ok in
    inr (inr (record {
      are_files = c.requires.files;
      graph = graph_with c.args.names.keys (length c.args.parsed.now) c.in_ok-pairs.pairs.items;
      is_graph = record { nodes = c.requires.nodes; modules = sym count; ascend = c.in_ok-pairs.ensures.ascending; leads = c.in_ok-pairs.ensures.leads };
      few_names = (let l = c.requires.few in omega arith);
      many = (let l = c.len.ensures in omega arith);
    }))

pub graph_from_names-requires : goal.graph_from_names-requires
graph_from_names-requires c =
    let count = length-map c.args.parsed.now file_of in
    let long : length (texts c.args.names.keys) ≡ length c.args.names.keys = length-map c.args.names.keys string_bytes in
    let ok = c.in_ok-pairs.pairs.ok in
    record {
      are_files = c.requires.files;
      is_graph = record { nodes = c.requires.nodes; modules = sym count; ascend = c.in_ok-pairs.ensures.ascending; leads = c.in_ok-pairs.ensures.leads };
      few_names = (let l = c.requires.few in omega arith);
      few_pairs = (let l = c.len.ensures in omega arith);
    }
