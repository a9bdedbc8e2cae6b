-- The table has the names of each file.
use Rattle.std.proofs.Common.{arith, sym}
use Rattle.ob_imports.specs.Files.{file_of, files_of}
use Rattle.digraph.proofs.Members.{in_map}
use Rattle.ob_imports.proofs.Nodes.{node_of_one}
use Rattle.std.proofs.lemmas.Grind.{common_steps}
use Rattle.ob_imports.proofs.edges.all_edges.Goals as goal

pub append_edges-requires-clause-known : goal.append_edges-requires-clause-known
append_edges-requires-clause-known c n node =
    c.requires.known n (node_of_one (files_of c.args.parsed.now) (file_of c.file-item.result) n
    (in_map file_of c.args.parsed.now c.file-item.result (c.loop-file.file-index, c.loop-file-test.true, sym c.file-item.is)) node)

pub loop-file-preserved : goal.loop-file-preserved
loop-file-preserved c = grind (arith, common_steps)

pub returns : goal.returns
returns c = grind (arith, common_steps)
