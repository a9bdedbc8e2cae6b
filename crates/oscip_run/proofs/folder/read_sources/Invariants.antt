use Rattle.std.proofs.Common.{◌≡◌, ◌++◌, List, map}
use Rattle.std.specs.Prelude.{String}
use Rattle.std.specs.String.{string_bytes}
use Rattle.std.specs.declared.alloc.Global.{Global}
use Rattle.cut_net.specs.Network.{texts}
use Rattle.oscip_run.specs.Files.{AreModulePrefixes}
use Rattle.source_tree.specs.declared.source.Source.{Source}
use Rattle.oscip_run.proofs.folder.read_sources.Given as goal

abbrev pub invariant-loop-path : goal.invariant-loop-path
invariant-loop-path g l = record {
  most : AreModulePrefixes l.sources.items;
  read : (done : List (String Global)) × (l.fn.paths.items ≡ done ++ l.path-iterator.rest.items) × (map (λ (s : Source). string_bytes s.path) l.sources.items ≡ texts done);
}
