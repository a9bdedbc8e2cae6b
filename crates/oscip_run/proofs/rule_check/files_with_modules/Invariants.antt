use Rattle.std.proofs.Common.{◌≡◌, map, take}
use Rattle.std.specs.String.{string_bytes}
use Rattle.cut_rules.specs.declared.file.File.{File}
use Rattle.source_tree.specs.declared.source.Source.{Source}
use Rattle.oscip_run.proofs.rule_check.files_with_modules.Given as goal

abbrev pub invariant-loop-location : goal.invariant-loop-location
invariant-loop-location l =
    (map (λ (f : File). f.path.now) l.files.items ≡ map (λ (s : Source). string_bytes s.path) (take l.location l.sources))
    × (map (λ (f : File). f.module) l.files.items ≡ take l.location l.modules)
