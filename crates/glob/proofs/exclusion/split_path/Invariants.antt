use Rattle.std.proofs.Common.{◌≡◌, map}
use Rattle.glob.proofs.exclusion.split_path.Given as goal

abbrev pub invariant-loop-name : goal.invariant-loop-name
invariant-loop-name l = map (λ n. n.now) l.names.items ≡ map (λ n. n.now) l.yielded
