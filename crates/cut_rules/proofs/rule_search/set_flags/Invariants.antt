use Rattle.std.proofs.Common.{◌≡◌, ℕ, take, vec_len}
use Rattle.cut_rules.specs.Judged.{IsFlagSet}
use Rattle.cut_rules.proofs.rule_search.set_flags.Given as goal

abbrev pub invariant-loop-node : goal.invariant-loop-node
invariant-loop-node l = record {
  size : vec_len l.flags ≡ vec_len l.initial.flags;
  flags : (v : ℕ) → IsFlagSet (take l.node-index l.nodes) l.value l.initial.flags.items l.flags.items v;
}
