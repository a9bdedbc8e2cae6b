use Rattle.std.proofs.Common.{◌≡◌, ℕ, ◌<◌, true}
use Rattle.ob_imports.specs.Graphs.{name_of}
use Rattle.texts.specs.Fields.{is_name}
use Rattle.module_tests.proofs.networks.have_identifier_names.Given as goal

abbrev pub invariant-loop-node : goal.invariant-loop-node
invariant-loop-node l = (i : ℕ) → i < l.node → is_name (name_of l.graph i) ≡ true
