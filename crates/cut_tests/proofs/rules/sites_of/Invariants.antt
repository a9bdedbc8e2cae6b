-- There is a site for each import so far.
use Rattle.std.proofs.Common.{◌≡◌, length}
use Rattle.cut_tests.proofs.rules.sites_of.Given as goal

abbrev pub invariant-loop-import : goal.invariant-loop-import
invariant-loop-import l = length l.sites.items ≡ l.import-index
