use Rattle.cut_rules.proofs.Promise.{violations_cover_paths}
use Rattle.cut_rules.proofs.laws.violations_cover_paths.Goals as goal

pub returns : goal.returns
returns c net files pieces line path is none = violations_cover_paths net files pieces line path is none
