use Rattle.std.proofs.Common.{None, Some, codes, rules}
use Rattle.clap.specs.Words.{found_of}
use Rattle.oscip_job.proofs.Found.{first_found}
use Rattle.oscip_job.proofs.job_conversion.symbol_from_arguments.Goals as goal

pub symbol_from_text-requires : goal.symbol_from_text-requires
symbol_from_text-requires c = first_found (found_of c.args.found.now) (codes "symbol") (Some c.in-Some.symbol.now) c.in-Some.ensures

pub returns-in_ok-position_of-in-None-clause-values : goal.returns-in_ok-position_of-in-None-clause-values
returns-in_ok-position_of-in-None-clause-values c = (first_found (found_of c.args.found.now) (codes "symbol") None c.in-None.ensures, search rules)
