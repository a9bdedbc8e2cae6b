use Rattle.std.proofs.Common.{None, codes, rules}
use Rattle.clap.specs.Words.{found_of, rows_of}
use Rattle.oscip_job.specs.Jobs.{LacksValue}
use Rattle.oscip_job.proofs.Found.{first_found}
use Rattle.oscip_job.proofs.job_conversion.symbol_from_text.Goals as goal

pub returns-clause-values : goal.returns-clause-values
returns-clause-values c =
    let line : LacksValue (rows_of (found_of c.args.found.now)) (codes "LINE") = first_found (found_of c.args.found.now) (codes "LINE") None (search rules) in
    let column : LacksValue (rows_of (found_of c.args.found.now)) (codes "COL") = first_found (found_of c.args.found.now) (codes "COL") None (search rules) in
    (search rules, search rules, line, column)
