use Rattle.std.proofs.Common.{List, Option, subst, sym}
use Rattle.std.specs.Prelude.{IfOk, IfSome}
use Rattle.clap.specs.Words.{Row, Text, found_of}
use Rattle.oscip_job.specs.Jobs.{IsJobOf, NamesNumbers}
use Rattle.oscip_job.proofs.Found.{met}
use Rattle.oscip_job.proofs.job_conversion.job_of_matches.Goals as goal

pub job_of_command-requires : goal.job_of_command-requires
job_of_command-requires c =
    let is = met c.args.matches.now c.in-Some.name.now (found_of c.in-Some.found.now) c.in-Some.ensures.name c.in-Some.ensures.rows in
    subst (λ (o : Option (Text × List Row)). IfSome o (λ found. NamesNumbers found.1)) is c.requires

pub returns-in-Some : goal.returns-in-Some
returns-in-Some c =
    let is = met c.args.matches.now c.in-Some.name.now (found_of c.in-Some.found.now) c.in-Some.ensures.name c.in-Some.ensures.rows in
    subst (λ (o : Option (Text × List Row)). IfOk c.job_of_command.result (IsJobOf o)) (sym is) c.job_of_command.ensures
