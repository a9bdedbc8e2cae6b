use Rattle.std.proofs.Common.{None}
use Rattle.clap.specs.Words.{found_of}
use Rattle.oscip_job.proofs.Found.{first_found, value}
use Rattle.oscip_job.proofs.job_conversion.optional_value.Goals as goal

pub returns-in-None : goal.returns-in-None
returns-in-None c = first_found (found_of c.args.found.now) c.args.id.now None c.in-None.ensures

pub returns-in_ok-from_str-in-Some : goal.returns-in_ok-from_str-in-Some
returns-in_ok-from_str-in-Some c = value (found_of c.args.found.now) c.args.id.now c.in-Some.text.now _ c.in-Some.ensures c.in_ok-from_str-in-Some.ensures.ok
