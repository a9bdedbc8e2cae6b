use Rattle.clap.specs.Words.{found_of}
use Rattle.oscip_job.proofs.Found.{value}
use Rattle.oscip_job.proofs.job_conversion.required_value.Goals as goal

pub returns-in_ok-from_str-in-Some : goal.returns-in_ok-from_str-in-Some
returns-in_ok-from_str-in-Some c = value (found_of c.args.found.now) c.args.id.now c.in-Some.text.now _ c.in-Some.ensures c.in_ok-from_str-in-Some.ensures.ok
