use Rattle.std.proofs.Common.{None, codes, rules}
use Rattle.clap.specs.Words.{found_of}
use Rattle.oscip_job.proofs.Found.{first_found, value}
use Rattle.oscip_job.proofs.job_conversion.output_of.Goals as goal

pub hex_output-requires-clause-hex : goal.hex_output-requires-clause-hex
hex_output-requires-clause-hex c = c.is_present-hex.ensures.0 c.if-hex.true

pub hex_output-requires-clause-out : goal.hex_output-requires-clause-out
hex_output-requires-clause-out c = first_found (found_of c.args.found.now) (codes "OUT") None c.in-None.ensures

pub returns-in_ok-from_str-in-Some : goal.returns-in_ok-from_str-in-Some
returns-in_ok-from_str-in-Some c =
    ((λ h. let bad = c.is_present-hex.ensures.1 h in absurd (search rules)), value (found_of c.args.found.now) (codes "OUT") c.in-Some.path.now _ c.in-Some.ensures c.in_ok-from_str-in-Some.ensures.ok)
