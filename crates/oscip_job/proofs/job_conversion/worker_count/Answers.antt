use Rattle.std.proofs.Common.{rules}
use Rattle.std.specs.Prelude.{codes}
use Rattle.std.specs.Str.Parse.{ExplainsUnsignedError, HasUnsignedDigitsIfOk, ParsesUnsigned}
use Rattle.clap.specs.Words.{found_of}
use Rattle.oscip_job.proofs.Found.{number}
use Rattle.oscip_job.proofs.job_conversion.worker_count.Goals as goal

pub returns-in-Some-clause-value : goal.returns-in-Some-clause-value
returns-in-Some-clause-value c =
    number (found_of c.args.found.now) (codes "workers") c.in-Some.workers (λ text read. ParsesUnsigned 32 10 text read × ExplainsUnsignedError 10 text read × HasUnsignedDigitsIfOk text read)
    (λ text read gives. gives.0) c.in-Some.ensures.none c.in-Some.ensures.value

pub returns-in-Some-clause-within : goal.returns-in-Some-clause-within
returns-in-Some-clause-within c = c.requires c.in-Some.workers (search rules) (returns-in-Some-clause-value c)
