use Rattle.std.proofs.Common.{◌≡◌, ◌∙◌, Some, None, codes, sym, rules}
use Rattle.clap.specs.Words.{first_of, found_of, rows_of}
use Rattle.oscip_job.proofs.Found.{first_found}
use Rattle.oscip_job.proofs.job_conversion.is_present.Goals as goal

pub returns-in-None : goal.returns-in-None
returns-in-None c =
    let none : first_of c.args.id.now (rows_of (found_of c.args.found.now)) ≡ None = first_found (found_of c.args.found.now) c.args.id.now None c.in-None.ensures in
    ((λ e. absurd cc), (λ h. let bad : None ≡ Some (codes "true") = sym none ∙ h in absurd cc))

pub returns-in-Some : goal.returns-in-Some
returns-in-Some c =
    let some : first_of c.args.id.now (rows_of (found_of c.args.found.now)) ≡ Some c.in-Some.text.now = first_found (found_of c.args.found.now) c.args.id.now (Some c.in-Some.text.now) c.in-Some.ensures in
    search rules
