use Rattle.std.proofs.Common.{◌≡◌, ℕ, ◌∷◌, get_or, length, rules, subst}
use Rattle.std.proofs.lemmas.Result.{err_from_is_err_and}
use Rattle.ob_parse.proofs.FilesRead.{next_fault, next_parts, next_read, AreReadTo}
use Rattle.ob_parse.proofs.reading.read_modules.Goals as goal
use Rattle.ob_parse.proofs.reading.read_modules.Goals.{After-index-sources-len}

to : (c : After-index-sources-len) → AreReadTo c.args.sources.now c.args.modules.items c.loop-parts.all.items (c.in-Some.parts ∷ c.next.new.self.rest.items)
to c = subst (AreReadTo c.args.sources.now c.args.modules.items c.loop-parts.all.items) c.in-Some.ensures.steps.0 c.loop-parts.invariant

source_is : (c : After-index-sources-len) → c.index-sources-len.result ≡ get_or c.args.sources.now (length c.loop-parts.all.items) c.index-sources-len.result
source_is c =
    let long : c.len.result ≡ length c.loop-parts.all.items = search rules in
    subst (λ (k : ℕ). c.index-sources-len.result ≡ get_or c.args.sources.now k c.index-sources-len.result) long c.index-sources-len.is

pub read_module-requires : goal.read_module-requires
read_module-requires c =
    let at = (goal.at.read_module-requires c).After-index-sources-len in
    next_parts c.args.sources.now c.args.modules.items c.requires c.loop-parts.all.items c.in-Some.parts c.next.new.self.rest.items (to at) c.index-sources-len.result (source_is at)

pub returns-in_err-read_module-clause-fault : goal.returns-in_err-read_module-clause-fault
returns-in_err-read_module-clause-fault c =
    let at = (goal.at.returns-in_err-read_module-clause-fault c).After-index-sources-len in
    let p = err_from_is_err_and c.from_residual.result c.from_residual.ensures.1 in
    rw (p.1, p.2)
    (next_fault c.args.sources.now c.args.modules.items c.requires c.loop-parts.all.items c.in-Some.parts c.next.new.self.rest.items (to at) c.index-sources-len.result (source_is at) _ c.in_err-read_module.ensures.fault)

pub loop-parts-preserved : goal.loop-parts-preserved
loop-parts-preserved c =
    let at = (goal.at.loop-parts-preserved c).After-index-sources-len in
    rw c.in_ok-push.ensures.items
    (next_read c.args.sources.now c.args.modules.items c.requires c.loop-parts.all.items c.in-Some.parts c.next.new.self.rest.items (to at) c.index-sources-len.result (source_is at) c.in_ok-read_module.field-0
    c.in_ok-read_module.ensures.read)
