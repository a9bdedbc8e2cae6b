-- A text for each identifier.
use Rattle.std.proofs.Common.{ap, ap₂, ◌∙◌}
use Rattle.ob_interface.specs.Interfaces.{Simple, Qualified}
use Rattle.ob_interface.specs.Texts.{text_in}
use Rattle.ob_interface.proofs.Growing.{grown_by, grown_twice, tells_grown}
use Rattle.ob_interface.proofs.buffer.append_name.Goals as goal

pub returns-in-None-clause-grown : goal.returns-in-None-clause-grown
returns-in-None-clause-grown c = grown_by _ _ _ c.in_ok-head.ensures.grown

pub returns-in-None-clause-decoded : goal.returns-in-None-clause-decoded
returns-in-None-clause-decoded c more = rw c.in-None.is (ap Simple (c.in_ok-head.ensures.decoded more ∙ c.token_text.ensures))

pub returns-in_ok-member-in-Some-clause-grown : goal.returns-in_ok-member-in-Some-clause-grown
returns-in_ok-member-in-Some-clause-grown c = grown_twice (grown_by _ _ _ c.in_ok-head.ensures.grown) (grown_by _ _ _ c.in_ok-member-in-Some.ensures.grown)

pub returns-in_ok-member-in-Some-clause-decoded : goal.returns-in_ok-member-in-Some-clause-decoded
returns-in_ok-member-in-Some-clause-decoded c more =
    let head = tells_grown text_in c.append_text.new.text.items c.append_text-in-Some.new.text.items c.in_ok-head.head c.token_text.result.now c.in_ok-head.ensures.decoded (grown_by _ _ _ c.in_ok-member-in-Some.ensures.grown) more in
    let member = c.in_ok-member-in-Some.ensures.decoded more in
    rw c.in-Some.is (ap₂ Qualified (head ∙ c.token_text.ensures) (member ∙ c.token_text-in-Some.ensures))
