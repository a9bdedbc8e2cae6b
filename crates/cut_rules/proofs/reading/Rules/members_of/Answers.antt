use Rattle.std.proofs.Common.{arith}
use Rattle.cut_rules.proofs.Marking.{marked_low}
use Rattle.cut_rules.proofs.reading.Rules.members_of.Goals as goal

pub returns-clause-within : goal.returns-clause-within
returns-clause-within c m has =
    let elements = rw c.as_slice.ensures.value at c.in_ok-members.ensures.elements m in
    let low = marked_low c.in_ok-flags.flags.items m (elements.0 has) in
    let size = c.in_ok-flags.ensures.size in
    let ok = c.in_ok-flags.flags.ok.0 in
    omega arith

pub returns-clause-elements : goal.returns-clause-elements
returns-clause-elements c m low =
    let elements = rw c.as_slice.ensures.value at c.in_ok-members.ensures.elements m in
    let named = c.in_ok-flags.ensures.elements m low in
    ((λ has. named.0 (elements.0 has)), (λ is. elements.1 (named.1 is)))
