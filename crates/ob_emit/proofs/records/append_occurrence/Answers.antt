-- With the symbol strings that are stored after `intern`.
use Rattle.std.proofs.lemmas.Result.{on_ok_weaker}
use Rattle.ob_emit.proofs.records.append_occurrence.Goals as goal

pub returns-clause-texts : goal.returns-clause-texts
returns-clause-texts c = λ p made.
    let stored_text = c.in_ok-slot.ensures p made in
    on_ok_weaker c.append_stored_occurrence.result (λ _. stored_text) (c.append_stored_occurrence.ensures p stored_text)

pub returns-clause-bytes : goal.returns-clause-bytes
returns-clause-bytes c = λ p made. c.append_stored_occurrence.ensures p (c.in_ok-slot.ensures p made)
