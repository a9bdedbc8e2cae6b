use Rattle.std.proofs.Common.{◌++◌, List, ℕ, ap, ◌∙◌}
use Rattle.std.proofs.lemmas.Iterator.{YieldsList-from_chars}
use Rattle.std.proofs.lemmas.Iterator.Consumers.{YieldsList-end}
use Rattle.std.specs.String.{string_bytes}
use Rattle.texts.proofs.EscapeLemmas.{all_chars}
use Rattle.texts.proofs.escape.append_chars.Goals as goal

pub returns : goal.returns
returns c =
    let all = YieldsList-end (YieldsList-from_chars c.args.text.now c.utf8.text cc) c.loop-character.yielded _ c.loop-character.yielded_by _ _ c.in-None.is c.next.ensures.steps in
    c.loop-character.invariant ∙ ap (λ (t : List ℕ). string_bytes c.args.out.now ++ t) (all_chars c.args.text.now c.loop-character.yielded c.utf8.text all.0)
