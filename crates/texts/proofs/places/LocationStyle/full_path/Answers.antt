use Rattle.std.proofs.Common.{◌≡◌, true, append_assoc, sym, ◌∙◌}
use Rattle.std.proofs.lemmas.Result.{IfOk-weaker}
use Rattle.texts.specs.Places.{needs_slash}
use Rattle.texts.proofs.places.LocationStyle.full_path.Goals as goal

pub returns-in-Editor : goal.returns-in-Editor
returns-in-Editor c =
    let slash : needs_slash c.in-Editor.folder.now ≡ true = sym c.needs_slash.ensures ∙ c.if-needs_slash.true in
    rw (c.in-Editor.is, slash) (IfOk-weaker c.format.result _ _ (λ t h. h ∙ simp append_assoc) c.format.ensures.ok)
