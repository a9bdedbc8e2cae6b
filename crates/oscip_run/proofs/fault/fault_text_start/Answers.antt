use Rattle.std.proofs.Common.{◌≡◌, ◌∙◌, ◌++◌, IfOk, append-nil, subst, sym}
use Rattle.std.specs.String.{string_bytes}
use Rattle.std.proofs.lemmas.Result.{IfOk-weaker}
use Rattle.oscip_run.specs.declared.fault.RunFault.{RunFault}
use Rattle.oscip_run.specs.Faults.{fault_text, last_name}
use Rattle.texts.specs.Places.{style_of}
use Rattle.oscip_run.proofs.fault.fault_text_start.Goals as goal

pub returns-in-CannotRead : goal.returns-in-CannotRead
returns-in-CannotRead c =
    subst (λ (f : RunFault). IfOk c.format.result (λ t. string_bytes t ++ last_name f ≡ fault_text (style_of c.args.style) f)) (sym c.in-CannotRead.is)
    (IfOk-weaker c.format.result _ _ (λ t e. append-nil (string_bytes t) ∙ e) c.format.ensures.ok)

pub returns-in-CannotWrite : goal.returns-in-CannotWrite
returns-in-CannotWrite c =
    subst (λ (f : RunFault). IfOk c.format-in-CannotWrite.result (λ t. string_bytes t ++ last_name f ≡ fault_text (style_of c.args.style) f)) (sym c.in-CannotWrite.is)
    (IfOk-weaker c.format-in-CannotWrite.result _ _ (λ t e. append-nil (string_bytes t) ∙ e) c.format-in-CannotWrite.ensures.ok)
