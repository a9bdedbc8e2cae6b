-- The names of the module's declarations are valid.
use Rattle.std.proofs.Common.{◌≡◌, ℕ, List, Option, String, Global, sym, ap, ◌∙◌, subst}
use Rattle.std.specs.Prelude.{IfOk}
use Rattle.std.specs.Option.{option_map}
use Rattle.std.specs.String.{string_bytes}
use Rattle.ob_interface.specs.declared.interface.Interface.{Interface}
use Rattle.std.specs.Borrow.{Bor}
use Rattle.ob_emit.proofs.Naming.{reached_named, step_names}
use Rattle.ob_emit.specs.Named.{IsName}
use Rattle.ob_emit.proofs.OwnersBefore.{before_there}
use Rattle.ob_emit.proofs.Texting.{imported_none, imported_text_is}
use Rattle.ob_emit.proofs.imported_texts.imported_text.Goals as goal

pub path_text-requires-clause-named : goal.path_text-requires-clause-named
path_text-requires-clause-named c =
    step_names c.in-Some.interface.now
    (reached_named c.args.view.now c.requires c.args.reached c.in-Some.interface.now (sym c.interface.ensures ∙ ap (option_map (λ (m : Bor Interface). m.now)) c.in-Some.is))

pub path_text-requires-clause-module_named : goal.path_text-requires-clause-module_named
path_text-requires-clause-module_named c =
    let there = sym c.interface.ensures ∙ ap (option_map (λ (m : Bor Interface). m.now)) c.in-Some.is in
    subst IsName (sym c.name.ensures) (reached_named c.args.view.now c.requires c.args.reached c.in-Some.interface.now there).own

pub path_text-requires-clause-before : goal.path_text-requires-clause-before
path_text-requires-clause-before c = before_there c.in-Some.interface.now

pub returns-in_default : goal.returns-in_default
returns-in_default c = λ p _.
    imported_none c.args.view.now p c.args.reached c.args.declaration (sym c.interface.ensures ∙ ap (option_map (λ (m : Bor Interface). m.now)) c.in_default.is)

pub returns : goal.returns
returns c = λ p prefix.
    subst (λ (t : Option (List ℕ)). IfOk c.path_text.result (λ (text : Option (String Global)). option_map string_bytes text ≡ t))
    (imported_text_is c.args.view.now p c.args.reached c.args.declaration c.in-Some.interface.now c.name.result.now c.args.prefix.now
    (sym c.interface.ensures ∙ ap (option_map (λ (m : Bor Interface). m.now)) c.in-Some.is) c.name.ensures prefix) c.path_text.ensures
