-- The symbol string of each kind of target.
use Rattle.std.proofs.Common.{◌≡◌, ℕ, List, Bor, subst}
use Rattle.std.specs.Prelude.{IfSome, Option}
use Rattle.std.specs.Option.{option_map}
use Rattle.scip_symbol.specs.SymbolTexts.{canonical_text}
use Rattle.ob_emit.specs.StoredTexts.{named_symbol}
use Rattle.ob_emit.proofs.target_texts.Texts.stored_symbol.Goals as goal

pub returns-in-Imported : goal.returns-in-Imported
returns-in-Imported c = λ p made. rw c.in-Imported.is (c.stored_imported_text.ensures p made)

pub returns-in-External : goal.returns-in-External
returns-in-External c = λ p made.
    rw c.in-External.is
    (subst (λ (n : List ℕ). IfSome c.stored_external_text.result (λ (t : Option (Bor (List ℕ))). option_map (λ (x : Bor (List ℕ)). x.now) t ≡ option_map canonical_text (named_symbol c.args.view.now c.in-External.item n)))
    c.text.ensures (c.stored_external_text.ensures p made))

pub returns-in-Module : goal.returns-in-Module
returns-in-Module c = λ p made. rw c.in-Module.is (c.stored_module_text.ensures p made)
