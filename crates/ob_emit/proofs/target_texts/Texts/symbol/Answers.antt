-- The symbol string of each kind of target.
use Rattle.std.proofs.Common.{◌≡◌, ℕ, List, Option, String, Global, sym, subst}
use Rattle.std.specs.Prelude.{IfOk}
use Rattle.std.specs.Option.{option_map}
use Rattle.std.specs.String.{string_bytes}
use Rattle.ob_emit.specs.StoredTexts.{named_symbol}
use Rattle.ob_emit.specs.Named.{IsName}
use Rattle.scip_symbol.specs.SymbolTexts.{canonical_text}
use Rattle.ob_emit.proofs.target_texts.Texts.symbol.Goals as goal

pub external_text-requires-clause-of_name : goal.external_text-requires-clause-of_name
external_text-requires-clause-of_name c = subst IsName (sym c.text.ensures) (c.requires.external c.in-External.item c.in-External.name c.in-External.is)

pub returns-in-Declared : goal.returns-in-Declared
returns-in-Declared c = λ p made. rw c.in-Declared.is (c.declared_text.ensures p made)

pub returns-in-Imported : goal.returns-in-Imported
returns-in-Imported c = λ p made. rw c.in-Imported.is (c.imported_text.ensures p made)

pub returns-in-External : goal.returns-in-External
returns-in-External c = λ p made.
    rw c.in-External.is
    (subst (λ (n : List ℕ). IfOk c.external_text.result (λ (t : Option (String Global)). option_map string_bytes t ≡ option_map canonical_text (named_symbol c.args.view.now c.in-External.item n))) c.text.ensures
    (c.external_text.ensures p made))

pub returns-in-Module : goal.returns-in-Module
returns-in-Module c = λ p made. rw c.in-Module.is (c.module_text.ensures p made)
