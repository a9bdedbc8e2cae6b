-- Identifiers are names, and names are texts.
use Rattle.std.proofs.Common.{◌≡◌, ℕ, zero, suc, inl, inr, true, List, [], ◌∷◌, length, Some, None, refl, sym, ap, ◌∙◌, subst}
use Rattle.std.specs.List.{All}
use Rattle.std.specs.Str.{IsUtf8}
use Rattle.std.proofs.lemmas.Bool.{cases_lt}
use Rattle.std.proofs.lemmas.List.{get_or_past}
use Rattle.std.proofs.lemmas.List.Elements.{All-get_or}
use Rattle.texts.specs.Fields as fields
use Rattle.texts.proofs.FieldNames as names
use Rattle.ob_scan.proofs.NameTokens.{IsNamed}
use Rattle.ob_scan.specs.declared.kind.Kind.TheVariants as kinds
use Rattle.ob_scan.specs.declared.token.Token.{Token}
use Rattle.ob_scan.specs.Spelling.{Spells}
use Rattle.ob_scan.specs.Tokens.{is_name}
use Rattle.ob_scan.proofs.NameTokens.{spelled_names}
use Rattle.ob_scan.specs.Texts.{no_token, text_at, token_at}
use Rattle.module_table.specs.Parts.{Rows}
use Rattle.module_table.specs.Trees.{AreTreeRows}
use Rattle.ob_scope.specs.Found.{AreTexts}
use Rattle.scopes.specs.IdentifierNames.{AreNames, IsIdentifier}
use Rattle.scopes.specs.Members.{members_of}
use Rattle.ob_scope.proofs.Together.{declares}
use Rattle.module_table.proofs.Elements.{some_one}

-- the scanner's names are names of texts
pub same_test : (bytes : List ℕ) → is_name bytes ≡ fields.is_name bytes
same_test [] = refl
same_test (b ∷ bytes) = refl

name_is_text : (bytes : List ℕ) → is_name bytes ≡ true → IsUtf8 bytes
name_is_text bytes e = names.name_is_text bytes (sym (same_test bytes) ∙ e)

pub are_texts : (name : ℕ → List ℕ) (r : Rows) → AreNames name r → AreTexts name (members_of r) r.imports
are_texts name r h = record {
  first = name_is_text (name 1) h.own;
  declared = λ d c. name_is_text (name d.number) (h.members d c);
  imported = λ m c. name_is_text (name m.imported) (h.imports m c);
}

-- the texts of all identifiers are names
abbrev AreNamed : List ℕ → List Token → Type 0
AreNamed bytes ts = All (IsNamed bytes) ts

ident_named : (bytes : List ℕ) (ts : List Token) (k : ℕ) → AreNamed bytes ts → (token_at ts k).kind ≡ kinds.Ident → is_name (text_at bytes ts k) ≡ true
ident_named bytes ts k named e = elim (cases_lt k (length ts)) [
  | inl within ↦ All-get_or (IsNamed bytes) ts k no_token within named e
  | inr past ↦ let none : kinds.Dot ≡ kinds.Ident = sym (ap (λ (t : Token). t.kind) (get_or_past ts k no_token past)) ∙ e in absurd cc
]

kind_at : (ts : List Token) (k : ℕ) → IsIdentifier ts k → (token_at ts k).kind ≡ kinds.Ident
kind_at [] k e = absurd (let f : None ≡ Some kinds.Ident = e in cc)
kind_at (t ∷ ts) zero e = some_one t.kind kinds.Ident e
kind_at (t ∷ ts) (suc k) e = kind_at ts k e

-- identifiers are names
pub named_by : (bytes : List ℕ) (ts : List Token) (r : Rows) → Spells bytes ts → AreTreeRows (IsIdentifier ts) (length ts) r → AreNames (text_at bytes ts) r
named_by bytes ts r spells all =
    let named = spelled_names bytes ts spells in
    record {
      own = ident_named bytes ts 1 named (kind_at ts 1 all.own);
      members = λ m h. (let d = declares r.decl_groups r.declared m h in ident_named bytes ts m.number named (kind_at ts m.number (subst (IsIdentifier ts) d.number (all.declared d.row d.among))));
      imports = λ i h. ident_named bytes ts i.imported named (kind_at ts i.imported (all.imported i h));
    }
