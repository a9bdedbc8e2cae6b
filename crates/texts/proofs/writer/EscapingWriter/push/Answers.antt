use Rattle.std.proofs.Common.{◌≡◌, List, ℕ, false, ap, sym, ◌∙◌, rules}
use Rattle.std.specs.Char.{is_ascii_control}
use Rattle.std.specs.List.{list_any}
use Rattle.std.proofs.lemmas.Slice.Eq.{bytes_eq-Decides}
use Rattle.texts.proofs.EscapeLemmas.{stays}
use Rattle.texts.proofs.writer.EscapingWriter.push.Goals as goal

pub returns-then-eq : goal.returns-then-eq
returns-then-eq c =
    let same : c.args.text.now ≡ c.args.self.now.plain.now = (bytes_eq-Decides _ _).0 (sym c.eq.ensures ∙ c.if-eq.true) in
    let none : list_any is_ascii_control c.args.text.now ≡ false = ap (λ (t : List ℕ). list_any is_ascii_control t) same ∙ c.args.self.now.none in
    rw (stays c.args.text.now none) (search rules)

pub returns : goal.returns
returns c =
    let none : list_any is_ascii_control c.args.text.now ≡ false = ap (λ (t : List ℕ). list_any is_ascii_control t) (sym c.as_bytes.ensures.value) ∙ sym c.has_control.ensures ∙ c.if-has_control.false in
    rw (stays c.args.text.now none) (search rules)
