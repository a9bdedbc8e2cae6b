-- Two names next to each other.
use Rattle.std.proofs.Common.{◌≡◌, ℕ, ◌+◌, ◌-◌, ◌≤◌, [], get_or, length, sym, ◌∙◌, ap, arith, inl, inr}
use Rattle.std.specs.String.{string_bytes}
use Rattle.std.proofs.lemmas.Bool.{cases_eq, false≢true}
use Rattle.std.proofs.lemmas.List.{length-map}
use Rattle.std.proofs.lemmas.Slice.Eq.{bytes_eq-Decides}
use Rattle.ob_imports.specs.Names.{texts}
use Rattle.ob_imports.proofs.SameNames.{text_at}
use Rattle.ob_imports.proofs.duplicates.first_repeat.Goals as goal

pub returns-then-eq-clause-found : goal.returns-then-eq-clause-found
returns-then-eq-clause-found c =
    let names = c.args.names.now in
    let p = c.loop-place.place in
    let long : length (texts names) ≡ length names = length-map names string_bytes in
    let low : 1 ≤ p = omega arith in
    let next : p - 1 + 1 ≡ p = omega arith in
    let left : string_bytes c.index-names-place.result ≡ get_or (texts names) (p - 1) [] = text_at names (p - 1) c.index-names-place.result (omega arith) c.index-names-place.is in
    let right : string_bytes c.index-names-place-in-loop-place.result ≡ get_or (texts names) p [] = text_at names p c.index-names-place-in-loop-place.result (omega arith) c.index-names-place-in-loop-place.is in
    let same : string_bytes c.index-names-place.result ≡ string_bytes c.index-names-place-in-loop-place.result = (bytes_eq-Decides _ _).0 (sym c.eq.ensures ∙ c.if-eq.true) in
    record {
      within = omega arith;
      alike = sym left ∙ same ∙ right ∙ ap (λ (k : ℕ). get_or (texts names) k []) (sym next);
      first = λ j l. c.loop-place.invariant j (omega arith);
    }

pub loop-place-preserved : goal.loop-place-preserved
loop-place-preserved c j l alike =
    let names = c.args.names.now in
    let p = c.loop-place.place in
    let low : 1 ≤ p = omega arith in
    elim (cases_eq (j + 1) p) [
      | inl e ↦
          let left : string_bytes c.index-names-place.result ≡ get_or (texts names) (p - 1) [] = text_at names (p - 1) c.index-names-place.result (omega arith) c.index-names-place.is in
          let right : string_bytes c.index-names-place-in-loop-place.result ≡ get_or (texts names) p [] = text_at names p c.index-names-place-in-loop-place.result (omega arith) c.index-names-place-in-loop-place.is in
          let at : p - 1 ≡ j = omega arith in
          let same : string_bytes c.index-names-place.result ≡ string_bytes c.index-names-place-in-loop-place.result =
          left ∙ ap (λ (k : ℕ). get_or (texts names) k []) at ∙ alike ∙ ap (λ (k : ℕ). get_or (texts names) k []) e ∙ sym right in
          false≢true (sym c.if-eq.false ∙ c.eq.ensures ∙ (bytes_eq-Decides _ _).1 same)
      | inr ne ↦ c.loop-place.invariant j (omega arith) alike
    ]
