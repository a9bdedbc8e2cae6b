use Rattle.std.proofs.Common.{◌≡◌, ◌<◌, ◌+◌, ◌∙◌, ◌++◌, ◌∷◌, [], ℕ, true, false, List, get_or, vec_len, refl, sym, ap, subst, arith}
use Rattle.std.specs.String.{string_bytes}
use Rattle.std.proofs.lemmas.Result.{err_from_is_err_and}
use Rattle.texts.specs.Places.{writer_style}
use Rattle.byte_sink.proofs.Joining.{no_front}
use Rattle.digraph.specs.Edges.{Leads}
use Rattle.digraph.specs.ShortestPaths.{IsPathAround, IsShortestPath}
use Rattle.cut_net.specs.declared.priced.Priced.{Priced}
use Rattle.cut_net.specs.Network.{missing_item}
use Rattle.cut_rules.specs.Verdicts.{violation_line, Violation}
use Rattle.cut_rules.proofs.Violations.{none_between, none_here}
use Rattle.cut_rules.proofs.Writing.{front_one, low_to, none_allowed, none_reached, none_target, on_ok, puts_none, puts_one, read, violation}
use Rattle.cut_rules.proofs.verdict.RuleChecker.write_if_violation.Goals as goal
use Rattle.cut_rules.proofs.verdict.RuleChecker.write_if_violation.Goals.{then-index-via-then-index, then-index-via-else-index+then-not-index}

pub index-requires-else-index : goal.index-requires-else-index
index-requires-else-index g c =
    let (files, pieces, elements, for) = c.requires.judged in
    let net = c.args.self.now.net.now in
    let low = low_to net c.invariants.ensures.network files pieces c.args.self.now.rules.now elements c.args.line c.args.search.now for c.args.import c.requires.import in
    let size = for.size in
    let ok = c.args.search.now.targets.ok in
    subst (λ (is : List Priced). (get_or is c.args.import missing_item).to < vec_len c.args.search.now.targets) (sym c.imports.ensures) (omega arith)

pub returns-then-index-clause-written : goal.returns-then-index-clause-written
returns-then-index-clause-written g c = λ files pieces elements for.
    let net = c.args.self.now.net.now in
    let rules = c.args.self.now.rules.now in
    let network = c.invariants.ensures.network in
    let found = c.args.search.now in
    let k = c.args.import in
    let lt = c.requires.import in
    let size = elements.allowed.size in
    let line = violation_line (writer_style c.args.lines.now.places) net c.args.self.now.sites.now in (
      [],
      none_here net files pieces c.args.line k (elim c.then-index.branch [
        | then-index-via-then-index w ↦ none_allowed net network files pieces rules elements c.args.line found for k lt (read rules.allowed.items k c.index.result.now true (omega arith) c.index.ensures w.if-index.true)
        | then-index-via-else-index+then-not-index w ↦
            let low = low_to net network files pieces rules elements c.args.line found for k lt in
            let many = for.size in
            let at = subst (λ (is : List Priced). w.index-else-index.result.now ≡ get_or found.targets.items (get_or is k missing_item).to w.index-else-index.result.now) c.imports.ensures w.index-else-index.ensures in
            none_target net network files pieces rules elements c.args.line found for k lt (read found.targets.items (get_or net.imports k missing_item).to w.index-else-index.result.now false (omega arith) at w.if-not-index.true)
      ]),
      refl,
      puts_none line (string_bytes c.args.lines.now.text) _,
    )

pub returns-in_default-clause-prefix : goal.returns-in_default-clause-prefix
returns-in_default-clause-prefix g c = λ files pieces elements for. (c.args.import, [], omega arith, none_between c.args.self.now.net.now files pieces c.args.line c.args.import, no_front _ _)

pub returns-in_default-found-clause-written : goal.returns-in_default-found-clause-written
returns-in_default-found-clause-written g c = λ files pieces elements for.
    let net = c.args.self.now.net.now in
    let k = c.args.import in
    let none = rw c.in_default-found.is at c.in-Ok.ensures.none in
    let unreached = subst (λ (is : List Priced). (path : List ℕ) → IsPathAround (Leads for.edges) for.starts for.barrier (get_or is k missing_item).from path → ⊥) c.imports.ensures (λ path around. none for.edges for.starts for.barrier path for.search around) in (
      [],
      none_here net files pieces c.args.line k (none_reached net c.invariants.ensures.network files pieces c.args.self.now.rules.now elements c.args.line c.args.search.now for k c.requires.import unreached),
      refl,
      puts_none (violation_line (writer_style c.args.lines.now.places) net c.args.self.now.sites.now) (string_bytes c.args.lines.now.text) _,
    )

pub returns-then-is_err-clause-prefix : goal.returns-then-is_err-clause-prefix
returns-then-is_err-clause-prefix g c = λ files pieces elements for. (c.args.import, [], omega arith, none_between c.args.self.now.net.now files pieces c.args.line c.args.import, no_front _ _)

pub returns-in_err-flush_if_full-clause-prefix : goal.returns-in_err-flush_if_full-clause-prefix
returns-in_err-flush_if_full-clause-prefix g c =
    let p = err_from_is_err_and c.from_residual.result c.from_residual.ensures.1 in
    rw p.1 (λ files pieces elements for.
    let net = c.args.self.now.net.now in
    let rules = c.args.self.now.rules.now in
    let network = c.invariants.ensures.network in
    let found = c.args.search.now in
    let k = c.args.import in
    let lt = c.requires.import in
    let size = elements.allowed.size in
    let many = for.size in
    let low = low_to net network files pieces rules elements c.args.line found for k lt in
    let free = read rules.allowed.items k c.index.result.now false (omega arith) c.index.ensures c.if-index.false in
    let at = subst (λ (is : List Priced). c.index-else-index.result.now ≡ get_or found.targets.items (get_or is k missing_item).to c.index-else-index.result.now) c.imports.ensures c.index-else-index.ensures in
    let target = read found.targets.items (get_or net.imports k missing_item).to c.index-else-index.result.now true (omega arith) at c.if-not-index.false in
    let path = c.in-Some.path.items in
    let reached = rw c.in-Some.is at c.in-Ok.ensures.found in
    let shortest = subst (λ (is : List Priced). IsShortestPath (Leads for.edges) for.starts for.barrier (get_or is k missing_item).from path) c.imports.ensures (reached for.edges for.starts for.barrier for.search) in
    let v : Violation = record { line = c.args.line; import_number = k; path = path } in
    let line = violation_line (writer_style c.args.lines.now.places) net c.args.self.now.sites.now in
    let text = on_ok c.append_violation.result c.if-is_err.ensures.value c.append_violation.ensures.appended in
    let whole = text ∙ ap (λ (way : List ℕ). string_bytes c.args.lines.now.text ++ line (record { line = c.args.line; import_number = k; path = way })) c.as_slice.ensures.value in
    (k + 1, v ∷ [], omega arith, violation net network files pieces rules elements c.args.line found for k lt free target path shortest, front_one line (string_bytes c.args.lines.now.text) _ _ v _ whole c.in_err-flush_if_full.ensures.error_prefix))

pub returns-clause-written : goal.returns-clause-written
returns-clause-written g c = λ files pieces elements for.
    let net = c.args.self.now.net.now in
    let rules = c.args.self.now.rules.now in
    let network = c.invariants.ensures.network in
    let found = c.args.search.now in
    let k = c.args.import in
    let lt = c.requires.import in
    let size = elements.allowed.size in
    let many = for.size in
    let low = low_to net network files pieces rules elements c.args.line found for k lt in
    let free = read rules.allowed.items k c.index.result.now false (omega arith) c.index.ensures c.if-index.false in
    let at = subst (λ (is : List Priced). c.index-else-index.result.now ≡ get_or found.targets.items (get_or is k missing_item).to c.index-else-index.result.now) c.imports.ensures c.index-else-index.ensures in
    let target = read found.targets.items (get_or net.imports k missing_item).to c.index-else-index.result.now true (omega arith) at c.if-not-index.false in
    let path = c.in-Some.path.items in
    let reached = rw c.in-Some.is at c.in-Ok.ensures.found in
    let shortest = subst (λ (is : List Priced). IsShortestPath (Leads for.edges) for.starts for.barrier (get_or is k missing_item).from path) c.imports.ensures (reached for.edges for.starts for.barrier for.search) in
    let v : Violation = record { line = c.args.line; import_number = k; path = path } in
    let line = violation_line (writer_style c.args.lines.now.places) net c.args.self.now.sites.now in
    let text = on_ok c.append_violation.result c.if-is_err.ensures.value c.append_violation.ensures.appended in
    let whole = text ∙ ap (λ (way : List ℕ). string_bytes c.args.lines.now.text ++ line (record { line = c.args.line; import_number = k; path = way })) c.as_slice.ensures.value in
    (v ∷ [], violation net network files pieces rules elements c.args.line found for k lt free target path shortest, refl, puts_one line (string_bytes c.args.lines.now.text) _ _ v _ _ whole c.in_ok-flush_if_full.ensures.moved)
