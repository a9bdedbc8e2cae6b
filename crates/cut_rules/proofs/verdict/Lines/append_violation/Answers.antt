use Rattle.std.proofs.Common.{◌<◌, ◌∙◌, ◌++◌, ◌∷◌, ℕ, List, length, get_or, sym, ap, subst, arith}
use Rattle.std.specs.String.{string_bytes}
use Rattle.std.proofs.lemmas.List.Elements.{Contains-get_or}
use Rattle.std.proofs.lemmas.Option.{slice_get-get_or}
use Rattle.texts.specs.Places.{writer_style}
use Rattle.cut_net.specs.declared.priced.Priced.{Priced}
use Rattle.cut_net.specs.Network.{name_of, missing_item}
use Rattle.cut_rules.proofs.Writing.{on_ok_made, violation_appended}
use Rattle.cut_rules.proofs.verdict.Lines.append_violation.Goals as goal

pub name-requires : goal.name-requires
name-requires c =
    let net = c.args.judgement.now.net.now in
    let low = (c.invariants.ensures.network.between (get_or net.imports c.args.import missing_item) (Contains-get_or net.imports c.args.import missing_item c.requires.import)).1 in
    subst (λ (is : List Priced). (get_or is c.args.import missing_item).to < length net.names) (sym c.imports.ensures) low

pub returns-clause-appended : goal.returns-clause-appended
returns-clause-appended c =
    let net = c.args.judgement.now.net.now in
    let sites = c.args.judgement.now.sites.now in
    let k = c.args.import in
    let size = c.requires.sites in
    let low = c.requires.import in
    let lt : k < length sites = omega arith in
    on_ok_made c.push.result (string_bytes c.push.new.self) _ _ c.push.ensures.bytes (λ last.
    violation_appended (writer_style c.args.self.now.places) net sites (record { line = c.args.line; import_number = k; path = c.args.path.now }) _ (string_bytes c.args.self.now.text) (string_bytes c.append_location.new.out) (string_bytes c.write.new.self) (string_bytes c.append_names.new.text) (string_bytes c.append_name.new.text) (string_bytes c.push.new.self)
    (slice_get-get_or sites k _ lt) c.in_ok-append_location.ensures.appended c.in_ok-write.ensures.bytes c.in_ok-append_names.ensures
    (c.in_ok-append_name.ensures ∙ ap (λ (n : List ℕ). string_bytes c.append_names.new.text ++ 32 ∷ n) (c.name.ensures ∙ ap (λ (is : List Priced). name_of net (get_or is k missing_item).to) c.imports.ensures))
    (last ∙ ap (λ (t : List ℕ). string_bytes c.append_name.new.text ++ t) (c.push.ensures.ascii (omega arith))))
