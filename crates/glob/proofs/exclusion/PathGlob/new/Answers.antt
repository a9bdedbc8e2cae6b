use Rattle.std.proofs.Common.{◌∙◌, eqb, map, ap, subst, sym}
use Rattle.std.proofs.lemmas.Bool.{false≢true}
use Rattle.std.proofs.lemmas.Bool.Decides.{Decides-eqb}
use Rattle.std.proofs.lemmas.List.Elements.{contains_decides, Decides-contains}
use Rattle.glob.specs.Exclusions.{AreGlobs}
use Rattle.glob.proofs.Excluding.{by_name, by_path}
use Rattle.glob.proofs.exclusion.PathGlob.new.Goals as goal

pub returns-then-not-contains : goal.returns-then-not-contains
returns-then-not-contains c path =
    let slash = Decides-contains c.args.pattern.now 47 c.contains.result (contains_decides eqb Decides-eqb c.args.pattern.now 47 c.contains.result c.contains.ensures.cases) in
    by_name c.args.pattern.now path c.in_ok-new.field-0 (λ has. false≢true (sym c.if-not-contains.true ∙ slash.1 has)) c.in_ok-new.ensures

pub returns : goal.returns
returns c path =
    let slash = Decides-contains c.args.pattern.now 47 c.contains.result (contains_decides eqb Decides-eqb c.args.pattern.now 47 c.contains.result c.contains.ensures.cases) in
    by_path c.args.pattern.now path c.in_ok-parse_globs.field-0 (slash.0 c.if-not-contains.false)
    (subst (λ z. AreGlobs z c.in_ok-parse_globs.field-0.items) (ap (map (λ n. n.now)) c.as_slice.ensures.value ∙ c.in_ok-names.ensures) c.in_ok-parse_globs.ensures)
