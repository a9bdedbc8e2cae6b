use Rattle.std.proofs.Common.{◌∙◌, map, rules, subst, sym, ap}
use Rattle.std.proofs.lemmas.Bool.{false≢true}
use Rattle.std.proofs.lemmas.List.{take_all}
use Rattle.glob.specs.Exclusions.{names_of, ExcludesBy, IsExcludedBy}
use Rattle.glob.proofs.Excluding.{no_more_globs}
use Rattle.glob.proofs.PiecesAfterStar.{no}
use Rattle.glob.proofs.exclusion.Exclusion.excludes.Goals as goal

pub loop-glob-preserved : goal.loop-glob-preserved
loop-glob-preserved c =
    no_more_globs c.deref-glob-items.result.now (names_of c.args.path.now) c.loop-glob.glob-index c.glob-item.result (search rules) c.loop-glob.invariant
    (λ excludes. false≢true (sym c.if-excludes.false ∙ c.excludes.ensures.1
    (subst (λ z. ExcludesBy c.glob-item.result z) (sym (ap (map (λ n. n.now)) c.as_slice.ensures.value ∙ c.in_ok-names.ensures ∙ ap names_of c.as_bytes.ensures.value)) (subst (λ z. ExcludesBy z (names_of c.args.path.now)) (sym c.glob-item.is) excludes))))

pub returns : goal.returns
returns c =
    no (λ excluded. c.loop-glob.invariant (subst (λ z. IsExcludedBy z (names_of c.args.path.now)) (sym (take_all c.loop-glob.glob-index c.deref-glob-items.result.now (search rules)))
    (subst (λ z. IsExcludedBy z (names_of c.args.path.now)) (sym c.deref-glob-items.ensures.value) excluded)))
