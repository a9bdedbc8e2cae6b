use Rattle.std.proofs.Common.{◌∙◌, [], map, arith, subst, sym}
use Rattle.std.proofs.lemmas.Bool.{false≢true}
use Rattle.std.proofs.lemmas.List.{length-map}
use Rattle.std.specs.Prelude.{slice_index_or}
use Rattle.glob.specs.Globs.{Fits}
use Rattle.glob.proofs.Excluding.{one_misses, too_many}
use Rattle.glob.proofs.PiecesAfterStar.{no}
use Rattle.glob.proofs.exclusion.matches_first_names.Goals as goal

pub returns-then-globs-names : goal.returns-then-globs-names
returns-then-globs-names c =
    no (λ fits.
    (let few = too_many c.args.globs.now (map (λ n. n.now) c.args.names.now) fits in
    let size = length-map c.args.names.now (λ n. n.now) in
    let many = c.if-globs-names.true in
    absurd (omega (arith, few, size, many))))

pub returns-then-not-matches : goal.returns-then-not-matches
returns-then-not-matches c =
    no (λ fits. one_misses c.args.globs.now c.args.names.now c.loop-place.place c.index-globs-place.result (record { ref_ptr = (0, 0); now = [] }) c.loop-place-test.true (let few = c.if-globs-names.false in let low = c.loop-place-test.true in omega (arith, few, low))
    (λ one. false≢true (sym c.if-not-matches.true ∙ c.matches.ensures.1 (subst (λ z. Fits z (slice_index_or c.args.names.now c.loop-place.place (record { ref_ptr = (0, 0); now = [] })).now) (sym c.index-globs-place.is) one))) (c.loop-place.invariant.0 fits))
