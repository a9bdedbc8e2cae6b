use Rattle.std.proofs.Common.{◌≡◌, ◌∙◌, ◌+◌, Bool, List, false, replicate, length, ap, subst, sym}
use Rattle.std.proofs.lemmas.List.{length-replicate}
use Rattle.digraph.specs.Marks.{marked}
use Rattle.cut_rules.specs.Builders.{AreEmptySets}
use Rattle.cut_rules.proofs.Marking.{no_marks}
use Rattle.cut_rules.proofs.TableLaws.{empty_more}
use Rattle.cut_rules.proofs.table.empty_sets.Goals as goal

pub loop-preserved : goal.loop-preserved
loop-preserved c =
    let flags : c.in_ok-flags.flags.items ≡ replicate c.args.places false = c.in_ok-flags.ensures.items_if_clones_equal (λ y e. e) in
    subst (AreEmptySets (c.loop.counter + 1) c.args.places) (sym c.in_ok-push.ensures.items)
    (empty_more c.loop.counter c.args.places c.loop.sets.items (record { flags = c.in_ok-flags.flags }) (ap length flags ∙ length-replicate c.args.places false) (λ k. ap (λ (bs : List Bool). marked bs k) flags ∙ no_marks c.args.places k) c.loop.invariant)
