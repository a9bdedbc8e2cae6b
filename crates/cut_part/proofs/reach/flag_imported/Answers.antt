use Rattle.std.proofs.Common.{◌≡◌, ◌<◌, ◌+◌, ◌-◌, ◌∙◌, ◌++◌, ◌∷◌, [], ℕ, true, false, length, get_or, refl, sym, subst, arith}
use Rattle.std.proofs.lemmas.List.{get_or_default}
use Rattle.digraph.proofs.SpreadMarks.{left_same}
use Rattle.residual_graph.specs.Graphs.{is_flagged}
use Rattle.cut_part.specs.CapacityReduction.{import_in}
use Rattle.cut_part.specs.Reach.{IsFollowing, IsSpreading}
use Rattle.cut_part.proofs.CapacityReduction.{renumbering}
use Rattle.cut_part.proofs.Reaching.{following_ends, following_starts, follows_marked, follows_unmarked}
use Rattle.cut_part.proofs.reach.flag_imported.Goals as goal
use Rattle.cut_part.proofs.reach.flag_imported.Goals.{then-not-index+in_ok-push, else-not-index}

pub loop-next-init : goal.loop-next-init
loop-next-init c =
    let imports = c.args.imports.now in
    let last = c.args.linked.now.last.items in
    let importer = c.args.importer in
    let size = c.requires.linked.size in
    let known = c.requires.importer in
    let in_last : importer < length last = omega arith in
    let is : c.index-next.result.now ≡ get_or last importer 0 = c.index-next.ensures ∙ get_or_default last importer c.index-next.result.now 0 in_last in
    let first = c.requires.linked.lasts importer known in
    rw is record {
      size = refl;
      within = first.within;
      own = first.own;
      following = λ start s. following_starts imports start c.args.marks.now.items c.args.waiting.now.items importer (get_or last importer 0) first s;
      same = refl;
    }

pub index-requires : goal.index-requires
index-requires c =
    let within = c.loop-next.invariant.within in
    let more = c.loop-next-test.true in
    let low = c.requires.between _ (renumbering c.args.imports.now (c.loop-next.next - 1) (omega arith)) in
    omega (arith, low.1, c.loop-next.invariant.size)

pub index_mut-requires : goal.index_mut-requires
index_mut-requires c =
    let within = c.loop-next.invariant.within in
    let more = c.loop-next-test.true in
    let low = c.requires.between _ (renumbering c.args.imports.now (c.loop-next.next - 1) (omega arith)) in
    omega (arith, low.1, c.loop-next.invariant.size)

pub loop-next-preserved : goal.loop-next-preserved
loop-next-preserved c =
    let imports = c.args.imports.now in
    let at = c.loop-next in
    let before = c.args.linked.now.before.items in
    let number = at.next - 1 in
    let within = at.invariant.within in
    let more = c.loop-next-test.true in
    let low : number < length imports = omega arith in
    let one : at.next ≡ number + 1 = omega arith in
    let own : (import_in imports number).from ≡ c.args.importer = at.invariant.own number one in
    let each = c.requires.linked.each in
    let in_before : number < length before = omega arith in
    let is : c.index-next-in-loop-next.result.now ≡ get_or before number 0 = c.index-next-in-loop-next.ensures ∙ get_or_default before number c.index-next-in-loop-next.result.now 0 in_before in
    let last = c.requires.linked.befores number c.args.importer low own in
    let less = last.within in
    let ok = at.marks.ok.0 in
    let size = at.invariant.size in
    let to_low : (import_in imports number).to < c.args.marks.now.len = (c.requires.between _ (renumbering imports number low)).1 in
    let in_marks : (import_in imports number).to < length at.marks.items = omega arith in
    let mark : c.index.result.now ≡ is_flagged at.marks.items (import_in imports number).to = c.index.ensures ∙ get_or_default at.marks.items (import_in imports number).to c.index.result.now false in_marks in
    let ready : (start : ℕ) → IsSpreading imports start c.args.marks.now.items (c.args.waiting.now.items ++ c.args.importer ∷ []) → IsFollowing imports start at.marks.items at.waiting.items c.args.importer (number + 1) =
    λ start s. subst (IsFollowing imports start at.marks.items at.waiting.items c.args.importer) one (at.invariant.following start s) in
    elim c.if-not-index.branch [
      | then-not-index+in_ok-push w ↦
          let off : is_flagged at.marks.items (import_in imports number).to ≡ false = sym mark ∙ w.if-not-index.true in
          rw (w.marks-is, w.waiting-is, w.in_ok-push.ensures.items, is) record {
            size = size;
            within = omega arith;
            own = last.own;
            following = λ start s. follows_unmarked imports start at.marks.items at.waiting.items c.args.importer number (get_or before number 0) low own last (ready start s) in_marks;
            same = left_same at.marks.items at.waiting.items (import_in imports number).to in_marks off ∙ at.invariant.same;
          }
      | else-not-index w ↦
          let on : is_flagged at.marks.items (import_in imports number).to ≡ true = sym mark ∙ w.if-not-index.false in
          rw (w.marks-is, w.waiting-is, is) record {
            size = size;
            within = omega arith;
            own = last.own;
            following = λ start s. follows_marked imports start at.marks.items at.waiting.items c.args.importer number (get_or before number 0) low own last (ready start s) on;
            same = at.invariant.same;
          }
    ]

pub returns-clause-spreading : goal.returns-clause-spreading
returns-clause-spreading c start s =
    let past = c.loop-next-test.false in
    let none : c.loop-next.next ≡ 0 = omega arith in
    following_ends c.args.imports.now start c.loop-next.marks.items c.loop-next.waiting.items c.args.importer
    (subst (IsFollowing c.args.imports.now start c.loop-next.marks.items c.loop-next.waiting.items c.args.importer) none (c.loop-next.invariant.following start s))
