use Rattle.std.proofs.Common.{◌∙◌, rules}
use Rattle.type_graph.specs.BuiltPaths.{AreHeavyPaths}
use Rattle.ob_types.specs.Shapes.{base_of, field_of, shape}
use Rattle.ob_types.proofs.Lending.{from_told, lacks_told, onto_told}
use Rattle.ob_types.proofs.precomputed.PrecomputedTypes.jump.Goals as goal

pub returns-in_ok-record_of-in-Onto : goal.returns-in_ok-record_of-in-Onto
returns-in_ok-record_of-in-Onto c =
    let v = c.self.invariant.tree in
    let same = c.self.invariant.reached ∙ c.self.view_is in
    let built : AreHeavyPaths (shape v) (base_of v) (field_of v) c.deref.result.now = search rules in
    let common = c.in_ok-tree_index.ensures v same in
    let lacks = lacks_told c.args.here.now.view v c.args.self.now same c.requires.within c.args.name.now c.args.record c.in-Other.reached c.in_ok-tree_index.field-0 c.in-Other.record c.in-Other.is common c.requires.lacks in
    onto_told c.args.here.now.view v c.args.self.now same c.requires.within c.args.name.now c.args.record c.in-Other.reached c.in_ok-tree_index.field-0 c.in-Other.record c.in-Other.is common _ _
    (c.in-Onto.ensures (shape v) (base_of v) (field_of v) built lacks) (c.in_ok-record_of-in-Onto.ensures v same)

pub returns-in_ok-record_of-in-From : goal.returns-in_ok-record_of-in-From
returns-in_ok-record_of-in-From c =
    let v = c.self.invariant.tree in
    let same = c.self.invariant.reached ∙ c.self.view_is in
    let built : AreHeavyPaths (shape v) (base_of v) (field_of v) c.deref.result.now = search rules in
    let common = c.in_ok-tree_index.ensures v same in
    let lacks = lacks_told c.args.here.now.view v c.args.self.now same c.requires.within c.args.name.now c.args.record c.in-Other.reached c.in_ok-tree_index.field-0 c.in-Other.record c.in-Other.is common c.requires.lacks in
    from_told c.args.here.now.view v c.args.self.now same c.requires.within c.args.name.now c.args.record c.in-Other.reached c.in_ok-tree_index.field-0 c.in-Other.record c.in-Other.is common _ _
    (c.in-From.ensures (shape v) (base_of v) (field_of v) built lacks) (c.in_ok-record_of-in-From.ensures v same)
