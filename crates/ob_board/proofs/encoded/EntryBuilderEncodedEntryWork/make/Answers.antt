use Rattle.std.proofs.Common.{map, ◌∙◌}
use Rattle.std.specs.Arc.{arc_value}
use Rattle.ob_board.proofs.AtHand.{recorded_given, IsGiven}
use Rattle.ob_board.proofs.encoded.EntryBuilderEncodedEntryWork.make.Goals as goal
use Rattle.ob_board.proofs.encoded.EntryBuilderEncodedEntryWork.make.Goals.{After-self}

here : (g : _) (c : After-self g) → IsGiven g.F.NamedIndex.files c.self.inside.sources.now c.self.inside.modules.now c.args.self.now c.args.number (map arc_value c.args.parts.now)
here g c =
    let w = c.self.inside in
    recorded_given c.reach_by_names_agrees.ensures g.F.NamedIndex.package_name g.F.NamedIndex.files w.sources.now w.modules.now w.graph.now c.args.self.now c.self.invariant.0 c.self.invariant.1 c.self.view_is c.args.number _ c.requires

pub bounds-self-inside-place : goal.bounds-self-inside-place
bounds-self-inside-place g c = (here g (goal.at.bounds-self-inside-place g c).After-self).within.0

pub bounds-self-inside-place-2 : goal.bounds-self-inside-place-2
bounds-self-inside-place-2 g c = (here g (goal.at.bounds-self-inside-place-2 g c).After-self).within.1

pub encode_entry-requires-clause-input : goal.encode_entry-requires-clause-input
encode_entry-requires-clause-input g c = (here g (goal.at.encode_entry-requires-clause-input g c).After-self).input c.index-self-place.result c.index-self-place-2.result _ c.deref.ensures

pub encode_entry-requires-clause-named : goal.encode_entry-requires-clause-named
encode_entry-requires-clause-named g c = (here g (goal.at.encode_entry-requires-clause-named g c).After-self).all_named c.index-self-place.result c.index-self-place-2.result

pub encode_entry-requires-clause-precomputed_chains : goal.encode_entry-requires-clause-precomputed_chains
encode_entry-requires-clause-precomputed_chains g c =
    (here g (goal.at.encode_entry-requires-clause-precomputed_chains g c).After-self).serves c.index-self-place.result c.index-self-place-2.result c.self.inside.precomputed_chains c.self.invariant.4

pub returns : goal.returns
returns g c = c.in_ok-encoded.ensures ∙ (here g (goal.at.returns g c).After-self).named c.index-self-place.result c.index-self-place-2.result _ c.deref.ensures
