use Rattle.ob_resolve.proofs.Referring.{own_refers, declaration_refers, nowhere_refers, stands_as, written_as}
use Rattle.ob_resolve.proofs.identifier_reference.reference_of.Goals as goal

pub returns-in-OwnName : goal.returns-in-OwnName
returns-in-OwnName c = own_refers c.args.view.now c.args.number
    (stands_as c.args.view.now c.args.found.now c.args.number _ _ _ c.requires.found c.requires.within c.index-syntax_position.ensures c.in-OwnName.is)

pub returns-in-Declaration : goal.returns-in-Declaration
returns-in-Declaration c = declaration_refers c.args.view.now c.args.number c.in-Declaration.field-0
    (stands_as c.args.view.now c.args.found.now c.args.number _ _ _ c.requires.found c.requires.within c.index-syntax_position.ensures c.in-Declaration.is)

pub returns-in-Use : goal.returns-in-Use
returns-in-Use c = c.use_reference.ensures c.in-Use.position
    (stands_as c.args.view.now c.args.found.now c.args.number _ _ _ c.requires.found c.requires.within c.index-syntax_position.ensures c.in-Use.is)

pub returns-in-Nowhere : goal.returns-in-Nowhere
returns-in-Nowhere c = nowhere_refers c.args.view.now c.args.number
    (stands_as c.args.view.now c.args.found.now c.args.number _ _ _ c.requires.found c.requires.within c.index-syntax_position.ensures c.in-Nowhere.is)

pub import_reference-requires : goal.import_reference-requires
import_reference-requires c = stands_as c.args.view.now c.args.found.now c.args.number _ _ _ c.requires.found c.requires.within c.index-syntax_position.ensures c.in-Item.is

pub end_reference-requires : goal.end_reference-requires
end_reference-requires c = stands_as c.args.view.now c.args.found.now c.args.number _ _ _ c.requires.found c.requires.within c.index-syntax_position.ensures c.in-End.is

pub qualident_member_reference-requires-clause-position_is : goal.qualident_member_reference-requires-clause-position_is
qualident_member_reference-requires-clause-position_is c = stands_as c.args.view.now c.args.found.now c.args.number _ _ _ c.requires.found c.requires.within c.index-syntax_position.ensures c.in-QualidentMember.is

pub use_reference-requires : goal.use_reference-requires
use_reference-requires c = record { found = c.requires.found; written = written_as c.args.view.now c.args.found.now c.args.number _ _ c.requires.found c.requires.within c.index-written.ensures }

pub selector_reference-requires-clause-written : goal.selector_reference-requires-clause-written
selector_reference-requires-clause-written c = written_as c.args.view.now c.args.found.now c.args.number _ _ c.requires.found c.requires.within c.index-written.ensures

pub selector_reference-requires-clause-position_is : goal.selector_reference-requires-clause-position_is
selector_reference-requires-clause-position_is c = stands_as c.args.view.now c.args.found.now c.args.number _ _ _ c.requires.found c.requires.within c.index-syntax_position.ensures c.in-Selected.is

pub selector_reference-requires-clause-found : goal.selector_reference-requires-clause-found
selector_reference-requires-clause-found c = c.requires.found

pub returns-in-Item : goal.returns-in-Item
returns-in-Item c = c.import_reference.ensures

pub returns-in-End : goal.returns-in-End
returns-in-End c = c.end_reference.ensures

pub returns-in-QualidentMember : goal.returns-in-QualidentMember
returns-in-QualidentMember c = c.qualident_member_reference.ensures

pub returns-in-Selected : goal.returns-in-Selected
returns-in-Selected c = c.selector_reference.ensures
