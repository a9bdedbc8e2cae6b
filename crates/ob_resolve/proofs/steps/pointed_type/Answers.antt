use Rattle.type_graph.specs.Searches.{HasTarget}
use Rattle.ob_types.specs.Shapes.{shape}
use Rattle.ob_resolve.proofs.Stepping.{follows_nothing, follows_module, follows_there, follows_nowhere}
use Rattle.ob_resolve.proofs.steps.pointed_type.Goals as goal

pub returns-in-Nothing-clause-follows : goal.returns-in-Nothing-clause-follows
returns-in-Nothing-clause-follows c = follows_nothing _ _ c.in-Nothing.is

pub returns-in-Module-clause-follows : goal.returns-in-Module-clause-follows
returns-in-Module-clause-follows c = follows_module _ _ _ c.in-Module.is

pub returns-in-Some-clause-follows : goal.returns-in-Some-clause-follows
returns-in-Some-clause-follows c = follows_there (λ eq. HasTarget eq (shape c.args.finder.now)) _ _ _ c.in_ok-next-in-Typed.field-0 c.in-Typed.is c.in-Some.is c.in_ok-next-in-Typed.ensures.found

pub returns-in-None-clause-follows : goal.returns-in-None-clause-follows
returns-in-None-clause-follows c = follows_nowhere (λ eq. HasTarget eq (shape c.args.finder.now)) _ _ c.in_ok-next-in-Typed.field-0 c.in-Typed.is c.in-None.is c.in_ok-next-in-Typed.ensures.none
