use Rattle.std.proofs.Common.{append_assoc, arith}
use Rattle.ob_walk.proofs.DeclarationWalks.{procedure_items, declaration_walks}
use Rattle.ob_walk.proofs.Walks.{items-append, with_items-with_items}
use Rattle.ob_walk.proofs.walk.declarations.+declarations.Goals as goal

pub walk_procedure-returns : goal.walk_procedure-returns
walk_procedure-returns t c =
    rw (procedure_items, c.emit-2.ensures, c.emit.ensures, c.walk_return.ensures, c.walk_procedure_body.ensures, c.walk_declarations.ensures, c.walk_heading.ensures)
    (simp (items-append, with_items-with_items, append_assoc))

pub walk_declarations-loop-procedure-init : goal.walk_declarations-loop-procedure-init
walk_declarations-loop-procedure-init t c = grind (arith, declaration_walks)

pub walk_declarations-loop-procedure-preserved : goal.walk_declarations-loop-procedure-preserved
walk_declarations-loop-procedure-preserved t c = grind (arith, declaration_walks)

pub walk_declarations-returns : goal.walk_declarations-returns
walk_declarations-returns t c = grind (arith, declaration_walks)
