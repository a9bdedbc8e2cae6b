use Rattle.std.proofs.Common.{◌≡◌, ◌++◌, take}
use Rattle.ob_scan.specs.declared.kind.Kind.TheVariants as kinds
use Rattle.ob_tree.specs.Derives.{end_names_in}
use Rattle.ob_tree.specs.Declaring.{procedure_events}
use Rattle.ob_tree.specs.TreeEvents.{word, each}
use Rattle.ob_tree.proofs.end_names.+end_names.Given as goal

abbrev pub invariant-append_declaration_end_names-loop-procedure : goal.invariant-append_declaration_end_names-loop-procedure
invariant-append_declaration_end_names-loop-procedure l = l.out.items ≡ l.initial.out.items ++ end_names_in (each (λ p. procedure_events p ++ word kinds.Semicolon) (take l.procedure-index l.procedure-items))
