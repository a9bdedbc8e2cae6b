use Rattle.std.proofs.Common.{◌++◌, Ok, refl, sym, ap, ◌∙◌}
use Rattle.ob_scan.specs.declared.kind.Kind.TheVariants as kinds
use Rattle.ob_tree.specs.TreeEvents.{word}
use Rattle.module_table.specs.TableStages.{added, after, advanced}
use Rattle.module_table.specs.Parts.{each}
use Rattle.table_rules.specs.Types.{part_row}
use Rattle.module_table.specs.declared.rows.Part.TheVariants as parts
use Rattle.ob_grammar.specs.Combinators.{accept_at, expect_at, many}
use Rattle.ob_grammar.specs.ParsesAs.{remaining, skipped}
use Rattle.ob_grammar.proofs.Arrays.{array_advances}
use Rattle.table_reader.proofs.Lists.{Any, pieces_begun, pieces_more, pieces_done, listing_smaller, listing_failed}
use Rattle.table_reader.proofs.ParameterTrees.{array_piece, array_after, array_told, arrays_told}
use Rattle.table_reader.proofs.parameters.open_arrays.Goals as goal

pub more-init : goal.more-init
more-init c = (pieces_begun {X = Unit {0}} c.args.tokens.now (accept_at kinds.Array) (expect_at kinds.Of) (λ x. word kinds.Array ++ word kinds.Of) array_piece c.args.context _ c.args.input, c.requires)

pub more-smaller : goal.more-smaller
more-smaller c =
    listing_smaller {A = Unit {0}} c.args.tokens.now (accept_at kinds.Array) (expect_at kinds.Of) (λ x. word kinds.Of) (λ x s. advanced s) (word kinds.Array) array_advances _ _ c.more.here c.in-Some.following c.in-Ok.next
    (sym c.accept.ensures.read ∙ ap (skipped c.args.tokens.now kinds.Array) c.in-Some.is) c.in-Ok.ensures.effect

pub more-preserved : goal.more-preserved
more-preserved c = (pieces_more {X = Unit {0}} c.args.tokens.now (accept_at kinds.Array) (expect_at kinds.Of) (λ x. word kinds.Array ++ word kinds.Of) array_piece c.args.context (λ (x : Unit {0}). word kinds.Of) (λ x s. advanced (advanced (added (part_row parts.Array c.args.context s.number) s))) (λ x. x) (word kinds.Array) array_advances (λ x. refl) (λ x s. array_after c.args.context x s) _ _ _ c.args.input c.more.here c.in-Some.following c.in-Ok.next (sym c.accept.ensures.read ∙ ap (skipped c.args.tokens.now kinds.Array) c.in-Some.is) c.more.invariant.0 (array_told c.args.tokens.now c.args.context c.more.builder c.add_type_component.new.builder c.advance.new.self c.expect_word.new.builder (Ok c.in-Ok.next) (expect_at kinds.Of (remaining c.args.tokens.now c.in-Some.following)) c.add_type_component.ensures.stage c.advance.ensures.stage c.in-Ok.ensures.effect), c.in-Ok.ensures.number)

pub returns-in-Err-clause-effect : goal.returns-in-Err-clause-effect
returns-in-Err-clause-effect c =
    listing_failed {X = Unit {0}} c.args.tokens.now (accept_at kinds.Array) (expect_at kinds.Of) (λ x. word kinds.Array ++ word kinds.Of) (λ xs. after (each array_piece xs) c.args.context) Any c.in-Err.stop (word kinds.Array) array_advances _ _ c.args.input c.more.here c.in-Some.following
    (sym c.accept.ensures.read ∙ ap (skipped c.args.tokens.now kinds.Array) c.in-Some.is) c.more.invariant.0 c.in-Err.ensures.effect

pub returns-clause-effect : goal.returns-clause-effect
returns-clause-effect c =
    arrays_told c.args.tokens.now c.args.context c.args.builder.now c.more.builder (Ok c.more.here) (many (accept_at kinds.Array) (expect_at kinds.Of) (remaining c.args.tokens.now c.args.input))
    (pieces_done {X = Unit {0}} c.args.tokens.now (accept_at kinds.Array) (expect_at kinds.Of) (λ x. word kinds.Array ++ word kinds.Of) array_piece c.args.context array_advances _ _ c.args.input c.more.here (sym c.accept.ensures.read ∙ ap (skipped c.args.tokens.now kinds.Array) c.in_default.is) c.more.invariant.0)
