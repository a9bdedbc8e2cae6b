-- The loop over procedures.
use Rattle.std.proofs.Common.{◌≡◌, ℕ, zero, suc, Bool, true, false, cond, ◌<◌, List, length, Option, Ok, Err}
use Rattle.ob_scan.specs.declared.kind.Kind.TheVariants as kinds
use Rattle.ob_tree.specs.declared.token.Leaf.{Leaf}
use Rattle.ob_tree.specs.TreeEvents.{Events}
use Rattle.ob_grammar.specs.Lookahead.{uncons, head_is, is_word}
use Rattle.ob_grammar.specs.Combinators.{Unexpected, too_deep_error, Reader, begins, limit_at}
use Rattle.ob_grammar.specs.ReadModules.{ConsumesToken, with_semicolon, procedure_with, procedure_at}
use Rattle.ob_grammar.proofs.Compatible.{expect_held}
use Rattle.ob_grammar.proofs.CompatibleProductions.{procedure_name_held}
use Rattle.ob_grammar.proofs.Sound.{Sound, sound, expr_at_sound, block_at_sound, declarations_at_sound}
use Rattle.ob_grammar.proofs.Loops.{Advances, sound_no_longer, shortens_seq, shortens_node, shortens_expect, begins_advances}

-- nothing is read at the limit
limited_shortens : (b : Bool) (o : Option (Leaf × List Leaf)) (ls : List Leaf) (x : Events × List Leaf) → cond b (Err (too_deep_error o)) (Err (Unexpected o)) ≡ Ok x → length x.1 < length ls
limited_shortens true o ls x e = absurd cc
limited_shortens false o ls x e = absurd cc

limit_shortens : (p : Leaf → Bool) → ConsumesToken (limit_at p)
unfolding limit_at
limit_shortens p ls x e = limited_shortens (head_is p (uncons ls)) (uncons ls) ls x e

procedure_with_shortens : (d : ℕ) (expr block declarations : Reader) → Sound d expr → Sound d block → Sound d declarations → ConsumesToken (procedure_with expr block declarations)
unfolding procedure_with
procedure_with_shortens d expr block declarations he hb hd =
    shortens_node _ _ (shortens_seq _ _ (shortens_expect kinds.Procedure) (sound_no_longer d _ (procedure_name_held sound he hb hd)))

procedure_shortens : (d : ℕ) → ConsumesToken (procedure_at d)
unfolding procedure_at
procedure_shortens zero = limit_shortens _
procedure_shortens (suc d) = procedure_with_shortens d _ _ _ (expr_at_sound d) (block_at_sound d) (declarations_at_sound d)

pub procedure_advances : (d : ℕ) → Advances (begins (is_word kinds.Procedure)) (with_semicolon (procedure_at d))
procedure_advances d = begins_advances (is_word kinds.Procedure) _ (shortens_seq _ _ (procedure_shortens d) (sound_no_longer d _ (expect_held sound kinds.Semicolon)))
