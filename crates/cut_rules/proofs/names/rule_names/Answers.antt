-- The names after each piece.
use Rattle.std.proofs.Common.{◌+◌, ◌++◌, ◌∷◌, [], ℕ, eqb, length, refl, sym, subst, arith, rules, tests}
use Rattle.std.proofs.lemmas.List.{length_push}
use Rattle.std.proofs.lemmas.Option.{slice_get_read}
use Rattle.std.proofs.lemmas.Iterator.Consumers.{YieldsList-at, YieldsList-turn, YieldsList-end}
use Rattle.std.proofs.lemmas.Iterator.Splits.{YieldsList-from_slice_split}
use Rattle.cut_rules.specs.RuleLines.{pieces_of}
use Rattle.cut_rules.specs.Rules.{IsRule}
use Rattle.cut_rules.specs.Names.{AreLinesOf}
use Rattle.cut_rules.proofs.LineLists.{no_lines}
use Rattle.cut_rules.proofs.NameLaws.{all_noted, none_noted, others_counted, others_noted, rule_counted, rule_noted, AreNotedWithin}
use Rattle.cut_rules.proofs.Pieces.{piece_here, says_low}
use Rattle.cut_rules.proofs.names.rule_names.Goals as goal

pub loop-piece-init : goal.loop-piece-init
loop-piece-init c = record {
  few = omega arith;
  counted = ([], no_lines (IsRule (pieces_of c.args.bytes.now)) (λ l (kind, x, y, says). (says_low (pieces_of c.args.bytes.now) l _ says).0), refl);
  noted = subst (AreNotedWithin c.args.net.now (pieces_of c.args.bytes.now) 0) (sym c.with_hasher-names.ensures.empty) (none_noted c.args.net.now (pieces_of c.args.bytes.now));
}

pub loop-piece-preserved-in-Some-parse_rule_names : goal.loop-piece-preserved-in-Some-parse_rule_names
loop-piece-preserved-in-Some-parse_rule_names c =
    let turn = YieldsList-turn (YieldsList-at c.into_iter-piece-iterator.ensures.into_iter_gives
    (YieldsList-from_slice_split _ (λ b. eqb b 10) c.args.bytes.now c.split-piece-items.ensures.rest c.split-piece-items.ensures.done c.split-piece-items.ensures.closure (λ x b q k. search (rules, tests))))
    c.loop-piece.yielded _ c.loop-piece.yielded_by _ _ c.in-Some.piece c.in-Some.is c.next.ensures.steps in
    let pieces = pieces_of c.args.bytes.now in
    let count = length c.loop-piece.yielded in
    let at = piece_here pieces count c.in-Some.piece.now (slice_get_read pieces _ count c.in-Some.piece.now refl turn.0 turn.1) in
    let rule = c.in-Some-parse_rule_names.rule in
    let here = sym c.in-Some-parse_rule_names.ensures in
    let (lines, elements, long) = c.loop-piece.invariant.counted in
    let added = c.in_ok-add_names.ensures in
    let next = length_push c.loop-piece.yielded c.in-Some.piece in
    let more = length_push lines (count + 1) in
    let before = c.loop-piece.invariant.few in
    record {
      few = omega arith;
      counted = (lines ++ (count + 1) ∷ [], subst (λ (n : ℕ). AreLinesOf (IsRule pieces) n (lines ++ (count + 1) ∷ [])) (sym next) (rule_counted pieces count c.in-Some.piece.now at rule.0.now rule.1.now lines here elements), omega arith);
      noted = subst (λ (n : ℕ). AreNotedWithin c.args.net.now pieces n c.add_names.new.names.keys) (sym next)
          (rule_noted pieces count c.in-Some.piece.now at c.args.net.now rule.0.now rule.1.now lines c.loop-piece.names.keys c.add_names.new.names.keys here elements added.retained (λ le. added.noted (omega arith)) added.apart c.loop-piece.invariant.noted);
    }

pub loop-piece-preserved : goal.loop-piece-preserved
loop-piece-preserved c =
    let turn = YieldsList-turn (YieldsList-at c.into_iter-piece-iterator.ensures.into_iter_gives
    (YieldsList-from_slice_split _ (λ b. eqb b 10) c.args.bytes.now c.split-piece-items.ensures.rest c.split-piece-items.ensures.done c.split-piece-items.ensures.closure (λ x b q k. search (rules, tests))))
    c.loop-piece.yielded _ c.loop-piece.yielded_by _ _ c.in-Some.piece c.in-Some.is c.next.ensures.steps in
    let pieces = pieces_of c.args.bytes.now in
    let count = length c.loop-piece.yielded in
    let at = piece_here pieces count c.in-Some.piece.now (slice_get_read pieces _ count c.in-Some.piece.now refl turn.0 turn.1) in
    let none = sym c.in_default.ensures in
    let (lines, elements, long) = c.loop-piece.invariant.counted in
    let next = length_push c.loop-piece.yielded c.in-Some.piece in
    let before = c.loop-piece.invariant.few in
    record {
      few = omega arith;
      counted = (lines, subst (λ (n : ℕ). AreLinesOf (IsRule pieces) n lines) (sym next) (others_counted pieces count c.in-Some.piece.now at lines none elements), long);
      noted = subst (λ (n : ℕ). AreNotedWithin c.args.net.now pieces n c.loop-piece.names.keys) (sym next) (others_noted pieces count c.in-Some.piece.now at c.args.net.now c.loop-piece.names.keys none c.loop-piece.invariant.noted);
    }

pub returns : goal.returns
returns c =
    let done = YieldsList-end (YieldsList-at c.into_iter-piece-iterator.ensures.into_iter_gives
    (YieldsList-from_slice_split _ (λ b. eqb b 10) c.args.bytes.now c.split-piece-items.ensures.rest c.split-piece-items.ensures.done c.split-piece-items.ensures.closure (λ x b q k. search (rules, tests))))
    c.loop-piece.yielded _ c.loop-piece.yielded_by _ _ c.in-None.is c.next.ensures.steps in
    all_noted c.args.net.now (pieces_of c.args.bytes.now) (length c.loop-piece.yielded) c.loop-piece.names.keys done.1 c.loop-piece.invariant.noted
