-- The builder before the first line, and after the last.
use Rattle.std.proofs.Common.{ℕ, ◌<◌, ◌≤◌, inl, inr, List, [], length, sym, ap, ◌∙◌, subst, arith}
use Rattle.std.specs.Prelude.{Contains}
use Rattle.std.specs.List.{list_any}
use Rattle.std.proofs.lemmas.Bool.{false≢true}
use Rattle.std.proofs.lemmas.List.{length-map}
use Rattle.digraph.proofs.Members.{no_member}
use Rattle.text_hash.specs.declared.name.Name.{Name}
use Rattle.cut_net.specs.Network.{Network}
use Rattle.cut_rules.specs.declared.builder.RulesBuilder.{RulesBuilder}
use Rattle.cut_rules.specs.declared.builder.LineContext.{LineContext}
use Rattle.cut_rules.specs.declared.file.File.{File}
use Rattle.cut_rules.specs.declared.rule.Rule.{Rule}
use Rattle.cut_rules.specs.declared.rule.StaleAllow.{StaleAllow}
use Rattle.cut_rules.specs.RuleLines.{RuleLine, Adds, Allow, Named, Restricts, States}
use Rattle.cut_rules.specs.Rules.{LineFault, HasFault, HasPattern}
use Rattle.cut_rules.specs.Names.{names_in}
use Rattle.cut_rules.specs.Builders.{HasLines, IsEmptyFor, IsMember}
use Rattle.cut_rules.proofs.LineLists.{no_lines}
use Rattle.cut_rules.proofs.Pieces.{get_low, says_low}

-- a fault is one of a line of the text
pub fault_low : (net : Network) (files : List File) (pieces : List (List ℕ)) (line : ℕ) (fault : LineFault) → HasFault net files pieces line fault → (0 < line) × (line ≤ length pieces)
fault_low net files pieces line fault (inl ((piece, at, written, unread), e)) = let n = at.number in let lt = get_low pieces at.place piece at.present in (omega arith, omega arith)
fault_low net files pieces line fault (inr (content, says, wrong)) = says_low pieces line content says

module _ (context : LineContext) (pieces : List (List ℕ)) where
  no_line_at : (line : ℕ) (content : RuleLine) → line ≤ 0 → States pieces line content → ⊥
  no_line_at line content le says = let low = (says_low pieces line content says).0 in omega arith

  pub empty_draft : (builder : RulesBuilder) → IsEmptyFor context builder → HasLines context.net.now context.files.now (names_in context.names.now.sets.keys) pieces 0 builder
  empty_draft builder is = record {
    sound = λ line fault le has. let low = (fault_low context.net.now context.files.now pieces line fault has).0 in omega arith;
    table = record {
      elements = λ x number m low named. (
        λ has. absurd (none_in number m has),
        λ (line, le, selector, says, own). absurd (no_line_at line (Adds x selector) le says),
      );
      patterns = ([], no_lines (HasPattern pieces) (λ l (s, pattern, says). (says_low pieces l (Adds s (Named pattern)) says).0), sym is.patterns);
      few = (let e = is.patterns in omega arith);
      modules = is.modules;
      size = is.sets.size ∙ sym (length-map context.names.now.sets.keys (λ (n : Name). n.bytes.now));
      sized = is.sets.sized;
    };
    rules = record {
      each = λ r has. absurd (no_member r (subst (λ (rs : List Rule). Contains rs r) is.rules has));
      all = λ line kind x y le says. absurd (no_line_at line (Restricts kind x y) le says);
      ascending = rw is.rules (λ i j d lt l. absurd (omega arith));
      few = rw is.rules (omega arith);
    };
    allowed = record {
      size = is.size;
      elements = λ k lt. (
        λ e. absurd (false≢true (sym (is.none k) ∙ e)),
        λ (line, le, says). absurd (no_line_at line _ le says),
      );
    };
    stale = record {
      each = λ s has. absurd (no_member s (subst (λ (ss : List StaleAllow). Contains ss s) is.stale has));
      all = λ line m n le own. absurd (no_line_at line (Allow m n) le own.0);
      ascending = rw is.stale (λ i j d lt l. absurd (omega arith));
    };
    pairs = λ m n. (
      λ e. absurd (false≢true (sym (ap (list_any _) is.pairs) ∙ e)),
      λ (line, le, says). absurd (no_line_at line (Allow m n) le says),
    );
  }
    where
      none_in : (number m : ℕ) → IsMember context.files.now builder.table number m → ⊥
      none_in number m (s, e, (set, present, (k, placed, flag_module))) = false≢true (sym (is.sets.none s k set present) ∙ flag_module)
