-- The errors of a line, in the order of testing.
use Rattle.std.proofs.Common.{◌≡◌, ℕ, ◌+◌, ◌<◌, ◌≤◌, inl, inr, true, false, List, Some, None, refl, sym, ap, ap₂, ◌∙◌, subst, arith}
use Rattle.std.proofs.lemmas.Bool.{cases_eq, cases_order, false≢true}
use Rattle.cut_net.specs.Network.{Network}
use Rattle.cut_rules.specs.declared.fault.RulesFault.{RulesFault}
use Rattle.cut_rules.specs.declared.fault.RulesFault.TheVariants as faults
use Rattle.cut_rules.specs.declared.file.File.{File}
use Rattle.cut_rules.specs.declared.rule.RuleKind.{RuleKind}
use Rattle.cut_rules.specs.RuleLines.{RuleLine, Selector, Module, Folder, Named, Tree, Adds, Restricts, Allow, IsEmptyOrComment, IsPieceAt, States, Spells}
use Rattle.cut_rules.specs.LineReading.{is_empty_or_comment, rule_line_of}
use Rattle.cut_rules.specs.Rules.{LineFault, BadLine, SetIsModule, NoSuchModule, TwiceAllowed, EmptySet, TooMany, empty_selection_fault, rank, IsOverLimit, HasFault, HasPattern, IsFirstUnknown, IsModule, IsInvalidLine, IsRule, IsUnknown, ContentHasFault, Selects}
use Rattle.cut_rules.specs.Names.{IsDeclaredName}
use Rattle.cut_rules.specs.Builders.{SelectsAny}
use Rattle.cut_rules.specs.Faults.{cause_of, IsFirstFault, IsRefusal, UnlessMemory}
use Rattle.cut_rules.proofs.LineLaws.{idle_is, idle_says, idle_takes, no_line, one_piece, says_one}

module _ (net : Network) (files : List File) (pieces : List (List ℕ)) where
  -- ---- a line has one fault of a rank

  unknown_once : (u v x y : List ℕ) → IsFirstUnknown net files pieces u x y → IsFirstUnknown net files pieces v x y → u ≡ v
  unknown_once u v x y (inl (e, a)) (inl (f, b)) = e ∙ sym f
  unknown_once u v x y (inl (e, a)) (inr (f, b, first)) = absurd (first a)
  unknown_once u v x y (inr (e, a, first)) (inl (f, b)) = absurd (first b)
  unknown_once u v x y (inr (e, a, first)) (inr (f, b, also)) = e ∙ sym f

  wrong_once : (line : ℕ) (content : RuleLine) (f g : LineFault) → ContentHasFault net files pieces line f content → ContentHasFault net files pieces line g content → rank f ≡ rank g → f ≡ g
  wrong_once line (Adds s selector) (SetIsModule x) (SetIsModule y) a b e = ap SetIsModule (a.0 ∙ sym b.0)
  wrong_once line (Adds s (Module m)) (NoSuchModule x) (NoSuchModule y) a b e = ap NoSuchModule (a.0 ∙ sym b.0)
  wrong_once line (Restricts kind x y) (NoSuchModule u) (NoSuchModule v) a b e = ap NoSuchModule (unknown_once u v x y a b)
  wrong_once line (Allow m n) (TwiceAllowed k l) (TwiceAllowed i j) a b e = ap₂ TwiceAllowed (a.0 ∙ sym b.0) (a.1 ∙ sym b.1)
  wrong_once line (Adds s selector) (EmptySet x) (EmptySet y) a b e = ap EmptySet (a.0 ∙ sym b.0)
  wrong_once line content TooMany TooMany a b e = refl
  wrong_once line content f g a b e = absurd (first_of (assumption, omega arith))

  no_bad : (line : ℕ) → IsInvalidLine net files pieces line → (content : RuleLine) → States pieces line content → ⊥
  no_bad line (piece, at, written, none) content s = none content (subst (λ (p : List ℕ). Spells p content) (one_piece pieces line s.piece piece s.at at) s.spelled)

  fault_once : (line : ℕ) (f g : LineFault) → HasFault net files pieces line f → HasFault net files pieces line g → rank f ≡ rank g → f ≡ g
  fault_once line f g (inl (bad, is)) (inl (also, same)) e = is ∙ sym same
  fault_once line f g (inl (bad, is)) (inr (content, says, wrong)) e = absurd (no_bad line bad content says)
  fault_once line f g (inr (content, says, wrong)) (inl (bad, is)) e = absurd (no_bad line bad content says)
  fault_once line f g (inr (content, says, wrong)) (inr (other, also, is)) e =
      wrong_once line content f g wrong (subst (ContentHasFault net files pieces line g) (says_one pieces line other content also says) is) e

  pub error_is_unique : (a b : RulesFault) → IsRefusal net files pieces a → IsRefusal net files pieces b → cause_of a ≡ cause_of b
  error_is_unique a b (l, f, first, a_is) (m, g, second, b_is) = elim (cases_order l m) [
    | inl e ↦
        let here : HasFault net files pieces l g = subst (λ (n : ℕ). HasFault net files pieces n g) (sym e) second.has in
        let present : HasFault net files pieces m f = subst (λ (n : ℕ). HasFault net files pieces n f) e first.has in
        let low = first.first g here in
        let high = second.first f present in
        let same = fault_once l f g first.has here (omega arith) in
        a_is ∙ ap₂ (λ (n : ℕ) (h : LineFault). Some (n, h)) e same ∙ sym b_is
    | inr differs ↦ elim differs [
      | inl less ↦ absurd (second.first_line l f less first.has)
      | inr more ↦ absurd (first.first_line m g more second.has)
    ]
  ]

  -- ---- the next line

  module _ (count line : ℕ) (number : line ≡ count + 1) (sound : (before : ℕ) (fault : LineFault) → before ≤ count → HasFault net files pieces before fault → ⊥) where
    first_fault : (fault : LineFault) → HasFault net files pieces line fault → ((other : LineFault) → HasFault net files pieces line other → rank fault ≤ rank other) → IsFirstFault net files pieces line fault
    first_fault fault has low = record { has = has; first_line = λ before other less also. sound before other (omega arith) also; first = low }

    pub bad_line : (piece : List ℕ) → IsPieceAt pieces line piece → is_empty_or_comment piece ≡ false → rule_line_of piece ≡ None → IsFirstFault net files pieces line BadLine
    bad_line piece at written none = first_fault BadLine (inl ((piece, at, (λ idle. false≢true (sym written ∙ idle_is piece idle)), no_line piece none), refl)) (λ other has. omega arith)

    -- a line with this content has no other faults than those that are wrong with it
    pub wrong_line : (content : RuleLine) (fault : LineFault) → States pieces line content → ContentHasFault net files pieces line fault content → ((other : LineFault) → ContentHasFault net files pieces line other content → rank fault ≤ rank other)
        → IsFirstFault net files pieces line fault
    wrong_line content fault says wrong low = first_fault fault (inr (content, says, wrong)) first
      where
        first : (other : LineFault) → HasFault net files pieces line other → rank fault ≤ rank other
        first other (inl (bad, is)) = absurd (no_bad line bad content says)
        first other (inr (also, same, is)) = low other (subst (ContentHasFault net files pieces line other) (says_one pieces line also content same says) is)

    sound_with : ((fault : LineFault) → HasFault net files pieces line fault → ⊥) → (l : ℕ) (fault : LineFault) → l ≤ line → HasFault net files pieces l fault → ⊥
    sound_with here l fault le has = elim (cases_eq l line) [
      | inl e ↦ here fault (subst (λ (n : ℕ). HasFault net files pieces n fault) e has)
      | inr ne ↦ sound l fault (omega (arith, ne)) has
    ]

    pub right_line : (content : RuleLine) → States pieces line content → ((fault : LineFault) → ContentHasFault net files pieces line fault content → ⊥) → (l : ℕ) (fault : LineFault) → l ≤ line → HasFault net files pieces l fault → ⊥
    right_line content says right = sound_with here
      where
        here : (fault : LineFault) → HasFault net files pieces line fault → ⊥
        here fault (inl (bad, is)) = no_bad line bad content says
        here fault (inr (also, same, wrong)) = right fault (subst (ContentHasFault net files pieces line fault) (says_one pieces line also content same says) wrong)

    pub idle_line : (piece : List ℕ) → IsPieceAt pieces line piece → is_empty_or_comment piece ≡ true → (l : ℕ) (fault : LineFault) → l ≤ line → HasFault net files pieces l fault → ⊥
    idle_line piece at idle = sound_with here
      where
        here : (fault : LineFault) → HasFault net files pieces line fault → ⊥
        here fault (inl ((other, present, written, none), is)) = written (subst (λ (p : List ℕ). IsEmptyOrComment p) (one_piece pieces line piece other at present) (idle_takes piece idle))
        here fault (inr (content, says, wrong)) = idle_says pieces line piece content at idle says

  -- ---- a line that adds modules to a set

  pub adds_right : (line : ℕ) (s : List ℕ) (selector : Selector) → ((name : List ℕ) (m : ℕ) → Selects net files (Module name) m → IsModule net files pieces name) → SelectsAny net files selector
      → ((pattern : List ℕ) → selector ≡ Named pattern → IsOverLimit (HasPattern pieces) line → ⊥) → (IsModule net files pieces s → ⊥) → (fault : LineFault) → ContentHasFault net files pieces line fault (Adds s selector) → ⊥
  adds_right line s selector named (m, any) few apart (SetIsModule x) wrong = apart wrong.1
  adds_right line s (Module name) named (m, any) few apart (NoSuchModule x) wrong = wrong.1 (named name m any)
  adds_right line s selector named (m, any) few apart (EmptySet x) wrong = wrong.1 m any
  adds_right line s (Named pattern) named any few apart TooMany wrong = few pattern refl wrong
  adds_right line s selector named any few apart fault wrong = wrong

  pub set_is_module : (line : ℕ) (s : List ℕ) (selector : Selector) (other : LineFault) → ContentHasFault net files pieces line other (Adds s selector) → rank (SetIsModule s) ≤ rank other
  set_is_module line s selector BadLine wrong = absurd wrong
  set_is_module line s selector other wrong = omega arith

  -- none of its modules is there
  pub empty_wrong : (line : ℕ) (s : List ℕ) (selector : Selector) → ((name : List ℕ) → IsModule net files pieces name → SelectsAny net files (Module name)) → (SelectsAny net files selector → ⊥) → ContentHasFault net files pieces line (empty_selection_fault s selector) (Adds s selector)
  empty_wrong line s (Module m) found none = (refl, λ is. none (found m is))
  empty_wrong line s (Folder path) found none = (refl, λ m is. none (m, is))
  empty_wrong line s (Named pattern) found none = (refl, λ m is. none (m, is))
  empty_wrong line s Tree found none = (refl, λ m is. none (m, is))

  pub empty_first : (line : ℕ) (s : List ℕ) (selector : Selector) → (IsModule net files pieces s → ⊥) → (other : LineFault) → ContentHasFault net files pieces line other (Adds s selector) → rank (empty_selection_fault s selector) ≤ rank other
  empty_first line s selector apart BadLine wrong = absurd wrong
  empty_first line s selector apart (SetIsModule x) wrong = absurd (apart wrong.1)
  empty_first line s (Module m) apart other wrong = omega arith
  empty_first line s (Folder path) apart (NoSuchModule x) wrong = absurd wrong
  empty_first line s (Named pattern) apart (NoSuchModule x) wrong = absurd wrong
  empty_first line s Tree apart (NoSuchModule x) wrong = absurd wrong
  empty_first line s selector apart (TwiceAllowed m n) wrong = absurd wrong
  empty_first line s (Folder path) apart other wrong = omega arith
  empty_first line s (Named pattern) apart other wrong = omega arith
  empty_first line s Tree apart other wrong = omega arith

  pub many_first : (line : ℕ) (s pattern : List ℕ) → (IsModule net files pieces s → ⊥) → SelectsAny net files (Named pattern) → (other : LineFault) → ContentHasFault net files pieces line other (Adds s (Named pattern)) → rank TooMany ≤ rank other
  many_first line s pattern apart (m, any) (SetIsModule x) wrong = absurd (apart wrong.1)
  many_first line s pattern apart (m, any) (EmptySet x) wrong = absurd (wrong.1 m any)
  many_first line s pattern apart any TooMany wrong = omega arith
  many_first line s pattern apart any other wrong = absurd wrong

  -- ---- a rule

  pub unknown_first : (line : ℕ) (kind : RuleKind) (name x y : List ℕ) (other : LineFault) → ContentHasFault net files pieces line other (Restricts kind x y) → rank (NoSuchModule name) ≤ rank other
  unknown_first line kind name x y BadLine wrong = absurd wrong
  unknown_first line kind name x y (SetIsModule s) wrong = absurd wrong
  unknown_first line kind name x y other wrong = omega arith

  pub rule_many : (line : ℕ) (kind : RuleKind) (x y : List ℕ) → (IsUnknown net files pieces x → ⊥) → (IsUnknown net files pieces y → ⊥) → (other : LineFault) → ContentHasFault net files pieces line other (Restricts kind x y) → rank TooMany ≤ rank other
  rule_many line kind x y first second (NoSuchModule name) (inl (e, un)) = absurd (first un)
  rule_many line kind x y first second (NoSuchModule name) (inr (e, un, known)) = absurd (second un)
  rule_many line kind x y first second TooMany wrong = omega arith
  rule_many line kind x y first second other wrong = absurd wrong

  pub rule_right : (line : ℕ) (kind : RuleKind) (x y : List ℕ) → (IsUnknown net files pieces x → ⊥) → (IsUnknown net files pieces y → ⊥) → (IsOverLimit (IsRule pieces) line → ⊥) → (fault : LineFault) → ContentHasFault net files pieces line fault (Restricts kind x y) → ⊥
  rule_right line kind x y first second few (NoSuchModule name) (inl (e, un)) = first un
  rule_right line kind x y first second few (NoSuchModule name) (inr (e, un, known)) = second un
  rule_right line kind x y first second few TooMany wrong = few wrong
  rule_right line kind x y first second few other wrong = wrong

  pub unknown_name : (x : List ℕ) → (IsDeclaredName net pieces x → ⊥) → IsUnknown net files pieces x
  unknown_name x none = ((λ own. none (inl own)), (λ set. none (inr set)))

  pub known_name : (x : List ℕ) → IsDeclaredName net pieces x → IsUnknown net files pieces x → ⊥
  known_name x (inl own) unknown = unknown.0 own
  known_name x (inr set) unknown = unknown.1 set

  -- ---- an allowed import

  pub twice_first : (line : ℕ) (m n : List ℕ) (other : LineFault) → ContentHasFault net files pieces line other (Allow m n) → rank (TwiceAllowed m n) ≤ rank other
  twice_first line m n (TwiceAllowed k l) wrong = omega arith
  twice_first line m n other wrong = absurd wrong

  pub allow_right : (line : ℕ) (m n : List ℕ) → ((before : ℕ) → before < line → States pieces before (Allow m n) → ⊥) → (fault : LineFault) → ContentHasFault net files pieces line fault (Allow m n) → ⊥
  allow_right line m n none (TwiceAllowed k l) (e, f, before, less, says) = none before less says
  allow_right line m n none other wrong = wrong

-- ---- what is reported

pub unless_map : (r : RulesFault) {P Q : Type 0} → (P → Q) → UnlessMemory r P → UnlessMemory r Q
unless_map (faults.BadLine l) f p = f p
unless_map (faults.SetIsModule l name) f p = f p
unless_map (faults.NoSuchModule l name) f p = f p
unless_map (faults.TwiceAllowed l m n) f p = f p
unless_map (faults.EmptySet l text) f p = f p
unless_map (faults.TooMany l) f p = f p
unless_map faults.Memory f p = tt

pub unless : (r : RulesFault) {P : Type 0} → P → UnlessMemory r P
unless (faults.BadLine l) p = p
unless (faults.SetIsModule l name) p = p
unless (faults.NoSuchModule l name) p = p
unless (faults.TwiceAllowed l m n) p = p
unless (faults.EmptySet l text) p = p
unless (faults.TooMany l) p = p
unless faults.Memory p = tt
