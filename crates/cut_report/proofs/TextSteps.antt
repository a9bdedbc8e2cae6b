-- A text that is read line by line.
use Rattle.std.proofs.Common.{◌≡◌, ◌≢◌, ℕ, ◌+◌, ◌≤◌, true, false, eqb, List, [], ◌∷◌, ◌++◌, length, Option, Some, None, Result, Ok, Err, refl, sym, ap, subst, ◌∙◌, append_assoc, arith, inl, inr}
use Rattle.std.specs.Prelude.{option_map, IfErr, IfOk}
use Rattle.std.specs.Option.{ok_or}
use Rattle.std.proofs.lemmas.Bool.{cases_Bool}
use Rattle.std.proofs.lemmas.List.{append-nil, length_push, length-append}
use Rattle.std.proofs.lemmas.List.Concat.{flat_map-append}
use Rattle.texts.specs.Fields.{split_at_first, ended, with_first}
use Rattle.cut_net.specs.Network.{Network}
use Rattle.cut_net.specs.WellFormed.{IsNetwork}
use Rattle.cut_report.specs.ReportLine.{ReportLine, Last, report_line, written}
use Rattle.cut_report.specs.ReportLines.{IsWellFormed, IsGoodAfter, IsAllowedLine, IsPrefix, BeginsWith, IsWrongLine, IsBadLine, IsUnknownName, IsOutOfOrder, has_line_end, last_of, IsReportOutcome}
use Rattle.texts.proofs.FieldCuts.{cut_takes, without, some, some_is, with_some}
use Rattle.cut_report.specs.declared.fault.ReportLineFault.{ReportLineFault}
use Rattle.cut_report.specs.declared.fault.ReportLineFault.TheVariants as faults
use Rattle.cut_report.specs.ReportLine.{leading_lines, entry_lines}
use Rattle.cut_report.specs.Lines.{line_of_text}
use Rattle.cut_report.specs.declared.fault.ReportFault.{ReportFault}
use Rattle.cut_report.specs.declared.builder.ReportBuilder.{ReportBuilder}
use Rattle.cut_report.specs.declared.report.Report.{Report}
use Rattle.cut_report.specs.Builders.{◌>>=◌, IsLineFault, IsReadAtLine, BuilderState, Start, FirstLine, CutLines, PathLine, Complete, finish_of, builder_state_of, report_fault_in_line, step, text_step}
use Rattle.cut_report.specs.Faults.{HasOutcome, UnlessMemory}
use Rattle.cut_report.specs.Reading.{entry_of}
use Rattle.cut_report.proofs.FaultLaws.{UnlessMemory-from}
use Rattle.cut_report.proofs.LineLaws.{line_again, line_once, line_takes}
use Rattle.cut_report.proofs.TextFronts.{end_without}
use Rattle.cut_report.proofs.EntryLines.{good-append, good_front, good_report}
use Rattle.cut_report.proofs.Standings.{StepIs, last_is_end, last_line, not_ended, standing_lines, step_is}

-- what stands before the first such byte has none
pub cut_front : (stop : ℕ) (bytes : List ℕ) (x : List ℕ × List ℕ) → split_at_first stop bytes ≡ Some x → without stop x.0 ≡ true
unfolding split_at_first
cut_front stop [] x e = absurd cc
cut_front stop (b ∷ bytes) x e =
    elim (cases_Bool (eqb b stop)) [
      | inl stops ↦ let at : Some ([], bytes) ≡ Some x = rw stops at e in
          let pair : ([], bytes) ≡ x = some_is _ _ at in
          rw (← pair) refl
      | inr goes ↦ let at : option_map (with_first b) (split_at_first stop bytes) ≡ Some x = rw goes at e in
          let p = with_some b (split_at_first stop bytes) x at in
          let prefix : without stop (b ∷ p.0.0) ≡ true = rw (goes, cut_front stop bytes p.0 p.1) refl in
          subst (λ (y : List ℕ × List ℕ). without stop y.0 ≡ true) p.2 prefix
    ]

pub cut_none_without : (stop : ℕ) (bytes : List ℕ) → split_at_first stop bytes ≡ None → without stop bytes ≡ true
unfolding split_at_first
cut_none_without stop [] e = refl
cut_none_without stop (b ∷ bytes) e =
    elim (cases_Bool (eqb b stop)) [
      | inl stops ↦ let at : some {A = List ℕ × List ℕ} ([], bytes) ≡ None = rw stops at e in absurd cc
      | inr goes ↦ let at : option_map (with_first b) (split_at_first stop bytes) ≡ None = rw goes at e in
          rw (goes, cut_none_without stop bytes (none_of b (split_at_first stop bytes) at)) refl
    ]
  where
    none_of : (b : ℕ) (o : Option (List ℕ × List ℕ)) → option_map (with_first b) o ≡ None → o ≡ None
    none_of b None e = refl
    none_of b (Some y) e = absurd cc

-- the line of a text, and its end
pub begins : (rest text after : List ℕ) → split_at_first 10 rest ≡ Some (text, after) → BeginsWith rest text
begins rest text after e = record {
  more = after;
  whole = cut_takes 10 rest (text, after) e ∙ sym (append_assoc text (10 ∷ []) after);
  one_line = end_without text (cut_front 10 rest (text, after) e);
}

-- what a step over a line is, by what it gives
abbrev pub TextIs : Network → List ℕ → BuilderState → List ℕ → Result BuilderState ReportLineFault → Type 0
TextIs net bytes s after (Ok t) = IsPrefix net bytes (standing_lines net t) after × (length (standing_lines net t) ≡ length (standing_lines net s) + 1)
TextIs net bytes s after (Err faults.BadLine) = IsBadLine net bytes (length (standing_lines net s))
TextIs net bytes s after (Err faults.UnknownName) = IsUnknownName net bytes (length (standing_lines net s))
TextIs net bytes s after (Err faults.Order) = IsOutOfOrder net bytes (length (standing_lines net s))
TextIs net bytes s after (Err faults.Memory) = Unit {0}

-- the text isn't empty
nonempty : (rest text : List ℕ) → BeginsWith rest text → rest ≢ []
nonempty rest text b e =
    let n : length (ended text ++ b.more) ≡ 0 = ap length (sym b.whole ∙ e) in
    absurd (omega (arith, length-append (ended text) b.more, length_push text 10, n))

-- no line that may follow is spelled so
wrong : (net : Network) (s : BuilderState) (rest text : List ℕ) → BeginsWith rest text → ((line : ReportLine) → IsAllowedLine (last_line net s) line → report_line line ≢ text) → IsWrongLine (last_line net s) rest
wrong net Start rest text b h = inr (λ e. absurd cc, (text, b, h))
wrong net (FirstLine x y) rest text b h = inr (λ e. absurd cc, (text, b, h))
wrong net (CutLines p) rest text b h = inr (not_ended net p, (text, b, h))
wrong net (PathLine x y chain) rest text b h = inr (λ e. absurd cc, (text, b, h))
wrong net (Complete e) rest text b h = inl (last_is_end net e, nonempty rest text b)

next_front : (net : Network) (bytes : List ℕ) (lines : List ReportLine) (line : ReportLine) (rest after : List ℕ) → rest ≡ ended (report_line line) ++ after → IsPrefix net bytes lines rest → IsGoodAfter net (last_of None lines) line
    → IsPrefix net bytes (lines ++ line ∷ []) after
next_front net bytes lines line rest after e f g =
    let more : written (lines ++ line ∷ []) ≡ written lines ++ ended (report_line line) = flat_map-append (λ x. ended (report_line x)) lines (line ∷ []) ∙ ap (λ (t : List ℕ). written lines ++ t) (append-nil (ended (report_line line))) in
    record {
      good = good-append net None lines (line ∷ []) f.good (g, tt);
      whole = f.whole ∙ ap (λ (t : List ℕ). written lines ++ t) e ∙ sym (append_assoc (written lines) (ended (report_line line)) after) ∙ ap (λ (t : List ℕ). t ++ after) (sym more);
    }

by_line : (net : Network) (bytes : List ℕ) (s : BuilderState) (rest after : List ℕ) (line : ReportLine) (r : Result BuilderState ReportLineFault) → IsPrefix net bytes (standing_lines net s) rest → IsWellFormed line
    → rest ≡ ended (report_line line) ++ after → has_line_end (report_line line) ≡ false → StepIs net s line r → TextIs net bytes s after r
by_line net bytes s rest after line (Ok t) f h e one is = (
  rw is.1 (next_front net bytes (standing_lines net s) line rest after e f is.0),
  rw is.1 (length_push (standing_lines net s) line),
)
by_line net bytes s rest after line (Err faults.BadLine) f h e one is =
    let present : BeginsWith rest (report_line line) = record { more = after; whole = e; one_line = one } in
    record {
      before = standing_lines net s;
      rest = rest;
      prefix = f;
      count = refl;
      wrong = wrong net s rest (report_line line) present
          (λ other next same. let bad : true ≡ false = sym next.follows ∙ rw (line_once other line next.form h same) is in absurd cc);
    }
by_line net bytes s rest after line (Err faults.UnknownName) f h e one is = record {
  before = standing_lines net s;
  rest = rest;
  prefix = f;
  count = refl;
  line = line;
  present = record { more = after; whole = e; one_line = one };
  next = is.0;
  unknown = is.1;
}
by_line net bytes s rest after line (Err faults.Order) f h e one is = record {
  before = standing_lines net s;
  rest = rest;
  prefix = f;
  count = refl;
  line = line;
  present = record { more = after; whole = e; one_line = one };
  next = is.0;
  known = is.1;
  below = is.2;
}
by_line net bytes s rest after line (Err faults.Memory) f h e one is = tt

pub text_is : (net : Network) (bytes : List ℕ) (s : BuilderState) (rest text after : List ℕ) → IsNetwork net → IsPrefix net bytes (standing_lines net s) rest → split_at_first 10 rest ≡ Some (text, after) → TextIs net bytes s after (text_step net s text)
unfolding text_step
text_is net bytes s rest text after w f e = go (line_of_text text) refl
  where
    present : BeginsWith rest text
    present = begins rest text after e

    go : (o : Option ReportLine) → line_of_text text ≡ o → TextIs net bytes s after (ok_or o faults.BadLine >>= λ line. step net s line)
    go None h = record {
      before = standing_lines net s;
      rest = rest;
      prefix = f;
      count = refl;
      wrong = wrong net s rest text present (λ line next same. let bad : None ≡ Some line = sym h ∙ (rw same at (line_again line next.form)) in absurd cc);
    }
    go (Some line) h =
        let is = line_takes text line h in
        let whole : rest ≡ ended (report_line line) ++ after = rw is.spelled (cut_takes 10 rest (text, after) e ∙ sym (append_assoc text (10 ∷ []) after)) in
        let one : has_line_end (report_line line) ≡ false = rw is.spelled (end_without text (cut_front 10 rest (text, after) e)) in
        by_line net bytes s rest after line (step net s line) f is.form whole one (step_is net s line w f.good is.form)

-- what a text is that has no whole line more
pub rest_is : (net : Network) (bytes : List ℕ) (s : BuilderState) (rest : List ℕ) → IsNetwork net → IsPrefix net bytes (standing_lines net s) rest → split_at_first 10 rest ≡ None
    → IsReportOutcome net bytes (finish_of s (length (standing_lines net s)) rest)
rest_is net bytes Start rest w f e = record { before = []; rest = rest; prefix = f; unended = end_without rest (cut_none_without 10 rest e); not_last = λ same. absurd cc }
rest_is net bytes (FirstLine a b) rest w f e = record { before = standing_lines net (FirstLine a b); rest = rest; prefix = f; unended = end_without rest (cut_none_without 10 rest e); not_last = λ same. absurd cc }
rest_is net bytes (CutLines p) rest w f e = record { before = standing_lines net (CutLines p); rest = rest; prefix = f; unended = end_without rest (cut_none_without 10 rest e); not_last = not_ended net p }
rest_is net bytes (PathLine a b chain) rest w f e = record { before = standing_lines net (PathLine a b chain); rest = rest; prefix = f; unended = end_without rest (cut_none_without 10 rest e); not_last = λ same. absurd cc }
rest_is net bytes (Complete entry) [] w f e = record {
  report = good_report net entry w (good_front net None (leading_lines net entry) (Last ∷ []) f.good);
  spelled = f.whole ∙ append-nil (written (entry_lines net entry));
}
rest_is net bytes (Complete entry) (b ∷ rest) w f e =
    (length (standing_lines net (Complete entry)), refl, record { before = standing_lines net (Complete entry); rest = b ∷ rest; prefix = f; count = refl; wrong = inl (last_is_end net entry, λ same. absurd cc) })

-- what is answered where no whole line follows
pub told_at_end : (net : Network) (bytes : List ℕ) (s : BuilderState) (before : ℕ) (rest : List ℕ) (result : Result Report ReportFault) → IsNetwork net → IsPrefix net bytes (standing_lines net s) rest → split_at_first 10 rest ≡ None
    → before ≡ length (standing_lines net s) → IfOk result (λ report. finish_of s before rest ≡ Ok (entry_of report)) → IfErr result (λ fault. finish_of s before rest ≡ Err fault) → HasOutcome entry_of result (IsReportOutcome net bytes)
told_at_end net bytes s before rest (Ok report) w f e n ok err = subst (IsReportOutcome net bytes) ok (rw n (rest_is net bytes s rest w f e))
told_at_end net bytes s before rest (Err fault) w f e n ok err = UnlessMemory-from fault (subst (IsReportOutcome net bytes) err (rw n (rest_is net bytes s rest w f e)))

-- a valid line, and the lines go on after it
pub goes_on : (net : Network) (bytes : List ℕ) (s t : BuilderState) (rest text after : List ℕ) → IsNetwork net → IsPrefix net bytes (standing_lines net s) rest → split_at_first 10 rest ≡ Some (text, after) → text_step net s text ≡ Ok t
    → IsPrefix net bytes (standing_lines net t) after × (length (standing_lines net t) ≡ length (standing_lines net s) + 1)
goes_on net bytes s t rest text after w f e is = rw is at (text_is net bytes s rest text after w f e)

-- the fault of a line is that of the text
pub fails : (net : Network) (bytes : List ℕ) (s : BuilderState) (rest text after : List ℕ) (line : ℕ) (fault : ReportFault) → IsNetwork net → IsPrefix net bytes (standing_lines net s) rest → split_at_first 10 rest ≡ Some (text, after)
    → line ≡ length (standing_lines net s) + 1 → IsReadAtLine {X = ReportBuilder} line builder_state_of (Err fault) (text_step net s text) → UnlessMemory fault (IsReportOutcome net bytes (Err fault))
fails net bytes s rest text after line fault w f e n given = rw given.1 (by_fault given.0 given.2)
  where
    by_fault : (x : ReportLineFault) → IsLineFault x (text_step net s text) → UnlessMemory (report_fault_in_line line x) (IsReportOutcome net bytes (Err (report_fault_in_line line x)))
    by_fault faults.BadLine is = (length (standing_lines net s), n, rw is at (text_is net bytes s rest text after w f e))
    by_fault faults.UnknownName is = (length (standing_lines net s), n, rw is at (text_is net bytes s rest text after w f e))
    by_fault faults.Order is = (length (standing_lines net s), n, rw is at (text_is net bytes s rest text after w f e))
    by_fault faults.Memory is = tt

-- the length of what is left
pub cut_length : (rest text after : List ℕ) → split_at_first 10 rest ≡ Some (text, after) → length after + 1 ≤ length rest
cut_length rest text after e =
    let n : length rest ≡ length (text ++ 10 ∷ after) = ap length (cut_takes 10 rest (text, after) e) in
    omega (arith, n, length-append text (10 ∷ after))
