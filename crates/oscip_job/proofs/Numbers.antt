-- The numbers that a command line names are in their ranges, by the rules of clap.
use Rattle.std.proofs.Common.{◌≡◌, ◌<◌, ◌≤◌, ◌^◌, ℕ, Bool, true, false, cond, codes, pos, List, [], ◌∷◌, Option, Some, None, Ok, refl, sym, subst, arith, not, ◌&&◌, ◌||◌, ◌==◌}
use Rattle.std.specs.Prelude.{find, option_and_then, option_map, slice_get, IfSome}
use Rattle.std.specs.Str.{bytes_eq}
use Rattle.std.specs.Str.Parse.{ParsesUnsigned}
use Rattle.std.specs.List.{list_all}
use Rattle.std.proofs.lemmas.Bool.{and_parts, eqb-true}
use Rattle.std.proofs.lemmas.Option.{same_Some}
use Rattle.clap.proofs.CallerReads.{signed_reads}
use Rattle.clap.proofs.ValueTestLemmas.{accepts-Accepts}
use Rattle.clap.specs.Facts.{parser_of_value}
use Rattle.clap.specs.Faults.{fault_of, is_simple_and_free}
use Rattle.clap.specs.Kinds.{value_kinds}
use Rattle.clap.specs.Lexer.{without_minus}
use Rattle.clap.specs.Simple.{App, HasMatchesOf, Shape, built, subcommand_of, subcommand_rows_of}
use Rattle.clap.specs.Values.{read_as, reading_of, refused_kind, IsSignedIn}
use Rattle.clap.specs.ValueTests.{accepts}
use Rattle.clap.specs.Walk.{Row, Rule, Text, action_of, row_text}
use Rattle.clap.specs.declared.ArgMatches.{ArgMatches}
use Rattle.clap.specs.declared.builder.action.ArgAction.{ArgAction}
use Rattle.clap.specs.declared.builder.action.ArgAction.TheVariants as actions
use Rattle.clap.specs.declared.builder.value_parser.Reading.TheVariants.{WithoutMinus}
use Rattle.clap.specs.declared.builder.value_parser.ValueParser.{ValueParser}
use Rattle.clap.specs.declared.builder.value_parser.ValueParser.TheVariants as parsers
use Rattle.oscip_job.specs.Jobs.{oscip, NamesNumbers, NamesPosition, NamesWithin, HasWorkersInRange}
use Rattle.oscip_job.proofs.Ranged.{command_kept, found_kept, AllGood, AreAllRight, AreKept, AreRight, IsRight}

-- of one argument, by its id, and of its range
module _ (id : Text) (least most : ℕ) where
  -- a value that is a number in the range
  abbrev Good : Text → Type 0
  Good = IsSignedIn (pos least) (pos most)

  -- the values are such numbers
  abbrev InRange : List Text → Type 0
  InRange = AllGood id WithoutMinus Good

  -- those of the argument are
  abbrev AreNumbers : List Row → Type 0
  AreNumbers = AreKept id WithoutMinus Good

  -- a value that passes the argument's parser is such a number
  passed : (ignore_case : Bool) (v : Text) → value_kinds ignore_case (parsers.Signed (pos least) (pos most)) v ≡ [] → Good v
  passed ignore_case v e =
      accepts-Accepts ignore_case (parsers.Signed (pos least) (pos most)) v (go (accepts ignore_case (parsers.Signed (pos least) (pos most)) v) e)
    where
      go : (b : Bool) → cond b [] (refused_kind (parsers.Signed (pos least) (pos most)) ∷ []) ≡ [] → b ≡ true
      go true f = refl
      go false f = absurd cc

  -- a parser for these numbers alone
  abbrev is_ranged : Option ValueParser → Bool
  is_ranged (Some (parsers.Signed (pos low) (pos high))) = (low == least) && (high == most)
  is_ranged _ = false

  abbrev is_set : ArgAction → Bool
  is_set actions.Set = true
  is_set _ = false

  -- a rule of another argument, or one that is set once and has that parser
  abbrev fits_rule : Rule → Bool
  fits_rule a = not (bytes_eq a.id id) || (is_set (action_of a) && is_ranged a.parser)

  rule_right : (a : Rule) → fits_rule a ≡ true → IsRight id WithoutMinus Good a
  rule_right a fits own =
      let both = and_parts (is_set (action_of a)) (is_ranged a.parser) (rw own at fits) in
      let range = ranged a.parser both.1 in
      (set (action_of a) both.0, range.0, range.1)
    where
      set : (x : ArgAction) → is_set x ≡ true → x ≡ actions.Set
      set actions.Set e = refl
      set _ e = absurd cc

      ranged : (p : Option ValueParser) → is_ranged p ≡ true
          → (reading_of (parser_of_value p) ≡ WithoutMinus) × ((v : Text) → value_kinds a.ignore_case (parser_of_value p) v ≡ [] → Good v)
      ranged (Some (parsers.Signed (pos low) (pos high))) e =
          let same = and_parts (low == least) (high == most) e in
          rw (eqb-true low least same.0, eqb-true high most same.1) (refl, passed a.ignore_case)
      ranged _ e = absurd cc

  rules_right : (rules : List Rule) → list_all fits_rule rules ≡ true → AreRight id WithoutMinus Good rules
  rules_right [] e = tt
  rules_right (a ∷ rules) e =
      let both = and_parts (fits_rule a) (list_all fits_rule rules) e in
      (rule_right a both.0, rules_right rules both.1)

  all_right : (subs : List Shape) → list_all (λ (s : Shape). list_all fits_rule s.rules) subs ≡ true → AreAllRight id WithoutMinus Good subs
  all_right [] e = tt
  all_right (s ∷ subs) e =
      let both = and_parts (list_all fits_rule s.rules) (list_all (λ (t : Shape). list_all fits_rule t.rules) subs) e in
      (rules_right s.rules both.0, all_right subs both.1)

  -- a number that is found among such values is in the range
  within : most < 2 ^ 32 → (rows : List Row) → AreNumbers rows → NamesWithin id least most rows
  within fits rows kept n small found = go (find (λ (r : Row). bytes_eq r.id id) rows) (found_kept id WithoutMinus Good rows kept) found.1
    where
      parses : ParsesUnsigned {E = Unit {0}} 32 10 found.0 (Ok n)
      parses = ((found.2, rw (← found.3) small), found.3)

      first : (r : Row) (vs : List Text) → r.reading ≡ WithoutMinus → InRange vs
          → option_map (read_as r.reading) (slice_get vs 0) ≡ Some found.0 → (least ≤ n) × (n ≤ most)
      first r [] how good e = absurd cc
      first r (v ∷ vs) how good e =
          let text : without_minus v ≡ found.0 = same_Some (without_minus v) found.0 (rw how at e) in
          let read = signed_reads (Unit {0}) (λ u x. ParsesUnsigned 32 10 u x) 32 least most v (Some n) (rw text parses) (λ u x g. g) fits good.0 in
          let same : n ≡ read.0 = same_Some n read.0 read.1 in
          (rw same read.2, rw same read.3)

      go : (o : Option Row) → ((r : Row) → o ≡ Some r → (r.reading ≡ WithoutMinus) × InRange r.values)
          → option_and_then row_text o ≡ Some found.0 → (least ≤ n) × (n ≤ most)
      go None all e = absurd cc
      go (Some r) all e = first r r.values (all r refl).0 (all r refl).1 e

  -- so for the command that the words name, where each rule of that id has a parser for these numbers
  named : most < 2 ^ 32 → AreAllRight id WithoutMinus Good (built oscip).subs → (words : List Text) → fault_of oscip words ≡ []
      → IfSome (subcommand_of oscip words) (λ found. NamesWithin id least most found.1)
  named fits right words e = go (subcommand_of oscip words) (command_kept id WithoutMinus Good oscip words right e)
    where
      go : (o : Option (Text × List Row)) → IfSome o (λ found. AreNumbers found.1) → IfSome o (λ found. NamesWithin id least most found.1)
      go None h = tt
      go (Some found) h = within fits found.1 h

-- the rules of the id workers have a parser for 1 to 64, and those of LINE and COL one for 0 to 2147483647
workers_right : AreAllRight (codes "workers") WithoutMinus (IsSignedIn (pos 1) (pos 64)) (built oscip).subs
workers_right = all_right (codes "workers") 1 64 (built oscip).subs refl

line_right : AreAllRight (codes "LINE") WithoutMinus (IsSignedIn (pos 0) (pos 2147483647)) (built oscip).subs
line_right = all_right (codes "LINE") 0 2147483647 (built oscip).subs refl

column_right : AreAllRight (codes "COL") WithoutMinus (IsSignedIn (pos 0) (pos 2147483647)) (built oscip).subs
column_right = all_right (codes "COL") 0 2147483647 (built oscip).subs refl

both : (o : Option (Text × List Row)) (A B : List Row → Type 0) → IfSome o (λ found. A found.1) → IfSome o (λ found. B found.1) → IfSome o (λ found. A found.1 × B found.1)
both None A B a b = tt
both (Some found) A B a b = (a, b)

-- so all numbers of the command that the words name are in their ranges
command_names : (words : List Text) → fault_of oscip words ≡ [] → IfSome (subcommand_of oscip words) (λ found. NamesNumbers found.1)
command_names words e =
    let line = named (codes "LINE") 0 2147483647 (omega arith) line_right words e in
    let column = named (codes "COL") 0 2147483647 (omega arith) column_right words e in
    both (subcommand_of oscip words) HasWorkersInRange NamesPosition (named (codes "workers") 1 64 (omega arith) workers_right words e)
    (both (subcommand_of oscip words) (NamesWithin (codes "LINE") 0 2147483647) (NamesWithin (codes "COL") 0 2147483647) line column)

-- so for what a parse by these rules answers
pub parsed_names : (a : App) (words : List Text) (m : ArgMatches) → a ≡ oscip → (is_simple_and_free a ≡ true → fault_of a words ≡ []) → HasMatchesOf a words m
    → IfSome (subcommand_rows_of m) (λ found. NamesNumbers found.1)
parsed_names a words m is =
    subst (λ (x : App). (is_simple_and_free x ≡ true → fault_of x words ≡ []) → HasMatchesOf x words m → IfSome (subcommand_rows_of m) (λ found. NamesNumbers found.1)) (sym is)
    (λ passes has. subst (λ (o : Option (Text × List Row)). IfSome o (λ found. NamesNumbers found.1)) (sym (has refl).1) (command_names words (passes refl)))

-- the command that it answers is the one that the words name
pub parsed_rows : (a : App) (words : List Text) (m : ArgMatches) → a ≡ oscip → HasMatchesOf a words m → subcommand_rows_of m ≡ subcommand_of oscip words
parsed_rows a words m is = subst (λ (x : App). HasMatchesOf x words m → subcommand_rows_of m ≡ subcommand_of oscip words) (sym is) (λ has. (has refl).1)
