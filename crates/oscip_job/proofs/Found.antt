-- From clap's matches to the values that a job holds.
use Rattle.std.proofs.Common.{◌≡◌, ℕ, List, [], Option, Some, None, Result, Ok, refl, sym, ap, ap₂, ◌∙◌}
use Rattle.std.specs.Prelude.{option_map}
use Rattle.std.specs.Option.{unwrap_or}
use Rattle.std.specs.Str.Parse.{ParsesUnsigned}
use Rattle.std.specs.Box.{box_value}
use Rattle.clap.specs.Words.{ReadsOne, Row, Text, all_of, first_of, first_value, matched_of, one_text, raw_values, rows_of, subcommand_name_of, subcommand_rows, subcommand_rows_of}
use Rattle.clap.specs.declared.ArgMatches.{ArgMatches}
use Rattle.clap.specs.declared.ArgMatches.TheViews.{out-ArgMatches, out-SubCommand}
use Rattle.clap.specs.declared.parser.matches.Found.{Found}
use Rattle.clap.proofs.WalkLemmas.{first_value-rows, one_text-rows, raw_values-rows}
use Rattle.oscip_job.specs.Jobs.{FindsNumber}

pub names_are : (m : ArgMatches) → option_map (λ p. p.0) (subcommand_rows_of m) ≡ subcommand_name_of m
names_are m = elim (out-ArgMatches m).subcommand as (λ o. option_map (λ p. p.0) (subcommand_rows o) ≡ option_map (λ b. (out-SubCommand (box_value b)).name.now) o) [ None ↦ refl | Some b ↦ refl ]

both : (o : Option (Text × List Row)) (name : Text) (rows : List Row) → option_map (λ p. p.0) o ≡ Some name → option_map (λ p. p.1) o ≡ Some rows → o ≡ Some (name, rows)
both None name rows e f = absurd cc
both (Some p) name rows e f =
    let a : p.0 ≡ name = cc in
    let b : p.1 ≡ rows = cc in
    ap₂ (λ (x : Text) (y : List Row). Some (x, y)) a b

-- the command that was met, by the two clauses of `subcommand`
pub met : (m : ArgMatches) (name : Text) (f : Found) → Some name ≡ subcommand_name_of m → Some (rows_of f) ≡ option_map (λ p. p.1) (subcommand_rows_of m) → subcommand_rows_of m ≡ Some (name, rows_of f)
met m name f e g = both (subcommand_rows_of m) name (rows_of f) (names_are m ∙ sym e) (sym g)

-- what was found first for an argument
pub first_found : (f : Found) (id : Text) (o : Option Text) → o ≡ first_value f id → first_of id (rows_of f) ≡ o
first_found f id o e = sym (first_value-rows f id) ∙ sym e

-- a value that was found, as the text that it was copied to
pub value : (f : Found) (id text copy : Text) → Some text ≡ first_value f id → copy ≡ text → first_of id (rows_of f) ≡ Some copy
value f id text copy e same = sym (first_value-rows f id) ∙ sym e ∙ ap Some (sym same)

-- all values that were found for an argument
pub all_found : (f : Found) (id : Text) (o : Option (List Text)) → o ≡ option_map raw_values (matched_of f id) → unwrap_or (all_of id (rows_of f)) [] ≡ unwrap_or o []
all_found f id o e = ap (λ (x : Option (List Text)). unwrap_or x []) (sym (raw_values-rows f id) ∙ sym e)

-- a number that was read of the text that was found
pub number : {E : Type 0} (f : Found) (id : Text) (n : ℕ) (Gives : Text → Result ℕ E → Type 0) → ((text : Text) (read : Result ℕ E) → Gives text read → ParsesUnsigned 32 10 text read)
    → (one_text f id ≡ None → Some n ≡ None) → ((text : Text) → one_text f id ≡ Some text → ReadsOne Gives text (Some n)) → FindsNumber (rows_of f) id n
number {E} f id n Gives parses none some = go (one_text f id) refl
  where
    go : (o : Option Text) → one_text f id ≡ o → FindsNumber (rows_of f) id n
    go None e =
        let bad : Some n ≡ None = none e in
        cc
    go (Some text) e =
        let parsed = parses text (Ok n) (some text e) in
        (text, sym (one_text-rows f id) ∙ e, parsed.0.0, parsed.1)
