-- A value that a successful parse found for an option is one that the option's parser accepts.
use Rattle.std.proofs.Common.{◌≡◌, ◌∙◌, ℕ, Bool, true, false, cond, zero, suc, List, [], ◌∷◌, ◌++◌, Option, Some, None, refl, sym, subst, arith, fold, length, ◌&&◌, ◌||◌, ◌+◌, min, is_some}
use Rattle.std.specs.Prelude.{find, option_map, slice_get, IfSome}
use Rattle.std.specs.Option.{option_map_or}
use Rattle.std.specs.Str.{bytes_eq, chars}
use Rattle.std.proofs.lemmas.Bool.{ne_eqb}
use Rattle.std.proofs.lemmas.Option.{same_Some}
use Rattle.std.proofs.lemmas.Slice.Eq.{bytes_eq-Decides}
use Rattle.clap.specs.Facts.{parser_of_value}
use Rattle.clap.specs.Faults.{action_fault, bundle_step_fault, default_fault, defaults_fault, entered_fault, fault_of, flag_word_fault, other_fault, positional_fault, stray_fault, flags_fault, given_default_fault, level_fault, long_fault, option_fault, react_fault, settle_fault, short_fault, step_fault, turn_fault, use_fault, values_fault, walk_fault, word_fault}
use Rattle.clap.specs.Kinds.{Kinds, or_else, request_kinds, value_kinds}
use Rattle.clap.specs.Lexer.{long_of, short_of}
use Rattle.clap.specs.Simple.{App, Shape, argument_words, built, entered, label_of, names_of, rows_at, subcommand_of}
use Rattle.clap.specs.Walk.{Held, Names, Outcome, Row, Rule, Step, Text, Waiting, Walk, action_of, after_flag, after_step, answers_to, arg_by_id, arg_by_index, arg_by_long, arg_by_short, at_row, attached_value, bundle_met, bundle_step, count_of, counted, default_rows, has_row, is_empty, is_pending, long_met, long_or_other, more_values, new_count, nothing_held, option_met, option_word, plain_word, reacted, reading_by, rows_after, settled, settled_rows, short_met, short_or_plain, stop_after, subcommand_met, subcommand_or_other, takes_several, takes_values, to_positional, used, used_as, used_by_id, values_or_missing, walk, walk_from, walked, walked_from, with_count, with_default, with_values, without, word_met}
use Rattle.clap.specs.Walk as walking
use Rattle.clap.specs.declared.builder.action.ArgAction.{ArgAction}
use Rattle.clap.specs.declared.builder.action.ArgAction.TheVariants as actions
use Rattle.clap.specs.declared.builder.value_parser.Reading.{Reading}
use Rattle.clap.specs.declared.parser.matches.ValueSource.{ValueSource}
use Rattle.clap.specs.declared.parser.matches.ValueSource.TheVariants as sources
use Rattle.clap.specs.declared.error.kind.ErrorKind.TheVariants as kinds

-- where no kind of either step comes, none of each does
pub or_none : (a b : Kinds) → or_else a b ≡ [] → (a ≡ []) × (b ≡ [])
or_none [] b e = (refl, e)
or_none (k ∷ ks) b e = absurd cc

-- two ids that are one
same_id : (x y z : Text) → bytes_eq x y ≡ true → bytes_eq x z ≡ true → bytes_eq y z ≡ true
same_id x y z e f = subst (λ (t : Text). bytes_eq t z ≡ true) ((bytes_eq-Decides x y).0 e) f

-- of one option, by its id, how its values are read, and which are good
module _ (id : Text) (how : Reading) (Good : Text → Type 0) where
  -- each value is good
  abbrev pub AllGood : List Text → Type 0
  AllGood [] = Unit {0}
  AllGood (v ∷ vs) = Good v × AllGood vs

  -- where the row is the option's, it is read so, and its values are good
  abbrev pub IsKept : Row → Type 0
  IsKept r = bytes_eq r.id id ≡ true → (r.reading ≡ how) × AllGood r.values

  -- so is each row
  abbrev pub AreKept : List Row → Type 0
  AreKept [] = Unit {0}
  AreKept (r ∷ rs) = IsKept r × AreKept rs

  -- where the rule is the option's, it is set once, is read so, and its parser lets only good values through
  abbrev pub IsRight : Rule → Type 0
  IsRight a = bytes_eq a.id id ≡ true
      → (action_of a ≡ actions.Set) × (reading_by a ≡ how) × ((v : Text) → value_kinds a.ignore_case (parser_of_value a.parser) v ≡ [] → Good v)

  -- so is each rule
  abbrev pub AreRight : List Rule → Type 0
  AreRight [] = Unit {0}
  AreRight (a ∷ rules) = IsRight a × AreRight rules

  -- and so is a rule that is found among these
  found_right : (p : Rule → Bool) (c : List Rule) → AreRight c → (a : Rule) → find p c ≡ Some a → IsRight a
  found_right p [] right a e = absurd cc
  found_right p (x ∷ xs) right a e = go (p x) (found_right p xs right.1 a) e
    where
      go : (b : Bool) → (find p xs ≡ Some a → IsRight a) → cond b (Some x) (find p xs) ≡ Some a → IsRight a
      go true rest f = subst IsRight (same_Some _ _ f) right.0
      go false rest f = rest f

  -- and so is the row that is found by the id
  pub found_kept : (rows : List Row) → AreKept rows → (r : Row) → find (λ (x : Row). bytes_eq x.id id) rows ≡ Some r → (r.reading ≡ how) × AllGood r.values
  found_kept [] kept r e = absurd cc
  found_kept (x ∷ xs) kept r e = go (bytes_eq x.id id) refl (found_kept xs kept.1 r) e
    where
      go : (b : Bool) → bytes_eq x.id id ≡ b → (find (λ (y : Row). bytes_eq y.id id) xs ≡ Some r → (r.reading ≡ how) × AllGood r.values)
          → cond b (Some x) (find (λ (y : Row). bytes_eq y.id id) xs) ≡ Some r → (r.reading ≡ how) × AllGood r.values
      go true own rest f = subst (λ (y : Row). (y.reading ≡ how) × AllGood y.values) (same_Some _ _ f) (kept.0 own)
      go false own rest f = rest f

  append_good : (vs ws : List Text) → AllGood vs → AllGood ws → AllGood (vs ++ ws)
  append_good [] ws g h = h
  append_good (v ∷ vs) ws g h = (g.0, append_good vs ws g.1 h)

  append_kept : (rs ss : List Row) → AreKept rs → AreKept ss → AreKept (rs ++ ss)
  append_kept [] ss g h = h
  append_kept (r ∷ rs) ss g h = (g.0, append_kept rs ss g.1 h)

  -- a row is changed, or rows are added where it is missing
  at_kept : (x : Text) (change : Row → List Row) (missing rows : List Row) → ((r : Row) → bytes_eq r.id x ≡ true → IsKept r → AreKept (change r)) → AreKept missing → AreKept rows
      → AreKept (at_row x change missing rows)
  at_kept x change missing [] each none kept = none
  at_kept x change missing (r ∷ rs) each none kept = go (bytes_eq r.id x) refl (at_kept x change missing rs each none kept.1)
    where
      go : (b : Bool) → bytes_eq r.id x ≡ b → AreKept (at_row x change missing rs) → AreKept (cond b (change r ++ rs) (r ∷ at_row x change missing rs))
      go true e rest = append_kept (change r) rs (each r e kept.0) kept.1
      go false e rest = (kept.0, rest)

  -- values are added to a row
  put_kept : (x : Text) (read : Reading) (s : ValueSource) (values : List Text) (rows : List Row) → (bytes_eq x id ≡ true → (read ≡ how) × AllGood values) → AreKept rows
      → AreKept (with_values x read s values rows)
  put_kept x read s values rows good kept =
      at_kept x (more_values s values) _ rows (λ r same of. ((λ own. ((of own).0, append_good r.values values (of own).1 (good (same_id r.id x id same own)).1)), tt)) (good, tt) kept

  -- the count of another argument is set
  count_kept : (x : Text) (read : Reading) (s : ValueSource) (n : ℕ) (rows : List Row) → (bytes_eq x id ≡ true → ⊥) → AreKept rows → AreKept (with_count x read s n rows)
  count_kept x read s n rows other kept =
      at_kept x (new_count s n) _ rows (λ r same of. ((λ own. absurd (other (same_id r.id x id same own))), tt)) ((λ own. absurd (other own)), tt) kept

  without_kept : (x : Text) (rows : List Row) → AreKept rows → AreKept (without x rows)
  without_kept x rows kept = at_kept x (λ _. []) [] rows (λ r same of. tt) tt kept

  -- values that pass the parser are good
  values_good : (a : Rule) (vs : List Text) → ((v : Text) → value_kinds a.ignore_case (parser_of_value a.parser) v ≡ [] → Good v) → values_fault a vs ≡ [] → AllGood vs
  values_good a [] each e = tt
  values_good a (v ∷ vs) each e =
      let p = or_none _ _ e in
      (each v p.0, values_good a vs each p.1)

  counted_kept : (a : Rule) (vs : List Text) (rows : List Row) → (bytes_eq a.id id ≡ true → ⊥) → AreKept rows → AreKept (counted a.id (reading_by a) vs rows)
  counted_kept a [] rows other kept = count_kept a.id (reading_by a) sources.CommandLine (min (count_of a.id rows + 1) 255) _ other (without_kept a.id rows kept)
  counted_kept a (v ∷ vs) rows other kept = put_kept a.id (reading_by a) sources.CommandLine (v ∷ vs) _ (λ own. absurd (other own)) (without_kept a.id rows kept)

  -- a use of an argument, by what it does
  used_as_kept : (x : ArgAction) (again : Bool) (a : Rule) (raw : List Text) (rows : List Row) → action_of a ≡ x → IsRight a → action_fault x again a raw rows ≡ [] → AreKept rows
      → AreKept (used_as x a.id (reading_by a) raw rows)
  used_as_kept actions.Set again a raw rows is right e kept =
      put_kept a.id (reading_by a) sources.CommandLine raw _ (λ own. ((right own).1, values_good a raw (right own).2 (or_none _ _ e).1)) (without_kept a.id rows kept)
  used_as_kept actions.SetTrue again a raw rows is right e kept =
      put_kept a.id (reading_by a) sources.CommandLine raw _ (λ own. ((right own).1, values_good a raw (right own).2 (or_none _ _ e).1)) (without_kept a.id rows kept)
  used_as_kept actions.SetFalse again a raw rows is right e kept =
      put_kept a.id (reading_by a) sources.CommandLine raw _ (λ own. ((right own).1, values_good a raw (right own).2 (or_none _ _ e).1)) (without_kept a.id rows kept)
  used_as_kept actions.Append again a raw rows is right e kept = put_kept a.id (reading_by a) sources.CommandLine raw rows (λ own. ((right own).1, values_good a raw (right own).2 e)) kept
  used_as_kept actions.Count again a raw rows is right e kept =
      counted_kept a raw rows (λ own.
      let bad : actions.Set ≡ actions.Count = sym (right own).0 ∙ is in
      cc) kept
  used_as_kept actions.Help again a raw rows is right e kept = kept
  used_as_kept actions.HelpShort again a raw rows is right e kept = kept
  used_as_kept actions.HelpLong again a raw rows is right e kept = kept
  used_as_kept actions.Version again a raw rows is right e kept = kept

  used_kept : (again : Bool) (a : Rule) (values : List Text) (rows : List Row) → IsRight a → use_fault again a values rows ≡ [] → AreKept rows → AreKept (used a values rows)
  used_kept again a values rows right e kept = used_as_kept (action_of a) again a (values_or_missing a values) rows refl right (or_none _ _ e).1 kept

  -- ---- the walk over the words, by these rules

  module _ (c : List Rule) (again : Bool) (all : AreRight c) where
    -- the argument that waits for values is used
    settled_kept : (h : Held) → settle_fault c again h ≡ [] → AreKept h.rows → AreKept (settled c h).rows
    settled_kept h e kept = go h.pending e
      where
        by_id : (p : Text × List Text) (o : Option Rule) → arg_by_id c p.0 ≡ o → option_map_or (λ a. use_fault again a p.1 h.rows) o [] ≡ [] → AreKept (used_by_id o p.1 h.rows)
        by_id p None is none = kept
        by_id p (Some a) is none = used_kept again a p.1 h.rows (found_right _ c all a is) none kept

        go : (q : Option (Text × List Text)) → option_map_or (λ p. option_map_or (λ a. use_fault again a p.1 h.rows) (arg_by_id c p.0) []) q [] ≡ [] → AreKept (settled_rows c q h.rows)
        go None none = kept
        go (Some p) none = by_id p (arg_by_id c p.0) refl none

    reacted_kept : (a : Rule) (values : List Text) (h : Held) → IsRight a → react_fault c again a values h ≡ [] → AreKept h.rows → AreKept (reacted c a values h).rows
    reacted_kept a values h right e kept =
        let p = or_none _ _ e in
        used_kept again a values (settled c h).rows right p.1 (settled_kept h p.0 kept)

    option_kept : (a : Rule) (v : Option Text) (h : Held) → IsRight a → option_fault c again a v h ≡ [] → AreKept h.rows → AreKept (option_met c a v h).0.rows
    option_kept a (Some v) h right e kept = reacted_kept a (v ∷ []) h right e kept
    option_kept a None h right e kept = settled_kept h e kept

    -- an option by its long name
    long_kept : (o : Option Rule) (v : Option Text) (h : Held) → ((a : Rule) → o ≡ Some a → IsRight a) → long_fault c again o v h ≡ [] → AreKept h.rows → AreKept (long_met c o v h).0.rows
    long_kept None v h right e kept = absurd cc
    long_kept (Some a) v h right e kept = go (takes_values a) v e
      where
        go : (b : Bool) (w : Option Text) → cond b (option_fault c again a w h) (cond (is_some w) (kinds.TooManyValues ∷ []) (react_fault c again a [] h)) ≡ [] → AreKept (cond b (option_met c a w h) (walking.flag_met c a w h)).0.rows
        go true w f = option_kept a w h (right a refl) f kept
        go false (Some x) f = absurd cc
        go false None f = reacted_kept a [] h (right a refl) f kept

    -- a flag of a bundle
    short_kept : (o : Option Rule) (rest : Text) (h : Held) (next : Held → Held × Outcome) (fault : Held → Kinds) → ((a : Rule) → o ≡ Some a → IsRight a)
        → ((g : Held) → fault g ≡ [] → AreKept g.rows → AreKept (next g).0.rows) → short_fault c again o rest h fault ≡ [] → AreKept h.rows → AreKept (short_met c o rest h next).0.rows
    short_kept None rest h next fault right on e kept = absurd cc
    short_kept (Some a) rest h next fault right on e kept = go (takes_values a) e
      where
        go : (b : Bool) → cond b (option_fault c again a (attached_value rest) h) (or_else (react_fault c again a [] h) (fault (reacted c a [] h))) ≡ []
            → AreKept (cond b (option_met c a (attached_value rest) h) (next (reacted c a [] h))).0.rows
        go true f = option_kept a (attached_value rest) h (right a refl) f kept
        go false f =
            let p = or_none _ _ f in
            on (reacted c a [] h) p.1 (reacted_kept a [] h (right a refl) p.0 kept)

    -- a bundle of flags
    flags_kept : (k : ℕ) (flags : Text) (skip : ℕ) (so_far : Outcome) (h : Held) → flags_fault c again k flags skip h ≡ [] → AreKept h.rows → AreKept (bundle_met c k flags skip so_far h).0.rows
    unfolding flags_fault bundle_met
    flags_kept zero flags skip so_far h e kept = kept
    flags_kept (suc k) flags skip so_far h e kept = go (slice_get (chars flags) 0) skip (λ rest n far g f. flags_kept k rest n far g f) e
      where
        go : (o : Option ℕ) (n : ℕ)
            → ((rest : Text) (less : ℕ) (far : Outcome) (g : Held) → flags_fault c again k rest less g ≡ [] → AreKept g.rows → AreKept (bundle_met c k rest less far g).0.rows)
            → bundle_step_fault c again o flags n h (flags_fault c again k) ≡ [] → AreKept (bundle_step c o flags n so_far h (bundle_met c k)).0.rows
        go None n on f = kept
        go (Some x) zero on f = short_kept (arg_by_short c x) _ h _ _ (λ a is. found_right _ c all a is) (on _ 0 walking.done) f kept
        go (Some x) (suc n) on f = on _ n so_far h f kept

    -- a word that is no flag
    plain_kept : (waiting : Waiting) (word : Text) (h : Held) → AreKept h.rows → AreKept (plain_word c waiting word h).0.rows
    plain_kept walking.idle word h kept = kept
    plain_kept walking.positional word h kept = kept
    plain_kept (walking.option i) word h kept = go (arg_by_id c i)
      where
        go : (o : Option Rule) → AreKept (option_word o i word h).0.rows
        go None = kept
        go (Some a) = kept

    after_kept : (waiting : Waiting) (word : Text) (h : Held) (o : Outcome) → AreKept h.rows → AreKept (after_flag c waiting word h o).0.rows
    after_kept waiting word h walking.done kept = kept
    after_kept waiting word h (walking.waits i) kept = kept
    after_kept waiting word h walking.plain kept = plain_kept waiting word h kept
    after_kept waiting word h walking.refused kept = plain_kept waiting word h kept

    -- a word that may be one
    other_kept : (waiting : Waiting) (word : Text) (h : Held) → flag_word_fault c again (long_of word) word h ≡ [] → AreKept h.rows → AreKept (long_or_other c waiting word (long_of word) h).0.rows
    other_kept waiting word h e kept = go (long_of word) e
      where
        short : (q : Option Text) → option_map_or (λ flags. flags_fault c again (length flags) flags h.skip (record h { skip = 0 })) q [] ≡ [] → AreKept (short_or_plain c waiting word q h).0.rows
        short None f = plain_kept waiting word h kept
        short (Some flags) f = after_kept waiting word _ _ (flags_kept (length flags) flags h.skip walking.plain (record h { skip = 0 }) f kept)

        go : (q : Option (Text × Option Text)) → flag_word_fault c again q word h ≡ [] → AreKept (long_or_other c waiting word q h).0.rows
        go None f = short (short_of word) f
        go (Some p) f = after_kept waiting word _ _ (long_kept (arg_by_long c p.0) p.1 h (λ a is. found_right _ c all a is) f kept)

  module _ (s : Shape) (names : Names) (all : AreRight s.rules) where
    -- any word
    word_kept : (trailing : Bool) (waiting : Waiting) (position : ℕ) (word : Text) (h : Held) → word_fault s names trailing waiting word h ≡ [] → AreKept h.rows
        → AreKept (word_met s.rules names trailing waiting position word h).0.rows
    word_kept true waiting position word h e kept = kept
    word_kept false waiting position word h e kept = go (subcommand_met names waiting word) e
      where
        dash : (b : Bool) → cond b [] (flag_word_fault s.rules s.args_override_self (long_of word) word h) ≡ []
            → AreKept (cond b (h, walking.trailing position) (long_or_other s.rules waiting word (long_of word) h)).0.rows
        dash true f = kept
        dash false f = other_kept s.rules s.args_override_self all waiting word h f kept

        go : (q : Option Text) → other_fault s q word h ≡ [] → AreKept (subcommand_or_other s.rules q waiting position word h).0.rows
        go (Some name) f = kept
        go None f = dash (bytes_eq word (45 ∷ 45 ∷ [])) f

    -- what the word comes to
    step_kept : (w : Walk) (word : Text) (h : Held) (step : Step) → step_fault s w.position h step ≡ [] → AreKept h.rows → AreKept (after_step s.rules word w h step).held.rows
    step_kept w word h (walking.next waiting) e kept = kept
    step_kept w word h (walking.trailing position) e kept = kept
    step_kept w word h (walking.subcommand name) e kept = kept
    step_kept w word h walking.value e kept = go (arg_by_index s.rules w.position) e
      where
        pending : (b : Bool) → cond b [] (settle_fault s.rules s.args_override_self h) ≡ [] → AreKept (cond b h (settled s.rules h)).rows
        pending true f = kept
        pending false f = settled_kept s.rules s.args_override_self all h f kept

        go : (o : Option Rule) → option_map_or (λ a. positional_fault s.rules s.args_override_self a h) o (stray_fault s) ≡ [] → AreKept (to_positional s.rules o word w h).held.rows
        go None f = kept
        go (Some a) f = pending (is_pending a h.pending && takes_several a) f

    turn_kept : (w : Walk) (word : Text) → turn_fault s names w word ≡ [] → AreKept w.held.rows → AreKept (walked s.rules names w word).held.rows
    unfolding walked
    turn_kept w word e kept = go w.stopped e
      where
        go : (o : Option (Text × List Text))
            → cond (is_some o) [] (or_else (word_fault s names w.is_trailing w.waiting word w.held)
            (step_fault s w.position (word_met s.rules names w.is_trailing w.waiting w.position word w.held).0 (word_met s.rules names w.is_trailing w.waiting w.position word w.held).1)) ≡ []
            → AreKept (walked_from s.rules names o w word).held.rows
        go (Some p) f = kept
        go None f =
            let p = or_none _ _ f in
            step_kept w word _ _ p.1 (word_kept w.is_trailing w.waiting w.position word w.held p.0 kept)

    -- all words
    walk_kept : (words : List Text) (w : Walk) → walk_fault s names w words ≡ [] → AreKept w.held.rows → AreKept (fold (walked s.rules names) w words).held.rows
    unfolding walk_fault
    walk_kept [] w e kept = kept
    walk_kept (word ∷ rest) w e kept =
        let p = or_none _ _ e in
        walk_kept rest (walked s.rules names w word) p.1 (turn_kept w word p.0 kept)

  -- ---- after the walk

  default_kept : (rows : List Row) (a : Rule) → IsRight a → default_fault rows a ≡ [] → AreKept rows → AreKept (with_default rows a)
  default_kept rows a right e kept = go (has_row a.id rows) a.defaults e
    where
      go : (b : Bool) (ds : List Text) → cond (b || is_empty ds) [] (given_default_fault a ds) ≡ [] → AreKept (cond b rows (default_rows a.id (reading_by a) ds rows))
      go true ds f = kept
      go false [] f = kept
      go false (v ∷ vs) f =
          let some : is_empty (v ∷ vs) ≡ false = ne_eqb _ _ (λ none. omega arith) in
          put_kept a.id (reading_by a) sources.DefaultValue (v ∷ vs) rows (λ own. ((right own).1, values_good a (v ∷ vs) (right own).2 (or_none (request_kinds (action_of a)) (values_fault a (v ∷ vs)) (rw some at f)).1)) kept

  defaults_kept : (c : List Rule) (rows : List Row) → AreRight c → defaults_fault rows c ≡ [] → AreKept rows → AreKept (fold with_default rows c)
  unfolding defaults_fault
  defaults_kept [] rows all e kept = kept
  defaults_kept (a ∷ rest) rows all e kept =
      let p = or_none _ _ e in
      defaults_kept rest (with_default rows a) all.1 p.1 (default_kept rows a all.0 p.0 kept)

  -- the rows of a command on its words
  level_kept : (s : Shape) (names : Names) (words : List Text) (has : Bool) (below : Kinds) → AreRight s.rules → level_fault s names nothing_held words has below ≡ []
      → AreKept (rows_after s.rules names words)
  level_kept s names words has below all e =
      let walks = or_none _ _ e in
      let belows = or_none _ _ walks.1 in
      let settles = or_none _ _ belows.1 in
      let defaults = or_none _ _ settles.1 in
      let end = (walk s.rules names nothing_held words).held in
      defaults_kept s.rules (settled s.rules end).rows all defaults.0
      (settled_kept s.rules s.args_override_self all end settles.0 (walk_kept s names all words (walk_from nothing_held) walks.0 tt))

  -- so are the rules of each command
  abbrev pub AreAllRight : List Shape → Type 0
  AreAllRight [] = Unit {0}
  AreAllRight (s ∷ subs) = AreRight s.rules × AreAllRight subs

  -- and those of a command that is found among these
  found_sub : (p : Shape → Bool) (subs : List Shape) → AreAllRight subs → (s : Shape) → find p subs ≡ Some s → AreRight s.rules
  found_sub p [] right s e = absurd cc
  found_sub p (x ∷ xs) right s e = go (p x) (found_sub p xs right.1 s) e
    where
      go : (b : Bool) → (find p xs ≡ Some s → AreRight s.rules) → cond b (Some x) (find p xs) ≡ Some s → AreRight s.rules
      go true rest f = subst (λ (t : Shape). AreRight t.rules) (same_Some _ _ f) right.0
      go false rest f = rest f

  -- what was found for the command that the words name
  pub command_kept : (a : App) (words : List Text) → AreAllRight (built a).subs → fault_of a words ≡ [] → IfSome (subcommand_of a words) (λ found. AreKept found.1)
  command_kept a words right e = met (stop_after (built a).top.rules (names_of (built a)) (argument_words a words)) (or_none _ _ (or_none _ _ e).1).0
    where
      entered_by : (p : Text × List Text) (o : Option Shape) → find (λ s. answers_to p.0 (label_of s)) (built a).subs ≡ o
          → option_map_or (λ s. level_fault s [] nothing_held p.1 false []) o [] ≡ [] → IfSome (option_map (λ s. rows_at s p.1) o) (λ found. AreKept found.1)
      entered_by p None is f = tt
      entered_by p (Some s) is f = level_kept s [] p.1 false [] (found_sub _ (built a).subs right s is) f

      met : (stop : Option (Text × List Text)) → entered_fault (built a) stop ≡ [] → IfSome (entered (built a) stop) (λ found. AreKept found.1)
      met None f = tt
      met (Some p) f = entered_by p (find (λ s. answers_to p.0 (label_of s)) (built a).subs) refl f
