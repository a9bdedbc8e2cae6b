-- The first line of a network's text with an error is unique.
use Rattle.std.proofs.Common.{◌≡◌, ℕ, zero, suc, ◌≤◌, inl, inr, List, [], ◌∷◌, ◌++◌, length, refl, ◌∙◌, ap, arith, Bool, true}
use Rattle.std.specs.Prelude.{All, Contains, count_by, filter, ◌||◌}
use Rattle.std.specs.List.{list_any}
use Rattle.std.specs.Str.{bytes_eq}
use Rattle.std.proofs.lemmas.Bool.{or_cases, or_left, or_right}
use Rattle.std.proofs.lemmas.Slice.Eq.{bytes_eq-Decides}
use Rattle.cut_net.specs.NetText.{NetLine, Module, Import, net_line, IsNetLine, is_import, Spell, Mentions, AreMentioning, AreNamesOf, HaveDifferentImports, AreWithinLimits, AreValidLines}
use Rattle.cut_net.proofs.LineStops as stops
use Rattle.cut_net.proofs.ListFronts.{all_front, contains_front, deeper, distinct_kept, fewer_front, fewer_kept, kept, pairs_front, passes_kept}
use Rattle.cut_net.proofs.NetLines.{line_once}

-- whether the line has the name
abbrev mentions : List ℕ → NetLine → Bool
mentions name (Module m) = bytes_eq m name
mentions name (Import m n w) = bytes_eq m name || bytes_eq n name

mentions_takes : (name : List ℕ) (line : NetLine) → mentions name line ≡ true → Mentions name line
mentions_takes name (Module m) e = (bytes_eq-Decides m name).0 e
mentions_takes name (Import m n w) e = elim (or_cases (bytes_eq m name) (bytes_eq n name) e) [
  | inl first ↦ inl ((bytes_eq-Decides m name).0 first)
  | inr second ↦ inr ((bytes_eq-Decides n name).0 second)
]

mentions_again : (name : List ℕ) (line : NetLine) → Mentions name line → mentions name line ≡ true
mentions_again name (Module m) e = (bytes_eq-Decides m name).1 e
mentions_again name (Import m n w) (inl e) = or_left (bytes_eq m name) (bytes_eq n name) ((bytes_eq-Decides m name).1 e)
mentions_again name (Import m n w) (inr e) = or_right (bytes_eq m name) (bytes_eq n name) ((bytes_eq-Decides n name).1 e)

-- whether a line of these has the name
abbrev any_mentions : List NetLine → List ℕ → Bool
any_mentions lines name = list_any (mentions name) lines

any_takes : (lines : List NetLine) (name : List ℕ) → any_mentions lines name ≡ true → AreMentioning lines name
any_takes [] name e = cc
any_takes (l ∷ lines) name e = elim (or_cases (mentions name l) (any_mentions lines name) e) [
  | inl here ↦ (l, (0, omega arith, refl), mentions_takes name l here)
  | inr later ↦ let m = any_takes lines name later in (m.0, deeper l m.0 lines m.1, m.2)
]

any_again : (lines : List NetLine) (name : List ℕ) (line : NetLine) → Contains lines line → Mentions name line → any_mentions lines name ≡ true
any_again [] name line (k, l, is) m = absurd (omega arith)
any_again (x ∷ xs) name line (zero, l, is) m = or_left (mentions name x) (any_mentions xs name) (ap (mentions name) is ∙ mentions_again name line m)
any_again (x ∷ xs) name line (suc k, l, is) m = or_right (mentions name x) (any_mentions xs name) (any_again xs name line (k, omega arith, is) m)

-- the names of the first lines are among all names
names_front : (xs ys : List NetLine) (names : List (List ℕ)) → AreNamesOf (xs ++ ys) names → AreNamesOf xs (filter (any_mentions xs) names)
names_front xs ys names are = record {
  once = distinct_kept bytes_eq (any_mentions xs) names are.once;
  named = λ name. (
    (λ has. any_takes xs name (passes_kept (any_mentions xs) names name has)),
    (λ m. kept (any_mentions xs) names name ((are.named name).1 (m.0, contains_front xs ys m.0 m.1, m.2)) (any_again xs name m.0 m.1 m.2)),
  );
}

few_front : (xs ys : List NetLine) → AreWithinLimits (xs ++ ys) → AreWithinLimits xs
few_front xs ys few = record {
  names = filter (any_mentions xs) few.names;
  are_names = names_front xs ys few.names few.are_names;
  few_names = (let less : length (filter (any_mentions xs) few.names) ≤ length few.names = fewer_kept (any_mentions xs) few.names in let le = few.few_names in omega arith);
  few_imports = (let less : count_by is_import xs ≤ count_by is_import (xs ++ ys) = fewer_front is_import xs ys in let le = few.few_imports in omega arith);
}

-- a prefix of valid lines is valid
pub good_front : (xs ys : List NetLine) → AreValidLines (xs ++ ys) → AreValidLines xs
good_front xs ys good = record {
  each = all_front IsNetLine xs ys good.each;
  apart = pairs_front HaveDifferentImports xs ys good.apart;
  few = few_front xs ys good.few;
}

pub each : (lines : List NetLine) → AreValidLines lines → All IsNetLine lines
each lines good = good.each

-- the first k pieces are valid lines, and no line that the next piece spells is good after them
abbrev pub Stops : List (List ℕ) → ℕ → Type 0
Stops pieces k = stops.StopsAt net_line IsNetLine line_once AreValidLines each good_front pieces k

-- valid lines with equal pieces are equal
pub same_lines : (pieces : List (List ℕ)) (lines others : List NetLine) → Spell pieces lines → Spell pieces others → All IsNetLine lines → All IsNetLine others → lines ≡ others
same_lines = stops.same_lines net_line IsNetLine line_once

-- pieces of valid lines have no first error
pub no_stop : (pieces : List (List ℕ)) (lines : List NetLine) (k : ℕ) → Spell pieces lines → AreValidLines lines → Stops pieces k → ⊥
no_stop = stops.no_stop net_line IsNetLine line_once AreValidLines each good_front

-- two first errors have one index
pub one_stop : (pieces : List (List ℕ)) (j k : ℕ) → Stops pieces j → Stops pieces k → j ≡ k
one_stop = stops.one_stop net_line IsNetLine line_once AreValidLines each good_front
