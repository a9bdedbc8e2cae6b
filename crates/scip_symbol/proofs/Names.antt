-- Names are read exactly as they are written.
use Rattle.std.proofs.Common.{◌≡◌, ◌≢◌, ◌⊎◌, ℕ, true, false, List, [], ◌∷◌, ◌++◌, Option, Some, None, Ok, Err, refl, sym, ap, subst, ◌∙◌, inl, inr, append_assoc}
use Rattle.std.specs.Option.{ok_or}
use Rattle.std.proofs.lemmas.Bool.{cases_Bool, and_parts, both_ways}
use Rattle.scip_symbol.specs.declared.fault.SymbolFault.{SymbolFault}
use Rattle.scip_symbol.specs.declared.fault.SymbolFault.TheVariants as faults
use Rattle.scip_symbol.specs.Bytes.{doubled, IsNotFirst, IsUnended}
use Rattle.scip_symbol.specs.SymbolTexts.{is_simple, are_simple, IsSimple, quoted, NameText}
use Rattle.scip_symbol.specs.Reading.{after_byte, delimited_prefix, simple_prefix, nonempty_name, simple_name_at, quoted_name_at, name_after_tick, first_name_at, ◌>>=◌}
use Rattle.scip_symbol.proofs.Ends.{ended-again, ended-said, unended, unended-none, after_some}
use Rattle.scip_symbol.proofs.TextCuts.{after_byte-other}

-- ---- identifier characters

-- the bytes begin neither with an identifier character nor with a backtick
abbrev pub EndsName : List ℕ → Type 0
EndsName [] = Unit {0}
EndsName (b ∷ bytes) = (is_simple b ≡ false) × (b ≢ 96)

abbrev pub EndsSimple : List ℕ → Type 0
EndsSimple [] = Unit {0}
EndsSimple (b ∷ bytes) = is_simple b ≡ false

ends_simple : (rest : List ℕ) → EndsName rest → EndsSimple rest
ends_simple [] e = tt
ends_simple (b ∷ rest) e = e.0

no_backtick : (rest : List ℕ) → EndsName rest → IsNotFirst 96 rest
no_backtick [] e = tt
no_backtick (b ∷ rest) e = e.1

pub front_joins : (text : List ℕ) → text ≡ (simple_prefix text).0 ++ (simple_prefix text).1
unfolding simple_prefix
front_joins [] = refl
front_joins (b ∷ text) =
    elim (cases_Bool (is_simple b)) [
      | inl e ↦ rw e (ap (λ (xs : List ℕ). b ∷ xs) (front_joins text))
      | inr e ↦ rw e refl
    ]

pub front_simple : (text : List ℕ) → are_simple (simple_prefix text).0 ≡ true
unfolding simple_prefix
front_simple [] = refl
front_simple (b ∷ text) =
    elim (cases_Bool (is_simple b)) [
      | inl e ↦ rw (e, e) (front_simple text)
      | inr e ↦ rw e refl
    ]

pub front_ends : (text : List ℕ) → EndsSimple (simple_prefix text).1
unfolding simple_prefix
front_ends [] = tt
front_ends (b ∷ text) =
    elim (cases_Bool (is_simple b)) [
      | inl e ↦ rw e (front_ends text)
      | inr e ↦ rw e e
    ]

pub front-again : (xs rest : List ℕ) → are_simple xs ≡ true → EndsSimple rest → simple_prefix (xs ++ rest) ≡ (xs, rest)
unfolding simple_prefix
front-again [] [] e h = refl
front-again [] (b ∷ rest) e h = rw h refl
front-again (x ∷ xs) rest e h = let p = and_parts (is_simple x) (are_simple xs) e in rw (p.0, front-again xs rest p.1 h) refl

-- ---- names

named_takes : (at : ℕ) (name rest : List ℕ) (x : List ℕ × List ℕ) → nonempty_name at name rest ≡ Ok x → (name ≢ []) × ((name, rest) ≡ x)
named_takes at [] rest x e = absurd cc
named_takes at (b ∷ name) rest x e = (λ s. absurd cc, cc)

named_again : (at : ℕ) (name rest : List ℕ) → name ≢ [] → nonempty_name at name rest ≡ Ok (name, rest)
named_again at [] rest h = absurd (h refl)
named_again at (b ∷ name) rest h = refl

named_fails : (at : ℕ) (name rest : List ℕ) (e : SymbolFault) → nonempty_name at name rest ≡ Err e → e ≡ faults.BadDescriptor at
named_fails at [] rest e h = cc
named_fails at (b ∷ name) rest e h = absurd cc

-- a name that is read, with its text
pub record IsNameRead (text : List ℕ) (x : List ℕ × List ℕ) : Type 0 where
  pub written : List ℕ
  pub written_is : NameText x.0 written
  pub split : text ≡ written ++ x.1

simple_takes : (at : ℕ) (text : List ℕ) (x : List ℕ × List ℕ) → simple_name_at at text ≡ Ok x → IsNameRead text x
unfolding simple_name_at
simple_takes at text x e =
    let n = named_takes at (simple_prefix text).0 (simple_prefix text).1 x e in
    subst (λ (v : List ℕ × List ℕ). IsNameRead text v) n.1
    (record { written = (simple_prefix text).0; written_is = record { some = n.0; written = inl (record { some = n.0; simple = front_simple text }, refl) }; split = front_joins text })

quoted_takes : (at : ℕ) (inside : List ℕ) (x : List ℕ × List ℕ) → quoted_name_at at inside ≡ Ok x → IsNameRead (96 ∷ inside) x
unfolding quoted_name_at
quoted_takes at inside x e = go (delimited_prefix 96 inside) refl e
  where
    go : (o : Option (List ℕ × List ℕ)) → delimited_prefix 96 inside ≡ o → ok_or o faults.OpenQuote >>= (λ y. nonempty_name at y.0 y.1) ≡ Ok x → IsNameRead (96 ∷ inside) x
    go None s e = absurd cc
    go (Some y) s e =
        let n = named_takes at y.0 y.1 x e in
        let i = ended-said 96 inside y s in
        subst (λ (v : List ℕ × List ℕ). IsNameRead (96 ∷ inside) v) n.1
        (record {
          written = quoted y.0;
          written_is = record { some = n.0; written = inr refl };
          split = ap (λ (xs : List ℕ). 96 ∷ xs) (i.whole ∙ sym (append_assoc (doubled 96 y.0) (96 ∷ []) y.1));
        })

pub name_takes : (at : ℕ) (text : List ℕ) (x : List ℕ × List ℕ) → first_name_at at text ≡ Ok x → IsNameRead text x
unfolding first_name_at
name_takes at text x e = go (after_byte 96 text) refl e
  where
    go : (o : Option (List ℕ)) → after_byte 96 text ≡ o → name_after_tick at o text ≡ Ok x → IsNameRead text x
    go None s e = simple_takes at text x e
    go (Some inside) s e = subst (λ (t : List ℕ). IsNameRead t x) (sym (after_some 96 text inside s)) (quoted_takes at inside x e)

simple_other : (b c : ℕ) → is_simple b ≡ true → is_simple c ≡ false → b ≢ c
simple_other b c e f s = both_ways (is_simple b) (ap is_simple s ∙ f) e

-- a name begins with no other byte that isn't an identifier character
pub name_begins : (delimiter : ℕ) (name written rest : List ℕ) → is_simple delimiter ≡ false → delimiter ≢ 96 → NameText name written → after_byte delimiter (written ++ rest) ≡ None
name_begins delimiter name written rest m n t = go name written t.some t.written
  where
    go : (name written : List ℕ) → name ≢ [] → (IsSimple name × (written ≡ name)) ⊎ (written ≡ quoted name) → after_byte delimiter (written ++ rest) ≡ None
    go [] written some t = absurd (some refl)
    go (b ∷ name) written some (inl s) =
        let p = and_parts (is_simple b) (are_simple name) s.0.simple in
        ap (λ (xs : List ℕ). after_byte delimiter (xs ++ rest)) s.1 ∙ after_byte-other delimiter b (name ++ rest) (simple_other b delimiter p.0 m)
    go (b ∷ name) written some (inr q) = ap (λ (xs : List ℕ). after_byte delimiter (xs ++ rest)) q ∙ after_byte-other delimiter 96 (doubled 96 (b ∷ name) ++ 96 ∷ [] ++ rest) (λ e. n (sym e))

simple_again : (at : ℕ) (name rest : List ℕ) → IsSimple name → EndsName rest → first_name_at at (name ++ rest) ≡ Ok (name, rest)
unfolding first_name_at simple_name_at
simple_again at name rest s h =
    rw (name_begins_simple name s.some s.simple, front-again name rest s.simple (ends_simple rest h)) (named_again at name rest s.some)
  where
    name_begins_simple : (name : List ℕ) → name ≢ [] → are_simple name ≡ true → after_byte 96 (name ++ rest) ≡ None
    name_begins_simple [] some e = absurd (some refl)
    name_begins_simple (b ∷ name) some e = let p = and_parts (is_simple b) (are_simple name) e in after_byte-other 96 b (name ++ rest) (simple_other b 96 p.0 refl)

quoted_again : (at : ℕ) (name rest : List ℕ) → name ≢ [] → EndsName rest → first_name_at at (quoted name ++ rest) ≡ Ok (name, rest)
unfolding first_name_at quoted_name_at
quoted_again at name rest some h =
    rw (append_assoc (doubled 96 name) (96 ∷ []) rest, ended-again 96 name rest (no_backtick rest h)) (named_again at name rest some)

pub name_again : (at : ℕ) (name written rest : List ℕ) → NameText name written → EndsName rest → first_name_at at (written ++ rest) ≡ Ok (name, rest)
name_again at name written rest t h =
    elim (t.written) [
      | inl s ↦ ap (λ (xs : List ℕ). first_name_at at (xs ++ rest)) s.1 ∙ simple_again at name rest s.0 h
      | inr q ↦ ap (λ (xs : List ℕ). first_name_at at (xs ++ rest)) q ∙ quoted_again at name rest t.some h
    ]

-- ---- bytes that begin with no name

-- the bytes begin with a backtick that isn't closed
pub record OpensQuote (text : List ℕ) : Type 0 where
  pub inside : List ℕ
  pub begins : text ≡ 96 ∷ inside
  pub open_is : IsUnended 96 inside

pub name_open : (at : ℕ) (inside : List ℕ) → IsUnended 96 inside → first_name_at at (96 ∷ inside) ≡ Err faults.OpenQuote
unfolding first_name_at quoted_name_at
name_open at inside u = rw (unended-none 96 inside u) refl

pub name_fails : (at : ℕ) (text : List ℕ) (e : SymbolFault) → first_name_at at text ≡ Err e → (e ≡ faults.BadDescriptor at) ⊎ ((e ≡ faults.OpenQuote) × OpensQuote text)
unfolding first_name_at simple_name_at quoted_name_at
name_fails at text e h = go (after_byte 96 text) refl h
  where
    quote : (inside : List ℕ) (o : Option (List ℕ × List ℕ)) → text ≡ 96 ∷ inside → delimited_prefix 96 inside ≡ o → ok_or o faults.OpenQuote >>= (λ y. nonempty_name at y.0 y.1) ≡ Err e → (e ≡ faults.BadDescriptor at) ⊎ ((e ≡ faults.OpenQuote) × OpensQuote text)
    quote inside None t s h = inr (cc, record { inside = inside; begins = t; open_is = unended 96 inside s })
    quote inside (Some y) t s h = inl (named_fails at y.0 y.1 e h)

    go : (o : Option (List ℕ)) → after_byte 96 text ≡ o → name_after_tick at o text ≡ Err e → (e ≡ faults.BadDescriptor at) ⊎ ((e ≡ faults.OpenQuote) × OpensQuote text)
    go None s h = inl (named_fails at (simple_prefix text).0 (simple_prefix text).1 e h)
    go (Some inside) s h = quote inside (delimited_prefix 96 inside) (after_some 96 text inside s) refl h
