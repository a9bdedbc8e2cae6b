-- Patterns of paths.
use Rattle.std.proofs.Common.{◌≡◌, ℕ, zero, suc, ◌+◌, ◌<◌, ◌≤◌, Bool, true, false, List, [], ◌∷◌, ◌++◌, length, map, take, drop, refl, sym, ap, ◌∙◌, subst, append_assoc, arith, inl, inr}
use Rattle.std.specs.Prelude.{◌↔◌, ◌⊎◌, Contains, String, Vec, slice_index_or}
use Rattle.std.specs.Borrow.{Bor}
use Rattle.std.specs.String.{string_bytes}
use Rattle.std.specs.declared.alloc.Global.{Global}
use Rattle.std.proofs.lemmas.List.{drop_more, map-append, map_push, take-append-drop, take_more}
use Rattle.std.proofs.lemmas.List.Elements.{Contains-append_left, Contains-append_right, Contains-push, Contains-push_cases}
use Rattle.glob.specs.Exclusions.{names_of, AreGlobs, AreRead, Excludes, ExcludesBy, FitEach, HasSlash, IsExcluded, IsExcludedBy, MatchEach}
use Rattle.glob.specs.Globs.{Fits, Matches}
use Rattle.glob.specs.declared.exclusion.PathGlob.{PathGlob}
use Rattle.glob.specs.declared.exclusion.PathGlob.TheVariants.{Name, Path}
use Rattle.glob.specs.declared.pattern.Glob.{Glob}

-- an element with the elements before and after it
around : (xs : List (List ℕ)) (x : List ℕ) → Contains xs x → (before after : List (List ℕ)) × (xs ≡ before ++ x ∷ after)
around [] x (k, lt, e) = absurd (omega (arith, lt))
around (y ∷ xs) x (zero, lt, e) = ([], xs, ap (λ (z : List ℕ). z ∷ xs) e)
around (y ∷ xs) x (suc k, lt, e) =
    let (before, after, f) = around xs x (k, omega (arith, lt), e) in
    (y ∷ before, after, ap (λ (z : List (List ℕ)). y ∷ z) f)

-- a pattern without a slash excludes the paths one of whose names it matches
pub by_name : (pattern path : List ℕ) (glob : Glob) → (HasSlash pattern → ⊥) → ((name : List ℕ) → Matches pattern name ↔ Fits glob name) → Excludes pattern path ↔ ExcludesBy (Name glob) (names_of path)
by_name pattern path glob none same = (
  λ (names, rest, e, m). elim m [
    | inl slash ↦ absurd (none slash.0)
    | inr last ↦
        (let (before, name, f, fits) = last.1 in
        let is : names_of path ≡ (before ++ name ∷ []) ++ rest = e ∙ ap (λ (z : List (List ℕ)). z ++ rest) f in
        (name, subst (λ (z : List (List ℕ)). Contains z name) (sym is) (Contains-append_left (before ++ name ∷ []) rest name (Contains-push before name)), (same name).0 fits))
  ],
  λ (name, has, fits).
      (let (before, after, e) = around (names_of path) name has in
      (before ++ name ∷ [], after, e ∙ sym (append_assoc before (name ∷ []) after), inr (none, (before, name, refl, (same name).1 fits)))),
)

-- the names begin with names that match, exactly if each fits its pattern
each : (patterns : List (List ℕ)) (globs : List Glob) (names : List (List ℕ)) → AreGlobs patterns globs →
    ((matching rest : List (List ℕ)) × (names ≡ matching ++ rest) × MatchEach patterns matching) ↔ FitEach globs names
each [] [] names are = (λ found. tt, λ fits. ([], names, refl, tt))
each [] (g ∷ globs) names are = absurd are
each (p ∷ patterns) [] names are = absurd are
each (p ∷ patterns) (g ∷ globs) [] are = (λ (matching, rest, e, m). none matching rest e m, λ fits. absurd fits)
  where
    none : (matching rest : List (List ℕ)) → [] ≡ matching ++ rest → MatchEach (p ∷ patterns) matching → ⊥
    none [] rest e m = m
    none (x ∷ matching) rest e m = absurd cc
each (p ∷ patterns) (g ∷ globs) (n ∷ names) are =
    let rest_of = each patterns globs names are.1 in (
      λ (matching, rest, e, m). to rest_of.0 matching rest e m,
      λ fits. (let (matching, rest, e, m) = rest_of.1 fits.1 in (n ∷ matching, rest, ap (λ (z : List (List ℕ)). n ∷ z) e, ((are.0 n).1 fits.0, m))),
    )
  where
    to : (((matching rest : List (List ℕ)) × (names ≡ matching ++ rest) × MatchEach patterns matching) → FitEach globs names) → (matching rest : List (List ℕ)) → n ∷ names ≡ matching ++ rest → MatchEach (p ∷ patterns) matching → FitEach (g ∷ globs) (n ∷ names)
    to others [] rest e m = absurd m
    to others (x ∷ matching) rest e m =
        let same : n ≡ x = cc in
        let after : names ≡ matching ++ rest = cc in
        ((are.0 n).0 (subst (λ (z : List ℕ). Matches p z) (sym same) m.0), others (matching, rest, after, m.1))

-- a pattern with a slash excludes the paths whose first names match its names
pub by_path : (pattern path : List ℕ) (globs : Vec Glob Global) → HasSlash pattern → AreGlobs (names_of pattern) globs.items → Excludes pattern path ↔ ExcludesBy (Path globs) (names_of path)
by_path pattern path globs slash are =
    let both = each (names_of pattern) globs.items (names_of path) are in (
      λ (names, rest, e, m). elim m [
        | inl matches ↦ both.0 (names, rest, e, matches.1)
        | inr last ↦ absurd (last.0 slash)
      ],
      λ fits. (let (matching, rest, e, m) = both.1 fits in (matching, rest, e, inl (slash, m))),
    )

-- ---- one more pattern

pub none_read : (globs : List PathGlob) → globs ≡ [] → AreRead [] globs
none_read globs none path = (
  λ (pattern, (k, lt, e), m). absurd (omega (arith, lt)),
  λ (glob, has, m). absurd (empty (subst (λ (z : List PathGlob). Contains z glob) none has)),
)
  where
    empty : {glob : PathGlob} → Contains [] glob → ⊥
    empty (k, lt, e) = omega (arith, lt)

pub one_more : (patterns : List (List ℕ)) (globs : List PathGlob) (pattern : List ℕ) (glob : PathGlob) → AreRead patterns globs → ((path : List ℕ) → Excludes pattern path ↔ ExcludesBy glob (names_of path)) →
    AreRead (patterns ++ pattern ∷ []) (globs ++ glob ∷ [])
one_more patterns globs pattern glob read same path = (
  λ (p, has, m). elim (Contains-push_cases patterns pattern p has) [
    | inl old ↦ (let (g, there, excludes) = (read path).0 (p, old, m) in (g, Contains-append_left globs (glob ∷ []) g there, excludes))
    | inr new ↦ (glob, Contains-push globs glob, (same path).0 (subst (λ (z : List ℕ). Excludes z path) (sym new) m))
  ],
  λ (g, has, m). elim (Contains-push_cases globs glob g has) [
    | inl old ↦ (let (p, there, excludes) = (read path).1 (g, old, m) in (p, Contains-append_left patterns (pattern ∷ []) p there, excludes))
    | inr new ↦ (pattern, Contains-push patterns pattern, (same path).1 (subst (λ (z : PathGlob). ExcludesBy z (names_of path)) (sym new) m))
  ],
)

pub read_more : (patterns : List (String Global)) (globs : List PathGlob) (i : ℕ) (d : String Global) (glob : PathGlob) → i < length patterns → AreRead (map string_bytes (take i patterns)) globs →
    ((path : List ℕ) → Excludes (string_bytes (slice_index_or patterns i d)) path ↔ ExcludesBy glob (names_of path)) → AreRead (map string_bytes (take (i + 1) patterns)) (globs ++ glob ∷ [])
read_more patterns globs i d glob lt read same =
    subst (λ (z : List (List ℕ)). AreRead z (globs ++ glob ∷ [])) (sym (ap (λ (z : List (String Global)). map string_bytes z) (take_more patterns i d lt) ∙ map_push string_bytes (take i patterns) (slice_index_or patterns i d)))
    (one_more (map string_bytes (take i patterns)) globs (string_bytes (slice_index_or patterns i d)) glob read same)

pub one_glob : (patterns : List (List ℕ)) (globs : List Glob) (pattern : List ℕ) (glob : Glob) → AreGlobs patterns globs → ((name : List ℕ) → Matches pattern name ↔ Fits glob name) →
    AreGlobs (patterns ++ pattern ∷ []) (globs ++ glob ∷ [])
one_glob [] [] pattern glob are same = (same, tt)
one_glob [] (g ∷ globs) pattern glob are same = absurd are
one_glob (p ∷ patterns) [] pattern glob are same = absurd are
one_glob (p ∷ patterns) (g ∷ globs) pattern glob are same = (are.0, one_glob patterns globs pattern glob are.1 same)

pub globs_more : (patterns : List (Bor (List ℕ))) (globs : List Glob) (i : ℕ) (d : Bor (List ℕ)) (glob : Glob) → i < length patterns → AreGlobs (map (λ (p : Bor (List ℕ)). p.now) (take i patterns)) globs →
    ((name : List ℕ) → Matches (slice_index_or patterns i d).now name ↔ Fits glob name) → AreGlobs (map (λ (p : Bor (List ℕ)). p.now) (take (i + 1) patterns)) (globs ++ glob ∷ [])
globs_more patterns globs i d glob lt are same =
    subst (λ (z : List (List ℕ)). AreGlobs z (globs ++ glob ∷ []))
    (sym (ap (λ (z : List (Bor (List ℕ))). map (λ (p : Bor (List ℕ)). p.now) z) (take_more patterns i d lt) ∙ map_push (λ (p : Bor (List ℕ)). p.now) (take i patterns) (slice_index_or patterns i d)))
    (one_glob (map (λ (p : Bor (List ℕ)). p.now) (take i patterns)) globs (slice_index_or patterns i d).now glob are same)

-- ---- whether names fit

pub too_many : (globs : List Glob) (names : List (List ℕ)) → FitEach globs names → length globs ≤ length names
too_many [] names fits = omega arith
too_many (g ∷ globs) [] fits = absurd fits
too_many (g ∷ globs) (n ∷ names) fits = let more = too_many globs names fits.1 in omega (arith, more)

pub in_names : (xs : List (Bor (List ℕ))) (i : ℕ) (d : Bor (List ℕ)) → i < length xs → Contains (map (λ (n : Bor (List ℕ)). n.now) xs) (slice_index_or xs i d).now
in_names xs i d lt =
    let e = drop_more xs i d lt in
    let all : map (λ (n : Bor (List ℕ)). n.now) (take i xs ++ (slice_index_or xs i d ∷ drop (i + 1) xs)) ≡ map (λ (n : Bor (List ℕ)). n.now) xs =
    ap (λ (z : List (Bor (List ℕ))). map (λ (n : Bor (List ℕ)). n.now) z) (ap (λ (z : List (Bor (List ℕ))). take i xs ++ z) (sym e) ∙ take-append-drop i xs) in
    subst (λ (z : List (List ℕ)). Contains z (slice_index_or xs i d).now) (sym (map-append (λ (n : Bor (List ℕ)). n.now) (take i xs) (slice_index_or xs i d ∷ drop (i + 1) xs)) ∙ all)
    (Contains-append_right (map (λ (n : Bor (List ℕ)). n.now) (take i xs)) _ _ (0, omega arith, refl))

-- one more name that doesn't fit
pub none_more : (P : List ℕ → Type 0) (xs : List (Bor (List ℕ))) (i : ℕ) (d : Bor (List ℕ)) → i < length xs →
    ((name : List ℕ) → Contains (map (λ (n : Bor (List ℕ)). n.now) (take i xs)) name → P name → ⊥) → (P (slice_index_or xs i d).now → ⊥) →
    (name : List ℕ) → Contains (map (λ (n : Bor (List ℕ)). n.now) (take (i + 1) xs)) name → P name → ⊥
none_more P xs i d lt none other name has fits =
    let is : map (λ (n : Bor (List ℕ)). n.now) (take (i + 1) xs) ≡ map (λ (n : Bor (List ℕ)). n.now) (take i xs) ++ (slice_index_or xs i d).now ∷ [] =
    ap (λ (z : List (Bor (List ℕ))). map (λ (n : Bor (List ℕ)). n.now) z) (take_more xs i d lt) ∙ map_push (λ (n : Bor (List ℕ)). n.now) (take i xs) (slice_index_or xs i d) in
    elim (Contains-push_cases _ _ name (subst (λ (z : List (List ℕ)). Contains z name) is has)) [
      | inl old ↦ none name old fits
      | inr new ↦ other (subst P (sym new) fits)
    ]

-- a name that doesn't fit the pattern of its index
pub one_misses : (globs : List Glob) (names : List (Bor (List ℕ))) (i : ℕ) (g : Glob) (d : Bor (List ℕ)) → i < length globs → i < length names → (Fits (slice_index_or globs i g) (slice_index_or names i d).now → ⊥) →
    FitEach (drop i globs) (map (λ (n : Bor (List ℕ)). n.now) (drop i names)) → ⊥
one_misses globs names i g d low within misses fits =
    let left : FitEach (slice_index_or globs i g ∷ drop (i + 1) globs) (map (λ (n : Bor (List ℕ)). n.now) (slice_index_or names i d ∷ drop (i + 1) names)) =
    subst (λ (z : List (Bor (List ℕ))). FitEach (slice_index_or globs i g ∷ drop (i + 1) globs) (map (λ (n : Bor (List ℕ)). n.now) z)) (drop_more names i d within)
    (subst (λ (z : List Glob). FitEach z (map (λ (n : Bor (List ℕ)). n.now) (drop i names))) (drop_more globs i g low) fits) in
    misses left.0

-- one more pattern that doesn't exclude
pub no_more_globs : (globs : List PathGlob) (names : List (List ℕ)) (i : ℕ) (d : PathGlob) → i < length globs → (IsExcludedBy (take i globs) names → ⊥) → (ExcludesBy (slice_index_or globs i d) names → ⊥) →
    IsExcludedBy (take (i + 1) globs) names → ⊥
no_more_globs globs names i d lt none other (g, has, m) =
    elim (Contains-push_cases (take i globs) (slice_index_or globs i d) g (subst (λ (z : List PathGlob). Contains z g) (take_more globs i d lt) has)) [
      | inl old ↦ none (g, old, m)
      | inr new ↦ other (subst (λ (z : PathGlob). ExcludesBy z names) (sym new) m)
    ]
