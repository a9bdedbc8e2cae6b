-- Pieces that occur in a text one after the other.
use Rattle.std.proofs.Common.{◌≡◌, ℕ, ◌+◌, ◌<◌, ◌≤◌, Bool, true, false, eqb, List, [], ◌∷◌, ◌++◌, length, take, drop, Option, Some, None, refl, sym, ap, ◌∙◌, subst, arith, append_assoc, append-nil, inl, inr}
use Rattle.std.specs.Borrow.{Bor}
use Rattle.std.specs.Prelude.{◌↔◌, map, slice_index_or}
use Rattle.std.specs.List.{slice_split}
use Rattle.std.proofs.lemmas.Bool.{cases_lt, false≢true}
use Rattle.std.specs.Bool.{IsTrue}
use Rattle.std.proofs.lemmas.List.{drop-append-le, drop-drop, drop_all, drop_more, length-append, map_push, take-append-drop}
use Rattle.std.proofs.lemmas.List.Splits.{length-slice_split}
use Rattle.std.proofs.Math.Seq.{drop-append_seam, take-append_seam}
use Rattle.memchr.proofs.lemmas.MatchLemmas.{OccursAt-from_part, OccursAt-split}
use Rattle.memchr.specs.Find.{NoneBefore, Nowhere, OccursAt}
use Rattle.glob.specs.Globs.{is_star, EndsWithPieces, Interleaves}

-- the first piece, and the others after it
pub floats_step : (p m : List ℕ) (ms : List (List ℕ)) (t : List ℕ) → EndsWithPieces (p ∷ m ∷ ms) t → (b r : List ℕ) × (t ≡ b ++ (p ++ r)) × EndsWithPieces (m ∷ ms) r
floats_step p m ms t (b, s, e, (x, y, f, i)) = (b, x ++ y, e ∙ ap (λ (z : List ℕ). b ++ z) f, (x, y, refl, i))

pub step_floats : (p m : List ℕ) (ms : List (List ℕ)) (t b r : List ℕ) → t ≡ b ++ (p ++ r) → EndsWithPieces (m ∷ ms) r → EndsWithPieces (p ∷ m ∷ ms) t
step_floats p m ms t b r e (x, y, f, i) = (b, p ++ (x ++ y), e ∙ ap (λ (z : List ℕ). b ++ (p ++ z)) f, (x, y, refl, i))

-- bytes before the first piece don't matter
pub floats_after : (p : List ℕ) (ps : List (List ℕ)) (x t : List ℕ) → EndsWithPieces (p ∷ ps) t → EndsWithPieces (p ∷ ps) (x ++ t)
floats_after p ps x t (b, r, e, i) = (x ++ b, r, ap (λ (z : List ℕ). x ++ z) e ∙ sym (append_assoc x b r), i)

-- an empty piece before another one doesn't matter
empty_first : (q : List ℕ) (ps : List (List ℕ)) (t : List ℕ) → EndsWithPieces ([] ∷ q ∷ ps) t → EndsWithPieces (q ∷ ps) t
empty_first q ps t f =
    let (b, r, e, g) = floats_step [] q ps t f in
    subst (λ (z : List ℕ). EndsWithPieces (q ∷ ps) z) (sym e) (floats_after q ps b r g)

first_empty : (q : List ℕ) (ps : List (List ℕ)) (t : List ℕ) → EndsWithPieces (q ∷ ps) t → EndsWithPieces ([] ∷ q ∷ ps) t
first_empty q ps t f = step_floats [] q ps t [] t refl f

pub drop_empty : (inner : List (List ℕ)) (q : List ℕ) (ps : List (List ℕ)) (t : List ℕ) → EndsWithPieces (inner ++ [] ∷ q ∷ ps) t → EndsWithPieces (inner ++ q ∷ ps) t
drop_empty [] q ps t f = empty_first q ps t f
drop_empty (p ∷ []) q ps t f =
    let (b, r, e, g) = floats_step p [] (q ∷ ps) t f in
    step_floats p q ps t b r e (empty_first q ps r g)
drop_empty (p ∷ p2 ∷ inner) q ps t f =
    let (b, r, e, g) = floats_step p p2 (inner ++ [] ∷ q ∷ ps) t f in
    step_floats p p2 (inner ++ q ∷ ps) t b r e (drop_empty (p2 ∷ inner) q ps r g)

pub add_empty : (inner : List (List ℕ)) (q : List ℕ) (ps : List (List ℕ)) (t : List ℕ) → EndsWithPieces (inner ++ q ∷ ps) t → EndsWithPieces (inner ++ [] ∷ q ∷ ps) t
add_empty [] q ps t f = first_empty q ps t f
add_empty (p ∷ []) q ps t f =
    let (b, r, e, g) = floats_step p q ps t f in
    step_floats p [] (q ∷ ps) t b r e (first_empty q ps r g)
add_empty (p ∷ p2 ∷ inner) q ps t f =
    let (b, r, e, g) = floats_step p p2 (inner ++ q ∷ ps) t f in
    step_floats p p2 (inner ++ [] ∷ q ∷ ps) t b r e (add_empty (p2 ∷ inner) q ps r g)

-- ---- the first occurrence

-- the piece occurs at this index of the text
occurs : (b p r : List ℕ) → OccursAt (b ++ (p ++ r)) p (length b)
occurs b p r =
    OccursAt-from_part (b ++ (p ++ r)) p (length b)
    (let size = length-append b (p ++ r) in let more = length-append p r in omega (arith, size, more))
    (ap (λ (z : List ℕ). take (length p) z) (drop-append_seam b (p ++ r)) ∙ take-append_seam p r)

-- the other pieces occur after the first occurrence of the first piece
pub after_first : (hay p m : List ℕ) (ms : List (List ℕ)) (k : ℕ) → NoneBefore (OccursAt hay p) 0 (length hay + 1) k → OccursAt hay p k → EndsWithPieces (p ∷ m ∷ ms) hay → EndsWithPieces (m ∷ ms) (drop (k + length p) hay)
after_first hay p m ms k none at f =
    let (b, r, e, g) = floats_step p m ms hay f in
    let there : OccursAt hay p (length b) = subst (λ (z : List ℕ). OccursAt z p (length b)) (sym e) (occurs b p r) in
    let early : k ≤ length b = elim (cases_lt (length b) k) [
      | inl lt ↦ absurd (none.before (length b) (omega arith) lt there)
      | inr le ↦ le
    ] in
    let size = length-append b p in
    let within : k + length p ≤ length (b ++ p) = omega (arith, size, early) in
    let rest : drop (k + length p) hay ≡ drop (k + length p) (b ++ p) ++ r =
    ap (λ (z : List ℕ). drop (k + length p) z) (e ∙ sym (append_assoc b p r)) ∙ drop-append-le (k + length p) (b ++ p) r within in
    subst (λ (z : List ℕ). EndsWithPieces (m ∷ ms) z) (sym rest) (floats_after m ms (drop (k + length p) (b ++ p)) r g)

pub before_first : (hay p m : List ℕ) (ms : List (List ℕ)) (k : ℕ) → OccursAt hay p k → EndsWithPieces (m ∷ ms) (drop (k + length p) hay) → EndsWithPieces (p ∷ m ∷ ms) hay
before_first hay p m ms k at f =
    step_floats p m ms hay (take k hay) (drop (k + length p) hay)
    (sym (take-append-drop k hay) ∙ ap (λ (z : List ℕ). take k hay ++ z) (OccursAt-split hay p k at)) f

-- a text in which the first piece doesn't occur
pub nowhere : (hay p m : List ℕ) (ms : List (List ℕ)) → Nowhere (OccursAt hay p) 0 (length hay + 1) → EndsWithPieces (p ∷ m ∷ ms) hay → ⊥
nowhere hay p m ms none f =
    let (b, r, e, g) = floats_step p m ms hay f in
    let there : OccursAt hay p (length b) = subst (λ (z : List ℕ). OccursAt z p (length b)) (sym e) (occurs b p r) in
    let fits = there.fits in
    none (length b) (omega arith) (omega arith) there

-- a text that is shorter than the first piece
pub too_long : (hay p m : List ℕ) (ms : List (List ℕ)) → length hay < length p → EndsWithPieces (p ∷ m ∷ ms) hay → ⊥
too_long hay p m ms longer f =
    let (b, r, e, g) = floats_step p m ms hay f in
    let size : length hay ≡ length b + (length p + length r) = ap (λ (z : List ℕ). length z) e ∙ length-append b (p ++ r) ∙ ap (λ (n : ℕ). length b + n) (length-append p r) in
    absurd (omega (arith, size, longer))

-- ---- pieces before the last one

-- there is a first piece
tail : (qs : List (List ℕ)) (last : List ℕ) → (m : List ℕ) × (ms : List (List ℕ)) × (qs ++ last ∷ [] ≡ m ∷ ms)
tail [] last = (last, [], refl)
tail (q ∷ qs) last = (q, qs ++ last ∷ [], refl)

pub found : (hay p last : List ℕ) (qs : List (List ℕ)) (k : ℕ) → NoneBefore (OccursAt hay p) 0 (length hay + 1) k → OccursAt hay p k →
    EndsWithPieces (p ∷ (qs ++ last ∷ [])) hay ↔ EndsWithPieces (qs ++ last ∷ []) (drop (length p) (drop k hay))
found hay p last qs k none at =
    let (m, ms, e) = tail qs last in
    subst (λ (z : List ℕ). EndsWithPieces (p ∷ (qs ++ last ∷ [])) hay ↔ EndsWithPieces (qs ++ last ∷ []) z) (sym (drop-drop (length p) k hay))
    (subst (λ (z : List (List ℕ)). EndsWithPieces (p ∷ z) hay ↔ EndsWithPieces z (drop (k + length p) hay)) (sym e) (after_first hay p m ms k none at, before_first hay p m ms k at))

pub missing : (hay p last : List ℕ) (qs : List (List ℕ)) → Nowhere (OccursAt hay p) 0 (length hay + 1) → EndsWithPieces (p ∷ (qs ++ last ∷ [])) hay → ⊥
missing hay p last qs none =
    let (m, ms, e) = tail qs last in
    subst (λ (z : List (List ℕ)). EndsWithPieces (p ∷ z) hay → ⊥) (sym e) (nowhere hay p m ms none)

pub longer : (hay p last : List ℕ) (qs : List (List ℕ)) → length hay < length p → EndsWithPieces (p ∷ (qs ++ last ∷ [])) hay → ⊥
longer hay p last qs lt =
    let (m, ms, e) = tail qs last in
    subst (λ (z : List (List ℕ)). EndsWithPieces (p ∷ z) hay → ⊥) (sym e) (too_long hay p m ms lt)

-- the pieces from this one on
pub opened : (items : List (Bor (List ℕ))) (i : ℕ) (d : Bor (List ℕ)) (last : List ℕ) → i < length items →
    map (λ (p : Bor (List ℕ)). p.now) (drop i items) ++ last ∷ [] ≡ (slice_index_or items i d).now ∷ (map (λ (p : Bor (List ℕ)). p.now) (drop (i + 1) items) ++ last ∷ [])
opened items i d last lt = ap (λ (z : List (Bor (List ℕ))). map (λ (p : Bor (List ℕ)). p.now) z ++ last ∷ []) (drop_more items i d lt)

-- the step from a piece to the next one
pub next_piece : (A : Type 0) (items : List (Bor (List ℕ))) (i : ℕ) (d : Bor (List ℕ)) (last rest middle after : List ℕ) (at : ℕ) → i < length items →
    A ↔ EndsWithPieces (map (λ (p : Bor (List ℕ)). p.now) (drop i items) ++ last ∷ []) rest →
    NoneBefore (OccursAt rest (slice_index_or items i d).now) 0 (length rest + 1) at → OccursAt rest (slice_index_or items i d).now at →
    middle ≡ drop at rest → after ≡ drop (length (slice_index_or items i d).now) middle → A ↔ EndsWithPieces (map (λ (p : Bor (List ℕ)). p.now) (drop (i + 1) items) ++ last ∷ []) after
next_piece A items i d last rest middle after at lt same none occurs_there e f =
    let p = (slice_index_or items i d).now in
    let qs = map (λ (p : Bor (List ℕ)). p.now) (drop (i + 1) items) in
    let now : A ↔ EndsWithPieces (p ∷ (qs ++ last ∷ [])) rest = subst (λ (z : List (List ℕ)). A ↔ EndsWithPieces z rest) (opened items i d last lt) same in
    let step = found rest p last qs at none occurs_there in
    let whole : A ↔ EndsWithPieces (qs ++ last ∷ []) (drop (length p) (drop at rest)) = (λ a. step.0 (now.0 a), λ g. now.1 (step.1 g)) in
    subst (λ (z : List ℕ). A ↔ EndsWithPieces (qs ++ last ∷ []) z) (ap (λ (z : List ℕ). drop (length p) z) (sym e) ∙ sym f) whole

-- after all others the last piece ends the text
pub at_end : (A : Type 0) (items : List (Bor (List ℕ))) (i : ℕ) (last rest : List ℕ) (r : Bool) (front : List ℕ) → length items ≤ i →
    A ↔ EndsWithPieces (map (λ (p : Bor (List ℕ)). p.now) (drop i items) ++ last ∷ []) rest → (r ≡ true → rest ≡ front ++ last) → ((b : List ℕ) → rest ≡ b ++ last → r ≡ true) → (IsTrue r → A) × (A → IsTrue r)
at_end A items i last rest r front over same ends ended =
    let only : A ↔ EndsWithPieces (last ∷ []) rest = subst (λ (z : List (Bor (List ℕ))). A ↔ EndsWithPieces (map (λ (p : Bor (List ℕ)). p.now) z ++ last ∷ []) rest) (drop_all i items over) same in
    (λ t. only.1 (front, last, ends t, refl), λ a. (let (b, x, e, is) = only.0 a in ended b (e ∙ ap (λ (z : List ℕ). b ++ z) is)))

-- a test that holds, and one that fails
pub yes : {P : Type 0} → P → (IsTrue true → P) × (P → IsTrue true)
yes p = (λ t. p, λ q. refl)

pub no : {P : Type 0} → (P → ⊥) → (IsTrue false → P) × (P → IsTrue false)
no f = (λ t. absurd (false≢true t), λ p. absurd (f p))

pub length_zero : (xs : List ℕ) → length xs ≡ 0 → xs ≡ []
length_zero [] e = refl
length_zero (x ∷ xs) e = absurd (omega (arith, e))

-- ---- cutting a pattern

-- the pieces so far, followed by any others
abbrev pub IsCut : List (Bor (List ℕ)) → List (Bor (List ℕ)) → List ℕ → Type 0
IsCut yielded inner last =
    (more : List (List ℕ)) (q : List ℕ) (qs : List (List ℕ)) (t : List ℕ) → map (λ (p : Bor (List ℕ)). p.now) yielded ++ more ≡ q ∷ qs →
    EndsWithPieces (q ∷ qs) t ↔ EndsWithPieces (map (λ (p : Bor (List ℕ)). p.now) inner ++ last ∷ more) t

pub no_cut : (inner : List (Bor (List ℕ))) → inner ≡ [] → IsCut [] inner []
no_cut inner none more q qs t e =
    subst (λ (z : List (List ℕ)). EndsWithPieces (q ∷ qs) t ↔ EndsWithPieces z t) (ap (λ (z : List (Bor (List ℕ))). map (λ (p : Bor (List ℕ)). p.now) z ++ [] ∷ more) (sym none))
    (subst (λ (z : List (List ℕ)). EndsWithPieces (q ∷ qs) t ↔ EndsWithPieces ([] ∷ z) t) (sym e) (first_empty q qs t, empty_first q qs t))

-- one more piece at the end, before the others
pushed : (xs : List (Bor (List ℕ))) (x : Bor (List ℕ)) (more : List (List ℕ)) → map (λ (p : Bor (List ℕ)). p.now) (xs ++ x ∷ []) ++ more ≡ map (λ (p : Bor (List ℕ)). p.now) xs ++ x.now ∷ more
pushed xs x more = ap (λ (z : List (List ℕ)). z ++ more) (map_push (λ (p : Bor (List ℕ)). p.now) xs x) ∙ append_assoc (map (λ (p : Bor (List ℕ)). p.now) xs) (x.now ∷ []) more

pub cut_push : (yielded inner : List (Bor (List ℕ))) (last piece : Bor (List ℕ)) → IsCut yielded inner last.now → IsCut (yielded ++ piece ∷ []) (inner ++ last ∷ []) piece.now
cut_push yielded inner last piece cut more q qs t e =
    subst (λ (z : List (List ℕ)). EndsWithPieces (q ∷ qs) t ↔ EndsWithPieces z t) (sym (pushed inner last (piece.now ∷ more))) (cut (piece.now ∷ more) q qs t (sym (pushed yielded piece more) ∙ e))

pub cut_empty : (yielded inner : List (Bor (List ℕ))) (last : List ℕ) (piece : Bor (List ℕ)) → last ≡ [] → IsCut yielded inner last → IsCut (yielded ++ piece ∷ []) inner piece.now
cut_empty yielded inner last piece none cut more q qs t e =
    let names = map (λ (p : Bor (List ℕ)). p.now) inner in
    let before : EndsWithPieces (q ∷ qs) t ↔ EndsWithPieces (names ++ [] ∷ piece.now ∷ more) t =
    subst (λ (z : List ℕ). EndsWithPieces (q ∷ qs) t ↔ EndsWithPieces (names ++ z ∷ piece.now ∷ more) t) none (cut (piece.now ∷ more) q qs t (sym (pushed yielded piece more) ∙ e)) in
    (λ f. drop_empty names piece.now more t (before.0 f), λ f. before.1 (add_empty names piece.now more t f))

-- a pattern has at least one piece
pub some_piece : (xs : List (List ℕ)) (n : ℕ) → length xs ≡ n + 1 → (q : List ℕ) × (qs : List (List ℕ)) × (xs ≡ q ∷ qs)
some_piece [] n e = absurd (omega (arith, e))
some_piece (q ∷ qs) n e = (q, qs, refl)

pub cut_whole : (yielded inner : List (Bor (List ℕ))) (last rest : List ℕ) (n : ℕ) → IsCut yielded inner last → map (λ (p : Bor (List ℕ)). p.now) yielded ≡ slice_split is_star rest → length (slice_split is_star rest) ≡ n + 1 →
    (text : List ℕ) → EndsWithPieces (slice_split is_star rest) text ↔ EndsWithPieces (map (λ (p : Bor (List ℕ)). p.now) inner ++ last ∷ []) text
cut_whole yielded inner last rest n cut e size text =
    let (q, qs, f) = some_piece (slice_split is_star rest) n size in
    subst (λ (z : List (List ℕ)). EndsWithPieces z text ↔ EndsWithPieces (map (λ (p : Bor (List ℕ)). p.now) inner ++ last ∷ []) text) (sym f) (cut [] q qs text (append-nil _ ∙ e ∙ f))
