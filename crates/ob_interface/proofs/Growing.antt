-- Decoding in a buffer that grows.
use Rattle.std.proofs.Common.{◌≡◌, ℕ, ◌+◌, List, [], ◌∷◌, ◌++◌, length, take, map, refl, sym, ap, ◌∙◌, subst, append_assoc, append-nil, take_all}
use Rattle.std.proofs.Common.{◌<◌, ◌≤◌, get_or, Option, Some, None}
use Rattle.std.specs.List.{filter_map}
use Rattle.std.proofs.lemmas.List.{take_more, map_more, map-append}
use Rattle.std.proofs.lemmas.List.Elements.{filter_map-append}
use Rattle.ob_interface.specs.Texts.{IsGrown, DecodesTo, AllDecodeTo}

pub grown_none : (old : List ℕ) → IsGrown old old
grown_none old = record { more = []; is = sym (append-nil old) }

pub grown_by : (old more new : List ℕ) → new ≡ old ++ more → IsGrown old new
grown_by old more new e = record { more = more; is = e }

pub grown_twice : {a b c : List ℕ} → IsGrown a b → IsGrown b c → IsGrown a c
grown_twice {a} {b} {c} f g = record { more = f.more ++ g.more; is = g.is ∙ ap (λ (x : List ℕ). x ++ g.more) f.is ∙ append_assoc a f.more g.more }

-- a value decodes equally after the buffer has grown
pub tells_grown : {X Y : Type 0} (decode : List ℕ → X → Y) (a b : List ℕ) (x : X) (y : Y) → DecodesTo decode a x y → IsGrown a b → DecodesTo decode b x y
tells_grown decode a b x y h g more = ap (λ (t : List ℕ). decode t x) (ap (λ (t : List ℕ). t ++ more) g.is ∙ append_assoc a g.more more) ∙ h (g.more ++ more)

pub all_tell_grown : {X Y : Type 0} (decode : List ℕ → X → Y) (a b : List ℕ) (xs : List X) (ys : List Y) → AllDecodeTo decode a xs ys → IsGrown a b → AllDecodeTo decode b xs ys
all_tell_grown decode a b xs ys h g more = ap (λ (t : List ℕ). map (decode t) xs) (ap (λ (t : List ℕ). t ++ more) g.is ∙ append_assoc a g.more more) ∙ h (g.more ++ more)

-- a value that decodes in every extension of the buffer decodes in the buffer itself
pub all_tell_now : {X Y : Type 0} (decode : List ℕ → X → Y) (a : List ℕ) (xs : List X) (ys : List Y) → AllDecodeTo decode a xs ys → map (decode a) xs ≡ ys
all_tell_now decode a xs ys h = ap (λ (t : List ℕ). map (decode t) xs) (sym (append-nil a)) ∙ h []

-- one more element that is selected, and one that isn't
pub more_told : {R X Y : Type 0} (decode : List ℕ → X → Y) (h : R → Option Y) (a b : List ℕ) (xs : List X) (rs : List R) (i : ℕ) (d : R) (x : X) (y : Y) → AllDecodeTo decode a xs (filter_map h (take i rs)) → IsGrown a b → DecodesTo decode b x y
    → i < length rs → h (get_or rs i d) ≡ Some y → AllDecodeTo decode b (xs ++ x ∷ []) (filter_map h (take (i + 1) rs))
more_told decode h a b xs rs i d x y all grown one l e more =
    rw (take_more rs i d l, filter_map-append h (take i rs) (get_or rs i d ∷ []), e, map-append (decode (b ++ more)) xs (x ∷ []), all_tell_grown decode a b xs (filter_map h (take i rs)) all grown more, one more) refl

pub none_told : {R X Y : Type 0} (decode : List ℕ → X → Y) (h : R → Option Y) (a : List ℕ) (xs : List X) (rs : List R) (i : ℕ) (d : R) → AllDecodeTo decode a xs (filter_map h (take i rs))
    → i < length rs → h (get_or rs i d) ≡ None → AllDecodeTo decode a xs (filter_map h (take (i + 1) rs))
none_told decode h a xs rs i d all l e more = rw (take_more rs i d l, filter_map-append h (take i rs) (get_or rs i d ∷ []), e, append-nil (filter_map h (take i rs))) (all more)

-- one more element, each of which is selected
pub map_told : {R X Y : Type 0} (decode : List ℕ → X → Y) (h : R → Y) (a b : List ℕ) (xs : List X) (rs : List R) (i : ℕ) (d : R) (x : X) → AllDecodeTo decode a xs (map h (take i rs)) → IsGrown a b → DecodesTo decode b x (h (get_or rs i d)) → i < length rs
    → AllDecodeTo decode b (xs ++ x ∷ []) (map h (take (i + 1) rs))
map_told decode h a b xs rs i d x all grown one l more =
    rw (map_more h rs i d l, map-append (decode (b ++ more)) xs (x ∷ []), all_tell_grown decode a b xs (map h (take i rs)) all grown more, one more) refl

-- a list that decodes up to an index beyond its last element decodes as a whole
pub all_told : {R X Y : Type 0} (decode : List ℕ → X → Y) (a : List ℕ) (xs : List X) (ys : List R → List Y) (rs : List R) (i : ℕ) → AllDecodeTo decode a xs (ys (take i rs)) → length rs ≤ i → AllDecodeTo decode a xs (ys rs)
all_told decode a xs ys rs i h l = subst (λ (r : List _). AllDecodeTo decode a xs (ys r)) (take_all i rs l) h
