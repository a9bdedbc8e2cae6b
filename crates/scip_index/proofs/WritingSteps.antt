-- One field after another, and the written forms of a list of values.
use Rattle.std.proofs.Common.{◌≡◌, List, [], ◌∷◌, ◌++◌, map, Option, Some, None, Result, Ok, Err, String, Global, refl, ap}
use Rattle.std.specs.Prelude.{option_map, IfSome, OnOk}
use Rattle.std.specs.List.{AllByRecursion}
use Rattle.std.specs.Str.{IsUtf8}
use Rattle.std.specs.String.{string_bytes}
use Rattle.std.proofs.lemmas.Str.{IsUtf8-string_bytes}
use Rattle.std.specs.Option.{option_to_list}
use Rattle.std.proofs.lemmas.List.Concat.{flat_map-append}
use Rattle.proto_wire.specs.Writing.{Field, spelled, spelled_fields}

pub map-after : {A B C : Type 0} (f : A → B) (g : B → C) (xs : List A) → map (λ x. g (f x)) xs ≡ map g (map f xs)
map-after f g [] = refl
map-after f g (x ∷ xs) = ap (λ ys. g (f x) ∷ ys) (map-after f g xs)

pub option-after : {A B C : Type 0} (f : A → B) (g : B → C) (o : Option A) → map (λ x. g (f x)) (option_to_list o) ≡ map g (option_to_list (option_map f o))
option-after f g None = refl
option-after f g (Some x) = refl

pub spelled_fields-append : (fs gs : List Field) → spelled_fields (fs ++ gs) ≡ spelled_fields fs ++ spelled_fields gs
spelled_fields-append fs gs = flat_map-append spelled fs gs

pub all-map : {A B : Type 0} (P : B → Type 0) (f : A → B) (xs : List A) → AllByRecursion (λ x. P (f x)) xs → AllByRecursion P (map f xs)
all-map P f [] h = tt
all-map P f (x ∷ xs) h = (h.0, all-map P f xs h.1)

pub some-map : {A B : Type 0} (P : B → Type 0) (f : A → B) (o : Option A) → IfSome o (λ x. P (f x)) → IfSome (option_map f o) P
some-map P f None h = tt
some-map P f (Some x) h = h

pub texts_utf8 : (texts : List (String Global)) → AllByRecursion IsUtf8 (map string_bytes texts)
texts_utf8 [] = tt
texts_utf8 (t ∷ texts) = (IsUtf8-string_bytes t, texts_utf8 texts)

pub ok-then : {T E : Type 0} (r : Result T E) {P Q : Type 0} → OnOk r P → (P → Q) → OnOk r Q
ok-then (Ok x) h go = go h
ok-then (Err e) h go = tt

pub ruleset steps = (map-after, option-after, spelled_fields-append)
