-- The states of imports, one after another.
use Rattle.std.proofs.Common.{◌≡◌, ℕ, ◌+◌, ◌<◌, List, [], ◌∷◌, ◌++◌, length, get_or, map, take, refl, ap, ◌∙◌}
use Rattle.std.specs.Prelude.{Option, None, find}
use Rattle.std.specs.List.{flat_map}
use Rattle.std.proofs.lemmas.Grind.{flat_map-append}
use Rattle.std.proofs.lemmas.List.{append-nil, get_or-map, map_push, take_more}
use Rattle.cut_net.specs.declared.priced.Priced.{Priced}
use Rattle.cut_net.specs.declared.pin_state.Change.{Change}
use Rattle.cut_net.specs.declared.pin_state.PinState.{PinState}
use Rattle.cut_net.specs.declared.pin_state.PinState.TheVariants.{WithWeight, WithPin}
use Rattle.cut_net.specs.Network.{Network, missing_item}
use Rattle.cut_net.specs.Cuts.{have_equal_ends}
use Rattle.cut_net.specs.Prices.{pin_of_state, pin_state_of, changed_state, initial_state}

-- an element of a mapped list
pub mapped_at : {X Y : Type 0} (f : X → Y) (xs : List X) (ys : List Y) (k : ℕ) (d : X) (e : Y) → ys ≡ map f xs → k < length xs → get_or ys k e ≡ f (get_or xs k d)
mapped_at {Y} f xs ys k d e same lt = ap (λ (l : List Y). get_or l k e) same ∙ get_or-map f xs k d e lt

-- one more element is mapped
pub mapped_next : {X Y : Type 0} (f : X → Y) (xs : List X) (ys : List Y) (k : ℕ) (d : X) (y : Y) → ys ≡ map f (take k xs) → k < length xs → y ≡ f (get_or xs k d) → ys ++ y ∷ [] ≡ map f (take (k + 1) xs)
mapped_next f xs ys k d y same lt e = rw (take_more xs k d lt, map_push f (take k xs) (get_or xs k d), same, e) refl

-- one more element gives what it gives
pub given_next : {X Y : Type 0} (f : X → List Y) (xs : List X) (ys more : List Y) (k : ℕ) (d : X) → ys ≡ flat_map f (take k xs) → k < length xs → more ≡ f (get_or xs k d) → ys ++ more ≡ flat_map f (take (k + 1) xs)
given_next f xs ys more k d same lt e = rw (take_more xs k d lt, flat_map-append f (take k xs) (get_or xs k d ∷ []), same, e, append-nil (f (get_or xs k d))) refl

-- an import that isn't pinned gives no pin
pub no_pin : (i : Priced) (s : PinState) → ((w : ℕ) → s ≡ WithPin w → ⊥) → [] ≡ pin_of_state i s
no_pin i (WithWeight w) none = refl
no_pin i (WithPin w) none = absurd (none w refl)

-- the state of an import, given the lookup of its pin
pub stood : (net : Network) (claim : Priced → Option Change) (imports pins : List Priced) (changes : List (Option Change)) (k : ℕ) (pin : Option Priced) (now : PinState) → imports ≡ net.imports → pins ≡ net.pins
    → pin ≡ find (have_equal_ends (get_or imports k missing_item)) pins → get_or changes k None ≡ claim (get_or net.imports k missing_item) → now ≡ changed_state (initial_state (get_or imports k missing_item) pin) (get_or changes k None)
    → now ≡ changed_state (pin_state_of net (get_or net.imports k missing_item)) (claim (get_or net.imports k missing_item))
stood net claim imports pins changes k pin now e f found tells is = rw (is, found, tells, e, f) refl
