-- Results as outcomes.
use Rattle.std.proofs.Common.{◌≡◌, ◌≢◌, true, false, eqb, List, [], ◌∷◌, length, Result, Ok, Err, refl, subst, arith}
use Rattle.std.proofs.lemmas.Bool.{eqb-true}
use Rattle.scip_symbol.specs.declared.fault.SymbolFault.{SymbolFault}
use Rattle.scip_symbol.specs.declared.fault.SymbolFault.TheVariants.{Empty, BadDescriptor, LocalScheme, OpenQuote, Memory, BadPart}
use Rattle.scip_symbol.specs.Faults.{UnlessMemory, HasOutcome, MatchesUnlessMemory}

pub UnlessMemory-from : (fault : SymbolFault) {P : Type 0} → P → UnlessMemory fault P
UnlessMemory-from Empty h = h
UnlessMemory-from (BadDescriptor at) h = h
UnlessMemory-from LocalScheme h = h
UnlessMemory-from OpenQuote h = h
UnlessMemory-from Memory h = tt
UnlessMemory-from (BadPart part) h = h

pub UnlessMemory-weaker : (fault : SymbolFault) {P Q : Type 0} → UnlessMemory fault P → (P → Q) → UnlessMemory fault Q
UnlessMemory-weaker Empty p h = h p
UnlessMemory-weaker (BadDescriptor at) p h = h p
UnlessMemory-weaker LocalScheme p h = h p
UnlessMemory-weaker OpenQuote p h = h p
UnlessMemory-weaker Memory p h = tt
UnlessMemory-weaker (BadPart part) p h = h p

-- if all outcomes of a kind are equal, the result is that outcome
pub HasOutcome-weaker : {X Y : Type 0} (view : X → Y) (result : Result X SymbolFault) (P Q : Result Y SymbolFault → Type 0) → HasOutcome view result P → ((o : Result Y SymbolFault) → P o → Q o) → HasOutcome view result Q
HasOutcome-weaker view (Ok x) P Q p h = h (Ok (view x)) p
HasOutcome-weaker view (Err e) P Q p h = UnlessMemory-weaker e p (h (Err e))

-- a property of the specified result holds for the result
pub MatchesUnlessMemory-tells : {X Y : Type 0} (view : X → Y) (result : Result X SymbolFault) (reading : Result Y SymbolFault) (P : Result Y SymbolFault → Type 0) → MatchesUnlessMemory view result reading → P reading → HasOutcome view result P
MatchesUnlessMemory-tells view result reading P a p = HasOutcome-weaker view result (λ o. reading ≡ o) P a (λ o e. subst P e p)

pub ok_same : {X : Type 0} (x y : X) → ◌≡◌ {A = Result X SymbolFault} (Ok x) (Ok y) → x ≡ y
ok_same x y e = cc

pub err_same : {X : Type 0} (x y : SymbolFault) → ◌≡◌ {A = Result X SymbolFault} (Err x) (Err y) → x ≡ y
err_same x y e = cc

pub some_from_length : {X : Type 0} (xs : List X) → eqb (length xs) 0 ≡ false → xs ≢ []
some_from_length [] e = absurd cc
some_from_length (x ∷ xs) e = λ s. absurd cc

pub none_from_length : {X : Type 0} (xs : List X) → eqb (length xs) 0 ≡ true → xs ≡ []
none_from_length [] e = refl
none_from_length (x ∷ xs) e = let n = eqb-true (length (x ∷ xs)) 0 e in absurd (omega arith)
