-- The modules of a list of names, found one by one.
use Rattle.std.proofs.Common.{◌≡◌, ℕ, suc, zero, ◌<◌, List, [], ◌∷◌, ◌++◌, length, get_or, take, Option, Some, None, Result, Ok, Err, refl, ◌∙◌, arith}
use Rattle.std.specs.Option.{ok_or}
use Rattle.cut_net.specs.Network.{Network, index_of}
use Rattle.cut_report.specs.declared.fault.ReportLineFault.{ReportLineFault}
use Rattle.cut_report.specs.declared.fault.ReportLineFault.TheVariants as faults
use Rattle.cut_report.specs.Builders.{◌>>=◌, chain_of}

module _ (net : Network) where
  itself : (r : Result (List ℕ) ReportLineFault) → r ≡ (r >>= λ back. Ok back)
  itself (Ok x) = refl
  itself (Err e) = refl

  inner : (m : ℕ) (r s : Result (List ℕ) ReportLineFault) → ((r >>= λ prefix. s >>= λ back. Ok (prefix ++ back)) >>= λ more. Ok (m ∷ more)) ≡ ((r >>= λ more. Ok (m ∷ more)) >>= λ prefix. s >>= λ back. Ok (prefix ++ back))
  inner m (Ok f) (Ok b) = refl
  inner m (Ok f) (Err e) = refl
  inner m (Err e) s = refl

  chain_append : (xs ys : List (List ℕ)) → chain_of net (xs ++ ys) ≡ (chain_of net xs >>= λ prefix. chain_of net ys >>= λ back. Ok (prefix ++ back))
  chain_append [] ys = itself (chain_of net ys)
  chain_append (x ∷ xs) ys = go (chain_append xs ys) (index_of net x)
    where
      go : chain_of net (xs ++ ys) ≡ (chain_of net xs >>= λ prefix. chain_of net ys >>= λ back. Ok (prefix ++ back)) → (o : Option ℕ) → (ok_or o faults.UnknownName >>= λ m. chain_of net (xs ++ ys) >>= λ more. Ok (m ∷ more)) ≡ ((ok_or o faults.UnknownName >>= λ m. chain_of net xs >>= λ more. Ok (m ∷ more)) >>= λ prefix. chain_of net ys >>= λ back. Ok (prefix ++ back))
      go rest None = refl
      go rest (Some m) = rw rest (inner m (chain_of net xs) (chain_of net ys))

  -- one more name
  pub chain_more : (names : List (List ℕ)) (name : List ℕ) (chain : List ℕ) (m : ℕ) → chain_of net names ≡ Ok chain → index_of net name ≡ Some m → chain_of net (names ++ name ∷ []) ≡ Ok (chain ++ m ∷ [])
  chain_more names name chain m e i = chain_append names (name ∷ []) ∙ rw (e, i) refl

  -- a name that the network lacks
  pub chain_fails : (names : List (List ℕ)) (n : ℕ) (name chain : List ℕ) → n < length names → get_or names n [] ≡ name → chain_of net (take n names) ≡ Ok chain → index_of net name ≡ None → chain_of net names ≡ Err faults.UnknownName
  chain_fails [] n name chain lt at e i = absurd (omega arith)
  chain_fails (w ∷ names) zero name chain lt at e i = rw (at, i) refl
  chain_fails (w ∷ names) (suc n) name chain lt at e i =
      go (index_of net w) (chain_of net (take n names)) (λ more same. chain_fails names n name more (omega arith) at same i) e
    where
      go : (o : Option ℕ) (r : Result (List ℕ) ReportLineFault) → ((more : List ℕ) → r ≡ Ok more → chain_of net names ≡ Err faults.UnknownName) → (ok_or o faults.UnknownName >>= λ m. r >>= λ more. Ok (m ∷ more)) ≡ Ok chain → (ok_or o faults.UnknownName >>= λ m. chain_of net names >>= λ more. Ok (m ∷ more)) ≡ Err faults.UnknownName
      go None r rest h = absurd cc
      go (Some m) (Err x) rest h = absurd cc
      go (Some m) (Ok more) rest h = rw (rest more refl) refl
