-- The outcome of a prices file for a network is unique.
use Rattle.std.proofs.Common.{◌≡◌, ℕ, ◌+◌, ◌<◌, ◌≤◌, List, [], ◌∷◌, ◌++◌, refl, sym, ◌∙◌, ap, subst, arith, Some, Result, Ok, Err}
use Rattle.std.specs.Prelude.{All, slice_get}
use Rattle.std.proofs.lemmas.List.Elements.{All-contains, Contains-push}
use Rattle.cut_net.specs.Network.{Network}
use Rattle.cut_net.specs.NetText.{pieces_of}
use Rattle.cut_net.specs.Pins.{most_weight, unpinned_weight}
use Rattle.cut_net.specs.Prices.{PriceLine, price_line, AreGoodPrices, ChangeDifferentImports, IsBadPriceLine, IsUnknownImport, IsOfImport, IsPriced, IsPricePrefix, IsPriceLine, IsPriceOutcome, IsTwicePrice, HasOutcome, priced_by}
use Rattle.cut_net.specs.declared.price_fault.PriceFault.{PriceFault}
use Rattle.cut_net.specs.declared.price_fault.PriceFault.TheVariants.{BadLine, NoSuchImport, TwicePrice, PriceOverflow, Memory}
use Rattle.cut_net.proofs.LineStops as stops
use Rattle.cut_net.proofs.PriceLines.{line_once, line_written}
use Rattle.cut_net.proofs.ListFronts.{all_front, pairs_front}

module _ (net : Network) where
  prefix : (xs ys : List PriceLine) → AreGoodPrices net (xs ++ ys) → AreGoodPrices net xs
  prefix xs ys good = record {
    each = all_front IsPriceLine xs ys good.each;
    known = all_front (IsOfImport net) xs ys good.known;
    apart = pairs_front ChangeDifferentImports xs ys good.apart;
  }

  each : (lines : List PriceLine) → AreGoodPrices net lines → All IsPriceLine lines
  each lines good = good.each

  abbrev StopsAt : List (List ℕ) → ℕ → Type 0
  StopsAt pieces k = stops.StopsAt price_line IsPriceLine line_once (AreGoodPrices net) each prefix pieces k

  module _ (bytes : List ℕ) where
    bad_stops : (k : ℕ) → IsBadPriceLine net bytes k → StopsAt (pieces_of bytes) k
    bad_stops k b = stops.stops_at_piece price_line IsPriceLine line_once (AreGoodPrices net) each prefix (pieces_of bytes) k b.before b.prefix.spelled b.prefix.good b.piece b.prefix.present b.written b.wrong

    stops_at : (k : ℕ) (before : List PriceLine) (line : PriceLine) → IsPricePrefix net bytes k before (price_line line) → IsPriceLine line → (AreGoodPrices net (before ++ line ∷ []) → ⊥) → StopsAt (pieces_of bytes) k
    stops_at k before line f form bad = stops.stops_at_line price_line IsPriceLine line_once (AreGoodPrices net) each prefix (pieces_of bytes) k before f.spelled f.good line f.present (line_written line) form bad

    no_import_stops : (k : ℕ) → IsUnknownImport net bytes k → StopsAt (pieces_of bytes) k
    no_import_stops k n = stops_at k n.before n.line n.prefix n.form (λ good. n.unknown (All-contains (IsOfImport net) (n.before ++ n.line ∷ []) n.line good.known (Contains-push n.before n.line)))

    twice_stops : (k : ℕ) → IsTwicePrice net bytes k → StopsAt (pieces_of bytes) k
    twice_stops k t = stops_at k t.before t.line t.prefix t.form (λ good. t.twice good.apart)

    same_number : (l m j k : ℕ) → l ≡ j + 1 → m ≡ k + 1 → StopsAt (pieces_of bytes) j → StopsAt (pieces_of bytes) k → l ≡ m
    same_number = stops.same_number price_line IsPriceLine line_once (AreGoodPrices net) each prefix (pieces_of bytes)

    bad_not_spelled : (j k : ℕ) → IsBadPriceLine net bytes j → StopsAt (pieces_of bytes) k → (line : PriceLine) → slice_get (pieces_of bytes) k ≡ Some (price_line line) → IsPriceLine line → ⊥
    bad_not_spelled j k b t line present form =
        stops.not_spelled price_line IsPriceLine line_once (AreGoodPrices net) each prefix (pieces_of bytes) j k (bad_stops j b) t line present form b.piece b.prefix.present b.wrong

    bad_not_unknown : (j k : ℕ) → IsBadPriceLine net bytes j → IsUnknownImport net bytes k → ⊥
    bad_not_unknown j k b n = bad_not_spelled j k b (no_import_stops k n) n.line n.prefix.present n.form

    bad_not_twice : (j k : ℕ) → IsBadPriceLine net bytes j → IsTwicePrice net bytes k → ⊥
    bad_not_twice j k b t = bad_not_spelled j k b (twice_stops k t) t.line t.prefix.present t.form

    unknown_not_twice : (j k : ℕ) → IsUnknownImport net bytes j → IsTwicePrice net bytes k → ⊥
    unknown_not_twice j k n t =
        let line : t.line ≡ n.line =
        stops.one_line price_line IsPriceLine line_once (AreGoodPrices net) each prefix (pieces_of bytes) j k (no_import_stops j n) (twice_stops k t) t.line t.prefix.present t.form n.line n.prefix.present n.form in
        n.unknown (subst (IsOfImport net) line t.known)

    whole : (priced : Network) (k : ℕ) → IsPriced net bytes priced → StopsAt (pieces_of bytes) k → ⊥
    whole priced k is s = stops.no_stop price_line IsPriceLine line_once (AreGoodPrices net) each prefix (pieces_of bytes) is.lines k is.text.spelled is.text.good s

    same_net : (priced other : Network) → IsPriced net bytes priced → IsPriced net bytes other → priced ≡ other
    same_net priced other a b =
        let lines : a.lines ≡ b.lines = stops.same_lines price_line IsPriceLine line_once (pieces_of bytes) a.lines b.lines a.text.spelled b.text.spelled a.text.good.each b.text.good.each in
        a.is ∙ ap (priced_by net) lines ∙ sym b.is

    not_over : (priced other : Network) → priced ≡ other → unpinned_weight priced ≤ most_weight → most_weight < unpinned_weight other → ⊥
    not_over priced other e fits over = let same : unpinned_weight priced ≡ unpinned_weight other = ap unpinned_weight e in omega arith

    pub price_outcome_is_unique : (o p : Result Network PriceFault) → IsPriceOutcome net bytes o → IsPriceOutcome net bytes p → o ≡ p
    price_outcome_is_unique (Err Memory) p a b = absurd a
    price_outcome_is_unique o (Err Memory) a b = absurd b
    price_outcome_is_unique (Ok n) (Ok m) a b = ap Ok (same_net n m a.0 b.0)
    price_outcome_is_unique (Ok n) (Err (BadLine m)) a b = absurd (whole n b.0 a.0 (bad_stops b.0 b.2))
    price_outcome_is_unique (Ok n) (Err (NoSuchImport m)) a b = absurd (whole n b.0 a.0 (no_import_stops b.0 b.2))
    price_outcome_is_unique (Ok n) (Err (TwicePrice m)) a b = absurd (whole n b.0 a.0 (twice_stops b.0 b.2))
    price_outcome_is_unique (Ok n) (Err PriceOverflow) a b = absurd (not_over n b.priced (same_net n b.priced a.0 b.is_priced) a.1 b.over)
    price_outcome_is_unique (Err (BadLine l)) (Ok m) a b = absurd (whole m a.0 b.0 (bad_stops a.0 a.2))
    price_outcome_is_unique (Err (BadLine l)) (Err (BadLine m)) a b = rw (same_number l m a.0 b.0 a.1 b.1 (bad_stops a.0 a.2) (bad_stops b.0 b.2)) refl
    price_outcome_is_unique (Err (BadLine l)) (Err (NoSuchImport m)) a b = absurd (bad_not_unknown a.0 b.0 a.2 b.2)
    price_outcome_is_unique (Err (BadLine l)) (Err (TwicePrice m)) a b = absurd (bad_not_twice a.0 b.0 a.2 b.2)
    price_outcome_is_unique (Err (BadLine l)) (Err PriceOverflow) a b = absurd (whole b.priced a.0 b.is_priced (bad_stops a.0 a.2))
    price_outcome_is_unique (Err (NoSuchImport l)) (Ok m) a b = absurd (whole m a.0 b.0 (no_import_stops a.0 a.2))
    price_outcome_is_unique (Err (NoSuchImport l)) (Err (BadLine m)) a b = absurd (bad_not_unknown b.0 a.0 b.2 a.2)
    price_outcome_is_unique (Err (NoSuchImport l)) (Err (NoSuchImport m)) a b = rw (same_number l m a.0 b.0 a.1 b.1 (no_import_stops a.0 a.2) (no_import_stops b.0 b.2)) refl
    price_outcome_is_unique (Err (NoSuchImport l)) (Err (TwicePrice m)) a b = absurd (unknown_not_twice a.0 b.0 a.2 b.2)
    price_outcome_is_unique (Err (NoSuchImport l)) (Err PriceOverflow) a b = absurd (whole b.priced a.0 b.is_priced (no_import_stops a.0 a.2))
    price_outcome_is_unique (Err (TwicePrice l)) (Ok m) a b = absurd (whole m a.0 b.0 (twice_stops a.0 a.2))
    price_outcome_is_unique (Err (TwicePrice l)) (Err (BadLine m)) a b = absurd (bad_not_twice b.0 a.0 b.2 a.2)
    price_outcome_is_unique (Err (TwicePrice l)) (Err (NoSuchImport m)) a b = absurd (unknown_not_twice b.0 a.0 b.2 a.2)
    price_outcome_is_unique (Err (TwicePrice l)) (Err (TwicePrice m)) a b = rw (same_number l m a.0 b.0 a.1 b.1 (twice_stops a.0 a.2) (twice_stops b.0 b.2)) refl
    price_outcome_is_unique (Err (TwicePrice l)) (Err PriceOverflow) a b = absurd (whole b.priced a.0 b.is_priced (twice_stops a.0 a.2))
    price_outcome_is_unique (Err PriceOverflow) (Ok m) a b = absurd (not_over m a.priced (same_net m a.priced b.0 a.is_priced) b.1 a.over)
    price_outcome_is_unique (Err PriceOverflow) (Err (BadLine m)) a b = absurd (whole a.priced b.0 a.is_priced (bad_stops b.0 b.2))
    price_outcome_is_unique (Err PriceOverflow) (Err (NoSuchImport m)) a b = absurd (whole a.priced b.0 a.is_priced (no_import_stops b.0 b.2))
    price_outcome_is_unique (Err PriceOverflow) (Err (TwicePrice m)) a b = absurd (whole a.priced b.0 a.is_priced (twice_stops b.0 b.2))
    price_outcome_is_unique (Err PriceOverflow) (Err PriceOverflow) a b = refl

    -- an outcome that holds of the text is the returned one, unless an allocation failed
    pub only_said : (result : Result Network PriceFault) → HasOutcome result (IsPriceOutcome net bytes) →
        (o : Result Network PriceFault) → IsPriceOutcome net bytes o → HasOutcome result (λ p. p ≡ o)
    only_said (Err Memory) h o holds = tt
    only_said result h o holds = price_outcome_is_unique result o h holds
