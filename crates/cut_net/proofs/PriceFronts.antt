-- The lines of a prices file so far, and the error of the next piece.
use Rattle.std.proofs.Common.{◌≡◌, ℕ, ◌+◌, List, take, Option, Some, Err, sym, ap, ◌∙◌}
use Rattle.std.specs.Prelude.{slice_get}
use Rattle.texts.proofs.FieldCuts.{some}
use Rattle.cut_net.specs.declared.price_fault.PriceLineFault.{PriceLineFault}
use Rattle.cut_net.specs.declared.price_fault.PriceLineFault.TheVariants as fault
use Rattle.cut_net.specs.declared.pin_state.Change.{Change}
use Rattle.cut_net.specs.Network.{Network}
use Rattle.cut_net.specs.NetText.{pieces_of}
use Rattle.cut_net.specs.Prices.{PriceLine, AreGoodPrices, IsPriceOutcome, SpellPrices, UnlessMemory}
use Rattle.cut_net.specs.PriceReading.{TakesPricePiece, price_fault_in_line}

pub fault_is : (net : Network) (bytes : List ℕ) (k number : ℕ) (before : List PriceLine) (piece : List ℕ) (e : PriceLineFault) (changes : List (Option Change)) → number ≡ k + 1 → SpellPrices (take k (pieces_of bytes)) before → AreGoodPrices net before
    → slice_get (pieces_of bytes) k ≡ Some piece → TakesPricePiece net before piece (Err e) changes
    → UnlessMemory (price_fault_in_line number e) (IsPriceOutcome net bytes (Err (price_fault_in_line number e)))
fault_is net bytes k number before piece fault.BadLine changes next spelled good present t = (
  k,
  next,
  record {
    before = before;
    piece = piece;
    prefix = record { spelled = spelled; good = good; present = present };
    written = t.0;
    wrong = t.1;
  },
)
fault_is net bytes k number before piece fault.NoSuchImport changes next spelled good present (line, e, form, unknown) = (
  k,
  next,
  record {
    before = before;
    line = line;
    prefix = record { spelled = spelled; good = good; present = present ∙ ap some (sym e) };
    form = form;
    unknown = unknown;
  },
)
fault_is net bytes k number before piece fault.TwicePrice changes next spelled good present (line, e, form, known, twice) = (
  k,
  next,
  record {
    before = before;
    line = line;
    prefix = record { spelled = spelled; good = good; present = present ∙ ap some (sym e) };
    form = form;
    known = known;
    twice = twice;
  },
)
