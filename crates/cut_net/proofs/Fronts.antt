-- The lines of a network's text so far, and the error of the next piece.
use Rattle.std.proofs.Common.{◌≡◌, ℕ, ◌+◌, ◌≤◌, List, length, take, Option, Some, Err, sym, ap, ◌∙◌, arith}
use Rattle.std.specs.Prelude.{slice_get, count_by}
use Rattle.std.proofs.lemmas.List.Sums.{length-filter}
use Rattle.std.proofs.lemmas.List.{length-map}
use Rattle.cut_net.specs.NetText.{NetLine, is_import, pieces_of, AreValidLines, IsNetOutcome, Spell, UnlessMemory}
use Rattle.cut_net.specs.NetReading.{entry_line, net_fault_in_line, AreTablesOf, HasLines, TakesPiece}
use Rattle.cut_net.specs.declared.builder.NetBuilder.{NetBuilder}
use Rattle.cut_net.specs.declared.builder.NetLineFault.{NetLineFault}
use Rattle.cut_net.specs.declared.builder.NetLineFault.TheVariants as fault

pub good_lines : (lines : List NetLine) (names : List (List ℕ)) (es : List ((ℕ × ℕ) × ℕ)) → AreTablesOf lines names es → AreValidLines lines
good_lines lines names es h =
    let a = length-filter is_import lines in
    let b = ap length h.listed in
    let c = length-map es (entry_line names) in
    let few = h.few_imports in
    let count : count_by is_import lines ≤ 65536 = omega arith in
    record {
      each = h.each;
      apart = h.apart;
      few = record { names = names; are_names = h.are_names; few_names = h.few_names; few_imports = count };
    }

pub fault_is : (bytes : List ℕ) (k number : ℕ) (before : List NetLine) (piece : List ℕ) (e : NetLineFault) (old new : NetBuilder) → number ≡ k + 1 → Spell (take k (pieces_of bytes)) before → HasLines before old
    → slice_get (pieces_of bytes) k ≡ Some piece → TakesPiece before piece (Err e) new
    → UnlessMemory (net_fault_in_line number e) (λ refusal. IsNetOutcome bytes (Err refusal))
fault_is bytes k number before piece fault.BadLine old new next spelled h present t = (
  k,
  next,
  record {
    before = before;
    piece = piece;
    prefix = record { spelled = spelled; good = good_lines before _ _ h; present = present };
    written = t.0;
    wrong = t.1;
  },
)
fault_is bytes k number before piece fault.TwiceImport old new next spelled h present (line, e, good, twice) = (
  k,
  next,
  record {
    before = before;
    line = line;
    prefix = record { spelled = spelled; good = good_lines before _ _ h; present = present ∙ ap some (sym e) };
    form = good;
    twice = twice;
  },
)
  where
    some : List ℕ → Option (List ℕ)
    some x = Some x
fault_is bytes k number before piece fault.TooMany old new next spelled h present (line, e, good, more) = (
  k,
  next,
  record {
    before = before;
    line = line;
    prefix = record { spelled = spelled; good = good_lines before _ _ h; present = present ∙ ap some (sym e) };
    form = good;
    apart = more.apart;
    many = more.many;
  },
)
  where
    some : List ℕ → Option (List ℕ)
    some x = Some x
fault_is bytes k number before piece fault.Memory old new next spelled h present t = tt
