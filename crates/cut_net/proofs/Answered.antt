-- The network of a text.
use Rattle.std.proofs.Common.{◌≡◌, ℕ, ◌^◌, ◌<◌, ◌≤◌, true, List, length, get_or, inl, inr, subst}
use Rattle.std.proofs.lemmas.List.Elements.{All-contains, Contains-get_or}
use Rattle.texts.specs.Fields.{is_name}
use Rattle.cut_net.specs.Network.{Network}
use Rattle.cut_net.specs.NetText.{NetLine, Module, Import, IsNetLine, IsNetOf, Mentions, NetText}
use Rattle.cut_net.specs.NetReading.{HasLines, HasTextLines}
use Rattle.cut_net.specs.WellFormed.{AreBetween, IsAcyclic, IsNetwork, total_weight}
use Rattle.cut_net.specs.declared.priced.Priced.{Priced}
use Rattle.cut_net.specs.declared.builder.NetBuilder.{NetBuilder}
use Rattle.cut_net.proofs.Fronts.{good_lines}

pub net_text : (bytes : List ℕ) (builder : NetBuilder) (net : Network) → HasTextLines bytes builder → ((lines : List NetLine) → HasLines lines builder → IsNetOf lines net) → NetText bytes net
net_text bytes builder net (lines, spelled, h) is = record { lines = lines; spelled = spelled; good = good_lines lines _ _ h; is_net = is lines h }

named_by : (name : List ℕ) (line : NetLine) → Mentions name line → IsNetLine line → is_name name ≡ true
named_by name (Module m) same good = subst (λ (t : List ℕ). is_name t ≡ true) same good
named_by name (Import m n w) has good =
    elim has [
      | inl same ↦ subst (λ (t : List ℕ). is_name t ≡ true) same good.0
      | inr same ↦ subst (λ (t : List ℕ). is_name t ≡ true) same good.1
    ]

pub keeps_all : (bytes : List ℕ) (net : Network) → NetText bytes net → length net.names ≤ 8192 → length net.imports ≤ 65536 → total_weight net < 2 ^ 64 → IsAcyclic net.imports → IsNetwork net
keeps_all bytes net text few_names few_imports fits acyclic = record {
  named = λ k d within. let name = get_or net.names k d in
      let (line, present, has) = (text.is_net.named name).0 (Contains-get_or net.names k d within) in
      named_by name line has (All-contains IsNetLine text.lines line text.good.each present);
  names_ascend = text.is_net.names_ascend;
  few_names = few_names;
  between = text.is_net.between;
  imports_ascend = text.is_net.imports_ascend;
  few_imports = few_imports;
  fits = fits;
  acyclic = acyclic;
}

pub between_as : (imports : List Priced) (a b : ℕ) → a ≡ b → AreBetween imports a → AreBetween imports b
between_as imports a b e h = subst (AreBetween imports) e h
