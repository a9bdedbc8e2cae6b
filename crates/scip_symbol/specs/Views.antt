-- The models of symbols: contracts describe a symbol by its model, in which strings are lists of bytes.
use Rattle.std.specs.Prelude.{List, map}
use Rattle.std.specs.String.{string_bytes}
use Rattle.scip_symbol.specs.declared.descriptor.Descriptor.{Descriptor}
use Rattle.scip_symbol.specs.declared.symbol.Symbol.{Symbol}
use Rattle.scip_symbol.specs.declared.symbol.Symbol.TheVariants as symbols
use Rattle.scip_symbol.specs.SymbolTexts.{DescriptorModel, SymbolModel, Local, Global}

-- the model of a descriptor, by which contracts describe it
abbrev pub descriptor_model : Descriptor → DescriptorModel
descriptor_model d = record { kind = d.kind; name = string_bytes d.name; disambiguator = string_bytes d.disambiguator }

-- the models of descriptors, in order
abbrev pub descriptor_models : List Descriptor → List DescriptorModel
descriptor_models ds = map descriptor_model ds

-- the model of a symbol, by which contracts describe it
abbrev pub symbol_model : Symbol → SymbolModel
symbol_model (symbols.Local id) = Local (string_bytes id)
symbol_model (symbols.Global scheme manager package_name version descriptors) =
    Global (string_bytes scheme) (string_bytes manager) (string_bytes package_name) (string_bytes version) (descriptor_models descriptors.items)
