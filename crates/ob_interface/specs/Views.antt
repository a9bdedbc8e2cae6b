-- The values of the types that an interface returns.
use Rattle.ob_interface.specs.declared.views.TypeName.{TypeName as TypeNameValue}
use Rattle.ob_interface.specs.declared.views.TypeName.TheVariants as names
use Rattle.ob_interface.specs.declared.views.Part.{Part as PartValue}
use Rattle.ob_interface.specs.declared.views.Part.TheVariants as parts
use Rattle.ob_interface.specs.declared.views.Declaration.{Declaration as DeclarationValue}
use Rattle.ob_interface.specs.Interfaces.{TypeName, Simple, Qualified, Part, Array, Pointer, Record, Procedure, Named, Declaration, Base}
use Rattle.ob_interface.specs.declared.views.Base.{Base as BaseValue}

abbrev pub name_value : TypeNameValue → TypeName
name_value (names.Simple a) = Simple a.now
name_value (names.Qualified a b) = Qualified a.now b.now

abbrev pub part_value : PartValue → Part
part_value parts.Array = Array
part_value parts.Pointer = Pointer
part_value (parts.Record k) = Record k
part_value parts.Procedure = Procedure
part_value (parts.Named start n) = Named start (name_value n)

abbrev pub declaration_value : DeclarationValue → Declaration
declaration_value d = record { name = d.name.now; start = d.start; decl_kind = d.decl_kind; exported = d.exported; of_record = d.«record»; declared_by = d.declared_by; type_expr = d.type_expr }

abbrev pub base_value : BaseValue → Base
base_value b = record { of_record = b.«record»; start = b.start; name = name_value b.name }
