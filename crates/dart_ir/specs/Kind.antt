-- The kinds of sites, as a report shows them.
use Rattle.std.specs.Prelude.{ℕ, List, codes}
use Rattle.dart_ir.specs.declared.kind.SiteKind.{SiteKind}
use Rattle.dart_ir.specs.declared.kind.SiteKind.TheVariants.{VarInit, Assign, FieldStore, FieldInit, Param, Return, Condition, NullCondition, Element, Bound, SwitchClass}

abbrev pub site_kind_text : SiteKind → List ℕ
site_kind_text VarInit = codes "VarInit"
site_kind_text Assign = codes "Assign"
site_kind_text FieldStore = codes "FieldStore"
site_kind_text FieldInit = codes "FieldInit"
site_kind_text Param = codes "Param"
site_kind_text Return = codes "Return"
site_kind_text Condition = codes "Condition"
site_kind_text NullCondition = codes "NullCondition"
site_kind_text Element = codes "Element"
site_kind_text Bound = codes "Bound"
site_kind_text SwitchClass = codes "SwitchClass"
