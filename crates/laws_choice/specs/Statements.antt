-- What is asked of the grammar where the readers of declarations and units are proved to meet their phrases, at every depth.
use Rattle.std.specs.Prelude.{ℕ}
use Rattle.laws_unit.specs.Statements.{AliasesApartAt, TypesGoAt, CallChoiceAt, CallableApartAt, MetadataGrowsAt}

-- types go on behind names (ECMA-408, 19.1 Static Types)
abbrev pub TypesGo : Type 0
TypesGo = (n : ℕ) → TypesGoAt n

-- metadata grow with the depth (15 Metadata)
abbrev pub MetadataGrows : Type 0
MetadataGrows = (n : ℕ) → MetadataGrowsAt n

-- no list of tokens leaves a choice between an alias with a result and one without (19.3.1 Typedef)
abbrev pub AliasesApart : Type 0
AliasesApart = (n : ℕ) → AliasesApartAt n

-- nor between a function and an accessor (9 Functions, 10.2 Getters, 10.3 Setters)
abbrev pub CallChoice : Type 0
CallChoice = (n : ℕ) → CallChoiceAt n

-- nor between one of these and variables (8 Variables)
abbrev pub CallablesApart : Type 0
CallablesApart = (n : ℕ) → CallableApartAt n
