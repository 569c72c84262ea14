-- What contracts see of what is made.
use Rattle.std.specs.Prelude.{ℕ, List, map, take, Option, None, Some, Bool, true, false, nat_eq, slice_get, option_and_then, [], ◌∷◌, ◌&&◌, not}
use Rattle.std.specs.Option.{is_some}
use Rattle.std.specs.Borrow.{Bor}
use Rattle.std.specs.HashMap.{get}
use Rattle.dart_ir.specs.declared.types.TypeRef.{TypeRef}
use Rattle.dart_tree.specs.UnitView as unit_view
use Rattle.dart_tree.specs.View as view
use Rattle.dart_tree.specs.declared.declaration.TypeParameter.{TypeParameter}
use Rattle.translation.specs.Surroundings.{Text, Ty}
use Rattle.translation.specs.Types.{AliasType, text_of}
use Rattle.lower_leaf.specs.declared.meaning.Outer.{Outer}
use Rattle.lower_leaf.specs.Around.{Around, option_type}
use Rattle.lower_annotation.specs.Numbered as d
use Rattle.lower_annotation.specs.Written as w
use Rattle.lower_annotation.specs.Written.{with_parameters}
use Rattle.lower_annotation.specs.declared.place.Places.{Places}
use Rattle.lower_annotation.specs.declared.declaration.Placed.{Placed}
use Rattle.lower_annotation.specs.declared.variable.OuterVariable.{OuterVariable}
use Rattle.lower_annotation.specs.declared.variable.Variables.{Variables}
use Rattle.lower_annotation.specs.declared.alias.Alias.{Alias}
use Rattle.lower_annotation.specs.declared.entry.Entry.{Entry}
use Rattle.lower_annotation.specs.declared.annotations.Annotations.{Annotations}

abbrev pub place_at : Places → ℕ → Option ℕ
place_at x n = get nat_eq x.places n

abbrev pub placed : Placed → d.Placed
placed x = record { library = x.library; kind = unit_view.decl_kind x.kind.now }

abbrev pub variable : OuterVariable → d.OuterVariable
variable x = record { number = x.number; outer = x.outer; kind = view.variable_kind x.kind.now }

abbrev pub alias : Alias → d.Alias
alias x = record { number = x.number; library = x.library; written = unit_view.alias x.written.now }

abbrev pub entry : Around → Entry → w.Entry
entry a x = record { parameters = x.parameters; of = option_type a x.of }

abbrev pub entries : Around → List Entry → List w.Entry
entries a xs = map (entry a) xs

abbrev pub is_same : Bool → Bool → Bool
is_same true y = y
is_same false y = not y

-- whether the same aliases are written out in both
abbrev pub alike : List Entry → List Entry → Bool
alike [] ys = true
alike (x ∷ xs) [] = true
alike (x ∷ xs) (y ∷ ys) = is_same (is_some x.of) (is_some y.of) && alike xs ys

-- the texts of type parameters
abbrev pub texts : List TypeParameter → List Text
texts xs = map (λ (p : TypeParameter). text_of p.name) xs

abbrev pub optional : Around → Option TypeRef → Option Ty
optional a of = option_type a of

-- what the variable of a number is asked for, by what is found of each
abbrev pub types_in : Around → Variables → ℕ → Option Ty
types_in a x n = option_and_then (optional a) (option_and_then (slice_get x.types.items) (place_at x.places n))

abbrev pub aliases_in : Around → Bool → Places → List Entry → AliasType
aliases_in a true places xs = w.waiting_type (place_at places) (entries a xs)
aliases_in a false places xs = w.final_type (place_at places) (entries a xs)

-- the types of variables, if they are known
abbrev pub types_or : Around → Option (Bor Variables) → ℕ → Option Ty
types_or a None = a.tables.variable_type
types_or a (Some x) = types_in a x.now

-- what types are looked up in, where the first of these type parameters are around
abbrev pub around_seen : Around → ℕ → List TypeParameter → Bool → Places → List Entry → Option (Bor Variables) → Around
around_seen a count parameters waits places xs variables = record a {
  names = λ (outer : Outer). with_parameters (texts (take count parameters)) (a.names outer);
  tables = record a.tables { alias_type = aliases_in a waits places xs; variable_type = types_or a variables };
}

-- what a program is translated in
abbrev pub annotations_seen : Around → Annotations → Around
annotations_seen a x = record a {
  tables = record a.tables {
    alias_type = w.final_type (place_at x.aliases) (entries a x.entries.items);
    variable_type = types_in a x.variables;
  };
}
