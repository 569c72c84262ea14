-- What aliases are written out as (ECMA-408, 19.3.1 Typedef).
use Rattle.std.specs.Prelude.{ℕ, zero, suc, nat_lt, List, [], ◌∷◌, length, map, Option, None, Some, true, false, if◌then◌else◌, bytes_eq, slice_get, unwrap_or, option_and_then, Bool, ◌==◌}
use Rattle.std.specs.List.{list_any, position_from}
use Rattle.std.specs.Option.{option_map, option_or}
use Rattle.dart_base.specs.declared.limit.TheConstants.{TYPE_NODES}
use Rattle.dart_ir.specs.Ty.{dynamic, bottom}
use Rattle.dart_tree.specs.Unit as u
use Rattle.translation.specs.Surroundings.{Text, Ty, Names}
use Rattle.translation.specs.Surroundings as m
use Rattle.translation.specs.Types.{AliasType, text_of, tys, fitting, function_type, result_type}
use Rattle.translation.specs.Walk.{State, unasked}
use Rattle.lower_leaf.specs.declared.meaning.Outer.{Outer}
use Rattle.lower_leaf.specs.Around.{Around}
use Rattle.lower_annotation.specs.Numbered.{Alias, library_outer}
use Rattle.lower_annotation.specs.Instance.{instance, node_count, has_bottom}

-- what types of declarations are read in: names mean what they do there, and type parameters may stand inside of this class
abbrev pub reading : Around → Outer → Option ℕ → State
reading a outer class = record {
  names = a.names outer;
  tables = a.tables;
  inside = record {
    class = class;
    arguments = None;
    has_instance = false;
    result = unasked;
    gives_value = true;
    in_handler = false;
  };
  scopes = [];
  targets = [];
  variables = 0;
  declarations = 0;
  sites = [];
  literals = [];
  functions = [];
  statics = [];
  has_constants = false;
}

-- ---- the type of an alias

abbrev pub items_of : Option u.TypeParameters → List u.TypeParameter
items_of None = []
items_of (Some x) = x.items

-- the type parameters of an alias
abbrev pub parameters_of : u.Alias → List Text
parameters_of x = map (λ (p : u.TypeParameter). text_of p.name) (items_of x.type_parameters)

-- A type parameter is the one that stands first under its name, and hides what is around.
abbrev pub with_parameters : List Text → Names → Names
with_parameters parameters around = record around {
  meaning = λ name. unwrap_or (option_map m.type_parameter (position_from (bytes_eq name) 0 parameters)) (around.meaning name);
}

-- where aliases stand for these types, and these type parameters are around
abbrev pub with_aliases : List Text → AliasType → Around → Around
with_aliases parameters aliases a = record a {
  names = λ (outer : Outer). with_parameters parameters (a.names outer);
  tables = record a.tables { alias_type = aliases };
}

-- the function type that is written in an alias, in which aliases stand for these types
abbrev pub alias_read : Around → AliasType → Alias → Ty
alias_read a aliases x =
    let st : State = reading (with_aliases (parameters_of x.written) aliases a) (library_outer x.library) (Some 0) in
    function_type st (result_type st x.written.result_type) x.written.parameters

-- ---- aliases that are written out

-- an alias: how many type parameters it has, and what it is written out as, once it is
pub record Entry : Type 0 where
  pub parameters : ℕ
  pub of : Option Ty

-- a type that is too large is malformed, and counts as dynamic
abbrev pub within_limit : Ty → Ty
within_limit of = if nat_lt TYPE_NODES (node_count of) then dynamic else of

-- with type arguments put in, which count as omitted where they are of a wrong number
abbrev pub put_in : List Ty → Entry → Option Ty
put_in given x = option_map (λ of. within_limit (instance (tys (fitting x.parameters given)) of)) x.of

-- the alias of a number, where that says which of these it is
abbrev pub alias_in : (ℕ → Option ℕ) → List Entry → ℕ → List Ty → Option Ty
alias_in place all n given = option_and_then (put_in given) (option_and_then (slice_get all) (place n))

-- While aliases are written out, one that isn't written out yet stands for the type of null, which nothing that is written asks for; and
-- so does one that is given such a type.
abbrev pub waiting_type : (ℕ → Option ℕ) → List Entry → AliasType
waiting_type place all n given = if list_any has_bottom given then bottom else unwrap_or (alias_in place all n given) bottom

-- Behind that, one that isn't is malformed, and counts as dynamic.
abbrev pub final_type : (ℕ → Option ℕ) → List Entry → AliasType
final_type place all n given = unwrap_or (alias_in place all n given) dynamic

-- ---- in rounds

-- what is written out, if all that is named in it was
abbrev pub settled : Ty → Option Ty
settled of = if has_bottom of then None else Some of

-- an alias that isn't written out yet is where it waits for no other
abbrev pub next_written : Around → (ℕ → Option ℕ) → List Entry → Alias → Entry → Entry
next_written a place entries x before = record {
  parameters = before.parameters;
  of = option_or before.of (settled (alias_read a (waiting_type place entries) x));
}

-- an alias that doesn't wait yet does where it names one that waits
abbrev pub next_waiting : Around → (ℕ → Option ℕ) → List Entry → Alias → Entry → Entry
next_waiting a place entries x before = record {
  parameters = before.parameters;
  of = if has_bottom (alias_read a (waiting_type place entries) x) then None else before.of;
}

abbrev pub next_entry : Bool → Around → (ℕ → Option ℕ) → List Entry → Alias → Entry → Entry
next_entry true a place entries x before = next_written a place entries x before
next_entry false a place entries x before = next_waiting a place entries x before

abbrev pub with_each : (Alias → Entry → Entry) → List Alias → List Entry → List Entry
with_each next (x ∷ xs) (e ∷ es) = next x e ∷ with_each next xs es
with_each next _ _ = []

-- a round in which aliases are written out, or in which they begin to wait
abbrev pub round : Bool → Around → (ℕ → Option ℕ) → List Alias → List Entry → List Entry
round writes a place all entries = with_each (next_entry writes a place entries) all entries

abbrev pub rounds : Bool → Around → (ℕ → Option ℕ) → List Alias → ℕ → List Entry → List Entry
rounds writes a place all zero entries = entries
rounds writes a place all (suc k) entries = rounds writes a place all k (round writes a place all entries)

-- where each alias waits, or that of one number alone
abbrev pub first_of : ℕ → Option ℕ → Option Ty
first_of number None = None
first_of number (Some n) = if number == n then None else Some dynamic

abbrev pub first_entry : Option ℕ → Alias → Entry
first_entry waits x = record { parameters = length (parameters_of x.written); of = first_of x.number waits }

-- An alias names itself, or others that lead to it, where it names one that waits once those wait that lead to it.
abbrev pub names_itself : Around → (ℕ → Option ℕ) → List Alias → Alias → Bool
names_itself a place all x =
    has_bottom (alias_read a (waiting_type place (rounds false a place all (length all) (map (first_entry (Some x.number)) all))) x)

-- such an alias is malformed
abbrev pub dynamic_if : Bool → Option Ty
dynamic_if true = Some dynamic
dynamic_if false = None

abbrev pub unwound : Around → (ℕ → Option ℕ) → List Alias → Alias → Entry → Entry
unwound a place all x before = record {
  parameters = before.parameters;
  of = option_or before.of (dynamic_if (names_itself a place all x));
}

-- In as many rounds as there are aliases each is written out that doesn't lead to one that names itself; and the others are in as many
-- more, once those that name themselves count as dynamic.
abbrev pub written_out : Around → (ℕ → Option ℕ) → List Alias → List Entry
written_out a place all = rounds true a place all (length all)
    (with_each (unwound a place all) all (rounds true a place all (length all) (map (first_entry None) all)))
