-- The core of a program (ECMA-408, 18 Libraries and Scripts): its units in order, and then what is added to its classes.
use Rattle.std.specs.Prelude.{ℕ, List, [], ◌∷◌, ◌++◌, map, nat_eq, Option, None, Some, Bool, true, false, if◌then◌else◌}
use Rattle.std.specs.List.{range_with_len}
use Rattle.std.specs.Option.{option_or}
use Rattle.dart_base.specs.declared.place.Place.{Place}
use Rattle.dart_tree.specs.Unit as u
use Rattle.dart_ir.specs.Ty.{dynamic}
use Rattle.core_program.specs.declared.program.FunctionKind.TheVariants.{Absent}
use Rattle.core_program.specs.Core as c
use Rattle.core_program.specs.Program as p
use Rattle.translation.specs.Surroundings.{Text, Names, Tables}
use Rattle.translation.specs.Walk.{Reason, left_out, not_constant, bad_label, bad_constructor, bad_switch, bad_word, too_large, unasked, Made, State, Went, Walk, went, refused, on}
use Rattle.translation.specs.Functions as f
use Rattle.translation.specs.Declarations as d
use Rattle.translation.specs.ClassBodies as b
use Rattle.translation.specs.Applications.{added}
use Rattle.translation.specs.MemberNames as member_names

-- ---- declarations

abbrev pub no_class : Walk ℕ → Walk (List b.ClassMade)
no_class walk st = on (walk st) (λ n st. went [] st)

abbrev pub alias_declared : u.Alias → Walk ℕ
alias_declared x st = on (f.numbered st) (λ n st. b.parameters_kept x.type_parameters st)

abbrev pub enum_declared : Walk ℕ
enum_declared st = f.numbered (record st { has_constants = true })

abbrev pub declaration : u.DeclKind → Walk (List b.ClassMade)
declaration (u.class_decl x) st = on (b.class_declared x st) (λ made st. went (made ∷ []) st)
declaration (u.alias_decl x) st = no_class (alias_declared x) st
declaration (u.function_decl x) st = no_class (d.declared_function d.static_standing (d.function_declared x)) st
declaration (u.accessor_decl x) st = no_class (d.declared_function d.static_standing (d.accessor_declared x)) st
declaration (u.variables_decl x) st = no_class (d.variables_declared x) st
declaration (u.enum_decl x) st = no_class enum_declared st

abbrev pub declarations : List u.Decl → Walk (List b.ClassMade)
declarations [] st = went [] st
declarations (x ∷ xs) st = on (declaration x.kind st)
    (λ made st. on (declarations xs st) (λ more st. went (made ++ more) st))

-- ---- units

-- the declarations of a unit, with what the names of its library mean
pub record SourceUnit : Type 0 where
  pub names : Names
  pub declarations : List u.Decl

abbrev pub units : List SourceUnit → Walk (List b.ClassMade)
units [] st = went [] st
units (x ∷ xs) st = on (declarations x.declarations (record st { names = x.names }))
    (λ made st. on (units xs st) (λ more st. went (made ++ more) st))

-- ---- programs

-- what is translated: the units, and the table of their classes
pub record Given : Type 0 where
  pub units : List SourceUnit
  pub first_names : Names
  pub tables : Tables
  pub files : List Text
  pub classes : List (p.Class Text)
  pub members : List (p.Member Text)
  pub function_class : ℕ
  pub main : ℕ

abbrev pub start : Given → State
start given = record {
  names = given.first_names;
  tables = given.tables;
  inside = record {
    class = None;
    arguments = None;
    has_instance = false;
    result = unasked;
    gives_value = true;
    in_handler = false;
  };
  scopes = [];
  targets = [];
  variables = 0;
  declarations = 0;
  sites = [];
  literals = [];
  functions = [];
  statics = [];
  has_constants = false;
}

-- what is no function, and what is no variable
abbrev pub no_function : p.Function Text
no_function = record {
  name = [];
  kind = Absent;
  class = None;
  parameters = [];
  vars = 0;
  cells = [];
  captures = [];
  signature = dynamic;
  body = c.missing;
}

abbrev pub no_static : p.Static Text
no_static = record { name = []; vars = 0; cells = []; init = c.missing; is_final = false }

-- by the number of the declaration
abbrev pub made_as : {A : Type 0} → A → List (Made A) → ℕ → A
made_as otherwise [] n = otherwise
made_as otherwise (x ∷ xs) n = if nat_eq x.number n then x.made else made_as otherwise xs n

abbrev pub table : {A : Type 0} → A → List (Made A) → ℕ → List A
table otherwise made count = map (made_as otherwise made) (range_with_len 0 count)

abbrev pub program : Given → State → p.Program Text
program given st = record {
  units = given.files;
  classes = given.classes;
  members = given.members;
  function_class = given.function_class;
  functions = table no_function st.functions st.declarations;
  statics = table no_static st.statics st.declarations;
  sites = st.sites;
  literals = st.literals;
  constants = [];
  main = given.main;
}

-- the core of a program, the first reason for which it has none, or that it has constants, whose cores are left open here
pub data Answer : Type 0 where
  accepted : p.Program Text → Answer
  rejected : Reason → Answer
  not_built : Answer

abbrev pub built : Bool → p.Program Text → Answer
built true made = not_built
built false made = accepted made

abbrev pub answer : Given → Went ℕ → Answer
answer given (went n st) = built st.has_constants (program given st)
answer given (refused reason) = rejected reason

abbrev pub walk : Given → Walk ℕ
walk given st = on (units given.units st) (λ made st. added 0 given.classes made [] st)

abbrev pub place_of : Reason → Place
place_of (left_out place feature) = place
place_of (not_constant place) = place
place_of (bad_label place) = place
place_of (bad_constructor place) = place
place_of (bad_switch place) = place
place_of (bad_word place) = place
place_of (too_large place) = place

abbrev pub named_as_class : List SourceUnit → Option Place
named_as_class [] = None
named_as_class (x ∷ xs) = option_or (member_names.of_declarations x.declarations) (named_as_class xs)

abbrev pub earlier : Place → Answer → Answer
earlier place (rejected why) = rejected (if member_names.is_before (place_of why) place then why else bad_constructor place)
earlier place other = rejected (bad_constructor place)

-- refused at that place, unless there is a reason before it
abbrev pub refused_at : Option Place → Answer → Answer
refused_at None answer = answer
refused_at (Some place) answer = earlier place answer

abbrev pub core : Given → Answer
core given = refused_at (named_as_class given.units) (answer given (walk given (start given)))
