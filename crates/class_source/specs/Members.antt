-- The instance members and fields that a class declares, and what else of its members headers ask for (ECMA-408, 10.1 Instance Methods
-- to 10.6 Constructors). Signatures are those that translation gives the functions.
use Rattle.std.specs.Prelude.{ℕ, List, [], ◌∷◌, flat_map, length, Option, None, Bool, true, false, ◌||◌, if◌then◌else◌}
use Rattle.std.specs.List.{list_any}
use Rattle.std.specs.Option.{is_some}
use Rattle.dart_base.specs.declared.place.Place.{Place}
use Rattle.dart_token.specs.declared.token.Token.{Token}
use Rattle.dart_token.specs.declared.token.TokenKind.{TokenKind}
use Rattle.dart_token.specs.declared.token.TokenKind.TheVariants as tk
use Rattle.dart_token.specs.declared.word.Word.TheVariants as w
use Rattle.dart_tree.specs.Tree as t
use Rattle.dart_tree.specs.Unit as u
use Rattle.dart_tree.specs.UnitTokens.{member_tokens}
use Rattle.dart_erase.specs.UnitErased as erased
use Rattle.dart_ir.specs.declared.class.Role.{Role}
use Rattle.dart_ir.specs.declared.class.Role.TheVariants.{Method, Getter, Setter}
use Rattle.translation.specs.Surroundings.{Ty, name_in}
use Rattle.translation.specs.Walk.{Asked, State}
use Rattle.translation.specs.Types.{PlacedName, word_of, asked_of_kind, is_final, result_type, function_type}
use Rattle.translation.specs.Declarations.{Declared, function_declared, accessor_declared}
use Rattle.translation.specs.Classes.{is_static, external_of, operator_declared}
use Rattle.translation.specs.ClassBodies.{getter_type, setter_type, is_constructor}
use Rattle.class_source.specs.Rows.{Member}

-- ---- methods and accessors

abbrev pub is_written : t.Body → Bool
is_written (t.no_body semicolon) = false
is_written body = true

-- the number of the declaration whose name stands at a place
abbrev pub Numbers : Type 0
Numbers = Place → ℕ

-- An external member counts as one with a body.
abbrev pub function_member : Numbers → State → Role → Declared → Member
function_member number st role x = record {
  name = name_in st.names.library x.name.text;
  role = role;
  function = number x.name.place;
  signature = function_type st (result_type st x.result) x.parameters;
  place = x.name.place;
  has_body = is_some x.external || is_written x.body;
}

abbrev pub accessor_role : u.AccessorKind → Role
accessor_role (u.getter place name) = Getter
accessor_role (u.setter place name parameters) = Setter

-- ---- fields: each induces a getter, and where it isn't final a setter (10.5 Instance Variables)

abbrev pub induced : Numbers → State → PlacedName → Role → Ty → Member
induced number st name role signature = record {
  name = name_in st.names.library name.text;
  role = role;
  function = number name.place;
  signature = signature;
  place = name.place;
  has_body = true;
}

abbrev pub setter_of : Numbers → State → Bool → Asked → PlacedName → List Member
setter_of number st true asked name = []
setter_of number st false asked name = induced number st name Setter (setter_type asked) ∷ []

abbrev pub field_members : Numbers → State → Bool → Asked → PlacedName → List Member
field_members number st final_one asked name =
    induced number st name Getter (getter_type asked) ∷ setter_of number st final_one asked name

abbrev pub more_words : t.MoreVariables → List PlacedName
more_words t.no_variables = []
more_words (t.variable comma name value rest) = word_of name ∷ more_words rest

-- the names that variables declare
abbrev pub variable_words : t.Variables → List PlacedName
variable_words (t.the_variables kind name value more semicolon) = word_of name ∷ more_words more

abbrev pub variable_members : Numbers → State → t.Variables → List Member
variable_members number st (t.the_variables kind name value more semicolon) =
    flat_map (field_members number st (is_final kind) (asked_of_kind st kind)) (word_of name ∷ more_words more)

-- ---- all members

-- what a member that isn't static declares; constructors are no members
abbrev pub declared_by : Numbers → State → u.MemberKind → List Member
declared_by number st (u.constructor_member x) = []
declared_by number st (u.function_member x) = function_member number st Method (function_declared x) ∷ []
declared_by number st (u.accessor_member x) = function_member number st (accessor_role x.kind) (accessor_declared x) ∷ []
declared_by number st (u.variables_member x) = variable_members number st x
declared_by number st (u.operator_member x) = function_member number st Method (operator_declared x) ∷ []

abbrev pub instance_members : Numbers → State → u.Member → List Member
instance_members number st x = if is_static x.modifier then [] else declared_by number st x.kind

abbrev pub field_words : Bool → u.MemberKind → List PlacedName
field_words false (u.variables_member x) = variable_words x
field_words other x = []

abbrev pub fields_of_member : u.Member → List PlacedName
fields_of_member x = field_words (is_static x.modifier) x.kind

abbrev pub field_count : List u.Member → ℕ
field_count xs = length (flat_map fields_of_member xs)

-- ---- what headers ask for

abbrev pub constructor_external : u.Constructor → Option Place
constructor_external (u.generative constant name parameters initializers body) = None
constructor_external (u.redirecting name parameters colon this constructor arguments semicolon) = None
constructor_external (u.factory external word name parameters body) = external
constructor_external (u.redirecting_factory external word name parameters equals class constructor semicolon) = external

abbrev pub written_external : u.MemberKind → Option Place
written_external (u.constructor_member x) = constructor_external x
written_external (u.function_member x) = (function_declared x).external
written_external (u.accessor_member x) = x.external
written_external (u.variables_member x) = None
written_external (u.operator_member x) = x.external

-- Static members and constructors count as well.
abbrev pub is_external_member : u.Member → Bool
is_external_member x = is_some (external_of x.modifier (written_external x.kind))

abbrev pub is_constructor_member : u.Member → Bool
is_constructor_member x = is_constructor x.kind

abbrev pub is_super : TokenKind → Bool
is_super (tk.Word w.Super) = true
is_super other = false

-- Whether the word `super` stands among its tokens without annotations: what stands in the parameters of a parameter is never evaluated.
abbrev pub names_super : u.Member → Bool
names_super x = list_any (λ (token : Token). is_super token.kind) (member_tokens (erased.member x))
