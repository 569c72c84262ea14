-- What contracts see of the parts of type parameters, aliases, members and classes, and their readers by the number of nodes
-- above one another.
use Rattle.std.specs.Prelude.{ℕ, max, Bool, true, false, List, [], ◌∷◌, map, Option, Some, None}
use Rattle.std.specs.Global.{Vec}
use Rattle.dart_base.specs.declared.place.Place.{Place}
use Rattle.dart_token.specs.declared.sign.Sign.TheVariants as s
use Rattle.dart_token.specs.declared.token.Token.{Token}
use Rattle.dart_token.specs.declared.word.Word.TheVariants as w
use Rattle.dart_tree.specs.declared.declaration.Member.{Member}
use Rattle.dart_tree.specs.declared.declaration.TypeParameter.{TypeParameter}
use Rattle.dart_tree.specs.declared.identifier.Identifier.{Identifier}
use Rattle.dart_tree.specs.Depth as height
use Rattle.dart_tree.specs.Tree as t
use Rattle.dart_tree.specs.Types as y
use Rattle.dart_tree.specs.Unit as u
use Rattle.dart_tree.specs.UnitView as view
use Rattle.dart_syntax.specs.Declarations.{to_type_parameters, ClassHeader}
use Rattle.grammar_laws.specs.Readers.{Reader, always, mapped, option, many, separated}
use Rattle.parse_class.specs.declared.class.ClassHeader as declared_header
use Rattle.parse_class.specs.declared.type_parameter.BareTypeParameter.{BareTypeParameter}
use Rattle.parse_nest.specs.Stages.{exprs_at}
use Rattle.parse_parameter.specs.Views.{metadata_of}
use Rattle.syntax_readers.specs.Combinators.{◌~◌, made₃, always_gives}
use Rattle.syntax_readers.specs.Declarations.{bound, member_first, member}
use Rattle.syntax_readers.specs.Parameters.{metadata}
use Rattle.syntax_readers.specs.Types.{result}
use Rattle.token_codes.specs.Codes.{class_of, sign_code, word_code, these, this_word}
use Rattle.token_codes.specs.Leaves.{sign, plain_identifier}

-- ---- what comes

-- metadata, and the words that stand before what a member declares
abbrev pub modifier_first : List ℕ
modifier_first = sign_code s.AtSign ∷ word_code w.Static ∷ word_code w.External ∷ word_code w.Factory ∷ word_code w.Operator ∷ []

-- ---- type parameters

-- a type parameter without the comma before it
abbrev pub Bare : Type 0
Bare = t.Metadata × (Identifier × Option u.Bound)

abbrev pub bare_of : BareTypeParameter → Bare
bare_of x = (metadata_of x.metadata, (x.name, view.maybe view.bound x.bound))

abbrev pub bare_height : Bare → ℕ
bare_height x = max (height.metadata_height x.0) (height.height_if height.bound_height x.1.1)

abbrev pub bare_at : ℕ → Reader Token Bare
bare_at n = metadata (exprs_at n) ~ plain_identifier ~ option class_of (this_word w.Extends) (bound (exprs_at n).type)

-- the same behind a comma
abbrev pub comma_bare_of : Place × BareTypeParameter → Place × Bare
comma_bare_of x = (x.0, bare_of x.1)

abbrev pub comma_bare_height : Place × Bare → ℕ
comma_bare_height x = bare_height x.1

abbrev pub a_parameter : Option Place → Bare → u.TypeParameter
a_parameter comma x = record { comma = comma; metadata = x.0; name = x.1.0; bound = x.1.1 }

-- type parameters with commas between them, and these in angle brackets
abbrev pub items_of : Vec TypeParameter → List u.TypeParameter
items_of v = map view.type_parameter v.items

abbrev pub items_height : List u.TypeParameter → ℕ
items_height items = height.highest height.type_parameter_height items

abbrev pub parameter_list : Reader Token Bare → Reader Token (List u.TypeParameter)
parameter_list item = mapped to_type_parameters (separated class_of (these s.Comma) item (sign s.Comma))

abbrev pub in_angles : Place → List u.TypeParameter → Place → u.TypeParameters
in_angles opening items closing = record { opening = opening; items = items; closing = closing }

abbrev pub angled : Reader Token Bare → Reader Token u.TypeParameters
angled item = made₃ in_angles (sign s.Less ~ parameter_list item ~ sign s.Greater)

-- ---- aliases

-- what the functions of an alias answer with, where that is written, and else nothing
abbrev pub result_if : Bool → Reader Token y.TypeNode → Reader Token (Option y.ResultType)
result_if true type = mapped (λ x. Some x) (result type)
result_if false type = always_gives None

-- ---- members and classes

-- the members of a class of this name
abbrev pub members_of : Vec Member → List u.Member
members_of v = map view.member v.items

abbrev pub members_at : ℕ → List ℕ → Reader Token (List u.Member)
members_at n class = many class_of always member_first (member n class)

abbrev pub members_height : List u.Member → ℕ
members_height items = height.highest height.member_height items

-- what stands before a class's kind
abbrev pub header_of : declared_header.ClassHeader → ClassHeader
header_of x = (x.abstracted, (x.word, (x.name, view.maybe view.type_parameters x.parameters)))

abbrev pub header_height : ClassHeader → ℕ
header_height x = height.height_if height.type_parameters_height x.1.1.1
