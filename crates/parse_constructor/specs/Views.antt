-- What contracts see of the parts of constructors, and their readers by the number of nodes above one another.
use Rattle.std.specs.Prelude.{ℕ, suc, ◌+◌, ◌-◌, max, if◌then◌else◌, List, [], ◌∷◌, map, Option}
use Rattle.std.specs.Global.{Vec}
use Rattle.dart_base.specs.declared.place.Place.{Place}
use Rattle.dart_token.specs.declared.sign.Sign.TheVariants as s
use Rattle.dart_token.specs.declared.token.Token.{Token}
use Rattle.dart_token.specs.declared.word.Word.TheVariants as w
use Rattle.dart_tree.specs.declared.declaration.Init.{Init}
use Rattle.dart_tree.specs.declared.declaration.InitKind.{InitKind}
use Rattle.dart_tree.specs.declared.declaration.Initializers.{Initializers}
use Rattle.dart_tree.specs.declared.expression.Cascade.{Cascade}
use Rattle.dart_tree.specs.declared.expression.Operand.{Operand}
use Rattle.dart_tree.specs.declared.statement.Body.{Body}
use Rattle.dart_tree.specs.Depth as height
use Rattle.dart_tree.specs.Lists.{cascades_of}
use Rattle.dart_tree.specs.Tree as t
use Rattle.dart_tree.specs.Unit as u
use Rattle.dart_tree.specs.UnitView as unit_view
use Rattle.dart_tree.specs.View as view
use Rattle.dart_syntax.specs.Declarations.{to_inits}
use Rattle.grammar_laws.specs.Halves.{strict}
use Rattle.grammar_laws.specs.Readers.{Reader, mapped, option, separated, sought, starts}
use Rattle.parse_nest.specs.Stages.{exprs_at, levels_at, block_at}
use Rattle.syntax_readers.specs.Combinators.{◌~◌, made₂, made₃, made₄, opening, closing, up_to}
use Rattle.syntax_readers.specs.Declarations as spec
use Rattle.syntax_readers.specs.Expressions.{cascaded_over}
use Rattle.token_codes.specs.Codes.{class_of, middle_code, sign_code, tail_code, word_code, these, this_word}
use Rattle.token_codes.specs.Leaves.{sign, word, identifier, dot_name, this_dot}

-- ---- what comes

-- how many brackets are open behind the next token
abbrev pub open_after : ℕ → List Token → ℕ
open_after n ts = if starts class_of opening ts then n + 1 else if starts class_of closing ts then n - 1 else n

-- what a constructor goes on with behind a block that ends an initialiser, in four parts
abbrev pub selecting_first : List ℕ
selecting_first = sign_code s.LeftBrace ∷ sign_code s.Semicolon ∷ sign_code s.Comma ∷ sign_code s.Dot ∷ sign_code s.LeftBracket
    ∷ sign_code s.LeftParenthesis ∷ sign_code s.DotDot ∷ sign_code s.Question ∷ []

abbrev pub arithmetic_first : List ℕ
arithmetic_first = sign_code s.Star ∷ sign_code s.Slash ∷ sign_code s.TildeSlash ∷ sign_code s.Percent ∷ sign_code s.Plus
    ∷ sign_code s.Minus ∷ sign_code s.ShiftLeft ∷ sign_code s.Greater ∷ []

abbrev pub relational_first : List ℕ
relational_first = sign_code s.Ampersand ∷ sign_code s.Caret ∷ sign_code s.Bar ∷ sign_code s.Less ∷ sign_code s.LessEqual
    ∷ sign_code s.GreaterEqual ∷ []

abbrev pub testing_first : List ℕ
testing_first = sign_code s.EqualEqual ∷ sign_code s.NotEqual ∷ sign_code s.AndAnd ∷ sign_code s.OrOr ∷ word_code w.Is ∷ word_code w.As ∷ []

-- what goes on with the conditional or the string that holds a block
abbrev pub enclosing_first : List ℕ
enclosing_first = sign_code s.Colon ∷ middle_code ∷ tail_code ∷ []

-- what begins a factory
abbrev pub factory_first : List ℕ
factory_first = word_code w.External ∷ word_code w.Factory ∷ []

-- ---- initialisers

abbrev pub cascaded_of : Operand × Vec Cascade → t.Operand × t.Cascades
cascaded_of x = (view.operand x.0, cascades_of x.1.items)

abbrev pub cascaded_height : t.Operand × t.Cascades → ℕ
cascaded_height x = max (height.operand_height x.0) (height.cascades_height x.1)

-- an operand with cascades behind it, and with no half of an operator
abbrev pub cascaded_at : ℕ → Reader Token (t.Operand × t.Cascades)
cascaded_at n = strict (cascaded_over (exprs_at n) (levels_at n))

abbrev pub super_reader : Reader Token t.Arguments → Reader Token u.InitKind
super_reader arguments = made₃ u.super_init (word w.Super ~ option class_of (these s.Dot) dot_name ~ arguments)

abbrev pub field_reader : Reader Token (t.Operand × t.Cascades) → Reader Token u.InitKind
field_reader value = made₄ (λ this name equals value. u.field_init this name equals value.0 value.1)
    (option class_of (this_word w.This) this_dot ~ identifier ~ sign s.Assign ~ value)

-- an initialiser is a node
abbrev pub init_height : u.InitKind → ℕ
init_height x = suc (height.init_kind_height x)

abbrev pub comma_init_of : Place × InitKind → Place × u.InitKind
comma_init_of x = (x.0, unit_view.init_kind x.1)

abbrev pub comma_init_height : Place × u.InitKind → ℕ
comma_init_height x = init_height x.1

abbrev pub inits_of : Vec Init → List u.Init
inits_of v = map unit_view.init v.items

abbrev pub inits_height : List u.Init → ℕ
inits_height = height.highest height.init_height

abbrev pub init_list : Reader Token u.InitKind → Reader Token (List u.Init)
init_list init = mapped to_inits (separated class_of (these s.Comma) init (sign s.Comma))

-- the initialisers with their list beside the colon
abbrev pub initializers_parts : Reader Token u.InitKind → Reader Token u.Initializers
initializers_parts init = made₂ (λ colon items. record { colon = colon; items = items }) (sign s.Colon ~ init_list init)

abbrev pub maybe_height : Option u.Initializers → ℕ
maybe_height = height.height_if height.initializers_height

-- ---- what stands behind the parameters

abbrev pub Rest : Type 0
Rest = Option u.Initializers × t.Body

abbrev pub rest_of : Option Initializers × Body → Rest
rest_of x = (unit_view.maybe unit_view.initializers x.0, view.body x.1)

abbrev pub rest_height : Rest → ℕ
rest_height x = max (maybe_height x.0) (height.body_height x.1)

-- initialisers that end before the constructor's own body
abbrev pub cut_initializers : Reader Token u.InitKind → Reader Token u.Initializers
cut_initializers init ts = up_to (spec.before_body 0 ts) (spec.initializers init) ts

-- a generative constructor whose name and parameters are read once
abbrev pub generative_parts : ℕ → List ℕ → Reader Token u.Constructor
generative_parts n class = spec.generative_with (exprs_at n) class
    (sought (spec.with_initializers (spec.init n) (block_at n)) (spec.with_own_body (spec.init n) (block_at n)))
