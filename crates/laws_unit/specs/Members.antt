-- What is proved of the readers of members beside those of specs/Statements, and what is asked for it.
use Rattle.std.specs.Prelude.{◌≡◌, ℕ, suc, ◌+◌, true, false, List, [], ◌∷◌, ◌++◌, length, None, Some, Ok}
use Rattle.dart_token.specs.declared.token.Token.{Token}
use Rattle.dart_token.specs.declared.sign.Sign.TheVariants as s
use Rattle.dart_token.specs.declared.word.Word.TheVariants as w
use Rattle.dart_tree.specs.declared.declaration.Modifier.{Modifier}
use Rattle.dart_tree.specs.Tree as tree
use Rattle.dart_tree.specs.Tree.{Block}
use Rattle.dart_tree.specs.Tokens.{block_tokens}
use Rattle.dart_tree.specs.Unit as d
use Rattle.dart_tree.specs.Unit.{Constructor, Initializers, MemberKind}
use Rattle.dart_tree.specs.UnitTokens.{constructor_tokens, initializers_tokens, modifier_tokens, member_kind_tokens}
use Rattle.grammar_laws.specs.Codes.{has, Within, nowhere}
use Rattle.grammar_laws.specs.Fronts.{both_spelling}
use Rattle.grammar_laws.specs.Readers.{starts, tried}
use Rattle.dart_syntax.specs.Phrases.{Phrase, ◌~◌, ◌<|>◌, opt, made₈, such}
use Rattle.dart_syntax.specs.Leaves as l
use Rattle.dart_syntax.specs.Statements as t
use Rattle.dart_syntax.specs.Statements.{within}
use Rattle.dart_syntax.specs.Declarations as c
use Rattle.dart_syntax.specs.Declarations.{target_takes_names}
use Rattle.token_codes.specs.Codes.{class_of, plain_names, sign_code, word_code, these}
use Rattle.token_codes.specs.Reads.{Reads}
use Rattle.syntax_readers.specs.Combinators.{behind_brackets}
use Rattle.syntax_readers.specs.Types.{type_first}
use Rattle.syntax_readers.specs.Parameters.{body}
use Rattle.syntax_readers.specs.Statements.{stage}
use Rattle.syntax_readers.specs.Declarations as r
use Rattle.syntax_readers.specs.Declarations.{behind_init, before_body}
use Rattle.laws_type.specs.Nexts.{after_type}
use Rattle.laws_unit.specs.Statements.{ParametersReadAt, MetadataReads, MembersReadAt, TypeReads, TypesGoAt, CallChoiceAt, CallableApartAt, variable_first, MemberPartsReadAt}

-- ---- factories (10.6.2 Factories), of which both kinds are tried

-- types, with what goes on behind each
abbrev pub TypeReadAt : ℕ → Type 0
TypeReadAt n = Reads (stage n).nodes.exprs.type (within n).nodes.expr_nodes.type type_first after_type false

abbrev pub redirecting_factory_phrase : ℕ → List ℕ → Phrase Constructor
redirecting_factory_phrase n class = made₈ constructor_tokens d.redirecting_factory
    (opt (l.word w.External) ~ l.word w.Factory ~ c.constructor_name_over (within n).nodes class ~ (within n).nodes.expr_nodes.parameters
    ~ l.sign s.Assign ~ such target_takes_names ((within n).nodes.expr_nodes.type ~ opt l.dot_name ~ l.sign s.Semicolon))

abbrev pub factory_first : List ℕ
factory_first = word_code w.External ∷ word_code w.Factory ∷ []

pub record FactoriesReadAt (n : ℕ) : Type 0 where
  -- in a class of each name
  pub redirecting_factory : (class : List ℕ) → Reads (r.redirecting_factory (stage n).nodes.exprs class) (redirecting_factory_phrase n class) factory_first nowhere false
  pub any_factory : (class : List ℕ) → Reads (tried (r.factory (stage n).nodes.exprs class) (r.redirecting_factory (stage n).nodes.exprs class)) (c.factory_over (within n).nodes (c.init_within n) class) factory_first nowhere false

abbrev pub FactoriesRead : Type 0
FactoriesRead = (n : ℕ) → MemberPartsReadAt n → TypeReadAt n → FactoriesReadAt n

-- ---- functions, accessors, variables and operators, with `static`, `external` or neither (10 Classes, 10.1.1 Operators)

-- what begins them where no `static` stands before them
abbrev pub plain_first : List ℕ
plain_first = word_code w.External ∷ word_code w.Operator ∷ word_code w.Var ∷ word_code w.Final ∷ word_code w.Const ∷ word_code w.Void ∷ type_first

-- what an operator is tried behind
abbrev pub operator_beside : ℕ → Phrase MemberKind
operator_beside n = c.callable_within n c.external_or_none <|> c.variables_within n

-- no list of tokens is an operator and begins one of those past that, or the other way round, and none is both
pub record OperatorApartAt (n : ℕ) : Type 0 where
  pub over_others : (a : MemberKind) (t : Token) (ts : List Token) → (operator_beside n).Fits a → (c.operator_within n).front (member_kind_tokens a ++ t ∷ ts) → ⊥
  pub over_operator : (a : MemberKind) (t : Token) (ts : List Token) → (c.operator_within n).Fits a → (operator_beside n).front (member_kind_tokens a ++ t ∷ ts) → ⊥
  pub never_both : (a b : MemberKind) → (operator_beside n).Fits a → (c.operator_within n).Fits b → member_kind_tokens a ≡ member_kind_tokens b → ⊥

pub record OperatorPartsReadAt (n : ℕ) : Type 0 where
  pub type : TypeReads (stage n).nodes.exprs (within n).nodes
  pub goes : TypesGoAt n
  pub parameters : ParametersReadAt n
  pub body : Reads (body (stage n).nodes.exprs) (t.body_of (within n).nodes.expr_nodes) (sign_code s.Semicolon ∷ sign_code s.Arrow ∷ sign_code s.LeftBrace ∷ []) nowhere false

-- functions and accessors are nodes, and operators and variables are not
pub record OtherPartsReadAt (n : ℕ) : Type 0 where
  pub parts : MemberPartsReadAt n
  pub type : TypeReads (stage n).nodes.exprs (within n).nodes
  pub goes : TypesGoAt n
  pub variables : Reads (stage (suc n)).nodes.variables (within (suc n)).nodes.variables variable_first nowhere false
  pub operators : OperatorPartsReadAt (suc n)
  pub call_choice : CallChoiceAt (suc n)
  pub callable_apart : CallableApartAt (suc n)
  pub operator_apart : OperatorApartAt (suc n)

abbrev pub other_first : List ℕ
other_first = word_code w.Static ∷ plain_first

abbrev pub OtherMembersReadAt : ℕ → Type 0
OtherMembersReadAt n = Reads (r.other_member n) (c.other_member n) other_first nowhere false

abbrev pub OtherMembersRead : Type 0
OtherMembersRead = (n : ℕ) → OtherPartsReadAt n → OtherMembersReadAt (suc n)

-- ---- generative constructors (10.6.1 Generative Constructors), of which each is read as itself where nothing goes on behind it

abbrev pub BlockReadAt : ℕ → Type 0
BlockReadAt n = Reads (stage n).nodes.exprs.block (within n).nodes.expr_nodes.block (these s.LeftBrace) nowhere false

-- of a class of any name
abbrev pub inits_at : ℕ → Phrase Initializers
inits_at n = c.initializers_over (within n).nodes (c.init_within n) []

-- what is asked of the grammar
pub record InitsCloseAt (n : ℕ) : Type 0 where
  -- where initialisers go on with a block that is none of theirs, one of `behind_init` stands behind it
  pub goes_on : (x : Initializers) (b : Block) (t : Token) (ts : List Token) → (inits_at n).Fits x → (within n).nodes.expr_nodes.block.Fits b → (inits_at n).front (initializers_tokens x ++ (block_tokens b ++ t ∷ ts)) → has behind_init (class_of t) ≡ true
  -- initialisers that go on with a brace close it
  pub closes : (x y : Initializers) (m rest : List Token) → (inits_at n).Fits x → (inits_at n).Fits y → initializers_tokens y ≡ initializers_tokens x ++ m → starts class_of (these s.LeftBrace) m ≡ true → behind_brackets (m ++ rest) ≡ behind_brackets m ++ rest
  -- and a block its own
  pub block_ends : (b : Block) (rest : List Token) → (within n).nodes.expr_nodes.block.Fits b → behind_brackets (block_tokens b ++ rest) ≡ rest

-- before a brace the scan finds no body in initialisers: behind each block outside brackets one of `behind_init` stands
abbrev pub ScannedAt : ℕ → Type 0
ScannedAt n = (x : Initializers) (ts : List Token) → (inits_at n).Fits x → starts class_of (these s.LeftBrace) ts ≡ true → before_body 0 (initializers_tokens x ++ ts) ≡ length (initializers_tokens x) + before_body 0 ts

-- all of `Laws` of a reader that is said of trees: a fault may stand too early
pub record GenerativesFoundAt (n : ℕ) : Type 0 where
  -- what is read is a constructor, and its tokens are those that were taken
  pub sound : (class : List ℕ) (ts : List Token) (a : Constructor) (rest : List Token) → r.generative (stage n).nodes.exprs (r.init n) class ts ≡ Ok (a, rest) → (c.generative_over (within n).nodes (c.init_within n) class).Fits a × (ts ≡ constructor_tokens a ++ rest)
  -- the tokens of a constructor are read as that constructor, unless one of these goes on
  pub complete : (class : List ℕ) (a : Constructor) (rest : List Token) → (c.generative_over (within n).nodes (c.init_within n) class).Fits a → starts class_of behind_init rest ≡ false → r.generative (stage n).nodes.exprs (r.init n) class (constructor_tokens a ++ rest) ≡ Ok (a, rest)

abbrev pub GenerativesFound : Type 0
GenerativesFound = (n : ℕ) → MemberPartsReadAt n → BlockReadAt n → InitsCloseAt n → ScannedAt n → GenerativesFoundAt n

-- ---- whole members (10 Classes), where a generative constructor goes on behind its block as its initialisers do

-- what may go on behind a constructor, behind a member without metadata, and behind one
abbrev pub after_constructor : Constructor → List ℕ
after_constructor (d.generative None name given (Some inits) (tree.block_body block)) = behind_init
after_constructor x = []

abbrev pub after_kind : MemberKind → List ℕ
after_kind (d.constructor_member x) = after_constructor x
after_kind x = []

-- in a class of this name
abbrev pub GenerativeReadAt : ℕ → Type 0
GenerativeReadAt n = (class : List ℕ) → Reads (r.generative (stage n).nodes.exprs (r.init n) class) (c.generative_over (within n).nodes (c.init_within n) class) plain_names after_constructor false

abbrev pub generatives : ℕ → List ℕ → Phrase Constructor
generatives n class = c.generative_over (within n).nodes (c.init_within n) class

abbrev pub redirections : ℕ → List ℕ → Phrase Constructor
redirections n class = c.redirecting_over (within n).nodes (c.init_within n) class

-- no list of tokens is a generative constructor and begins a redirecting one past that, or the other way round, and none is both
pub record RedirectingApartAt (n : ℕ) (class : List ℕ) : Type 0 where
  pub over_generative : (a : Constructor) (t : Token) (ts : List Token) → (generatives n class).Fits a → (redirections n class).front (constructor_tokens a ++ t ∷ ts) → ⊥
  pub over_redirecting : (a : Constructor) (t : Token) (ts : List Token) → (redirections n class).Fits a → (generatives n class).front (constructor_tokens a ++ t ∷ ts) → ⊥
  pub never_both : (a b : Constructor) → (generatives n class).Fits a → (redirections n class).Fits b → constructor_tokens a ≡ constructor_tokens b → ⊥

abbrev pub constructor_first : List ℕ
constructor_first = word_code w.External ∷ word_code w.Factory ∷ word_code w.Const ∷ plain_names

abbrev pub kinded_tokens : Modifier × MemberKind → List Token
kinded_tokens = both_spelling modifier_tokens member_kind_tokens

-- no list of tokens is a constructor and begins another member past that, or the other way round, and where one is both nothing goes on behind it
pub record MemberApartAt (n : ℕ) (class : List ℕ) : Type 0 where
  pub over_constructor : (a : Modifier × MemberKind) (t : Token) (ts : List Token) → (c.constructor_member n class).Fits a → (c.other_member n).front (kinded_tokens a ++ t ∷ ts) → ⊥
  pub over_other : (a : Modifier × MemberKind) (t : Token) (ts : List Token) → (c.other_member n).Fits a → (c.constructor_member n class).front (kinded_tokens a ++ t ∷ ts) → ⊥
  pub still : (a b : Modifier × MemberKind) → (c.constructor_member n class).Fits a → (c.other_member n).Fits b → kinded_tokens a ≡ kinded_tokens b → Within (after_kind a.1) []

pub record WholePartsReadAt (n : ℕ) : Type 0 where
  pub parts : MemberPartsReadAt n
  pub type : TypeReadAt n
  pub generative : GenerativeReadAt n
  pub redirecting_apart : (class : List ℕ) → RedirectingApartAt n class
  pub metadata : MetadataReads (stage (suc n)).nodes.exprs (within (suc n)).nodes
  pub others : OtherMembersReadAt (suc n)
  pub member_apart : (class : List ℕ) → MemberApartAt (suc n) class

abbrev pub MembersRead : Type 0
MembersRead = (n : ℕ) → WholePartsReadAt n → MembersReadAt (suc n)
