-- What is proved of the readers of directives, declarations and units, and what is asked of the readers of what stands inside.
use Rattle.std.specs.Prelude.{◌≡◌, ℕ, suc, ◌<◌, true, false, List, [], ◌∷◌, ◌++◌, Option, None, Some}
use Rattle.dart_token.specs.declared.token.Token.{Token}
use Rattle.dart_token.specs.declared.sign.Sign.TheVariants as s
use Rattle.dart_token.specs.declared.word.Word.TheVariants as w
use Rattle.dart_tree.specs.LeafTokens.{type_tokens, result_tokens}
use Rattle.dart_tree.specs.Types.{TypeNode, ResultType}
use Rattle.dart_tree.specs.Depth.{metadata_height}
use Rattle.dart_tree.specs.Tree.{Operand, Cascades, Metadata}
use Rattle.dart_tree.specs.Tokens.{operand_tokens, cascades_tokens}
use Rattle.dart_tree.specs.Unit as d
use Rattle.dart_tree.specs.Unit.{DirectiveKind, Alias, Constructor, DeclKind}
use Rattle.dart_tree.specs.UnitTokens.{of_text, directive_kind_tokens, alias_tokens, constructor_tokens, decl_kind_tokens}
use Rattle.dart_syntax.specs.Phrases.{Phrase, ◌~◌, ◌<|>◌, opt, many, made, made₂, made₃, made₄, made₅, made₆, seq_if, exactly}
use Rattle.dart_syntax.specs.Leaves as l
use Rattle.dart_syntax.specs.Expressions as g
use Rattle.dart_syntax.specs.Expressions.{to_cascades}
use Rattle.dart_syntax.specs.Statements as t
use Rattle.dart_syntax.specs.Statements.{within}
use Rattle.dart_syntax.specs.Types as y
use Rattle.dart_syntax.specs.Declarations as c
use Rattle.dart_syntax.specs.Units as p
use Rattle.dart_syntax.specs.Syntax.{Answers}
use Rattle.grammar_laws.specs.Codes.{has, Apart, nowhere}
use Rattle.grammar_laws.specs.Depth.{is_below}
use Rattle.grammar_laws.specs.Readers.{mapped, both, checked, tried}
use Rattle.grammar_laws.specs.Fronts.{both_spelling, option_spelling}
use Rattle.grammar_laws.specs.Halves.{strict}
use Rattle.token_codes.specs.Codes.{class_of, names, plain_names, show_code, hide_code, sign_code, sign_codes, word_code, these, this_word}
use Rattle.token_codes.specs.Leaves.{identifier}
use Rattle.token_codes.specs.Reads.{Reads}
use Rattle.syntax_readers.specs.Types.{type_first, behind_type_name, result_before_name}
use Rattle.syntax_readers.specs.Primaries.{ExprReaders, operand_first, string_first, strings}
use Rattle.syntax_readers.specs.Expressions.{cascaded_over}
use Rattle.syntax_readers.specs.Parameters.{metadata, body}
use Rattle.syntax_readers.specs.Statements.{stage, closed}
use Rattle.syntax_readers.specs.Declarations as r
use Rattle.syntax_readers.specs.Declarations.{member_first, behind_init}
use Rattle.syntax_readers.specs.Units as i
use Rattle.syntax_readers.specs.Units.{item_first, found_within}

-- ---- directives behind their metadata (18 Libraries and Scripts)

abbrev pub part_of_kind : Phrase DirectiveKind
part_of_kind = made₄ directive_kind_tokens d.part_of_directive
    (l.word w.Part ~ l.named of_text ~ p.dotted)

abbrev pub library_kind : Phrase DirectiveKind
library_kind = made₃ directive_kind_tokens d.library_directive (l.word w.Library ~ p.dotted)

abbrev pub import_kind : g.ExprNodes → Phrase DirectiveKind
import_kind inner = made₄ directive_kind_tokens d.import_directive
    (l.word w.Import ~ g.strings inner.expr ~ opt p.prefix ~ many p.combinator)

abbrev pub export_kind : g.ExprNodes → Phrase DirectiveKind
export_kind inner = made₃ directive_kind_tokens d.export_directive
    (l.word w.Export ~ g.strings inner.expr ~ many p.combinator)

abbrev pub part_kind : g.ExprNodes → Phrase DirectiveKind
part_kind inner = made₂ directive_kind_tokens d.part_directive (l.word w.Part ~ g.strings inner.expr)

-- strings, behind which another string goes on (16.5 Strings)
abbrev pub StringsReadAt : ℕ → Type 0
StringsReadAt n = Reads (strings (closed (stage n).nodes.exprs)) (g.strings (within n).nodes.expr_nodes.expr) string_first (λ x. string_first) false

-- what may go on behind an `import`, and behind an `export`
abbrev pub behind_export : List ℕ
behind_export = show_code ∷ hide_code ∷ these s.Comma ++ string_first

abbrev pub behind_import : List ℕ
behind_import = word_code w.As ∷ behind_export

pub record DirectivesReadAt (n : ℕ) : Type 0 where
  pub part_of : Reads i.part_of part_of_kind (this_word w.Part) (λ x. these s.Dot) false
  pub library : Reads i.library library_kind (this_word w.Library) (λ x. these s.Dot) false
  pub «import» : Reads (i.import (closed (stage n).nodes.exprs)) (import_kind (within n).nodes.expr_nodes) (this_word w.Import) (λ x. behind_import) false
  pub «export» : Reads (i.export (closed (stage n).nodes.exprs)) (export_kind (within n).nodes.expr_nodes) (this_word w.Export) (λ x. behind_export) false
  pub part : Reads (i.part (closed (stage n).nodes.exprs)) (part_kind (within n).nodes.expr_nodes) (this_word w.Part) (λ x. string_first) false

abbrev pub DirectivesRead : Type 0
DirectivesRead = (n : ℕ) → StringsReadAt n → DirectivesReadAt n

-- ---- what heads are made of (10 Classes, 13 Enums, 14 Generics)

-- what may go on behind metadata, behind a type, and behind types
abbrev pub behind_metadata : List ℕ
behind_metadata = sign_code s.AtSign ∷ sign_code s.Dot ∷ sign_code s.LeftParenthesis ∷ []

abbrev pub behind_type : List ℕ
behind_type = sign_code s.Less ∷ sign_code s.Dot ∷ []

abbrev pub behind_types : List ℕ
behind_types = sign_code s.Comma ∷ behind_type

abbrev pub MetadataReads : ExprReaders → t.StmtNodes → Type 0
MetadataReads here nodes = Reads (metadata here) (t.metadata_of nodes.expr_nodes) (these s.AtSign) (λ x. behind_metadata) true

abbrev pub TypeReads : ExprReaders → t.StmtNodes → Type 0
TypeReads here nodes = Reads here.type nodes.expr_nodes.type type_first (λ x. behind_type) false

-- lists of types, and what begins with them; type parameters with their bounds; and enums, which hold no nodes
pub record HeadsReadAt (n : ℕ) : Type 0 where
  pub bound : Reads (r.bound (stage n).nodes.exprs.type) (c.bound_over (within n).nodes) (this_word w.Extends) (λ x. behind_type) false
  pub type_parameters : Reads (r.type_parameters (stage n).nodes.exprs) (c.type_parameters_over (within n).nodes) (these s.Less) nowhere false
  pub superclass : Reads (r.superclass (stage n).nodes.exprs.type) (c.superclass_over (within n).nodes) (this_word w.Extends) (λ x. word_code w.With ∷ behind_types) false
  pub mixins : Reads (r.mixins (stage n).nodes.exprs.type) (c.mixins_over (within n).nodes) (this_word w.With) (λ x. behind_types) false
  pub interfaces : Reads (r.interfaces (stage n).nodes.exprs.type) (c.interfaces_over (within n).nodes) (this_word w.Implements) (λ x. behind_types) false
  pub enum : Reads r.enum c.enum_over (this_word w.Enum) nowhere false

pub record HeadPartsReadAt (n : ℕ) : Type 0 where
  pub metadata : MetadataReads (stage n).nodes.exprs (within n).nodes
  pub type : TypeReads (stage n).nodes.exprs (within n).nodes

abbrev pub HeadsRead : Type 0
HeadsRead = (n : ℕ) → HeadPartsReadAt n → HeadsReadAt n

-- ---- aliases (19.3.1 Typedef), with a result and without: the reader tries both

abbrev pub alias_with : ℕ → Phrase (Option ResultType) → Phrase Alias
alias_with n result = made₆ alias_tokens (λ word result name type_parameters given semicolon. record {
  word = word;
  result_type = result;
  name = name;
  type_parameters = type_parameters;
  parameters = given;
  semicolon = semicolon;
})
    (l.word w.Typedef ~ result ~ l.plain_identifier ~ opt (c.type_parameters_over (within n).nodes)
    ~ (within n).nodes.expr_nodes.parameters ~ l.sign s.Semicolon)

abbrev pub some_result : ℕ → Phrase (Option ResultType)
some_result n = made (option_spelling result_tokens) (λ x. Some x) (y.result_over (within n).nodes.expr_nodes.type)

abbrev pub no_result : Phrase (Option ResultType)
no_result = exactly (option_spelling result_tokens) None

-- no list of tokens is one of them and begins the other past that, and none is both
pub record AliasesApartAt (n : ℕ) : Type 0 where
  pub over_typed : (a : Alias) (t : Token) (ts : List Token) → (alias_with n (some_result n)).Fits a → (alias_with n no_result).front (alias_tokens a ++ t ∷ ts) → ⊥
  pub over_bare : (a : Alias) (t : Token) (ts : List Token) → (alias_with n no_result).Fits a → (alias_with n (some_result n)).front (alias_tokens a ++ t ∷ ts) → ⊥
  pub never_both : (a b : Alias) → (alias_with n (some_result n)).Fits a → (alias_with n no_result).Fits b → alias_tokens a ≡ alias_tokens b → ⊥

-- parameters in their parentheses (9.2 Formal Parameters)
abbrev pub ParametersReadAt : ℕ → Type 0
ParametersReadAt n = Reads (stage n).nodes.exprs.parameters (within n).nodes.expr_nodes.parameters (these s.LeftParenthesis) nowhere false

abbrev pub AliasReadAt : ℕ → Type 0
AliasReadAt n = Reads (r.alias (stage n).nodes.exprs) (c.alias_over (within n).nodes) (this_word w.Typedef) nowhere false

abbrev pub AliasesRead : Type 0
AliasesRead = (n : ℕ) → HeadPartsReadAt n → ParametersReadAt n → AliasesApartAt n → AliasReadAt n

-- ---- classes over their members (10 Classes)

-- members of a class of this name: the block of a constructor may turn out to belong to a function literal, which then goes on
abbrev pub MembersReadAt : ℕ → Type 0
MembersReadAt n = (class : List ℕ) → Reads (r.member n class) (c.member_within n class) member_first (λ x. behind_init) false

abbrev pub ClassReadAt : ℕ → Type 0
ClassReadAt n = Reads (r.class_over n) (c.class_over n) (word_code w.Abstract ∷ word_code w.Class ∷ []) nowhere false

abbrev pub ClassesRead : Type 0
ClassesRead = (n : ℕ) → HeadPartsReadAt n → MembersReadAt n → ClassReadAt n

-- ---- what members are made of: initialisers (10.6.1 Generative Constructors)

abbrev pub ArgumentsReadAt : ℕ → Type 0
ArgumentsReadAt n = Reads (stage n).nodes.exprs.arguments (within n).nodes.expr_nodes.arguments (these s.LeftParenthesis) nowhere false

-- a conditional expression with cascades
abbrev pub values_at : ℕ → Phrase (Operand × Cascades)
values_at n = made (both_spelling operand_tokens cascades_tokens) (λ x. (x.0, to_cascades x.1)) (g.cascaded_over (within n).nodes.expr_nodes (within n).levels)

-- what may go on behind one stays apart from what stands behind an initialiser
pub record ValueReadAt (n : ℕ) : Type 0 where
  pub behind : List ℕ
  pub reads : Reads (strict (cascaded_over (stage n).nodes.exprs (stage n).levels)) (values_at n) operand_first (λ x. behind) false
  pub off_comma : Apart behind (these s.Comma)
  pub off_semicolon : Apart behind (these s.Semicolon)

abbrev pub init_first : List ℕ
init_first = word_code w.Super ∷ word_code w.This ∷ names

pub record InitsReadAt (n : ℕ) : Type 0 where
  pub behind : List ℕ
  pub reads : Reads (r.init n) (c.init_within n) init_first (λ x. behind) false
  pub off_comma : Apart behind (these s.Comma)
  pub off_semicolon : Apart behind (these s.Semicolon)

abbrev pub InitsRead : Type 0
InitsRead = (n : ℕ) → ValueReadAt n → ArgumentsReadAt n → InitsReadAt (suc n)

-- ---- functions, and constructors but generative ones and redirecting factories

-- what begins a result or none, and a name
abbrev pub declared_first : List ℕ
declared_first = word_code w.Void ∷ type_first ++ names

pub record MemberPartsReadAt (n : ℕ) : Type 0 where
  pub parameters : ParametersReadAt n
  pub arguments : ArgumentsReadAt n
  pub inits : InitsReadAt n
  pub body : Reads (body (stage n).nodes.exprs) (t.body_of (within n).nodes.expr_nodes) (sign_code s.Semicolon ∷ sign_code s.Arrow ∷ sign_code s.LeftBrace ∷ []) nowhere false
  -- a result or none, and a name
  pub result_name : Reads (both (checked y.result_leaves_name (result_before_name (stage n).nodes.exprs.type)) identifier)
      (seq_if y.result_leaves_name (opt (y.result_over (within n).nodes.expr_nodes.type)) l.identifier) declared_first (λ x. behind_type_name) false

-- a factory that makes the object itself (10.6.2 Factories)
abbrev pub factory_phrase : ℕ → List ℕ → Phrase Constructor
factory_phrase n class = made₅ constructor_tokens d.factory
    (opt (l.word w.External) ~ l.word w.Factory ~ c.constructor_name_over (within n).nodes class ~ (within n).nodes.expr_nodes.parameters
    ~ t.body_of (within n).nodes.expr_nodes)

-- what begins an operator's name, and what may go on behind `>` and `[ ]` (10.1.1 Operators)
abbrev pub operator_first : List ℕ
operator_first = sign_code s.LeftBracket ∷ sign_codes c.operator_signs

abbrev pub behind_operator : List ℕ
behind_operator = sign_code s.Greater ∷ these s.Assign

pub record MemberKindsReadAt (n : ℕ) : Type 0 where
  -- functions (9 Functions), which are a node
  pub function : Reads (r.function r.external_or_none (suc n)) (c.function_within c.external_or_none (suc n)) (word_code w.External ∷ declared_first) nowhere false
  -- what stands behind the result of an accessor (10.2 Getters, 10.3 Setters)
  pub accessor_kind : Reads (r.accessor_kind (stage n).nodes.exprs.parameters) (c.accessor_kind_over (within n).nodes) (word_code w.Get ∷ word_code w.Set ∷ []) nowhere false
  pub operator_name : Reads r.operator_name (c.operator_name_over (within n).nodes) operator_first (λ x. behind_operator) false
  -- constructors of a class of each name
  pub constant : (class : List ℕ) → Reads (r.constant (stage n).nodes.exprs (r.init n) class) (c.constant_over (within n).nodes (c.init_within n) class) (this_word w.Const) nowhere false
  pub redirecting : (class : List ℕ) → Reads (r.redirecting (stage n).nodes.exprs class) (c.redirecting_over (within n).nodes (c.init_within n) class) plain_names nowhere false
  pub factory : (class : List ℕ) → Reads (r.factory (stage n).nodes.exprs class) (factory_phrase n class) (word_code w.External ∷ word_code w.Factory ∷ []) nowhere false

abbrev pub MemberKindsRead : Type 0
MemberKindsRead = (n : ℕ) → MemberPartsReadAt n → MemberKindsReadAt n

-- ---- functions with accessors (9 Functions, 10.2 Getters, 10.3 Setters)

abbrev pub accessor_words : List ℕ
accessor_words = word_code w.Get ∷ word_code w.Set ∷ []

-- what is asked of types: one that begins with a name goes on with the name's part or with arguments, and one that is `get` or `set` alone
-- leaves no name behind it
pub record TypesGoAt (n : ℕ) : Type 0 where
  pub goes : (t u : Token) (ts : List Token) → has names (class_of t) ≡ true → (within n).nodes.expr_nodes.type.front (t ∷ u ∷ ts) → has behind_type (class_of u) ≡ true
  pub lone : (x : TypeNode) (t : Token) → (within n).nodes.expr_nodes.type.Fits x → type_tokens x ≡ t ∷ [] → has accessor_words (class_of t) ≡ true → y.is_no_accessor x ≡ false

-- ---- declarations behind their metadata (18 Libraries and Scripts)

abbrev pub decl_kind_of : ℕ → Phrase DeclKind
decl_kind_of n = made decl_kind_tokens d.class_decl (c.class_within n)
    <|> made decl_kind_tokens d.alias_decl (c.alias_within n)
    <|> made decl_kind_tokens d.function_decl (c.function_within c.external_or_none n)
    <|> made decl_kind_tokens d.accessor_decl (c.accessor_within c.external_or_none n)
    <|> made decl_kind_tokens d.variables_decl (within n).nodes.variables
    <|> made decl_kind_tokens d.enum_decl (c.enum_within n)

abbrev pub decl_first : List ℕ
decl_first = word_code w.Abstract ∷ word_code w.Class ∷ word_code w.Typedef ∷ word_code w.Enum ∷ word_code w.External
    ∷ word_code w.Var ∷ word_code w.Final ∷ word_code w.Const ∷ word_code w.Void ∷ type_first

abbrev pub DeclKindReadAt : ℕ → Type 0
DeclKindReadAt n = Reads (r.decl_kind n) (decl_kind_of n) decl_first nowhere false

-- functions and accessors, one of which is read wherever the tokens can be read so (9 Functions, 10.2 Getters, 10.3 Setters)
abbrev pub callable_decl : ℕ → Phrase DeclKind
callable_decl n = made decl_kind_tokens d.function_decl (c.function_within c.external_or_none n)
    <|> made decl_kind_tokens d.accessor_decl (c.accessor_within c.external_or_none n)

abbrev pub function_decls : ℕ → Phrase DeclKind
function_decls n = made decl_kind_tokens d.function_decl (c.function_within c.external_or_none n)

abbrev pub accessor_decls : ℕ → Phrase DeclKind
accessor_decls n = made decl_kind_tokens d.accessor_decl (c.accessor_within c.external_or_none n)

abbrev pub variables_decl : ℕ → Phrase DeclKind
variables_decl n = made decl_kind_tokens d.variables_decl (within n).nodes.variables

-- what begins them, and what begins variables (8 Variables)
abbrev pub callable_first : List ℕ
callable_first = word_code w.External ∷ word_code w.Void ∷ type_first

abbrev pub variable_first : List ℕ
variable_first = word_code w.Const ∷ word_code w.Var ∷ word_code w.Final ∷ type_first

abbrev pub CallableReadAt : ℕ → Type 0
CallableReadAt n = Reads (tried (mapped d.accessor_decl (r.accessor r.external_or_none n)) (mapped d.function_decl (r.function r.external_or_none n))) (callable_decl n) callable_first nowhere false

-- no list of tokens is one of the two and begins the other past that, and none is both
pub record CallChoiceAt (n : ℕ) : Type 0 where
  pub over_accessor : (a : DeclKind) (t : Token) (ts : List Token) → (accessor_decls n).Fits a → (function_decls n).front (decl_kind_tokens a ++ t ∷ ts) → ⊥
  pub over_function : (a : DeclKind) (t : Token) (ts : List Token) → (function_decls n).Fits a → (accessor_decls n).front (decl_kind_tokens a ++ t ∷ ts) → ⊥
  pub never_both : (a b : DeclKind) → (accessor_decls n).Fits a → (function_decls n).Fits b → decl_kind_tokens a ≡ decl_kind_tokens b → ⊥

abbrev pub CallablesRead : Type 0
CallablesRead = (n : ℕ) → MemberPartsReadAt n → TypeReads (stage n).nodes.exprs (within n).nodes → TypesGoAt n → CallChoiceAt (suc n) → CallableReadAt (suc n)

-- no list of tokens is variables and begins one of them past that, or the other way round, and none is both
pub record CallableApartAt (n : ℕ) : Type 0 where
  pub over_callable : (a : DeclKind) (t : Token) (ts : List Token) → (callable_decl n).Fits a → (variables_decl n).front (decl_kind_tokens a ++ t ∷ ts) → ⊥
  pub over_variables : (a : DeclKind) (t : Token) (ts : List Token) → (variables_decl n).Fits a → (callable_decl n).front (decl_kind_tokens a ++ t ∷ ts) → ⊥
  pub never_both : (a b : DeclKind) → (callable_decl n).Fits a → (variables_decl n).Fits b → decl_kind_tokens a ≡ decl_kind_tokens b → ⊥

-- what is asked of the readers of declarations of a depth: those of classes and aliases are asked with one node less
pub record DeclPartsReadAt (n : ℕ) : Type 0 where
  pub classes : (m : ℕ) → m < n → ClassReadAt m
  pub aliases : (m : ℕ) → m < n → AliasReadAt m
  pub callable : CallableReadAt n
  pub variables : Reads (stage n).nodes.variables (within n).nodes.variables variable_first nowhere false

abbrev pub DeclKindsRead : Type 0
DeclKindsRead = (n : ℕ) → DeclPartsReadAt n → CallableApartAt n → DeclKindReadAt n

-- ---- units

-- metadata with at most so many nodes above one another
abbrev pub metadata_at : ℕ → Phrase Metadata
metadata_at n = t.metadata_of (within n).nodes.expr_nodes

-- what is asked of the grammar: where there is room for one node more all that fits does, and begins the larger phrase, and of what fits
-- there just the trees that are less high than that fit the smaller one
pub record MetadataGrowsAt (n : ℕ) : Type 0 where
  pub fits_more : (x : Metadata) → (metadata_at n).Fits x → (metadata_at (suc n)).Fits x
  pub begins_more : (ts : List Token) → (metadata_at n).front ts → (metadata_at (suc n)).front ts
  pub below : (x : Metadata) → (metadata_at n).Fits x → is_below metadata_height (suc n) x ≡ true
  pub fits_less : (x : Metadata) → (metadata_at (suc n)).Fits x → is_below metadata_height (suc n) x ≡ true → (metadata_at n).Fits x

-- what is asked of the readers: metadata and declarations behind theirs, and the strings of directives, which are one node less deep
pub record UnitPartsReadAt (n : ℕ) : Type 0 where
  pub metadata : MetadataReads (stage n).nodes.exprs (within n).nodes
  pub strings : (m : ℕ) → m < n → StringsReadAt m
  pub decl_kind : DeclKindReadAt n

-- a unit with one node more; behind it another item begins
abbrev pub UnitReadAt : ℕ → Type 0
UnitReadAt n = Reads (i.unit_reader (suc n)) (p.unit_within (suc n)) item_first (λ x. item_first) true

abbrev pub UnitsRead : Type 0
UnitsRead = (n : ℕ) → UnitPartsReadAt n → ((m : ℕ) → MetadataGrowsAt m) → UnitReadAt n

-- ---- whole lists: what is found on one is its answer, where units of both depths are read

abbrev pub UnitsAnswered : Type 0
UnitsAnswered = (n m : ℕ) → UnitReadAt n → UnitReadAt m → (tokens : List Token) → Answers (suc n) (suc m) tokens (found_within (suc n) (suc m) tokens)
