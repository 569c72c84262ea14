-- The law of functions in functions, over parameters, blocks and expressions (ECMA-408, 17.4 Local Function Declaration).
use Rattle.std.proofs.Common.{◌≡◌, ℕ, Bool, true, false, ◌||◌, eqb, if◌then◌else◌, List, [], ◌∷◌, ◌++◌, Option, None, Ok, Err, refl, ap, sym, ◌∙◌, append_assoc}
use Rattle.dart_base.specs.declared.place.Place.{Place}
use Rattle.dart_token.specs.declared.token.Token.{Token}
use Rattle.dart_token.specs.declared.sign.Sign.TheVariants as s
use Rattle.dart_token.specs.declared.word.Word.TheVariants as w
use Rattle.dart_tree.specs.declared.identifier.Identifier.{Identifier}
use Rattle.dart_tree.specs.Types.{TypeNode, ResultType}
use Rattle.dart_tree.specs.LeafTokens.{type_tokens}
use Rattle.dart_tree.specs.Tree.{Parameters, Body, Function}
use Rattle.dart_tree.specs.Tokens.{function_tokens}
use Rattle.grammar_laws.specs.Codes.{nowhere}
use Rattle.grammar_laws.specs.Readers.{Outcome, Reader, and_then, both, checked, when, starts_two}
use Rattle.grammar_laws.specs.Fronts.{option_spelling}
use Rattle.grammar_laws.proofs.Codes.{apart, apart_none, apart_smaller, inside, within_self, within_none}
use Rattle.grammar_laws.proofs.Cuts.{both_empty, same_value, same_rest}
use Rattle.grammar_laws.proofs.Restated.{made_laws, reread, wider}
use Rattle.grammar_laws.proofs.Combined.{both_laws, both_any_laws}
use Rattle.dart_syntax.specs.Phrases.{Phrase, ◌~◌, exactly, seq_if, opt}
use Rattle.dart_syntax.specs.Agreement.{Agrees, StmtsAgree}
use Rattle.dart_syntax.specs.Leaves as l
use Rattle.dart_syntax.specs.Leaves.{word_tokens}
use Rattle.dart_syntax.specs.Types.{result_over, result_leaves_name}
use Rattle.dart_syntax.specs.Statements as p
use Rattle.dart_syntax.specs.Statements.{the_function}
use Rattle.dart_syntax.proofs.Agreeing.{exactly_agrees, parts_say, seq_agrees, seq_if_agrees, opt_agrees}
use Rattle.dart_syntax.proofs.AgreeingTypes.{identifier_agrees, result_agrees}
use Rattle.dart_syntax.proofs.AgreeingStatements.{said_word, whole_body_agrees}
use Rattle.token_codes.specs.Codes.{class_of, names, word_code, these}
use Rattle.token_codes.specs.Leaves.{identifier}
use Rattle.token_codes.specs.Reads.{Reads}
use Rattle.token_codes.proofs.Leaves.{identifier_reads}
use Rattle.grammar_laws.specs.Halves.{strict}
use Rattle.syntax_readers.specs.Combinators.{always_gives, past_name}
use Rattle.syntax_readers.specs.Types as i
use Rattle.syntax_readers.specs.Types.{type_first, result_comes, result_before_name, behind_type_name}
use Rattle.syntax_readers.specs.Primaries.{ExprReaders, expr_first}
use Rattle.syntax_readers.specs.Parameters as r
use Rattle.laws_type.specs.Nexts.{after_type}
use Rattle.laws_expr.specs.Nexts.{after_expr}
use Rattle.laws_expr.proofs.Names.{past_name_laws}
use Rattle.laws_stmt.specs.Statements.{function_first}
use Rattle.laws_stmt.proofs.Before.{comes, before_laws}
use Rattle.laws_stmt.proofs.Named.{Goes, name_begins, name_ends, result_laws, result_goes, under_result}
use Rattle.laws_stmt.proofs.Bodies.{whole_body_laws}

-- ---- a tree without tokens, whatever comes

module _ {A : Type 0} (spelling : A → List Token) (a : A) (blank : spelling a ≡ []) where
  no_more : (b : A) (t : Token) (ts : List Token) → spelling b ++ t ∷ ts ≡ [] → ⊥
  no_more b t ts e = let bad : t ∷ ts ≡ [] = (both_empty (spelling b) (t ∷ ts) e).1 in absurd cc

  pub given_laws : Reads (always_gives a) (exactly spelling a) [] nowhere true
  given_laws = record {
    sound = λ ts b rest h. let e = same_value a b ts rest h in (sym e, same_rest a b ts rest h ∙ ap (λ (m : List Token). m ++ rest) (sym blank ∙ ap spelling e));
    longest = λ ts b t rest h f. no_more b t [] f;
    fault = λ ts rest h. absurd cc;
    complete = λ b rest fits stop. ap (λ (m : List Token). always_gives a (m ++ rest)) (ap spelling fits ∙ blank) ∙ ap (λ (c : A). Ok (c, rest)) (sym fits);
    whole = λ b fits. ap spelling fits ∙ blank;
    none = refl;
    closed = λ x y e. (both_empty x y e).0;
    firsts = λ t ts e. absurd cc;
    nexts = λ b t ts fits e. absurd (no_more b t ts e);
    empties = λ b fits e. refl;
  }

-- ---- a result or none, and a name

abbrev pub result_words : List ℕ
result_words = word_code w.Void ∷ word_code w.Dynamic ∷ []

comes_so : (ts : List Token) → result_comes ts ≡ comes result_words ts
comes_so [] = refl
comes_so (t ∷ ts) = at (eqb (class_of t) (word_code w.Void)) (eqb (class_of t) (word_code w.Dynamic)) (starts_two class_of names behind_type_name (t ∷ ts)) where
  at : (v d two : Bool) → ((v || false) || ((d || false) || two)) ≡ ((v || (d || false)) || two)
  at true d two = refl
  at false true two = refl
  at false false two = refl

module _ {type : Reader Token TypeNode} {q : Phrase TypeNode} (T : Reads type q type_first after_type false) (A : Agrees type_tokens q) (G : Goes q) where
  abbrev read_when : Bool → List Token → Outcome Token (Option ResultType × Identifier)
  read_when c ts = and_then (and_then (when c (past_name (i.result type)) ts) (λ x rest. if result_leaves_name x then Ok (x, rest) else Err rest)) (λ x mid. and_then (identifier mid) (λ b rest. Ok ((x, b), rest)))

  pub result_name_laws : Reads (both (checked result_leaves_name (result_before_name type)) identifier) (seq_if result_leaves_name (opt (result_over q)) l.identifier) function_first (λ x. behind_type_name) false
  unfolding result_before_name
  result_name_laws = reread (wider (before_laws (past_name_laws (result_laws T A G) (inside refl)) identifier_reads result_leaves_name refl result_words (inside refl) (λ x fits. apart_smaller (under_result x) (apart refl)) (inside refl) (apart refl) (result_goes T A G)
      (λ t h. name_begins t h) (λ t u ts h f. name_ends t u ts f)) (within_self function_first) (λ x fits. within_self behind_type_name)) (λ ts. ap (λ (c : Bool). read_when c ts) (comes_so ts))

-- ---- [returnType] id formalParameterList functionBody

module _ (here : ExprReaders) (nodes : p.StmtNodes) (T : Reads here.type nodes.expr_nodes.type type_first after_type false) (G : Goes nodes.expr_nodes.type) (A : StmtsAgree nodes) (E : Reads (strict here.expr) nodes.expr_nodes.expr expr_first after_expr false)
    (P : Reads here.parameters nodes.expr_nodes.parameters (these s.LeftParenthesis) nowhere false) (B : Reads here.block nodes.expr_nodes.block (these s.LeftBrace) nowhere false) where
  abbrev Parts : Type 0
  Parts = Option Place × ((Option ResultType × Identifier) × (Parameters × Body))

  abbrev to_function : Parts → Function
  to_function x = the_function x.0 x.1.0 x.1.1.0 x.1.1.1

  abbrev external_tokens : Option Place → List Token
  external_tokens = option_spelling (word_tokens w.External)

  -- what stands behind the name
  pub called_laws : Reads (both here.parameters (r.whole_body here)) (nodes.expr_nodes.parameters ~ p.whole_body nodes.expr_nodes) (these s.LeftParenthesis) nowhere false
  called_laws = both_laws P (whole_body_laws here nodes.expr_nodes A.expr_nodes E B) (λ x fits. apart_none _)

  abbrev ResultName : Phrase (Option ResultType × Identifier)
  ResultName = seq_if result_leaves_name (opt (result_over nodes.expr_nodes.type)) l.identifier

  abbrev Called : Phrase (Parameters × Body)
  Called = nodes.expr_nodes.parameters ~ p.whole_body nodes.expr_nodes

  pub bare_laws : Reads (both (both (checked result_leaves_name (result_before_name here.type)) identifier) (both here.parameters (r.whole_body here))) (ResultName ~ Called) function_first nowhere false
  bare_laws = both_laws (result_name_laws T A.expr_nodes.type G) called_laws (λ x fits. apart refl)

  pub function_said : (x : Parts) → (p.no_external nodes ~ (ResultName ~ Called)).Fits x → function_tokens (to_function x) ≡ (p.no_external nodes ~ (ResultName ~ Called)).spelling x
  unfolding function_tokens
  function_said = parts_say function_tokens to_function (seq_agrees (exactly_agrees external_tokens external_tokens None (λ x. refl) refl) (seq_agrees (seq_if_agrees (opt_agrees (result_agrees A.expr_nodes.type)) identifier_agrees result_leaves_name) (seq_agrees A.expr_nodes.parameters (whole_body_agrees A.expr_nodes))))
      (λ x fits. simp (said_word, append_assoc))

  pub function_laws : Reads (r.function_over here (always_gives None) (r.whole_body here)) (p.local_function_over nodes) function_first nowhere false
  unfolding r.function_over
  function_laws = made_laws (both_any_laws (given_laws external_tokens None refl) bare_laws (λ x fits. apart_none _)) to_function function_tokens nowhere function_said (λ x fits. within_none [])
