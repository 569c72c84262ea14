-- The law of a part of a `try` (ECMA-408, 17.11 Try), over the readers of what stands inside.
use Rattle.std.proofs.Common.{◌≡◌, ℕ, false, ◌⊎◌, inl, inr, List, [], ◌∷◌, Option, None, Some, Ok, Err, refl, ap, ◌∙◌, append_assoc}
use Rattle.std.proofs.lemmas.List.{append-nil}
use Rattle.dart_base.specs.declared.place.Place.{Place}
use Rattle.dart_token.specs.declared.token.Token.{Token}
use Rattle.dart_token.specs.declared.sign.Sign.TheVariants as s
use Rattle.dart_token.specs.declared.word.Word.TheVariants as w
use Rattle.dart_tree.specs.declared.statement.Catch.{Catch}
use Rattle.dart_tree.specs.LeafTokens.{catch_tokens, on_text}
use Rattle.dart_tree.specs.Types.{TypeNode, on_part, catch_part}
use Rattle.dart_tree.specs.Tree as t
use Rattle.dart_tree.specs.Tree.{Block, TryParts}
use Rattle.dart_tree.specs.Tokens.{block_tokens, try_parts_tokens}
use Rattle.grammar_laws.specs.Codes.{Apart, nowhere, after_option}
use Rattle.grammar_laws.specs.Readers.{Outcome, Reader, both, option, starts}
use Rattle.grammar_laws.proofs.Codes.{apart, apart_none, apart_smaller, inside, or_false, within_none}
use Rattle.grammar_laws.proofs.Restated.{made_laws, reread, restated}
use Rattle.grammar_laws.proofs.Combined.{both_laws, both_any_laws}
use Rattle.grammar_laws.proofs.Followed.{option_laws}
use Rattle.grammar_laws.proofs.Chosen.{by_first_laws}
use Rattle.grammar_laws.proofs.Steps.{both_fails, both_second_fails, mapped_fails, either_second}
use Rattle.dart_syntax.specs.Phrases.{Phrase, ◌~◌, opt, made}
use Rattle.dart_syntax.specs.Agreement.{Agrees}
use Rattle.dart_syntax.specs.Leaves.{named}
use Rattle.dart_syntax.specs.Types.{type_within}
use Rattle.dart_syntax.specs.Statements as p
use Rattle.dart_syntax.specs.Statements.{Within}
use Rattle.dart_syntax.proofs.Agreeing.{parts_say, seq_agrees, opt_agrees}
use Rattle.dart_syntax.proofs.AgreeingTypes.{named_agrees, types_within_agree}
use Rattle.token_codes.specs.Codes.{class_of, on_code, word_code, these, this_word}
use Rattle.token_codes.specs.Leaves.{contextual}
use Rattle.token_codes.specs.Reads.{Reads}
use Rattle.syntax_readers.specs.Combinators.{made₂, made₃}
use Rattle.syntax_readers.specs.Types.{type_reader}
use Rattle.syntax_readers.specs.Statements as i
use Rattle.syntax_readers.specs.Statements.{StmtReaders, on_type, on_comes, read_on, try_part_over, try_part_comes}
use Rattle.laws_type.proofs.Types.{types_read_at, under_type}
use Rattle.laws_block.specs.Begun.{rest_of}
use Rattle.laws_block.proofs.On.{word_on_reads}
use Rattle.laws_block.proofs.Begun.{refused}
use Rattle.laws_block.proofs.Regrouped.{regrouped}

-- the same with another reader and another phrase of types, and with those of types of this depth
abbrev pub with_reader : Reader Token TypeNode → StmtReaders → StmtReaders
with_reader type x = record {
  exprs = record {
    type = type;
    expr = x.exprs.expr;
    without = x.exprs.without;
    cascade = x.exprs.cascade;
    collection = x.exprs.collection;
    function = x.exprs.function;
    arguments = x.exprs.arguments;
    parameters = x.exprs.parameters;
    block = x.exprs.block;
  };
  variables = x.variables;
  local_function = x.local_function;
  parameter = x.parameter;
  catch_clause = x.catch_clause;
  compound = x.compound;
}

abbrev pub with_types : Phrase TypeNode → Within → Within
with_types type x = record {
  nodes = record {
    expr_nodes = record {
      type = type;
      expr = x.nodes.expr_nodes.expr;
      without = x.nodes.expr_nodes.without;
      cascade = x.nodes.expr_nodes.cascade;
      bare = x.nodes.expr_nodes.bare;
      literal = x.nodes.expr_nodes.literal;
      arguments = x.nodes.expr_nodes.arguments;
      parameters = x.nodes.expr_nodes.parameters;
      block = x.nodes.expr_nodes.block;
    };
    variables = x.nodes.variables;
    local_function = x.nodes.local_function;
    parameter = x.nodes.parameter;
    catch_clause = x.nodes.catch_clause;
    compound = x.nodes.compound;
  };
  levels = x.levels;
  stmt = x.stmt;
}

abbrev pub with_type : ℕ → StmtReaders → StmtReaders
with_type k x = with_reader (type_reader k) x

abbrev pub with_phrase : ℕ → Within → Within
with_phrase k x = with_types (type_within k) x

-- what begins a part
abbrev pub part_first : List ℕ
part_first = word_code w.Catch ∷ on_code ∷ []

swap : {P Q : Type 0} → P ⊎ Q → Q ⊎ P
swap (inl x) = inr x
swap (inr x) = inl x

module _ (k : ℕ) (here : StmtReaders) (inner : Within) (B : Reads here.exprs.block inner.nodes.expr_nodes.block (these s.LeftBrace) nowhere false) (K : Reads here.catch_clause inner.nodes.catch_clause (this_word w.Catch) nowhere false)
    (AB : Agrees block_tokens inner.nodes.expr_nodes.block) (AK : Agrees catch_tokens inner.nodes.catch_clause) where
  abbrev block : Phrase Block
  block = inner.nodes.expr_nodes.block

  abbrev clause : Phrase Catch
  clause = inner.nodes.catch_clause

  abbrev Behind : Type 0
  Behind = Option Catch × Block

  abbrev behind : Phrase Behind
  behind = opt clause ~ block

  -- ---- catch ( id [, id] ) block

  abbrev to_catch : Catch × Block → TryParts
  to_catch x = t.try_part (catch_part x.0) x.1 t.no_try_parts

  catch_said : (x : Catch × Block) → (clause ~ block).Fits x → try_parts_tokens (to_catch x) ≡ (clause ~ block).spelling x
  unfolding try_parts_tokens
  catch_said = parts_say try_parts_tokens to_catch (seq_agrees AK AB) (λ x fits. simp append-nil)

  catch_laws : Reads (made₂ (λ c body. t.try_part (catch_part c) body t.no_try_parts) (both here.catch_clause here.exprs.block)) (made try_parts_tokens to_catch (clause ~ block)) (this_word w.Catch) nowhere false
  catch_laws = made_laws (both_laws K B (λ c fits. apart_none (these s.LeftBrace))) to_catch try_parts_tokens nowhere catch_said (λ x fits. within_none [])

  -- ---- on type [catch ( id [, id] )] block

  abbrev Parts : Type 0
  Parts = Place × (TypeNode × Behind)

  abbrev to_on : Parts → TryParts
  to_on x = t.try_part (on_part x.0 x.1.0 x.1.1.0) x.1.1.1 t.no_try_parts

  abbrev parts : Phrase Parts
  parts = named on_text ~ (type_within k ~ behind)

  on_said : (x : Parts) → parts.Fits x → try_parts_tokens (to_on x) ≡ parts.spelling x
  unfolding try_parts_tokens
  on_said = parts_say try_parts_tokens to_on (seq_agrees (named_agrees on_text) (seq_agrees (types_within_agree k) (seq_agrees (opt_agrees AK) AB))) (λ x fits. simp (append_assoc, append-nil))

  clause_apart : (x : Option Catch) → Apart (after_option (this_word w.Catch) nowhere x) (these s.LeftBrace)
  clause_apart None = apart refl
  clause_apart (Some x) = apart_none (these s.LeftBrace)

  abbrev behind_reader : Reader Token Behind
  behind_reader = both (option class_of (this_word w.Catch) here.catch_clause) here.exprs.block

  behind_laws : Reads behind_reader behind (word_code w.Catch ∷ these s.LeftBrace) nowhere false
  behind_laws = both_any_laws (option_laws K) B (λ x fits. clause_apart x)

  abbrev late : (Place × TypeNode) × Behind → TryParts
  late x = t.try_part (on_part x.0.0 x.0.1 x.1.0) x.1.1 t.no_try_parts

  on_laws : Reads (made₃ (λ on c body. t.try_part (on_part on.0 on.1 c) body t.no_try_parts) (both (on_type (type_reader k)) behind_reader)) (made try_parts_tokens to_on parts) (on_code ∷ []) nowhere false
  unfolding on_type
  on_laws = reread (made_laws (both_laws word_on_reads (both_laws (types_read_at k).type behind_laws (λ x fits. apart_smaller (under_type x) (apart refl))) (λ place fits. apart_none _)) to_on try_parts_tokens nowhere on_said (λ x fits. within_none []))
      (λ ts. regrouped late (contextual on_code) (type_reader k) behind_reader ts)

  -- ---- either

  abbrev pub part_reader : Reader Token TryParts
  part_reader = try_part_over (with_type k here)

  abbrev pub part_phrase : Phrase TryParts
  part_phrase = p.try_part_over (with_phrase k inner)

  pub part_laws : Reads (try_part_over (with_type k here)) (p.try_part_over (with_phrase k inner)) part_first nowhere false
  unfolding try_part_over
  part_laws = restated (by_first_laws catch_laws on_laws (apart refl)) (λ x. swap) (λ x. swap) (λ ts. swap) (λ ts. swap) (inside refl) (λ x fits. within_none []) (λ h. h)

  -- ---- where no part comes

  no_body : (r : List Token) → i.body_or_catch r ≡ false → starts class_of (word_code w.Catch ∷ these s.LeftBrace) r ≡ false
  no_body r off = off

  fails_by : (ts rest : List Token) (o : Outcome Token (Place × TypeNode)) → on_type (type_reader k) ts ≡ o → read_on o ≡ false → rest_of o ≡ rest → both (on_type (type_reader k)) behind_reader ts ≡ Err rest
  fails_by ts rest (Ok x) e off is = both_second_fails (on_type (type_reader k)) (λ a. behind_reader) ts x.1 rest x.0 e (refused behind_laws x.1 off ∙ ap (λ (l : List Token). Err l) is)
  fails_by ts rest (Err d) e off is = both_fails (on_type (type_reader k)) (λ a. behind_reader) ts rest (e ∙ ap (λ (l : List Token). Err l) is)

  -- a fault there stands behind what begins one
  pub part_fails : (ts rest : List Token) → try_part_comes (type_reader k) ts ≡ false → rest_of (on_type (type_reader k) ts) ≡ rest → try_part_over (with_type k here) ts ≡ Err rest
  unfolding try_part_over
  part_fails ts rest off is =
      let no = or_false (starts class_of (this_word w.Catch) ts) (on_comes (type_reader k) ts) off in
      either_second (starts class_of (this_word w.Catch)) (made₂ (λ c body. t.try_part (catch_part c) body t.no_try_parts) (both here.catch_clause here.exprs.block))
      (made₃ (λ on c body. t.try_part (on_part on.0 on.1 c) body t.no_try_parts) (both (on_type (type_reader k)) behind_reader)) ts no.0
      ∙ mapped_fails late (both (on_type (type_reader k)) behind_reader) ts rest (fails_by ts rest (on_type (type_reader k) ts) refl no.1 is)
