-- What is asked of statements without labels, from what is asked of declarations and expression statements: all others begin with tokens
-- of their own.
use Rattle.std.proofs.Common.{◌≡◌, ℕ, Bool, true, ◌⊎◌, inl, inr, List, [], ◌∷◌, ◌++◌, refl, sym, ap, ◌∙◌}
use Rattle.std.proofs.lemmas.List.{append-nil}
use Rattle.dart_token.specs.declared.token.Token.{Token}
use Rattle.dart_token.specs.declared.sign.Sign.TheVariants as s
use Rattle.dart_tree.specs.Tree.{Stmt}
use Rattle.dart_tree.specs.Tokens.{stmt_tokens}
use Rattle.grammar_laws.specs.Codes.{has, Apart}
use Rattle.grammar_laws.specs.Readers.{starts}
use Rattle.grammar_laws.proofs.Codes.{apart, clash, inside}
use Rattle.grammar_laws.proofs.Joints.{begins}
use Rattle.dart_syntax.specs.Statements as p
use Rattle.dart_syntax.specs.Statements.{within}
use Rattle.token_codes.specs.Codes.{class_of, names, these}
use Rattle.syntax_readers.specs.Types.{type_first}
use Rattle.syntax_readers.specs.Statements.{compound_first, jump_first, declaration_first}
use Rattle.laws_stmt.specs.Statements.{BlockReadAt}
use Rattle.laws_stmt.specs.Besides.{SinglesReadAt}
use Rattle.laws_apart.specs.Statements.{ApartAt, behind_on_name}
use Rattle.laws_block.specs.Statements.{CompoundReadAt}
use Rattle.laws_block.proofs.Combined.{stops_apart}
use Rattle.laws_block.proofs.Single.{one_begins}
use Rattle.laws_block.proofs.Endings.{declared_one, declared_two, expression_one, expression_two}
use Rattle.laws_block.proofs.Others.{block_begun, compound_begun}

pub record BareApart (n : ℕ) : Type 0 where
  pub over_declaration : (a : Stmt) (t : Token) (ts : List Token) → (p.declaration_of (within n).nodes).Fits a → (p.other_statement_of (within n).nodes).front (stmt_tokens a ++ t ∷ ts) → ⊥
  pub over_other : (b : Stmt) (t : Token) (ts : List Token) → (p.other_statement_of (within n).nodes).Fits b → (p.declaration_of (within n).nodes).front (stmt_tokens b ++ t ∷ ts) → ⊥
  pub never_both : (a b : Stmt) → (p.declaration_of (within n).nodes).Fits a → (p.other_statement_of (within n).nodes).Fits b → stmt_tokens a ≡ stmt_tokens b → ⊥
  pub no_label : (a c : Token) (ts : List Token) → has names (class_of a) ≡ true → has (these s.Colon) (class_of c) ≡ true → (p.unlabelled_of (within n).nodes).front (a ∷ c ∷ ts) → ⊥
  pub no_part : (a b c : Token) (ts : List Token) → has names (class_of a) ≡ true → has type_first (class_of b) ≡ true → has behind_on_name (class_of c) ≡ true → (p.unlabelled_of (within n).nodes).front (a ∷ b ∷ c ∷ ts) → ⊥
  pub no_name : (x : Stmt) (a : Token) → (p.unlabelled_of (within n).nodes).Fits x → stmt_tokens x ≡ a ∷ [] → has names (class_of a) ≡ true → ⊥
  pub no_two : (x : Stmt) (a b : Token) → (p.unlabelled_of (within n).nodes).Fits x → stmt_tokens x ≡ a ∷ b ∷ [] → has names (class_of a) ≡ true → has type_first (class_of b) ≡ true → ⊥

module _ (n : ℕ) (I : SinglesReadAt n) (B : BlockReadAt n) (C : CompoundReadAt n) (A : ApartAt n) where
  abbrev nodes : p.StmtNodes
  nodes = (within n).nodes

  abbrev starts_declared : List Token → Bool
  starts_declared ts = starts class_of declaration_first ts

  clashing : (codes : List ℕ) → Apart codes declaration_first → (ts : List Token) → starts class_of codes ts ≡ true → starts_declared ts ≡ true → ⊥
  clashing codes off ts on declared = clash (starts class_of codes ts) on (stops_apart codes declaration_first off ts declared)

  -- where a declaration could begin, an expression statement is all else that could
  plain_front : (t : Token) (ts : List Token) → starts_declared (t ∷ ts) ≡ true → (p.other_statement_of nodes).front (t ∷ ts) → (p.expression_of nodes).front (t ∷ ts)
  plain_front t ts on (inl f) = absurd (clashing (these s.LeftBrace) (apart refl) (t ∷ ts) (B.firsts t ts f) on)
  plain_front t ts on (inr (inl f)) = absurd (clashing compound_first (apart refl) (t ∷ ts) (C.laws.firsts t ts f) on)
  plain_front t ts on (inr (inr (inl f))) = absurd (clashing jump_first (apart refl) (t ∷ ts) (I.jump.firsts t ts f) on)
  plain_front t ts on (inr (inr (inr f))) = f

  plain_fits : (x : Stmt) (rest : List Token) → starts_declared (stmt_tokens x ++ rest) ≡ true → (p.other_statement_of nodes).Fits x → (p.expression_of nodes).Fits x
  plain_fits x rest on (inl f) = absurd (clashing (these s.LeftBrace) (apart refl) (stmt_tokens x ++ rest) (one_begins (block_begun n B C I) x rest f) on)
  plain_fits x rest on (inr (inl f)) = absurd (clashing compound_first (apart refl) (stmt_tokens x ++ rest) (one_begins (compound_begun n B C I) x rest f) on)
  plain_fits x rest on (inr (inr (inl f))) = absurd (clashing jump_first (apart refl) (stmt_tokens x ++ rest) (begins I.jump x rest f) on)
  plain_fits x rest on (inr (inr (inr f))) = f

  declared : (a : Stmt) (rest : List Token) → (p.declaration_of nodes).Fits a → starts_declared (stmt_tokens a ++ rest) ≡ true
  declared a rest fits = begins I.declaration a rest fits

  over_declared : (a : Stmt) (t : Token) (ts m : List Token) → (p.declaration_of nodes).Fits a → stmt_tokens a ++ t ∷ ts ≡ m → (p.other_statement_of nodes).front m → (p.expression_of nodes).front m
  over_declared a t ts [] fits e f = absurd (filled (stmt_tokens a) e) where
    filled : (v : List Token) → v ++ t ∷ ts ≡ [] → ⊥
    filled [] e = cc
    filled (x ∷ v) e = cc
  over_declared a t ts (u ∷ m) fits e f = plain_front u m (ap (starts class_of declaration_first) (sym e) ∙ declared a (t ∷ ts) fits) f

  begun_declared : (m : List Token) (b : Stmt) (t : Token) (ts : List Token) → stmt_tokens b ++ t ∷ ts ≡ m → (p.declaration_of nodes).front m → starts_declared m ≡ true
  begun_declared [] b t ts e f = absurd (filled (stmt_tokens b) e) where
    filled : (v : List Token) → v ++ t ∷ ts ≡ [] → ⊥
    filled [] e = cc
    filled (x ∷ v) e = cc
  begun_declared (u ∷ m) b t ts e f = I.declaration.firsts u m f

  named : (a : Token) → has names (class_of a) ≡ true → has declaration_first (class_of a) ≡ true
  named a on = (inside {xs = names} {ys = declaration_first} refl).in_second (class_of a) on

  either_front : (a : Token) (ts : List Token) → has names (class_of a) ≡ true → (p.unlabelled_of nodes).front (a ∷ ts) → ((p.declaration_of nodes).front (a ∷ ts)) ⊎ ((p.expression_of nodes).front (a ∷ ts))
  either_front a ts on (inl f) = inl f
  either_front a ts on (inr f) = inr (plain_front a ts (named a on) f)

  either_fits : (x : Stmt) (a : Token) (ts : List Token) → has names (class_of a) ≡ true → stmt_tokens x ≡ a ∷ ts → (p.unlabelled_of nodes).Fits x → ((p.declaration_of nodes).Fits x) ⊎ ((p.expression_of nodes).Fits x)
  either_fits x a ts on e (inl f) = inl f
  either_fits x a ts on e (inr f) = inr (plain_fits x [] (ap (starts class_of declaration_first) (append-nil (stmt_tokens x) ∙ e) ∙ named a on) f.0)

  pub bare_apart : BareApart n
  bare_apart = record {
    over_declaration = λ a t ts fits f. A.over_declaration a t ts fits (over_declared a t ts (stmt_tokens a ++ t ∷ ts) fits refl f);
    over_other = λ b t ts fits f. A.over_expression b t ts (plain_fits b (t ∷ ts) (begun_declared (stmt_tokens b ++ t ∷ ts) b t ts refl f) fits) f;
    never_both = λ a b fits other_fits e. A.never_both a b fits (plain_fits b [] (ap (λ (m : List Token). starts class_of declaration_first (m ++ [])) (sym e) ∙ declared a [] fits) other_fits) e;
    no_label = λ a c ts on colon f. A.no_label a c ts on colon (either_front a (c ∷ ts) on f);
    no_part = λ a b c ts on tb bc f. A.no_part a b c ts on tb bc (either_front a (b ∷ c ∷ ts) on f);
    no_name = λ x a fits e on. elim (either_fits x a [] on e fits) as (λ _. ⊥) [
      | inl f ↦ declared_one n x a f e on
      | inr f ↦ expression_one n x a f e on
    ];
    no_two = λ x a b fits e on tb. elim (either_fits x a (b ∷ []) on e fits) as (λ _. ⊥) [
      | inl f ↦ declared_two n x a b f e tb
      | inr f ↦ expression_two n x a b f e tb
    ];
  }
