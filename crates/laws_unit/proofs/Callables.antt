-- The law of functions with accessors, over any trees made of them and any word before them. The reader of an accessor leaves a type's name with
-- nothing behind it that goes on with it; one that goes past it gives the same where that of functions is tried too (ECMA-408, 9 Functions,
-- 10.2 Getters, 10.3 Setters).
use Rattle.std.proofs.Common.{◌≡◌, ℕ, suc, ◌≤◌, ◌<◌, arith, Bool, true, false, if◌then◌else◌, List, [], ◌∷◌, ◌++◌, length, Option, None, Ok, Err, inl, inr, refl, sym, ap, ◌∙◌, subst, append_assoc, ltb}
use Rattle.std.proofs.lemmas.Bool.{ltb-true, ltb-false}
use Rattle.dart_base.specs.declared.place.Place.{Place}
use Rattle.dart_token.specs.declared.token.Token.{Token}
use Rattle.dart_token.specs.declared.word.Word.TheVariants as w
use Rattle.dart_tree.specs.declared.identifier.Identifier.{Identifier}
use Rattle.dart_tree.specs.Types.{ResultType}
use Rattle.dart_tree.specs.Tree.{Body, Function, Parameters}
use Rattle.dart_tree.specs.Tokens.{function_tokens}
use Rattle.dart_tree.specs.Unit as d
use Rattle.dart_tree.specs.Unit.{Accessor, AccessorKind}
use Rattle.dart_tree.specs.UnitTokens.{accessor_tokens, accessor_kind_tokens, decl_kind_tokens}
use Rattle.grammar_laws.specs.Codes.{has, Apart, Within, nowhere}
use Rattle.grammar_laws.specs.Readers.{Outcome, Reader, and_then, mapped, both, checked, tried, farther}
use Rattle.grammar_laws.specs.Fronts.{Either, FirstFit, option_spelling}
use Rattle.grammar_laws.proofs.Codes.{apart, apart_none, inside, within_none}
use Rattle.grammar_laws.proofs.Joints.{beyond}
use Rattle.grammar_laws.proofs.Restated.{made_laws, restated, reread}
use Rattle.grammar_laws.proofs.Combined.{both_laws, both_any_laws}
use Rattle.grammar_laws.proofs.Tried.{tried_laws}
use Rattle.dart_syntax.specs.Phrases.{Phrase, ◌~◌, ◌<|>◌, seq_if, opt, made}
use Rattle.dart_syntax.specs.Agreement.{Agrees, StmtsAgree}
use Rattle.dart_syntax.specs.Leaves as l
use Rattle.dart_syntax.specs.Leaves.{word_tokens}
use Rattle.dart_syntax.specs.Types as y
use Rattle.dart_syntax.specs.Types.{result_leaves_name}
use Rattle.dart_syntax.specs.Statements as p
use Rattle.dart_syntax.specs.Statements.{StmtNodes, within}
use Rattle.dart_syntax.specs.Declarations as c
use Rattle.dart_syntax.specs.Declarations.{an_accessor}
use Rattle.dart_syntax.proofs.Agreeing.{parts_say, made_agrees, either_agrees, seq_agrees, seq_if_agrees, opt_agrees}
use Rattle.dart_syntax.proofs.AgreeingTypes.{word_agrees, identifier_agrees, result_agrees}
use Rattle.dart_syntax.proofs.AgreeingStatements.{said_word, body_agrees}
use Rattle.dart_syntax.proofs.AgreeingStages.{within_agrees}
use Rattle.token_codes.specs.Codes.{class_of, names, word_code, this_word}
use Rattle.token_codes.specs.Leaves.{name_of, identifier}
use Rattle.token_codes.specs.Reads.{Reads}
use Rattle.token_codes.proofs.Leaves.{name_said}
use Rattle.syntax_readers.specs.Types.{type_first, result_before_name}
use Rattle.syntax_readers.specs.Parameters as q
use Rattle.syntax_readers.specs.Statements.{stage}
use Rattle.syntax_readers.specs.Declarations as r
use Rattle.laws_unit.specs.Statements.{TypeReads, TypesGoAt, declared_first, callable_first, MemberPartsReadAt, CallChoiceAt, CallableReadAt}
use Rattle.laws_unit.proofs.Choosing.{alike, behind}
use Rattle.laws_unit.proofs.Accessors as b
use Rattle.laws_unit.proofs.Members.{external_laws, to_function, to_getter, to_setter}

module _ (n : ℕ) (D : MemberPartsReadAt n) (T : TypeReads (stage n).nodes.exprs (within n).nodes) (G : TypesGoAt n) where
  abbrev nodes : StmtNodes
  nodes = (within n).nodes

  abbrev A : StmtsAgree nodes
  A = (within_agrees n).nodes

  abbrev Pair : Type 0
  Pair = Option ResultType × AccessorKind

  abbrev body : Reader Token Body
  body = q.body (stage n).nodes.exprs

  abbrev exact : Reader Token Pair
  exact = tried (b.typed n T D.parameters G) (b.bare n T D.parameters G)

  abbrev actual : Reader Token Pair
  actual = b.actual n T D.parameters G

  -- ---- what stands behind `external`

  abbrev pub whole_kind : Phrase (Pair × Body)
  whole_kind = seq_if result_leaves_name (opt (y.result_over nodes.expr_nodes.type)) (c.accessor_kind_over nodes) ~ p.body_of nodes.expr_nodes

  pub whole_kind_laws : Reads (both exact body) whole_kind (word_code w.Void ∷ type_first) nowhere false
  whole_kind_laws = both_laws (b.either_laws n T D.parameters G) D.body (λ x fits. apart_none _)

  abbrev Named : Type 0
  Named = (Option ResultType × Identifier) × (Parameters × Body)

  abbrev pub named : Phrase Named
  named = seq_if result_leaves_name (opt (y.result_over nodes.expr_nodes.type)) l.identifier ~ nodes.expr_nodes.parameters ~ p.body_of nodes.expr_nodes

  pub named_laws : Reads (both (both (checked result_leaves_name (result_before_name (stage n).nodes.exprs.type)) identifier) (both (stage n).nodes.exprs.parameters body)) named declared_first nowhere false
  named_laws = both_laws D.result_name (both_laws D.parameters D.body (λ x fits. apart_none _)) (λ x fits. apart refl)

  accessor_kind_agrees : Agrees accessor_kind_tokens (c.accessor_kind_over nodes)
  accessor_kind_agrees = either_agrees (made_agrees accessor_kind_tokens to_getter (seq_agrees (word_agrees w.Get) identifier_agrees) (λ x fits. refl))
      (made_agrees accessor_kind_tokens to_setter (seq_agrees (word_agrees w.Set) (seq_agrees identifier_agrees A.expr_nodes.parameters)) (λ x fits. refl))

  abbrev to_accessor : Option Place × (Pair × Body) → Accessor
  to_accessor x = an_accessor x.0 x.1.0 x.1.1

  -- the tokens of both, with what stands before them
  module _ (e : Phrase (Option Place)) (S : Agrees (option_spelling (word_tokens w.External)) e) where
    pub accessor_said : (x : Option Place × (Pair × Body)) → (e ~ whole_kind).Fits x → accessor_tokens (to_accessor x) ≡ (e ~ whole_kind).spelling x
    accessor_said = parts_say accessor_tokens to_accessor (seq_agrees S (seq_agrees (seq_if_agrees (opt_agrees (result_agrees A.expr_nodes.type)) accessor_kind_agrees result_leaves_name) (body_agrees A.expr_nodes))) (λ x fits. simp (said_word, append_assoc))

    pub function_said : (x : Option Place × Named) → (e ~ named).Fits x → function_tokens (to_function x) ≡ (e ~ named).spelling x
    unfolding function_tokens
    function_said = parts_say function_tokens to_function (seq_agrees S (seq_agrees (seq_if_agrees (opt_agrees (result_agrees A.expr_nodes.type)) identifier_agrees result_leaves_name) (seq_agrees A.expr_nodes.parameters (body_agrees A.expr_nodes)))) (λ x fits. simp (said_word, append_assoc))

-- what stands before them is read by `read_e`
module _ (n : ℕ) (D : MemberPartsReadAt n) (T : TypeReads (stage n).nodes.exprs (within n).nodes) (G : TypesGoAt n)
    (read_e : Reader Token (Option Place)) (e : Phrase (Option Place)) (first_e : List ℕ) (E : Reads read_e e first_e (λ x. first_e) true) (S : Agrees (option_spelling (word_tokens w.External)) e)
    (off_result : Apart first_e (word_code w.Void ∷ type_first)) (off_name : Apart first_e declared_first)
    {K : Type 0} (spell : K → List Token) (of_accessor : Accessor → K) (of_function : Function → K)
    (says_accessor : (x : Accessor) → spell (of_accessor x) ≡ accessor_tokens x) (says_function : (x : Function) → spell (of_function x) ≡ function_tokens x) where
  abbrev Accessors : Phrase K
  Accessors = made spell of_accessor (c.accessor_within e (suc n))

  abbrev Functions : Phrase K
  Functions = made spell of_function (c.function_within e (suc n))

  abbrev AccessorParts : Type 0
  AccessorParts = Option ResultType × AccessorKind

  abbrev read_body : Reader Token Body
  read_body = body n D T G

  abbrev of : Reader Token AccessorParts → Reader Token K
  of read = mapped of_accessor (mapped (to_accessor n D T G) (both read_e (both read read_body)))

  exact_laws : Reads (of (exact n D T G)) Accessors (first_e ++ (word_code w.Void ∷ type_first)) nowhere false
  exact_laws = made_laws (made_laws (both_any_laws E (whole_kind_laws n D T G) (λ x fits. off_result)) (to_accessor n D T G) accessor_tokens nowhere (accessor_said n D T G e S) (λ x fits. within_none []))
      of_accessor spell nowhere (λ x fits. says_accessor x) (λ x fits. within_none [])

  abbrev function_reader : Reader Token K
  function_reader = mapped of_function (r.function read_e (suc n))

  functions_laws : Reads function_reader Functions (first_e ++ declared_first) nowhere false
  unfolding r.function q.function_over
  functions_laws = made_laws (made_laws (both_any_laws E (named_laws n D T G) (λ x fits. off_name)) to_function function_tokens nowhere (function_said n D T G e S) (λ x fits. within_none []))
      of_function spell nowhere (λ x fits. says_function x) (λ x fits. within_none [])

  -- ---- the readers' outcomes behind what stands before

  abbrev inner : Option Place → Outcome Token AccessorParts → Outcome Token K
  inner x o = and_then (and_then (and_then (and_then {B = AccessorParts × Body} o (λ a m. and_then {B = AccessorParts × Body} (read_body m) (λ x rest. Ok ((a, x), rest)))) (λ y rest. Ok ((x, y), rest))) (λ x rest. Ok (to_accessor n D T G x, rest))) (λ x rest. Ok (of_accessor x, rest))

  abbrev outer : Reader Token AccessorParts → Outcome Token (Option Place) → Outcome Token K
  outer read (Ok (x, mid)) = inner x (read mid)
  outer read (Err rest) = Err rest

  abbrev chained : Reader Token AccessorParts → Outcome Token (Option Place) → Outcome Token K
  chained read o = and_then (and_then (and_then {B = Option Place × (AccessorParts × Body)} o (λ x mid. and_then {B = Option Place × (AccessorParts × Body)} (both read read_body mid) (λ y rest. Ok ((x, y), rest)))) (λ x rest. Ok (to_accessor n D T G x, rest))) (λ x rest. Ok (of_accessor x, rest))

  chained_is : (read : Reader Token AccessorParts) (o : Outcome Token (Option Place)) → chained read o ≡ outer read o
  chained_is read (Ok (x, mid)) = refl
  chained_is read (Err rest) = refl

  data Late (ts : List Token) (x y : Outcome Token K) : Type 0 where
    same : x ≡ y → Late ts x y
    past : (before : Option Place) (t : Token) (m : List Token) → e.Fits before → ts ≡ e.spelling before ++ t ∷ m → has names (class_of t) ≡ true → x ≡ Err (t ∷ m) → y ≡ Err m → Late ts x y

  late_by : (ts : List Token) (o : Outcome Token (Option Place)) → read_e ts ≡ o → Late ts (outer (actual n D T G) o) (outer (exact n D T G) o)
  late_by ts (Err rest) h = same refl
  late_by ts (Ok (x, mid)) h =
      let got = E.sound ts x mid h in
      elim (b.near_actual n T D.parameters G mid) [
        | alike i ↦ same (ap (inner x) i)
        | behind t m is k v z ↦ past x t m got.0 (got.1 ∙ ap (λ (z : List Token). e.spelling x ++ z) is) k (ap (inner x) v ∙ ap (λ (z : List Token). Err z) is) (ap (inner x) z)
      ]

  late : (ts : List Token) → Late ts (of (actual n D T G) ts) (of (exact n D T G) ts)
  late ts = subst (λ (x : Outcome Token K). Late ts x (of (exact n D T G) ts)) (sym (chained_is (actual n D T G) (read_e ts)))
      (subst (λ (x : Outcome Token K). Late ts (outer (actual n D T G) (read_e ts)) x) (sym (chained_is (exact n D T G) (read_e ts))) (late_by ts (read_e ts) refl))

  -- ---- a function may begin with the name

  pub function_begins : (x : Option Place) (t : Token) → e.Fits x → has names (class_of t) ≡ true → Functions.front (e.spelling x ++ t ∷ [])
  function_begins x t fits h = inr (x, t ∷ [], fits, refl, refl, inl (inr (None, t ∷ [], tt, refl, refl, inr (name_of t, sym (name_said t h)))))

  abbrev choose : Bool → List Token → List Token → Outcome Token K
  choose b x y = if b then Err x else Err y

  no_later : (x y : List Token) (b : Bool) → length y ≤ length x → ltb (length x) (length y) ≡ b → choose b x y ≡ Err y
  no_later x y false le h = refl
  no_later x y true le h = absurd (omega (arith, le, ltb-true (length x) (length y) h))

  passed_by : (ts : List Token) (x : Option Place) (t : Token) (m f : List Token) (b : Bool) → e.Fits x → ts ≡ e.spelling x ++ t ∷ m → has names (class_of t) ≡ true → function_reader ts ≡ Err f → ltb (length f) (length (t ∷ m)) ≡ b → length f ≤ length m
  passed_by ts x t m f true fits is h stop less = let v : length f < length (t ∷ m) = ltb-true (length f) (length (t ∷ m)) less in omega (arith, v)
  passed_by ts x t m f false fits is h stop less =
      let k = functions_laws.fault ts f stop in
      absurd (beyond functions_laws k.0 f (e.spelling x) m t (sym k.1 ∙ is) (ltb-false (length f) (length (t ∷ m)) less) (function_begins x t fits h) k.3)

  with_function : (ts : List Token) (x : Option Place) (t : Token) (m : List Token) → e.Fits x → ts ≡ e.spelling x ++ t ∷ m → has names (class_of t) ≡ true → (z : Outcome Token K) → function_reader ts ≡ z → farther (Err (t ∷ m)) z ≡ farther (Err m) z
  with_function ts x t m fits is h (Ok z) stop = refl
  with_function ts x t m fits is h (Err f) stop =
      let le : length f ≤ length m = passed_by ts x t m f (ltb (length f) (length (t ∷ m))) fits is h stop refl in
      no_later (t ∷ m) f (ltb (length (t ∷ m)) (length f)) (omega (arith, le)) refl ∙ sym (no_later m f (ltb (length m) (length f)) le refl)

  agree : (ts : List Token) → tried (of (actual n D T G)) function_reader ts ≡ tried (of (exact n D T G)) function_reader ts
  agree ts = elim (late ts) [
    | same i ↦ ap (λ (o : Outcome Token K). farther o (function_reader ts)) i
    | past x t m fits is h v z ↦ ap (λ (o : Outcome Token K). farther o (function_reader ts)) v ∙ with_function ts x t m fits is h (function_reader ts) refl ∙ ap (λ (o : Outcome Token K). farther o (function_reader ts)) (sym z)
  ]

  -- ---- both, where no list leaves a choice

  module _ (over_accessor : (a : K) (t : Token) (ts : List Token) → Accessors.Fits a → Functions.front (spell a ++ t ∷ ts) → ⊥)
      (over_function : (a : K) (t : Token) (ts : List Token) → Functions.Fits a → Accessors.front (spell a ++ t ∷ ts) → ⊥)
      (never_both : (a b : K) → Accessors.Fits a → Functions.Fits b → spell a ≡ spell b → ⊥)
      (first : List ℕ) (all : Within ((first_e ++ (word_code w.Void ∷ type_first)) ++ (first_e ++ declared_first)) first) where
    abbrev Both : Phrase K
    Both = Functions <|> Accessors

    forth : (a : K) → FirstFit spell Accessors.Fits Functions.Fits a → Both.Fits a
    forth a (inl f) = inr f
    forth a (inr f) = inl f.0

    back : (a : K) → Both.Fits a → FirstFit spell Accessors.Fits Functions.Fits a
    back a (inl f) = inr (f, λ x own is. never_both x a own f is)
    back a (inr f) = inl f

    out : (ts : List Token) → Either Accessors.front Functions.front ts → Both.front ts
    out ts (inl f) = inr f
    out ts (inr f) = inl f

    into : (ts : List Token) → Both.front ts → Either Accessors.front Functions.front ts
    into ts (inl f) = inr f
    into ts (inr f) = inl f

    pub callable_laws : Reads (tried (mapped of_accessor (r.accessor read_e (suc n))) (mapped of_function (r.function read_e (suc n)))) Both first nowhere false
    unfolding r.accessor r.accessor_over
    callable_laws = reread (restated (tried_laws exact_laws functions_laws over_accessor over_function) forth back out into all (λ a fits. within_none []) (λ e. e)) agree

pub external_agrees : Agrees (option_spelling (word_tokens w.External)) c.external_or_none
external_agrees = opt_agrees (word_agrees w.External)

pub callables_at : (n : ℕ) → MemberPartsReadAt n → TypeReads (stage n).nodes.exprs (within n).nodes → TypesGoAt n → CallChoiceAt (suc n) → CallableReadAt (suc n)
callables_at n D T G C = callable_laws n D T G r.external_or_none c.external_or_none (this_word w.External) (external_laws n D) external_agrees (apart refl) (apart refl) decl_kind_tokens d.accessor_decl d.function_decl (λ x. refl) (λ x. refl)
    C.over_accessor C.over_function C.never_both callable_first (inside refl)
