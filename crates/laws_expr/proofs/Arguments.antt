-- The laws of the readers of arguments (ECMA-408, 16.14.1 Actual Argument List Evaluation).
use Rattle.std.proofs.Common.{◌≡◌, ℕ, Bool, true, false, ◌&&◌, List, [], ◌∷◌, ◌++◌, Option, None, Some, Err, ◌⊎◌, inl, inr, refl, ap, ap₂, sym, ◌∙◌, subst, append_assoc, flat_map}
use Rattle.std.proofs.lemmas.List.{append-nil}
use Rattle.std.specs.List.{AllByRecursion}
use Rattle.dart_base.specs.declared.place.Place.{Place}
use Rattle.dart_token.specs.declared.token.Token.{Token}
use Rattle.dart_token.specs.declared.sign.Sign.TheVariants as s
use Rattle.dart_tree.specs.declared.identifier.Identifier.{Identifier}
use Rattle.dart_tree.specs.declared.identifier.Label.{Label}
use Rattle.dart_tree.specs.declared.expression.Atom.TheVariants as a
use Rattle.dart_tree.specs.LeafTokens.{sign_at, identifier_tokens, maybe_label}
use Rattle.dart_tree.specs.Tree as t
use Rattle.dart_tree.specs.Tree.{Expr, Items, Arguments}
use Rattle.dart_tree.specs.Tokens.{expr_tokens, items_tokens, arguments_tokens}
use Rattle.grammar_laws.specs.Codes.{has, Within, nowhere, after_list_from}
use Rattle.grammar_laws.specs.Readers.{Reader, always, mapped, both, option, many_from}
use Rattle.grammar_laws.specs.Fronts.{Front, Joint, JointBy, SeveralFrom, Either, OneOf, both_spelling, option_spelling, BothFit, BothFitBy, OptionFit, EitherFit, EachFitFrom, GoOnFrom, GoesOn, state_after}
use Rattle.grammar_laws.specs.Laws.{Laws}
use Rattle.grammar_laws.proofs.Codes.{apart, apart_none, apart_smaller, inside, clash, within_self, within_union, within_then, within_left, within_right}
use Rattle.grammar_laws.proofs.Restated.{made_laws, mapped_laws, refront, reread, wider}
use Rattle.grammar_laws.proofs.Combined.{both_laws, both_any_laws, both_by_any_laws}
use Rattle.grammar_laws.proofs.Followed.{option_plain_laws}
use Rattle.grammar_laws.proofs.Chosen.{by_two_laws}
use Rattle.grammar_laws.proofs.Stated.{many_from_laws}
use Rattle.grammar_laws.proofs.Wholes.{no_front}
use Rattle.dart_syntax.specs.Phrases.{Phrase, ◌~◌, ◌<|>◌, many, perhaps, made, Anything}
use Rattle.dart_syntax.specs.Leaves as l
use Rattle.dart_syntax.specs.Leaves.{sign_tokens, commas}
use Rattle.dart_syntax.specs.Agreement.{Agrees}
use Rattle.dart_syntax.specs.Expressions.{more_items, more_named, plain_then_named, named_items}
use Rattle.dart_syntax.proofs.AgreeingTypes.{one_name}
use Rattle.token_codes.specs.Codes.{class_of, names, these}
use Rattle.token_codes.specs.Leaves.{name_of, sign, label, identifier}
use Rattle.token_codes.specs.Reads.{Reads}
use Rattle.token_codes.proofs.Leaves.{sign_reads, label_reads, name_said}
use Rattle.syntax_readers.specs.Primaries.{expr_first, Argument, is_labelled, more_arguments, to_arguments, named_argument, argument, argument_list, arguments_over}
use Rattle.laws_expr.specs.Nexts.{after_expr}
use Rattle.laws_expr.proofs.Behind.{behind_exprs, under_expr}
use Rattle.laws_expr.proofs.Tokens.{refuses, mapped_inside}
use Rattle.laws_expr.proofs.Names.{past_name_laws}

-- the expression of a name alone
abbrev pub name_expr : Identifier → Expr
name_expr x = t.plain (t.primary (t.atom (a.Name x))) t.no_cascades

name_expr_says : (x : Identifier) → expr_tokens (name_expr x) ≡ identifier_tokens x
unfolding expr_tokens
name_expr_says x = append-nil (identifier_tokens x)

-- a name alone is an expression, or begins none
abbrev pub NamesFit : Phrase Expr → Type 0
NamesFit p = (x : Identifier) → p.Fits (name_expr x) ⊎ (p.front (identifier_tokens x) → ⊥)

module _ {expr : Reader Token Expr} {p : Phrase Expr} (E : Reads expr p expr_first after_expr false) (A : Agrees expr_tokens p) (names_fit : NamesFit p) where
  abbrev spell : Argument → List Token
  spell x = maybe_label x.0 ++ p.spelling x.1

  abbrev after : Argument → List ℕ
  after x = after_expr x.1 ++ these s.Colon

  abbrev behind : List ℕ
  behind = behind_exprs ++ these s.Colon

  under : (x : Argument) → Within (after x) behind
  under x = within_union (within_then (under_expr x.1) (within_left behind_exprs (these s.Colon))) (within_right behind_exprs (these s.Colon))

  abbrev named_of : Label × Expr → Argument
  named_of x = (Some x.0, x.1)

  abbrev plain_of : Expr → Argument
  plain_of e = (None, e)

  abbrev Named : Phrase Argument
  Named = made spell named_of (l.label ~ p)

  abbrev Plain : Phrase Argument
  Plain = made spell plain_of p

  named_laws : Reads (named_argument expr) Named names after false
  unfolding named_argument
  named_laws = made_laws (both_laws label_reads E (λ x fits. apart_none expr_first)) named_of spell after (λ x fits. refl) (λ x fits. within_left (after_expr x.1) (these s.Colon))

  plain_laws : Reads (mapped plain_of expr) Plain expr_first after false
  plain_laws = made_laws E plain_of spell after (λ x fits. refl) (λ x fits. within_left (after_expr x) (these s.Colon))

  -- ---- the next two tokens tell a named argument

  name_begins : (t : Token) → has names (class_of t) ≡ true → Named.front (t ∷ [])
  name_begins t h = inl (inl (inr (name_of t, sym (name_said t h))))

  named_refuses : (t u : Token) (ts : List Token) → has names (class_of t) ≡ true → has (these s.Colon) (class_of u) ≡ false → named_argument expr (t ∷ u ∷ ts) ≡ Err (u ∷ ts)
  unfolding named_argument label identifier
  named_refuses t u ts h off = rw (h, refuses (sign_reads s.Colon) (u ∷ ts) off) refl

  named_two : (t u : Token) (ts : List Token) (b c : Bool) → has names (class_of t) ≡ b → has (these s.Colon) (class_of u) ≡ c → Named.front (t ∷ u ∷ ts) → (b && c) ≡ true
  named_two t u ts true true h k f = refl
  named_two t u ts true false h k f = absurd (no_front named_laws (t ∷ u ∷ ts) u ts (named_refuses t u ts h k) f)
  named_two t u ts false c h k f = clash (has names (class_of t)) (named_laws.firsts t (u ∷ ts) f) h

  no_colon : (t u : Token) (ts : List Token) (x : Identifier) → identifier_tokens x ≡ t ∷ [] → has (these s.Colon) (class_of u) ≡ true → p.front (t ∷ u ∷ ts) → ⊥
  no_colon t u ts x e k f = elim (names_fit x) [
    | inl fits ↦ (apart {xs = behind_exprs} {ys = these s.Colon} refl).never_both (class_of u) ((under_expr (name_expr x)).in_second (class_of u) (E.nexts (name_expr x) u ts fits (subst p.front (ap (λ (m : List Token). m ++ u ∷ ts) (sym (A.spells (name_expr x) ∙ name_expr_says x ∙ e))) f))) k
    | inr never ↦ never (subst p.front (sym e) (E.closed (t ∷ []) (u ∷ ts) f))
  ]

  plain_two : (t u : Token) (ts : List Token) (b c : Bool) → has names (class_of t) ≡ b → has (these s.Colon) (class_of u) ≡ c → Either (OneOf class_of names) Plain.front (t ∷ u ∷ ts) → (b && c) ≡ false
  plain_two t u ts b c h k (inl (inl e)) = absurd cc
  plain_two t u ts b c h k (inl (inr (v, e, w))) = absurd cc
  plain_two t u ts false c h k (inr f) = refl
  plain_two t u ts true false h k (inr f) = refl
  plain_two t u ts true true h k (inr f) = absurd (no_colon t u ts (name_of t) (name_said t h) k f)

  named_long : (x : Argument) (t : Token) → Named.Fits x → spell x ≡ t ∷ [] → ⊥
  named_long x t ((name, e), fits, is) h =
      let one = one_name name.name in
      let two : one.0 ∷ sign_at name.colon s.Colon ∷ p.spelling e ≡ t ∷ [] = ap (λ (m : List Token). (m ++ sign_at name.colon s.Colon ∷ []) ++ p.spelling e) (sym one.1) ∙ ap spell is ∙ h in
      absurd cc

  abbrev both_front : Front Token
  both_front = Either Named.front (Either (OneOf class_of names) Plain.front)

  either_argument_laws : Laws class_of (argument expr false) spell (EitherFit Named.Fits Plain.Fits) both_front expr_first after false
  unfolding argument
  either_argument_laws = wider (by_two_laws named_laws (past_name_laws plain_laws (inside refl)) names (these s.Colon) name_begins (λ t f. inl (inr (t, refl, named_laws.firsts t [] f)))
      (λ t u ts f. named_two t u ts (has names (class_of t)) (has (these s.Colon) (class_of u)) refl refl f) (λ t u ts f. plain_two t u ts (has names (class_of t)) (has (these s.Colon) (class_of u)) refl refl f)
      named_long (λ x t fits e h. within_right (after_expr x.1) (these s.Colon))) (inside refl) (λ x fits. within_self (after x))

  -- ---- further arguments: behind a named one only named ones

  abbrev ArgFits : Bool → Argument → Type 0
  ArgFits true = Named.Fits
  ArgFits false = EitherFit Named.Fits Plain.Fits

  abbrev arg_front : Bool → Front Token
  arg_front true = Named.front
  arg_front false = both_front

  abbrev arg_first : Bool → List ℕ
  arg_first true = names
  arg_first false = expr_first

  argument_laws : (s : Bool) → Laws class_of (argument expr s) spell (ArgFits s) (arg_front s) (arg_first s) after false
  unfolding argument
  argument_laws true = named_laws
  argument_laws false = either_argument_laws

  abbrev item_spell : Place × Argument → List Token
  item_spell = both_spelling (sign_tokens s.Comma) spell

  abbrev ItemFits : Bool → Place × Argument → Type 0
  ItemFits n = BothFit Anything (ArgFits n)

  abbrev item_front : Bool → Front Token
  item_front n = Joint (sign_tokens s.Comma) Anything always (l.sign s.Comma).front (arg_front n)

  abbrev may : Bool → Place × Argument → Bool
  may n y = true

  abbrev step : Bool → Place × Argument → Bool
  step n y = is_labelled y.1

  item_laws : (n : Bool) → Laws class_of (both (sign s.Comma) (argument expr n)) item_spell (ItemFits n) (item_front n) (these s.Comma) (λ y. after y.1) false
  item_laws n = both_laws (sign_reads s.Comma) (argument_laws n) (λ place fits. apart_none (arg_first n))

  abbrev behind_all : List ℕ
  behind_all = these s.Comma ++ behind

  under_list : (n : Bool) (all : List (Place × Argument)) → Within (after_list_from (λ (m : Bool). these s.Comma) may step (λ y. after y.1) n all) behind_all
  under_list n [] = within_left (these s.Comma) behind
  under_list n (y ∷ []) = within_union (within_then (under y.1) (within_right (these s.Comma) behind)) (within_left (these s.Comma) behind)
  under_list n (y ∷ z ∷ more) = under_list (step n y) (z ∷ more)

  more_laws : (n : Bool) → Laws class_of (many_from class_of (λ (m : Bool). these s.Comma) (λ m. both (sign s.Comma) (argument expr m)) may step n) (flat_map item_spell) (EachFitFrom ItemFits may step n) (SeveralFrom item_spell ItemFits may step item_front n) (these s.Comma) (λ all. behind_all) true
  more_laws n = wider (many_from_laws item_laws may step (λ m y fits on. apart_smaller (under y.1) (apart refl)) n) (within_self (these s.Comma)) (λ all fits. under_list n all)

  abbrev ListFits : Argument × List (Place × Argument) → Type 0
  ListFits = BothFitBy (EitherFit Named.Fits Plain.Fits) (λ x. EachFitFrom ItemFits may step (is_labelled x))

  abbrev list_front : Front Token
  list_front = JointBy spell (EitherFit Named.Fits Plain.Fits) always both_front (λ x. SeveralFrom item_spell ItemFits may step item_front (is_labelled x))

  abbrev list_spell : Argument × List (Place × Argument) → List Token
  list_spell = both_spelling spell (flat_map item_spell)

  list_laws : Laws class_of (argument_list expr) list_spell ListFits list_front expr_first (λ x. behind_all) false
  unfolding argument_list
  list_laws = wider (both_by_any_laws either_argument_laws (λ x fits. more_laws (is_labelled x)) (λ x fits. apart_smaller (under x) (apart refl))) (inside refl)
      (λ x fits. within_union (within_self behind_all) (within_then (under x.0) (within_right (these s.Comma) behind)))

  -- ---- the same arguments as the grammar lists them

  abbrev CommaNamed : Phrase (Place × (Label × Expr))
  CommaNamed = l.sign s.Comma ~ l.label ~ p

  abbrev CommaPlain : Phrase (Place × Expr)
  CommaPlain = l.sign s.Comma ~ p

  abbrev as_nameds : List (Place × (Label × Expr)) → List (Place × Argument)
  as_nameds [] = []
  as_nameds (x ∷ more) = (x.0, named_of x.1) ∷ as_nameds more

  abbrev as_plains : List (Place × Expr) → List (Place × Argument) → List (Place × Argument)
  as_plains [] rest = rest
  as_plains (x ∷ more) rest = (x.0, plain_of x.1) ∷ as_plains more rest

  nameds : (all : List (Place × Argument)) → EachFitFrom ItemFits may step true all → (ns : List (Place × (Label × Expr))) × AllByRecursion CommaNamed.Fits ns × (all ≡ as_nameds ns)
  nameds [] fits = ([], tt, refl)
  nameds ((c, y) ∷ more) ((at, (x, fit, is)), ok, rest) =
      let w = nameds more (subst (λ z. EachFitFrom ItemFits may step (is_labelled z) more) (sym is) rest) in
      ((c, x) ∷ w.0, ((tt, fit), w.1), ap₂ (λ (z : Argument) (m : List (Place × Argument)). (c, z) ∷ m) (sym is) w.2)

  plains : (all : List (Place × Argument)) → EachFitFrom ItemFits may step false all → (ps : List (Place × Expr)) × (ns : List (Place × (Label × Expr))) × AllByRecursion CommaPlain.Fits ps × AllByRecursion CommaNamed.Fits ns × (all ≡ as_plains ps (as_nameds ns))
  plains [] fits = ([], [], tt, tt, refl)
  plains ((c, y) ∷ more) ((at, inl (x, fit, is)), ok, rest) =
      let w = nameds more (subst (λ z. EachFitFrom ItemFits may step (is_labelled z) more) (sym is) rest) in
      ([], (c, x) ∷ w.0, tt, ((tt, fit), w.1), ap₂ (λ (z : Argument) (m : List (Place × Argument)). (c, z) ∷ m) (sym is) w.2)
  plains ((c, y) ∷ more) ((at, inr (x, fit, is)), ok, rest) =
      let w = plains more (subst (λ z. EachFitFrom ItemFits may step (is_labelled z) more) (sym is) rest) in
      ((c, x) ∷ w.0, w.1, ((tt, fit), w.2), w.3, ap₂ (λ (z : Argument) (m : List (Place × Argument)). (c, z) ∷ m) (sym is) w.4)

  each_named : (ns : List (Place × (Label × Expr))) → AllByRecursion CommaNamed.Fits ns → EachFitFrom ItemFits may step true (as_nameds ns)
  each_named [] fits = tt
  each_named (x ∷ more) fits = ((tt, (x.1, fits.0.1, refl)), refl, each_named more fits.1)

  each_later : (ns : List (Place × (Label × Expr))) → AllByRecursion CommaNamed.Fits ns → EachFitFrom ItemFits may step false (as_nameds ns)
  each_later [] fits = tt
  each_later (x ∷ more) fits = ((tt, inl (x.1, fits.0.1, refl)), refl, each_named more fits.1)

  each_plain : (ps : List (Place × Expr)) (ns : List (Place × (Label × Expr))) → AllByRecursion CommaPlain.Fits ps → AllByRecursion CommaNamed.Fits ns → EachFitFrom ItemFits may step false (as_plains ps (as_nameds ns))
  each_plain [] ns fits later = each_later ns later
  each_plain (x ∷ more) ns fits later = ((tt, inr (x.1, fits.0.1, refl)), refl, each_plain more ns fits.1 later)

  named_same : (ns : List (Place × (Label × Expr))) → more_arguments (as_nameds ns) ≡ more_named ns
  named_same [] = refl
  named_same (x ∷ more) = ap (t.item (Some x.0) (Some x.1.0) x.1.1) (named_same more)

  plain_same : (ps : List (Place × Expr)) (ns : List (Place × (Label × Expr))) → more_arguments (as_plains ps (as_nameds ns)) ≡ more_items ps (more_named ns)
  plain_same [] ns = named_same ns
  plain_same (x ∷ more) ns = ap (t.item (Some x.0) None x.1) (plain_same more ns)

  said_more : (all : List (Place × Argument)) → items_tokens (more_arguments all) ≡ flat_map item_spell all
  unfolding items_tokens
  said_more [] = refl
  said_more (x ∷ more) = simp (append_assoc, A.spells x.1.1, said_more more)

  said_list : (x : Argument × List (Place × Argument)) → items_tokens (to_arguments (Some x)) ≡ list_spell x
  unfolding items_tokens
  said_list x = simp (append_assoc, A.spells x.0.1, said_more x.1)

  abbrev items_over : Phrase Items
  items_over = perhaps t.no_items (made items_tokens plain_then_named (commas p ~ many (l.sign s.Comma ~ l.label ~ p)) <|> made items_tokens named_items (commas (l.label ~ p)))

  forth : (o : Option (Argument × List (Place × Argument))) → OptionFit ListFits o → items_over.Fits (to_arguments o) × (items_tokens (to_arguments o) ≡ option_spelling list_spell o) × Within (expr_first ++ behind_all) (expr_first ++ behind_all)
  unfolding items_tokens
  forth None fits = (inl refl, refl, within_self _)
  forth (Some (x, all)) (inl (n, fit, is), more) =
      let w = nameds all (subst (λ z. EachFitFrom ItemFits may step (is_labelled z) all) (sym is) more) in
      (inr (inr ((n, w.0), (fit, w.1), ap (t.item None (Some n.0) n.1) (sym (named_same w.0)) ∙ ap₂ (λ (z : Argument) (m : List (Place × Argument)). to_arguments (Some (z, m))) is (sym w.2))), said_list (x, all), within_self _)
  forth (Some (x, all)) (inr (e, fit, is), more) =
      let w = plains all (subst (λ z. EachFitFrom ItemFits may step (is_labelled z) all) (sym is) more) in
      (inr (inl (((e, w.0), w.1), ((fit, w.2), w.3), ap (t.item None None e) (sym (plain_same w.0 w.1)) ∙ ap₂ (λ (z : Argument) (m : List (Place × Argument)). to_arguments (Some (z, m))) is (sym w.4))), said_list (x, all), within_self _)

  back : (y : Items) → items_over.Fits y → (o : Option (Argument × List (Place × Argument))) × OptionFit ListFits o × (to_arguments o ≡ y)
  back y (inl e) = (None, tt, sym e)
  back y (inr (inl (((e, ps), ns), ((fit, pf), nf), is))) = (Some (plain_of e, as_plains ps (as_nameds ns)), (inr (e, fit, refl), each_plain ps ns pf nf), ap (t.item None None e) (plain_same ps ns) ∙ is)
  back y (inr (inr ((n, ns), (fit, nf), is))) = (Some (named_of n, as_nameds ns), (inl (n, fit, refl), each_named ns nf), ap (t.item None (Some n.0) n.1) (named_same ns) ∙ is)

  -- ---- and their fronts

  go_each : (n : Bool) (all : List (Place × Argument)) → GoOnFrom ItemFits may step n all → EachFitFrom ItemFits may step n all
  go_each n [] go = tt
  go_each n (x ∷ more) go = (go.0, refl, go_each (step n x) more go.2)

  each_go : (n : Bool) (all : List (Place × Argument)) → EachFitFrom ItemFits may step n all → GoOnFrom ItemFits may step n all
  each_go n [] each = tt
  each_go n (x ∷ more) each = (each.0, refl, each_go (step n x) more each.2)

  go_all : {X : Type 0} (F : X → Type 0) (all : List X) → AllByRecursion F all → AllByRecursion (GoesOn F always) all
  go_all F [] fits = tt
  go_all F (x ∷ more) fits = ((fits.0, refl), go_all F more fits.1)

  all_go : {X : Type 0} (F : X → Type 0) (all : List X) → AllByRecursion (GoesOn F always) all → AllByRecursion F all
  all_go F [] go = tt
  all_go F (x ∷ more) go = (go.0.0, all_go F more go.1)

  spelt_named : (ns : List (Place × (Label × Expr))) → flat_map item_spell (as_nameds ns) ≡ flat_map CommaNamed.spelling ns
  spelt_named [] = refl
  spelt_named (x ∷ more) = ap (λ (m : List Token). item_spell (x.0, named_of x.1) ++ m) (spelt_named more)

  spelt_plain : (ps : List (Place × Expr)) (rest : List (Place × Argument)) → flat_map item_spell (as_plains ps rest) ≡ flat_map CommaPlain.spelling ps ++ flat_map item_spell rest
  spelt_plain [] rest = refl
  spelt_plain (x ∷ more) rest = ap (λ (m : List Token). item_spell (x.0, plain_of x.1) ++ m) (spelt_plain more rest) ∙ sym (append_assoc (CommaPlain.spelling x) (flat_map CommaPlain.spelling more) (flat_map item_spell rest))

  state_named : (ns : List (Place × (Label × Expr))) → state_after step true (as_nameds ns) ≡ true
  state_named [] = refl
  state_named (x ∷ more) = state_named more

  state_plain : (ps : List (Place × Expr)) (rest : List (Place × Argument)) → state_after step false (as_plains ps rest) ≡ state_after step false rest
  state_plain [] rest = refl
  state_plain (x ∷ more) rest = state_plain more rest

  label_begun : (ts : List Token) → OneOf class_of names ts → Named.front ts
  label_begun ts (inl e) = subst Named.front (sym e) named_laws.none
  label_begun ts (inr (t, e, h)) = subst Named.front (sym e) (name_begins t h)

  item_out : (n : Bool) (rest : List Token) → item_front n rest → CommaNamed.front rest ⊎ CommaPlain.front rest
  item_out true rest f = inl f
  item_out false rest (inl leaf) = inr (inl leaf)
  item_out false rest (inr (c, more, at, on, e, inl f)) = inl (inr (c, more, at, on, e, f))
  item_out false rest (inr (c, more, at, on, e, inr (inl f))) = inl (inr (c, more, at, on, e, label_begun more f))
  item_out false rest (inr (c, more, at, on, e, inr (inr f))) = inr (inr (c, more, at, on, e, f))

  named_into : (n : Bool) (rest : List Token) → CommaNamed.front rest → item_front n rest
  named_into true rest f = f
  named_into false rest (inl leaf) = inl leaf
  named_into false rest (inr (c, more, at, on, e, f)) = inr (c, more, at, on, e, inl f)

  plain_into : (rest : List Token) → CommaPlain.front rest → item_front false rest
  plain_into rest (inl leaf) = inl leaf
  plain_into rest (inr (c, more, at, on, e, f)) = inr (c, more, at, on, e, inr (inr f))

  -- the tokens behind the first argument, as the grammar lists them
  regrouped : (ps : List (Place × Expr)) (ns : List (Place × (Label × Expr))) (more rest : List Token) → more ≡ flat_map item_spell (as_plains ps (as_nameds ns)) ++ rest → more ≡ flat_map CommaPlain.spelling ps ++ (flat_map CommaNamed.spelling ns ++ rest)
  regrouped ps ns more rest e = e ∙ ap (λ (m : List Token). m ++ rest) (spelt_plain ps (as_nameds ns) ∙ ap (λ (m : List Token). flat_map CommaPlain.spelling ps ++ m) (spelt_named ns)) ∙ append_assoc (flat_map CommaPlain.spelling ps) (flat_map CommaNamed.spelling ns) rest

  out_plain : (e : Expr) (ps : List (Place × Expr)) (ns : List (Place × (Label × Expr))) (ts more rest : List Token) → p.Fits e → AllByRecursion CommaPlain.Fits ps → AllByRecursion CommaNamed.Fits ns → ts ≡ p.spelling e ++ more → more ≡ flat_map CommaPlain.spelling ps ++ (flat_map CommaNamed.spelling ns ++ rest) →
      item_front (state_after step false (as_nameds ns)) rest → items_over.front ts
  out_plain e ps [] ts more rest fit pf nf is is' f = elim (item_out false rest f) [
    | inl named ↦ inr (inl (inr ((e, ps), rest, (fit, pf), refl, is ∙ ap (λ (m : List Token). p.spelling e ++ m) is' ∙ sym (append_assoc (p.spelling e) (flat_map CommaPlain.spelling ps) rest), ([], rest, tt, refl, named))))
    | inr plain ↦ inr (inl (inl (inr (e, more, fit, refl, is, (ps, rest, go_all CommaPlain.Fits ps pf, is', plain)))))
  ]
  out_plain e ps (n ∷ ns) ts more rest fit pf nf is is' f =
      let own : CommaNamed.front rest = subst (λ b. item_front b rest) (state_named ns) f in
      inr (inl (inr ((e, ps), flat_map CommaNamed.spelling (n ∷ ns) ++ rest, (fit, pf), refl, is ∙ ap (λ (m : List Token). p.spelling e ++ m) is' ∙ sym (append_assoc (p.spelling e) (flat_map CommaPlain.spelling ps) (flat_map CommaNamed.spelling (n ∷ ns) ++ rest)), (n ∷ ns, rest, go_all CommaNamed.Fits (n ∷ ns) nf, refl, own))))

  out : (ts : List Token) → list_front ts → items_over.front ts
  out ts (inl (inl f)) = inr (inr (inl f))
  out ts (inl (inr (inl f))) = inr (inr (inl (label_begun ts f)))
  out ts (inl (inr (inr f))) = inr (inl (inl (inl f)))
  out ts (inr (x, more, inl (n, fit, is), on, e, (all, rest, go, e', f))) =
      let w = nameds all (subst (λ z. EachFitFrom ItemFits may step (is_labelled z) all) (sym is) (go_each (is_labelled x) all go)) in
      let state : state_after step (is_labelled x) all ≡ true = ap₂ (λ (z : Argument) (m : List (Place × Argument)). state_after step (is_labelled z) m) (sym is) w.2 ∙ state_named w.0 in
      inr (inr (inr (
        n,
        more,
        fit,
        refl,
        e ∙ ap (λ (z : Argument). spell z ++ more) (sym is),
        (w.0, rest, go_all CommaNamed.Fits w.0 w.1, e' ∙ ap (λ (m : List (Place × Argument)). flat_map item_spell m ++ rest) w.2 ∙ ap (λ (m : List Token). m ++ rest) (spelt_named w.0), subst (λ b. item_front b rest) state f),
      )))
  out ts (inr (x, more, inr (a, fit, is), on, e, (all, rest, go, e', f))) =
      let w = plains all (subst (λ z. EachFitFrom ItemFits may step (is_labelled z) all) (sym is) (go_each (is_labelled x) all go)) in
      let state : state_after step (is_labelled x) all ≡ state_after step false (as_nameds w.1) = ap₂ (λ (z : Argument) (m : List (Place × Argument)). state_after step (is_labelled z) m) (sym is) w.4 ∙ state_plain w.0 (as_nameds w.1) in
      out_plain a w.0 w.1 ts more rest fit w.2 w.3 (e ∙ ap (λ (z : Argument). spell z ++ more) (sym is)) (regrouped w.0 w.1 more rest (e' ∙ ap (λ (m : List (Place × Argument)). flat_map item_spell m ++ rest) w.4)) (subst (λ b. item_front b rest) state f)

  later_into : (ns : List (Place × (Label × Expr))) (rest : List Token) → CommaNamed.front rest → item_front (state_after step false (as_nameds ns)) rest
  later_into [] rest f = named_into false rest f
  later_into (n ∷ ns) rest f = subst (λ b. item_front b rest) (sym (state_named ns)) f

  into : (ts : List Token) → items_over.front ts → list_front ts
  into ts (inl e) = subst list_front (sym e) (inl (inr (inr E.none)))
  into ts (inr (inr (inl f))) = inl (inl f)
  into ts (inr (inr (inr (n, more, fit, on, e, (ns, rest, go, e', f))))) =
      inr (named_of n, more, inl (n, fit, refl), refl, e, (as_nameds ns, rest, each_go true (as_nameds ns) (each_named ns (all_go CommaNamed.Fits ns go)), e' ∙ ap (λ (m : List Token). m ++ rest) (sym (spelt_named ns)), subst (λ b. item_front b rest) (sym (state_named ns)) f))
  into ts (inr (inl (inl (inl f)))) = inl (inr (inr f))
  into ts (inr (inl (inl (inr (a, more, fit, on, e, (ps, rest, go, e', f)))))) =
      inr (plain_of a, more, inr (a, fit, refl), refl, e, (as_plains ps [], rest, each_go false (as_plains ps []) (each_plain ps [] (all_go CommaPlain.Fits ps go) tt), e' ∙ ap (λ (m : List Token). m ++ rest) (sym (spelt_plain ps [] ∙ append-nil (flat_map CommaPlain.spelling ps))), subst (λ b. item_front b rest) (sym (state_plain ps [])) (plain_into rest f)))
  into ts (inr (inl (inr ((a, ps), more, fits, on, e, (ns, rest, go, e', f))))) =
      inr (
        plain_of a,
        flat_map CommaPlain.spelling ps ++ more,
        inr (a, fits.0, refl),
        refl,
        e ∙ append_assoc (p.spelling a) (flat_map CommaPlain.spelling ps) more,
        (
          as_plains ps (as_nameds ns),
          rest,
          each_go false (as_plains ps (as_nameds ns)) (each_plain ps ns fits.1 (all_go CommaNamed.Fits ns go)),
          ap (λ (m : List Token). flat_map CommaPlain.spelling ps ++ m) e' ∙ sym (append_assoc (flat_map CommaPlain.spelling ps) (flat_map CommaNamed.spelling ns) rest) ∙ ap (λ (m : List Token). m ++ rest) (sym (spelt_plain ps (as_nameds ns) ∙ ap (λ (m : List Token). flat_map CommaPlain.spelling ps ++ m) (spelt_named ns))),
          subst (λ b. item_front b rest) (sym (state_plain ps (as_nameds ns))) (later_into ns rest f),
        ),
      )

  items_laws : Laws class_of (mapped to_arguments (option class_of expr_first (argument_list expr))) items_tokens items_over.Fits items_over.front expr_first (λ x. expr_first ++ behind_all) true
  items_laws = refront (mapped_laws (option_plain_laws list_laws {codes = expr_first ++ behind_all} (within_left expr_first behind_all) (λ x fits. within_right expr_first behind_all)) to_arguments items_tokens (λ x. expr_first ++ behind_all) forth back) out into

  abbrev the : Place × (Items × Place) → Arguments
  the x = t.the_arguments x.0 x.1.0 x.1.1

  pub arguments_laws : Reads (arguments_over expr) (made arguments_tokens the (l.sign s.LeftParenthesis ~ items_over ~ l.sign s.RightParenthesis)) (these s.LeftParenthesis) nowhere false
  unfolding arguments_over arguments_tokens
  arguments_laws = reread (made_laws (both_laws (sign_reads s.LeftParenthesis) (both_any_laws items_laws (sign_reads s.RightParenthesis) (λ x fits. apart refl)) (λ place fits. apart_none _)) the arguments_tokens nowhere (λ x fits. refl) (λ x fits. within_self []))
      (mapped_inside to_arguments (sign s.LeftParenthesis) (option class_of expr_first (argument_list expr)) (sign s.RightParenthesis) t.the_arguments)
