-- The law of a list or a map: behind type arguments the second try tells which.
use Rattle.std.proofs.Common.{◌≡◌, Bool, true, false, List, [], ◌∷◌, ◌++◌, Option, None, Some, Ok, Err, inl, inr, refl, ap, sym, ◌∙◌, subst, append_assoc}
use Rattle.std.proofs.lemmas.List.{append-nil}
use Rattle.dart_base.specs.declared.place.Place.{Place}
use Rattle.dart_token.specs.declared.token.Token.{Token}
use Rattle.dart_token.specs.declared.sign.Sign.TheVariants as s
use Rattle.dart_tree.specs.LeafTokens.{sign_at, maybe_sign, type_tokens, type_arguments_tokens}
use Rattle.dart_tree.specs.Types.{TypeNode, TypeArguments, TypeList, listed_types}
use Rattle.dart_tree.specs.Tree.{Primary, Items, Entries}
use Rattle.dart_tree.specs.Tokens.{primary_tokens, items_tokens, entries_tokens}
use Rattle.grammar_laws.specs.Codes.{has, nowhere}
use Rattle.grammar_laws.specs.Fronts.{FirstFit, EitherFit}
use Rattle.grammar_laws.specs.Readers.{Reader, mapped, starts, both, option, tried, by_first}
use Rattle.grammar_laws.specs.Halves.{strict}
use Rattle.grammar_laws.proofs.Codes.{apart, not_true, clash, within_self, inside}
use Rattle.grammar_laws.proofs.Restated.{reread, refit, wider}
use Rattle.grammar_laws.proofs.Steps.{mapped_fails, mapped_gives, both_fails, both_second_fails, option_fails, either_first, either_second}
use Rattle.grammar_laws.proofs.Tried.{tried_laws, stops_nowhere}
use Rattle.grammar_laws.proofs.Wholes.{no_front}
use Rattle.dart_syntax.specs.Types as y
use Rattle.dart_syntax.specs.Types.{in_angles, pair_of_types}
use Rattle.dart_syntax.specs.Expressions as g
use Rattle.dart_syntax.specs.Expressions.{a_list, a_map}
use Rattle.token_codes.specs.Codes.{class_of, sign_code, these}
use Rattle.token_codes.specs.Leaves.{sign}
use Rattle.token_codes.specs.Reads.{Reads}
use Rattle.token_codes.proofs.Leaves.{sign_reads}
use Rattle.laws_type.specs.Nexts.{after_type}
use Rattle.laws_type.specs.Statements.{two_over}
use Rattle.laws_type.proofs.Types.{under_type}
use Rattle.syntax_readers.specs.Types.{two_types, type_arguments}
use Rattle.syntax_readers.specs.Primaries.{ExprReaders, list_items, map_entries, list_over, map_over, collection_over}
use Rattle.laws_expr.specs.Statements.{collections_over, collection_first}
use Rattle.laws_expr.proofs.Known.{ClosedRead}
use Rattle.laws_expr.proofs.Tokens.{refuses, starts_apart, only_first, only_second}
use Rattle.laws_expr.proofs.Collections.{one_type, one_over, list_laws, map_laws}

module _ {here : ExprReaders} {nodes : g.ExprNodes} (N : ClosedRead here nodes) where
  abbrev list_reader : Reader Token Primary
  list_reader = list_over here.type (strict here.expr)

  abbrev map_reader : Reader Token Primary
  map_reader = map_over here.type (strict here.expr)

  abbrev IsList : Primary → Type 0
  IsList = (g.list_over nodes).Fits

  abbrev IsMap : Primary → Type 0
  IsMap = (g.map_over nodes).Fits

  -- ---- a type behind `<` and what comes behind it

  type_there : (T : TypeNode) (t : Token) (more : List Token) → nodes.type.Fits T → has (sign_code s.Less ∷ sign_code s.Dot ∷ []) (class_of t) ≡ false → here.type (nodes.type.spelling T ++ t ∷ more) ≡ Ok (T, t ∷ more)
  type_there T t more fits off = N.type.complete T (t ∷ more) fits (not_true (has (after_type T) (class_of t)) (λ h. clash (has (sign_code s.Less ∷ sign_code s.Dot ∷ []) (class_of t)) ((under_type T).in_second (class_of t) h) off))

  less_there : (o : Place) (ts : List Token) → sign s.Less (sign_at o s.Less ∷ ts) ≡ Ok (o, ts)
  less_there o ts = (sign_reads s.Less).complete o ts tt (stops_nowhere class_of ts)

  abbrev angles : Reader Token TypeList → Reader Token (Place × (TypeList × Place))
  angles inner = both (sign s.Less) (both inner (sign s.Greater))

  abbrev map_rest : Reader Token (Place × ((Entries × Option Place) × Place))
  map_rest = both (sign s.LeftBrace) (both (map_entries (strict here.expr)) (sign s.RightBrace))

  abbrev list_rest : Reader Token (Place × ((Items × Option Place) × Place))
  list_rest = both (sign s.LeftBracket) (both (list_items (strict here.expr)) (sign s.RightBracket))

  abbrev map_of : TypeArguments × (Place × ((Entries × Option Place) × Place)) → Primary
  map_of x = a_map x.0 x.1.0 x.1.1.0 x.1.1.1

  abbrev list_of : TypeArguments × (Place × ((Items × Option Place) × Place)) → Primary
  list_of x = a_list x.0 x.1.0 x.1.1.0 x.1.1.1

  abbrev two_inside : Reader Token (TypeNode × (Place × TypeNode))
  two_inside = both here.type (both (sign s.Comma) here.type)

  map_refuses : (o c : Place) (T : TypeNode) (more : List Token) → nodes.type.Fits T → map_reader (sign_at o s.Less ∷ (nodes.type.spelling T ++ sign_at c s.Greater ∷ more)) ≡ Err (sign_at c s.Greater ∷ more)
  unfolding map_over type_arguments two_types class_of
  map_refuses o c T more fits =
      let end : List Token = sign_at c s.Greater ∷ more in
      let mid : List Token = nodes.type.spelling T ++ end in
      let ts : List Token = sign_at o s.Less ∷ mid in
      let two : two_types here.type mid ≡ Err end = mapped_fails pair_of_types two_inside mid end (both_second_fails here.type (λ _. both (sign s.Comma) here.type) mid end end T (type_there T (sign_at c s.Greater) more fits refl) (both_fails (sign s.Comma) (λ _. here.type) end end (refuses (sign_reads s.Comma) end refl))) in
      mapped_fails map_of (both (type_arguments (two_types here.type)) map_rest) ts end (both_fails (type_arguments (two_types here.type)) (λ _. map_rest) ts end
      (mapped_fails in_angles (option class_of (these s.Less) (angles (two_types here.type))) ts end (option_fails class_of (these s.Less) (angles (two_types here.type)) ts end refl (both_second_fails (sign s.Less) (λ _. both (two_types here.type) (sign s.Greater)) ts mid end o (less_there o mid) (both_fails (two_types here.type) (λ _. sign s.Greater) mid end two)))))

  list_refuses : (o c : Place) (T : TypeNode) (more : List Token) → nodes.type.Fits T → list_reader (sign_at o s.Less ∷ (nodes.type.spelling T ++ sign_at c s.Comma ∷ more)) ≡ Err (sign_at c s.Comma ∷ more)
  unfolding list_over type_arguments class_of
  list_refuses o c T more fits =
      let end : List Token = sign_at c s.Comma ∷ more in
      let mid : List Token = nodes.type.spelling T ++ end in
      let ts : List Token = sign_at o s.Less ∷ mid in
      mapped_fails list_of (both (type_arguments (mapped one_type here.type)) list_rest) ts end (both_fails (type_arguments (mapped one_type here.type)) (λ _. list_rest) ts end
      (mapped_fails in_angles (option class_of (these s.Less) (angles (mapped one_type here.type))) ts end (option_fails class_of (these s.Less) (angles (mapped one_type here.type)) ts end refl (both_second_fails (sign s.Less) (λ _. both (mapped one_type here.type) (sign s.Greater)) ts mid end o (less_there o mid)
      (both_second_fails (mapped one_type here.type) (λ _. sign s.Greater) mid end end (one_type T) (mapped_gives one_type here.type mid end T (type_there T (sign_at c s.Comma) more fits refl)) (refuses (sign_reads s.Greater) end refl))))))

  -- ---- no list begins a map, and no map a list

  one_split : (o c : Place) (T : TypeNode) (R : List Token) → type_arguments_tokens (listed_types o (one_type T) c) ++ R ≡ sign_at o s.Less ∷ (nodes.type.spelling T ++ sign_at c s.Greater ∷ R)
  one_split o c T R = rw (N.agrees.type.spells T) (simp (append_assoc, append-nil))

  two_split : (o c : Place) (x : TypeNode × (Place × TypeNode)) (R : List Token) → type_arguments_tokens (listed_types o (pair_of_types x) c) ++ R ≡ sign_at o s.Less ∷ (nodes.type.spelling x.0 ++ sign_at x.1.0 s.Comma ∷ (type_tokens x.1.1 ++ sign_at c s.Greater ∷ R))
  two_split o c x R = rw (N.agrees.type.spells x.0) (simp (append_assoc, append-nil))

  bracket_begins_no_map : (opening : Place) → has (sign_code s.Less ∷ these s.LeftBrace) (class_of (sign_at opening s.LeftBracket)) ≡ true → ⊥
  unfolding class_of
  bracket_begins_no_map opening h = cc

  brace_begins_no_list : (opening : Place) → has (sign_code s.Less ∷ these s.LeftBracket) (class_of (sign_at opening s.LeftBrace)) ≡ true → ⊥
  unfolding class_of
  brace_begins_no_list opening h = cc

  map_front_not : (types : TypeArguments) (opening : Place) (R : List Token) → (y.type_arguments (one_over nodes.type)).Fits types → (g.map_over nodes).front (type_arguments_tokens types ++ sign_at opening s.LeftBracket ∷ R) → ⊥
  map_front_not types opening R (None, of, e) f =
      bracket_begins_no_map opening ((map_laws N).firsts (sign_at opening s.LeftBracket) R (subst (g.map_over nodes).front (ap (λ y. type_arguments_tokens y ++ sign_at opening s.LeftBracket ∷ R) (sym e)) f))
  map_front_not types opening R (Some (o, (listed, c)), (a, ((T, fits, one), b)), e) f =
      let behind : List Token = sign_at opening s.LeftBracket ∷ R in
      no_front (map_laws N) (sign_at o s.Less ∷ (nodes.type.spelling T ++ sign_at c s.Greater ∷ behind)) (sign_at c s.Greater) behind (map_refuses o c T behind fits)
      (subst (g.map_over nodes).front (ap (λ y. type_arguments_tokens y ++ behind) (sym e) ∙ ap (λ y. type_arguments_tokens (listed_types o y c) ++ behind) (sym one) ∙ one_split o c T behind) f)

  list_front_not : (types : TypeArguments) (opening : Place) (R : List Token) → (y.type_arguments (two_over nodes.type)).Fits types → (g.list_over nodes).front (type_arguments_tokens types ++ sign_at opening s.LeftBrace ∷ R) → ⊥
  list_front_not types opening R (None, of, e) f =
      brace_begins_no_list opening ((list_laws N).firsts (sign_at opening s.LeftBrace) R (subst (g.list_over nodes).front (ap (λ y. type_arguments_tokens y ++ sign_at opening s.LeftBrace ∷ R) (sym e)) f))
  list_front_not types opening R (Some (o, (listed, c)), (a, ((x, fits, two), b)), e) f =
      let behind : List Token = sign_at opening s.LeftBrace ∷ R in
      let more : List Token = type_tokens x.1.1 ++ sign_at c s.Greater ∷ behind in
      no_front (list_laws N) (sign_at o s.Less ∷ (nodes.type.spelling x.0 ++ sign_at x.1.0 s.Comma ∷ more)) (sign_at x.1.0 s.Comma) more (list_refuses o x.1.0 x.0 more fits.0)
      (subst (g.list_over nodes).front (ap (λ y. type_arguments_tokens y ++ behind) (sym e) ∙ ap (λ y. type_arguments_tokens (listed_types o y c) ++ behind) (sym two) ∙ two_split o c x behind) f)

  no_map : (x : Primary) (ts : List Token) → IsList x → (g.map_over nodes).front (primary_tokens x ++ ts) → ⊥
  unfolding primary_tokens
  no_map x ts ((types, (opening, (items, closing))), fits, is) f =
      let rest : List Token = items_tokens items.0 ++ (maybe_sign items.1 s.Comma ++ sign_at closing s.RightBracket ∷ []) in
      map_front_not types opening (rest ++ ts) fits.0 (subst (g.map_over nodes).front (ap (λ y. primary_tokens y ++ ts) (sym is) ∙ append_assoc (type_arguments_tokens types) (sign_at opening s.LeftBracket ∷ rest) ts) f)

  no_list : (x : Primary) (ts : List Token) → IsMap x → (g.list_over nodes).front (primary_tokens x ++ ts) → ⊥
  unfolding primary_tokens
  no_list x ts ((types, (opening, (entries, closing))), fits, is) f =
      let rest : List Token = entries_tokens entries.0 ++ (maybe_sign entries.1 s.Comma ++ sign_at closing s.RightBrace ∷ []) in
      list_front_not types opening (rest ++ ts) fits.0 (subst (g.list_over nodes).front (ap (λ y. primary_tokens y ++ ts) (sym is) ∙ append_assoc (type_arguments_tokens types) (sign_at opening s.LeftBrace ∷ rest) ts) f)

  -- ---- the reader is a second try wherever it begins

  abbrev others : Reader Token Primary
  others = by_first class_of (these s.LeftBrace) map_reader (tried list_reader map_reader)

  same_by : (ts : List Token) (b c : Bool) → starts class_of (these s.LeftBracket) ts ≡ b → starts class_of (these s.LeftBrace) ts ≡ c → collection_over here.type (strict here.expr) ts ≡ tried list_reader map_reader ts
  unfolding collection_over
  same_by ts true c h k = either_first (starts class_of (these s.LeftBracket)) list_reader others ts h ∙ sym (only_first (list_laws N) map_reader ts (refuses (map_laws N) ts (starts_apart class_of (apart {xs = these s.LeftBracket} {ys = sign_code s.Less ∷ these s.LeftBrace} refl) ts h)))
  same_by ts false true h k = either_second (starts class_of (these s.LeftBracket)) list_reader others ts h ∙ either_first (starts class_of (these s.LeftBrace)) map_reader (tried list_reader map_reader) ts k
      ∙ sym (only_second (map_laws N) list_reader ts (refuses (list_laws N) ts (starts_apart class_of (apart {xs = these s.LeftBrace} {ys = sign_code s.Less ∷ these s.LeftBracket} refl) ts k)))
  same_by ts false false h k = either_second (starts class_of (these s.LeftBracket)) list_reader others ts h ∙ either_second (starts class_of (these s.LeftBrace)) map_reader (tried list_reader map_reader) ts k

  either_out : (x : Primary) → FirstFit primary_tokens IsList IsMap x → EitherFit IsList IsMap x
  either_out x (inl fits) = inl fits
  either_out x (inr fits) = inr fits.0

  either_into : (x : Primary) → EitherFit IsList IsMap x → FirstFit primary_tokens IsList IsMap x
  either_into x (inl fits) = inl fits
  either_into x (inr fits) = inr (fits, λ a list e. no_map a [] list (subst (g.map_over nodes).front (sym e ∙ sym (append-nil (primary_tokens a))) ((map_laws N).whole x fits)))

  pub collection_laws : Reads (collection_over here.type (strict here.expr)) (collections_over nodes) collection_first nowhere false
  collection_laws = wider (reread (refit (tried_laws (list_laws N) (map_laws N) (λ x t ts fits f. no_map x (t ∷ ts) fits f) (λ x t ts fits f. no_list x (t ∷ ts) fits f)) either_out either_into)
      (λ ts. same_by ts (starts class_of (these s.LeftBracket) ts) (starts class_of (these s.LeftBrace) ts) refl refl)) (inside refl) (λ x fits. within_self [])
