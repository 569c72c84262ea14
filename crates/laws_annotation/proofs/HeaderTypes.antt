-- What the headers of classes name doesn't hang on what aliases stand for.
use Rattle.std.proofs.Common.{◌≡◌, ◌∙◌, refl, sym, ap, ℕ, List, [], ◌∷◌, map, Option, None, Some}
use Rattle.dart_tree.specs.declared.identifier.DotName.{DotName}
use Rattle.dart_tree.specs.declared.identifier.Identifier.{Identifier}
use Rattle.dart_tree.specs.Types as y
use Rattle.dart_tree.specs.Unit as u
use Rattle.translation.specs.Surroundings.{Text, Ty, Meaning, name_in}
use Rattle.translation.specs.Surroundings as m
use Rattle.translation.specs.Walk.{State}
use Rattle.translation.specs.Types.{AliasType, Typed, no_alias, or_dynamic, word_of, option_word, last_of, type_meaning, typed_as, typed, type_arguments, type_list}
use Rattle.class_source.specs.Rows.{HeaderType}
use Rattle.class_source.specs.Headers.{place_of_type, type_in, header_type, header_types, clause_types, superclass_of, mixins_of, Named, named, bound, bounds}

module _ (st : State) (aliases : AliasType) (variables : ℕ → Option Ty) where
  -- where aliases and variables may have other types
  abbrev other : State
  other = record st { tables = record st.tables { alias_type = aliases; variable_type = variables } }

  as_same : (x : Meaning) (given : List Ty) (name : Text) → typed_as no_alias other x given name ≡ typed_as no_alias st x given name
  as_same (m.class n) given name = refl
  as_same (m.alias n) given name = refl
  as_same (m.type_parameter n) given name = refl
  as_same (m.function n) given name = refl
  as_same (m.variable n final) given name = refl
  as_same (m.accessors getter setter) given name = refl
  as_same m.member given name = refl
  as_same m.prefix given name = refl
  as_same m.ambiguous given name = refl
  as_same m.unknown given name = refl

  meaning_same : (name : Identifier) (dot : Option DotName) → type_meaning other (word_of name) (option_word dot) ≡ type_meaning st (word_of name) (option_word dot)
  meaning_same name None = refl
  meaning_same name (Some dot) = refl

  mutual
    typed_same : (node : y.TypeNode) → typed no_alias other node ≡ typed no_alias st node
    typed_same (y.dynamic_type place) = refl
    typed_same (y.named_type name dot arguments) =
        let text : Text = name_in st.names.library (last_of (word_of name) (option_word dot)).text in
        (λ i. typed_as no_alias other (meaning_same name dot i) (arguments_same arguments i) text)
        ∙ as_same (type_meaning st (word_of name) (option_word dot)) (type_arguments no_alias st arguments) text

    arguments_same : (x : y.TypeArguments) → type_arguments no_alias other x ≡ type_arguments no_alias st x
    arguments_same y.no_types = refl
    arguments_same (y.listed_types opening types closing) = list_same types

    list_same : (x : y.TypeList) → type_list no_alias other x ≡ type_list no_alias st x
    list_same y.no_more_types = refl
    list_same (y.type_more comma one more) = λ i. or_dynamic (typed_same one i) ∷ list_same more i

  header_same : (node : y.TypeNode) → header_type other node ≡ header_type st node
  header_same node = λ i. record { place = place_of_type node; of = or_dynamic (typed_same node i) }

  headers_same : (x : y.TypeList) → header_types other x ≡ header_types st x
  headers_same y.no_more_types = refl
  headers_same (y.type_more comma one more) = λ i. header_same one i ∷ headers_same more i

  clause_same : (o : Option u.TypeClause) → clause_types other o ≡ clause_types st o
  clause_same None = refl
  clause_same (Some x) = headers_same x.types

  superclass_same : (o : Option u.Superclass) → superclass_of other o ≡ superclass_of st o
  superclass_same None = refl
  superclass_same (Some x) = ap Some (header_same x.superclass)

  mixins_same : (o : Option u.Superclass) → mixins_of other o ≡ mixins_of st o
  mixins_same None = refl
  mixins_same (Some x) = clause_same x.mixins

  pub names_same : (x : u.ClassKind) → named other x ≡ named st x
  names_same (u.declared_class above interfaces opening members closing) =
      λ i. record { superclass = superclass_same above i; mixins = mixins_same above i; interfaces = clause_same interfaces i }
  names_same (u.mixed_class equals above mixed interfaces semicolon) =
      λ i. record { superclass = Some (header_same above i); mixins = clause_same (Some mixed) i; interfaces = clause_same interfaces i }

  bound_same : (o : Option u.Bound) → bound other o ≡ bound st o
  bound_same None = refl
  bound_same (Some x) = ap (λ (t : Typed). Some (or_dynamic t)) (typed_same x.bound)

  each_same : (xs : List u.TypeParameter) → map (λ (p : u.TypeParameter). bound other p.bound) xs ≡ map (λ (p : u.TypeParameter). bound st p.bound) xs
  each_same [] = refl
  each_same (x ∷ xs) = λ i. bound_same x.bound i ∷ each_same xs i

  pub bounds_free : (o : Option u.TypeParameters) → bounds other o ≡ bounds st o
  bounds_free None = refl
  bounds_free (Some x) = each_same x.items
