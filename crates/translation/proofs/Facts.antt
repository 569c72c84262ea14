-- Small facts of translation.
use Rattle.std.proofs.Common.{◌≡◌, refl, ℕ, List, [], ◌∷◌, ◌++◌, Some, None, true, false}
use Rattle.std.specs.Prelude.{codes}
use Rattle.core_program.specs.Core as c
use Rattle.core_program.specs.Program as p
use Rattle.core_program.specs.declared.program.FunctionKind.TheVariants.{Generative}
use Rattle.core_program.specs.declared.form.Way.TheVariants as way
use Rattle.dart_base.specs.declared.place.Place.{Place}
use Rattle.dart_ir.specs.Ty.{class, dynamic, function, nil, cons, unnamed}
use Rattle.dart_ir.specs.declared.kind.Shape.TheVariants as shape
use Rattle.dart_ir.specs.declared.value.Value.TheVariants as v
use Rattle.dart_ir.specs.declared.kind.SiteKind.TheVariants as kind
use Rattle.dart_tree.specs.Tree as t
use Rattle.dart_tree.specs.declared.expression.Atom.TheVariants as a
use Rattle.dart_tree.specs.declared.statement.Jump.TheVariants as j
use Rattle.translation.specs.Surroundings.{Text, Ty, Core}
use Rattle.translation.specs.Types.{tys}
use Rattle.translation.specs.Applications.{forwarder}
use Rattle.translation.specs.Classes.{super_of}
use Rattle.translation.specs.Expressions.{new_form}
use Rattle.translation.specs.Productions.{expr, stmt}
use Rattle.translation.specs.References.{truth, by_place, block, row, variable}
use Rattle.translation.specs.Walk.{State, went, refused, bad_label, bad_word, on, leaving}

pub break_needs_a_target : (st : State) (word semicolon : Place) →
    stmt (t.jump (j.Break word None semicolon)) [] (record st { targets = [] }) ≡ refused (bad_label word)
unfolding on
break_needs_a_target st word semicolon = refl

pub this_needs_an_instance : (st : State) (word : Place) →
    expr (t.plain (t.primary (t.atom (a.This word))) t.no_cascades) (record st { inside = record st.inside { has_instance = false } }) ≡ refused (bad_word word)
unfolding on
this_needs_an_instance st word = refl

pub while_is_a_loop : (st : State) (word opening test closing jump semicolon : Place) →
    stmt (t.loop (t.while_loop word opening (t.plain (t.primary (t.atom (a.True test))) t.no_cascades) closing (t.jump (j.Break jump None semicolon)))) []
    (record st { targets = []; scopes = []; sites = [] }) ≡
    went (c.at word (c.loop 0 [] (c.given (c.at test (c.unary (c.check 1) (c.at test (c.unary (c.check 0) (truth test true)))))) c.missing
    (c.given (c.at jump (c.leaf (c.jump way.Break 0))))) ∷ [])
    (record st {
      targets = [];
      scopes = [];
      sites =
          record { place = test; kind = kind.Condition; required = None; annotated = false } ∷
          record { place = test; kind = kind.NullCondition; required = None; annotated = false } ∷ [];
    })
unfolding on leaving
while_is_a_loop st word opening test closing jump semicolon = refl

pub bounds_ask_for_the_type : (st : State) (place : Place) (n constructor : ℕ) (types : List Ty) →
    new_form place n constructor types (by_place []) (record st { tables = record st.tables { is_bounded = λ k. true }; sites = [] }) ≡
    went (c.at place (c.unary (c.check 0) (c.at place (c.new n constructor types c.no_cores []))))
    (record st {
      tables = record st.tables { is_bounded = λ k. true };
      sites = record { place = place; kind = kind.Bound; required = Some (class n (tys types)); annotated = false } ∷ [];
    })
unfolding on
bounds_ask_for_the_type st place n constructor types = refl

pub object_is_handed_arguments : (st : State) (word : Place) (first second : Core) →
    super_of word (Some 0) None (λ st. went (by_place (first ∷ second ∷ [])) st) st ≡ went (first ∷ second ∷ []) st
unfolding on
object_is_handed_arguments st word first second = refl

pub forwarders_hand_on : (st : State) (x : p.Class Text) (site : p.Site Text) →
    forwarder (record { class = 3; arguments = Some []; name = []; fields = []; count = 2 }) x [] (record {
      number = 7;
      id = codes "named";
      parameters = record { var = 5; name = codes "a"; shape = shape.Required; default = v.Null; site = 0 } ∷ [];
    }) (record st { tables = record st.tables { superclass = λ n. Some 1 }; declarations = 9; sites = site ∷ [] }) ≡
    went (record {
      number = 9;
      id = codes "named";
      parameters = record { var = 2; name = codes "a"; shape = shape.Required; default = v.Null; site = 1 } ∷ [];
    }) (record st {
      tables = record st.tables { superclass = λ n. Some 1 };
      declarations = 10;
      sites = site ∷ record { place = site.place; kind = kind.Param; required = None; annotated = false } ∷ [];
      functions = st.functions ++ record {
        number = 9;
        made = record {
          name = codes "named";
          kind = Generative;
          class = Some 3;
          parameters = record { var = 2; name = codes "a"; shape = shape.Required; default = v.Null; site = 1 } ∷ [];
          vars = 3;
          cells = [];
          captures = [];
          signature = function dynamic (cons dynamic nil) nil unnamed;
          body = c.given (block x.place (row x.place (c.super_new 7) (by_place (variable x.place 2 ∷ [])) ∷ []));
        };
      } ∷ [];
    })
unfolding on
forwarders_hand_on st x site = refl
