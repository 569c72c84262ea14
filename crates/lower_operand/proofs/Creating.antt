-- The type and the constructor of a new object.
use Rattle.std.proofs.Common.{◌≡◌, sym, true≢false, Option, Some, None, Bool, true, false, refl, List, [], ◌∷◌, ap}
use Rattle.dart_tree.specs.declared.identifier.DotName.{DotName}
use Rattle.dart_tree.specs.declared.identifier.Identifier.{Identifier}
use Rattle.dart_tree.specs.Types as t
use Rattle.translation.specs.Expressions as e
use Rattle.translation.specs.Surroundings as m
use Rattle.translation.specs.Types as y
use Rattle.translation.specs.Walk as w
use Rattle.lower_operand.specs.Made.{is_class, is_dotted}

pub creating_as_class : (x : m.Meaning) (node of : t.TypeNode) (id : y.PlacedName) → is_class x ≡ true → e.creating_as x node of id ≡ record { node = of; id = Some id }
creating_as_class (m.function n) node of id h = refl
creating_as_class (m.variable n f) node of id h = refl
creating_as_class (m.accessors g s) node of id h = refl
creating_as_class (m.class n) node of id h = refl
creating_as_class (m.alias n) node of id h = refl
creating_as_class (m.type_parameter n) node of id h = refl
creating_as_class m.member node of id h = refl
creating_as_class m.ambiguous node of id h = refl
creating_as_class m.unknown node of id h = refl
creating_as_class m.prefix node of id h = absurd (true≢false (sym h))

pub listed_types : (xs : List m.Ty) → e.listed (y.tys xs) ≡ xs
listed_types [] = refl
listed_types (x ∷ xs) = ap (λ (rest : List m.Ty). x ∷ rest) (listed_types xs)

pub creating_as_prefix : (x : m.Meaning) (node of : t.TypeNode) (id : y.PlacedName) → is_class x ≡ false → e.creating_as x node of id ≡ record { node = node; id = None }
creating_as_prefix m.prefix node of id h = refl
creating_as_prefix (m.function n) node of id h = absurd (true≢false h)
creating_as_prefix (m.variable n f) node of id h = absurd (true≢false h)
creating_as_prefix (m.accessors g s) node of id h = absurd (true≢false h)
creating_as_prefix (m.class n) node of id h = absurd (true≢false h)
creating_as_prefix (m.alias n) node of id h = absurd (true≢false h)
creating_as_prefix (m.type_parameter n) node of id h = absurd (true≢false h)
creating_as_prefix m.member node of id h = absurd (true≢false h)
creating_as_prefix m.ambiguous node of id h = absurd (true≢false h)
creating_as_prefix m.unknown node of id h = absurd (true≢false h)

-- a type with a dot
pub creating_dotted : (st : w.State) (name : Identifier) (member : Option DotName) (arguments : t.TypeArguments) (c : Option DotName) →
    is_dotted st (t.named_type name member arguments) c ≡ true →
    e.creating st (t.named_type name member arguments) c ≡ record { node = t.named_type name None t.no_types; id = y.option_word member }
creating_dotted st name None arguments c h = absurd (true≢false (sym h))
creating_dotted st name (Some dot) (t.listed_types opening types closing) c h = absurd (true≢false (sym h))
creating_dotted st name (Some dot) t.no_types (Some x) h = absurd (true≢false (sym h))
creating_dotted st name (Some dot) t.no_types None h = creating_as_class (y.meaning_of st (y.word_of name).text) _ _ _ h

-- and any other
pub creating_plain : (st : w.State) (node : t.TypeNode) (c : Option DotName) → is_dotted st node c ≡ false →
    e.creating st node c ≡ record { node = node; id = y.option_word c }
creating_plain st (t.dynamic_type place) c h = refl
creating_plain st (t.named_type name None arguments) c h = refl
creating_plain st (t.named_type name (Some dot) (t.listed_types opening types closing)) c h = refl
creating_plain st (t.named_type name (Some dot) t.no_types) (Some x) h = refl
creating_plain st (t.named_type name (Some dot) t.no_types) None h = creating_as_prefix (y.meaning_of st (y.word_of name).text) _ _ _ h

pub ruleset creating = (creating_dotted, creating_plain, listed_types)

-- A constant that is met changes neither the type nor the constructor.
pub creating_met : (met : Bool) (st : w.State) (node : t.TypeNode) (c : Option DotName) → e.creating (e.meeting_constant met st) node c ≡ e.creating st node c
creating_met false st node c = refl
creating_met true st (t.dynamic_type place) c = refl
creating_met true st (t.named_type name None arguments) c = refl
creating_met true st (t.named_type name (Some dot) (t.listed_types opening types closing)) c = refl
creating_met true st (t.named_type name (Some dot) t.no_types) (Some x) = refl
creating_met true st (t.named_type name (Some dot) t.no_types) None = refl

pub type_name_met : (met : Bool) (st : w.State) (node : t.TypeNode) → e.type_name (e.meeting_constant met st) node ≡ e.type_name st node
type_name_met false st node = refl
type_name_met true st (t.dynamic_type place) = refl
type_name_met true st (t.named_type name dot arguments) = refl

pub ruleset met = (creating_met, type_name_met)
