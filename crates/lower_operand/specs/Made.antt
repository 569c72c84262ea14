-- What contracts see of strings and new objects.
use Rattle.std.specs.Prelude.{List, [], ◌∷◌, ◌++◌, Bool, true, false, Option, Some, None}
use Rattle.std.specs.Global.{Vec}
use Rattle.std.specs.Borrow.{Bor}
use Rattle.dart_base.specs.declared.place.Place.{Place}
use Rattle.dart_tree.specs.declared.identifier.DotName.{DotName}
use Rattle.dart_tree.specs.declared.identifier.Identifier.{Identifier}
use Rattle.dart_tree.specs.Types as ty
use Rattle.core_program.specs.declared.form.Core.{Core as Form}
use Rattle.translation.specs.Surroundings.{Text, Core}
use Rattle.translation.specs.Surroundings as m
use Rattle.translation.specs.Walk as w
use Rattle.translation.specs.Types as y
use Rattle.translation.specs.Expressions as e
use Rattle.translation.specs.Strings.{Part, units, shown}
use Rattle.lower_leaf.specs.Around.{Around}
use Rattle.lower_leaf.specs.Forms.{cores}
use Rattle.lower_operand.specs.declared.literal.Joined.{Joined}

abbrev pub all_forms : Around → Vec Form → List Core
all_forms a forms = cores a forms.items

abbrev pub joined : Around → Joined → e.Joined
joined a x = record { forms = cores a x.forms.items; pending = x.pending }

abbrev pub word_option : Option (Bor Identifier) → Option y.PlacedName
word_option None = None
word_option (Some name) = Some (y.word_of name.now)

-- the operands that a name behind constant text adds
abbrev pub shown_behind : Place → Place → Text → Text → w.Walk (List Core)
shown_behind place at name pending st = w.on (e.pending_literal place pending st)
    (λ before st. w.on (e.shown_form at name st) (λ form st. w.went (before ++ e.to_string place form ∷ []) st))

-- a part of a piece behind what is joined
abbrev pub part_joined : Place → Place → Part → e.Joined → w.Walk e.Joined
part_joined place at (units text) before st = w.went (record before { pending = before.pending ++ text }) st
part_joined place at (shown text) before st = w.on (shown_behind place at text before.pending st)
    (λ more st. w.went (record { forms = before.forms ++ more; pending = [] }) st)

-- A name before a dot that is no prefix is that of a class.
abbrev pub is_class : m.Meaning → Bool
is_class m.prefix = false
is_class other = true

-- In `new A.b()` A is a class and b a constructor, unless A is a prefix.
abbrev pub is_dotted : w.State → ty.TypeNode → Option DotName → Bool
is_dotted st (ty.named_type name (Some dot) ty.no_types) None = is_class (y.meaning_of st (y.word_of name).text)
is_dotted st node constructor = false
