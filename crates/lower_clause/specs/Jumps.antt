-- What contracts see of labels, targets and jumps.
use Rattle.std.specs.Prelude.{ℕ, List, [], ◌∷◌, ◌++◌, map, take, Option, Some, None}
use Rattle.std.specs.Global.{Vec}
use Rattle.dart_base.specs.declared.place.Place.{Place}
use Rattle.dart_tree.specs.declared.identifier.Label.{Label}
use Rattle.core_program.specs.Core as c
use Rattle.translation.specs.References.{block}
use Rattle.translation.specs.Statements as s
use Rattle.translation.specs.Surroundings.{Text, Core}
use Rattle.translation.specs.Walk as w
use Rattle.core_program.specs.declared.form.Core.{Core as Form}
use Rattle.lower_leaf.specs.Around.{Around}
use Rattle.lower_leaf.specs.Forms.{core, cores}
use Rattle.lower_leaf.specs.Seen.{labels}
use Rattle.lower_clause.specs.declared.jump.Landing.{Landing}

abbrev pub all_forms : Around → Vec Form → List Core
all_forms a forms = cores a forms.items

abbrev pub option_core : Around → Option Form → Option Core
option_core a None = None
option_core a (Some form) = Some (core a form)

-- the innermost label first
abbrev pub labels_before : List Label → List Text → List Text
labels_before [] around = around
labels_before (x ∷ xs) around = labels_before xs (s.label_text x ∷ around)

abbrev pub case_labels : Vec (Vec Text) → List (List Text)
case_labels all = map labels all.items

abbrev pub landing_option : Option Landing → Option s.Landing
landing_option None = None
landing_option (Some x) = Some (record { way = x.way; target = x.target })

abbrev pub with_target : w.Target → w.State → w.State
with_target one st = record st { targets = st.targets ++ one ∷ [] }

abbrev pub left_targets : ℕ → w.State → w.State
left_targets depth st = record st { targets = take depth st.targets }

-- several forms as one
abbrev pub joined : List Core → Option Core
joined [] = None
joined (form ∷ []) = Some form
joined (form ∷ more ∷ rest) = Some (block (w.place_of_core form) (form ∷ more ∷ rest))

abbrev pub first_place : List Core → Option Place
first_place [] = None
first_place (form ∷ forms) = Some (w.place_of_core form)
