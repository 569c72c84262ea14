-- A statement with labels: those around it, and the statement within.
use Rattle.std.specs.Prelude.{ℕ, List, [], ◌∷◌}
use Rattle.dart_base.specs.declared.place.Place.{Place}
use Rattle.core_program.specs.Core.{Core, Form}
use Rattle.core_program.specs.Core as c
use Rattle.evaluation.specs.State.{Outcome}
use Rattle.evaluation.specs.Statements.{labelled}

abbrev mutual
  pub within : Core ℕ → Core ℕ
  within (c.at place form) = within_form form place

  pub within_form : Form ℕ → Place → Core ℕ
  within_form (c.labelled n body) place = within body
  within_form form place = c.at place form

abbrev mutual
  -- from the outermost in
  pub labels : Core ℕ → List ℕ
  labels (c.at place form) = labels_of form

  pub labels_of : Form ℕ → List ℕ
  labels_of (c.labelled n body) = n ∷ labels body
  labels_of form = []

abbrev pub labelled_all : List ℕ → Outcome → Outcome
labelled_all [] o = o
labelled_all (n ∷ ns) o = labelled n (labelled_all ns o)
