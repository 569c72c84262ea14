use Rattle.std.proofs.Common.{◌∙◌, sym, ap}
use Rattle.dart_tree.specs.declared.expression.Atom.{Atom}
use Rattle.grammar_laws.proofs.Cuts.{gave}
use Rattle.token_cursor.proofs.Takes.{atom_takes, atom_refuses}
use Rattle.token_cursor.proofs.cursor.Cursor.atom.Goals as goal

pub returns-then-not-sees_atom : goal.returns-then-not-sees_atom
returns-then-not-sees_atom c = atom_refuses c.args.self.now (sym c.if-not-sees_atom.ensures)

pub returns : goal.returns
returns c =
    atom_takes c.args.self.now c.take-token.result.now c.take-token.new.self (sym c.if-not-sees_atom.ensures) c.take-token.ensures
    ∙ ap (λ (x : Atom). gave x c.take-token.new.self) (sym c.in_ok-atom_of.ensures)
