use Rattle.std.proofs.Common.{sym, subst}
use Rattle.dart_token.specs.declared.token.Token.{Token}
use Rattle.dart_tree.specs.Tree as t
use Rattle.grammar_laws.specs.Readers.{Outcome}
use Rattle.syntax_readers.specs.Combinators.{Open}
use Rattle.parse_primary.specs.Views.{an_atom, a_text, other_primary, GivesPrimary}
use Rattle.parse_primary.proofs.Opening.{with_room, atom_comes, text_comes, super_comes, other_comes}
use Rattle.parse_primary.proofs.primary.primary.Goals as goal

pub returns-then-sees_atom : goal.returns-then-sees_atom
returns-then-sees_atom g c =
    let d = c.args.depth in
    let ts = c.args.cursor.now in
    subst (λ (o : Outcome Token (Open t.Primary)). GivesPrimary d o c.atom.result c.atom.new.cursor) (sym (atom_comes d ts (sym c.if-sees_atom.ensures))) (with_room d (an_atom ts) c.atom.result c.atom.new.cursor c.atom.ensures)

pub returns-then-sees_string : goal.returns-then-sees_string
returns-then-sees_string g c =
    let d = c.args.depth in
    let ts = c.args.cursor.now in
    subst (λ (o : Outcome Token (Open t.Primary)). GivesPrimary d o c.text.result c.text.new.cursor) (sym (text_comes d ts (sym c.if-sees_atom.ensures) (sym c.if-sees_string.ensures))) (with_room d (a_text d ts) c.text.result c.text.new.cursor c.text.ensures)

pub returns-then-sees_word : goal.returns-then-sees_word
returns-then-sees_word g c =
    let d = c.args.depth in
    let ts = c.args.cursor.now in
    subst (λ (o : Outcome Token (Open t.Primary)). GivesPrimary d o c.open_super.result c.open_super.new.cursor) (sym (super_comes d ts (sym c.if-sees_atom.ensures) (sym c.if-sees_string.ensures) (sym c.if-sees_word.ensures))) c.open_super.ensures

pub returns : goal.returns
returns g c =
    let d = c.args.depth in
    let ts = c.args.cursor.now in
    subst (λ (o : Outcome Token (Open t.Primary)). GivesPrimary d o c.other_primary.result c.other_primary.new.cursor) (sym (other_comes d ts (sym c.if-sees_atom.ensures) (sym c.if-sees_string.ensures) (sym c.if-sees_word.ensures))) (with_room d (other_primary d ts) c.other_primary.result c.other_primary.new.cursor c.other_primary.ensures)
