-- Primaries by what they begin with, and `super` alone, which is a node where there is room for none, too.
use Rattle.std.proofs.Common.{◌≡◌, ℕ, true, false, List, Ok, Err, Option, None, refl, arith}
use Rattle.std.specs.Prelude.{Result}
use Rattle.dart_base.specs.declared.place.Place.{Place}
use Rattle.dart_token.specs.declared.token.Token.{Token}
use Rattle.dart_token.specs.declared.word.Word.TheVariants as w
use Rattle.dart_tree.specs.declared.expression.Primary.{Primary}
use Rattle.dart_tree.specs.Tree as t
use Rattle.grammar_laws.specs.Readers.{Outcome, starts}
use Rattle.token_codes.specs.Codes.{class_of, atoms, this_word}
use Rattle.token_cursor.specs.declared.error.ReadFault.{ReadFault}
use Rattle.token_cursor.specs.declared.error.ReadFault.TheVariants.{Stuck, Memory}
use Rattle.token_cursor.specs.Gives.{GivesHigh}
use Rattle.syntax_readers.specs.Combinators.{Open, shut}
use Rattle.syntax_readers.specs.Primaries.{primary, super, string_first}
use Rattle.parse_primary.specs.Views.{open_primary, open_primary_height, an_atom, a_super, a_text, other_primary, GivesBare, GivesPrimary}
use Rattle.parse_nest.specs.Stages.{exprs_at}

abbrev OpenRead : Type 0
OpenRead = Result ((Primary × Option Place) × ℕ) ReadFault

-- where the height is at most the depth, it is so with more room
pub with_room : (depth : ℕ) (o : Outcome Token (Open t.Primary)) (r : OpenRead) (new : List Token) → GivesHigh open_primary open_primary_height depth o r new → GivesPrimary depth o r new
with_room depth o (Ok x) new h = (h.0, h.1, let l = h.2 in omega arith)
with_room depth o (Err Stuck) new h = h
with_room depth o (Err Memory) new h = tt

-- ---- `super`

pub super_opens : (depth : ℕ) (ts new : List Token) (x : Primary) (h : ℕ) → GivesBare depth (a_super depth ts) (Ok (x, h)) new → GivesPrimary depth (shut (super (exprs_at depth)) ts) (Ok ((x, None), h)) new
unfolding super
super_opens depth ts new x h g = (rw g.0 refl, g.1, g.2)

pub super_stops : (depth : ℕ) (ts end : List Token) (e : ReadFault) → GivesBare depth (a_super depth ts) (Err e) end → GivesPrimary depth (shut (super (exprs_at depth)) ts) (Err e) end
unfolding super
super_stops depth ts end Stuck g = rw g refl
super_stops depth ts end Memory g = tt

-- ---- by the token that comes

module _ (depth : ℕ) (ts : List Token) where
  pub atom_comes : starts class_of atoms ts ≡ true → primary (exprs_at depth) ts ≡ an_atom ts
  unfolding primary
  atom_comes on = rw on refl

  pub text_comes : starts class_of atoms ts ≡ false → starts class_of string_first ts ≡ true → primary (exprs_at depth) ts ≡ a_text depth ts
  unfolding primary
  text_comes no_atom on = rw (no_atom, on) refl

  pub super_comes : starts class_of atoms ts ≡ false → starts class_of string_first ts ≡ false → starts class_of (this_word w.Super) ts ≡ true → primary (exprs_at depth) ts ≡ shut (super (exprs_at depth)) ts
  unfolding primary
  super_comes no_atom no_text on = rw (no_atom, no_text, on) refl

  pub other_comes : starts class_of atoms ts ≡ false → starts class_of string_first ts ≡ false → starts class_of (this_word w.Super) ts ≡ false → primary (exprs_at depth) ts ≡ other_primary depth ts
  unfolding primary
  other_comes no_atom no_text no_super = rw (no_atom, no_text, no_super) refl
