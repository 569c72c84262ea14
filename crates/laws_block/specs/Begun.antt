-- What is claimed of readers of what may end in a `try` to which another part may belong. Such a reader stops before an `on` that begins
-- no whole part, so the law is of its tree together with the tokens behind it that begin a part (ECMA-408, 17.11 Try).
use Rattle.std.specs.Prelude.{◌≡◌, ℕ, zero, suc, ◌+◌, ◌-◌, Bool, true, false, not, List, [], ◌∷◌, ◌++◌, length, take, Option, None, Some, Ok, Err}
use Rattle.dart_base.specs.declared.place.Place.{Place}
use Rattle.dart_token.specs.declared.token.Token.{Token}
use Rattle.dart_token.specs.declared.word.Word.TheVariants as w
use Rattle.dart_tree.specs.LeafTokens.{on_text}
use Rattle.dart_tree.specs.Types.{TypeNode}
use Rattle.dart_tree.specs.Tree.{Stmt}
use Rattle.grammar_laws.specs.Codes.{has, given}
use Rattle.grammar_laws.specs.Readers.{Outcome, Reader, both_by}
use Rattle.grammar_laws.specs.Fronts.{Front, both_spelling, BothFitBy}
use Rattle.grammar_laws.specs.Laws.{Stops, Laws}
use Rattle.dart_syntax.specs.Phrases.{Phrase, ◌~◌}
use Rattle.dart_syntax.specs.Leaves.{named}
use Rattle.dart_syntax.specs.Types.{type_within}
use Rattle.dart_syntax.specs.Statements.{is_shut}
use Rattle.token_codes.specs.Codes.{class_of, on_code, word_code, this_word}
use Rattle.syntax_readers.specs.Types.{type_reader}
use Rattle.syntax_readers.specs.Statements.{open_try, on_type, on_comes}
use Rattle.laws_apart.specs.Statements.{body_codes}

-- ---- the tokens that a reader takes, whether they are a tree or only begin one

abbrev pub rest_of : {A : Type 0} → Outcome Token A → List Token
rest_of (Ok x) = x.1
rest_of (Err rest) = rest

abbrev pub taken_by : {A : Type 0} → Reader Token A → Reader Token (List Token)
taken_by p ts = Ok (take (length ts - length (rest_of (p ts))) ts, rest_of (p ts))

-- ---- what begins another part of a `try`: `on` and a type of at most so many nodes

abbrev pub on_phrase : ℕ → Phrase (Place × TypeNode)
on_phrase n = named on_text ~ type_within n

-- the tokens behind a tree that begin a part, where one may begin; where none may, no tokens
abbrev pub begun : Option ℕ → Reader Token (List Token)
begun None ts = Ok ([], ts)
begun (Some n) ts = taken_by (on_type (type_reader n)) ts

abbrev pub Begins : Option ℕ → Front Token
Begins None ts = ts ≡ []
Begins (Some n) ts = (on_phrase n).front ts

-- a whole part begins
abbrev pub part_begins : Option ℕ → List Token → Bool
part_begins None ts = false
part_begins (Some n) ts = on_comes (type_reader n) ts

-- ---- what may go on behind a tree

-- where another part may: `catch` and `finally`, and `on`
abbrev pub part_codes : Option ℕ → List ℕ
part_codes None = []
part_codes (Some n) = word_code w.Catch ∷ word_code w.Finally ∷ []

abbrev pub on_codes : Option ℕ → List ℕ
on_codes None = []
on_codes (Some n) = on_code ∷ []

-- the codes of all tokens
abbrev pub codes_below : ℕ → List ℕ
codes_below zero = []
codes_below (suc n) = n ∷ codes_below n

unfoldable pub every_code : List ℕ
every_code = codes_below 127

-- of what goes on behind a part that was begun no more is said
abbrev pub after_begun : Option ℕ → List ℕ → List Token → List ℕ
after_begun level still [] = still ++ on_codes level
after_begun level still (t ∷ m) = every_code

-- ---- the claim

-- `level` says of a tree whether another part may go on behind it, and how deep the type of that may be; `still` begins what else may.
-- The reader finds the phrase's trees, each with the tokens that begin a part behind it; and it reads a tree's tokens as that tree
-- where no whole part begins behind them
pub record ReadsBegun {A : Type 0} (read : Reader Token A) (p : Phrase A) (first : List ℕ) (level : A → Option ℕ) (still : A → List ℕ) : Type 0 where
  pub laws : Laws class_of (both_by read (λ a. begun (level a))) (both_spelling p.spelling (λ m. m)) (BothFitBy p.Fits (λ a. Begins (level a)))
      p.front first (λ x. after_begun (level x.0) (still x.0) x.1) false
  pub complete : (a : A) (rest : List Token) → p.Fits a → Stops class_of (still a) rest → part_begins (level a) rest ≡ false →
      read (p.spelling a ++ rest) ≡ Ok (a, rest)

-- ---- statements

-- where another part may go on behind a statement of n nodes
abbrev pub room : ℕ → Option ℕ → Option ℕ
room n None = None
room n (Some above) = Some (n - (above + 1))

abbrev pub level_of : ℕ → Stmt → Option ℕ
level_of n x = room n (open_try x)

-- an `else` behind an `if` that has none
abbrev pub else_of : Stmt → List ℕ
else_of x = given (not (is_shut x)) (this_word w.Else)

abbrev pub still_of : ℕ → Stmt → List ℕ
still_of n x = part_codes (level_of n x) ++ else_of x

abbrev pub StmtReads : ℕ → Reader Token Stmt → Phrase Stmt → List ℕ → Type 0
StmtReads n read p first = ReadsBegun read p first (level_of n) (still_of n)

-- no statement begins as a part does, nor is it the beginning of one
pub record Partless (p : Phrase Stmt) : Type 0 where
  pub no_part : (n : ℕ) (x : Place × TypeNode) (t : Token) → (on_phrase n).Fits x → has body_codes (class_of t) ≡ true → p.front ((on_phrase n).spelling x ++ t ∷ []) → ⊥
  pub not_begun : (n : ℕ) (a : Stmt) → p.Fits a → (on_phrase n).front (p.spelling a) → ⊥
