-- At most so many parts of a `switch` behind one another: labels, and a part's rest with the parts behind it (ECMA-408, 17.9 Switch).
use Rattle.std.proofs.Common.{◌≡◌, ℕ, zero, suc, List, [], ◌∷◌, ◌++◌, Option, None, Some, refl}
use Rattle.std.specs.List.{flat_map}
use Rattle.dart_base.specs.declared.place.Place.{Place}
use Rattle.dart_token.specs.declared.token.Token.{Token}
use Rattle.dart_token.specs.declared.sign.Sign.TheVariants as s
use Rattle.dart_token.specs.declared.word.Word.TheVariants as w
use Rattle.dart_tree.specs.declared.identifier.Label.{Label}
use Rattle.dart_tree.specs.LeafTokens.{sign_at, word_at}
use Rattle.dart_tree.specs.Tree as t
use Rattle.dart_tree.specs.Tree.{Expr, Stmt, Value}
use Rattle.dart_syntax.specs.Phrases.{Phrase, ◌~◌, ◌<|>◌, many, made, opt, no_room}
use Rattle.dart_syntax.specs.Leaves as l
use Rattle.syntax_readers.specs.Statements.{Part}

-- a part's rest behind its labels, with the parts behind it
abbrev pub Rest : Type 0
Rest = Place × (Value × (Place × (List Stmt × List Part)))

abbrev pub More : Type 0
More = Option (List Label × Rest)

abbrev pub flat : More → List Part
flat None = []
flat (Some (labels, (word, (value, (colon, (stmts, more)))))) = (labels, (word, (value, (colon, stmts)))) ∷ more

abbrev pub to_default : Place × (Place × List Stmt) → Rest
to_default x = (x.0, (t.omitted, (x.1.0, (x.1.1, []))))

abbrev pub to_case : Place × ((Expr × Place) × (List Stmt × More)) → Rest
to_case x = (x.0, (t.given None x.1.0.0, (x.1.0.1, (x.1.1.0, flat x.1.1.1))))

module _ (p : Phrase Stmt) (q : Phrase Expr) where
  -- ---- the tokens

  abbrev pub head_tokens : Place → Value → Place → List Token
  head_tokens place t.omitted colon = word_at place w.Default ∷ sign_at colon s.Colon ∷ []
  head_tokens place (t.given operator value) colon = word_at place w.Case ∷ (q.spelling value ++ sign_at colon s.Colon ∷ [])

  abbrev pub parts_tokens : List Part → List Token
  parts_tokens [] = []
  parts_tokens ((labels, (word, (value, (colon, stmts)))) ∷ more) = flat_map l.label.spelling labels ++ (head_tokens word value colon ++ (flat_map p.spelling stmts ++ parts_tokens more))

  abbrev pub rest_tokens : Rest → List Token
  rest_tokens (word, (value, (colon, (stmts, more)))) = head_tokens word value colon ++ (flat_map p.spelling stmts ++ parts_tokens more)

  -- ---- at most so many

  abbrev pub Defaulted : Phrase (Place × (Place × List Stmt))
  Defaulted = l.word w.Default ~ (l.sign s.Colon ~ many p)

  abbrev pub Cased : Phrase Rest → Phrase (Place × ((Expr × Place) × (List Stmt × More)))
  Cased r = l.word w.Case ~ ((q ~ l.sign s.Colon) ~ (many p ~ opt (many l.label ~ r)))

  abbrev pub rest_of : ℕ → Phrase Rest
  rest_of zero = no_room rest_tokens
  rest_of (suc k) = made rest_tokens to_default Defaulted <|> made rest_tokens to_case (Cased (rest_of k))

  abbrev pub more_of : ℕ → Phrase More
  more_of k = opt (many l.label ~ rest_of k)

  pub more_said : (y : More) (k : ℕ) → parts_tokens (flat y) ≡ (more_of k).spelling y
  more_said None zero = refl
  more_said None (suc k) = refl
  more_said (Some y) zero = refl
  more_said (Some y) (suc k) = refl
