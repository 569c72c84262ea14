-- What the parser answers on a list of tokens: what the readers find.
use Rattle.std.specs.Prelude.{◌≡◌, ℕ, ◌≤◌, List, [], ◌∷◌, Option, None, Some, Result, Ok, Err}
use Rattle.std.specs.declared.alloc.Global.{Global}
use Rattle.std.specs.declared.alloc.AllocError.{AllocError}
use denote.Ref.{MutBor}
use Rattle.dart_base.specs.declared.place.Place.{Place}
use Rattle.dart_token.specs.declared.token.Token.{Token}
use Rattle.dart_tree.specs.declared.unit.Unit as a
use Rattle.dart_tree.specs.Depth.{unit_height}
use Rattle.dart_tree.specs.UnitView as view
use Rattle.dart_syntax.specs.Syntax.{SyntaxReason, left_out_at, syntax_at, too_deep_at}
use Rattle.grammar_laws.specs.Wholes.{answer}
use Rattle.syntax_readers.specs.Units.{unit_reader, found, end_place}
use Rattle.token_cursor.specs.declared.error.ReadFault.{ReadFault}
use Rattle.token_cursor.specs.Gives.{GivesHigh}
use Rattle.parse_unit.specs.declared.fault.ParseFault.{ParseFault}
use Rattle.parse_unit.specs.declared.fault.ParseFault.TheVariants as f

-- the unit that the readers find, or their reason; or memory ran out
abbrev pub Finds : List Token → Result a.Unit ParseFault → Type 0
Finds tokens (Ok unit) = found tokens ≡ Ok (view.unit unit)
Finds tokens (Err (f.LeftOut place feature)) = found tokens ≡ Err (left_out_at place feature)
Finds tokens (Err (f.Syntax place)) = found tokens ≡ Err (syntax_at place)
Finds tokens (Err (f.TooDeep place)) = found tokens ≡ Err (too_deep_at place)
Finds tokens (Err f.Memory) = Unit {0}

-- the fault is this reason
abbrev pub Refuses : SyntaxReason → ParseFault → Type 0
Refuses (left_out_at place feature) fault = fault ≡ f.LeftOut place feature
Refuses (syntax_at place) fault = fault ≡ f.Syntax place
Refuses (too_deep_at place) fault = fault ≡ f.TooDeep place

-- the answer within a depth on a whole list; or memory ran out
abbrev pub AnswersWithin : ℕ → List Token → Result (Result a.Unit ℕ) AllocError → Type 0
AnswersWithin depth tokens (Ok (Ok unit)) = answer (unit_reader depth) tokens ≡ Ok (view.unit unit)
AnswersWithin depth tokens (Ok (Err at)) = answer (unit_reader depth) tokens ≡ Err at
AnswersWithin depth tokens (Err fault) = Unit {0}

-- the place behind the last token, if there is one
abbrev pub end_of : List Token → Option Place
end_of [] = None
end_of (t ∷ ts) = Some (end_place t ts)

-- a function that reads units at each depth up to a limit
pub record NestsUnit (limit : ℕ) (pre : Global → MutBor (List Token) → ℕ → Type 0)
    (post : Global → MutBor (List Token) → ℕ → Result (a.Unit × ℕ) ReadFault → MutBor (List Token) → Type 0) : Type 0 where
  pub callable : (alloc : Global) (old : MutBor (List Token)) (depth : ℕ) → depth ≤ limit → pre alloc old depth
  pub reads : (alloc : Global) (old new : MutBor (List Token)) (depth : ℕ) (result : Result (a.Unit × ℕ) ReadFault) →
      post alloc old depth result new →
      GivesHigh view.unit unit_height depth (unit_reader depth old.now) result new.now
