-- What stands at the end of a statement.
use Rattle.std.proofs.Common.{◌≡◌, ℕ, zero, suc, ◌+◌, ◌-◌, Bool, true, false, if◌then◌else◌, not, List, [], ◌∷◌, Option, Some, None, get_or, length, refl, sym, ap, ◌∙◌, arith}
use Rattle.dart_syntax.specs.Statements.{is_shut}
use Rattle.dart_tree.specs.declared.identifier.Label.{Label}
use Rattle.dart_tree.specs.declared.statement.TryPart.{TryPart}
use Rattle.dart_tree.specs.Lists.{block_of, try_parts_of}
use Rattle.dart_tree.specs.Tree as t
use Rattle.dart_tree.specs.Types as y
use Rattle.dart_tree.specs.View as view
use Rattle.syntax_readers.specs.Statements.{ends_open, open_try, deeper_try}
use Rattle.parse_block.specs.Views.{is_finally_kind, room_of}

-- ---- behind labels

pub shut_behind : (labels : List Label) (x : t.Stmt) → is_shut (t.with_labels labels x) ≡ is_shut x
unfolding is_shut
shut_behind [] x = refl
shut_behind (label ∷ labels) x = shut_behind labels x

pub open_behind : (labels : List Label) (x : t.Stmt) → open_try (t.with_labels labels x) ≡ open_try x
unfolding open_try
open_behind [] x = refl
open_behind (label ∷ labels) x = open_behind labels x

-- ---- the last part of a `try`

alone : (kind : y.TryKind) (block : t.Block) → ends_open (t.try_part kind block t.no_try_parts) ≡ not (is_finally_kind kind)
alone (y.on_part word type clause) block = refl
alone (y.catch_part clause) block = refl
alone (y.finally_part word) block = refl

more_behind : (kind next : y.TryKind) (block inner : t.Block) (more : t.TryParts) → ends_open (t.try_part kind block (t.try_part next inner more)) ≡ ends_open (t.try_part next inner more)
more_behind (y.on_part word type clause) next block inner more = refl
more_behind (y.catch_part clause) next block inner more = refl
more_behind (y.finally_part word) next block inner more = refl

pub by_last : (items : List TryPart) (x : TryPart) (i : ℕ) → i + 1 ≡ length items → x ≡ get_or items i x → ends_open (try_parts_of items) ≡ not (is_finally_kind (view.try_kind x.kind))
by_last [] x i e is = absurd (omega (arith, e))
by_last (y ∷ []) x zero e is = alone (view.try_kind y.kind) (block_of y.block) ∙ ap (λ (z : TryPart). not (is_finally_kind (view.try_kind z.kind))) (sym is)
by_last (y ∷ []) x (suc i) e is = absurd (omega (arith, e))
by_last (y ∷ z ∷ items) x zero e is = absurd (omega (arith, e))
by_last (y ∷ z ∷ items) x (suc i) e is =
    more_behind (view.try_kind y.kind) (view.try_kind z.kind) (block_of y.block) (block_of z.block) (try_parts_of items) ∙ by_last (z ∷ items) x i (omega (arith, e)) is

-- ---- the room of types, one node further in

pub room_inside : (n m : ℕ) (o r : Option ℕ) → m ≡ n - 1 → r ≡ room_of m o → r ≡ room_of n (deeper_try o)
room_inside n m None r one is = is
room_inside n m (Some above) r one is = is ∙ ap Some (omega (arith, one))

-- ---- the room of types where a `try` ends

pub room_here : (n m : ℕ) (b : Bool) → m ≡ n - 1 → b ≡ true → Some m ≡ room_of n (if b then Some 0 else None)
room_here n m true one on = ap Some (omega (arith, one))
room_here n m false one on = absurd cc

pub no_room : (n : ℕ) (b : Bool) → b ≡ false → None ≡ room_of n (if b then Some 0 else None)
no_room n true off = absurd cc
no_room n false off = refl
