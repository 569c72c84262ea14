-- A list of statements that a loop reads, each behind the one before it.
use Rattle.std.proofs.Common.{◌≡◌, ℕ, suc, ◌+◌, ◌-◌, ◌<◌, ◌≤◌, max, Bool, true, false, if◌then◌else◌, List, [], ◌∷◌, map, Option, None, Ok, Err, length, refl, sym, ap, ◌∙◌, arith}
use Rattle.dart_syntax.specs.Statements.{to_stmts}
use Rattle.dart_token.specs.declared.token.Token.{Token}
use Rattle.dart_tree.specs.declared.statement.Stmt.{Stmt}
use Rattle.dart_tree.specs.Depth as height
use Rattle.dart_tree.specs.Lists.{stmts_of}
use Rattle.dart_tree.specs.Tree as t
use Rattle.dart_tree.specs.View as view
use Rattle.grammar_laws.specs.Readers.{Reader, Outcome, and_then, nothing, cons_to}
use Rattle.syntax_readers.specs.Statements.{open_try, behind_try, stmt_turns}
use Rattle.parse_loop.specs.Lists.{Growing}
use Rattle.parse_loop.proofs.Alike.{behind, behind_grows, same_shape}
use Rattle.parse_jump.specs.Views.{comes_in}
use Rattle.parse_jump.proofs.Loops.{ReadSoFar, begins, ended, stopped, goes_on}
use Rattle.parse_nest.specs.Stages.{stmt_at}
use Rattle.parse_block.specs.Views.{room_of, behind_room, list_height, stmts_at}
use Rattle.parse_block.proofs.Behind.{by_room}

-- ---- statements as trees

pub same_list : (items : List Stmt) → stmts_of items ≡ to_stmts (map view.stmt items)
same_list [] = refl
same_list (x ∷ items) = ap (t.stmt (view.stmt x)) (same_list items)

pub none_high : 0 ≡ list_height []
unfolding height.stmts_height
none_high = refl

pub list_taller : (l : List t.Stmt) (x : t.Stmt) → list_height (behind l x) ≡ max (list_height l) (height.stmt_height x)
unfolding height.stmts_height
list_taller [] x = omega arith
list_taller (y ∷ l) x = let e = list_taller l x in omega arith

abbrev pub stmt_list : Growing (Unit {0}) t.Stmt (List t.Stmt)
stmt_list = record {
  codes = [];
  item = nothing;
  give = λ first items. items;
  snoc = behind;
  high = list_height;
  tall = height.stmt_height;
  grows = behind_grows;
  taller = list_taller;
}

-- ---- turns: `at` of `n` are made

module _ (depth : ℕ) (test : List Token → Bool) (stmt : Reader Token t.Stmt) where
  abbrev turned : ℕ → Option ℕ → Reader Token (List t.Stmt)
  turned left before ts = stmt_turns depth test stmt left before ts

  abbrev more : ℕ → t.Stmt → Reader Token (List t.Stmt)
  more left x mid = cons_to x (turned left (open_try x) mid)

  pub turns_over : (n at : ℕ) (before : Option ℕ) (ts : List Token) → n ≤ at → stmt_turns depth test stmt (n - at) before ts ≡ Ok ([], ts)
  turns_over n at before ts over = let e : n - at ≡ 0 = omega arith in ap (λ (k : ℕ). turned k before ts) e

  by_test : (n at : ℕ) (before : Option ℕ) (ts : List Token) (b : Bool) → at < n → test ts ≡ b →
      stmt_turns depth test stmt (n - at) before ts ≡ (if b then and_then (behind_try depth before stmt ts) (more (n - (at + 1))) else Ok ([], ts))
  by_test n at before ts b below is =
      let e : n - at ≡ suc (n - (at + 1)) = omega arith in
      ap (λ (k : ℕ). turned k before ts) e
      ∙ ap (λ (c : Bool). if c then and_then (behind_try depth before stmt ts) (more (n - (at + 1))) else Ok ([], ts)) is

  pub turns_stop : (n at : ℕ) (before : Option ℕ) (ts : List Token) → at < n → test ts ≡ false → stmt_turns depth test stmt (n - at) before ts ≡ Ok ([], ts)
  turns_stop n at before ts below off = by_test n at before ts false below off

  pub turns_fail : (n at : ℕ) (before : Option ℕ) (ts end : List Token) → at < n → test ts ≡ true → behind_try depth before stmt ts ≡ Err end → stmt_turns depth test stmt (n - at) before ts ≡ Err end
  turns_fail n at before ts end below on e =
      by_test n at before ts true below on ∙ ap (λ (o : Outcome Token t.Stmt). and_then o (more (n - (at + 1)))) e

  pub turns_more : (n at : ℕ) (before : Option ℕ) (ts mid : List Token) (x : t.Stmt) → at < n → test ts ≡ true → behind_try depth before stmt ts ≡ Ok (x, mid) →
      stmt_turns depth test stmt (n - at) before ts ≡ cons_to x (stmt_turns depth test stmt (n - (at + 1)) (open_try x) mid)
  turns_more n at before ts mid x below on e =
      by_test n at before ts true below on ∙ ap (λ (o : Outcome Token t.Stmt). and_then o (more (n - (at + 1)))) e

-- ---- what a loop has read

pub record StmtsSoFar (depth : ℕ) (in_part : Bool) (start : List Token) (list : List t.Stmt) (highest : ℕ) (room : Option ℕ) (left : ℕ) (rest : List Token) : Type 0 where
  pub before : Option ℕ
  pub same : room ≡ room_of depth before
  pub read : ReadSoFar stmt_list depth (stmts_at depth in_part start) list highest (stmt_turns depth (comes_in in_part) (stmt_at depth) left before rest)

module _ (depth : ℕ) (in_part : Bool) (start : List Token) where
  abbrev whole : Outcome Token (List t.Stmt)
  whole = stmts_at depth in_part start

  abbrev left_at : ℕ → Option ℕ → Reader Token (List t.Stmt)
  left_at left before ts = stmt_turns depth (comes_in in_part) (stmt_at depth) left before ts

  pub stmts_begin : (list : List t.Stmt) (left : ℕ) → list ≡ [] → left ≡ length start → StmtsSoFar depth in_part start list 0 None left start
  stmts_begin list left none all = record {
    before = None;
    same = refl;
    read = begins stmt_list depth whole tt (stmts_at depth in_part) start list 0 (left_at left None start) (same_shape (stmts_at depth in_part) start)
        (ap (λ (k : ℕ). left_at k None start) all) none (none_high ∙ ap list_height (sym none)) (omega arith);
  }

  module _ (list : List t.Stmt) (h : ℕ) (room : Option ℕ) (n at : ℕ) (rest : List Token) (i : StmtsSoFar depth in_part start list h room (n - at) rest) where
    abbrev now : Outcome Token (List t.Stmt)
    now = left_at (n - at) i.before rest

    pub stmts_stop : at < n → false ≡ comes_in in_part rest → stmts_at depth in_part start ≡ Ok (list, rest)
    stmts_stop below off = ended stmt_list depth whole list h now rest i.read (turns_stop depth (comes_in in_part) (stmt_at depth) n at i.before rest below (sym off))

    pub stmts_over : n ≤ at → stmts_at depth in_part start ≡ Ok (list, rest)
    stmts_over over = ended stmt_list depth whole list h now rest i.read (turns_over depth (comes_in in_part) (stmt_at depth) n at i.before rest over)

    pub stmts_fail : (end : List Token) → at < n → true ≡ comes_in in_part rest → behind_room room (stmt_at depth) rest ≡ Err end → stmts_at depth in_part start ≡ Err end
    stmts_fail end below on e =
        stopped stmt_list depth whole list h now end i.read (turns_fail depth (comes_in in_part) (stmt_at depth) n at i.before rest end below (sym on) (by_room depth i.before room (stmt_at depth) rest i.same ∙ e))

    pub stmts_go_on : (longer : List t.Stmt) (high : ℕ) (next : Option ℕ) (mid : List Token) (x : t.Stmt) → at < n → true ≡ comes_in in_part rest → behind_room room (stmt_at depth) rest ≡ Ok (x, mid) →
        next ≡ room_of depth (open_try x) → longer ≡ behind list x → high ≡ max h (height.stmt_height x) → height.stmt_height x ≤ depth → StmtsSoFar depth in_part start longer high next (n - (at + 1)) mid
    stmts_go_on longer high next mid x below on e opens is hi le = record {
      before = open_try x;
      same = opens;
      read = goes_on stmt_list depth whole list longer h high now (left_at (n - (at + 1)) (open_try x) mid) x i.read
          (turns_more depth (comes_in in_part) (stmt_at depth) n at i.before rest mid x below (sym on) (by_room depth i.before room (stmt_at depth) rest i.same ∙ e)) is hi le;
    }
