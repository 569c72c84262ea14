-- The law of the parts of a `switch`, at most so many, over any reader of statements (ECMA-408, 17.9 Switch). Behind `default` all labels are
-- those of statements.
use Rattle.std.proofs.Common.{◌≡◌, ℕ, zero, suc, true, false, List, [], ◌∷◌, ◌++◌, None, Some, refl, ap}
use Rattle.std.proofs.lemmas.List.{append-nil}
use Rattle.std.specs.List.{flat_map}
use Rattle.dart_base.specs.declared.place.Place.{Place}
use Rattle.dart_token.specs.declared.token.Token.{Token}
use Rattle.dart_token.specs.declared.sign.Sign.TheVariants as s
use Rattle.dart_token.specs.declared.word.Word.TheVariants as w
use Rattle.dart_tree.specs.declared.identifier.Label.{Label}
use Rattle.dart_tree.specs.LeafTokens.{sign_at, word_at}
use Rattle.dart_tree.specs.Tree.{Expr, Stmt}
use Rattle.grammar_laws.specs.Codes.{has, Within, nowhere, after_option}
use Rattle.grammar_laws.specs.Readers.{Reader, both, mapped, nothing, always, option, many as many_reader, by_first, starts}
use Rattle.grammar_laws.proofs.Codes.{apart, apart_none, inside, within_none, within_self, within_then, within_union, within_left, within_right}
use Rattle.grammar_laws.proofs.Joints.{begins}
use Rattle.grammar_laws.proofs.Restated.{made_laws, nothing_laws, wider}
use Rattle.grammar_laws.proofs.Combined.{both_laws, both_any_laws}
use Rattle.grammar_laws.proofs.Chosen.{by_first_laws}
use Rattle.grammar_laws.proofs.Followed.{option_laws}
use Rattle.grammar_laws.proofs.Repeated.{many_plain_laws}
use Rattle.dart_syntax.specs.Phrases.{Phrase, ◌~◌, many, made, opt}
use Rattle.dart_syntax.specs.Leaves as l
use Rattle.token_codes.specs.Codes.{class_of, names, these, this_word}
use Rattle.token_codes.specs.Leaves.{sign, word, label}
use Rattle.token_codes.specs.Reads.{Reads}
use Rattle.token_codes.proofs.Leaves.{sign_reads, word_reads, label_reads}
use Rattle.syntax_readers.specs.Primaries.{expr_first}
use Rattle.syntax_readers.specs.Statements.{stmt_first, stmt_comes, stmt_in_part_comes, stmts_where}
use Rattle.laws_block.specs.Begun.{StmtReads, Partless}
use Rattle.laws_block.proofs.Lists.{behind_list}
use Rattle.laws_block.proofs.PartPhrases.{Rest, More, to_default, to_case, Defaulted, Cased, rest_tokens, rest_of, more_of, more_said}
use Rattle.laws_block.proofs.PartTests.{part_codes_first, case_codes}
use Rattle.laws_block.proofs.Ends.{Ends_run, behind_run, still}
use Rattle.laws_block.proofs.Runs.{run_laws}

-- all that may go on behind parts
abbrev pub behind_parts : List ℕ
behind_parts = stmt_first ++ (part_codes_first ++ still)

-- a test tells statements from any rests of parts, behind the labels of either
abbrev pub Parted : Phrase Stmt → Type 1
Parted p = (r : Phrase Rest) → ((t : Token) (ts : List Token) → r.front (t ∷ ts) → has case_codes (class_of t) ≡ true) →
    ((y : Rest) (rest : List Token) → r.Fits y → starts class_of case_codes (r.spelling y ++ rest) ≡ true) →
    Ends_run p stmt_in_part_comes (opt (many l.label ~ r)) part_codes_first behind_parts

label_list : List Label → List Token
label_list = flat_map l.label.spelling

run_within : Within (behind_run part_codes_first behind_parts) behind_parts
run_within = within_union (within_self behind_parts) (within_self behind_parts)

list_within : Within behind_list behind_parts
list_within = within_union (within_left stmt_first (part_codes_first ++ still)) (within_then (within_right part_codes_first still) (within_right stmt_first (part_codes_first ++ still)))

module _ (n : ℕ) {stmt : Reader Token Stmt} {p : Phrase Stmt} (S : StmtReads n stmt p stmt_first) (N : Partless p) (D : Reads (stmts_where n stmt_comes stmt) (many p) stmt_first (λ xs. behind_list) true)
    (expr : Reader Token Expr) (q : Phrase Expr) (X : Reads (both expr (sign s.Colon)) (q ~ l.sign s.Colon) expr_first nowhere false)
    (E : Parted p) where
  abbrev pub rest_at : ℕ → Phrase Rest
  rest_at = rest_of p q

  abbrev more_at : ℕ → Phrase More
  more_at = more_of p q

  abbrev tokens : Rest → List Token
  tokens = rest_tokens p q

  abbrev pub labels : Reader Token (List Label)
  labels = many_reader class_of always names label

  abbrev pub more_by : Reader Token Rest → Reader Token More
  more_by r = option class_of part_codes_first (both labels r)

  abbrev defaulted : Reader Token (Place × (Place × List Stmt))
  defaulted = both (word w.Default) (both (sign s.Colon) (stmts_where n stmt_comes stmt))

  abbrev cased : Reader Token Rest → Reader Token (Place × ((Expr × Place) × (List Stmt × More)))
  cased r = both (word w.Case) (both (both expr (sign s.Colon)) (both (stmts_where n stmt_in_part_comes stmt) (more_by r)))

  abbrev pub rest_reader : ℕ → Reader Token Rest
  rest_reader zero = nothing
  rest_reader (suc k) = by_first class_of (this_word w.Default) (mapped to_default defaulted) (mapped to_case (cased (rest_reader k)))

  abbrev pub more_reader : ℕ → Reader Token More
  more_reader k = more_by (rest_reader k)

  abbrev RestReads : ℕ → Type 0
  RestReads k = Reads (rest_reader k) (rest_at k) case_codes (λ y. behind_parts) false

  default_laws : Reads (mapped to_default defaulted) (made tokens to_default (Defaulted p q)) (this_word w.Default) (λ y. behind_parts) false
  default_laws = made_laws (both_laws (word_reads w.Default) (both_any_laws (sign_reads s.Colon) D (λ place fits. apart_none stmt_first)) (λ place fits. apart_none (these s.Colon))) to_default tokens (λ y. behind_parts)
      (λ x fits. ap (λ (m : List Token). word_at x.0 w.Default ∷ sign_at x.1.0 s.Colon ∷ m) (append-nil (flat_map p.spelling x.1.1))) (λ x fits. within_union list_within (within_none behind_parts))

  pub labels_laws : Reads labels (many l.label) names (λ xs. names ++ []) true
  labels_laws = many_plain_laws label_reads {codes = []} (λ x fits. within_none []) (apart_none names)

  more_from : (k : ℕ) → RestReads k → Reads (more_reader k) (more_at k) part_codes_first (λ y. behind_parts) true
  more_from k R = wider (option_laws (wider (both_any_laws labels_laws R (λ xs fits. apart refl)) {first' = part_codes_first} {next' = λ y. behind_parts} (inside refl) (λ y fits. within_union (within_self behind_parts) (within_none behind_parts)))) (within_self part_codes_first) (λ y fits. after y) where
    after : (y : More) → Within (after_option part_codes_first (λ z. behind_parts) y) behind_parts
    after None = within_then (within_left part_codes_first still) (within_right stmt_first (part_codes_first ++ still))
    after (Some y) = within_self behind_parts

  case_said : (k : ℕ) (x : Place × ((Expr × Place) × (List Stmt × More))) → tokens (to_case x) ≡ (Cased p q (rest_at k)).spelling x
  case_said k x = ap (λ (m : List Token). word_at x.0 w.Case ∷ ((q.spelling x.1.0.0 ++ sign_at x.1.0.1 s.Colon ∷ []) ++ (flat_map p.spelling x.1.1.0 ++ m))) (more_said p q x.1.1.1 k)

  case_laws : (k : ℕ) → RestReads k → Reads (mapped to_case (cased (rest_reader k))) (made tokens to_case (Cased p q (rest_at k))) (this_word w.Case) (λ y. behind_parts) false
  case_laws k R = made_laws (both_laws (word_reads w.Case) (both_any_laws X (run_laws n S N stmt_in_part_comes (more_from k R) (apart refl) (E (rest_at k) (λ t ts f. R.firsts t ts f) (λ y rest fits. begins R y rest fits))) (λ x fits. apart_none (stmt_first ++ part_codes_first)))
      (λ place fits. apart_none expr_first)) to_case tokens (λ y. behind_parts) (λ x fits. case_said k x) (λ x fits. within_union run_within (within_none behind_parts))

  pub rest_laws : (k : ℕ) → RestReads k
  rest_laws zero = nothing_laws tokens case_codes (λ y. behind_parts) false
  rest_laws (suc k) = wider (by_first_laws default_laws (case_laws k (rest_laws k)) (apart refl)) (inside refl) (λ y fits. within_self behind_parts)

  pub more_laws : (k : ℕ) → Reads (more_reader k) (more_at k) part_codes_first (λ y. behind_parts) true
  more_laws k = more_from k (rest_laws k)
