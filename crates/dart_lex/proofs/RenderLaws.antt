-- What is written out is cut into the tokens that it was written from.
use Rattle.std.proofs.Common.{◌≡◌, ◌∙◌, sym, ap, refl, subst, ℕ, suc, ◌+◌, ◌-◌, ◌<◌, ◌≤◌, List, [], ◌∷◌, ◌++◌, zero, true, false, arith, length, take, drop, replicate, fold, max, Option, Some, None, Result, Ok, Err, ◌⊎◌, inl, inr, ◌==◌, ◌&&◌, ◌||◌, nat_lt}
use Rattle.std.proofs.lemmas.Bool.Decides.{nat_tests}
use Rattle.std.proofs.lemmas.List.{append-nil}
use Rattle.std.specs.List.{prefix_len}
use Rattle.std.specs.Str.Lossy.{utf8_valid_len}
use Rattle.dart_base.specs.declared.limit.TheConstants.{GREATEST_INTEGER, UNIT_BYTES, UNIT_LINES, UNIT_WEIGHT}
use Rattle.dart_base.specs.declared.place.Place.{Place}
use Rattle.dart_token.specs.declared.sign.Sign.TheVariants as s
use Rattle.dart_token.specs.declared.token.Quote.{Quote}
use Rattle.dart_token.specs.declared.token.Token.{Token}
use Rattle.dart_token.specs.declared.token.TokenKind.{TokenKind}
use Rattle.dart_token.specs.declared.token.TokenKind.TheVariants as t
use Rattle.dart_lex.specs.declared.lexer.LexFault.{LexFault}
use Rattle.dart_lex.specs.declared.lexer.LexFault.TheVariants as lf
use Rattle.dart_pieces.specs.declared.piece.PieceClass.{PieceClass}
use Rattle.dart_pieces.specs.declared.piece.PieceClass.TheVariants as k
use Rattle.dart_pieces.specs.declared.piece.LexReason.TheVariants as r
use Rattle.dart_pieces.specs.Bytes.{is_blank, in_line, Passes, Stops}
use Rattle.dart_pieces.specs.Cuts.{Piece, Longest, Cut, opened, innermost, script_len, begins_script}
use Rattle.dart_pieces.specs.Numbers.{integer_value}
use Rattle.dart_pieces.specs.Pieces.{IsPiece}
use Rattle.dart_pieces.specs.Reader.{piece_at}
use Rattle.dart_pieces.proofs.RunLaws.{by_bool, and_true, run_stops, take_front_at, drop_front_at}
use Rattle.dart_pieces.proofs.PieceLaws.{at_blank}
use Rattle.dart_pieces.proofs.CutLaws.{found_longest, some_bytes}
use Rattle.dart_pieces.proofs.StopLaws.{stops, greater_stops, token_in_line}
use Rattle.dart_lex.specs.Spelling.{after_byte, after, fault_of, spelled, behind, fault_or, tokens_of, lines, token_weight, weight, within_limits, start, first_place, answer, Spells}
use Rattle.dart_lex.specs.Render.{is_greater, begins_greater, text_behind, rendered, Rising, Nests, InUnit, InRange, AllAlike, Restores}

-- ---- a piece that is found is the first of a cut

pub cut_found : (nesting : List (Option Quote)) (kind : PieceClass) (p rest : List ℕ) (pieces : List Piece) → piece_at (innermost nesting) (p ++ rest) ≡ (kind, length p) → 0 < length (p ++ rest) → Cut (opened nesting kind) rest pieces
    → Cut nesting (p ++ rest) (record { class = kind; bytes = p } ∷ pieces)
cut_found nesting kind p rest pieces e lt h =
    let first : (piece_at (innermost nesting) (p ++ rest)).0 ≡ kind = ap (λ (x : PieceClass × ℕ). x.0) e in
    let second : (piece_at (innermost nesting) (p ++ rest)).1 ≡ length p = ap (λ (x : PieceClass × ℕ). x.1) e in
    let front : take (piece_at (innermost nesting) (p ++ rest)).1 (p ++ rest) ≡ p = take_front_at _ p rest second in
    let back : drop (piece_at (innermost nesting) (p ++ rest)).1 (p ++ rest) ≡ rest = drop_front_at _ p rest second in
    let longest = found_longest (innermost nesting) (p ++ rest) lt in
    let P : PieceClass → List ℕ → List ℕ → Type 0 = λ x bytes more. Longest (innermost nesting) (record { class = x; bytes = bytes }) more in
    let here : P kind p rest = subst (λ x. P x p rest) first (subst (λ x. P (piece_at (innermost nesting) (p ++ rest)).0 x rest) front (subst (λ x. P (piece_at (innermost nesting) (p ++ rest)).0 (take (piece_at (innermost nesting) (p ++ rest)).1 (p ++ rest)) x) back longest)) in
    (rest, refl, here, h)

-- ---- blanks between tokens

blank_first : (around : Option Quote) (kind : TokenKind) (p rest : List ℕ) → piece_at around (p ++ rest) ≡ (k.Lexeme kind, length p) → 0 < length p → Stops is_blank (p ++ rest)
blank_first around kind [] rest e lt = absurd (omega arith)
blank_first around kind (x ∷ p) rest e lt = by_bool (is_blank x)
    (λ y. let f : (k.Blank, prefix_len is_blank (x ∷ (p ++ rest))) ≡ (k.Lexeme kind, length (x ∷ p)) = sym (at_blank around x (p ++ rest) y) ∙ e in
    let bad : k.Blank ≡ k.Lexeme kind = ap (λ (z : PieceClass × ℕ). z.0) f in absurd cc)
    (λ y. y)

blank_found : (around : Option Quote) (b : ℕ) (gap rest : List ℕ) → is_blank b ≡ true → Passes is_blank gap → Stops is_blank rest → piece_at around ((b ∷ gap) ++ rest) ≡ (k.Blank, length (b ∷ gap))
blank_found around b gap rest e h stop = at_blank around b (gap ++ rest) e ∙ ap (λ n. (k.Blank, n)) (run_stops is_blank (b ∷ gap) rest (e, h) stop)

blanks : (n : ℕ) → Passes is_blank (replicate n 10)
blanks zero = tt
blanks (suc n) = (refl, blanks n)

-- ---- places

line_kept : (p : List ℕ) (place : Place) → Passes in_line p → ((after place p).line ≡ place.line) × ((after place p).unit ≡ place.unit)
line_kept [] place h = (refl, refl)
line_kept (b ∷ p) place h = by_bool (b == 10)
    (λ y. let bad : false ≡ true = rw y at h.0 in absurd cc)
    (λ y.
    let step : after_byte place b ≡ record { unit = place.unit; line = place.line; column = place.column + 1 } = rw y refl in
    let more = line_kept p (record { unit = place.unit; line = place.line; column = place.column + 1 }) h.1 in
    (ap (λ q. (after q p).line) step ∙ more.0, ap (λ q. (after q p).unit) step ∙ more.1))

lines_passed : (n : ℕ) (place : Place) → ((after place (replicate n 10)).line ≡ place.line + n) × ((after place (replicate n 10)).unit ≡ place.unit)
lines_passed zero place = (omega arith, refl)
lines_passed (suc n) place =
    let more = lines_passed n (record { unit = place.unit; line = place.line + 1; column = 1 }) in
    let e = more.0 in
    (omega arith, more.1)

-- ---- one more token

abbrev pub Reads : ℕ → ℕ → List Piece → List Token → Type 0
Reads unit line pieces tokens = (place : Place) → place.line ≡ line → place.unit ≡ unit → (read : List Token) × (tokens_of place pieces ≡ Ok read) × AllAlike tokens read

no_fault : (place : Place) (kind : TokenKind) (bytes : List ℕ) → (kind ≡ t.Integer → integer_value bytes ≤ GREATEST_INTEGER) → fault_of place (k.Lexeme kind) bytes ≡ None
no_fault place t.Integer bytes h = let le = h refl in let y : nat_lt GREATEST_INTEGER (integer_value bytes) ≡ false = grind (arith, nat_tests) in rw y refl
no_fault place t.Identifier bytes h = refl
no_fault place (t.Word word) bytes h = refl
no_fault place t.Whole bytes h = refl
no_fault place (t.Head quote) bytes h = refl
no_fault place t.Middle bytes h = refl
no_fault place t.Tail bytes h = refl
no_fault place (t.Sign sign) bytes h = refl

reads_token : (unit : ℕ) (a : Token) (tokens : List Token) (pieces : List Piece) → (a.kind ≡ t.Integer → integer_value a.lexeme ≤ GREATEST_INTEGER) → Passes in_line a.lexeme → a.place.unit ≡ unit
    → Reads unit a.place.line pieces tokens → Reads unit a.place.line (record { class = k.Lexeme a.kind; bytes = a.lexeme } ∷ pieces) (a ∷ tokens)
reads_token unit a tokens pieces small inside of_unit more place e f =
    let kept = line_kept a.lexeme place inside in
    let (read, same, alike) = more (after place a.lexeme) (kept.0 ∙ e) (kept.1 ∙ f) in
    let token : Token = record { kind = a.kind; place = place; lexeme = a.lexeme } in
    let step : tokens_of place (record { class = k.Lexeme a.kind; bytes = a.lexeme } ∷ pieces) ≡ Ok (record { kind = a.kind; place = place; lexeme = a.lexeme } ∷ read) = rw (no_fault place a.kind a.lexeme small) (ap (behind (record { kind = a.kind; place = place; lexeme = a.lexeme } ∷ [])) same) in
    (record { kind = a.kind; place = place; lexeme = a.lexeme } ∷ read, step, (refl, refl, of_unit ∙ sym f, sym e, alike))

reads_blank : (unit line next : ℕ) (gap : List ℕ) (tokens : List Token) (pieces : List Piece) → ((place : Place) → place.line ≡ line → ((after place gap).line ≡ next) × ((after place gap).unit ≡ place.unit))
    → Reads unit next pieces tokens → Reads unit line (record { class = k.Blank; bytes = gap } ∷ pieces) tokens
reads_blank unit line next gap tokens pieces passed more place e f =
    let there = passed place e in
    let (read, same, alike) = more (after place gap) there.0 (there.1 ∙ f) in
    (read, ap (behind []) same, alike)

-- ---- a token goes no further than what is written behind it

greater_is : (kind : TokenKind) → is_greater kind ≡ true → kind ≡ t.Sign s.Greater
greater_is (t.Sign s.Greater) e = refl
greater_is other e = absurd cc

begins_is : (kind : TokenKind) → begins_greater kind ≡ true → (kind ≡ t.Sign s.Greater) ⊎ (kind ≡ t.Sign s.GreaterEqual)
begins_is (t.Sign s.Greater) e = inl refl
begins_is (t.Sign s.GreaterEqual) e = inr refl
begins_is other e = absurd cc

greater_bytes : (around : Option Quote) (kind : TokenKind) (p : List ℕ) → is_greater kind ≡ true → IsPiece around (k.Lexeme kind) p → p ≡ 62 ∷ []
greater_bytes around kind p e h = (subst (λ x. IsPiece around (k.Lexeme x) p) (greater_is kind e) h).0

begins_bytes : (around : Option Quote) (kind : TokenKind) (p : List ℕ) → begins_greater kind ≡ true → IsPiece around (k.Lexeme kind) p → (more : List ℕ) × (p ≡ 62 ∷ more)
begins_bytes around kind p e h = elim (begins_is kind e) as (λ _. (more : List ℕ) × (p ≡ 62 ∷ more)) [
  | inl f ↦ ([], (subst (λ x. IsPiece around (k.Lexeme x) p) f h).0)
  | inr f ↦ (61 ∷ [], (subst (λ x. IsPiece around (k.Lexeme x) p) f h).0)
]

greater_ends : (around inner : Option Quote) (kind next : TokenKind) (p q rest : List ℕ) → is_greater kind ≡ true → begins_greater next ≡ true → IsPiece around (k.Lexeme kind) p → IsPiece inner (k.Lexeme next) q
    → piece_at around (p ++ (q ++ rest)) ≡ (k.Lexeme kind, length p)
greater_ends around inner kind next p q rest e f h g =
    let kinds : kind ≡ t.Sign s.Greater = greater_is kind e in
    let first : p ≡ 62 ∷ [] = greater_bytes around kind p e h in
    let (more, second) = begins_bytes inner next q f g in
    rw kinds (rw first (rw second (greater_stops around (more ++ rest))))

more_lines : (m n : ℕ) → nat_lt m n ≡ true → (d : ℕ) × (n - m ≡ suc d) × (n ≡ m + suc d)
more_lines m n e = let lt : m < n = grind (arith, nat_tests) in ((n - m) - 1, omega arith, omega arith)

token_ends : (nesting : List (Option Quote)) (a : Token) (tokens : List Token) → IsPiece (innermost nesting) (k.Lexeme a.kind) a.lexeme → Nests (opened nesting (k.Lexeme a.kind)) tokens
    → piece_at (innermost nesting) (a.lexeme ++ text_behind a tokens) ≡ (k.Lexeme a.kind, length a.lexeme)
token_ends nesting a [] h nest = stops (innermost nesting) a.kind a.lexeme 10 [] (inr refl) h
token_ends nesting a (b ∷ tokens) h nest = by_bool (nat_lt a.place.line b.place.line)
    (λ y.
    let (d, n, m) = more_lines a.place.line b.place.line y in
    rw y (rw n (stops (innermost nesting) a.kind a.lexeme 10 (replicate d 10 ++ (b.lexeme ++ text_behind b tokens)) (inr refl) h)))
    (λ y. by_bool (is_greater a.kind && begins_greater b.kind)
    (λ z.
    let both = and_true (is_greater a.kind) (begins_greater b.kind) z in
    rw (y, z) (greater_ends (innermost nesting) (innermost (opened nesting (k.Lexeme a.kind))) a.kind b.kind a.lexeme b.lexeme (text_behind b tokens) both.0 both.1 h nest.0))
    (λ z. rw (y, z) (stops (innermost nesting) a.kind a.lexeme 32 (b.lexeme ++ text_behind b tokens) (inl refl) h)))

-- ---- the cut of what is written behind a token

token_some : (around : Option Quote) (kind : PieceClass) (p : List ℕ) → IsPiece around kind p → 0 < length p
token_some around kind p h = subst (λ x. 0 < length x) (append-nil p) (some_bytes around kind p [] h)

gap_cut : (nesting : List (Option Quote)) (b : ℕ) (gap rest : List ℕ) (pieces : List Piece) → is_blank b ≡ true → Passes is_blank gap → Stops is_blank rest → Cut nesting rest pieces → Cut nesting ((b ∷ gap) ++ rest) (record { class = k.Blank; bytes = b ∷ gap } ∷ pieces)
gap_cut nesting b gap rest pieces e h stop cut = cut_found nesting k.Blank (b ∷ gap) rest pieces (blank_found (innermost nesting) b gap rest e h stop) (omega arith) cut

abbrev pub Follows : ℕ → List (Option Quote) → ℕ → List Token → List ℕ → Type 0
Follows unit nesting line tokens text = (pieces : List Piece) × Cut nesting text pieces × Reads unit line pieces tokens

behind_cut : (unit : ℕ) (nesting : List (Option Quote)) (a : Token) (tokens : List Token) → Nests nesting tokens → Rising a.place.line tokens → InUnit unit tokens → InRange tokens → Follows unit nesting a.place.line tokens (text_behind a tokens)
behind_cut unit nesting a [] nest rise of_unit small = (record { class = k.Blank; bytes = 10 ∷ [] } ∷ [], gap_cut nesting 10 [] [] [] refl tt tt refl, λ place e f. ([], refl, tt))
behind_cut unit nesting a (b ∷ tokens) nest rise of_unit small =
    let (pieces, cut, reads) = behind_cut unit (opened nesting (k.Lexeme b.kind)) b tokens nest.1 rise.1 of_unit.1 small.1 in
    let ends = token_ends nesting b tokens nest.0 nest.1 in
    let some : 0 < length (b.lexeme ++ text_behind b tokens) = some_bytes (innermost nesting) (k.Lexeme b.kind) b.lexeme (text_behind b tokens) nest.0 in
    let whole : Cut nesting (b.lexeme ++ text_behind b tokens) (record { class = k.Lexeme b.kind; bytes = b.lexeme } ∷ pieces) = cut_found nesting (k.Lexeme b.kind) b.lexeme (text_behind b tokens) pieces ends some cut in
    let all : Reads unit b.place.line (record { class = k.Lexeme b.kind; bytes = b.lexeme } ∷ pieces) (b ∷ tokens) = reads_token unit b tokens pieces small.0 (token_in_line (innermost nesting) b.kind b.lexeme nest.0) of_unit.0 reads in
    let stop : Stops is_blank (b.lexeme ++ text_behind b tokens) = blank_first (innermost nesting) b.kind b.lexeme (text_behind b tokens) ends (token_some (innermost nesting) (k.Lexeme b.kind) b.lexeme nest.0) in
    by_bool (nat_lt a.place.line b.place.line)
    (λ y.
    let (d, n, m) = more_lines a.place.line b.place.line y in
    rw y (rw n (
      record { class = k.Blank; bytes = 10 ∷ replicate d 10 } ∷ record { class = k.Lexeme b.kind; bytes = b.lexeme } ∷ pieces,
      gap_cut nesting 10 (replicate d 10) (b.lexeme ++ text_behind b tokens) (record { class = k.Lexeme b.kind; bytes = b.lexeme } ∷ pieces) refl (blanks d) stop whole,
      reads_blank unit a.place.line b.place.line (10 ∷ replicate d 10) (b ∷ tokens) (record { class = k.Lexeme b.kind; bytes = b.lexeme } ∷ pieces) (λ place e. let there = lines_passed (suc d) place in (there.0 ∙ ap (λ line. line + suc d) e ∙ sym m, there.1)) all,
    )))
    (λ y.
    let le = rise.0 in
    let same : a.place.line ≡ b.place.line = grind (arith, nat_tests) in
    by_bool (is_greater a.kind && begins_greater b.kind)
    (λ z. rw (y, z) (record { class = k.Lexeme b.kind; bytes = b.lexeme } ∷ pieces, whole, subst (λ line. Reads unit line (record { class = k.Lexeme b.kind; bytes = b.lexeme } ∷ pieces) (b ∷ tokens)) (sym same) all))
    (λ z. rw (y, z) (
      record { class = k.Blank; bytes = 32 ∷ [] } ∷ record { class = k.Lexeme b.kind; bytes = b.lexeme } ∷ pieces,
      gap_cut nesting 32 [] (b.lexeme ++ text_behind b tokens) (record { class = k.Lexeme b.kind; bytes = b.lexeme } ∷ pieces) refl tt stop whole,
      reads_blank unit a.place.line b.place.line (32 ∷ []) (b ∷ tokens) (record { class = k.Lexeme b.kind; bytes = b.lexeme } ∷ pieces) (λ place e. (e ∙ same, refl)) all,
    )))

-- ---- the whole text

hash_found : (rest : List ℕ) → piece_at None (35 ∷ rest) ≡ (k.Refused r.Symbol, 1)
hash_found [] = refl
hash_found (x ∷ []) = refl
hash_found (x ∷ y ∷ rest) = refl

no_script : (text : List ℕ) (kind : TokenKind) (n : ℕ) → piece_at None text ≡ (k.Lexeme kind, n) → begins_script text ≡ false
no_script [] kind n e = refl
no_script (x ∷ []) kind n e = refl
no_script (x ∷ y ∷ more) kind n e = by_bool (x == 35)
    (λ z. let same : x ≡ 35 = grind (arith, nat_tests) in
    let f : (k.Refused r.Symbol, 1) ≡ (k.Lexeme kind, n) = sym (hash_found (y ∷ more)) ∙ sym (ap (λ b. piece_at None (b ∷ y ∷ more)) same) ∙ e in
    let bad : k.Refused r.Symbol ≡ k.Lexeme kind = ap (λ (p : PieceClass × ℕ). p.0) f in absurd cc)
    (λ z. rw z refl)

line_no_script : (more : List ℕ) → begins_script (10 ∷ more) ≡ false
line_no_script [] = refl
line_no_script (x ∷ more) = refl

restores_from : (unit : ℕ) (tokens : List Token) (text : List ℕ) (pieces : List Piece) → begins_script text ≡ false → Cut [] text pieces → Reads unit 1 pieces tokens → Restores unit tokens text
restores_from unit tokens text pieces plain cut reads = rw plain (pieces, cut, reads (start unit) refl refl)

first_lines : (unit n : ℕ) (a : Token) (tokens : List Token) (text : List ℕ) (pieces : List Piece) → a.place.line ≡ 1 + n → (m : ℕ) → piece_at None text ≡ (k.Lexeme a.kind, m) → Stops is_blank text → Cut [] text pieces → Reads unit a.place.line pieces (a ∷ tokens)
    → Restores unit (a ∷ tokens) (replicate n 10 ++ text)
first_lines unit zero a tokens text pieces e m found stop cut reads =
    let one : a.place.line ≡ 1 = omega arith in
    restores_from unit (a ∷ tokens) text pieces (no_script text a.kind m found) cut (subst (λ line. Reads unit line pieces (a ∷ tokens)) one reads)
first_lines unit (suc n) a tokens text pieces e m found stop cut reads =
    restores_from unit (a ∷ tokens) (10 ∷ (replicate n 10 ++ text)) (record { class = k.Blank; bytes = 10 ∷ replicate n 10 } ∷ pieces) (line_no_script (replicate n 10 ++ text)) (gap_cut [] 10 (replicate n 10) text pieces refl (blanks n) stop cut)
    (reads_blank unit 1 a.place.line (10 ∷ replicate n 10) (a ∷ tokens) pieces (λ place f. let there = lines_passed (suc n) place in (there.0 ∙ ap (λ line. line + suc n) f ∙ sym e, there.1)) reads)

pub rendered_restores : (unit : ℕ) (tokens : List Token) → Rising 1 tokens → Nests [] tokens → InUnit unit tokens → InRange tokens → Restores unit tokens (rendered tokens)
rendered_restores unit [] rise nest of_unit small = ([], refl, ([], refl, tt))
rendered_restores unit (a ∷ tokens) rise nest of_unit small =
    let (pieces, cut, reads) = behind_cut unit (opened [] (k.Lexeme a.kind)) a tokens nest.1 rise.1 of_unit.1 small.1 in
    let ends = token_ends [] a tokens nest.0 nest.1 in
    let some : 0 < length (a.lexeme ++ text_behind a tokens) = some_bytes (innermost []) (k.Lexeme a.kind) a.lexeme (text_behind a tokens) nest.0 in
    let whole : Cut [] (a.lexeme ++ text_behind a tokens) (record { class = k.Lexeme a.kind; bytes = a.lexeme } ∷ pieces) = cut_found [] (k.Lexeme a.kind) a.lexeme (text_behind a tokens) pieces ends some cut in
    let all : Reads unit a.place.line (record { class = k.Lexeme a.kind; bytes = a.lexeme } ∷ pieces) (a ∷ tokens) = reads_token unit a tokens pieces small.0 (token_in_line (innermost []) a.kind a.lexeme nest.0) of_unit.0 reads in
    let stop : Stops is_blank (a.lexeme ++ text_behind a tokens) = blank_first (innermost []) a.kind a.lexeme (text_behind a tokens) ends (token_some (innermost []) (k.Lexeme a.kind) a.lexeme nest.0) in
    let le = rise.0 in
    let n : a.place.line ≡ 1 + (a.place.line - 1) = omega arith in
    first_lines unit (a.place.line - 1) a tokens (a.lexeme ++ text_behind a tokens) (record { class = k.Lexeme a.kind; bytes = a.lexeme } ∷ pieces) n (length a.lexeme) ends stop whole all

-- ---- the tokens of a text can be written out

abbrev pub Renderable : ℕ → ℕ → List (Option Quote) → List Token → Type 0
Renderable unit line nesting tokens = Rising line tokens × Nests nesting tokens × InUnit unit tokens × InRange tokens

later : (p : List ℕ) (place : Place) → (place.line ≤ (after place p).line) × ((after place p).unit ≡ place.unit)
later [] place = (omega arith, refl)
later (b ∷ p) place = by_bool (b == 10)
    (λ y.
    let step : after_byte place b ≡ record { unit = place.unit; line = place.line + 1; column = 1 } = rw y refl in
    let more = later p (record { unit = place.unit; line = place.line + 1; column = 1 }) in
    let le = more.0 in
    let same : (after (after_byte place b) p).line ≡ (after (record { unit = place.unit; line = place.line + 1; column = 1 }) p).line = ap (λ q. (after q p).line) step in
    (omega arith, ap (λ q. (after q p).unit) step ∙ more.1))
    (λ y.
    let step : after_byte place b ≡ record { unit = place.unit; line = place.line; column = place.column + 1 } = rw y refl in
    let more = later p (record { unit = place.unit; line = place.line; column = place.column + 1 }) in
    let le = more.0 in
    let same : (after (after_byte place b) p).line ≡ (after (record { unit = place.unit; line = place.line; column = place.column + 1 }) p).line = ap (λ q. (after q p).line) step in
    (omega arith, ap (λ q. (after q p).unit) step ∙ more.1))

behind_ok : (found tokens : List Token) (read : Result (List Token) LexFault) → behind found read ≡ Ok tokens → (more : List Token) × (read ≡ Ok more) × (tokens ≡ found ++ more)
behind_ok found tokens (Ok more) e = (more, refl, cc)
behind_ok found tokens (Err fault) e = absurd cc

fault_none : (fault : Option LexFault) (read : Result (List Token) LexFault) (tokens : List Token) → fault_or fault read ≡ Ok tokens → (fault ≡ None) × (read ≡ Ok tokens)
fault_none None read tokens e = (refl, e)
fault_none (Some fault) read tokens e = absurd cc

in_range : (place : Place) (kind : TokenKind) (bytes : List ℕ) → fault_of place (k.Lexeme kind) bytes ≡ None → kind ≡ t.Integer → integer_value bytes ≤ GREATEST_INTEGER
in_range place kind bytes e f =
    let g : fault_of place (k.Lexeme t.Integer) bytes ≡ None = subst (λ x. fault_of place (k.Lexeme x) bytes ≡ None) f e in
    by_bool (nat_lt GREATEST_INTEGER (integer_value bytes))
    (λ y. let bad : ◌≡◌ {A = Option LexFault} (Some (lf.IntegerTooLarge place)) None = rw y at g in absurd cc)
    (λ y. grind (arith, nat_tests))

piece_renderable : (unit line : ℕ) (nesting : List (Option Quote)) (kind : PieceClass) (p : List ℕ) (pieces : List Piece) (place : Place) (tokens : List Token) → place.unit ≡ unit → line ≤ place.line → IsPiece (innermost nesting) kind p
    → ((from : ℕ) (others : List Token) → from ≤ (after place p).line → tokens_of (after place p) pieces ≡ Ok others → Renderable unit from (opened nesting kind) others)
    → tokens_of place (record { class = kind; bytes = p } ∷ pieces) ≡ Ok tokens → Renderable unit line nesting tokens
piece_renderable unit line nesting k.Blank p pieces place tokens u le is more e =
    let (others, read, all) = behind_ok [] tokens (tokens_of (after place p) pieces) e in
    let next = (later p place).0 in
    subst (Renderable unit line nesting) (sym all) (more line others (omega arith) read)
piece_renderable unit line nesting k.Comment p pieces place tokens u le is more e =
    let (others, read, all) = behind_ok [] tokens (tokens_of (after place p) pieces) e in
    let next = (later p place).0 in
    subst (Renderable unit line nesting) (sym all) (more line others (omega arith) read)
piece_renderable unit line nesting (k.Refused reason) p pieces place tokens u le is more e = absurd cc
piece_renderable unit line nesting (k.Lexeme kind) p pieces place tokens u le is more e =
    let (fine, read_all) = fault_none (fault_of place (k.Lexeme kind) p) (behind (spelled place (k.Lexeme kind) p) (tokens_of (after place p) pieces)) tokens e in
    let (others, read, all) = behind_ok (spelled place (k.Lexeme kind) p) tokens (tokens_of (after place p) pieces) read_all in
    let (rise, nest, of_unit, small) = more place.line others ((later p place).0) read in
    subst (Renderable unit line nesting) (sym all) ((le, rise), (is, nest), (u, of_unit), (in_range place kind p fine, small))

pieces_renderable : (unit line : ℕ) (nesting : List (Option Quote)) (text : List ℕ) (pieces : List Piece) (place : Place) (tokens : List Token) → place.unit ≡ unit → line ≤ place.line → Cut nesting text pieces → tokens_of place pieces ≡ Ok tokens → Renderable unit line nesting tokens
pieces_renderable unit line nesting text [] place tokens u le cut e = let none : [] ≡ tokens = cc in subst (Renderable unit line nesting) none (tt, tt, tt, tt)
pieces_renderable unit line nesting text (piece ∷ pieces) place tokens u le (rest, same, longest, cut) e =
    piece_renderable unit line nesting piece.class piece.bytes pieces place tokens u le longest.0
    (λ from others fits read. pieces_renderable unit from (opened nesting piece.class) rest pieces (after place piece.bytes) others ((later piece.bytes place).1 ∙ u) fits cut read) e

read_in : (text : List ℕ) (tokens : List Token) (read : Result (List Token) LexFault) → within_limits text read ≡ Ok tokens → read ≡ Ok tokens
read_in text tokens (Err fault) e = absurd cc
read_in text tokens (Ok read) e = by_bool (nat_lt UNIT_LINES (lines text) || nat_lt UNIT_WEIGHT (weight read))
    (λ y. let bad : ◌≡◌ {A = Result (List Token) LexFault} (Err lf.TooLarge) (Ok tokens) = rw y at e in absurd cc)
    (λ y. rw y at e)

answer_in : (unit : ℕ) (text : List ℕ) (pieces : List Piece) (tokens : List Token) → answer unit text pieces ≡ Ok tokens → tokens_of (first_place unit text) pieces ≡ Ok tokens
answer_in unit text pieces tokens e = by_bool (nat_lt UNIT_BYTES (length text))
    (λ y. let bad : ◌≡◌ {A = Result (List Token) LexFault} (Err lf.TooLarge) (Ok tokens) = rw y at e in absurd cc)
    (λ y. by_bool (nat_lt (utf8_valid_len text) (length text))
    (λ z. let bad : ◌≡◌ {A = Result (List Token) LexFault} (Err (lf.NotUtf8 (utf8_valid_len text))) (Ok tokens) = rw z at (rw y at e) in absurd cc)
    (λ z. read_in text tokens (tokens_of (first_place unit text) pieces) (rw z at (rw y at e))))

pub spelled_renderable : (unit : ℕ) (text : List ℕ) (tokens : List Token) → Spells unit text tokens → Renderable unit 1 [] tokens
spelled_renderable unit text tokens (pieces, cut, e) =
    let first = later (take (script_len text) text) (start unit) in
    let le : 1 ≤ (first_place unit text).line = first.0 in
    pieces_renderable unit 1 [] (drop (script_len text) text) pieces (first_place unit text) tokens first.1 le cut (answer_in unit text pieces tokens e)

-- ---- what is written out is lexed again, within the limits

weight_alike : (n : ℕ) (tokens others : List Token) → AllAlike tokens others → fold (λ m token. m + token_weight token) n tokens ≡ fold (λ m token. m + token_weight token) n others
weight_alike n [] [] h = refl
weight_alike n [] (b ∷ others) h = absurd h
weight_alike n (a ∷ tokens) [] h = absurd h
weight_alike n (a ∷ tokens) (b ∷ others) h =
    let one : n + token_weight a ≡ n + token_weight b = ap (λ bytes. n + max 3 (length bytes)) h.1 in
    ap (λ m. fold (λ m token. m + token_weight token) m tokens) one ∙ weight_alike (n + token_weight b) tokens others h.4

pub restored_spells : (unit : ℕ) (tokens : List Token) (bytes : List ℕ) → Restores unit tokens bytes → length bytes ≤ UNIT_BYTES → utf8_valid_len bytes ≡ length bytes → lines bytes ≤ UNIT_LINES → weight tokens ≤ UNIT_WEIGHT
    → (read : List Token) × Spells unit bytes read × AllAlike tokens read
restored_spells unit tokens bytes (pieces, cut, (read, same, alike)) short utf8 few light =
    let equal : weight tokens ≡ weight read = weight_alike 0 tokens read alike in
    let small : weight read ≤ UNIT_WEIGHT = rw (← equal) light in
    let x : nat_lt UNIT_BYTES (length bytes) ≡ false = grind (arith, nat_tests) in
    let y : nat_lt (utf8_valid_len bytes) (length bytes) ≡ false = grind (arith, nat_tests) in
    let z : nat_lt UNIT_LINES (lines bytes) ≡ false = grind (arith, nat_tests) in
    let w : nat_lt UNIT_WEIGHT (weight read) ≡ false = grind (arith, nat_tests) in
    let limits : within_limits bytes (Ok read) ≡ Ok read = rw (z, w) refl in
    let whole : answer unit bytes pieces ≡ within_limits bytes (tokens_of (first_place unit bytes) pieces) = rw (x, y) refl in
    (read, (pieces, cut, whole ∙ ap (within_limits bytes) same ∙ limits), alike)
