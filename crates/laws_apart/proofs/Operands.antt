-- Where primaries, selectors and operators lead, from the beginning and behind a name and `<`.
use Rattle.std.proofs.Common.{◌≡◌, ℕ, zero, suc, Bool, true, false, ◌&&◌, List, [], ◌∷◌, ◌++◌, None, refl, ap, ◌∙◌, append_assoc}
use Rattle.std.proofs.lemmas.List.{append-nil}
use Rattle.dart_base.specs.declared.place.Place.{Place}
use Rattle.dart_token.specs.declared.token.Token.{Token}
use Rattle.dart_token.specs.declared.token.TokenKind.TheVariants as tk
use Rattle.dart_token.specs.declared.sign.Sign.{Sign}
use Rattle.dart_token.specs.declared.sign.Sign.TheVariants as s
use Rattle.dart_token.specs.declared.word.Word.TheVariants as w
use Rattle.dart_tree.specs.declared.operator.Operator.TheVariants as o
use Rattle.dart_tree.specs.declared.expression.Atom.{Atom}
use Rattle.dart_tree.specs.declared.expression.Atom.TheVariants as a
use Rattle.dart_tree.specs.declared.expression.Creation.{Creation}
use Rattle.dart_tree.specs.declared.expression.Creation.TheVariants as c
use Rattle.dart_tree.specs.declared.expression.PieceKind.{PieceKind}
use Rattle.dart_tree.specs.declared.expression.PieceKind.TheVariants as pk
use Rattle.dart_tree.specs.LeafTokens.{word_at, piece_token, operator_tokens, atom_tokens, type_tokens, type_arguments_tokens, type_list_tokens}
use Rattle.dart_tree.specs.Types.{TypeList}
use Rattle.dart_tree.specs.Tree as t
use Rattle.dart_tree.specs.Tree.{Expr}
use Rattle.dart_tree.specs.Tokens.{expr_tokens, operand_tokens, primary_tokens, selector_tokens, arguments_tokens, parameters_tokens, pieces_tokens}
use Rattle.dart_tree.specs.Tokens.{entries_tokens, body_tokens}
use Rattle.grammar_laws.proofs.Codes.{and_both}
use Rattle.dart_syntax.specs.Phrases.{Phrase, made}
use Rattle.dart_syntax.specs.Leaves.{creation_tokens, piece, one_of, word}
use Rattle.dart_syntax.specs.Types.{in_angles, type_arguments}
use Rattle.dart_syntax.specs.Expressions.{ExprNodes, to_entries, join_pieces, joined, type_takes_names, head, one_string, strings, list_over, entries_over}
use Rattle.dart_syntax.specs.Expressions.{map_over, literal_body_over, function_literal_over, literal_over, member, bracketed_of, primary_of, shifting}
use Rattle.dart_syntax.specs.Expressions.{assignment_signs, assigning}
use Rattle.dart_syntax.specs.Statements.{within, nodes_over}
use Rattle.dart_syntax.specs.Agreement.{Agrees, ExprsAgree}
use Rattle.dart_syntax.proofs.Agreeing.{leaf_agrees, seq_agrees, many_agrees, opt_agrees, either_agrees, perhaps_agrees, made_agrees}
use Rattle.dart_syntax.proofs.AgreeingTypes.{sign_agrees, commas_agree, said_angles, one_type_agrees, two_types_agree}
use Rattle.dart_syntax.proofs.AgreeingExpressions.{head_tokens, one_string_agrees, plain_list_agrees, selector_agrees, said_sign, said_entries, said_middles}
use Rattle.dart_syntax.proofs.AgreeingExpressions.{said_append, said_joined}
use Rattle.laws_apart.proofs.Telling.{Sort, constant, dot, less, greater, left, ending, body, other, State, begun, named, dotted, compared, second}
use Rattle.laws_apart.proofs.Telling.{second_dotted, closed, called, opened, shut, typing, typed, known, free, wrong, neither, sign_sort, kind_sort, among}
use Rattle.laws_apart.proofs.Telling.{outside, under, included, goes}
use Rattle.laws_apart.proofs.Judges.{name_through, leaf_leads, none_leads, the_sign, the_word, an_identifier, seq_leads, either_leads, opt_leads, such_leads}
use Rattle.laws_apart.proofs.Judges.{made_leads, absorbs, dot_name_leads, raised, Parenthesized, names}
use Rattle.laws_apart.proofs.Leading.{Through, Leads, leap, leaps, one_through, parenthesized_leads, telling, leap_name}
use Rattle.laws_apart.proofs.Types.{inner_types, at_begin}

-- what no beginning of an expression leads to
abbrev pub fine : State → Bool
fine = outside (typing ∷ typed ∷ known ∷ wrong ∷ neither ∷ [])

abbrev pub at_free : State → Bool
at_free = among (free ∷ [])

-- behind `new` or `const`, and behind a type there
abbrev at_made : State → Bool
at_made = among (opened ∷ free ∷ [])

abbrev behind_made : State → Bool
behind_made = among (shut ∷ free ∷ [])

-- behind the first of two `>`
abbrev pub halved : State → Bool
halved = among (closed ∷ free ∷ [])

leap_goes : (f g : State → Bool) (c : Sort) → leap fine f c g ≡ true → goes f c g ≡ true
leap_goes f g c h = (and_both (goes f c g) (under f fine && under g fine) h).0

-- where operands begin, behind a type's arguments there, behind a dot and behind an operand
pub record Entry (from args dots end : State → Bool) : Type 0 where
  pub low : under from fine ≡ true
  pub high : under end fine ≡ true
  pub named_end : leap_name fine from end ≡ true
  pub other_opens : leap fine from other at_free ≡ true
  pub left_opens : leap fine from left at_free ≡ true
  pub less_opens : leap fine from less at_free ≡ true
  pub parameters_open : leaps fine from at_free ≡ true
  pub makes : leap fine from constant at_made ≡ true
  pub new_makes : leap fine from other at_made ≡ true
  pub args_from : under from args ≡ true
  pub args_free : under at_free args ≡ true
  pub args_other : leap fine args other at_free ≡ true
  pub args_body : leap fine args body at_free ≡ true
  pub dotted_end : leap fine end dot dots ≡ true
  pub member_end : leap_name fine dots end ≡ true
  pub freed : leap fine end other at_free ≡ true
  pub ended : leap fine end ending at_free ≡ true
  pub half : leap fine end greater halved ≡ true
  pub call_end : leaps fine end end ≡ true
  pub free_end : under at_free end ≡ true

-- the two places where operands are judged, with what is behind them
abbrev pub at_compared : State → Bool
at_compared = among (compared ∷ [])

abbrev pub tight : State → Bool
tight = among (named ∷ called ∷ free ∷ [])

abbrev pub behind_second : State → Bool
behind_second = among (second ∷ free ∷ [])

abbrev pub begun_args : State → Bool
begun_args = among (begun ∷ free ∷ [])

abbrev pub compared_args : State → Bool
compared_args = among (compared ∷ free ∷ [])

abbrev pub tight_dots : State → Bool
tight_dots = among (dotted ∷ free ∷ [])

abbrev pub second_dots : State → Bool
second_dots = among (second_dotted ∷ free ∷ [])

pub from_begun : Entry at_begin begun_args tight_dots tight
from_begun = record {
  low = refl;
  high = refl;
  named_end = refl;
  other_opens = refl;
  left_opens = refl;
  less_opens = refl;
  parameters_open = refl;
  makes = refl;
  new_makes = refl;
  args_from = refl;
  args_free = refl;
  args_other = refl;
  args_body = refl;
  dotted_end = refl;
  member_end = refl;
  freed = refl;
  ended = refl;
  half = refl;
  call_end = refl;
  free_end = refl;
}

pub from_compared : Entry at_compared compared_args second_dots behind_second
from_compared = record {
  low = refl;
  high = refl;
  named_end = refl;
  other_opens = refl;
  left_opens = refl;
  less_opens = refl;
  parameters_open = refl;
  makes = refl;
  new_makes = refl;
  args_from = refl;
  args_free = refl;
  args_other = refl;
  args_body = refl;
  dotted_end = refl;
  member_end = refl;
  freed = refl;
  ended = refl;
  half = refl;
  call_end = refl;
  free_end = refl;
}

-- ---- operators

-- a sign of no other sort
abbrev pub is_other : Sort → Bool
is_other other = true
is_other ending = true
is_other c = false

abbrev pub all_other : List Sign → Bool
all_other [] = true
all_other (x ∷ xs) = is_other (sign_sort x) && all_other xs

module _ (f : State → Bool) (low : under f fine ≡ true) (others : leap fine f other at_free ≡ true) (endings : leap fine f ending at_free ≡ true) where
  sort_leap : (x : Sort) → is_other x ≡ true → leap fine f x at_free ≡ true
  sort_leap other h = others
  sort_leap ending h = endings
  sort_leap x h = absurd cc

  pub others_lead : (xs : List Sign) → all_other xs ≡ true → Leads fine f at_free operator_tokens (one_of xs)
  others_lead [] h = none_leads fine f at_free operator_tokens low
  others_lead (x ∷ xs) h =
      let b = and_both (is_other (sign_sort x)) (all_other xs) h in
      either_leads (made_leads (the_sign fine f at_free x (sort_leap (sign_sort x) b.0)) operator_tokens (λ place. o.Sign place x) (λ place. refl))
      (others_lead xs b.1)

  module _ (half : leap fine f greater halved ≡ true) where
    pub shifting_leads : Leads fine f at_free operator_tokens shifting
    shifting_leads = either_leads (others_lead (s.ShiftLeft ∷ []) refl)
        (made_leads (seq_leads (the_sign fine f halved s.Greater half) (the_sign fine halved at_free s.Greater refl)) operator_tokens _ (λ x. refl))

    pub assigning_leads : Leads fine f at_free operator_tokens assigning
    assigning_leads = either_leads (others_lead assignment_signs refl)
        (made_leads (seq_leads (the_sign fine f halved s.Greater half) (the_sign fine halved at_free s.GreaterEqual refl)) operator_tokens _ (λ x. refl))

-- ---- what a type, arguments and parameters are made of

-- a type behind `new` or `const`
pub made_types : (n : ℕ) → Leads fine at_made behind_made type_tokens (within n).nodes.expr_nodes.type
unfolding within nodes_over
made_types zero = none_leads fine at_made behind_made type_tokens refl
made_types (suc n) = inner_types fine at_made behind_made refl refl refl refl refl refl refl refl (suc n)

abbrev piece_tokens : PieceKind → Place × List ℕ → List Token
piece_tokens kind x = piece_token kind x.0 x.1 ∷ []

module _ {from args dots end : State → Bool} (E : Entry from args dots end) where
  pub freely : {A : Type 0} {u : A → List Token} {p : Phrase A} {f : State → Bool} → Leads fine f at_free u p → Leads fine f end u p
  freely P = raised end (included at_free end E.free_end) P

  free_token : (x : Token) → kind_sort x.kind ≡ other → (z : State) → from z ≡ true → Through at_free z (x ∷ [])
  free_token x is z at = one_through from at_free x (ap (λ (k : Sort). goes from k at_free) is ∙ leap_goes from at_free other E.other_opens) z at

  -- ---- primaries

  abbrev ended_token : State → Token → Type 0
  ended_token z x = Through end z (x ∷ [])

  at_last : (x : Token) → kind_sort x.kind ≡ other → (z : State) → from z ≡ true → ended_token z x
  at_last x is z at = let b = free_token x is z at in (b.0, included at_free end E.free_end b.0 b.1, b.2)

  atom_ends : (x : Atom) (z : State) → from z ≡ true → Through end z (atom_tokens x)
  atom_ends (a.This place) z at = at_last (word_at place w.This) refl z at
  atom_ends (a.Null place) z at = at_last (word_at place w.Null) refl z at
  atom_ends (a.True place) z at = at_last (word_at place w.True) refl z at
  atom_ends (a.False place) z at = at_last (word_at place w.False) refl z at
  atom_ends (a.Integer place digits) z at = at_last (record { kind = tk.Integer; place = place; lexeme = digits }) refl z at
  atom_ends (a.Name x) z at = name_through telling from end
      (and_both (names telling from end) (under from fine && under end fine) E.named_end).0 x z at

  whole_leads : Leads fine from at_free (piece_tokens pk.Whole) (piece pk.Whole)
  whole_leads = leaf_leads fine from at_free (piece_tokens pk.Whole) E.low refl (λ x z at. free_token (piece_token pk.Whole x.0 x.1) refl z at)

  head_leads : Leads fine from at_free head_tokens head
  head_leads = leaf_leads fine from at_free head_tokens E.low refl (λ x z at. free_token (piece_token (pk.Head x.0) x.1.0 x.1.1) refl z at)

  module _ {expr : Phrase Expr} (X : Agrees expr_tokens expr) where
    one_string_leads : Leads fine from at_free pieces_tokens (one_string expr)
    unfolding pieces_tokens
    one_string_leads = either_leads (made_leads whole_leads pieces_tokens _ (λ x. refl))
        (made_leads (seq_leads (seq_leads head_leads (absorbs fine at_free refl X))
        (absorbs fine at_free refl (seq_agrees (many_agrees (seq_agrees (leaf_agrees (piece_tokens pk.Middle) (λ x. (_, refl))) X))
        (leaf_agrees (piece_tokens pk.Tail) (λ x. (_, refl))))))
        pieces_tokens _ (λ x. simp said_middles))

    strings_lead : Leads fine from at_free pieces_tokens (strings expr)
    strings_lead = made_leads (seq_leads one_string_leads (absorbs fine at_free refl (many_agrees (one_string_agrees X)))) pieces_tokens join_pieces
        (λ x. said_append x.0 (joined x.1) ∙ ap (λ l. pieces_tokens x.0 ++ l) (said_joined x.1))

  made_token : (x : Creation) (z : State) → from z ≡ true → Through at_made z (creation_tokens x)
  made_token (c.New place) z at = one_through from at_made (word_at place w.New) (leap_goes from at_made other E.new_makes) z at
  made_token (c.Const place) z at = one_through from at_made (word_at place w.Const) (leap_goes from at_made constant E.makes) z at

  module _ {here : ExprNodes} (H : ExprsAgree here) (C : Parenthesized arguments_tokens here.arguments) where
    pub primary_leads : Leads fine at_made behind_made type_tokens here.type → Leads fine from end primary_tokens here.literal →
        Leads fine from end primary_tokens (primary_of here)
    unfolding primary_tokens
    primary_leads T L = either_leads (made_leads (leaf_leads fine from end atom_tokens E.low E.high atom_ends) primary_tokens t.atom (λ x. refl))
        (either_leads (freely (made_leads (strings_lead H.expr) primary_tokens t.text (λ x. refl)))
        (either_leads (freely (made_leads (seq_leads (the_word fine from at_free w.Super E.other_opens) (absorbs fine at_free refl (selector_agrees H)))
        primary_tokens _ (λ x. refl)))
        (either_leads (freely (made_leads (seq_leads (leaf_leads fine from at_made creation_tokens E.low refl made_token)
        (such_leads (seq_leads T (seq_leads (opt_leads (dot_name_leads fine behind_made at_made behind_made refl refl) (λ z h. h))
        (parenthesized_leads fine behind_made at_free C refl))) type_takes_names)) primary_tokens _ (λ x. refl)))
        (either_leads (freely (made_leads
        (seq_leads (the_sign fine from at_free s.LeftParenthesis E.left_opens)
        (absorbs fine at_free refl (seq_agrees H.expr (sign_agrees s.RightParenthesis)))) primary_tokens _ (λ x. refl)))
        L))))

    -- ---- selectors

    pub member_leads : Leads fine end end selector_tokens member
    unfolding selector_tokens
    member_leads = made_leads (seq_leads (the_sign fine end dots s.Dot E.dotted_end) (an_identifier fine dots end E.member_end)) selector_tokens _ (λ x. refl)

    pub bracketed_leads : Leads fine end end selector_tokens (bracketed_of here)
    unfolding selector_tokens
    bracketed_leads = either_leads
        (freely (made_leads (seq_leads (the_sign fine end at_free s.LeftBracket E.freed)
        (absorbs fine at_free refl (seq_agrees H.expr (sign_agrees s.RightBracket)))) selector_tokens _ (λ x. refl)))
        (made_leads (parenthesized_leads fine end end C E.call_end) selector_tokens t.call (λ x. refl))

  -- ---- literals of lists, maps and functions

  angles_lead : {q : Phrase TypeList} → Agrees type_list_tokens q → Leads fine from args type_arguments_tokens (type_arguments q)
  angles_lead Q = made_leads (opt_leads
      (raised args (included at_free args E.args_free)
      (seq_leads (the_sign fine from at_free s.Less E.less_opens) (absorbs fine at_free refl (seq_agrees Q (sign_agrees s.Greater)))))
      (included from args E.args_from)) type_arguments_tokens in_angles said_angles

  module _ {inner : ExprNodes} (I : ExprsAgree inner) where
    list_leads : Leads fine from at_free primary_tokens (list_over inner)
    unfolding primary_tokens
    list_leads = made_leads (seq_leads (angles_lead (one_type_agrees I.type)) (seq_leads (the_sign fine args at_free s.LeftBracket E.args_other)
        (absorbs fine at_free refl (seq_agrees
        (perhaps_agrees (t.no_items, None) refl (seq_agrees (plain_list_agrees I.expr) (opt_agrees (sign_agrees s.Comma)))) (sign_agrees s.RightBracket)))))
        primary_tokens _ (λ x. simp (said_sign, append_assoc))

    entries_agree : Agrees entries_tokens (entries_over inner)
    unfolding entries_tokens
    entries_agree = made_agrees entries_tokens to_entries (commas_agree (seq_agrees I.expr (seq_agrees (sign_agrees s.Colon) I.expr)))
        (λ x fits. simp (said_entries, append_assoc))

    map_leads : Leads fine from at_free primary_tokens (map_over inner)
    unfolding primary_tokens
    map_leads = made_leads (seq_leads (angles_lead (two_types_agree I.type)) (seq_leads (the_sign fine args at_free s.LeftBrace E.args_body)
        (absorbs fine at_free refl (seq_agrees (perhaps_agrees (t.no_entries, None) refl (seq_agrees entries_agree (opt_agrees (sign_agrees s.Comma))))
        (sign_agrees s.RightBrace)))))
        primary_tokens _ (λ x. simp (said_sign, append_assoc))

    body_agrees : Agrees body_tokens (literal_body_over inner)
    unfolding body_tokens
    body_agrees = either_agrees (made_agrees body_tokens _ (seq_agrees (sign_agrees s.Arrow) I.expr) (λ x fits. simp append-nil))
        (made_agrees body_tokens t.block_body I.block (λ x fits. refl))

    function_leads : Parenthesized parameters_tokens inner.parameters → Leads fine from at_free primary_tokens (function_literal_over inner)
    unfolding primary_tokens
    function_leads P = made_leads (seq_leads (parenthesized_leads fine from at_free P E.parameters_open) (absorbs fine at_free refl body_agrees)) primary_tokens
        _ (λ x. refl)

    pub literal_leads : Parenthesized parameters_tokens inner.parameters → Leads fine from end primary_tokens (literal_over inner)
    literal_leads P = freely (either_leads list_leads (either_leads map_leads (function_leads P)))

  -- `super` alone
  pub bare_leads : Leads fine from end operand_tokens (made operand_tokens (λ x. t.primary (t.bare_super x)) (word w.Super))
  unfolding operand_tokens primary_tokens
  bare_leads = freely (made_leads (the_word fine from at_free w.Super E.other_opens) operand_tokens _ (λ x. refl))
