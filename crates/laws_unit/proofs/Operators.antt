-- The law of operators' names (ECMA-408, 10.1.1 Operators).
use Rattle.std.proofs.Common.{◌≡◌, ℕ, Bool, true, false, if◌then◌else◌, List, [], ◌∷◌, ◌++◌, Option, None, Some, inl, inr, refl, ap, ◌∙◌}
use Rattle.dart_base.specs.declared.place.Place.{Place}
use Rattle.dart_token.specs.declared.token.Token.{Token}
use Rattle.dart_token.specs.declared.sign.Sign.{Sign}
use Rattle.dart_token.specs.declared.sign.Sign.TheVariants as s
use Rattle.dart_tree.specs.declared.declaration.OperatorName.{OperatorName}
use Rattle.dart_tree.specs.declared.declaration.OperatorName.TheVariants as o
use Rattle.dart_tree.specs.UnitTokens.{operator_name_tokens}
use Rattle.grammar_laws.specs.Codes.{nowhere}
use Rattle.grammar_laws.specs.Readers.{Reader, mapped, both, option, by_first, starts}
use Rattle.grammar_laws.specs.Fronts.{Front, Either, EitherFit}
use Rattle.grammar_laws.specs.Laws.{Laws}
use Rattle.grammar_laws.proofs.Codes.{apart, apart_none, inside, within_self, within_none}
use Rattle.grammar_laws.proofs.Restated.{made_laws, nothing_laws, restated, reread, wider}
use Rattle.grammar_laws.proofs.Combined.{both_laws, both_any_laws}
use Rattle.grammar_laws.proofs.Followed.{option_plain_laws}
use Rattle.grammar_laws.proofs.Chosen.{by_first_laws}
use Rattle.dart_syntax.specs.Phrases.{Phrase, ◌~◌, made, opt}
use Rattle.dart_syntax.specs.Leaves as l
use Rattle.dart_syntax.specs.Statements.{StmtNodes}
use Rattle.dart_syntax.specs.Declarations as c
use Rattle.token_codes.specs.Codes.{class_of, these, sign_codes}
use Rattle.token_codes.specs.Leaves.{sign}
use Rattle.token_codes.specs.Reads.{Reads}
use Rattle.token_codes.proofs.Leaves.{sign_reads, Distinct}
use Rattle.syntax_readers.specs.Declarations as r
use Rattle.syntax_readers.specs.Declarations.{shift_or_greater, index_or_assign}
use Rattle.laws_unit.specs.Statements.{operator_first, behind_operator}

-- ---- operators of one sign

module _ (inner : StmtNodes) where
  signs_laws : (signs : List Sign) → Distinct signs → Laws class_of (r.operator_signs_of signs) operator_name_tokens (c.signs_of inner signs).Fits (c.signs_of inner signs).front (sign_codes signs) nowhere false
  unfolding r.operator_signs_of
  signs_laws [] d = nothing_laws operator_name_tokens [] nowhere false
  signs_laws (x ∷ xs) d = by_first_laws (made_laws (sign_reads x) (λ place. o.Sign place x) operator_name_tokens nowhere (λ place fits. refl) (λ place fits. within_none [])) (signs_laws xs d.1) d.0

  -- all but `>`
  abbrev others : List Sign
  others = s.Plus ∷ s.Minus ∷ s.Star ∷ s.Slash ∷ s.TildeSlash ∷ s.Percent ∷ s.Less ∷ s.LessEqual ∷ s.GreaterEqual ∷ s.EqualEqual ∷ s.ShiftLeft ∷ s.Ampersand ∷ s.Bar ∷ s.Caret ∷ s.Tilde ∷ []

  abbrev Others : Phrase OperatorName
  Others = c.signs_of inner others

  abbrev after : OperatorName → List ℕ
  after x = behind_operator

  others_laws : Laws class_of (r.operator_signs_of others) operator_name_tokens Others.Fits Others.front (sign_codes others) after false
  others_laws = wider (signs_laws others (apart refl, (apart refl, (apart refl, (apart refl, (apart refl, (apart refl, (apart refl, (apart refl, (apart refl, (apart refl, (apart refl, (apart refl, (apart refl, (apart refl, (apart refl, tt)))))))))))))))) (within_self (sign_codes others)) (λ x fits. within_none behind_operator)

  -- ---- `>` or `> >`, and `[ ]` or `[ ] =`

  abbrev Shifts : Phrase OperatorName
  Shifts = made operator_name_tokens shift_or_greater (l.sign s.Greater ~ opt (l.sign s.Greater))

  said_shift : (x : Place × Option Place) → operator_name_tokens (shift_or_greater x) ≡ (l.sign s.Greater ~ opt (l.sign s.Greater)).spelling x
  said_shift (first, None) = refl
  said_shift (first, Some second) = refl

  abbrev shift_reader : Reader Token OperatorName
  shift_reader = mapped shift_or_greater (both (sign s.Greater) (option class_of (these s.Greater) (sign s.Greater)))

  shift_laws : Reads shift_reader Shifts (these s.Greater) after false
  shift_laws = made_laws (both_any_laws (sign_reads s.Greater) (option_plain_laws (sign_reads s.Greater) {codes = these s.Greater} (within_self (these s.Greater)) (λ x fits. within_none (these s.Greater))) (λ x fits. apart_none (these s.Greater))) shift_or_greater operator_name_tokens after (λ x fits. said_shift x) (λ x fits. inside refl)

  abbrev Indexes : Phrase OperatorName
  Indexes = made operator_name_tokens index_or_assign ((l.sign s.LeftBracket ~ l.sign s.RightBracket) ~ opt (l.sign s.Assign))

  said_index : (x : (Place × Place) × Option Place) → operator_name_tokens (index_or_assign x) ≡ ((l.sign s.LeftBracket ~ l.sign s.RightBracket) ~ opt (l.sign s.Assign)).spelling x
  said_index ((opening, closing), None) = refl
  said_index ((opening, closing), Some equals) = refl

  abbrev index_reader : Reader Token OperatorName
  index_reader = mapped index_or_assign (both (both (sign s.LeftBracket) (sign s.RightBracket)) (option class_of (these s.Assign) (sign s.Assign)))

  index_laws : Reads index_reader Indexes (these s.LeftBracket) after false
  index_laws = made_laws (both_any_laws (both_laws (sign_reads s.LeftBracket) (sign_reads s.RightBracket) (λ x fits. apart_none (these s.RightBracket))) (option_plain_laws (sign_reads s.Assign) {codes = these s.Assign} (within_self (these s.Assign)) (λ x fits. within_none (these s.Assign))) (λ x fits. apart_none (these s.Assign))) index_or_assign operator_name_tokens after (λ x fits. said_index x) (λ x fits. inside refl)

  -- ---- all of them

  abbrev Whole : Phrase OperatorName
  Whole = c.operator_name_over inner

  abbrev Parted : OperatorName → Type 0
  Parted = EitherFit Shifts.Fits (EitherFit Indexes.Fits Others.Fits)

  abbrev parted_front : Front Token
  parted_front = Either Shifts.front (Either Indexes.front Others.front)

  forth : (x : OperatorName) → Parted x → Whole.Fits x
  forth x (inl ((first, None), fits, is)) = inl (inr (inr (inr (inr (inr (inr (inr (inl (first, tt, is)))))))))
  forth x (inl ((first, Some second), fits, is)) = inr (inl ((first, second), (tt, tt), is))
  forth x (inr (inl (((opening, closing), None), fits, is))) = inr (inr (inl ((opening, closing), (tt, tt), is)))
  forth x (inr (inl (((opening, closing), Some equals), fits, is))) = inr (inr (inr ((opening, (closing, equals)), (tt, (tt, tt)), is)))
  forth x (inr (inr (inl f))) = inl (inl f)
  forth x (inr (inr (inr (inl f)))) = inl (inr (inl f))
  forth x (inr (inr (inr (inr (inl f))))) = inl (inr (inr (inl f)))
  forth x (inr (inr (inr (inr (inr (inl f)))))) = inl (inr (inr (inr (inl f))))
  forth x (inr (inr (inr (inr (inr (inr (inl f))))))) = inl (inr (inr (inr (inr (inl f)))))
  forth x (inr (inr (inr (inr (inr (inr (inr (inl f)))))))) = inl (inr (inr (inr (inr (inr (inl f))))))
  forth x (inr (inr (inr (inr (inr (inr (inr (inr (inl f))))))))) = inl (inr (inr (inr (inr (inr (inr (inl f)))))))
  forth x (inr (inr (inr (inr (inr (inr (inr (inr (inr f))))))))) = inl (inr (inr (inr (inr (inr (inr (inr (inr f))))))))

  back : (x : OperatorName) → Whole.Fits x → Parted x
  back x (inl (inl f)) = inr (inr (inl f))
  back x (inl (inr (inl f))) = inr (inr (inr (inl f)))
  back x (inl (inr (inr (inl f)))) = inr (inr (inr (inr (inl f))))
  back x (inl (inr (inr (inr (inl f))))) = inr (inr (inr (inr (inr (inl f)))))
  back x (inl (inr (inr (inr (inr (inl f)))))) = inr (inr (inr (inr (inr (inr (inl f))))))
  back x (inl (inr (inr (inr (inr (inr (inl f))))))) = inr (inr (inr (inr (inr (inr (inr (inl f)))))))
  back x (inl (inr (inr (inr (inr (inr (inr (inl f)))))))) = inr (inr (inr (inr (inr (inr (inr (inr (inl f))))))))
  back x (inl (inr (inr (inr (inr (inr (inr (inr (inl (first, fits, is)))))))))) = inl ((first, None), (tt, tt), is)
  back x (inl (inr (inr (inr (inr (inr (inr (inr (inr f))))))))) = inr (inr (inr (inr (inr (inr (inr (inr (inr f))))))))
  back x (inr (inl ((first, second), fits, is))) = inl ((first, Some second), (tt, tt), is)
  back x (inr (inr (inl ((opening, closing), fits, is)))) = inr (inl (((opening, closing), None), ((tt, tt), tt), is))
  back x (inr (inr (inr ((opening, (closing, equals)), fits, is)))) = inr (inl (((opening, closing), Some equals), ((tt, tt), tt), is))

  -- what stands behind `[ ]`
  abbrev bracket_pair : Phrase (Place × Place)
  bracket_pair = l.sign s.LeftBracket ~ l.sign s.RightBracket

  out : (ts : List Token) → parted_front ts → Whole.front ts
  out ts (inl (inl f)) = inr (inl (inl f))
  out ts (inl (inr f)) = inr (inl (inr f))
  out ts (inr (inl (inl f))) = inr (inr (inl f))
  out ts (inr (inl (inr ((opening, closing), more, fits, on, e, f)))) = inr (inr (inr (inr (opening, (l.sign s.RightBracket).spelling closing ++ more, tt, refl, e, inr (closing, more, tt, refl, refl, f)))))
  out ts (inr (inr (inl f))) = inl (inl f)
  out ts (inr (inr (inr (inl f)))) = inl (inr (inl f))
  out ts (inr (inr (inr (inr (inl f))))) = inl (inr (inr (inl f)))
  out ts (inr (inr (inr (inr (inr (inl f)))))) = inl (inr (inr (inr (inl f))))
  out ts (inr (inr (inr (inr (inr (inr (inl f))))))) = inl (inr (inr (inr (inr (inl f)))))
  out ts (inr (inr (inr (inr (inr (inr (inr (inl f)))))))) = inl (inr (inr (inr (inr (inr (inl f))))))
  out ts (inr (inr (inr (inr (inr (inr (inr (inr (inl f))))))))) = inl (inr (inr (inr (inr (inr (inr (inl f)))))))
  out ts (inr (inr (inr (inr (inr (inr (inr (inr (inr f))))))))) = inl (inr (inr (inr (inr (inr (inr (inr (inr f))))))))

  into : (ts : List Token) → Whole.front ts → parted_front ts
  into ts (inl (inl f)) = inr (inr (inl f))
  into ts (inl (inr (inl f))) = inr (inr (inr (inl f)))
  into ts (inl (inr (inr (inl f)))) = inr (inr (inr (inr (inl f))))
  into ts (inl (inr (inr (inr (inl f))))) = inr (inr (inr (inr (inr (inl f)))))
  into ts (inl (inr (inr (inr (inr (inl f)))))) = inr (inr (inr (inr (inr (inr (inl f))))))
  into ts (inl (inr (inr (inr (inr (inr (inl f))))))) = inr (inr (inr (inr (inr (inr (inr (inl f)))))))
  into ts (inl (inr (inr (inr (inr (inr (inr (inl f)))))))) = inr (inr (inr (inr (inr (inr (inr (inr (inl f))))))))
  into ts (inl (inr (inr (inr (inr (inr (inr (inr (inl f))))))))) = inl (inl f)
  into ts (inl (inr (inr (inr (inr (inr (inr (inr (inr f))))))))) = inr (inr (inr (inr (inr (inr (inr (inr (inr f))))))))
  into ts (inr (inl (inl f))) = inl (inl f)
  into ts (inr (inl (inr f))) = inl (inr f)
  into ts (inr (inr (inl f))) = inr (inl (inl f))
  into ts (inr (inr (inr (inl f)))) = inr (inl (inl (inl f)))
  into ts (inr (inr (inr (inr (opening, more, fits, on, e, inl f))))) = inr (inl (inl (inr (opening, more, tt, refl, e, f))))
  into ts (inr (inr (inr (inr (opening, more, fits, on, e, inr (closing, rest, at, go, is, f)))))) = inr (inl (inr ((opening, closing), rest, (tt, tt), refl, e ∙ ap (λ (m : List Token). (l.sign s.LeftBracket).spelling opening ++ m) is, f)))

  -- ---- the reader tries `>` among the others again, where it never comes

  abbrev chosen : Reader Token OperatorName
  chosen = by_first class_of (these s.Greater) shift_reader (by_first class_of (these s.LeftBracket) index_reader (r.operator_signs_of others))

  behind_greater : (ts : List Token) → starts class_of (these s.Greater) ts ≡ false → r.operator_signs_of c.operator_signs ts ≡ r.operator_signs_of others ts
  unfolding r.operator_signs_of
  behind_greater [] off = refl
  behind_greater (t ∷ ts) off = rw off refl

  abbrev pick : Bool → Reader Token OperatorName → List Token → Bool → Reader Token OperatorName
  pick g rest ts b u = if g then shift_reader u else (if b then index_reader u else rest u)

  same : (ts : List Token) (g : Bool) (b : Bool) → starts class_of (these s.Greater) ts ≡ g → pick g (r.operator_signs_of c.operator_signs) ts b ts ≡ pick g (r.operator_signs_of others) ts b ts
  same ts true b h = refl
  same ts false true h = refl
  same ts false false h = behind_greater ts h

  pub operator_name_laws : Reads r.operator_name Whole operator_first (λ x. behind_operator) false
  unfolding r.operator_name
  operator_name_laws = reread (restated (by_first_laws shift_laws (by_first_laws index_laws others_laws (apart refl)) (apart refl)) forth back out into (inside refl) (λ x fits. within_self behind_operator) (λ e. e))
      (λ ts. same ts (starts class_of (these s.Greater) ts) (starts class_of (these s.LeftBracket) ts) refl)
