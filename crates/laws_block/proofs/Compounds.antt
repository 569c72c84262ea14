-- The law of the statements that hold statements (ECMA-408, 17 Statements), over those of each kind.
use Rattle.std.proofs.Common.{ℕ, suc, inl, inr, List, refl}
use Rattle.dart_token.specs.declared.token.Token.{Token}
use Rattle.dart_tree.specs.Tree as t
use Rattle.dart_tree.specs.Tree.{Stmt, Loop}
use Rattle.dart_tree.specs.Tokens.{stmt_tokens}
use Rattle.grammar_laws.proofs.Codes.{apart, inside}
use Rattle.dart_syntax.specs.Phrases.{Phrase, ◌<|>◌, made}
use Rattle.dart_syntax.specs.Statements as p
use Rattle.dart_syntax.specs.Statements.{within}
use Rattle.syntax_readers.specs.Statements as i
use Rattle.syntax_readers.specs.Statements.{stage, closed, compound_first}
use Rattle.laws_block.specs.Begun.{level_of, still_of, ReadsBegun}
use Rattle.laws_block.specs.Statements.{HoldersReadAt, TryReadAt, ForReadAt, SwitchReadAt}
use Rattle.laws_block.proofs.Combined.{by_first_begun, restated_begun}

module _ (n : ℕ) (F : ForReadAt n) (H : HoldersReadAt n) (W : SwitchReadAt n) (T : TryReadAt n) where
  abbrev loop : Phrase Loop → Phrase Stmt
  loop q = made stmt_tokens t.loop q

  abbrev Chain : Phrase Stmt
  Chain = p.if_over (within n) <|> (loop (p.for_over (within n)) <|> (loop (p.while_over (within n)) <|> (loop (p.do_over (within n)) <|> (p.switch_over (within n) <|> p.try_over (within n)))))

  forth : (x : Stmt) → Chain.Fits x → (p.compound_over (within n)).Fits x
  forth x (inl f) = inl f
  forth x (inr (inl (l, f, e))) = inr (inl (l, inl f, e))
  forth x (inr (inr (inl (l, f, e)))) = inr (inl (l, inr (inl f), e))
  forth x (inr (inr (inr (inl (l, f, e))))) = inr (inl (l, inr (inr f), e))
  forth x (inr (inr (inr (inr (inl f))))) = inr (inr (inl f))
  forth x (inr (inr (inr (inr (inr f))))) = inr (inr (inr f))

  back : (x : Stmt) → (p.compound_over (within n)).Fits x → Chain.Fits x
  back x (inl f) = inl f
  back x (inr (inl (l, inl f, e))) = inr (inl (l, f, e))
  back x (inr (inl (l, inr (inl f), e))) = inr (inr (inl (l, f, e)))
  back x (inr (inl (l, inr (inr f), e))) = inr (inr (inr (inl (l, f, e))))
  back x (inr (inr (inl f))) = inr (inr (inr (inr (inl f))))
  back x (inr (inr (inr f))) = inr (inr (inr (inr (inr f))))

  out : (ts : List Token) → Chain.front ts → (p.compound_over (within n)).front ts
  out ts (inl f) = inl f
  out ts (inr (inl f)) = inr (inl (inl f))
  out ts (inr (inr (inl f))) = inr (inl (inr (inl f)))
  out ts (inr (inr (inr (inl f)))) = inr (inl (inr (inr f)))
  out ts (inr (inr (inr (inr (inl f))))) = inr (inr (inl f))
  out ts (inr (inr (inr (inr (inr f))))) = inr (inr (inr f))

  into : (ts : List Token) → (p.compound_over (within n)).front ts → Chain.front ts
  into ts (inl f) = inl f
  into ts (inr (inl (inl f))) = inr (inl f)
  into ts (inr (inl (inr (inl f)))) = inr (inr (inl f))
  into ts (inr (inl (inr (inr f)))) = inr (inr (inr (inl f)))
  into ts (inr (inr (inl f))) = inr (inr (inr (inr (inl f))))
  into ts (inr (inr (inr f))) = inr (inr (inr (inr (inr f))))

  pub compound_begun : ReadsBegun (i.compound_over n (stage n)) (p.compound_over (within n)) compound_first (level_of (suc n)) (still_of (suc n))
  unfolding i.compound_over
  compound_begun = restated_begun (by_first_begun H.choice (by_first_begun F (by_first_begun H.while_loop (by_first_begun H.do_loop (by_first_begun W T (apart refl)) (apart refl)) (apart refl)) (apart refl)) (apart refl)) forth back out into (inside refl)
