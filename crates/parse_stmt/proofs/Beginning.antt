-- Statements by what begins them.
use Rattle.std.proofs.Common.{◌≡◌, ℕ, Bool, true, false, List, Ok, refl, ap, ◌∙◌}
use Rattle.dart_token.specs.declared.token.Token.{Token}
use Rattle.dart_token.specs.declared.sign.Sign.TheVariants as s
use Rattle.dart_token.specs.declared.word.Word.{Word}
use Rattle.dart_token.specs.declared.word.Word.TheVariants as w
use Rattle.dart_tree.specs.Tree as t
use Rattle.grammar_laws.specs.Readers.{Outcome, and_then, mapped, starts, tried}
use Rattle.syntax_readers.specs.Statements as spec
use Rattle.token_codes.specs.Codes.{class_of, these, this_word}
use Rattle.parse_nest.specs.Stages.{nodes_at, closed_at, block_at, stmt_at}
use Rattle.parse_stmt.specs.Views.{for_at, try_at, compound_at}
use Rattle.parse_stmt.proofs.Stages.{for_is, try_is}

-- ---- those that are nodes

module _ (n : ℕ) (ts : List Token) where
  abbrev comes : Word → Bool
  comes which = starts class_of (this_word which) ts

  abbrev pub compound : Outcome Token t.Stmt
  compound = spec.compound_over n (spec.stage n) ts

  pub if_comes : comes w.If ≡ true → compound ≡ spec.if_over (closed_at n) (stmt_at n) ts
  unfolding spec.compound_over
  if_comes on = rw on refl

  for_comes_over : comes w.If ≡ false → comes w.For ≡ true → compound ≡ mapped t.loop (spec.for_over (nodes_at n) (stmt_at n)) ts
  unfolding spec.compound_over
  for_comes_over a on = rw (a, on) refl

  pub for_comes : comes w.If ≡ false → comes w.For ≡ true → compound ≡ mapped t.loop (for_at n) ts
  for_comes a on = for_comes_over a on ∙ ap (λ (o : Outcome Token t.Loop). and_then o (λ x rest. Ok (t.loop x, rest))) (for_is n ts)

  pub while_comes : comes w.If ≡ false → comes w.For ≡ false → comes w.While ≡ true → compound ≡ mapped t.loop (spec.while_over (closed_at n) (stmt_at n)) ts
  unfolding spec.compound_over
  while_comes a b on = rw (a, b, on) refl

  pub do_comes : comes w.If ≡ false → comes w.For ≡ false → comes w.While ≡ false → comes w.Do ≡ true → compound ≡ mapped t.loop (spec.do_over n (closed_at n) (stmt_at n)) ts
  unfolding spec.compound_over
  do_comes a b c on = rw (a, b, c, on) refl

  pub switch_comes : comes w.If ≡ false → comes w.For ≡ false → comes w.While ≡ false → comes w.Do ≡ false → comes w.Switch ≡ true → compound ≡ spec.switch_over n (closed_at n) (stmt_at n) ts
  unfolding spec.compound_over
  switch_comes a b c d on = rw (a, b, c, d, on) refl

  try_comes_over : comes w.If ≡ false → comes w.For ≡ false → comes w.While ≡ false → comes w.Do ≡ false → comes w.Switch ≡ false → compound ≡ spec.try_over (nodes_at n) ts
  unfolding spec.compound_over
  try_comes_over a b c d e = rw (a, b, c, d, e) refl

  pub try_comes : comes w.If ≡ false → comes w.For ≡ false → comes w.While ≡ false → comes w.Do ≡ false → comes w.Switch ≡ false → compound ≡ try_at n ts
  try_comes a b c d e = try_comes_over a b c d e ∙ try_is n ts

-- ---- those that are no declarations

module _ (n : ℕ) (ts : List Token) where
  abbrev first : List ℕ → Bool
  first codes = starts class_of codes ts

  abbrev pub other : Outcome Token t.Stmt
  other = spec.other_stmt (nodes_at n) ts

  pub block_comes : first (these s.LeftBrace) ≡ true → other ≡ mapped t.block_stmt (block_at n) ts
  unfolding spec.other_stmt
  block_comes on = rw on refl

  pub compound_comes : first (these s.LeftBrace) ≡ false → first spec.compound_first ≡ true → other ≡ compound_at n ts
  unfolding spec.other_stmt
  compound_comes a on = rw (a, on) refl

  pub jump_comes : first (these s.LeftBrace) ≡ false → first spec.compound_first ≡ false → first spec.jump_first ≡ true → other ≡ spec.jump (closed_at n) ts
  unfolding spec.other_stmt
  jump_comes a b on = rw (a, b, on) refl

  pub expression_comes : first (these s.LeftBrace) ≡ false → first spec.compound_first ≡ false → first spec.jump_first ≡ false → other ≡ spec.expression_stmt (closed_at n) ts
  unfolding spec.other_stmt
  expression_comes a b c = rw (a, b, c) refl

-- ---- those without labels

module _ (n : ℕ) (ts : List Token) where
  abbrev pub bare : Outcome Token t.Stmt
  bare = spec.unlabelled (nodes_at n) ts

  pub no_declaration : starts class_of spec.declaration_first ts ≡ false → bare ≡ spec.other_stmt (nodes_at n) ts
  unfolding spec.unlabelled
  no_declaration off = rw off refl

  pub call_comes : starts class_of spec.declaration_first ts ≡ true → spec.calls ts ≡ true → bare ≡ tried (spec.other_stmt (nodes_at n)) (spec.declaration (nodes_at n)) ts
  unfolding spec.unlabelled
  call_comes on calls = rw (on, calls) refl

  pub declaration_comes : starts class_of spec.declaration_first ts ≡ true → spec.calls ts ≡ false → bare ≡ tried (spec.declaration (nodes_at n)) (spec.other_stmt (nodes_at n)) ts
  unfolding spec.unlabelled
  declaration_comes on off = rw (on, off) refl
