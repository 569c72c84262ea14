-- A statement behind its labels.
use Rattle.std.proofs.Common.{◌≡◌, ℕ, List, [], ◌∷◌, Ok, Err, refl, ap, ◌∙◌}
use Rattle.dart_token.specs.declared.token.Token.{Token}
use Rattle.dart_tree.specs.declared.identifier.Label.{Label}
use Rattle.dart_tree.specs.Depth as height
use Rattle.dart_tree.specs.Tree as t
use Rattle.grammar_laws.specs.Readers.{Reader}
use Rattle.syntax_readers.specs.Combinators.{◌~◌, made₂, many_where, past_name}
use Rattle.syntax_readers.specs.Statements as spec
use Rattle.token_codes.specs.Leaves.{label}
use Rattle.parse_nest.specs.Stages.{nodes_at, stmt_at}
use Rattle.parse_stmt.proofs.Stages.{stmt_is}

-- ---- heights

behind_labels : (labels : List Label) (x : t.Stmt) → height.stmt_height (t.with_labels labels x) ≡ height.stmt_height x
unfolding height.stmt_height
behind_labels [] x = refl
behind_labels (l ∷ labels) x = behind_labels labels x

pub labelled_high : (made x : t.Stmt) (labels : List Label) → made ≡ t.with_labels labels x → height.stmt_height made ≡ height.stmt_height x
labelled_high made x labels is = ap height.stmt_height is ∙ behind_labels labels x

-- ---- one behind the other

module _ {A B X : Type 0} (f : A → B → X) (p : Reader Token A) (q : Reader Token B) (ts : List Token) where
  no_first : (end : List Token) → p ts ≡ Err end → made₂ f (p ~ q) ts ≡ Err end
  no_first end e = rw e refl

  no_second : (a : A) (mid end : List Token) → p ts ≡ Ok (a, mid) → q mid ≡ Err end → made₂ f (p ~ q) ts ≡ Err end
  no_second a mid end e stops = rw (e, stops) refl

  both_read : (a : A) (mid : List Token) (b : B) (end : List Token) → p ts ≡ Ok (a, mid) → q mid ≡ Ok (b, end) → made₂ f (p ~ q) ts ≡ Ok (f a b, end)
  both_read a mid b end e reads = rw (e, reads) refl

abbrev pub labels : Reader Token (List Label)
labels = many_where spec.label_comes label

abbrev pub bare : ℕ → Reader Token t.Stmt
bare n = past_name (spec.unlabelled (nodes_at n))

stmt_parts : (n : ℕ) (ts : List Token) → stmt_at n ts ≡ made₂ t.with_labels (labels ~ bare n) ts
unfolding spec.stmt_of
stmt_parts n ts = stmt_is n ts

module _ (n : ℕ) (ts : List Token) where
  pub no_labels : (end : List Token) → labels ts ≡ Err end → stmt_at n ts ≡ Err end
  no_labels end e = stmt_parts n ts ∙ no_first t.with_labels labels (bare n) ts end e

  module _ (found : List Label) (mid : List Token) where
    pub no_bare : (end : List Token) → labels ts ≡ Ok (found, mid) → bare n mid ≡ Err end → stmt_at n ts ≡ Err end
    no_bare end e stops = stmt_parts n ts ∙ no_second t.with_labels labels (bare n) ts found mid end e stops

    pub stmt_reads : (x : t.Stmt) (end : List Token) → labels ts ≡ Ok (found, mid) → bare n mid ≡ Ok (x, end) → stmt_at n ts ≡ Ok (t.with_labels found x, end)
    stmt_reads x end e reads = stmt_parts n ts ∙ both_read t.with_labels labels (bare n) ts found mid x end e reads
