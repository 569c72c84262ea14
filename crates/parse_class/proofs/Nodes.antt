-- What is a node over what has one node less, and types by the readers of one depth.
use Rattle.std.proofs.Common.{◌≡◌, ℕ, suc, ◌-◌, ◌<◌, List, Result, Err, refl, sym, subst, arith}
use Rattle.dart_token.specs.declared.token.Token.{Token}
use Rattle.dart_tree.specs.Types.{TypeNode}
use Rattle.grammar_laws.specs.Readers.{Reader}
use Rattle.syntax_readers.specs.Declarations.{node}
use Rattle.syntax_readers.specs.Types.{type_reader}
use Rattle.token_cursor.specs.declared.error.ReadFault.{ReadFault}
use Rattle.token_cursor.specs.Gives.{GivesHigh}
use Rattle.parse_nest.specs.Stages.{exprs_at}
use Rattle.parse_parameter.proofs.Stages.{type_at}

pub node_never : {A : Type 0} (over : ℕ → Reader Token A) (depth : ℕ) (ts : List Token) → depth ≡ 0 → node over depth ts ≡ Err ts
node_never over depth ts none = subst (λ (d : ℕ). node over d ts ≡ Err ts) (sym none) refl

pub node_is : {A : Type 0} (over : ℕ → Reader Token A) (depth : ℕ) (ts : List Token) → 0 < depth → node over depth ts ≡ over (depth - 1) ts
node_is over depth ts some =
    let d : suc (depth - 1) ≡ depth = omega arith in
    subst (λ (m : ℕ). node over m ts ≡ over (depth - 1) ts) d refl

-- what is read with this reader of types is read with that of the same depth
pub by_type : {X A : Type 0} (view : X → A) (height : A → ℕ) (p : Reader Token TypeNode → Reader Token A) (n : ℕ) (ts new : List Token)
    (result : Result (X × ℕ) ReadFault) →
    GivesHigh view height n (p (type_reader n) ts) result new → GivesHigh view height n (p (exprs_at n).type ts) result new
by_type view height p n ts new result h = subst (λ (type : Reader Token TypeNode). GivesHigh view height n (p type ts) result new) (sym (type_at n)) h
